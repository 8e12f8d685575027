-- Each step of the vault keeps what holds of it.
use Rattle.std.proofs.Common.{◌≡◌, inl, inr, ◌≤◌, ◌<◌, ◌+◌, ◌-◌, ◌*◌, ◌/◌, ◌%◌, ◌∙◌, ℕ, Bool, true, false, max, List, [], ◌∷◌, ◌++◌, length, drop, get_or, refl, sym, ap, subst, arith, length-append, length-drop, append_assoc}
use Rattle.std.specs.Prelude.{Contains}
use Rattle.std.proofs.Math.Nat.{mul-le-mul_left}
use Rattle.std.proofs.lemmas.Nat.{div-add-mod'}
use Rattle.std.proofs.lemmas.Bool.{cases_lt, both_ways}
use Rattle.std.proofs.lemmas.List.{drop-append-le, drop_at, get_or_append_left, get_or-drop}
use Rattle.history.specs.declared.writes.PageImage.{PageImage}
use Rattle.history.specs.Marks.{oldest_start}
use Rattle.history.specs.Writes.{pages_of}
use Rattle.history.specs.History.{History, now, captures}
use Rattle.skippy.specs.Mappings.{Mappings, end_of}
use Rattle.replay.specs.Opened.{forgotten}
use Rattle.race_model.specs.Desk.{captured, capacity_of}
use Rattle.race_model.specs.Vault.{Maplog, Vault, Batch, batch_end, listing, IsMaplogOf, AreSlotsOf, trim_to, enter_into, IsSlotOf, LeavesOthers, HoldsBatch}
use Rattle.race_model.specs.Fits.{MappingsFit, VaultFits, BatchFits}
use Rattle.race_model.specs.Machine.{MayLay, laid, lay_failed, MayEnter, entered, enter_failed, MayTrim, trimmed, trim_failed}
use Rattle.race_model.specs.Images.{HoldsCaptures}
use Rattle.race_model.proofs.Lists.{pages_of-append, pages_of-length, pages_of-drop, drop-to}
use Rattle.race_model.proofs.Grows.{contains_cons, contains_none}

-- numbers nearer than the capacity lie in different slots
apart : (a b c : ℕ) → a < b → b < a + c → a % c ≡ b % c → ⊥
apart a b c lt near same =
    let ea : a / c * c + a % c ≡ a = div-add-mod' a c in
    let eb : b / c * c + b % c ≡ b = div-add-mod' b c in
    elim (cases_lt (a / c) (b / c)) [
      | inl more ↦
          let up : c * (a / c + 1) ≤ c * (b / c) = mul-le-mul_left c (omega (arith, more)) in
          omega (arith, ea, eb, same, near, up)
      | inr less ↦
          let up : c * (b / c) ≤ c * (a / c) = mul-le-mul_left c less in
          omega (arith, ea, eb, same, lt, up)
    ]

pub trim_end : (mappings : Mappings) (low : ℕ) → low ≤ end_of mappings → end_of (trim_to mappings low) ≡ end_of mappings
trim_end mappings low le = omega (arith, le, length-drop (max mappings.low low - mappings.low) mappings.pages)

module _ (history : History) (floor : ℕ) where
  pub trim_fits : (mappings : Mappings) (low : ℕ) → MappingsFit history floor mappings → low ≤ end_of mappings → low ≤ oldest_start (now history).base.marks → MappingsFit history floor (trim_to mappings low)
  trim_fits mappings low is held needed =
      let more : ℕ = max mappings.low low - mappings.low in
      record {
        above = omega (arith, is.above);
        needed = omega (arith, is.needed, needed);
        later = is.later;
        same =
            sym (drop-to mappings.low more (max mappings.low low) (pages_of (captures history)) (omega arith))
            ∙ ap (drop more) is.same
            ∙ drop-append-le more mappings.pages is.later (omega (arith, held));
        room = omega (arith, is.room, length-drop more mappings.pages);
      }

  enter_fits : (mappings : Mappings) (batch : Batch) → MappingsFit history floor mappings → BatchFits history batch → batch.first ≡ end_of mappings → MappingsFit history floor (enter_into mappings batch)
  enter_fits mappings batch is fits first =
      let kept : Mappings = trim_to mappings batch.low in
      let held : batch.low ≤ end_of mappings = omega (arith, fits.above, first) in
      let trim : MappingsFit history floor kept = trim_fits mappings batch.low is held fits.low in
      let ends : end_of kept ≡ end_of mappings = trim_end mappings batch.low held in
      let later : trim.later ≡ pages_of batch.images ++ pages_of fits.later =
      sym (drop_at kept.pages trim.later (length kept.pages) refl)
      ∙ ap (drop (length kept.pages)) (sym trim.same)
      ∙ drop-to kept.low (length kept.pages) batch.first (pages_of (captures history)) (omega (arith, ends, first))
      ∙ sym (pages_of-drop batch.first (captures history))
      ∙ ap pages_of fits.same
      ∙ pages_of-append batch.images fits.later in
      record {
        above = trim.above;
        needed = trim.needed;
        later = pages_of fits.later;
        same = trim.same ∙ ap (λ (ps : List ℕ). kept.pages ++ ps) later ∙ sym (append_assoc kept.pages (pages_of batch.images) (pages_of fits.later));
        room = omega (arith, length-append kept.pages (pages_of batch.images), pages_of-length batch.images, fits.room, ends, first);
      }

  pub enter_end : (mappings : Mappings) (batch : Batch) → BatchFits history batch → batch.first ≡ end_of mappings → end_of (enter_into mappings batch) ≡ batch_end batch
  enter_end mappings batch fits first =
      omega (arith, length-append (trim_to mappings batch.low).pages (pages_of batch.images), pages_of-length batch.images, trim_end mappings batch.low (omega (arith, fits.above, first)), first)

  module _ (vault : Vault) (f : VaultFits history floor vault) where
    quiet : {X : Type 0} (other : Maplog) → vault.stopped ≡ false → Contains vault.others other → X
    quiet other goes is = absurd (both_ways vault.stopped goes (f.others other is).3)

    pub trim_keeps : (low : ℕ) → vault.stopped ≡ false → MayTrim history vault low → VaultFits history floor (trimmed vault low)
    trim_keeps low goes can =
        let ends : end_of (trim_to vault.mappings low) ≡ end_of vault.mappings = trim_end vault.mappings low can.held in
        record {
          mappings = trim_fits vault.mappings low f.mappings can.held can.needed;
          others = λ other is. quiet other goes is;
          held = omega (arith, f.held, ends);
          laid = f.laid;
          room = omega (arith, f.room, ends);
          slots = f.slots;
        }

    pub trim_failed_keeps : (low : ℕ) → MayTrim history vault low → VaultFits history floor (trim_failed vault low)
    trim_failed_keeps low can =
        let ends : end_of (trim_to vault.mappings low) ≡ end_of vault.mappings = trim_end vault.mappings low can.held in
        record {
          mappings = f.mappings;
          others = λ other is. elim (contains_cons (listing vault (trim_to vault.mappings low)) other [] is) [
            | inl e ↦
                subst (λ (m : Maplog). MappingsFit history floor m.mappings × (end_of vault.mappings ≤ end_of m.mappings) × (end_of m.mappings ≤ vault.laid) × (true ≡ true)) (sym e)
                (trim_fits vault.mappings low f.mappings can.held can.needed, omega (arith, ends), omega (arith, ends, f.held), refl)
            | inr never ↦ absurd (contains_none other never)
          ];
          held = f.held;
          laid = f.laid;
          room = f.room;
          slots = f.slots;
        }

    module _ (batch : Batch) (fits : BatchFits history batch) where
      pub enter_keeps : vault.stopped ≡ false → MayEnter vault batch → VaultFits history floor (entered vault batch)
      enter_keeps goes can =
          let ends : end_of (enter_into vault.mappings batch) ≡ batch_end batch = enter_end vault.mappings batch fits can.first in
          record {
            mappings = enter_fits vault.mappings batch f.mappings fits can.first;
            others = λ other is. quiet other goes is;
            held = omega (arith, ends, can.laid);
            laid = f.laid;
            room = omega (arith, f.room, ends, can.first);
            slots = f.slots;
          }

      pub enter_failed_keeps : MayEnter vault batch → VaultFits history floor (enter_failed vault batch)
      enter_failed_keeps can =
          let held : batch.low ≤ end_of vault.mappings = omega (arith, fits.above, can.first) in
          let trim_ends : end_of (trim_to vault.mappings batch.low) ≡ end_of vault.mappings = trim_end vault.mappings batch.low held in
          let enter_ends : end_of (enter_into vault.mappings batch) ≡ batch_end batch = enter_end vault.mappings batch fits can.first in
          let Fitting : Maplog → Type 0 = λ m. MappingsFit history floor m.mappings × (end_of vault.mappings ≤ end_of m.mappings) × (end_of m.mappings ≤ vault.laid) × (true ≡ true) in
          record {
            mappings = f.mappings;
            others = λ other is. elim (contains_cons (listing vault (trim_to vault.mappings batch.low)) other (listing vault (enter_into vault.mappings batch) ∷ []) is) [
              | inl e ↦ subst Fitting (sym e) (trim_fits vault.mappings batch.low f.mappings held fits.low, omega (arith, trim_ends), omega (arith, trim_ends, f.held), refl)
              | inr later ↦ elim (contains_cons (listing vault (enter_into vault.mappings batch)) other [] later) [
                | inl e ↦ subst Fitting (sym e) (enter_fits vault.mappings batch f.mappings fits can.first, omega (arith, enter_ends, can.first), omega (arith, enter_ends, can.laid), refl)
                | inr never ↦ absurd (contains_none other never)
              ]
            ];
            held = f.held;
            laid = f.laid;
            room = f.room;
            slots = f.slots;
          }

      abbrev capacity : ℕ
      capacity = capacity_of history

      -- slots that are still wanted lie outside the batch's
      before_batch : (number : ℕ) → oldest_start (now history).base.marks ≤ number → number < batch.first → IsSlotOf capacity batch (number % capacity) → ⊥
      before_batch number ge lt (place, within, same) = apart number (batch.first + place) capacity (omega (arith, lt)) (omega (arith, within, fits.room, fits.low, ge)) same

      behind_batch : (number : ℕ) → batch_end batch ≤ number → number < batch.first + capacity → IsSlotOf capacity batch (number % capacity) → ⊥
      behind_batch number ge lt (place, within, same) = apart (batch.first + place) number capacity (omega (arith, ge, within)) (omega (arith, lt)) (sym same)

      -- the captures of the batch are those of the history
      batch_at : (place : ℕ) → place < length batch.images → get_or batch.images place forgotten ≡ captured history (batch.first + place)
      batch_at place lt =
          sym (get_or_append_left batch.images fits.later forgotten place lt) ∙ ap (λ (t : List PageImage). get_or t place forgotten) (sym fits.same) ∙ get_or-drop batch.first (captures history) place forgotten

      pub lay_keeps : (slots : ℕ → List ℕ) (loose : ℕ → Bool) → vault.stopped ≡ false → MayLay vault batch → LeavesOthers capacity vault batch slots loose → HoldsBatch capacity batch slots loose → VaultFits history floor (laid vault batch slots loose)
      lay_keeps slots loose goes can outside put = record {
        mappings = f.mappings;
        others = λ other is. quiet other goes is;
        held = omega (arith, f.held);
        laid = omega (arith, f.laid, fits.within);
        room = omega (arith, f.room, fits.room, fits.above, can.first);
        slots = λ number ge lt. (
          put.settled (number % capacity),
          elim (cases_lt number batch.first) [
            | inl before ↦ outside.same (number % capacity) (before_batch number ge before) ∙ (f.slots number ge (omega (arith, before, can.first, f.held))).1
            | inr from ↦ elim (cases_lt number (batch_end batch)) [
              | inl here ↦
                  let place : ℕ = number - batch.first in
                  let sum : batch.first + place ≡ number = omega (arith, from) in
                  ap (λ n. slots (n % capacity)) (sym sum) ∙ put.bytes place (omega (arith, here, from)) ∙ ap (λ (i : PageImage). i.bytes) (batch_at place (omega (arith, here, from))) ∙ ap (λ n. (captured history n).bytes) sum
              | inr later ↦ outside.same (number % capacity) (behind_batch number later (omega (arith, lt, later, f.room, can.first))) ∙ (f.slots number ge (omega (arith, lt, later))).1
            ]
          ],
        );
      }

      pub lay_failed_keeps : (slots : ℕ → List ℕ) (loose : ℕ → Bool) → vault.stopped ≡ false → MayLay vault batch → LeavesOthers capacity vault batch slots loose → VaultFits history floor (lay_failed vault slots loose)
      lay_failed_keeps slots loose goes can outside = record {
        mappings = f.mappings;
        others = λ other is. quiet other goes is;
        held = omega arith;
        laid = omega (arith, f.laid, f.held);
        room = omega arith;
        slots = λ number ge lt.
            let before : number < batch.first = omega (arith, lt, can.first) in
            let good = f.slots number ge (omega (arith, lt, f.held)) in
            (outside.sure (number % capacity) (before_batch number ge before) good.0, outside.same (number % capacity) (before_batch number ge before) ∙ good.1);
      }

    -- ---- its images

    pub vault_holds : (maplog : Maplog) (slots : ℕ → List ℕ) → IsMaplogOf vault maplog → AreSlotsOf vault slots → HoldsCaptures history floor (end_of vault.mappings) maplog.mappings slots
    vault_holds maplog slots is_maplog are_slots =
        let at : MappingsFit history floor maplog.mappings × (end_of vault.mappings ≤ end_of maplog.mappings) × (end_of maplog.mappings ≤ vault.laid) = elim is_maplog [
          | inl e ↦ subst (λ (m : Maplog). MappingsFit history floor m.mappings × (end_of vault.mappings ≤ end_of m.mappings) × (end_of m.mappings ≤ vault.laid)) (sym e) (f.mappings, omega arith, f.held)
          | inr other ↦ ((f.others maplog other).0, (f.others maplog other).1, (f.others maplog other).2)
        ] in
        record {
          mapped = at.0;
          enough = at.1;
          filled = λ number ge lt. let good = f.slots number ge (omega (arith, lt, at.2)) in are_slots (number % capacity_of history) good.0 ∙ good.1;
        }
