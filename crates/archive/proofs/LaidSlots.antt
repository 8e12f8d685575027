-- The vault behind a batch that is laid.
use Rattle.std.proofs.Common.{◌≡◌, ◌∙◌, ◌+◌, ◌-◌, ◌*◌, ◌%◌, ◌≤◌, ◌<◌, ◌⊎◌, ◌||◌, ◌==◌, ℕ, zero, suc, Bool, true, false, cond, List, length, get_or, max, Ok, Err, is_some, refl, sym, ap, subst, arith, inl, inr, true≢false, eq-eqb}
use Rattle.std.proofs.lemmas.Bool.{cases_lt, eqb-true}
use Rattle.disk_model.specs.Disk.{State, IsDurable}
use Rattle.disk_model.specs.Moments.{Clock, LeavesOnly}
use Rattle.disk_model.proofs.Moments.{weaker}
use Rattle.retro_base.specs.declared.limits.TheConstants.{PAGE_BYTES}
use Rattle.block_file.specs.Blocks.{block_at, ChangesOnly, FillsDevice, KeepsSettled, SameFile, WritesOnly}
use Rattle.replay.specs.Opened.{forgotten}
use Rattle.race_model.specs.Machine.{laid, lay_failed}
use Rattle.race_model.specs.Vault.{Batch, batch_end, IsSlotOf, Vault}
use Rattle.race_model.specs.declared.fault.Fault.{Fault}
use Rattle.archive.specs.Archive.{IsVault, Running, TurnsByLaying}
use Rattle.archive.specs.Side.{IsMapSide, ListsMaplogOf, Side}
use Rattle.archive.specs.Slots.{AreSlots, HasSlotsOf, loosened, SomeFailedLaying, takes, with_captures}
use Rattle.archive.proofs.Laying.{slots_differ}

or_none : (a b : Bool) → (a || b) ≡ false → (a ≡ false) × (b ≡ false)
or_none true b none = absurd (true≢false none)
or_none false b none = (refl, none)

module _ (capacity first : ℕ) where
  -- a slot that is not taken is none of the captures'
  not_taken : (count slot place : ℕ) → takes capacity first count slot ≡ false → place < count → slot ≡ (first + place) % capacity → ⊥
  not_taken zero slot place none less is = omega arith
  not_taken (suc count) slot place none less is = go (or_none (slot == (first + count) % capacity) (takes capacity first count slot) none) (cases_lt place count) (λ rest below. not_taken count slot place rest below is)
    where
      go : ((slot == (first + count) % capacity) ≡ false) × (takes capacity first count slot ≡ false) → (place < count) ⊎ (count ≤ place) → (takes capacity first count slot ≡ false → place < count → ⊥) → ⊥
      go both (inl below) rest = rest both.1 below
      go both (inr at) rest =
          let same : place ≡ count = omega arith in
          true≢false (sym (eq-eqb slot ((first + count) % capacity) (is ∙ ap (λ n. (first + n) % capacity) same)) ∙ both.0)

  -- a slot that is none of theirs is not taken
  none_taken : (count slot : ℕ) → ((place : ℕ) → place < count → slot ≡ (first + place) % capacity → ⊥) → takes capacity first count slot ≡ false
  none_taken zero slot not = refl
  none_taken (suc count) slot not = go (slot == (first + count) % capacity) refl (none_taken count slot (λ place less is. not place (omega arith) is))
    where
      go : (b : Bool) → (slot == (first + count) % capacity) ≡ b → takes capacity first count slot ≡ false → (b || takes capacity first count slot) ≡ false
      go true same rest = absurd (not count (omega arith) (eqb-true slot ((first + count) % capacity) same))
      go false differ rest = rest

  -- a slot that is taken is one of theirs
  taken_at : (count slot : ℕ) → takes capacity first count slot ≡ true → (place : ℕ) × (place < count) × (slot ≡ (first + place) % capacity)
  taken_at zero slot is = absurd (true≢false (sym is))
  taken_at (suc count) slot is = go (slot == (first + count) % capacity) refl is (λ rest. taken_at count slot rest)
    where
      go : (b : Bool) → (slot == (first + count) % capacity) ≡ b → (b || takes capacity first count slot) ≡ true → (takes capacity first count slot ≡ true → (place : ℕ) × (place < count) × (slot ≡ (first + place) % capacity))
          → (place : ℕ) × (place < suc count) × (slot ≡ (first + place) % capacity)
      go true same is earlier = (count, omega arith, eqb-true slot ((first + count) % capacity) same)
      go false differ is earlier = let at = earlier is in (at.0, omega (arith, at.1), at.2)

module _ (capacity : ℕ) (batch : Batch) (slots : ℕ → List ℕ) where
  with_captures-not : (count slot : ℕ) → takes capacity batch.first count slot ≡ false → with_captures capacity batch slots count slot ≡ slots slot
  with_captures-not zero slot none = refl
  with_captures-not (suc count) slot none =
      let both = or_none (slot == (batch.first + count) % capacity) (takes capacity batch.first count slot) none in
      ap (λ b. cond b (get_or batch.images count forgotten).bytes (with_captures capacity batch slots count slot)) both.0 ∙ with_captures-not count slot both.1

  with_captures-at : (count slot place : ℕ) → count ≤ capacity → place < count → slot ≡ (batch.first + place) % capacity → with_captures capacity batch slots count slot ≡ (get_or batch.images place forgotten).bytes
  with_captures-at zero slot place few less is = absurd (omega (arith, less))
  with_captures-at (suc count) slot place few less is = go (cases_lt place count) (slot == (batch.first + count) % capacity) refl (λ earlier. with_captures-at count slot place (omega arith) earlier is)
    where
      go : (place < count) ⊎ (count ≤ place) → (b : Bool) → (slot == (batch.first + count) % capacity) ≡ b → (place < count → with_captures capacity batch slots count slot ≡ (get_or batch.images place forgotten).bytes)
          → cond b (get_or batch.images count forgotten).bytes (with_captures capacity batch slots count slot) ≡ (get_or batch.images place forgotten).bytes
      go (inl earlier) true same rest =
          let near : count - place < capacity = omega arith in
          absurd (slots_differ batch.first place count capacity earlier near (sym is ∙ eqb-true slot ((batch.first + count) % capacity) same))
      go (inl earlier) false differ rest = rest earlier
      go (inr at) true same rest = let there : count ≡ place = omega arith in ap (λ n. (get_or batch.images n forgotten).bytes) there
      go (inr at) false differ rest =
          let there : place ≡ count = omega arith in
          absurd (true≢false (sym (eq-eqb slot ((batch.first + count) % capacity) (is ∙ ap (λ n. (batch.first + n) % capacity) there)) ∙ differ))

module _ (capacity : ℕ) (vault : Vault) (batch : Batch) where
  loosened_not : (slot : ℕ) → loosened capacity vault batch slot ≡ false → (vault.loose slot ≡ false) × (IsSlotOf capacity batch slot → ⊥)
  loosened_not slot none =
      let both = or_none (vault.loose slot) (takes capacity batch.first (length batch.images) slot) none in
      (both.0, λ is. not_taken capacity batch.first (length batch.images) slot is.0 both.1 is.1 is.2)

  other_slot : (slot : ℕ) → (IsSlotOf capacity batch slot → ⊥) → takes capacity batch.first (length batch.images) slot ≡ false
  other_slot slot not = none_taken capacity batch.first (length batch.images) slot (λ place less is. not (place, less, is))

  not_loosened : (slot : ℕ) → (IsSlotOf capacity batch slot → ⊥) → vault.loose slot ≡ false → loosened capacity vault batch slot ≡ false
  not_loosened slot not sure = ap (λ b. b || takes capacity batch.first (length batch.images) slot) sure ∙ other_slot slot not

  -- the slots of a vault whose batch was laid in part
  abbrev left_slots : State → ℕ → List ℕ
  left_slots new slot = cond (takes capacity batch.first (length batch.images) slot) (block_at new.seen slot) (vault.slots slot)

  module _ (old new : State) (are : AreSlots old vault.slots vault.loose) (only : ChangesOnly (IsSlotOf capacity batch) old new) where
    laid_slots : length batch.images ≤ capacity → IsDurable new → ((place : ℕ) → place < length batch.images → block_at new.seen ((batch.first + place) % capacity) ≡ (get_or batch.images place forgotten).bytes)
        → AreSlots new (with_captures capacity batch vault.slots (length batch.images)) (λ slot. false)
    laid_slots few durable bytes = record { reads = reads; sure = λ slot none place within. durable place }
      where
        by : (slot : ℕ) (b : Bool) → takes capacity batch.first (length batch.images) slot ≡ b → block_at new.seen slot ≡ with_captures capacity batch vault.slots (length batch.images) slot
        by slot true is =
            let at = taken_at capacity batch.first (length batch.images) slot is in
            ap (λ n. block_at new.seen n) at.2 ∙ bytes at.0 at.1 ∙ sym (with_captures-at capacity batch vault.slots (length batch.images) slot at.0 few at.1 at.2)
        by slot false is =
            only.same slot (λ is_slot. not_taken capacity batch.first (length batch.images) slot is_slot.0 is is_slot.1 is_slot.2) ∙ are.reads slot
            ∙ sym (with_captures-not capacity batch vault.slots (length batch.images) slot is)

        reads : (slot : ℕ) → block_at new.seen slot ≡ with_captures capacity batch vault.slots (length batch.images) slot
        reads slot = by slot (takes capacity batch.first (length batch.images) slot) refl

    slots_left : AreSlots new (left_slots new) (loosened capacity vault batch)
    slots_left = record { reads = reads; sure = λ slot none. let both = loosened_not slot none in only.settled slot both.1 (are.sure slot both.0) }
      where
        by : (slot : ℕ) (b : Bool) → takes capacity batch.first (length batch.images) slot ≡ b → block_at new.seen slot ≡ cond b (block_at new.seen slot) (vault.slots slot)
        by slot true is = refl
        by slot false is = only.same slot (λ is_slot. not_taken capacity batch.first (length batch.images) slot is_slot.0 is is_slot.1 is_slot.2) ∙ are.reads slot

        reads : (slot : ℕ) → block_at new.seen slot ≡ left_slots new slot
        reads slot = by slot (takes capacity batch.first (length batch.images) slot) refl

-- a vault that differs in its slots alone, or has stopped besides, lists the same
lists_still : {D : Type 0} (side : Side D) (vault other : Vault) (image : List ℕ) → other.version ≡ vault.version → other.mappings ≡ vault.mappings → other.others ≡ vault.others → ListsMaplogOf side.log vault image → ListsMaplogOf side.log other image
lists_still side vault other image version mappings others some = record {
  maplog = some.maplog;
  is = rw (version, mappings, others) some.is;
  lists = some.lists;
}

module _ {D : Type 0} (is_honest : D → Type 0) (remembers : Type 0) (state : D → State) (clock : D → Clock) (old new : Running D) (vault : Vault) (batch : Batch) (is : IsVault is_honest state old vault) (goes : vault.stopped ≡ false)
    (side : new.side ≡ old.side) (file : SameFile is_honest old.pagelog new.pagelog) (few : length batch.images ≤ old.pagelog.blocks)
    (alone : is_honest old.pagelog.disk → WritesOnly (IsSlotOf old.pagelog.blocks batch) remembers state clock old.pagelog.disk new.pagelog.disk) where
  leaves : is_honest old.pagelog.disk → LeavesOnly remembers (clock old.pagelog.disk) (clock new.pagelog.disk) (λ image. SomeFailedLaying old.pagelog.blocks vault batch (λ failed. HasSlotsOf failed image))
  leaves told =
      weaker remembers (clock old.pagelog.disk) (clock new.pagelog.disk) (KeepsSettled (IsSlotOf old.pagelog.blocks batch) (state old.pagelog.disk)) (λ image. SomeFailedLaying old.pagelog.blocks vault batch (λ failed. HasSlotsOf failed image))
      (λ image keeps. record {
        slots = vault.slots;
        loose = loosened old.pagelog.blocks vault batch;
        others = record { same = λ slot not. refl; sure = not_loosened old.pagelog.blocks vault batch };
        is = λ slot none. let both = loosened_not old.pagelog.blocks vault batch slot none in keeps.kept slot both.1 ((is.slots told).sure slot both.0) ∙ (is.slots told).reads slot;
      }) (alone told).any_moment

  mapped_still : (other : Vault) → other.version ≡ vault.version → other.mappings ≡ vault.mappings → other.others ≡ vault.others → IsMapSide is_honest state new.side other
  mapped_still other version mappings others =
      subst (λ (s : Side D). IsMapSide is_honest state s other) (sym side)
      (record {
        in_version = version ∙ is.mapped.in_version;
        shows = rw mappings is.mapped.shows;
        lowest = record { maplog = is.mapped.lowest.maplog; is = rw (version, mappings, others) is.mapped.lowest.is; same = is.mapped.lowest.same };
        going = λ on. is.mapped.going goes ∙ sym mappings;
        keeps = λ told on. rw mappings (is.mapped.keeps told goes);
        images = λ told image at. lists_still old.side vault other image version mappings others (is.mapped.images told image at);
      })

  fills_still : FillsDevice is_honest state new.pagelog
  fills_still told = let was = file.honest.1 told in (alone was).others.size ∙ (is.fills was ∙ ap (λ n. PAGE_BYTES * n) (sym file.blocks))

  -- a batch that was laid
  pub lays_done : is_some new.first_fault ≡ is_some old.first_fault → new.laid ≡ max old.laid (batch_end batch) → (is_honest old.pagelog.disk → IsDurable (state new.pagelog.disk))
      → (is_honest old.pagelog.disk → (place : ℕ) → place < length batch.images → block_at (state new.pagelog.disk).seen ((batch.first + place) % old.pagelog.blocks) ≡ (get_or batch.images place forgotten).bytes)
      → TurnsByLaying is_honest remembers state clock old new vault batch (Ok tt)
  lays_done fault many durable bytes =
      let slots : ℕ → List ℕ = with_captures old.pagelog.blocks batch vault.slots (length batch.images) in
      let next : Vault = laid vault batch slots (λ slot. false) in
      record {
        steps = record {
          slots = slots;
          loose = λ slot. false;
          others = record { same = λ slot not. with_captures-not old.pagelog.blocks batch vault.slots (length batch.images) slot (other_slot old.pagelog.blocks vault batch slot not); sure = λ slot not sure. refl };
          holds = record { bytes = λ place less. with_captures-at old.pagelog.blocks batch vault.slots (length batch.images) ((batch.first + place) % old.pagelog.blocks) place few less refl; settled = λ slot. refl };
          is = record {
            stopped = is.stopped ∙ sym fault;
            mapped = mapped_still next refl refl refl;
            laid = ap (λ n. max n (batch_end batch)) is.laid ∙ sym many;
            slots = λ told. let was = file.honest.1 told in laid_slots old.pagelog.blocks vault batch (state old.pagelog.disk) (state new.pagelog.disk) (is.slots was) (alone was).others few (durable was) (bytes was);
            fills = fills_still;
          };
        };
        fails = tt;
        any_moment = leaves;
      }

  -- a batch whose laying failed
  pub lays_failed : (e : Fault) → is_some new.first_fault ≡ true → new.laid ≡ old.side.held → TurnsByLaying is_honest remembers state clock old new vault batch (Err e)
  lays_failed e fault many =
      let slots : ℕ → List ℕ = left_slots old.pagelog.blocks vault batch (state new.pagelog.disk) in
      let loose : ℕ → Bool = loosened old.pagelog.blocks vault batch in
      let next : Vault = lay_failed vault slots loose in
      record {
        steps = tt;
        fails = λ disk_fault. record {
          slots = slots;
          loose = loose;
          others = record {
            same = λ slot not. ap (λ b. cond b (block_at (state new.pagelog.disk).seen slot) (vault.slots slot)) (other_slot old.pagelog.blocks vault batch slot not);
            sure = not_loosened old.pagelog.blocks vault batch;
          };
          is = record {
            stopped = sym fault;
            mapped = mapped_still next refl refl refl;
            laid = is.mapped.shows.end ∙ sym many;
            slots = λ told. let was = file.honest.1 told in slots_left old.pagelog.blocks vault batch (state old.pagelog.disk) (state new.pagelog.disk) (is.slots was) (alone was).others;
            fills = fills_still;
          };
        };
        any_moment = leaves;
      }
