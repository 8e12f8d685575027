-- A batch that is carried into the vault leaves what stands there.
use Rattle.std.proofs.Common.{◌≡◌, ◌∙◌, ◌+◌, ◌-◌, ◌%◌, ◌≤◌, ◌<◌, ◌⊎◌, ℕ, zero, suc, Bool, true, false, cond, eqb, List, [], ◌∷◌, length, get_or, max, Option, Some, None, Result, Ok, Err, refl, sym, ap, subst, inl, inr, ⊎_elim, arith, append-nil, eq-eqb, ne_eqb}
use Rattle.std.specs.Prelude.{◌↔◌, IfErr, MatchResult, is_some}
use Rattle.std.specs.List.{AllByRecursion}
use Rattle.block_file.specs.Blocks.{File, SameFile}
use Rattle.disk_model.specs.Disk.{State}
use Rattle.disk_model.specs.Moments.{Clock}
use Rattle.retro_base.specs.declared.device.Device.{Device}
use Rattle.retro_base.specs.declared.device.Device.TheVariants.{Maplog, Pagelog}
use Rattle.retro_base.specs.declared.refusal.Refusal.{Refusal}
use Rattle.retro_base.specs.declared.refusal.Refusal.TheVariants.{DiskFault, OutOfMemory, Stopped}
use Rattle.gate_log.specs.Cause.{IsDiskFault}
use Rattle.history.specs.declared.entry.Base.{Base}
use Rattle.history.specs.declared.journal.Line.{Line}
use Rattle.history.specs.declared.writes.PageImage.{PageImage}
use Rattle.history.specs.History.{History, now}
use Rattle.history.specs.Journal.{after_journal, changes_of}
use Rattle.history.specs.Sound.{IsSound}
use Rattle.history.specs.Writes.{pages_of}
use Rattle.skippy.specs.Mappings.{push}
use Rattle.archive.specs.Archive.{IsTrimmedAtMost, IsVault, Running, Turns, TurnsByLaying}
use Rattle.archive.specs.Cause.{IsRefusedWrite}
use Rattle.archive.specs.Side.{IsNextBatch, SameSide, Side}
use Rattle.archive.specs.Slots.{SomeFailedLaying, SomeLaying}
use Rattle.archive.proofs.Laying.{slots_differ}
use Rattle.desk.proofs.Sent.{count_stays}
use Rattle.race_model.specs.declared.fault.Fault.{Fault}
use Rattle.race_model.specs.Desk.{capacity_of}
use Rattle.race_model.specs.Fits.{BatchFits, HistoryFits, VaultFits}
use Rattle.race_model.specs.Machine.{MayEnter, MayLay, MayTrim, enter_failed, entered, laid, lay_failed, trimmed}
use Rattle.race_model.specs.Vault.{Batch, HoldsBatch, LeavesOthers, Vault, batch_end, listing, trim_to}
use Rattle.race_model.proofs.Lists.{pages_of-length}
use Rattle.race_model.proofs.VaultKeeps.{enter_failed_keeps, enter_keeps, lay_failed_keeps, lay_keeps, trim_keeps}
use Rattle.replay.specs.Opened.{forgotten}
use Rattle.store.specs.declared.start.Start.{Start}
use Rattle.store.specs.Carrying.{IsBatchIn, IsNotCarried}
use Rattle.store.specs.Sides.{VaultStands}
use Rattle.store.specs.Start.{IsAsHonest, IsOpenedTo, IsVaultFrom, IsVaultIn, Origin, opened_base, with_slots}
use Rattle.store.proofs.Finding.{base_behind, right_behind}
use Rattle.store.proofs.Leaving.{both}

-- ---- refused writes

pub disk_or : (why : Refusal) → IsDiskFault why ⊎ (IsDiskFault why → ⊥)
disk_or (DiskFault d c) = inl tt
disk_or _ = inr (λ x. x)

refused_going : (device : Device) (N : Type 0) (first : Option (Device × ℕ)) (before now : ℕ) (why : Refusal) (wrote : Bool) → IsRefusedWrite device N first before now why wrote → IsDiskFault why → first ≡ None
refused_going device N first before now (DiskFault d c) wrote r is = r.0
refused_going device N first before now _ wrote r is = absurd is

pub refused_up : (device : Device) (N : Type 0) (first : Option (Device × ℕ)) (before now : ℕ) (why : Refusal) (wrote : Bool) → IsRefusedWrite device N first before now why wrote → before ≤ now
refused_up device N first before now (DiskFault d c) wrote r = r.2.2
refused_up device N first before now (Stopped d c) wrote r = let e = r.2 in omega (arith, e)
refused_up device N first before now OutOfMemory wrote r = let e = r.3 in omega (arith, e)
refused_up device N first before now _ wrote r = absurd r.2

-- ---- captures laid over slots

abbrev captured_over : ℕ → ℕ → List PageImage → (ℕ → List ℕ) → ℕ → List ℕ
captured_over capacity first [] slots slot = slots slot
captured_over capacity first (image ∷ images) slots slot = cond (eqb slot (first % capacity)) image.bytes (captured_over capacity (first + 1) images slots slot)

at_first : (capacity first : ℕ) → (first + 0) % capacity ≡ first % capacity
at_first capacity first = ap (λ (n : ℕ). n % capacity) (let e : first + 0 ≡ first = omega arith in e)

over_at : (capacity first : ℕ) (images : List PageImage) (slots : ℕ → List ℕ) (place : ℕ) → length images ≤ capacity → place < length images
    → captured_over capacity first images slots ((first + place) % capacity) ≡ (get_or images place forgotten).bytes
over_at capacity first [] slots place few less = absurd (omega (arith, less))
over_at capacity first (image ∷ images) slots zero few less =
    ap (λ (b : Bool). cond b image.bytes (captured_over capacity (first + 1) images slots ((first + 0) % capacity))) (eq-eqb ((first + 0) % capacity) (first % capacity) (at_first capacity first))
over_at capacity first (image ∷ images) slots (suc place) few less =
    let other : eqb ((first + suc place) % capacity) (first % capacity) ≡ false =
    ne_eqb ((first + suc place) % capacity) (first % capacity) (λ same. slots_differ first 0 (suc place) capacity (omega arith) (omega (arith, few, less)) (at_first capacity first ∙ sym same)) in
    let next : first + suc place ≡ (first + 1) + place = omega arith in
    ap (λ (b : Bool). cond b image.bytes (captured_over capacity (first + 1) images slots ((first + suc place) % capacity))) other
    ∙ (ap (λ (n : ℕ). captured_over capacity (first + 1) images slots (n % capacity)) next ∙ over_at capacity (first + 1) images slots place (omega (arith, few)) (omega (arith, less)))

over_not : (capacity first : ℕ) (images : List PageImage) (slots : ℕ → List ℕ) (slot : ℕ) → ((place : ℕ) → place < length images → slot ≡ (first + place) % capacity → ⊥) → captured_over capacity first images slots slot ≡ slots slot
over_not capacity first [] slots slot none = refl
over_not capacity first (image ∷ images) slots slot none =
    ap (λ (b : Bool). cond b image.bytes (captured_over capacity (first + 1) images slots slot)) (ne_eqb slot (first % capacity) (λ same. none 0 (omega arith) (same ∙ sym (at_first capacity first))))
    ∙ over_not capacity (first + 1) images slots slot (λ place less same. none (suc place) (omega (arith, less)) (same ∙ ap (λ (n : ℕ). n % capacity) (let e : (first + 1) + place ≡ first + suc place = omega arith in e)))

-- ---- one history

module _ {D : Type 0} (is_honest : D → Type 0) (state : D → State) (IsHonest : Type 0) (origin : Origin) (lines : List Line) (old : Running D) (from_ : IsVaultFrom is_honest state IsHonest origin lines old) (batch : Batch)
    (images : List PageImage) (pages : pages_of images ≡ pages_of batch.images) (same_bytes : IsHonest → images ≡ batch.images) (fits : BatchFits (after_journal origin.history lines) (record batch { images = images })) where
  abbrev Here : History
  Here = after_journal origin.history lines

  abbrev Numbered : Batch
  Numbered = record batch { images = images }

  -- the vault with the slots that are known on any device
  abbrev Shown : Vault
  Shown = with_slots from_.captured from_.vault

  same_length : length images ≡ length batch.images
  same_length = sym (pages_of-length images) ∙ (ap length pages ∙ pages_of-length batch.images)

  whole_fits : IsHonest → BatchFits Here batch
  whole_fits honest = subst (λ (is : List PageImage). BatchFits Here (record batch { images = is })) (same_bytes honest) fits

  module _ (goes : from_.vault.stopped ≡ false) (first : batch.first ≡ old.side.held) (new : Running D) (count : new.side.log.page_count ≡ old.side.log.page_count) (blocks : new.pagelog.blocks ≡ old.pagelog.blocks) where
    goes_on : batch.first ≡ batch_end Numbered - length images
    goes_on = omega arith

    may_lay : MayLay from_.vault batch
    may_lay = record { first = first ∙ sym from_.is.mapped.shows.end }

    shown_lay : MayLay Shown Numbered
    shown_lay = record { first = first ∙ sym from_.is.mapped.shows.end }

    -- it is a vault of the history again
    again : (vault : Vault) (captured : ℕ → List ℕ) → IsVaultIn origin.maplog vault → IsVault is_honest state new vault → VaultFits Here origin.floor (with_slots captured vault) → (IsHonest → VaultFits Here origin.floor vault) → IsVaultFrom is_honest state IsHonest origin lines new
    again vault captured in_version is numbers fit = record { vault = vault; is = is; captured = captured; numbers = numbers; fits = fit; slots = blocks ∙ from_.slots; pages = count ∙ from_.pages; in_version = in_version }

    few : length images ≤ capacity_of Here
    few = let r = fits.room in let a = fits.above in omega (arith, r, a)

    pub lays_again : SomeLaying old.pagelog.blocks from_.vault batch (IsVault is_honest state new) → IsVaultFrom is_honest state IsHonest origin lines new
    lays_again t =
        let over = captured_over (capacity_of Here) batch.first images from_.captured in
        let none = λ (slot : ℕ). false in
        let others : LeavesOthers (capacity_of Here) Shown Numbered over none = record {
          same = λ slot not. over_not (capacity_of Here) batch.first images from_.captured slot (λ place less is. not (place, less, is));
          sure = λ slot not sure. refl;
        } in
        let holds : HoldsBatch (capacity_of Here) Numbered over none = record { bytes = λ place less. over_at (capacity_of Here) batch.first images from_.captured place few less; settled = λ slot. refl } in
        again (laid from_.vault batch t.slots t.loose) over from_.in_version t.is
        (subst (λ (n : ℕ). VaultFits Here origin.floor (record Shown { slots = over; loose = none; laid = max from_.vault.laid (batch.first + n) })) same_length
        (lay_keeps Here origin.floor Shown from_.numbers Numbered fits over none goes shown_lay others holds))
        (λ honest. lay_keeps Here origin.floor from_.vault (from_.fits honest) batch (whole_fits honest) t.slots t.loose goes may_lay
        (subst (λ (n : ℕ). LeavesOthers n from_.vault batch t.slots t.loose) from_.slots t.others) (subst (λ (n : ℕ). HoldsBatch n batch t.slots t.loose) from_.slots t.holds))

    pub lays_less : SomeFailedLaying old.pagelog.blocks from_.vault batch (IsVault is_honest state new) → IsVaultFrom is_honest state IsHonest origin lines new
    lays_less t =
        again (lay_failed from_.vault t.slots t.loose) from_.captured from_.in_version t.is
        (lay_failed_keeps Here origin.floor Shown from_.numbers Numbered fits from_.captured (λ slot. false) goes shown_lay (record { same = λ slot not. refl; sure = λ slot not sure. refl }))
        (λ honest. lay_failed_keeps Here origin.floor from_.vault (from_.fits honest) batch (whole_fits honest) t.slots t.loose goes may_lay (subst (λ (n : ℕ). LeavesOthers n from_.vault batch t.slots t.loose) from_.slots t.others))

    module _ (is_laid : batch_end batch ≤ old.laid) where
      may_enter : MayEnter from_.vault batch
      may_enter = record { first = first ∙ sym from_.is.mapped.shows.end; laid = let e = from_.is.laid in omega (arith, e, is_laid) }

      shown_enter : MayEnter Shown Numbered
      shown_enter = record { first = first ∙ sym from_.is.mapped.shows.end; laid = let e = from_.is.laid in let l = same_length in omega (arith, e, is_laid, l) }

      pub enters_again : IsVault is_honest state new (entered from_.vault batch) → IsVaultFrom is_honest state IsHonest origin lines new
      enters_again is =
          again (entered from_.vault batch) from_.captured from_.in_version is
          (subst (λ (ps : List ℕ). VaultFits Here origin.floor (record Shown { mappings = push (trim_to from_.vault.mappings batch.low) ps })) pages (enter_keeps Here origin.floor Shown from_.numbers Numbered fits goes shown_enter))
          (λ honest. enter_keeps Here origin.floor from_.vault (from_.fits honest) batch (whole_fits honest) goes may_enter)

      pub enters_less : IsVault is_honest state new (enter_failed from_.vault batch) → IsVaultFrom is_honest state IsHonest origin lines new
      enters_less is =
          again (enter_failed from_.vault batch) from_.captured (let v = from_.in_version.0 in (v, (v, (v, tt)))) is
          (subst (λ (ps : List ℕ). VaultFits Here origin.floor (record Shown { others = listing from_.vault (trim_to from_.vault.mappings batch.low) ∷ listing from_.vault (push (trim_to from_.vault.mappings batch.low) ps) ∷ []; stopped = true })) pages
          (enter_failed_keeps Here origin.floor Shown from_.numbers Numbered fits shown_enter))
          (λ honest. enter_failed_keeps Here origin.floor from_.vault (from_.fits honest) batch (whole_fits honest) may_enter)

    may_trim : MayTrim Here from_.vault batch.low
    may_trim = record { held = let e = from_.is.mapped.shows.end in let a = fits.above in omega (arith, first, e, a); needed = fits.low }

    pub trims_again : IsVault is_honest state new (trimmed from_.vault batch.low) → IsVaultFrom is_honest state IsHonest origin lines new
    trims_again is =
        again (trimmed from_.vault batch.low) from_.captured from_.in_version is
        (trim_keeps Here origin.floor Shown from_.numbers batch.low goes (record { held = may_trim.held; needed = fits.low }))
        (λ honest. trim_keeps Here origin.floor from_.vault (from_.fits honest) batch.low goes may_trim)

-- ---- all histories

module _ {D : Type 0} (is_honest : D → Type 0) (state : D → State) (start : Start D) (lines : List Line) (old : Running D) (batch : Batch) (stands : VaultStands is_honest state old start lines) (sound : IsSound (opened_base start) lines)
    (is_batch : IsBatchIn is_honest state start lines old.side.held batch) where
  -- what laying and entering ask of it
  pub is_next : old.side.held ≤ batch.first → IsNextBatch old.side batch
  is_next le =
      let from_ = stands.stands is_batch.origin is_batch.opened in
      let b = is_batch.fits is_batch.origin is_batch.opened in
      let Here : History = after_journal is_batch.origin.history lines in
      let length_is : length b.images ≡ length batch.images = sym (pages_of-length b.images) ∙ (ap length b.pages ∙ pages_of-length batch.images) in
      let sound_all = subst (λ (l : List Line). IsSound (opened_base start) l) (sym (append-nil lines)) sound in
      let right : HistoryFits Here is_batch.origin.floor =
      subst (λ (l : List Line). HistoryFits (after_journal is_batch.origin.history l) is_batch.origin.floor) (append-nil lines) (right_behind is_honest state start is_batch.origin is_batch.opened lines [] sound_all) in
      let count : (now Here).base.page_count ≡ old.side.log.page_count =
      ap (λ (x : Base). x.page_count) (base_behind is_honest state start is_batch.origin is_batch.opened lines [] sound_all lines)
      ∙ (count_stays (changes_of (opened_base start) lines) (opened_base start) ∙ (ap (λ (x : Base). x.page_count) (sym is_batch.opened.base) ∙ sym from_.pages)) in
      record {
        some = is_batch.some;
        few = is_batch.few;
        first = let k = is_batch.known in omega (arith, k, le);
        low = b.fits.above;
        room = let r = b.fits.room in let s = stands.slots in let t = from_.slots in omega (arith, r, s, t, length_is);
        end = let w = b.fits.within in let t = right.right.limits.total in omega (arith, w, t, length_is);
        pages = subst (λ (ps : List ℕ). AllByRecursion (λ page. page < old.side.log.page_count) ps) b.pages (subst (λ (n : ℕ). AllByRecursion (λ page. page < n) (pages_of b.images)) count b.fits.pages);
      }

  module _ (first : batch.first ≡ old.side.held) (new : Running D) where
    module _ (going : old.first_fault ≡ None) where
      goes_at : (o : Origin) (op : IsOpenedTo is_honest state start o) → (stands.stands o op).vault.stopped ≡ false
      goes_at o op = (stands.stands o op).is.stopped ∙ ap is_some going

    -- where its vault of each history is one again
    stands_again : IsAsHonest is_honest old new → new.side.log.capacity ≡ old.side.log.capacity → new.pagelog.blocks ≡ old.pagelog.blocks
        → ((o : Origin) (op : IsOpenedTo is_honest state start o) → IsVaultFrom is_honest state (is_honest start.core.value.desk.pool.file.disk) o lines new) → VaultStands is_honest state new start lines
    stands_again honest capacity blocks each = record {
      honest = record { pagelog = both stands.honest.pagelog honest.pagelog; maplog = both stands.honest.maplog honest.maplog };
      slots = capacity ∙ (stands.slots ∙ sym blocks);
      stands = each;
    }

    same_stands : new ≡ old → VaultStands is_honest state new start lines
    same_stands same = subst (λ (a : Running D). VaultStands is_honest state a start lines) (sym same) stands

    module _ (remembers : Type 0) (clock : D → Clock) (faults : D → ℕ) where
      -- behind a laying
      module _ (side : new.side ≡ old.side) (file : SameFile is_honest old.pagelog new.pagelog) where
        laid_honest : IsAsHonest is_honest old new
        laid_honest = record { pagelog = file.honest; maplog = subst (λ (s : Side D). is_honest old.side.disk ↔ is_honest s.disk) (sym side) ((λ a. a), (λ a. a)) }

        laid_again : ((o : Origin) (op : IsOpenedTo is_honest state start o) → IsVaultFrom is_honest state (is_honest start.core.value.desk.pool.file.disk) o lines new) → VaultStands is_honest state new start lines
        laid_again each = stands_again laid_honest (ap (λ (s : Side D). s.log.capacity) side) file.blocks each

        pub laid_stands : (result : Result (Unit {0}) Fault)
            → MatchResult result (λ _. (old.first_fault ≡ None) × (faults new.pagelog.disk ≡ faults old.pagelog.disk)) (λ e. IsRefusedWrite Pagelog ⊥ old.first_fault (faults old.pagelog.disk) (faults new.pagelog.disk) e.why e.wrote)
            → IfErr result (λ e. (IsDiskFault e.why → ⊥) → new ≡ old)
            → ((vault : Vault) → IsVault is_honest state old vault → vault.stopped ≡ false → TurnsByLaying is_honest remembers state clock old new vault batch result) → VaultStands is_honest state new start lines
        laid_stands (Ok x) cause untouched turns = laid_again (λ o op.
            let from_ = stands.stands o op in let b = is_batch.fits o op in let goes = goes_at cause.0 o op in
            lays_again is_honest state _ o lines old from_ batch b.images b.pages b.bytes b.fits goes first new (ap (λ (s : Side D). s.log.page_count) side) file.blocks (turns from_.vault from_.is goes).steps)
        laid_stands (Err e) cause untouched turns = ⊎_elim (λ fault. laid_again (λ o op.
            let from_ = stands.stands o op in let b = is_batch.fits o op in let goes = goes_at (refused_going Pagelog ⊥ old.first_fault _ _ e.why e.wrote cause fault) o op in
            lays_less is_honest state _ o lines old from_ batch b.images b.pages b.bytes b.fits goes first new (ap (λ (s : Side D). s.log.page_count) side) file.blocks ((turns from_.vault from_.is goes).fails fault)))
            (λ no. same_stands (untouched no)) (disk_or e.why)

      -- behind an entering
      module _ (same : SameSide is_honest old.side new.side) (slots : new.pagelog ≡ old.pagelog) (is_laid : batch_end batch ≤ old.laid) where
        entered_again : ((o : Origin) (op : IsOpenedTo is_honest state start o) → IsVaultFrom is_honest state (is_honest start.core.value.desk.pool.file.disk) o lines new) → VaultStands is_honest state new start lines
        entered_again each = stands_again (record { pagelog = subst (λ (f : File D). is_honest old.pagelog.disk ↔ is_honest f.disk) (sym slots) ((λ a. a), (λ a. a)); maplog = same.honest }) same.capacity (ap (λ (f : File D). f.blocks) slots) each

        pub entered_stands : (result : Result ℕ Fault)
            → MatchResult result (λ _. (old.first_fault ≡ None) × (faults new.side.disk ≡ faults old.side.disk)) (λ e. IsRefusedWrite Maplog (Unit {0}) old.first_fault (faults old.side.disk) (faults new.side.disk) e.why e.wrote)
            → ((old.first_fault ≡ None → ⊥) → new ≡ old)
            → ((vault : Vault) → IsVault is_honest state old vault → vault.stopped ≡ false → Turns is_honest remembers state clock old new (entered vault batch) (enter_failed vault batch) result)
            → ((vault : Vault) → IsVault is_honest state old vault → vault.stopped ≡ false → IsTrimmedAtMost is_honest state new vault batch result) → VaultStands is_honest state new start lines
        entered_stands (Ok x) cause stopped turns memory = entered_again (λ o op.
            let from_ = stands.stands o op in let b = is_batch.fits o op in let goes = goes_at cause.0 o op in
            enters_again is_honest state _ o lines old from_ batch b.images b.pages b.bytes b.fits goes first new same.page_count (ap (λ (f : File D). f.blocks) slots) is_laid (turns from_.vault from_.is goes).steps)
        entered_stands (Err e) cause stopped turns memory = at old.first_fault refl where
          at : (fault : Option (Device × ℕ)) → old.first_fault ≡ fault → VaultStands is_honest state new start lines
          at (Some f) is = same_stands (stopped (λ none. absurd (cc (none, is))))
          at None going = entered_again (λ o op.
              let from_ = stands.stands o op in let b = is_batch.fits o op in let goes = goes_at going o op in
              let count = same.page_count in let blocks = ap (λ (f : File D). f.blocks) slots in
              ⊎_elim (λ fault. enters_less is_honest state _ o lines old from_ batch b.images b.pages b.bytes b.fits goes first new count blocks is_laid ((turns from_.vault from_.is goes).fails fault))
              (λ no. ⊎_elim (λ (is : IsVault is_honest state new from_.vault). record { vault = from_.vault; is = is; captured = from_.captured; numbers = from_.numbers; fits = from_.fits; slots = blocks ∙ from_.slots; pages = count ∙ from_.pages; in_version = from_.in_version })
              (λ is. trims_again is_honest state _ o lines old from_ batch b.images b.pages b.bytes b.fits goes first new count blocks is) (memory from_.vault from_.is goes no))
              (disk_or e.why))

-- ---- what a call tells

module _ {D : Type 0} (faults : D → ℕ) (batch : Batch) (old new : Running D) (none : old.side.held ≤ batch.first) where
  pub laid_refused : (fault : Fault) → old.laid < batch_end batch → new.side ≡ old.side → IsRefusedWrite Pagelog ⊥ old.first_fault (faults old.pagelog.disk) (faults new.pagelog.disk) fault.why fault.wrote → ((IsDiskFault fault.why → ⊥) → new ≡ old) → IsNotCarried faults batch old new fault.why
  laid_refused fault less side refused untouched = at fault.why refused untouched where
    at : (why : Refusal) → IsRefusedWrite Pagelog ⊥ old.first_fault (faults old.pagelog.disk) (faults new.pagelog.disk) why fault.wrote → ((IsDiskFault why → ⊥) → new ≡ old) → IsNotCarried faults batch old new why
    at (Stopped d c) r u = (none, r.0, u (λ x. x))
    at OutOfMemory r u = absurd r.0
    at (DiskFault d c) r u = inl ((record { goes = r.0; none = none }, less), side, r.2)
    at _ r u = absurd r.2

  pub entered_refused : (fault : Fault) → batch_end batch ≤ old.laid → new.pagelog ≡ old.pagelog → new.side.held ≡ old.side.held → IsRefusedWrite Maplog (Unit {0}) old.first_fault (faults old.side.disk) (faults new.side.disk) fault.why fault.wrote → ((old.first_fault ≡ None → ⊥) → new ≡ old) → IsNotCarried faults batch old new fault.why
  entered_refused fault is_laid slots left refused stopped = at fault.why refused where
    at : (why : Refusal) → IsRefusedWrite Maplog (Unit {0}) old.first_fault (faults old.side.disk) (faults new.side.disk) why fault.wrote → IsNotCarried faults batch old new why
    at (Stopped d c) r = (none, r.0, stopped (λ going. absurd (cc (going, r.0))))
    at OutOfMemory r = ((record { goes = r.1; none = none }, is_laid), slots, left, r.3)
    at (DiskFault d c) r = inr ((record { goes = r.0; none = none }, is_laid), slots, left, r.2)
    at _ r = absurd r.2

-- an archive that goes on is no vault that has stopped
pub vault_goes : {D : Type 0} (is_honest : D → Type 0) (state : D → State) (archive : Running D) (vault : Vault) → IsVault is_honest state archive vault → archive.first_fault ≡ None → vault.stopped ≡ false
vault_goes is_honest state archive vault is going = is.stopped ∙ ap is_some going
