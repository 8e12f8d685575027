-- The faults that a seat is told in a visit to the desk, and those that its transaction keeps.
use Rattle.std.proofs.Common.{◌≡◌, ◌≤◌, ◌<◌, ◌+◌, ◌⊎◌, ◌∙◌, ◌++◌, ◌||◌, ℕ, Bool, true, false, cond, eqb, ltb, List, [], ◌∷◌, Some, None, refl, sym, ap, subst, ⊎_elim, arith, eq-eqb}
use Rattle.std.proofs.lemmas.Bool.{ltb-false}
use Rattle.disk_model.specs.Disk.{State}
use Rattle.retro_base.specs.Cause.{Rose}
use Rattle.retro_base.specs.declared.device.Device.{Device}
use Rattle.retro_base.specs.declared.device.Device.TheVariants.{Log, Pages}
use Rattle.retro_base.specs.declared.refusal.Refusal.TheVariants.{DiskFault}
use Rattle.retro_base.specs.declared.who.Who.{Who}
use Rattle.journal_book.specs.declared.work.Transaction.{Transaction}
use Rattle.journal_book.specs.declared.work.Work.{Work}
use Rattle.journal_book.specs.declared.work.Work.TheVariants.{Open}
use Rattle.journal_book.specs.Works.{work_at}
use Rattle.turn.specs.declared.view.Holding.{Holding}
use Rattle.turn.specs.Faults.{LAST, desk_faults, fault_times, one_fault, rose}
use Rattle.turn.specs.Views.{behind_desk}
use Rattle.turn.proofs.Faults.{times_append, told_still}
use Rattle.store.specs.declared.desk_side.DeskSide.{DeskSide}
use Rattle.store.specs.Seats.{HasOwn, KeptIsTold, journal, slots_of}
use Rattle.store.specs.Sides.{of_desk}
use Rattle.store.specs.Start.{desk_counts}

-- a count that rose, or that stands at its last value, is told
pub rose_so : (before now : ℕ) → Rose before now → now ≤ LAST → (ltb before now || eqb now LAST) ≡ true
rose_so before now up few = at (ltb before now) refl where
  at : (test : Bool) → ltb before now ≡ test → (test || eqb now LAST) ≡ true
  at true e = refl
  at false e = let le = ltb-false before now e in eq-eqb now LAST (last le) where
    last : now ≤ before → now ≡ LAST
    last le = omega (arith, up, few, le)

or_true : (b : Bool) → (b || true) ≡ true
or_true true = refl
or_true false = refl

module _ (old new : Device → ℕ) where
  told_by : (device : Device) → Rose (old device) (new device) → new device ≤ LAST → rose old new device ≡ (device, new device) ∷ []
  told_by device up few = ap (λ (b : Bool). cond b ((device, new device) ∷ []) []) (rose_so (old device) (new device) up few)

  -- a fault of the log, or of the pages
  pub told_log : Rose (old Log) (new Log) → new Log ≤ LAST → 0 < fault_times Log (new Log) (desk_faults old new)
  told_log up few =
      let all = times_append Log (new Log) (rose old new Log) (rose old new Pages) in
      let here : fault_times Log (new Log) (rose old new Log) ≡ one_fault Log (new Log) (Log, new Log) + 0 = ap (fault_times Log (new Log)) (told_by Log up few) in
      let one : one_fault Log (new Log) (Log, new Log) ≡ 1 = ap (λ (b : Bool). cond b 1 0) (eq-eqb (new Log) (new Log) refl) in
      omega (arith, all, here, one)

  pub told_pages : Rose (old Pages) (new Pages) → new Pages ≤ LAST → 0 < fault_times Pages (new Pages) (desk_faults old new)
  told_pages up few =
      let all = times_append Pages (new Pages) (rose old new Log) (rose old new Pages) in
      let here : fault_times Pages (new Pages) (rose old new Pages) ≡ one_fault Pages (new Pages) (Pages, new Pages) + 0 = ap (fault_times Pages (new Pages)) (told_by Pages up few) in
      let one : one_fault Pages (new Pages) (Pages, new Pages) ≡ 1 = ap (λ (b : Bool). cond b 1 0) (eq-eqb (new Pages) (new Pages) refl) in
      omega (arith, all, here, one)

pub open_is : (t u : Transaction) → Some (Open t) ≡ Some (Open u) → t ≡ u
open_is t u e = cc e

module _ {D : Type 0} (is_honest : D → Type 0) (state : D → State) (faults : D → ℕ) (who : Who) (tells : List (Device × ℕ) → Type 0) (old new : DeskSide D) where
  -- what the seat is told in the visit
  abbrev pub Told : List (Device × ℕ)
  Told = desk_faults (desk_counts faults old.core) (desk_counts faults new.core)

  abbrev pub Behind : Holding Work → Holding Work
  Behind mine = behind_desk (of_desk is_honest state faults) old new mine

  pub keeps_none : (mine : Holding Work) → HasOwn who tells old mine → ((t : Transaction) → work_at (slots_of new) who.session ≡ Some (Open t) → t.kept ≡ None) → KeptIsTold (Behind mine).work (Behind mine).faults
  keeps_none mine own none t d c is kept = absurd (cc (kept, none t (ap (work_at (slots_of new)) (sym own.number) ∙ is)))

  -- a transaction stays open; what it keeps it kept before, or its seat was told it in the visit
  pub keeps_open : (mine : Holding Work) → HasOwn who tells old mine → (t next : Transaction) → work_at (slots_of old) who.session ≡ Some (Open t) → work_at (slots_of new) who.session ≡ Some (Open next) → journal new ≡ journal old
      → ((d : Device) (c : ℕ) → next.kept ≡ Some (DiskFault d c) → (t.kept ≡ Some (DiskFault d c)) ⊎ (0 < fault_times d c Told)) → KeptIsTold (Behind mine).work (Behind mine).faults
  keeps_open mine own t next there now same from_ u d c is kept =
      let e : next ≡ u = open_is next u (sym now ∙ (ap (work_at (slots_of new)) (sym own.number) ∙ is)) in
      let all : (Behind mine).faults ≡ mine.faults ++ Told = told_still (journal old) (journal new) (mine.faults ++ Told) same in
      let sum = times_append d c mine.faults Told in
      subst (λ (fs : List (Device × ℕ)). 0 < fault_times d c fs) (sym all)
      (⊎_elim (λ before. let p = own.kept t d c (own.work ∙ there) before in omega (arith, sum, p)) (λ here. omega (arith, sum, here)) (from_ d c (ap (λ (x : Transaction). x.kept) e ∙ kept)))
