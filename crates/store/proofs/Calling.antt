-- Each call of the core may be made in a visit to the desk.
use Rattle.std.proofs.Common.{◌≡◌, ◌≤◌, ◌<◌, ◌∙◌, ◌++◌, ℕ, Bool, true, false, cond, eqb, List, map, Option, Some, None, Result, Ok, Err, refl, sym, ap, subst, ⊎_elim, arith}
use Rattle.std.proofs.lemmas.Bool.{eqb-true}
use Rattle.disk_model.specs.Disk.{State}
use Rattle.retro_base.specs.declared.device.Device.{Device}
use Rattle.retro_base.specs.declared.device.Device.TheVariants.{Log, Pages, Pagelog, Maplog, Cabinet}
use Rattle.retro_base.specs.declared.refusal.Refusal.{Refusal}
use Rattle.retro_base.specs.declared.who.Who.{Who}
use Rattle.history.specs.declared.entry.Mark.{Mark}
use Rattle.history.specs.declared.journal.What.{What}
use Rattle.history.specs.declared.journal.What.TheVariants as whats
use Rattle.history.specs.Lines.{same_device}
use Rattle.history.specs.Marks.{newest, oldest}
use Rattle.journal_book.specs.declared.work.Transaction.{Transaction}
use Rattle.journal_book.specs.declared.work.Work.{Work}
use Rattle.journal_book.specs.declared.work.Work.TheVariants.{Open}
use Rattle.journal_book.specs.Book.{lines_refused}
use Rattle.journal_book.specs.Works.{work_at}
use Rattle.desk.specs.declared.desk.RunningDesk.{RunningDesk}
use Rattle.txn_set.specs.declared.ending.Ending.{Ending}
use Rattle.txn_set.specs.declared.ending.Ending.TheVariants as ending
use Rattle.txn_set.specs.declared.ledger.Ledger.{Ledger}
use Rattle.txn_set.specs.Ledger.{closed, ended, fresh, given_up, is_idle, looking, with_told_line}
use Rattle.txn_set.specs.Refused.{look_refused}
use Rattle.txn_set.proofs.FitSteps.{idle_none}
use Rattle.store_core.specs.declared.desk_core.Core.{Core}
use Rattle.store_core.specs.Calls.{HasLooked, HasOpened}
use Rattle.turn.specs.declared.view.Holding.{Holding}
use Rattle.turn.specs.Faults.{fault_times, line_fault, one_fault}
use Rattle.turn.proofs.Faults.{times_append}
use Rattle.store.specs.declared.desk_side.DeskSide.{DeskSide}
use Rattle.store.specs.Calls.{BeginDoes, LookAllDoes, LookDoes, UnlookDoes}
use Rattle.store.specs.Seats.{EndingIsTold, HasOwn, IsVisit, KeptIsTold, always, journal, slots_of}
use Rattle.store.specs.Sides.{DeskStands}
use Rattle.store.specs.Start.{desk_counts}
use Rattle.store.proofs.Adding.{AddsOwn, adds_closed, adds_given, adds_opened, adds_told, slot_own}
use Rattle.store.proofs.Leaving.{IsToldIn, as_honest, may_leave, stands_stays}
use Rattle.store.proofs.Telling.{Behind, Told, keeps_none, open_is}
use Rattle.store.proofs.Trying.{ended_ends, trying_began}

module _ {D : Type 0} (faults : D → ℕ) (old new : Core D) where
  pub counts_up : faults old.desk.log.disk ≤ faults new.desk.log.disk → faults old.desk.pool.file.disk ≤ faults new.desk.pool.file.disk → (d : Device) → desk_counts faults old d ≤ desk_counts faults new d
  counts_up log pages Log = log
  counts_up log pages Pages = pages
  counts_up log pages Pagelog = omega arith
  counts_up log pages Maplog = omega arith
  counts_up log pages Cabinet = omega arith

  pub counts_same : new.desk ≡ old.desk → (d : Device) → desk_counts faults old d ≤ desk_counts faults new d
  counts_same e = counts_up (let q = ap (λ (r : RunningDesk D). faults r.log.disk) e in omega arith) (let q = ap (λ (r : RunningDesk D). faults r.pool.file.disk) e in omega arith)

module _ {D : Type 0} (is_honest : D → Type 0) (state : D → State) (faults : D → ℕ) (who : Who) (tells : List (Device × ℕ) → Type 0) (old new : DeskSide D) (start : new.start ≡ old.start) where
  -- a visit, from what the call adds and what is kept
  pub visit : DeskStands is_honest state new → ((d : Device) → desk_counts faults old.core d ≤ desk_counts faults new.core d) → new.core.desk.queue.first ≡ old.core.desk.queue.first
      → ((mine : Holding Work) → HasOwn who tells old mine → AddsOwn who.session (IsToldIn (mine.faults ++ Told is_honest state faults who tells old new)) old.core.ledger new.core.ledger)
      → ((mine : Holding Work) → HasOwn who tells old mine → KeptIsTold (Behind is_honest state faults who tells old new mine).work (Behind is_honest state faults who tells old new mine).faults)
      → IsVisit is_honest state faults who tells old new
  visit stands counts acked adds keeps = record {
    leaves = λ most mine own later le. may_leave is_honest state old new start faults who tells most mine stands counts acked (adds mine own) own later le;
    keeps = keeps;
  }

is_device : (d e : Device) → same_device d e ≡ true → d ≡ e
is_device Log Log is = refl
is_device Pages Pages is = refl
is_device Pagelog Pagelog is = refl
is_device Maplog Maplog is = refl
is_device Cabinet Cabinet is = refl
is_device _ _ is = absurd (cc is)

one_is : (d : Device) (c : ℕ) (e : Device) (k : ℕ) → 0 < one_fault d c (e, k) → (e ≡ d) × (k ≡ c)
one_is d c e k h = go (same_device e d) refl (eqb k c) refl where
  go : (t : Bool) → same_device e d ≡ t → (u : Bool) → eqb k c ≡ u → (e ≡ d) × (k ≡ c)
  go true is true eq = (is_device e d is, eqb-true k c eq)
  go true is false eq = absurd (let z : one_fault d c (e, k) ≡ 0 = ap (λ (b : Bool). cond b (cond (eqb k c) 1 0) 0) is ∙ ap (λ (b : Bool). cond b 1 0) eq in omega (arith, z, h))
  go false is u eq = absurd (let z : one_fault d c (e, k) ≡ 0 = ap (λ (b : Bool). cond b (cond (eqb k c) 1 0) 0) is in omega (arith, z, h))

pub fault_is : (faults : List (Device × ℕ)) (device : Device) (count : ℕ) → 0 < fault_times device count faults → (d : Device) (c : ℕ) → 0 < one_fault d c (device, count) → 0 < fault_times d c faults
fault_is faults device count there d c p = let same = one_is d c device count p in subst (λ (x : Device × ℕ). 0 < fault_times x.0 x.1 faults) (λ i. (same.0 i, same.1 i)) there

pub told_more : (faults more : List (Device × ℕ)) (d : Device) (c : ℕ) → 0 < fault_times d c faults → 0 < fault_times d c (faults ++ more)
told_more faults more d c p = let sum = times_append d c faults more in omega (arith, sum, p)

tells_none : (faults : List (Device × ℕ)) (what : What) → ((d : Device) (c : ℕ) → line_fault d c what ≡ 0) → IsToldIn faults what
tells_none faults what none d c p = absurd (let e = none d c in omega (arith, e, p))

-- a work that is no open transaction
abbrev pub IsClosed : Option Work → Type 0
IsClosed (Some (Open t)) = ⊥
IsClosed _ = Unit {0}

closed_none : (work : Option Work) → IsClosed work → (t : Transaction) → work ≡ Some (Open t) → t.kept ≡ None
closed_none work closed t e = absurd (subst IsClosed e closed)

module _ {D : Type 0} (is_honest : D → Type 0) (state : D → State) (faults : D → ℕ) (who : Who) (old new : DeskSide D) (start : new.start ≡ old.start) (stands : DeskStands is_honest state old) where
  module _ (tells : List (Device × ℕ) → Type 0) where
    KeepsAll : Type 0
    KeepsAll = (mine : Holding Work) → HasOwn who tells old mine → KeptIsTold (Behind is_honest state faults who tells old new mine).work (Behind is_honest state faults who tells old new mine).faults

    pub closes : IsClosed (work_at (slots_of new) who.session) → (mine : Holding Work) → HasOwn who tells old mine
        → KeptIsTold (Behind is_honest state faults who tells old new mine).work (Behind is_honest state faults who tells old new mine).faults
    closes closed mine own = keeps_none is_honest state faults who tells old new mine own (λ t e. closed_none (work_at (slots_of new) who.session) closed t e)

  pub begins : (result : Result (Unit {0}) Refusal) → is_idle who (work_at (slots_of old) who.session) ≡ true → BeginDoes is_honest state who result old.core new.core → IsVisit is_honest state faults who always old new
  begins result idle does = at result does.begun where
    stays : DeskStands is_honest state new
    stays = stands_stays is_honest state old new start does.stays (as_honest is_honest old.core new.core does.desk) stands

    acked : new.core.desk.queue.first ≡ old.core.desk.queue.first
    acked = ap (λ (r : RunningDesk D). r.queue.first) does.desk

    work : Work
    work = fresh who (journal old)

    at : (r : Result (Unit {0}) Refusal) → HasOpened who whats.Began work old.core.ledger new.core.ledger r → IsVisit is_honest state faults who always old new
    at (Ok x) opens = visit is_honest state faults who always old new start stays (counts_same faults old.core new.core does.desk) acked
        (λ mine own. adds_opened who (IsToldIn _) old.core.ledger new.core.ledger whats.Began work (tells_none _ whats.Began (λ d c. refl)) tt (refl, trying_began who (journal old)) opens.done)
        (λ mine own. keeps_none is_honest state faults who always old new mine own
        (λ t e. ap (λ (x : Transaction). x.kept) (sym (open_is _ t (sym (ap (λ (l : Ledger). work_at l.works.slots who.session) opens.done ∙ slot_own (given_up who old.core.ledger).works.slots who.session (Some work)) ∙ e)))))
    at (Err why) opens = visit is_honest state faults who always old new start stays (counts_same faults old.core new.core does.desk) acked
        (λ mine own. adds_given who (IsToldIn _) old.core.ledger new.core.ledger opens.stays)
        (closes always (subst IsClosed (sym (ap (λ (l : Ledger). work_at l.works.slots who.session) opens.stays ∙ idle_none old.core.ledger who idle)) tt))

  pub looks_all : (result : Result (List Mark) Refusal) → is_idle who (work_at (slots_of old) who.session) ≡ true → LookAllDoes is_honest state who result old.core new.core → IsVisit is_honest state faults who always old new
  looks_all result idle does = at result does.looked where
    stays : DeskStands is_honest state new
    stays = stands_stays is_honest state old new start does.stays (as_honest is_honest old.core new.core does.desk) stands

    acked : new.core.desk.queue.first ≡ old.core.desk.queue.first
    acked = ap (λ (r : RunningDesk D). r.queue.first) does.desk

    at : (r : Result (List Mark) Refusal) → HasOpened who whats.LookedAll (looking who (journal old) (map (λ (m : Mark). m.number) old.core.desk.base.marks)) old.core.ledger new.core.ledger r → IsVisit is_honest state faults who always old new
    at (Ok x) opens = visit is_honest state faults who always old new start stays (counts_same faults old.core new.core does.desk) acked
        (λ mine own. adds_opened who (IsToldIn _) old.core.ledger new.core.ledger whats.LookedAll _ (tells_none _ whats.LookedAll (λ d c. refl)) tt tt opens.done)
        (closes always (subst IsClosed (sym (ap (λ (l : Ledger). work_at l.works.slots who.session) opens.done ∙ slot_own (given_up who old.core.ledger).works.slots who.session _)) tt))
    at (Err why) opens = visit is_honest state faults who always old new start stays (counts_same faults old.core new.core does.desk) acked
        (λ mine own. adds_given who (IsToldIn _) old.core.ledger new.core.ledger opens.stays)
        (closes always (subst IsClosed (sym (ap (λ (l : Ledger). work_at l.works.slots who.session) opens.stays ∙ idle_none old.core.ledger who idle)) tt))

  pub looks : (number : ℕ) (result : Result ℕ Refusal) → is_idle who (work_at (slots_of old) who.session) ≡ true → LookDoes is_honest state who number result old.core new.core → IsVisit is_honest state faults who always old new
  looks number result idle does = at result does.looked where
    stays : DeskStands is_honest state new
    stays = stands_stays is_honest state old new start does.stays (as_honest is_honest old.core new.core does.desk) stands

    acked : new.core.desk.queue.first ≡ old.core.desk.queue.first
    acked = ap (λ (r : RunningDesk D). r.queue.first) does.desk

    given : new.core.ledger ≡ given_up who old.core.ledger → IsVisit is_honest state faults who always old new
    given e = visit is_honest state faults who always old new start stays (counts_same faults old.core new.core does.desk) acked
        (λ mine own. adds_given who (IsToldIn _) old.core.ledger new.core.ledger e)
        (closes always (subst IsClosed (sym (ap (λ (l : Ledger). work_at l.works.slots who.session) e ∙ idle_none old.core.ledger who idle)) tt))

    refused : (why : Refusal) → new.core.ledger ≡ with_told_line who (whats.Refused why) (given_up who old.core.ledger) → IsVisit is_honest state faults who always old new
    refused why e = visit is_honest state faults who always old new start stays (counts_same faults old.core new.core does.desk) acked
        (λ mine own. adds_told who (IsToldIn _) old.core.ledger new.core.ledger (whats.Refused why) (tells_none _ (whats.Refused why) (λ d c. refl)) tt (idle_none old.core.ledger who idle) e)
        (closes always (subst IsClosed (sym (ap (λ (l : Ledger). work_at l.works.slots who.session) e ∙ idle_none old.core.ledger who idle)) tt))

    at : (r : Result ℕ Refusal) → HasLooked who number (oldest old.core.desk.base.marks) (newest old.core.desk.base.marks) old.core.ledger new.core.ledger r → IsVisit is_honest state faults who always old new
    at (Ok x) looked = visit is_honest state faults who always old new start stays (counts_same faults old.core new.core does.desk) acked
        (λ mine own. adds_opened who (IsToldIn _) old.core.ledger new.core.ledger (whats.Looked number) _ (tells_none _ (whats.Looked number) (λ d c. refl)) tt tt looked.done.1)
        (closes always (subst IsClosed (sym (ap (λ (l : Ledger). work_at l.works.slots who.session) looked.done.1 ∙ slot_own (given_up who old.core.ledger).works.slots who.session _)) tt))
    at (Err why) looked = full (lines_refused (given_up who old.core.ledger).book 2) refl where
      asked : (r : Option Refusal) → look_refused number (oldest old.core.desk.base.marks) (newest old.core.desk.base.marks) ≡ r → lines_refused (given_up who old.core.ledger).book 2 ≡ None → IsVisit is_honest state faults who always old new
      asked None e none = given (looked.memory none e).1
      asked (Some because) e none = ⊎_elim (λ x. refused because x.1) (λ x. given x.1) (looked.refused because none e)

      full : (r : Option Refusal) → lines_refused (given_up who old.core.ledger).book 2 ≡ r → IsVisit is_honest state faults who always old new
      full (Some because) e = given (looked.full because e).1
      full None e = asked (look_refused number (oldest old.core.desk.base.marks) (newest old.core.desk.base.marks)) refl e

  -- the line that ends a look tells what its seat was told
  ends_told : (why : Ending) (faults : List (Device × ℕ)) → EndingIsTold why faults → IsToldIn faults (ended why)
  ends_told ending.Asked fs t d c p = absurd (omega (arith, p))
  ends_told (ending.Refused why) fs t d c p = absurd (omega (arith, p))
  ends_told (ending.Failed device count) fs t d c p = fault_is fs device count t d c p

  pub unlooks : (why : Ending) → UnlookDoes is_honest state who why old.core new.core → IsVisit is_honest state faults who (EndingIsTold why) old new
  unlooks why does = visit is_honest state faults who (EndingIsTold why) old new start (stands_stays is_honest state old new start does.stays (as_honest is_honest old.core new.core does.desk) stands) (counts_same faults old.core new.core does.desk) (ap (λ (r : RunningDesk D). r.queue.first) does.desk)
      (λ mine own. adds_closed who (IsToldIn _) old.core.ledger new.core.ledger (ended why) (λ d c p. told_more mine.faults _ d c (ends_told why mine.faults own.told d c p)) (λ tried. ended_ends (journal old) who why) does.closed)
      (closes (EndingIsTold why) (subst IsClosed (sym (ap (λ (l : Ledger). work_at l.works.slots who.session) does.closed ∙ slot_own old.core.ledger.works.slots who.session None)) tt))
