-- What a seat has open behind its calls.
use Rattle.std.proofs.Common.{◌≡◌, ◌∙◌, ◌||◌, ℕ, Bool, true, false, List, Option, Some, None, Result, Ok, Err, refl, sym, ap, eq-eqb}
use Rattle.std.specs.Prelude.{IfErr, OnOk, OnErr}
use Rattle.atomic_table.specs.Seated.{TableId}
use Rattle.disk_model.specs.Disk.{State}
use Rattle.disk_model.specs.Moments.{Clock}
use Rattle.retro_base.specs.declared.refusal.Refusal.{Refusal}
use Rattle.retro_base.specs.declared.who.Who.{Who}
use Rattle.history.specs.declared.entry.Mark.{Mark}
use Rattle.history.specs.declared.journal.What.{What}
use Rattle.journal_book.specs.declared.work.Transaction.{Transaction}
use Rattle.journal_book.specs.declared.work.Work.{Work}
use Rattle.journal_book.specs.Works.{work_at}
use Rattle.txn_set.specs.declared.ledger.Ledger.{Ledger}
use Rattle.txn_set.specs.Ledger.{closed, given_up, is_idle, keeps_drop, kept_behind}
use Rattle.txn_set.proofs.FitSteps.{idle_none}
use Rattle.store_core.specs.Calls.{HasAnswered}
use Rattle.turn.specs.declared.view.Holding.{Holding}
use Rattle.turn.specs.Seats.{mine}
use Rattle.store.specs.declared.desk_side.DeskSide.{DeskSide}
use Rattle.store.specs.Calls.{BeginDoes, CommitDoes, LookAllDoes, LookDoes, refused_so}
use Rattle.store.specs.Past.{IsPinnedBy}
use Rattle.store.specs.Rounds.{IsRoom}
use Rattle.store.specs.Seats.{IsLookingIn, IsOpenIn, Sat, Visited, slots_of}
use Rattle.store.proofs.Trying.{kept_who}
use Rattle.store.proofs.Adding.{slot_own}

module _ {D : Type 0} (is_honest : D → Type 0) (state : D → State) (faults : D → ℕ) (z : TableId) (s0 s2 : Sat D) (d0 d1 : DeskSide D) (v : Visited is_honest state faults z s0 s2 d0 d1) (who : Who) (own : who.session ≡ s0.number) where
  pub work_now : (mine s2).work ≡ work_at (slots_of d1) who.session
  work_now =
      let number : (mine s0).number ≡ s0.number = sym (ap (λ (h : Holding Work). h.number) v.mine) ∙ (v.ready.rests.seat.number ∙ v.same.number) in
      ap (λ (h : Holding Work). h.work) v.mine ∙ ap (work_at (slots_of d1)) (number ∙ sym own)

  pub work_as : (l : Ledger) (w : Option Work) → d1.core.ledger ≡ l → work_at l.works.slots who.session ≡ w → (mine s2).work ≡ w
  work_as l w e is = work_now ∙ (ap (λ (x : Ledger). work_at x.works.slots who.session) e ∙ is)

  pub begun_open : (result : Result (Unit {0}) Refusal) → BeginDoes is_honest state who result d0.core d1.core → OnOk result (IsOpenIn s2 who)
  begun_open (Ok x) does = record { transaction = _; open_there = work_as _ _ does.begun.done (slot_own (given_up who d0.core.ledger).works.slots who.session _); is_of = refl }
  begun_open (Err why) does = tt

  pub begun_idle : (result : Result (Unit {0}) Refusal) → is_idle who (work_at (slots_of d0) who.session) ≡ true → BeginDoes is_honest state who result d0.core d1.core → OnErr result (is_idle who (mine s2).work ≡ true)
  begun_idle (Ok x) idle does = tt
  begun_idle (Err why) idle does = ap (is_idle who) (work_as _ None does.begun.stays (idle_none d0.core.ledger who idle))

  pub answered_open : (t next : Transaction) (refused : Option Refusal) (result : Result (Unit {0}) Refusal) → t.who ≡ who → next.who ≡ t.who → HasAnswered who t next refused d0.core.ledger d1.core.ledger result → IsOpenIn s2 who
  answered_open t next refused (Ok x) is same answered = record { transaction = next; open_there = work_as _ _ answered.allowed.1 (slot_own (slots_of d0) who.session _); is_of = same ∙ is }
  answered_open t next refused (Err why) is same answered = record { transaction = kept_behind why t; open_there = work_as _ _ answered.kept (slot_own (slots_of d0) who.session _); is_of = kept_who why t ∙ is }

  pub closed_none : (what : What) → d1.core.ledger ≡ closed who what d0.core.ledger → (mine s2).work ≡ None
  closed_none what e = work_as _ None e (slot_own (slots_of d0) who.session None)

  pub looked_looking : (number : ℕ) (result : Result ℕ Refusal) → LookDoes is_honest state who number result d0.core d1.core → OnOk result (IsLookingIn s2 who × IsPinnedBy s2 number)
  looked_looking number (Ok x) does =
      let there = work_as _ _ does.looked.done.1 (slot_own (given_up who d0.core.ledger).works.slots who.session _) in
      (record { look = _; open_there = there; is_of = refl }, record { look = _; there = there; pinned = ap (λ (b : Bool). b || false) (eq-eqb number number refl) })
  looked_looking number (Err why) does = tt

  pub committed_none : (remembers : Type 0) (clock : D → Clock) (label : Option (List ℕ)) (t : Transaction) (result : Result (Option ℕ) Refusal) → CommitDoes is_honest state faults remembers clock who label t result d0.core d1.core → OnOk result ((mine s2).work ≡ None)
  committed_none remembers clock label t (Err why) does = tt
  committed_none remembers clock label t (Ok x) does = at (refused_so is_honest state faults d0.core t label) refl where
    at : (r : Option Refusal) → refused_so is_honest state faults d0.core t label ≡ r → (mine s2).work ≡ None
    at (Some why) e = absurd (cc (does.refused why e).0)
    at None e = work_as _ None (does.makes e).ended (slot_own (slots_of d0) who.session None)

  pub all_looking : (result : Result (List Mark) Refusal) → LookAllDoes is_honest state who result d0.core d1.core → OnOk result (IsLookingIn s2 who)
  all_looking (Ok x) does = record { look = _; open_there = work_as _ _ does.looked.done (slot_own (given_up who d0.core.ledger).works.slots who.session _); is_of = refl }
  all_looking (Err why) does = tt

  -- the line that a drop keeps is the seat's
  pub dropped_kept : (result : Result (Unit {0}) Refusal) → IfErr result (λ why. IsRoom why → keeps_drop who (work_at (slots_of d1) who.session) ≡ true) → IfErr result (λ why. IsRoom why → keeps_drop who (mine s2).work ≡ true)
  dropped_kept (Ok x) kept = tt
  dropped_kept (Err why) kept = λ room. ap (keeps_drop who) work_now ∙ kept room
