-- A drop that asks the desk until the log has room.
use Rattle.std.proofs.Common.{◌≡◌, ◌⊎◌, ◌∙◌, ℕ, Bool, true, cond, Option, Some, None, Result, Ok, Err, refl, sym, ap, subst, inl, inr, ⊎_elim}
use Rattle.std.specs.Prelude.{IfErr, MatchResult, OnOk, length}
use Rattle.atomic_table.specs.Seated.{TableId}
use Rattle.disk_model.specs.Disk.{State}
use Rattle.disk_model.specs.Moments.{Clock}
use Rattle.retro_base.specs.declared.device.Device.{Device}
use Rattle.retro_base.specs.declared.refusal.Refusal.{Refusal}
use Rattle.retro_base.specs.declared.refusal.Refusal.TheVariants.{DiskFault, NoSuchSnapshot, OutOfMemory, Pinned, Stopped}
use Rattle.retro_base.specs.declared.who.Who.{Who}
use Rattle.history.specs.declared.entry.Change.TheVariants.{Drop}
use Rattle.history.specs.declared.journal.FailedCall.TheVariants.{Append, Write}
use Rattle.history.specs.declared.journal.What.{What}
use Rattle.history.specs.declared.journal.What.TheVariants.{Dropped, Fault, Refused}
use Rattle.history.specs.Marks.{newest}
use Rattle.journal_book.specs.declared.work.Work.{Work}
use Rattle.journal_book.specs.declared.work.Work.TheVariants.{KeptDrop, Looking, Open}
use Rattle.journal_book.specs.Works.{work_at}
use Rattle.records.specs.Entries.{change_bytes}
use Rattle.desk.specs.Cause.{IsChangeRefusal}
use Rattle.txn_set.specs.declared.ledger.Ledger.{Ledger}
use Rattle.txn_set.specs.Ledger.{closed, drop_kept, given_up, is_closed, keeping_drop, keeps_drop}
use Rattle.txn_set.specs.WorksFit.{Closes}
use Rattle.store_core.specs.Drops.{HasEndedDrop, drop_line_refused, drop_refused_by}
use Rattle.turn.specs.Seats.{mine}
use Rattle.store.specs.RoundCalls.{DropDoes}
use Rattle.store.specs.Rounds.{AnswersAtLast, IsNoRoom, IsRoom, MayServe, Passes, tells_drop}
use Rattle.store.specs.Seats.{IsReady, Sat, Visits, slots_of}
use Rattle.store.proofs.Adding.{faulted_closed, kept_slot, slot_own}
use Rattle.store.proofs.Dropping.{err_is, kept_still, lines_tells, no_room_kept, some_kept, some_there}
use Rattle.store.proofs.Meeting.{work_stays}
use Rattle.store.proofs.Passing.{passes_quiet}
use Rattle.store.proofs.Reaching.{AnswersSo, DropSo, RoomRefused, RoundRefused}
use Rattle.store.proofs.Rooming.{drop_so}
use Rattle.store.proofs.Working.{closed_none, work_as}

kept_closes : (who : Who) (d : Device) (c : ℕ) (w : Option Work) → keeps_drop who w ≡ true → Closes who (Fault d c Write) w
kept_closes who d c None e = tt
kept_closes who d c (Some (Open t)) e = absurd (cc e)
kept_closes who d c (Some (Looking look)) e = absurd (cc e)
kept_closes who d c (Some (KeptDrop other)) e = refl

module _ {D : Type 0} (z : TableId) (who : Who) where
  -- a seat that keeps a drop's line may make rounds
  pub kept_serves : (s : Sat D) → keeps_drop who (mine s).work ≡ true → MayServe s who
  kept_serves s kept = record {
    closes = λ d c. kept_closes who d c (mine s).work kept;
    worker = λ none. absurd (cc (sym (ap (keeps_drop who) none) ∙ kept));
  }

  pub kept_on : (s0 s1 : Sat D) → Passes z s0 s1 → keeps_drop who (mine s0).work ≡ true → keeps_drop who (mine s1).work ≡ true
  kept_on s0 s1 passes kept = ap (keeps_drop who) (work_stays s0 s1 passes.stays) ∙ kept

module _ {D : Type 0} (is_honest : D → Type 0) (state : D → State) (faults : D → ℕ) (z : TableId) (remembers : Type 0) (clock : D → Clock) (who : Who) (below : ℕ) where
  abbrev Answer : Result (Unit {0}) Refusal → Sat D → Sat D → Type 0
  Answer r = Visits is_honest state faults z (DropDoes is_honest state faults remembers clock who below r)

  abbrev So : Result (Unit {0}) Refusal → Sat D → Sat D → Type 0
  So = AnswersSo is_honest state faults z who (DropDoes is_honest state faults remembers clock who below)

  abbrev pub Answers : Result (Unit {0}) Refusal → Sat D → Sat D → Type 0
  Answers = AnswersAtLast is_honest state faults z remembers clock who (DropDoes is_honest state faults remembers clock who below)

  -- a drop that finds no room again leaves nothing
  pub again_passes : (s0 s1 : Sat D) → IsReady z s0 → who.session ≡ s0.number → keeps_drop who (mine s0).work ≡ true → (why : Refusal) → IsRoom why → Answer (Err why) s0 s1 → Passes z s0 s1
  again_passes s0 s1 ready own kept why room v =
      let l : Ledger = v.before.core.ledger in
      let there : keeps_drop who (work_at (slots_of v.before) who.session) ≡ true = ap (keeps_drop who) (ap (work_at (slots_of v.before)) own ∙ sym v.visited.work) ∙ kept in
      let same : drop_kept who l ≡ l = ap (λ (b : Bool). cond b l (keeping_drop who (given_up who l))) there in
      passes_quiet is_honest state faults z s0 s1 v.before v.after ready v.visited
      (no_room_kept is_honest state faults remembers clock who v.before v.after v.visited.start v.visited.stands below (Err why) (kept_still who (work_at (slots_of v.before) who.session) there)
      (λ d c e. absurd (subst IsRoom (err_is {T = Unit {0}} (Err why) why (DiskFault d c) refl e) room)) v.does why refl room ∙ same)

  -- the line of a round's fault closes what was kept
  fault_none : (s0 s1 : Sat D) → who.session ≡ s0.number → keeps_drop who (mine s0).work ≡ true → (d : Device) (c : ℕ) → RoundRefused is_honest state faults z who (DiskFault d c) s0 s1 → (mine s1).work ≡ None
  fault_none s0 s1 own kept d c e =
      let v = e.0.visits in
      let here : keeps_drop who (mine e.0.middle).work ≡ true = kept_on z who s0 e.0.middle e.0.passes kept in
      let mine_is : who.session ≡ e.0.middle.number = own ∙ sym e.0.passes.stays.same.number in
      let there : keeps_drop who (work_at (slots_of v.before) who.session) ≡ true = ap (keeps_drop who) (ap (work_at (slots_of v.before)) mine_is ∙ sym v.visited.work) ∙ here in
      let some = some_there (work_at (slots_of v.before) who.session) (some_kept who (work_at (slots_of v.before) who.session) there) in
      closed_none is_honest state faults z e.0.middle s1 v.before v.after v.visited who mine_is (Fault d c Write) (v.does ∙ faulted_closed who v.before.core.ledger d c Write some.0 some.1)

  -- a round that was refused leaves nothing open
  pub refused_closed : (s0 s1 : Sat D) → who.session ≡ s0.number → keeps_drop who (mine s0).work ≡ true → (why : Refusal) → RoundRefused is_honest state faults z who why s0 s1 → is_closed (mine s1).work ≡ true
  refused_closed s0 s1 own kept (DiskFault d c) e = ap is_closed (fault_none s0 s1 own kept d c e)
  refused_closed s0 s1 own kept (Stopped d c) e = kept_still who (mine s1).work (kept_on z who s0 s1 e kept)
  refused_closed s0 s1 own kept OutOfMemory e = kept_still who (mine s1).work (kept_on z who s0 s1 e kept)
  refused_closed s0 s1 own kept _ e = absurd e

  -- ---- what is open behind a drop that was asked for

  module _ (s0 s1 : Sat D) (own : who.session ≡ s0.number) (closed_before : is_closed (mine s0).work ≡ true) (r : Result (Unit {0}) Refusal) (v : Answer r s0 s1) where
    abbrev Before : Ledger
    Before = v.before.core.ledger

    closed_there : is_closed (work_at (slots_of v.before) who.session) ≡ true
    closed_there = ap is_closed (ap (work_at (slots_of v.before)) own ∙ sym v.visited.work) ∙ closed_before

    -- where it found no room, its line
    pub keeps_line : (why : Refusal) → r ≡ Err why → IsRoom why → keeps_drop who (mine s1).work ≡ true
    keeps_line why e room =
        let same = no_room_kept is_honest state faults remembers clock who v.before v.after v.visited.start v.visited.stands below r closed_there
        (λ d c f. absurd (subst IsRoom (err_is r why (DiskFault d c) e f) room)) v.does why e room in
        ap (keeps_drop who) (work_as is_honest state faults z s0 s1 v.before v.after v.visited who own (drop_kept who Before) _ same refl) ∙ kept_slot who Before

    closes_so : (what : What) → v.after.core.ledger ≡ closed who what (drop_kept who Before) → (mine s1).work ≡ None
    closes_so what e = work_as is_honest state faults z s0 s1 v.before v.after v.visited who own _ None e (slot_own (drop_kept who Before).works.slots who.session None)

    -- where its own line tells it, nothing
    pub told_none : tells_drop r ≡ true → (mine s1).work ≡ None
    told_none tells = at (drop_line_refused who Before) refl where
      Newest : ℕ
      Newest = newest v.before.core.desk.base.marks

      no_memory : (why : Refusal) → r ≡ Err why → why ≡ OutOfMemory → ⊥
      no_memory why e m = absurd (cc (subst (λ (x : Result (Unit {0}) Refusal). tells_drop x ≡ true) (e ∙ ap Err m) tells))

      cause : drop_line_refused who Before ≡ None → drop_refused_by Newest below Before ≡ None → (why : Refusal) → r ≡ Err why
          → IsChangeRefusal v.before.core.desk.log.log.area.log (length (change_bytes v.before.core.desk.log.log.version (Drop below))) (faults v.before.core.desk.log.disk) (faults v.after.core.desk.log.disk) why
      cause room free why e = subst (λ (x : Result (Unit {0}) Refusal). MatchResult x (λ _. faults v.after.core.desk.log.disk ≡ faults v.before.core.desk.log.disk)
          (IsChangeRefusal v.before.core.desk.log.log.area.log (length (change_bytes v.before.core.desk.log.log.version (Drop below))) (faults v.before.core.desk.log.disk) (faults v.after.core.desk.log.disk))) e (v.does.cause (record { room = room; free = free }))

      ended : drop_line_refused who Before ≡ None → drop_refused_by Newest below Before ≡ None → (why : Refusal) → r ≡ Err why → HasEndedDrop who below why (drop_kept who Before) v.after.core.ledger → (mine s1).work ≡ None
      ended room free (DiskFault d c) e end =
          let some = some_there (work_at (drop_kept who Before).works.slots who.session) (some_kept who _ (kept_slot who Before)) in
          closes_so (Fault d c (Append (Drop below))) (end.other (λ m. absurd (cc m)) ∙ faulted_closed who (drop_kept who Before) d c (Append (Drop below)) some.0 some.1)
      ended room free (Stopped d c) e end = absurd (cause room free _ e).1
      ended room free (NoSuchSnapshot n m) e end = absurd (cause room free _ e).1
      ended room free (Pinned n m) e end = absurd (cause room free _ e).1
      ended room free _ e end = absurd (cc (subst (λ (x : Result (Unit {0}) Refusal). tells_drop x ≡ true) e tells))

      answered : (room : drop_line_refused who Before ≡ None) (refused : Option Refusal) → drop_refused_by Newest below Before ≡ refused → (x : Result (Unit {0}) Refusal) → r ≡ x → (mine s1).work ≡ None
      answered room refused is (Ok u) e =
          closes_so (Dropped below) (subst (λ (x : Result (Unit {0}) Refusal). OnOk x ((drop_refused_by Newest below Before ≡ None) × (v.after.core.ledger ≡ closed who (Dropped below) (drop_kept who Before)))) e v.does.dropped.done).1
      answered room None is (Err why) e = ⊎_elim (ended room is why e) (λ (g : (why ≡ OutOfMemory) × (v.after.core.ledger ≡ given_up who Before)). absurd (no_memory why e g.0))
          (subst (λ (x : Result (Unit {0}) Refusal). IfErr x (λ w. HasEndedDrop who below w (drop_kept who Before) v.after.core.ledger ⊎ ((w ≡ OutOfMemory) × (v.after.core.ledger ≡ given_up who Before)))) e (v.does.dropped.kept room is))
      answered room (Some because) is (Err why) e = ⊎_elim (λ (l : (why ≡ because) × (v.after.core.ledger ≡ closed who (Refused because) (drop_kept who Before))). closes_so (Refused because) l.1)
          (λ (g : (why ≡ OutOfMemory) × (v.after.core.ledger ≡ given_up who Before)). absurd (no_memory why e g.0))
          (subst (λ (x : Result (Unit {0}) Refusal). IfErr x (λ o. ((o ≡ because) × (v.after.core.ledger ≡ closed who (Refused because) (drop_kept who Before))) ⊎ ((o ≡ OutOfMemory) × (v.after.core.ledger ≡ given_up who Before)))) e (v.does.dropped.refused because room is))

      at : (refused : Option Refusal) → drop_line_refused who Before ≡ refused → (mine s1).work ≡ None
      at None room = answered room (drop_refused_by Newest below Before) refl r refl
      at (Some why) full = absurd (lines_tells (λ (w : Refusal). tells_drop (Err w) ≡ true) (given_up who Before).book _ (λ a b t. absurd (cc t))
          (why, full, subst (λ (x : Result (Unit {0}) Refusal). tells_drop x ≡ true) (v.does.dropped.full why full).0 tells))

  -- ---- a drop as a whole

  -- behind the first asking nothing is left until the last, or but for the line of a fault
  pub drop_as : (r : Result (Unit {0}) Refusal) (s0 s1 : Sat D) → IsReady z s0 → who.session ≡ s0.number → is_closed (mine s0).work ≡ true → Answers r s0 s1 → DropSo is_honest state faults z who (DropDoes is_honest state faults remembers clock who below) r s0 s1
  drop_as r s0 s1 ready own closed_before answers = drop_so is_honest state faults z remembers clock who (DropDoes is_honest state faults remembers clock who below) r
      (λ s. (who.session ≡ s.number) × (keeps_drop who (mine s).work ≡ true))
      (λ full a b room here is v. again_passes a b here is.0 is.1 full room v)
      (λ a b passes is. (is.0 ∙ sym passes.stays.same.number, kept_on z who a b passes is.1)) answers
      (λ full s room v. (own ∙ sym v.visited.same.number, keeps_line s0 s own closed_before (Err full) v full refl room))

  so_none : (s0 s1 : Sat D) → who.session ≡ s0.number → is_closed (mine s0).work ≡ true → (r : Result (Unit {0}) Refusal) → DropSo is_honest state faults z who (DropDoes is_honest state faults remembers clock who below) r s0 s1 → tells_drop r ≡ true → (mine s1).work ≡ None
  so_none s0 s1 own open_before r (inl (v, none)) tells = told_none s0 s1 own open_before r v tells
  so_none s0 s1 own open_before r (inr (first, kept, room, v, answers)) tells = found first room v answers where
    mine_kept : who.session ≡ kept.number
    mine_kept = own ∙ sym v.visited.same.number

    again : keeps_drop who (mine kept).work ≡ true → So r kept s1 → (mine s1).work ≡ None
    again line (inl (reaches, none)) =
        told_none reaches.middle s1 (mine_kept ∙ sym reaches.passes.stays.same.number) (kept_still who (mine reaches.middle).work (kept_on z who kept reaches.middle reaches.passes line)) r reaches.visits tells
    again line (inr (why, e, refused)) = at why (subst (λ (x : Result (Unit {0}) Refusal). tells_drop x ≡ true) e tells) refused where
      at : (why : Refusal) → tells_drop (Err why) ≡ true → RoomRefused is_honest state faults z who why kept s1 → (mine s1).work ≡ None
      at (DiskFault d c) t f = fault_none kept s1 mine_kept line d c f
      at (Stopped d c) t f = absurd f
      at OutOfMemory t f = absurd (cc t)
      at _ t f = absurd f

    found : (first : Result (Unit {0}) Refusal) → IsNoRoom first → Answer first s0 kept → So r kept s1 → (mine s1).work ≡ None
    found (Ok x) room v answers = absurd room
    found (Err why) room v answers = again (keeps_line s0 kept own open_before (Err why) v why refl room) answers

  -- a drop that its line tells leaves nothing open
  pub asks_none : (s0 s1 : Sat D) → IsReady z s0 → who.session ≡ s0.number → is_closed (mine s0).work ≡ true → (r : Result (Unit {0}) Refusal) → Answers r s0 s1 → tells_drop r ≡ true → (mine s1).work ≡ None
  asks_none s0 s1 ready own closed_before r answers tells = so_none s0 s1 own closed_before r (drop_as r s0 s1 ready own closed_before answers) tells
