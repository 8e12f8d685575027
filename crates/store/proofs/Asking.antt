-- A commit that asks the desk until the log has room.
use Rattle.std.proofs.Common.{◌≡◌, ◌∙◌, ◌||◌, ℕ, Bool, true, false, cond, List, Option, Some, None, Result, Err, refl, sym, ap, subst}
use Rattle.std.specs.Prelude.{is_some, length, nat_lt, option_map}
use Rattle.std.specs.Option.{option_or}
use Rattle.atomic_table.specs.Seated.{TableId}
use Rattle.disk_model.specs.Disk.{State}
use Rattle.disk_model.specs.Moments.{Clock}
use Rattle.retro_base.specs.declared.device.Device.{Device}
use Rattle.retro_base.specs.declared.refusal.Refusal.{Refusal}
use Rattle.retro_base.specs.declared.refusal.Refusal.TheVariants.{NoRoom, Stopped}
use Rattle.retro_base.specs.declared.who.Who.{Who}
use Rattle.gate_log.specs.Cause.{IsDiskFault}
use Rattle.history.specs.declared.journal.FailedCall.TheVariants.{Write}
use Rattle.history.specs.declared.journal.Line.{Line}
use Rattle.history.specs.declared.journal.What.TheVariants.{Fault}
use Rattle.history.specs.declared.stop.Stop.{Stop}
use Rattle.history.specs.declared.writes.PageImage.{PageImage}
use Rattle.history.specs.Lines.{first_stop}
use Rattle.journal_book.specs.declared.work.Transaction.{Transaction}
use Rattle.journal_book.specs.declared.work.Work.{Work}
use Rattle.journal_book.specs.declared.work.Work.TheVariants.{Open}
use Rattle.journal_book.specs.Works.{work_at}
use Rattle.txn_set.specs.declared.counts.Counts.{Counts}
use Rattle.txn_set.specs.Ledger.{is_kept}
use Rattle.txn_set.specs.Refused.{archive_refused, commit_refused, counts_of, first_changed, images_refused, overlap, snapshots_refused, stopped, stopped_refused, where_so}
use Rattle.txn_set.specs.WorksFit.{Closes, MayKeep}
use Rattle.store_core.specs.declared.desk_core.Core.{Core}
use Rattle.turn.specs.Seats.{mine}
use Rattle.store.specs.Calls.{CommitDoes, refused_so}
use Rattle.store.specs.Rounds.{AnswersAtLast, IsRoom, MayAskAgain, MayServe, Passes}
use Rattle.store.specs.Seats.{IsOpenIn, IsReady, Sat, Visits, journal, slots_of}
use Rattle.store.proofs.Finding.{some_is}
use Rattle.store.proofs.Meeting.{work_stays}
use Rattle.store.proofs.Passing.{passes_quiet}
use Rattle.store.proofs.Reaching.{AnswersSo}
use Rattle.store.proofs.Rooming.{answers_so}

err_is : (r : Result (Option ℕ) Refusal) (x y : Refusal) → r ≡ Err x → r ≡ Err y → x ≡ y
err_is r x y e f = cc (e, f)

-- ---- what is no want of room

abbrev NoneRoom : Option Refusal → Type 0
NoneRoom refused = (why : Refusal) → refused ≡ Some why → IsRoom why → ⊥

or_room : (one rest : Option Refusal) → NoneRoom one → NoneRoom rest → NoneRoom (option_or one rest)
or_room None rest a b = b
or_room (Some x) rest a b = a

kept_room : (kept rest : Option Refusal) → NoneRoom rest → (why : Refusal) → option_or kept rest ≡ Some why → IsRoom why → kept ≡ Some why
kept_room None rest none why e is = absurd (none why e is)
kept_room (Some x) rest none why e is = e

where_room : (test : Bool) (x : Refusal) → (IsRoom x → ⊥) → NoneRoom (where_so test x)
where_room true x none why e is = none (subst IsRoom (sym (some_is x why e)) is)
where_room false x none why e is = absurd (cc e)

overlap_room : (who : Option Who) → NoneRoom (option_map overlap who)
overlap_room None why e is = absurd (cc e)
overlap_room (Some who) why e is = subst IsRoom (sym (some_is (overlap who) why e)) is

stopped_room : (fault : Option Stop) (declares : Bool) (writes : List PageImage) → NoneRoom (stopped_refused fault declares writes)
stopped_room fault declares writes = at (declares || nat_lt 0 (length writes)) fault where
  at : (test : Bool) (fault : Option Stop) → NoneRoom (cond test (option_map stopped fault) None)
  at true None why e is = absurd (cc e)
  at true (Some stop) why e is = subst IsRoom (sym (some_is (stopped stop) why e)) is
  at false fault why e is = absurd (cc e)

commit_room : (fault : Option Stop) (counts : Counts) (lines : List Line) (t : Transaction) (declares : Bool) (why : Refusal) → commit_refused fault counts lines t declares ≡ Some why → IsRoom why → t.kept ≡ Some why
commit_room fault counts lines t declares =
    kept_room t.kept _ (or_room (stopped_refused fault declares t.edits) _ (stopped_room fault declares t.edits)
    (or_room (option_map overlap (first_changed lines t t.reads.keys)) _ (overlap_room (first_changed lines t t.reads.keys))
    (or_room (images_refused lines t.edits) _ (where_room _ _ (λ x. x))
    (or_room (snapshots_refused counts declares) (archive_refused counts declares) (where_room _ _ (λ x. x))
    (or_room _ _ (where_room _ _ (λ x. x)) (where_room _ _ (λ x. x)))))))

keeps_no_room : (kept : Option Refusal) (why : Refusal) → MayKeep kept → kept ≡ Some why → IsRoom why → ⊥
keeps_no_room None why may e is = absurd (cc e)
keeps_no_room (Some x) why may e is = at x may (subst IsRoom (sym (some_is x why e)) is) where
  at : (x : Refusal) → is_kept x ≡ true → IsRoom x → ⊥
  at (NoRoom needed free) may is = absurd (cc may)
  at _ may is = is

pub room_no_fault : (why : Refusal) → IsRoom why → IsDiskFault why → ⊥
room_no_fault (NoRoom needed free) is fault = fault
room_no_fault _ is fault = is

-- ---- the seat

-- a seat with an open transaction may make rounds
pub open_serves : {D : Type 0} (s : Sat D) (who : Who) → IsOpenIn s who → MayServe s who
open_serves s who is = record {
  closes = λ d c. subst (λ (w : Option Work). Closes who (Fault d c Write) w) (sym is.open_there) (refl, is.is_of);
  worker = λ none. absurd (cc (none, is.open_there));
}

pub open_on : {D : Type 0} (z : TableId) (s0 s1 : Sat D) (who : Who) → Passes z s0 s1 → IsOpenIn s0 who → IsOpenIn s1 who
open_on z s0 s1 who passes is = record { transaction = is.transaction; open_there = work_stays s0 s1 passes.stays ∙ is.open_there; is_of = is.is_of }

pub not_room : (why : Refusal) → ((needed free : ℕ) → why ≡ NoRoom needed free → ⊥) → IsRoom why → ⊥
not_room (NoRoom needed free) none is = none needed free refl
not_room _ none is = is

pub not_again : (why : Refusal) → ((d : Device) (c : ℕ) → why ≡ Stopped d c → ⊥) → MayAskAgain (Err why) → ⊥
not_again (Stopped d c) none may = none d c refl
not_again _ none may = may

module _ {D : Type 0} (is_honest : D → Type 0) (state : D → State) (faults : D → ℕ) (z : TableId) (remembers : Type 0) (clock : D → Clock) (who : Who) (label : Option (List ℕ)) (t : Transaction) where
  -- what an answer of the desk is of
  abbrev pub Answer : Result (Option ℕ) Refusal → Sat D → Sat D → Type 0
  Answer r = Visits is_honest state faults z (CommitDoes is_honest state faults remembers clock who label t r)

  module _ (s0 s1 : Sat D) (ready : IsReady z s0) (own : who.session ≡ s0.number) (there : (mine s0).work ≡ Some (Open t)) where
    -- a commit that finds no room leaves nothing
    pub room_passes : (why : Refusal) → IsRoom why → Answer (Err why) s0 s1 → Passes z s0 s1
    room_passes why room v = passes_quiet is_honest state faults z s0 s1 v.before v.after ready v.visited (at (refused_so is_honest state faults v.before.core t label) refl) where
      at : (r : Option Refusal) → refused_so is_honest state faults v.before.core t label ≡ r → v.after.core.ledger ≡ v.before.core.ledger
      at None e = ap (λ (c : Core D). c.ledger) ((v.does.makes e).untouched (room_no_fault why room))
      at (Some because) e =
          let same : why ≡ because = err_is (Err why) why because refl (v.does.refused because e).0 in
          let kept = commit_room (first_stop (journal v.before)) (counts_of v.before.core.desk.base t.edits) (journal v.before) t (is_some label) because e (subst IsRoom same room) in
          let found = v.visited.stands.stands v.visited.stands.origin v.visited.stands.opened in
          let here : work_at (slots_of v.before) who.session ≡ Some (Open t) = ap (work_at (slots_of v.before)) own ∙ (sym v.visited.work ∙ there) in
          let fits = found.is.ledger.works.each who.session (Open t) here in
          absurd (keeps_no_room t.kept because fits.may_keep kept (subst IsRoom same room))

  -- what the desk does at last, behind rounds that leave a fault's line at most
  pub commit_so : (r : Result (Option ℕ) Refusal) (s0 s1 : Sat D) → IsReady z s0 → who.session ≡ s0.number → (mine s0).work ≡ Some (Open t) →
      AnswersAtLast is_honest state faults z remembers clock who (CommitDoes is_honest state faults remembers clock who label t) r s0 s1 →
      AnswersSo is_honest state faults z who (CommitDoes is_honest state faults remembers clock who label t) r s0 s1
  commit_so r s0 s1 ready own there answers = answers_so is_honest state faults z remembers clock who (CommitDoes is_honest state faults remembers clock who label t) r
      (λ s. (who.session ≡ s.number) × ((mine s).work ≡ Some (Open t)))
      (λ full a b room here is v. room_passes a b here is.0 is.1 full room v)
      (λ a b passes is. (is.0 ∙ sym passes.stays.same.number, work_stays a b passes.stays ∙ is.1)) answers ready (own, there)
