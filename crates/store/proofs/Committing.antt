-- A commit may be made in a visit to the desk.
use Rattle.std.proofs.Common.{◌≡◌, ◌≤◌, ◌<◌, ◌⊎◌, ◌∙◌, ◌++◌, ℕ, Bool, true, false, cond, List, Option, Some, None, Result, Ok, Err, Bor, refl, sym, ap, subst, inl, inr, ⊎_elim, arith}
use Rattle.std.specs.Prelude.{◌||◌, nat_lt, IfErr, IfOk, OnOk, MatchResult, is_some, option_copied, option_map, length}
use Rattle.block_file.specs.Blocks.{File}
use Rattle.disk_model.specs.Disk.{State}
use Rattle.disk_model.specs.Moments.{Clock}
use Rattle.retro_base.specs.declared.device.Device.{Device}
use Rattle.retro_base.specs.declared.device.Device.TheVariants.{Log}
use Rattle.retro_base.specs.declared.refusal.Refusal.{Refusal}
use Rattle.retro_base.specs.declared.refusal.Refusal.TheVariants as refusals
use Rattle.retro_base.specs.declared.refusal.Refusal.TheVariants.{DiskFault}
use Rattle.retro_base.specs.declared.who.Who.{Who}
use Rattle.gate_log.specs.Cause.{IsDiskFault}
use Rattle.history.specs.declared.entry.Change.TheVariants.{Commit}
use Rattle.history.specs.declared.journal.FailedCall.TheVariants.{Append}
use Rattle.history.specs.declared.journal.Line.{Line}
use Rattle.history.specs.declared.journal.What.TheVariants as whats
use Rattle.history.specs.declared.log.Version.{Version}
use Rattle.history.specs.declared.stop.Stop.{Stop}
use Rattle.history.specs.Lines.{first_stop}
use Rattle.history.specs.declared.writes.PageImage.{PageImage}
use Rattle.journal_book.specs.declared.work.Transaction.{Transaction}
use Rattle.journal_book.specs.declared.work.Work.TheVariants.{Open}
use Rattle.journal_book.specs.Works.{work_at}
use Rattle.records.specs.Entries.{change_bytes}
use Rattle.race_model.specs.Desk.{Desk}
use Rattle.race_model.specs.Machine.{changed, change_failed}
use Rattle.desk.specs.Cause.{IsChangeRefusal}
use Rattle.desk.specs.declared.desk.RunningDesk.{RunningDesk}
use Rattle.txn_set.specs.declared.ledger.Ledger.{Ledger}
use Rattle.txn_set.specs.declared.counts.Counts.{Counts}
use Rattle.txn_set.specs.Ledger.{closed, committed, faulted, kept_behind, taken}
use Rattle.txn_set.specs.Refused.{archive_refused, commit_refused, counts_of, first_changed, images_refused, leaves_record, overlap, snapshots_refused, stopped_refused}
use Rattle.store_core.specs.declared.desk_core.Core.{Core}
use Rattle.store_core.specs.Calls.{failed_at}
use Rattle.store_core.specs.Commits.{desk_behind}
use Rattle.store_core.specs.Core.{IsCore}
use Rattle.turn.specs.Faults.{LAST, desk_faults, fault_times}
use Rattle.turn.proofs.Faults.{times_append}
use Rattle.store.specs.declared.desk_side.DeskSide.{DeskSide}
use Rattle.store.specs.Calls.{CommitDoes, CommitMakes, refused_so}
use Rattle.store.specs.Seats.{CountFits, IsVisit, always, journal, slots_of}
use Rattle.store.specs.Sides.{DeskStands}
use Rattle.store.specs.Start.{AreAsHonest, IsCoreFrom, IsDeskIn, Origin, desk_counts}
use Rattle.store.specs.Tried.{is_trying}
use Rattle.store.proofs.Adding.{adds_committed, adds_faulted, adds_nothing, adds_open, faulted_closed, slot_own}
use Rattle.store.proofs.Answering.{TellsNoFault, kept_first, kept_from, none_first, overlap_tells, same_pages, where_tells}
use Rattle.store.proofs.Calling.{IsClosed, closes, counts_same, counts_up, fault_is, visit}
use Rattle.store.proofs.Leaving.{IsToldIn, stands_moved, stands_stays}
use Rattle.store.proofs.Telling.{keeps_open, told_log}
use Rattle.store.proofs.Trying.{attempt_there, kept_who, same_attempt}

stopped_tells : (fault : Option Stop) (declares : Bool) (writes : List PageImage) → TellsNoFault (stopped_refused fault declares writes)
stopped_tells fault declares writes = at (declares || nat_lt 0 (length writes)) fault where
  at : (test : Bool) (fault : Option Stop) → TellsNoFault (cond test (option_map (λ (s : Stop). refusals.Stopped s.device s.count) fault) None)
  at true None d c e = absurd (cc e)
  at true (Some stop) d c e = absurd (cc e)
  at false fault d c e = absurd (cc e)

commit_tells : (fault : Option Stop) (counts : Counts) (lines : List Line) (t : Transaction) (declares : Bool) (d : Device) (c : ℕ) → commit_refused fault counts lines t declares ≡ Some (DiskFault d c) → t.kept ≡ Some (DiskFault d c)
commit_tells fault counts lines t declares =
    kept_first t.kept _ (none_first (stopped_refused fault declares t.edits) _ (stopped_tells fault declares t.edits)
    (none_first (option_map overlap (first_changed lines t t.reads.keys)) _ (overlap_tells (first_changed lines t t.reads.keys))
    (none_first (images_refused lines t.edits) _ (where_tells _ _ (λ d c e. absurd (cc e)))
    (none_first (snapshots_refused counts declares) (archive_refused counts declares) (where_tells _ _ (λ d c e. absurd (cc e)))
    (none_first _ _ (where_tells _ _ (λ d c e. absurd (cc e))) (where_tells _ _ (λ d c e. absurd (cc e))))))))

-- what a match says of Ok
pub on_ok : {T E : Type 0} (result : Result T E) (P : Type 0) (Q : E → Type 0) → MatchResult result (λ _. P) Q → OnOk result P
on_ok (Ok x) P Q m = m
on_ok (Err e) P Q m = tt

pub more_told : (faults more : List (Device × ℕ)) (d : Device) (c : ℕ) → 0 < fault_times d c more → 0 < fault_times d c (faults ++ more)
more_told faults more d c p = let sum = times_append d c faults more in omega (arith, sum, p)

-- a label is declared exactly where a mark is given
pub numbered : {X : Type 0} (mark : Option (Bor X)) (n : ℕ) (result : Result (Option ℕ) Refusal) → IfOk result (λ number. number ≡ cond (is_some mark) (Some n) None) → IfOk result (λ number. number ≡ cond (is_some (option_copied mark)) (Some n) None)
numbered None n result e = e
numbered (Some x) n result e = e

-- a refusal is a fault, or tells none
fault_or : (why : Refusal) → ((d : Device) × (c : ℕ) × (why ≡ DiskFault d c)) ⊎ (IsDiskFault why → ⊥)
fault_or (DiskFault d c) = inl (d, c, refl)
fault_or refusals.OutOfMemory = inr (λ x. x)
fault_or _ = inr (λ x. x)

module _ {D : Type 0} (is_honest : D → Type 0) (state : D → State) (faults : D → ℕ) (remembers : Type 0) (clock : D → Clock) (who : Who) (old new : DeskSide D) (start : new.start ≡ old.start) (stands : DeskStands is_honest state old) where
  -- the core was one from each history, and is one with as much acknowledged and the same floor
  Goes : Type 0
  Goes = (origin : Origin) → IsCoreFrom is_honest state origin old.core → IsCoreFrom is_honest state origin new.core

  acked_by : (plain other : Desk) → other.acked ≡ plain.acked → (origin : Origin) → IsCore is_honest state origin.history old.core plain → IsCore is_honest state origin.history new.core other → new.core.desk.queue.first ≡ old.core.desk.queue.first
  acked_by plain other same origin before after = after.is.first ∙ (same ∙ sym before.is.first)

  floor_behind : (plain : Desk) (label : Option (List ℕ)) (writes : List PageImage) → ((desk_behind plain label writes).floor ≡ plain.floor) × ((desk_behind plain label writes).acked ≡ plain.acked)
  floor_behind plain label writes = at (leaves_record label writes) where
    at : (test : Bool) → ((cond test (changed plain (Commit label writes)) plain).floor ≡ plain.floor) × ((cond test (changed plain (Commit label writes)) plain).acked ≡ plain.acked)
    at true = (refl, refl)
    at false = (refl, refl)

  version_behind : (plain : Desk) (label : Option (List ℕ)) (writes : List PageImage) (version : Version) → IsDeskIn version plain → IsDeskIn version (desk_behind plain label writes)
  version_behind plain label writes version is = at (leaves_record label writes) where
    at : (test : Bool) → IsDeskIn version (cond test (changed plain (Commit label writes)) plain)
    at true = is
    at false = is

  pub commits : (label : Option (List ℕ)) (t : Transaction) (result : Result (Option ℕ) Refusal) → work_at (slots_of old) who.session ≡ Some (Open t) → t.who ≡ who → CountFits result
      → CommitDoes is_honest state faults remembers clock who label t result old.core new.core → IsVisit is_honest state faults who always old new
  commits label t result there is_of few does = pick (refused_so is_honest state faults old.core t label) refl where
    honest : AreAsHonest is_honest old.core new.core
    honest = record { log = does.honest; pages = same_pages is_honest old.core new.core does.pages }

    pages_up : faults old.core.desk.pool.file.disk ≤ faults new.core.desk.pool.file.disk
    pages_up = let e = ap (λ (f : File D). faults f.disk) does.pages in omega (arith, e)

    made : CommitMakes is_honest state faults remembers clock who label t result old.core new.core → (r : Result (Option ℕ) Refusal) → result ≡ r → IsVisit is_honest state faults who always old new
    made m (Ok x) e =
        let done = λ (origin : Origin) (from_ : IsCoreFrom is_honest state origin old.core).
        subst (λ (r : Result (Option ℕ) Refusal). OnOk r (IsCore is_honest state origin.history new.core (desk_behind from_.plain label t.edits))) e (m.done origin.history from_.plain from_.is) in
        let ledger = subst (λ (r : Result (Option ℕ) Refusal). OnOk r (new.core.ledger ≡ committed who label t.edits (taken who old.core.ledger))) e (on_ok result _ _ m.ended) in
        let first = stands.stands stands.origin stands.opened in
        let log = subst (λ (r : Result (Option ℕ) Refusal). OnOk r (faults new.core.desk.log.disk ≡ faults old.core.desk.log.disk)) e (on_ok result _ _ m.cause) in
        visit is_honest state faults who always old new start
        (stands_moved is_honest state old new start (λ origin from_. record { plain = desk_behind from_.plain label t.edits; is = done origin from_; floor = (floor_behind from_.plain label t.edits).0 ∙ from_.floor; in_version = version_behind from_.plain label t.edits origin.log from_.in_version }) honest stands)
        (counts_up faults old.core new.core (omega (arith, log)) pages_up)
        (acked_by first.plain (desk_behind first.plain label t.edits) (floor_behind first.plain label t.edits).1 stands.origin first.is (done stands.origin first))
        (λ mine own. adds_committed who (IsToldIn _) old.core.ledger new.core.ledger label t.edits (λ d c p. absurd (omega (arith, p)))
        (λ tried. subst (λ (w : Who). is_trying w (journal old) ≡ true) is_of (attempt_there (journal old) who.session (work_at (slots_of old) who.session) t there (tried.works who.session)).1) ledger)
        (closes is_honest state faults who old new start stands always (subst IsClosed (sym (ap (λ (l : Ledger). work_at l.works.slots who.session) ledger ∙ slot_own (slots_of old) who.session None)) tt))
    made m (Err why) e = ⊎_elim (λ f. fails f.0 f.1 f.2) untouched (fault_or why) where
      untouched : (IsDiskFault why → ⊥) → IsVisit is_honest state faults who always old new
      untouched not_fault =
          let same : new.core ≡ old.core = subst (λ (r : Result (Option ℕ) Refusal). IfErr r (λ w. (IsDiskFault w → ⊥) → new.core ≡ old.core)) e m.untouched not_fault in
          visit is_honest state faults who always old new start (stands_stays is_honest state old new start (λ opening plain is. subst (λ (c : Core D). IsCore is_honest state opening c plain) (sym same) is) honest stands)
          (counts_same faults old.core new.core (ap (λ (c : Core D). c.desk) same)) (ap (λ (c : Core D). c.desk.queue.first) same)
          (λ mine own. adds_nothing who (IsToldIn _) old.core.ledger new.core.ledger (ap (λ (c : Core D). c.ledger) same))
          (λ mine own. keeps_open is_honest state faults who always old new mine own t t there (ap (λ (c : Core D). work_at c.ledger.works.slots who.session) same ∙ there) (ap (λ (c : Core D). c.ledger.book.lines) same) (λ d c k. inl k))

      fails : (d : Device) (c : ℕ) → why ≡ DiskFault d c → IsVisit is_honest state faults who always old new
      fails d c w =
          let is_err : result ≡ Err (DiskFault d c) = e ∙ ap Err w in
          let failing = λ (origin : Origin) (from_ : IsCoreFrom is_honest state origin old.core).
          subst (λ (r : Result (Option ℕ) Refusal). IfErr r (λ w. IsDiskFault w → IsCore is_honest state origin.history new.core (change_failed from_.plain (Commit label t.edits)))) is_err (m.failed origin.history from_.plain from_.is) tt in
          let ledger : new.core.ledger ≡ faulted who d c (Append (Commit label t.edits)) old.core.ledger = subst (λ (r : Result (Option ℕ) Refusal). MatchResult r (λ _. new.core.ledger ≡ committed who label t.edits (taken who old.core.ledger)) (λ w. new.core.ledger ≡ failed_at (Append (Commit label t.edits)) who w old.core.ledger)) is_err m.ended in
          let first = stands.stands stands.origin stands.opened in
          let cause = subst (λ (r : Result (Option ℕ) Refusal). MatchResult r (λ _. faults new.core.desk.log.disk ≡ faults old.core.desk.log.disk)
          (IsChangeRefusal old.core.desk.log.log.area.log (length (change_bytes old.core.desk.log.log.version (Commit label t.edits))) (faults old.core.desk.log.disk) (faults new.core.desk.log.disk))) is_err m.cause in
          let fault = cause.1 in
          let is_log : d ≡ Log = fault.0 ∙ does.names in
          let told : 0 < fault_times d c (desk_faults (desk_counts faults old.core) (desk_counts faults new.core)) =
          subst (λ (x : Device × ℕ). 0 < fault_times x.0 x.1 (desk_faults (desk_counts faults old.core) (desk_counts faults new.core))) (λ i. (sym is_log i, sym fault.1 i))
          (told_log (desk_counts faults old.core) (desk_counts faults new.core) fault.3 (subst (λ (n : ℕ). n ≤ LAST) fault.1 (few d c is_err))) in
          let closes_so : new.core.ledger ≡ closed who (whats.Fault d c (Append (Commit label t.edits))) old.core.ledger = ledger ∙ faulted_closed who old.core.ledger d c (Append (Commit label t.edits)) (Open t) there in
          visit is_honest state faults who always old new start
          (stands_moved is_honest state old new start (λ origin from_. record { plain = change_failed from_.plain (Commit label t.edits); is = failing origin from_; floor = from_.floor; in_version = (from_.in_version.0, tt) }) honest stands)
          (counts_up faults old.core new.core fault.2 pages_up)
          (acked_by first.plain (change_failed first.plain (Commit label t.edits)) refl stands.origin first.is (failing stands.origin first))
          (λ mine own. adds_faulted who (IsToldIn _) old.core.ledger new.core.ledger d c (Append (Commit label t.edits)) (λ none. absurd (cc (sym none ∙ ap is_some there))) (λ e n p. more_told mine.faults _ e n (fault_is _ d c told e n p)) ledger)
          (closes is_honest state faults who old new start stands always (subst IsClosed (sym (ap (λ (l : Ledger). work_at l.works.slots who.session) closes_so ∙ slot_own (slots_of old) who.session None)) tt))

    pick : (r : Option Refusal) → refused_so is_honest state faults old.core t label ≡ r → IsVisit is_honest state faults who always old new
    pick None e = made (does.makes e) result refl
    pick (Some why) e =
        let r = does.refused why e in
        visit is_honest state faults who always old new start (stands_stays is_honest state old new start r.3 honest stands) (counts_same faults old.core new.core r.1) (ap (λ (x : RunningDesk D). x.queue.first) r.1)
        (λ mine own. adds_open who (IsToldIn _) old.core.ledger new.core.ledger (kept_behind why t) (λ tried. same_attempt (journal old) who.session (work_at (slots_of old) who.session) t (kept_behind why t) there (kept_who why t) (tried.works who.session)) r.2)
        (λ mine own. keeps_open is_honest state faults who always old new mine own t (kept_behind why t) there (ap (λ (l : Ledger). work_at l.works.slots who.session) r.2 ∙ slot_own (slots_of old) who.session _) (ap (λ (l : Ledger). l.book.lines) r.2)
        (λ d c k. ⊎_elim (λ before. inl before) (λ w. inl (commit_tells (first_stop (journal old)) (counts_of old.core.desk.base t.edits) (journal old) t (is_some label) d c (e ∙ ap Some w))) (kept_from why t d c k)))
