-- A drop may be made in a visit to the desk.
use Rattle.std.proofs.Common.{◌≡◌, ◌≤◌, ◌<◌, ◌⊎◌, ◌∙◌, ℕ, Bool, true, false, cond, Option, Some, None, Result, Ok, Err, refl, sym, ap, subst, inl, inr, ⊎_elim, arith}
use Rattle.std.specs.Prelude.{IfErr, MatchResult, OnOk, is_some, length, nat_lt, option_map}
use Rattle.std.specs.Option.{option_or}
use Rattle.block_file.specs.Blocks.{File}
use Rattle.disk_model.specs.Disk.{State}
use Rattle.disk_model.specs.Moments.{Clock}
use Rattle.retro_base.specs.declared.device.Device.{Device}
use Rattle.retro_base.specs.declared.device.Device.TheVariants.{Log}
use Rattle.retro_base.specs.declared.refusal.Refusal.{Refusal}
use Rattle.retro_base.specs.declared.refusal.Refusal.TheVariants.{DiskFault, JournalFull, NoSuchSnapshot, OutOfMemory, Pinned}
use Rattle.retro_base.specs.declared.who.Who.{Who}
use Rattle.gate_log.specs.Cause.{IsDiskFault}
use Rattle.history.specs.declared.entry.Change.TheVariants.{Drop}
use Rattle.history.specs.declared.journal.FailedCall.{FailedCall}
use Rattle.history.specs.declared.journal.FailedCall.TheVariants.{Append}
use Rattle.history.specs.declared.journal.What.TheVariants as whats
use Rattle.history.specs.declared.log.Version.{Version}
use Rattle.history.specs.declared.stop.Stop.{Stop}
use Rattle.history.specs.Lines.{first_stop}
use Rattle.history.specs.Marks.{newest, oldest}
use Rattle.journal_book.specs.declared.work.Work.{Work}
use Rattle.journal_book.specs.declared.work.Work.TheVariants.{Open, Looking, KeptDrop}
use Rattle.journal_book.specs.Book.{Book, lines_refused}
use Rattle.journal_book.specs.Works.{least_pin, work_at}
use Rattle.records.specs.Entries.{change_bytes}
use Rattle.race_model.specs.Desk.{Desk}
use Rattle.race_model.specs.Machine.{change_failed, changed}
use Rattle.desk.specs.Cause.{IsChangeRefusal}
use Rattle.desk.specs.declared.desk.RunningDesk.{RunningDesk}
use Rattle.txn_set.specs.declared.ledger.Ledger.{Ledger}
use Rattle.txn_set.specs.Ledger.{closed, drop_kept, faulted, given_up, gives_up, is_closed, keeps_drop, keeps_other_drop}
use Rattle.txn_set.specs.Refused.{no_snapshot, pinned_below, stopped, where_so}
use Rattle.store_core.specs.Calls.{dropped_behind, failed_at}
use Rattle.store_core.specs.Core.{IsCore}
use Rattle.store_core.specs.Drops.{HasEndedDrop, IsAllowedDrop, drop_line_refused, drop_refused_by, is_kept_drop, without_drop}
use Rattle.turn.specs.Faults.{LAST, desk_faults, fault_times}
use Rattle.store.specs.declared.desk_side.DeskSide.{DeskSide}
use Rattle.store.specs.RoundCalls.{DropDoes, GivesUpDrop}
use Rattle.store.specs.Rounds.{IsRoom}
use Rattle.store.specs.Seats.{CountFits, IsVisit, always, slots_of}
use Rattle.store.specs.Sides.{DeskStands}
use Rattle.store.specs.Start.{AreAsHonest, IsCoreFrom, IsDeskIn, Origin, desk_counts}
use Rattle.store.proofs.Adding.{AddsOwn, adds_dropped, adds_gave, adds_given, adds_kept, adds_without, faulted_closed, kept_slot, slot_own}
use Rattle.store.proofs.Answering.{same_pages}
use Rattle.store.proofs.Asking.{room_no_fault}
use Rattle.store.proofs.Calling.{IsClosed, closes, counts_same, counts_up, fault_is, visit}
use Rattle.store.proofs.Committing.{more_told, on_ok}
use Rattle.store.proofs.Finding.{some_is}
use Rattle.store.proofs.Leaving.{IsToldIn, as_honest, stands_moved, stands_stays}
use Rattle.store.proofs.Telling.{told_log}

-- ---- refusals that are told before any device is called

-- the refusal is one of these
abbrev Tells : (Refusal → Type 0) → Option Refusal → Type 0
Tells P refused = (why : Refusal) × (refused ≡ Some why) × P why

module _ (P : Refusal → Type 0) where
  or_tells : (one rest : Option Refusal) → (Tells P one → ⊥) → (Tells P rest → ⊥) → Tells P (option_or one rest) → ⊥
  or_tells None rest a b = b
  or_tells (Some x) rest a b = a

  where_tells : (test : Bool) (x : Refusal) → (P x → ⊥) → Tells P (where_so test x) → ⊥
  where_tells true x none e = none (subst P (sym (some_is x e.0 e.1)) e.2)
  where_tells false x none e = absurd (cc e.1)

  stop_tells : (stop : Option Stop) → ((s : Stop) → P (stopped s) → ⊥) → Tells P (option_map stopped stop) → ⊥
  stop_tells None none e = absurd (cc e.1)
  stop_tells (Some stop) none e = none stop (subst P (sym (some_is (stopped stop) e.0 e.1)) e.2)

  pin_tells : (below : ℕ) (pin : Option (ℕ × ℕ)) → ((a b : ℕ) → P (Pinned a b) → ⊥) → Tells P (pinned_below below pin) → ⊥
  pin_tells below None none e = absurd (cc e.1)
  pin_tells below (Some pin) none e = where_tells _ _ (none pin.0 pin.1) e

  refused_tells : (newest below : ℕ) (l : Ledger) → ((s : Stop) → P (stopped s) → ⊥) → ((a b : ℕ) → P (NoSuchSnapshot a b) → ⊥) → ((a b : ℕ) → P (Pinned a b) → ⊥) → Tells P (drop_refused_by newest below l) → ⊥
  refused_tells newest below l stops numbers pins =
      or_tells _ _ (stop_tells (first_stop l.book.lines) stops) (or_tells (no_snapshot below newest) _ (where_tells _ _ (numbers below newest)) (pin_tells below (least_pin l.works.slots) pins))

  pub lines_tells : (book : Book) (more : ℕ) → ((a b : ℕ) → P (JournalFull a b) → ⊥) → Tells P (lines_refused book more) → ⊥
  lines_tells book more full e = where_tells _ _ (full _ _) e

pub refused_fault : (newest below : ℕ) (l : Ledger) → Tells IsDiskFault (drop_refused_by newest below l) → ⊥
refused_fault newest below l = refused_tells IsDiskFault newest below l (λ s x. x) (λ a b x. x) (λ a b x. x)

pub lines_fault : (book : Book) (more : ℕ) → Tells IsDiskFault (lines_refused book more) → ⊥
lines_fault book more = lines_tells IsDiskFault book more (λ a b x. x)

-- ---- what a session has that may drop

abbrev pub closed_is : (w : Option Work) → is_closed w ≡ true → IsClosed w
closed_is None e = tt
closed_is (Some (Open t)) e = absurd (cc e)
closed_is (Some (Looking look)) e = absurd (cc e)
closed_is (Some (KeptDrop who)) e = tt

kept_closed : (who : Who) (w : Option Work) → keeps_drop who w ≡ true → IsClosed w
kept_closed who (Some (Open t)) e = absurd (cc e)
kept_closed who _ e = tt

given_closed : (who : Who) (l : Ledger) → IsClosed (work_at l.works.slots who.session) → IsClosed (work_at (given_up who l).works.slots who.session)
given_closed who l is = at (keeps_other_drop who (work_at l.works.slots who.session)) where
  at : (test : Bool) → IsClosed (work_at (cond test (gives_up who.session l) l).works.slots who.session)
  at true = subst IsClosed (sym (slot_own l.works.slots who.session None)) tt
  at false = is

pub some_kept : (who : Who) (w : Option Work) → keeps_drop who w ≡ true → is_some w ≡ true
some_kept who None e = absurd (cc e)
some_kept who (Some w) e = refl

given_still : (who : Who) (l : Ledger) → is_closed (work_at l.works.slots who.session) ≡ true → is_closed (work_at (given_up who l).works.slots who.session) ≡ true
given_still who l is = at (keeps_other_drop who (work_at l.works.slots who.session)) where
  at : (test : Bool) → is_closed (work_at (cond test (gives_up who.session l) l).works.slots who.session) ≡ true
  at true = ap is_closed (slot_own l.works.slots who.session None)
  at false = is

pub kept_still : (who : Who) (w : Option Work) → keeps_drop who w ≡ true → is_closed w ≡ true
kept_still who None e = refl
kept_still who (Some (Open t)) e = absurd (cc e)
kept_still who (Some (Looking look)) e = absurd (cc e)
kept_still who (Some (KeptDrop other)) e = refl

pub some_there : (w : Option Work) → is_some w ≡ true → (x : Work) × (w ≡ Some x)
some_there None f = absurd (cc f)
some_there (Some x) f = (x, refl)

pub err_is : {T : Type 0} (r : Result T Refusal) (x y : Refusal) → r ≡ Err x → r ≡ Err y → x ≡ y
err_is r x y e f = cc (e, f)

on_err : {T : Type 0} (r : Result T Refusal) (P : Refusal → Type 0) → ((why : Refusal) → r ≡ Err why → P why) → IfErr r P
on_err (Ok x) P all = tt
on_err (Err why) P all = all why refl

fault_or : (why : Refusal) → ((d : Device) × (c : ℕ) × (why ≡ DiskFault d c)) ⊎ (IsDiskFault why → ⊥)
fault_or (DiskFault d c) = inl (d, c, refl)
fault_or OutOfMemory = inr (λ x. x)
fault_or _ = inr (λ x. x)

memory_or : (why : Refusal) → (why ≡ OutOfMemory) ⊎ (why ≡ OutOfMemory → ⊥)
memory_or OutOfMemory = inl refl
memory_or (DiskFault d c) = inr (λ e. absurd (cc e))
memory_or _ = inr (λ e. absurd (cc e))

pub not_failed : (call : FailedCall) (who : Who) (why : Refusal) (l : Ledger) → (IsDiskFault why → ⊥) → failed_at call who why l ≡ l
not_failed call who (DiskFault d c) l none = absurd (none tt)
not_failed call who _ l none = refl

module _ {D : Type 0} (is_honest : D → Type 0) (state : D → State) (faults : D → ℕ) (remembers : Type 0) (clock : D → Clock) (who : Who) (old new : DeskSide D) (start : new.start ≡ old.start) (stands : DeskStands is_honest state old) where
  floor_behind : (below : ℕ) (plain : Desk) → ((dropped_behind (oldest old.core.desk.base.marks) below plain).floor ≡ plain.floor) × ((dropped_behind (oldest old.core.desk.base.marks) below plain).acked ≡ plain.acked)
  floor_behind below plain = at (nat_lt (oldest old.core.desk.base.marks) below) where
    at : (test : Bool) → ((cond test (changed plain (Drop below)) plain).floor ≡ plain.floor) × ((cond test (changed plain (Drop below)) plain).acked ≡ plain.acked)
    at true = (refl, refl)
    at false = (refl, refl)

  version_behind : (below : ℕ) (plain : Desk) (version : Version) → IsDeskIn version plain → IsDeskIn version (dropped_behind (oldest old.core.desk.base.marks) below plain)
  version_behind below plain version is = at (nat_lt (oldest old.core.desk.base.marks) below) where
    at : (test : Bool) → IsDeskIn version (cond test (changed plain (Drop below)) plain)
    at true = is
    at false = is

  acked_by : (plain other : Desk) → other.acked ≡ plain.acked → (origin : Origin) → IsCore is_honest state origin.history old.core plain → IsCore is_honest state origin.history new.core other → new.core.desk.queue.first ≡ old.core.desk.queue.first
  acked_by plain other same origin before after = after.is.first ∙ (same ∙ sym before.is.first)

  module _ (below : ℕ) (result : Result (Unit {0}) Refusal) (is_closed_there : is_closed (work_at (slots_of old) who.session) ≡ true) (few : CountFits result) (does : DropDoes is_honest state faults remembers clock who below result old.core new.core) where
    honest : AreAsHonest is_honest old.core new.core
    honest = record { log = does.honest; pages = same_pages is_honest old.core new.core does.pages }

    pages_up : faults old.core.desk.pool.file.disk ≤ faults new.core.desk.pool.file.disk
    pages_up = let e = ap (λ (f : File D). faults f.disk) does.pages in omega (arith, e)

    slot_is : (l : Ledger) (w : Option Work) → new.core.ledger ≡ l → work_at l.works.slots who.session ≡ w → IsClosed w → IsClosed (work_at (slots_of new) who.session)
    slot_is l w e there is = subst IsClosed (sym (ap (λ (x : Ledger). work_at x.works.slots who.session) e ∙ there)) is

    -- it was refused, and no device was called
    untouched : (why : Refusal) → result ≡ Err why → (IsDiskFault why → ⊥) → ((mine : _) → AddsOwn who.session (IsToldIn mine) old.core.ledger new.core.ledger) → IsClosed (work_at (slots_of new) who.session) → IsVisit is_honest state faults who always old new
    untouched why e none adds is =
        let same = subst (λ (r : Result (Unit {0}) Refusal). IfErr r (λ w. (IsDiskFault w → ⊥) → new.core.desk ≡ old.core.desk)) e does.untouched none in
        let stays = subst (λ (r : Result (Unit {0}) Refusal). IfErr r (λ w. (IsDiskFault w → ⊥) → (opening : _) (plain : Desk) → IsCore is_honest state opening old.core plain → IsCore is_honest state opening new.core plain)) e does.stays none in
        visit is_honest state faults who always old new start (stands_stays is_honest state old new start stays honest stands) (counts_same faults old.core new.core same) (ap (λ (r : RunningDesk D). r.queue.first) same)
        (λ mine own. adds _) (closes is_honest state faults who old new start stands always is)

    gave : (why : Refusal) → result ≡ Err why → (IsDiskFault why → ⊥) → new.core.ledger ≡ given_up who old.core.ledger → IsVisit is_honest state faults who always old new
    gave why e none ledger = untouched why e none (λ mine. adds_given who (IsToldIn mine) old.core.ledger new.core.ledger ledger)
        (slot_is (given_up who old.core.ledger) _ ledger refl (given_closed who old.core.ledger (closed_is (work_at (slots_of old) who.session) is_closed_there)))

    made : (room : drop_line_refused who old.core.ledger ≡ None) (free : drop_refused_by (newest old.core.desk.base.marks) below old.core.ledger ≡ None) (r : Result (Unit {0}) Refusal) → result ≡ r → IsVisit is_honest state faults who always old new
    made room free (Ok x) e =
        let allowed : IsAllowedDrop old.core who below = record { room = room; free = free } in
        let first = stands.stands stands.origin stands.opened in
        let done = λ (origin : Origin) (from_ : IsCoreFrom is_honest state origin old.core).
        subst (λ (r : Result (Unit {0}) Refusal). OnOk r (IsCore is_honest state origin.history new.core (dropped_behind (oldest old.core.desk.base.marks) below from_.plain))) e (does.done origin.history from_.plain from_.is) in
        let ledger = (subst (λ (r : Result (Unit {0}) Refusal). OnOk r ((drop_refused_by (newest old.core.desk.base.marks) below old.core.ledger ≡ None) × (new.core.ledger ≡ closed who (whats.Dropped below) (drop_kept who old.core.ledger)))) e does.dropped.done).1 in
        let log = subst (λ (r : Result (Unit {0}) Refusal). OnOk r (faults new.core.desk.log.disk ≡ faults old.core.desk.log.disk)) e (on_ok result _ _ (does.cause allowed)) in
        visit is_honest state faults who always old new start
        (stands_moved is_honest state old new start (λ origin from_. record { plain = dropped_behind (oldest old.core.desk.base.marks) below from_.plain; is = done origin from_; floor = (floor_behind below from_.plain).0 ∙ from_.floor; in_version = version_behind below from_.plain origin.log from_.in_version }) honest stands)
        (counts_up faults old.core new.core (omega (arith, log)) pages_up)
        (acked_by first.plain (dropped_behind (oldest old.core.desk.base.marks) below first.plain) (floor_behind below first.plain).1 stands.origin first.is (done stands.origin first))
        (λ mine own. adds_dropped who (IsToldIn _) old.core.ledger new.core.ledger (whats.Dropped below) (λ d c p. absurd (omega (arith, p))) tt ledger)
        (closes is_honest state faults who old new start stands always (slot_is _ None ledger (slot_own (drop_kept who old.core.ledger).works.slots who.session None) tt))
    made room free (Err why) e = ⊎_elim ended given (subst (λ (r : Result (Unit {0}) Refusal). IfErr r (λ w. HasEndedDrop who below w (drop_kept who old.core.ledger) new.core.ledger ⊎ ((w ≡ OutOfMemory) × (new.core.ledger ≡ given_up who old.core.ledger)))) e (does.dropped.kept room free)) where
      given : (why ≡ OutOfMemory) × (new.core.ledger ≡ given_up who old.core.ledger) → IsVisit is_honest state faults who always old new
      given g = gave why e (λ f. subst IsDiskFault g.0 f) g.1

      keeps : new.core.ledger ≡ drop_kept who old.core.ledger → (IsDiskFault why → ⊥) → IsVisit is_honest state faults who always old new
      keeps ledger none = untouched why e none (λ mine. adds_kept who (IsToldIn mine) old.core.ledger new.core.ledger ledger) (slot_is (drop_kept who old.core.ledger) _ ledger refl (kept_closed who _ (kept_slot who old.core.ledger)))

      fails : (d : Device) (c : ℕ) → why ≡ DiskFault d c → new.core.ledger ≡ failed_at (Append (Drop below)) who why (drop_kept who old.core.ledger) → IsVisit is_honest state faults who always old new
      fails d c w ended =
          let is_err : result ≡ Err (DiskFault d c) = e ∙ ap Err w in
          let ledger : new.core.ledger ≡ faulted who d c (Append (Drop below)) (drop_kept who old.core.ledger) = ended ∙ ap (λ (x : Refusal). failed_at (Append (Drop below)) who x (drop_kept who old.core.ledger)) w in
          let there = some_there (work_at (drop_kept who old.core.ledger).works.slots who.session) (some_kept who _ (kept_slot who old.core.ledger)) in
          let closes_so : new.core.ledger ≡ closed who (whats.Fault d c (Append (Drop below))) (drop_kept who old.core.ledger) = ledger ∙ faulted_closed who (drop_kept who old.core.ledger) d c (Append (Drop below)) there.0 there.1 in
          let failing = λ (origin : Origin) (from_ : IsCoreFrom is_honest state origin old.core).
          subst (λ (r : Result (Unit {0}) Refusal). IfErr r (λ w. IsDiskFault w → IsCore is_honest state origin.history new.core (change_failed from_.plain (Drop below)))) is_err (does.failed origin.history from_.plain from_.is) tt in
          let first = stands.stands stands.origin stands.opened in
          let cause = subst (λ (r : Result (Unit {0}) Refusal). MatchResult r (λ _. faults new.core.desk.log.disk ≡ faults old.core.desk.log.disk)
          (IsChangeRefusal old.core.desk.log.log.area.log (length (change_bytes old.core.desk.log.log.version (Drop below))) (faults old.core.desk.log.disk) (faults new.core.desk.log.disk))) is_err (does.cause (record { room = room; free = free })) in
          let fault = cause.1 in
          let is_log : d ≡ Log = fault.0 ∙ does.names in
          let told : 0 < fault_times d c (desk_faults (desk_counts faults old.core) (desk_counts faults new.core)) =
          subst (λ (x : Device × ℕ). 0 < fault_times x.0 x.1 (desk_faults (desk_counts faults old.core) (desk_counts faults new.core))) (λ i. (sym is_log i, sym fault.1 i))
          (told_log (desk_counts faults old.core) (desk_counts faults new.core) fault.3 (subst (λ (n : ℕ). n ≤ LAST) fault.1 (few d c is_err))) in
          visit is_honest state faults who always old new start
          (stands_moved is_honest state old new start (λ origin from_. record { plain = change_failed from_.plain (Drop below); is = failing origin from_; floor = from_.floor; in_version = (from_.in_version.0, tt) }) honest stands)
          (counts_up faults old.core new.core fault.2 pages_up)
          (acked_by first.plain (change_failed first.plain (Drop below)) refl stands.origin first.is (failing stands.origin first))
          (λ mine own. adds_dropped who (IsToldIn _) old.core.ledger new.core.ledger (whats.Fault d c (Append (Drop below))) (λ x n p. more_told _ _ x n (fault_is _ d c told x n p)) tt closes_so)
          (closes is_honest state faults who old new start stands always (slot_is _ None closes_so (slot_own (drop_kept who old.core.ledger).works.slots who.session None) tt))

      ended : HasEndedDrop who below why (drop_kept who old.core.ledger) new.core.ledger → IsVisit is_honest state faults who always old new
      ended end = ⊎_elim
          (λ (memory : why ≡ OutOfMemory). untouched why e (λ f. subst IsDiskFault memory f) (λ mine. adds_gave who (IsToldIn mine) old.core.ledger new.core.ledger (end.memory memory))
          (slot_is _ None (end.memory memory) (slot_own (drop_kept who old.core.ledger).works.slots who.session None) tt))
          (λ (other : why ≡ OutOfMemory → ⊥). ⊎_elim (λ (f : (d : Device) × (c : ℕ) × (why ≡ DiskFault d c)). fails f.0 f.1 f.2 (end.other other))
          (λ (none : IsDiskFault why → ⊥). keeps (end.other other ∙ not_failed (Append (Drop below)) who why (drop_kept who old.core.ledger) none) none) (fault_or why)) (memory_or why)

    -- it was refused with a line that says so, or for want of memory
    told_so : (why : Refusal) (room : drop_line_refused who old.core.ledger ≡ None) → drop_refused_by (newest old.core.desk.base.marks) below old.core.ledger ≡ Some why → (r : Result (Unit {0}) Refusal) → result ≡ r → IsVisit is_honest state faults who always old new
    told_so why room refused (Ok x) e =
        absurd (cc ((subst (λ (r : Result (Unit {0}) Refusal). OnOk r ((drop_refused_by (newest old.core.desk.base.marks) below old.core.ledger ≡ None) × (new.core.ledger ≡ closed who (whats.Dropped below) (drop_kept who old.core.ledger)))) e does.dropped.done).0, refused))
    told_so why room refused (Err other) e = ⊎_elim
        (λ (l : (other ≡ why) × (new.core.ledger ≡ closed who (whats.Refused why) (drop_kept who old.core.ledger))).
        untouched other e (λ f. refused_fault (newest old.core.desk.base.marks) below old.core.ledger (why, refused, subst IsDiskFault l.0 f))
        (λ mine. adds_dropped who (IsToldIn mine) old.core.ledger new.core.ledger (whats.Refused why) (λ d c p. absurd (omega (arith, p))) tt l.1) (slot_is _ None l.1 (slot_own (drop_kept who old.core.ledger).works.slots who.session None) tt))
        (λ (g : (other ≡ OutOfMemory) × (new.core.ledger ≡ given_up who old.core.ledger)). gave other e (λ f. subst IsDiskFault g.0 f) g.1)
        (subst (λ (r : Result (Unit {0}) Refusal). IfErr r (λ o. ((o ≡ why) × (new.core.ledger ≡ closed who (whats.Refused why) (drop_kept who old.core.ledger))) ⊎ ((o ≡ OutOfMemory) × (new.core.ledger ≡ given_up who old.core.ledger)))) e (does.dropped.refused why room refused))

    pub drops : IsVisit is_honest state faults who always old new
    drops = at (drop_line_refused who old.core.ledger) refl where
      asked : (room : drop_line_refused who old.core.ledger ≡ None) (r : Option Refusal) → drop_refused_by (newest old.core.desk.base.marks) below old.core.ledger ≡ r → IsVisit is_honest state faults who always old new
      asked room None free = made room free result refl
      asked room (Some why) refused = told_so why room refused result refl

      at : (r : Option Refusal) → drop_line_refused who old.core.ledger ≡ r → IsVisit is_honest state faults who always old new
      at None room = asked room (drop_refused_by (newest old.core.desk.base.marks) below old.core.ledger) refl
      at (Some why) full = let f = does.dropped.full why full in gave why f.0 (λ fault. lines_fault (given_up who old.core.ledger).book _ (why, full, fault)) f.1

    -- ---- what the session has then

    abbrev Then : Option Work
    Then = work_at (slots_of new) who.session

    then_is : (l : Ledger) (w : Option Work) → new.core.ledger ≡ l → work_at l.works.slots who.session ≡ w → is_closed w ≡ true → is_closed Then ≡ true
    then_is l w e there is = ap is_closed (ap (λ (x : Ledger). work_at x.works.slots who.session) e ∙ there) ∙ is

    then_given : new.core.ledger ≡ given_up who old.core.ledger → is_closed Then ≡ true
    then_given e = then_is (given_up who old.core.ledger) _ e refl (given_still who old.core.ledger is_closed_there)

    then_closed : (what : _) → new.core.ledger ≡ closed who what (drop_kept who old.core.ledger) → is_closed Then ≡ true
    then_closed what e = then_is _ None e (slot_own (drop_kept who old.core.ledger).works.slots who.session None) refl

    then_kept : new.core.ledger ≡ drop_kept who old.core.ledger → is_closed Then ≡ true
    then_kept e = then_is (drop_kept who old.core.ledger) _ e refl (kept_still who _ (kept_slot who old.core.ledger))

    then_ended : (why : Refusal) → HasEndedDrop who below why (drop_kept who old.core.ledger) new.core.ledger → is_closed Then ≡ true
    then_ended why end = ⊎_elim (λ (memory : why ≡ OutOfMemory). then_is _ None (end.memory memory) (slot_own (drop_kept who old.core.ledger).works.slots who.session None) refl)
        (λ (other : why ≡ OutOfMemory → ⊥). ⊎_elim
        (λ (f : (d : Device) × (c : ℕ) × (why ≡ DiskFault d c)).
        let there = some_there (work_at (drop_kept who old.core.ledger).works.slots who.session) (some_kept who _ (kept_slot who old.core.ledger)) in
        then_closed (whats.Fault f.0 f.1 (Append (Drop below))) (end.other other ∙ (ap (λ (x : Refusal). failed_at (Append (Drop below)) who x (drop_kept who old.core.ledger)) f.2 ∙ faulted_closed who (drop_kept who old.core.ledger) f.0 f.1 (Append (Drop below)) there.0 there.1)))
        (λ (none : IsDiskFault why → ⊥). then_kept (end.other other ∙ not_failed (Append (Drop below)) who why (drop_kept who old.core.ledger) none)) (fault_or why)) (memory_or why)

    -- behind each drop nothing is open
    pub drops_closed : is_closed Then ≡ true
    drops_closed = at (drop_line_refused who old.core.ledger) refl where
      answered : (room : drop_line_refused who old.core.ledger ≡ None) (refused : Option Refusal) → drop_refused_by (newest old.core.desk.base.marks) below old.core.ledger ≡ refused → (r : Result (Unit {0}) Refusal) → result ≡ r → is_closed Then ≡ true
      answered room refused is (Ok x) e =
          then_closed (whats.Dropped below) (subst (λ (r : Result (Unit {0}) Refusal). OnOk r ((drop_refused_by (newest old.core.desk.base.marks) below old.core.ledger ≡ None) × (new.core.ledger ≡ closed who (whats.Dropped below) (drop_kept who old.core.ledger)))) e does.dropped.done).1
      answered room None is (Err why) e = ⊎_elim (then_ended why) (λ (g : (why ≡ OutOfMemory) × (new.core.ledger ≡ given_up who old.core.ledger)). then_given g.1)
          (subst (λ (r : Result (Unit {0}) Refusal). IfErr r (λ w. HasEndedDrop who below w (drop_kept who old.core.ledger) new.core.ledger ⊎ ((w ≡ OutOfMemory) × (new.core.ledger ≡ given_up who old.core.ledger)))) e (does.dropped.kept room is))
      answered room (Some because) is (Err why) e = ⊎_elim (λ (l : (why ≡ because) × (new.core.ledger ≡ closed who (whats.Refused because) (drop_kept who old.core.ledger))). then_closed _ l.1)
          (λ (g : (why ≡ OutOfMemory) × (new.core.ledger ≡ given_up who old.core.ledger)). then_given g.1)
          (subst (λ (r : Result (Unit {0}) Refusal). IfErr r (λ o. ((o ≡ because) × (new.core.ledger ≡ closed who (whats.Refused because) (drop_kept who old.core.ledger))) ⊎ ((o ≡ OutOfMemory) × (new.core.ledger ≡ given_up who old.core.ledger)))) e (does.dropped.refused because room is))

      at : (r : Option Refusal) → drop_line_refused who old.core.ledger ≡ r → is_closed Then ≡ true
      at (Some why) full = then_given (does.dropped.full why full).1
      at None room = answered room (drop_refused_by (newest old.core.desk.base.marks) below old.core.ledger) refl result refl

    -- a drop that found no room in the log keeps its line
    pub no_room_kept : (why : Refusal) → result ≡ Err why → IsRoom why → new.core.ledger ≡ drop_kept who old.core.ledger
    no_room_kept why e is = at (drop_line_refused who old.core.ledger) refl where
      answered : (room : drop_line_refused who old.core.ledger ≡ None) (refused : Option Refusal) → drop_refused_by (newest old.core.desk.base.marks) below old.core.ledger ≡ refused → new.core.ledger ≡ drop_kept who old.core.ledger
      answered room None free = ⊎_elim
          (λ (end : HasEndedDrop who below why (drop_kept who old.core.ledger) new.core.ledger). end.other (λ m. subst IsRoom m is) ∙ not_failed (Append (Drop below)) who why (drop_kept who old.core.ledger) (room_no_fault why is))
          (λ (g : (why ≡ OutOfMemory) × (new.core.ledger ≡ given_up who old.core.ledger)). absurd (subst IsRoom g.0 is))
          (subst (λ (r : Result (Unit {0}) Refusal). IfErr r (λ w. HasEndedDrop who below w (drop_kept who old.core.ledger) new.core.ledger ⊎ ((w ≡ OutOfMemory) × (new.core.ledger ≡ given_up who old.core.ledger)))) e (does.dropped.kept room free))
      answered room (Some because) refused = ⊎_elim
          (λ (l : (why ≡ because) × (new.core.ledger ≡ closed who (whats.Refused because) (drop_kept who old.core.ledger))).
          absurd (refused_tells IsRoom (newest old.core.desk.base.marks) below old.core.ledger (λ s x. x) (λ a b x. x) (λ a b x. x) (because, refused, subst IsRoom l.0 is)))
          (λ (g : (why ≡ OutOfMemory) × (new.core.ledger ≡ given_up who old.core.ledger)). absurd (subst IsRoom g.0 is))
          (subst (λ (r : Result (Unit {0}) Refusal). IfErr r (λ o. ((o ≡ because) × (new.core.ledger ≡ closed who (whats.Refused because) (drop_kept who old.core.ledger))) ⊎ ((o ≡ OutOfMemory) × (new.core.ledger ≡ given_up who old.core.ledger)))) e (does.dropped.refused because room refused))

      at : (r : Option Refusal) → drop_line_refused who old.core.ledger ≡ r → new.core.ledger ≡ drop_kept who old.core.ledger
      at None room = answered room (drop_refused_by (newest old.core.desk.base.marks) below old.core.ledger) refl
      at (Some because) full =
          absurd (lines_tells IsRoom (given_up who old.core.ledger).book _ (λ a b x. x) (because, full, subst IsRoom (err_is result why because e (does.dropped.full because full).0) is))

    pub drops_kept : IfErr result (λ why. IsRoom why → keeps_drop who Then ≡ true)
    drops_kept = on_err result (λ why. IsRoom why → keeps_drop who Then ≡ true)
        (λ why e is. ap (λ (l : Ledger). keeps_drop who (work_at l.works.slots who.session)) (no_room_kept why e is) ∙ kept_slot who old.core.ledger)

-- ---- the line of a drop given up

kept_some : (w : Option Work) → is_closed w ≡ true → is_kept_drop w ≡ false → w ≡ None
kept_some None c e = refl
kept_some (Some (Open t)) c e = absurd (cc c)
kept_some (Some (Looking look)) c e = absurd (cc c)
kept_some (Some (KeptDrop who)) c e = absurd (cc e)

module _ (who : Who) (l : Ledger) (is : is_closed (work_at l.works.slots who.session) ≡ true) where
  without_none : work_at (without_drop who.session l).works.slots who.session ≡ None
  without_none = at (is_kept_drop (work_at l.works.slots who.session)) refl where
    at : (test : Bool) → is_kept_drop (work_at l.works.slots who.session) ≡ test → work_at (cond test (gives_up who.session l) l).works.slots who.session ≡ None
    at true e = slot_own l.works.slots who.session None
    at false e = kept_some (work_at l.works.slots who.session) is e

module _ {D : Type 0} (is_honest : D → Type 0) (state : D → State) (faults : D → ℕ) (who : Who) (old new : DeskSide D) (start : new.start ≡ old.start) (stands : DeskStands is_honest state old) (is : is_closed (work_at (slots_of old) who.session) ≡ true) (does : GivesUpDrop is_honest state who old.core new.core) where
  pub none_kept : work_at (slots_of new) who.session ≡ None
  none_kept = ap (λ (l : Ledger). work_at l.works.slots who.session) does.ledger ∙ without_none who old.core.ledger is

  pub gives_up_visit : IsVisit is_honest state faults who always old new
  gives_up_visit = visit is_honest state faults who always old new start (stands_stays is_honest state old new start does.stays (as_honest is_honest old.core new.core does.desk) stands)
      (counts_same faults old.core new.core does.desk) (ap (λ (r : RunningDesk D). r.queue.first) does.desk)
      (λ mine own. adds_without who (IsToldIn _) old.core.ledger new.core.ledger does.ledger)
      (closes is_honest state faults who old new start stands always (subst IsClosed (sym none_kept) tt))
