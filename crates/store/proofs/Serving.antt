-- The calls of rounds may be made in a visit to the desk.
use Rattle.std.proofs.Common.{◌≡◌, ◌≤◌, ◌<◌, ◌∙◌, ◌++◌, ℕ, Bool, true, false, cond, List, Option, Some, None, Result, Ok, Err, refl, sym, ap, subst, arith}
use Rattle.std.specs.Prelude.{◌↔◌, IfErr, MatchResult, is_some}
use Rattle.block_file.specs.Blocks.{File}
use Rattle.disk_model.specs.Disk.{State}
use Rattle.disk_model.specs.Moments.{Clock}
use Rattle.retro_base.specs.Cause.{IsFault}
use Rattle.retro_base.specs.declared.device.Device.{Device}
use Rattle.retro_base.specs.declared.device.Device.TheVariants.{Log, Pages}
use Rattle.retro_base.specs.declared.refusal.Refusal.{Refusal}
use Rattle.retro_base.specs.declared.refusal.Refusal.TheVariants.{DiskFault, OutOfMemory, Stopped}
use Rattle.retro_base.specs.declared.who.Who.{Who}
use Rattle.gate_log.specs.Cause.{IsDiskFault}
use Rattle.history.specs.declared.stop.Stop.{Stop}
use Rattle.journal_book.specs.declared.work.Work.{Work}
use Rattle.journal_book.specs.declared.work.Work.TheVariants.{Open}
use Rattle.journal_book.specs.Book.{noting}
use Rattle.journal_book.specs.Works.{work_at}
use Rattle.race_model.specs.Machine.{acked_to, cut, cut_failed, settled, stopped, write_failed, written_desk}
use Rattle.redo_log.specs.Cause.{IsMemoryOrFault}
use Rattle.desk.specs.Cause.{IsWriteRefusal}
use Rattle.desk.specs.declared.desk.RunningDesk.{RunningDesk}
use Rattle.txn_set.specs.declared.ledger.Ledger.{Ledger}
use Rattle.txn_set.specs.Ledger.{closed, faulted, line_of}
use Rattle.history.specs.declared.journal.FailedCall.TheVariants.{Write}
use Rattle.history.specs.declared.journal.FailedCall.{FailedCall}
use Rattle.history.specs.declared.journal.What.TheVariants.{Fault}
use Rattle.store_core.specs.declared.desk_core.Core.{Core}
use Rattle.store_core.specs.Calls.{failed}
use Rattle.store_core.specs.Core.{IsCore}
use Rattle.turn.specs.declared.view.Holding.{Holding}
use Rattle.turn.specs.Faults.{LAST, desk_faults, fault_times}
use Rattle.turn.specs.Seats.{MayLeave}
use Rattle.turn.proofs.Faults.{told_still}
use Rattle.store.specs.declared.desk_side.DeskSide.{DeskSide}
use Rattle.store.specs.RoundCalls.{AckDoes, CutDoes, HasServed, NoteDoes, SettleDoes, WriteBackDoes}
use Rattle.store.specs.Seats.{CountFits, HasOwn, IsVisit, KeptIsTold, always, journal, slots_of}
use Rattle.store.specs.Sides.{DeskStands, Keeps, of_desk}
use Rattle.store.specs.Start.{AreAsHonest, IsCoreFrom, Origin, desk_counts, of_start}
use Rattle.store.specs.Workers.{IsFreshWorker}
use Rattle.store.proofs.Adding.{adds_faulted, adds_nothing, slot_own}
use Rattle.store.proofs.Answering.{page_told, same_pages}
use Rattle.store.proofs.Calling.{IsClosed, closes, counts_up, fault_is, told_more, visit}
use Rattle.store.proofs.Committing.{more_told}
use Rattle.store.proofs.Leaving.{IsToldIn, may_leave_quiet, stands_moved}
use Rattle.store.proofs.Telling.{Behind, Told, told_log}

-- ---- refusals

pub not_failed : (who : Who) (why : Refusal) (l : Ledger) → (IsDiskFault why → ⊥) → failed who why l ≡ l
not_failed who (DiskFault d c) l none = absurd (none tt)
not_failed who _ l none = refl

pub same_core : {D : Type 0} (old new : Core D) → new.desk ≡ old.desk → new.ledger ≡ old.ledger → new ≡ old
same_core old new e f = λ i. record { desk = e i; ledger = f i }

none_closed : (w : Option Work) → is_some w ≡ false → IsClosed w
none_closed None e = tt
none_closed (Some w) e = absurd (cc e)

-- a fault of the log's device is told
pub log_told : {D : Type 0} (faults : D → ℕ) (old new : Core D) (d : Device) (c : ℕ) → c ≤ LAST → IsFault Log (faults old.desk.log.disk) (faults new.desk.log.disk) (DiskFault d c)
    → 0 < fault_times d c (desk_faults (desk_counts faults old) (desk_counts faults new))
log_told faults old new d c few cause =
    let told = told_log (desk_counts faults old) (desk_counts faults new) cause.3 (subst (λ (n : ℕ). n ≤ LAST) cause.1 few) in
    subst (λ (x : Device × ℕ). 0 < fault_times x.0 x.1 (desk_faults (desk_counts faults old) (desk_counts faults new))) (λ i. (sym cause.0 i, sym cause.1 i)) told

module _ {D : Type 0} (is_honest : D → Type 0) (state : D → State) (faults : D → ℕ) (who : Who) (old new : DeskSide D) (start : new.start ≡ old.start) (stands : DeskStands is_honest state old) where
  -- the item's fault finds a line
  abbrev pub Fresh : Type 0
  Fresh = is_some (work_at (slots_of old) who.session) ≡ false → IsFreshWorker who.session (journal old)

  -- each plain desk that the core was makes another, which knows of as many captures
  abbrev pub Moved : Type 0
  Moved = (origin : Origin) (from_ : IsCoreFrom is_honest state origin old.core) → (next : IsCoreFrom is_honest state origin new.core) × (next.plain.acked ≡ from_.plain.acked)

  module _ (moves : Moved) (honest : AreAsHonest is_honest old.core new.core) (counts : (d : Device) → desk_counts faults old.core d ≤ desk_counts faults new.core d) where
    acked_same : new.core.desk.queue.first ≡ old.core.desk.queue.first
    acked_same = let from_ = stands.stands stands.origin stands.opened in let n = moves stands.origin from_ in n.0.is.is.first ∙ (n.1 ∙ sym from_.is.is.first)

    stands_behind : DeskStands is_honest state new
    stands_behind = stands_moved is_honest state old new start (λ o f. (moves o f).0) honest stands

    keeps_same : (tells : List (Device × ℕ) → Type 0) → new.core.ledger ≡ old.core.ledger → (mine : Holding Work) → HasOwn who tells old mine
        → KeptIsTold (Behind is_honest state faults who tells old new mine).work (Behind is_honest state faults who tells old new mine).faults
    keeps_same tells same mine own t d c is kept =
        let here = Told is_honest state faults who tells old new in
        let all : (Behind is_honest state faults who tells old new mine).faults ≡ mine.faults ++ here = told_still (journal old) (journal new) (mine.faults ++ here) (ap (λ (l : Ledger). l.book.lines) same) in
        let before : mine.work ≡ Some (Open t) = own.work ∙ (ap (work_at (slots_of old)) (sym own.number) ∙ (sym (ap (λ (l : Ledger). work_at l.works.slots mine.number) same) ∙ is)) in
        subst (λ (fs : List (Device × ℕ)). 0 < fault_times d c fs) (sym all) (told_more mine.faults here d c (own.kept t d c before kept))

    pub same_visit : (tells : List (Device × ℕ) → Type 0) → new.core.ledger ≡ old.core.ledger → IsVisit is_honest state faults who tells old new
    same_visit tells same = visit is_honest state faults who tells old new start stands_behind counts acked_same (λ mine own. adds_nothing who (IsToldIn _) old.core.ledger new.core.ledger same) (keeps_same tells same)

    closed_behind : (d : Device) (c : ℕ) (call : FailedCall) → new.core.ledger ≡ faulted who d c call old.core.ledger → IsClosed (work_at (slots_of new) who.session)
    closed_behind d c call e = at (is_some (work_at (slots_of old) who.session)) refl where
      Is : Bool → Ledger
      Is test = cond test (closed who (Fault d c call) old.core.ledger) (record old.core.ledger { book = noting old.core.ledger.book (line_of who (Fault d c call)) })

      at : (test : Bool) → is_some (work_at (slots_of old) who.session) ≡ test → IsClosed (work_at (slots_of new) who.session)
      at true t = subst IsClosed (sym (ap (λ (l : Ledger). work_at l.works.slots who.session) (e ∙ ap Is t) ∙ slot_own (slots_of old) who.session None)) tt
      at false t = subst IsClosed (sym (ap (λ (l : Ledger). work_at l.works.slots who.session) (e ∙ ap Is t))) (none_closed (work_at (slots_of old) who.session) t)

    pub fault_visit : (tells : List (Device × ℕ) → Type 0) (d : Device) (c : ℕ) (call : FailedCall) → Fresh → new.core.ledger ≡ faulted who d c call old.core.ledger
        → ((mine : Holding Work) → HasOwn who tells old mine → 0 < fault_times d c (mine.faults ++ Told is_honest state faults who tells old new)) → IsVisit is_honest state faults who tells old new
    fault_visit tells d c call fresh ledger told =
        visit is_honest state faults who tells old new start stands_behind counts acked_same
        (λ mine own. adds_faulted who (IsToldIn _) old.core.ledger new.core.ledger d c call fresh (λ e n p. fault_is _ d c (told mine own) e n p) ledger)
        (closes is_honest state faults who old new start stands tells (closed_behind d c call ledger))

    -- a call of a worker, whose fault has its line
    pub served : {T : Type 0} (result : Result T Refusal) → Fresh → HasServed who old.core new.core result → ((d : Device) (c : ℕ) → result ≡ Err (DiskFault d c) → 0 < fault_times d c (Told is_honest state faults who always old new))
        → IsVisit is_honest state faults who always old new
    served (Ok x) fresh ledger told = same_visit always ledger
    served (Err (DiskFault d c)) fresh ledger told = fault_visit always d c Write fresh ledger (λ mine own. more_told mine.faults _ d c (told d c refl))
    served (Err why) fresh ledger told = same_visit always ledger

  moved_same : new.core ≡ old.core → Moved
  moved_same same origin from_ = (record { plain = from_.plain; is = subst (λ (c : Core D). IsCore is_honest state origin.history c from_.plain) (sym same) from_.is; floor = from_.floor; in_version = from_.in_version }, refl)

  -- where the refusal is no fault
  quiet_moved : (why : Refusal) → (IsDiskFault why → ⊥) → new.core.ledger ≡ failed who why old.core.ledger → ((IsDiskFault why → ⊥) → new.core.desk ≡ old.core.desk) → Moved
  quiet_moved why none ledger untouched = moved_same (same_core old.core new.core (untouched none) (ledger ∙ not_failed who why old.core.ledger none))

  -- ---- a refused write, by a device

  write_up : (stop : Option Stop) (device : Device) (before now : ℕ) (why : Refusal) → IsWriteRefusal stop (IsFault device before now) why → ((IsDiskFault why → ⊥) → now ≡ before) → before ≤ now
  write_up stop device before now (DiskFault d c) e same = e.1.2
  write_up stop device before now (Stopped d c) e same = let q = same (λ x. x) in omega (arith, q)
  write_up stop device before now _ e same = absurd e.1

  memory_up : (stop : Option Stop) (device : Device) (before now : ℕ) (why : Refusal) → IsWriteRefusal stop (IsMemoryOrFault device before now) why → ((IsDiskFault why → ⊥) → now ≡ before) → before ≤ now
  memory_up stop device before now (DiskFault d c) e same = e.1.2
  memory_up stop device before now (Stopped d c) e same = let q = same (λ x. x) in omega (arith, q)
  memory_up stop device before now OutOfMemory e same = let q = e.1 in omega (arith, q)
  memory_up stop device before now _ e same = absurd e.1

  page_counts : {T : Type 0} (result : Result T Refusal) → new.core.desk.log ≡ old.core.desk.log
      → MatchResult result (λ _. (old.core.desk.stop ≡ None) × (faults new.core.desk.pool.file.disk ≡ faults old.core.desk.pool.file.disk))
      (IsWriteRefusal old.core.desk.stop (IsFault Pages (faults old.core.desk.pool.file.disk) (faults new.core.desk.pool.file.disk)))
      → IfErr result (λ why. (IsDiskFault why → ⊥) → new.core.desk ≡ old.core.desk) → (d : Device) → desk_counts faults old.core d ≤ desk_counts faults new.core d
  page_counts (Ok x) log cause untouched = counts_up faults old.core new.core (let e = ap (λ l. faults l.disk) log in omega (arith, e)) (let e = cause.1 in omega (arith, e))
  page_counts (Err why) log cause untouched = counts_up faults old.core new.core (let e = ap (λ l. faults l.disk) log in omega (arith, e))
      (write_up old.core.desk.stop Pages _ _ why cause (λ none. ap (λ (r : RunningDesk D). faults r.pool.file.disk) (untouched none)))

  log_counts : {T : Type 0} (result : Result T Refusal) → new.core.desk.pool.file ≡ old.core.desk.pool.file
      → MatchResult result (λ _. (old.core.desk.stop ≡ None) × (faults new.core.desk.log.disk ≡ faults old.core.desk.log.disk))
      (IsWriteRefusal old.core.desk.stop (IsMemoryOrFault Log (faults old.core.desk.log.disk) (faults new.core.desk.log.disk)))
      → IfErr result (λ why. (IsDiskFault why → ⊥) → new.core.desk ≡ old.core.desk) → (d : Device) → desk_counts faults old.core d ≤ desk_counts faults new.core d
  log_counts (Ok x) pages cause untouched = counts_up faults old.core new.core (let e = cause.1 in omega (arith, e)) (let e = ap (λ (f : File D). faults f.disk) pages in omega (arith, e))
  log_counts (Err why) pages cause untouched = counts_up faults old.core new.core
      (memory_up old.core.desk.stop Log _ _ why cause (λ none. ap (λ (r : RunningDesk D). faults r.log.disk) (untouched none))) (let e = ap (λ (f : File D). faults f.disk) pages in omega (arith, e))

  log_honest : new.core.desk.log ≡ old.core.desk.log → is_honest old.core.desk.log.disk ↔ is_honest new.core.desk.log.disk
  log_honest e = subst (λ l. is_honest old.core.desk.log.disk ↔ is_honest l.disk) (sym e) ((λ a. a), (λ a. a))

  -- ---- each call

  pub notes : (device : Device) (count : ℕ) → Fresh → NoteDoes is_honest state who device count Write old.core new.core → IsVisit is_honest state faults who (λ fs. 0 < fault_times device count fs) old new
  notes device count fresh does =
      fault_visit (λ origin from_. (record { plain = stopped from_.plain; is = does.stops origin.history from_.plain from_.is refl; floor = from_.floor; in_version = from_.in_version }, refl))
      (record { log = log_honest does.log; pages = same_pages is_honest old.core new.core does.file })
      (counts_up faults old.core new.core (let e = ap (λ l. faults l.disk) does.log in omega (arith, e)) (let e = ap (λ (f : File D). faults f.disk) does.file in omega (arith, e)))
      (λ fs. 0 < fault_times device count fs) device count Write fresh does.ledger (λ mine own. told_more mine.faults _ device count own.told)

  module _ (remembers : Type 0) (clock : D → Clock) where
    writes_moved : (result : Result Bool Refusal) → WriteBackDoes is_honest state faults remembers clock who result old.core new.core → Moved
    writes_moved (Ok true) does origin from_ =
        let d = does.done origin.history from_.plain from_.is refl in
        (record { plain = written_desk from_.plain d.0 from_.plain.acked; is = d.3 from_.plain.acked d.2; floor = from_.floor; in_version = from_.in_version }, refl)
    writes_moved (Ok false) does origin from_ = moved_same (does.none origin.history from_.plain from_.is refl).0 origin from_
    writes_moved (Err (DiskFault d c)) does origin from_ =
        let f = does.failed origin.history from_.plain from_.plain.acked from_.is tt in
        (record { plain = write_failed from_.plain f.0 from_.plain.acked f.1; is = f.4 f.3; floor = from_.floor; in_version = from_.in_version }, refl)
    writes_moved (Err why) does origin from_ = quiet_moved why (λ x. x) does.ledger does.untouched origin from_

    pub writes_back : (result : Result Bool Refusal) → Fresh → CountFits result → WriteBackDoes is_honest state faults remembers clock who result old.core new.core → IsVisit is_honest state faults who always old new
    writes_back result fresh few does =
        served (writes_moved result does) (record { log = log_honest does.log; pages = does.same.honest }) (page_counts result does.log does.cause does.untouched) result fresh does.ledger
        (λ d c e. page_told faults old.core new.core d c (few d c e)
        (subst (λ (r : Result Bool Refusal). MatchResult r (λ _. (old.core.desk.stop ≡ None) × (faults new.core.desk.pool.file.disk ≡ faults old.core.desk.pool.file.disk))
        (IsWriteRefusal old.core.desk.stop (IsFault Pages (faults old.core.desk.pool.file.disk) (faults new.core.desk.pool.file.disk)))) e does.cause).1)

    settles_moved : (result : Result (Unit {0}) Refusal) → SettleDoes is_honest state faults remembers clock who result old.core new.core → Moved
    settles_moved (Ok x) does origin from_ = (record { plain = settled from_.plain; is = does.done origin.history from_.plain from_.is; floor = from_.floor; in_version = from_.in_version }, refl)
    settles_moved (Err (DiskFault d c)) does origin from_ = (record { plain = stopped from_.plain; is = does.failed origin.history from_.plain from_.is tt; floor = from_.floor; in_version = from_.in_version }, refl)
    settles_moved (Err why) does origin from_ = quiet_moved why (λ x. x) does.ledger does.untouched origin from_

    pub settles : (result : Result (Unit {0}) Refusal) → Fresh → CountFits result → SettleDoes is_honest state faults remembers clock who result old.core new.core → IsVisit is_honest state faults who always old new
    settles result fresh few does =
        served (settles_moved result does) (record { log = log_honest does.log; pages = does.same.honest }) (page_counts result does.log does.cause does.untouched) result fresh does.ledger
        (λ d c e. page_told faults old.core new.core d c (few d c e)
        (subst (λ (r : Result (Unit {0}) Refusal). MatchResult r (λ _. (old.core.desk.stop ≡ None) × (faults new.core.desk.pool.file.disk ≡ faults old.core.desk.pool.file.disk))
        (IsWriteRefusal old.core.desk.stop (IsFault Pages (faults old.core.desk.pool.file.disk) (faults new.core.desk.pool.file.disk)))) e does.cause).1)

    cuts_moved : (result : Result Bool Refusal) → CutDoes is_honest state faults remembers clock who result old.core new.core → Moved
    cuts_moved (Ok true) does origin from_ = (record { plain = cut from_.plain; is = (does.done origin.history from_.plain from_.is refl).1; floor = from_.floor; in_version = from_.in_version }, refl)
    cuts_moved (Ok false) does origin from_ = moved_same (does.none origin.history from_.plain from_.is refl).0 origin from_
    cuts_moved (Err (DiskFault d c)) does origin from_ = (record { plain = cut_failed from_.plain; is = (does.failed origin.history from_.plain from_.is tt).1; floor = from_.floor; in_version = (from_.in_version.0, from_.in_version.0) }, refl)
    cuts_moved (Err why) does origin from_ = quiet_moved why (λ x. x) does.ledger does.untouched origin from_

    pub cuts : (result : Result Bool Refusal) → Fresh → CountFits result → CutDoes is_honest state faults remembers clock who result old.core new.core → IsVisit is_honest state faults who always old new
    cuts result fresh few does =
        served (cuts_moved result does) (record { log = does.honest; pages = same_pages is_honest old.core new.core does.pages }) (log_counts result does.pages does.cause does.untouched) result fresh does.ledger
        (λ d c e. log_told faults old.core new.core d c (few d c e)
        (subst (λ (r : Result Bool Refusal). MatchResult r (λ _. (old.core.desk.stop ≡ None) × (faults new.core.desk.log.disk ≡ faults old.core.desk.log.disk))
        (IsWriteRefusal old.core.desk.stop (IsMemoryOrFault Log (faults old.core.desk.log.disk) (faults new.core.desk.log.disk)))) e does.cause).1)

module _ {D : Type 0} (is_honest : D → Type 0) (state : D → State) (faults : D → ℕ) (old new : DeskSide D) (start : new.start ≡ old.start) (stands : DeskStands is_honest state old) where
  -- what the desk learns of the vault is no more than its seat knows
  pub acks : (receipt : ℕ) → AckDoes is_honest state receipt old.core new.core → (most : ℕ) (mine : Holding Work) → Keeps is_honest state faults old → old.core.desk.queue.first ≤ most → receipt ≤ most
      → MayLeave (of_desk is_honest state faults) (of_start faults) most mine old new
  acks receipt does most mine keeps le few =
      may_leave_quiet is_honest state old new start faults most mine
      (stands_moved is_honest state old new start (λ origin from_. record { plain = acked_to from_.plain receipt; is = does.done origin.history from_.plain from_.is; floor = from_.floor; in_version = from_.in_version })
      (subst (λ (r : RunningDesk D). AreAsHonest is_honest old.core (record { desk = r; ledger = new.core.ledger })) (sym does.queue) (record { log = ((λ a. a), (λ a. a)); pages = ((λ a. a), (λ a. a)) })) stands)
      keeps (counts_up faults old.core new.core (let e = ap (λ (r : RunningDesk D). faults r.log.disk) does.queue in omega (arith, e)) (let e = ap (λ (r : RunningDesk D). faults r.pool.file.disk) does.queue in omega (arith, e)))
      does.ledger (let e = ap (λ (r : RunningDesk D). r.queue.first) does.queue in omega (arith, e, le, few))
