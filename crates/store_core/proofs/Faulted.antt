-- The core behind writes, and behind the lines of faults.
use Rattle.std.proofs.Common.{◌≡◌, ◌∙◌, ◌≤◌, ◌&&◌, not, ℕ, Bool, true, false, cond, List, [], ◌∷◌, ◌++◌, refl, sym, ap, subst, Option, Some, None}
use Rattle.std.specs.Prelude.{is_some}
use Rattle.std.specs.Option.{option_or}
use Rattle.disk_model.specs.Disk.{State}
use Rattle.retro_base.specs.declared.device.Device.{Device}
use Rattle.retro_base.specs.declared.refusal.Refusal.{Refusal}
use Rattle.retro_base.specs.declared.refusal.Refusal.TheVariants.{DiskFault}
use Rattle.retro_base.specs.declared.refusal.Refusal.TheVariants as refusals
use Rattle.retro_base.specs.declared.who.Who.{Who}
use Rattle.gate_log.specs.Cause.{IsDiskFault}
use Rattle.history.specs.Lines.{is_write, stop_of}
use Rattle.history.specs.declared.entry.Base.{Base}
use Rattle.history.specs.declared.journal.FailedCall.{FailedCall}
use Rattle.history.specs.declared.journal.FailedCall.TheVariants.{Append, Read, Write}
use Rattle.history.specs.declared.journal.What.TheVariants as whats
use Rattle.history.specs.History.{History, now}
use Rattle.page_pool.specs.Side.{held}
use Rattle.race_model.specs.Desk.{Desk}
use Rattle.race_model.specs.Fits.{DeskFits}
use Rattle.desk.specs.declared.desk.RunningDesk.{RunningDesk}
use Rattle.history.specs.declared.stop.Stop.{Stop}
use Rattle.desk.specs.Cause.{IsWriteRefusal, stop_behind}
use Rattle.desk.specs.Desk.{IsDesk}
use Rattle.desk.specs.Steps.{SameButPages}
use Rattle.journal_book.specs.declared.work.Transaction.{Transaction}
use Rattle.journal_book.specs.declared.work.Work.{Work}
use Rattle.journal_book.specs.declared.work.Work.TheVariants.{Open}
use Rattle.journal_book.specs.Book.{noting}
use Rattle.journal_book.specs.Works.{edits_page, work_at}
use Rattle.txn_set.specs.declared.ledger.Ledger.{Ledger}
use Rattle.txn_set.specs.Ledger.{MayFault, closed, faulted, line_of}
use Rattle.txn_set.specs.WorksFit.{Closes, WorksFit}
use Rattle.txn_set.proofs.FitSteps.{is_none}
use Rattle.store_core.specs.declared.desk_core.Core.{Core}
use Rattle.store_core.specs.Calls.{MayRecord, failed_at, has_released}
use Rattle.store_core.specs.Core.{IsCore, IsToldDoubt}
use Rattle.store_core.proofs.Cores.{core_line, core_still, holds_moved, with_nothing}
use Rattle.store_core.proofs.Ledgers.{ledger_noted}
use Rattle.store_core.proofs.Opened.{and_true, core_ended, ends_fault}

module _ {D : Type 0} (honest : D → Type 0) (state : D → State) (opening : History) (core : Core D) (plain : Desk) (is : IsCore honest state opening core plain) where
  -- a step of the desk without a line
  pub core_step : (desk : RunningDesk D) (other : Desk) → IsDesk honest state desk other → DeskFits other → other.history ≡ plain.history → ((page : ℕ) → held desk.pool page ≡ held core.desk.pool page)
      → desk.stop ≡ core.desk.stop → desk.base ≡ core.desk.base → IsToldDoubt other.doubt core.ledger.book.lines → IsCore honest state opening (record { desk = desk; ledger = core.ledger }) other
  core_step desk other is_desk fits history same stop base told =
      core_still honest state opening core plain is (record { desk = desk; ledger = core.ledger }) other refl refl is.ledger is_desk fits history
      (holds_moved core.desk.pool desk.pool core.ledger.works.slots core.ledger.works.slots is.edits same (λ page session. refl)) stop base told

  worker_noted : (desk : RunningDesk D) (other : Desk) (who : Who) (device : Device) (count : ℕ) (call : FailedCall) (ledger : Ledger) → work_at core.ledger.works.slots who.session ≡ None → 1 ≤ core.ledger.book.workers
      → ledger ≡ record core.ledger { book = noting core.ledger.book (line_of who (whats.Fault device count call)) } → WorksFit ledger → IsDesk honest state desk other → DeskFits other → other.history ≡ plain.history
      → ((page : ℕ) → held desk.pool page ≡ (held core.desk.pool page && not (edits_page page (work_at core.ledger.works.slots who.session))))
      → desk.stop ≡ option_or core.desk.stop (stop_of (whats.Fault device count call)) → desk.base ≡ core.desk.base → IsToldDoubt other.doubt (core.ledger.book.lines ++ line_of who (whats.Fault device count call) ∷ [])
      → IsCore honest state opening (record { desk = desk; ledger = ledger }) other
  worker_noted desk other who device count call ledger none worker ledger_is works is_desk fits history released stop base told =
      let noted : Ledger = record core.ledger { book = noting core.ledger.book (line_of who (whats.Fault device count call)) } in
      subst (λ (l : Ledger). IsCore honest state opening (record { desk = desk; ledger = l }) other) (sym ledger_is)
      (core_line honest state opening core plain is (record { desk = desk; ledger = noted }) other (line_of who (whats.Fault device count call)) refl refl
      (ledger_noted (now opening).base core.ledger is.ledger who (whats.Fault device count call) none refl worker tt noted refl (subst WorksFit ledger_is works)) is_desk fits
      (history ∙ sym (with_nothing honest state opening core plain is plain.history))
      (holds_moved core.desk.pool desk.pool core.ledger.works.slots core.ledger.works.slots is.edits
      (λ page. released page ∙ ap (λ (w : Option Work). held core.desk.pool page && not (edits_page page w)) none ∙ sym (and_true (held core.desk.pool page))) (λ page session. refl))
      stop (ap (λ (b : Base). b.page_count) base) told)

  -- the line of a fault, and the pages released of what it closes
  pub core_faulted : (desk : RunningDesk D) (other : Desk) (who : Who) (device : Device) (count : ℕ) (call : FailedCall) (ledger : Ledger) → ledger ≡ faulted who device count call core.ledger → WorksFit ledger
      → MayFault who core.ledger → Closes who (whats.Fault device count call) (work_at core.ledger.works.slots who.session) → IsDesk honest state desk other → DeskFits other → other.history ≡ plain.history
      → ((page : ℕ) → held desk.pool page ≡ (held core.desk.pool page && not (edits_page page (work_at core.ledger.works.slots who.session))))
      → desk.stop ≡ option_or core.desk.stop (stop_of (whats.Fault device count call)) → desk.base ≡ core.desk.base → IsToldDoubt other.doubt (core.ledger.book.lines ++ line_of who (whats.Fault device count call) ∷ [])
      → IsCore honest state opening (record { desk = desk; ledger = ledger }) other
  core_faulted desk other who device count call ledger ledger_is works place closes is_desk fits history released stop base told =
      at (is_some (work_at core.ledger.works.slots who.session)) refl ledger_is where
        at : (test : Bool) → is_some (work_at core.ledger.works.slots who.session) ≡ test
            → ledger ≡ cond test (closed who (whats.Fault device count call) core.ledger) (record core.ledger { book = noting core.ledger.book (line_of who (whats.Fault device count call)) })
            → IsCore honest state opening (record { desk = desk; ledger = ledger }) other
        at true e l =
            core_ended honest state opening core plain is desk ledger other who (whats.Fault device count call) l works e closes (ends_fault device count call) is_desk fits history released stop base told
        at false e l = worker_noted desk other who device count call ledger (is_none (work_at core.ledger.works.slots who.session) e) (place e) l works is_desk fits history released stop base told

  -- behind a call of a device that failed while it wrote
  pub core_fails : (between desk : RunningDesk D) (other : Desk) (who : Who) (call : FailedCall) (why : Refusal) (ledger : Ledger) → IsDiskFault why → is_write call ≡ true → MayFault who core.ledger
      → ((device : Device) (count : ℕ) → Closes who (whats.Fault device count call) (work_at core.ledger.works.slots who.session)) → core.desk.stop ≡ None → between.stop ≡ stop_behind core.desk.stop why
      → between.base ≡ core.desk.base → ((page : ℕ) → held between.pool page ≡ held core.desk.pool page) → SameButPages between desk
      → ((page : ℕ) → held desk.pool page ≡ (held between.pool page && not (has_released who why page core.ledger)))
      → ledger ≡ failed_at call who why core.ledger → WorksFit ledger → IsDesk honest state desk other → DeskFits other → other.history ≡ plain.history
      → ((device : Device) (count : ℕ) → IsToldDoubt other.doubt (core.ledger.book.lines ++ line_of who (whats.Fault device count call) ∷ [])) → IsCore honest state opening (record { desk = desk; ledger = ledger }) other
  core_fails between desk other who call why ledger fault writes place closes goes stop base same rest released ledger_is works is_desk fits history told = at why fault stop released ledger_is where
    at : (why : Refusal) → IsDiskFault why → between.stop ≡ stop_behind core.desk.stop why → ((page : ℕ) → held desk.pool page ≡ (held between.pool page && not (has_released who why page core.ledger)))
        → ledger ≡ failed_at call who why core.ledger → IsCore honest state opening (record { desk = desk; ledger = ledger }) other
    at (DiskFault device count) fault stop released l =
        let mine : Stop = record { device = device; count = count } in
        core_faulted desk other who device count call ledger l works place (closes device count) is_desk fits history
        (λ page. released page ∙ ap (λ (b : Bool). b && not (edits_page page (work_at core.ledger.works.slots who.session))) (same page))
        (ap (λ (r : RunningDesk D). r.stop) rest ∙ stop ∙ ap (λ (s : Option Stop). option_or s (Some mine)) (sym goes) ∙ ap (λ (b : Bool). option_or core.desk.stop (cond b (Some mine) None)) (sym writes))
        (ap (λ (r : RunningDesk D). r.base) rest ∙ base) (told device count)
    at refusals.OutOfMemory fault stop released l = absurd fault
    at refusals.SourceFault fault stop released l = absurd fault
    at refusals.SinkFault fault stop released l = absurd fault
    at (refusals.NotAStore d p) fault stop released l = absurd fault
    at refusals.BadWords fault stop released l = absurd fault
    at (refusals.BadScript line) fault stop released l = absurd fault
    at (refusals.Overlap s i) fault stop released l = absurd fault
    at (refusals.NoSuchSnapshot a n) fault stop released l = absurd fault
    at (refusals.Dropped a o) fault stop released l = absurd fault
    at (refusals.Pinned a s) fault stop released l = absurd fault
    at (refusals.ArchiveFull n r) fault stop released l = absurd fault
    at (refusals.JournalFull lines i) fault stop released l = absurd fault
    at (refusals.PagesFull p) fault stop released l = absurd fault
    at (refusals.TooManyPages n) fault stop released l = absurd fault
    at (refusals.Stopped d c) fault stop released l = absurd fault
    at (refusals.NoRoom n f) fault stop released l = absurd fault
    at (refusals.SnapshotsFull r) fault stop released l = absurd fault
    at (refusals.Syntax p) fault stop released l = absurd fault
    at refusals.UnknownName fault stop released l = absurd fault
    at refusals.NameTaken fault stop released l = absurd fault
    at refusals.WrongType fault stop released l = absurd fault
    at refusals.Overflow fault stop released l = absurd fault
    at (refusals.RowTooLong b) fault stop released l = absurd fault
    at (refusals.NotOneValue s) fault stop released l = absurd fault
    at refusals.BadSizes fault stop released l = absurd fault

-- a write that failed had not been stopped before
pub was_going : (stop : Option Stop) (IsOwn : Refusal → Type 0) (why : Refusal) → IsDiskFault why → IsWriteRefusal stop IsOwn why → (stop ≡ None) × IsOwn why
was_going stop IsOwn (DiskFault device count) fault refused = refused
was_going stop IsOwn refusals.OutOfMemory fault refused = absurd fault
was_going stop IsOwn refusals.SourceFault fault refused = absurd fault
was_going stop IsOwn refusals.SinkFault fault refused = absurd fault
was_going stop IsOwn (refusals.NotAStore d p) fault refused = absurd fault
was_going stop IsOwn refusals.BadWords fault refused = absurd fault
was_going stop IsOwn (refusals.BadScript l) fault refused = absurd fault
was_going stop IsOwn (refusals.Overlap s i) fault refused = absurd fault
was_going stop IsOwn (refusals.NoSuchSnapshot a n) fault refused = absurd fault
was_going stop IsOwn (refusals.Dropped a o) fault refused = absurd fault
was_going stop IsOwn (refusals.Pinned a s) fault refused = absurd fault
was_going stop IsOwn (refusals.ArchiveFull n r) fault refused = absurd fault
was_going stop IsOwn (refusals.JournalFull l i) fault refused = absurd fault
was_going stop IsOwn (refusals.PagesFull p) fault refused = absurd fault
was_going stop IsOwn (refusals.TooManyPages n) fault refused = absurd fault
was_going stop IsOwn (refusals.Stopped d c) fault refused = absurd fault
was_going stop IsOwn (refusals.NoRoom n f) fault refused = absurd fault
was_going stop IsOwn (refusals.SnapshotsFull r) fault refused = absurd fault
was_going stop IsOwn (refusals.Syntax p) fault refused = absurd fault
was_going stop IsOwn refusals.UnknownName fault refused = absurd fault
was_going stop IsOwn refusals.NameTaken fault refused = absurd fault
was_going stop IsOwn refusals.WrongType fault refused = absurd fault
was_going stop IsOwn refusals.Overflow fault refused = absurd fault
was_going stop IsOwn (refusals.RowTooLong b) fault refused = absurd fault
was_going stop IsOwn (refusals.NotOneValue s) fault refused = absurd fault
was_going stop IsOwn refusals.BadSizes fault refused = absurd fault

-- the stop behind a fault
pub stop_by : (stop : Option Stop) (device : Device) (count : ℕ) (call : FailedCall) → cond (is_write call) (option_or stop (Some (record { device = device; count = count }))) stop ≡ option_or stop (stop_of (whats.Fault device count call))
stop_by stop device count Write = refl
stop_by stop device count (Append change) = refl
stop_by None device count Read = refl
stop_by (Some x) device count Read = refl

-- a refused write of a desk that goes on is refused for a cause of its own
pub going_refusal : (stop : Option Stop) (IsOwn : Refusal → Type 0) (why : Refusal) → stop ≡ None → IsWriteRefusal stop IsOwn why → IsOwn why
going_refusal stop IsOwn (refusals.Stopped d c) none refused = absurd (cc (none, refused))
going_refusal stop IsOwn (DiskFault device count) none refused = refused.1
going_refusal stop IsOwn refusals.OutOfMemory none refused = refused.1
going_refusal stop IsOwn refusals.SourceFault none refused = refused.1
going_refusal stop IsOwn refusals.SinkFault none refused = refused.1
going_refusal stop IsOwn (refusals.NotAStore d p) none refused = refused.1
going_refusal stop IsOwn refusals.BadWords none refused = refused.1
going_refusal stop IsOwn (refusals.BadScript n) none refused = refused.1
going_refusal stop IsOwn (refusals.Overlap s i) none refused = refused.1
going_refusal stop IsOwn (refusals.NoSuchSnapshot a n) none refused = refused.1
going_refusal stop IsOwn (refusals.Dropped a o) none refused = refused.1
going_refusal stop IsOwn (refusals.Pinned a s) none refused = refused.1
going_refusal stop IsOwn (refusals.ArchiveFull n r) none refused = refused.1
going_refusal stop IsOwn (refusals.JournalFull n i) none refused = refused.1
going_refusal stop IsOwn (refusals.PagesFull p) none refused = refused.1
going_refusal stop IsOwn (refusals.TooManyPages n) none refused = refused.1
going_refusal stop IsOwn (refusals.NoRoom n f) none refused = refused.1
going_refusal stop IsOwn (refusals.SnapshotsFull r) none refused = refused.1
going_refusal stop IsOwn (refusals.Syntax p) none refused = refused.1
going_refusal stop IsOwn refusals.UnknownName none refused = refused.1
going_refusal stop IsOwn refusals.NameTaken none refused = refused.1
going_refusal stop IsOwn refusals.WrongType none refused = refused.1
going_refusal stop IsOwn refusals.Overflow none refused = refused.1
going_refusal stop IsOwn (refusals.RowTooLong b) none refused = refused.1
going_refusal stop IsOwn (refusals.NotOneValue s) none refused = refused.1
going_refusal stop IsOwn refusals.BadSizes none refused = refused.1

pub failed_same : (call : FailedCall) (who : Who) (why : Refusal) (l : Ledger) → (IsDiskFault why → ⊥) → failed_at call who why l ≡ l
failed_same call who (DiskFault device count) l other = absurd (other tt)
failed_same call who refusals.OutOfMemory l other = refl
failed_same call who refusals.SourceFault l other = refl
failed_same call who refusals.SinkFault l other = refl
failed_same call who (refusals.NotAStore d p) l other = refl
failed_same call who refusals.BadWords l other = refl
failed_same call who (refusals.BadScript n) l other = refl
failed_same call who (refusals.Overlap s i) l other = refl
failed_same call who (refusals.NoSuchSnapshot a n) l other = refl
failed_same call who (refusals.Dropped a o) l other = refl
failed_same call who (refusals.Pinned a s) l other = refl
failed_same call who (refusals.ArchiveFull n r) l other = refl
failed_same call who (refusals.JournalFull n i) l other = refl
failed_same call who (refusals.PagesFull p) l other = refl
failed_same call who (refusals.TooManyPages n) l other = refl
failed_same call who (refusals.NoRoom n f) l other = refl
failed_same call who (refusals.SnapshotsFull r) l other = refl
failed_same call who (refusals.Syntax p) l other = refl
failed_same call who refusals.UnknownName l other = refl
failed_same call who refusals.NameTaken l other = refl
failed_same call who refusals.WrongType l other = refl
failed_same call who refusals.Overflow l other = refl
failed_same call who (refusals.RowTooLong b) l other = refl
failed_same call who (refusals.NotOneValue s) l other = refl
failed_same call who refusals.BadSizes l other = refl
failed_same call who (refusals.Stopped d c) l other = refl

-- the fault of an open transaction may have its line
pub may_record : (who : Who) (l : Ledger) (t : Transaction) → work_at l.works.slots who.session ≡ Some (Open t) → t.who ≡ who → MayRecord who l
may_record who l t there own = (
  λ none. absurd (cc (none, ap (λ (w : Option Work). is_some w) there)),
  λ device count. subst (Closes who (whats.Fault device count Write)) (sym there) (refl, own),
)

-- ---- what is no fault

pub no_fault : (why : Refusal) → ((device : Device) (count : ℕ) → why ≡ DiskFault device count → ⊥) → IsDiskFault why → ⊥
no_fault (DiskFault device count) none fault = none device count refl
no_fault _ none fault = fault

pub none_released : (who : Who) (why : Refusal) (page : ℕ) (l : Ledger) → (IsDiskFault why → ⊥) → has_released who why page l ≡ false
none_released who (DiskFault device count) page l none = absurd (none tt)
none_released who _ page l none = refl

pub still_held : (held : Bool) (released : Bool) → released ≡ false → held ≡ (held && not released)
still_held held released none = and_true held ∙ ap (λ (b : Bool). held && not b) (sym none)
