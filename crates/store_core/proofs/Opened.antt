-- The core behind works that are opened and ended.
use Rattle.std.proofs.Common.{◌≡◌, ◌∙◌, ◌&&◌, not, ℕ, Bool, true, false, cond, List, [], ◌∷◌, ◌++◌, refl, sym, ap, subst, Option, Some, None, Result, Ok, Err}
use Rattle.std.specs.Prelude.{IsSome}
use Rattle.std.specs.Option.{option_or, option_to_list}
use Rattle.disk_model.specs.Disk.{State}
use Rattle.retro_base.specs.declared.device.Device.{Device}
use Rattle.retro_base.specs.declared.refusal.Refusal.{Refusal}
use Rattle.retro_base.specs.declared.refusal.Refusal.TheVariants as refusals
use Rattle.retro_base.specs.declared.who.Who.{Who}
use Rattle.history.specs.declared.entry.Base.{Base}
use Rattle.history.specs.declared.entry.Change.{Change}
use Rattle.history.specs.declared.journal.FailedCall.{FailedCall}
use Rattle.history.specs.declared.journal.FailedCall.TheVariants.{Read}
use Rattle.history.specs.declared.journal.What.{What}
use Rattle.history.specs.declared.journal.What.TheVariants as whats
use Rattle.history.specs.History.{History, now, with_changes}
use Rattle.history.specs.Journal.{change_of}
use Rattle.history.specs.LineLaws.{ends_look}
use Rattle.history.specs.Lines.{base_of, begins, pinned_by, stop_of}
use Rattle.history.specs.Sound.{KeepsRules, Pin, pins_of}
use Rattle.history.specs.Writes.{is_among, pages_of}
use Rattle.history.proofs.Items.{ended_pins_nothing}
use Rattle.history.proofs.Lines.{pins_of_one_more}
use Rattle.page_pool.specs.Side.{held}
use Rattle.race_model.specs.Desk.{Desk}
use Rattle.race_model.specs.Fits.{DeskFits}
use Rattle.desk.specs.declared.desk.RunningDesk.{RunningDesk}
use Rattle.desk.specs.Desk.{IsDesk}
use Rattle.journal_book.specs.declared.work.Work.{Work}
use Rattle.journal_book.specs.declared.work.Work.TheVariants.{Open, Looking, KeptDrop}
use Rattle.journal_book.specs.Book.{lines_refused}
use Rattle.journal_book.specs.Works.{edits_of, edits_page, work_at, with_work}
use Rattle.txn_set.specs.declared.ending.Ending.{Ending}
use Rattle.txn_set.specs.declared.ending.Ending.TheVariants as ending
use Rattle.txn_set.specs.declared.ledger.Ledger.{Ledger}
use Rattle.txn_set.specs.Ledger.{closed, closing, ended, given_up, gives_up, is_idle, keeps_other_drop, line_of, opened}
use Rattle.txn_set.specs.WorksFit.{Closes, WorksFit, pins_at}
use Rattle.txn_set.proofs.FitSteps.{idle_none}
use Rattle.store_core.specs.declared.desk_core.Core.{Core}
use Rattle.store_core.specs.Calls.{HasOpened}
use Rattle.store_core.specs.Core.{IsCore, IsLedger, IsToldDoubt}
use Rattle.store_core.proofs.Cores.{IsQuiet, core_line, core_quiet, core_still, holds_ended, holds_moved, same_edits, with_nothing}
use Rattle.store_core.proofs.Ledgers.{ledger_closed, ledger_given_up, ledger_opened, none_pinned, own_ended}
use Rattle.store_core.proofs.Pins.{PinsForNone, closed_pins}

-- ---- what lines say

ended_begins : (what : What) → ends_look what ≡ true → begins what ≡ false
ended_begins whats.Began e = absurd cc
ended_begins (whats.Done label writes) e = refl
ended_begins (whats.Overlapped session item) e = refl
ended_begins whats.RolledBack e = refl
ended_begins (whats.Looked snapshot) e = absurd cc
ended_begins whats.LookedAll e = absurd cc
ended_begins whats.Unlooked e = refl
ended_begins (whats.Dropped below) e = refl
ended_begins (whats.Refused why) e = refl
ended_begins (whats.Fault device count call) e = refl

pub quiet_began : IsQuiet whats.Began
quiet_began = record { stops = refl; changes = λ base. refl }

pub quiet_looked : (snapshot : ℕ) → IsQuiet (whats.Looked snapshot)
quiet_looked snapshot = record { stops = refl; changes = λ base. refl }

pub quiet_looked_all : IsQuiet whats.LookedAll
quiet_looked_all = record { stops = refl; changes = λ base. refl }

pub quiet_refused : (why : Refusal) → IsQuiet (whats.Refused why)
quiet_refused why = record { stops = refl; changes = λ base. refl }

-- a line that leaves no change in the log, and that may stand anywhere
pub record EndsWork (what : What) : Type 0 where
  pub changes : (base : Base) → change_of base what ≡ None
  pub rules : (base : Base) (pins : List Pin) → KeepsRules base pins what

pub ends_refused : (why : Refusal) → EndsWork (whats.Refused why)
ends_refused why = record { changes = λ base. refl; rules = λ base pins. tt }

pub ends_fault : (device : Device) (count : ℕ) (call : FailedCall) → EndsWork (whats.Fault device count call)
ends_fault device count call = record { changes = λ base. refl; rules = λ base pins. tt }

pub ended_ends : (why : Ending) → EndsWork (ended why)
ended_ends ending.Asked = record { changes = λ base. refl; rules = λ base pins. tt }
ended_ends (ending.Refused why) = ends_refused why
ended_ends (ending.Failed device count) = ends_fault device count Read

pub ended_stop : (why : Ending) → stop_of (ended why) ≡ None
ended_stop ending.Asked = refl
ended_stop (ending.Refused why) = refl
ended_stop (ending.Failed device count) = refl

-- how a transaction ends that keeps a refusal
record Ends (what : What) : Type 0 where
  ends : EndsWork what
  stop : stop_of what ≡ None

by_refusal : (why : Refusal) → Ends (whats.Refused why)
by_refusal why = record { ends = ends_refused why; stop = refl }

kept_ends : (kept : Refusal) (why : Ending) → Ends (closing (Some kept) why)
kept_ends (refusals.Overlap session item) why = record { ends = record { changes = λ base. refl; rules = λ base pins. tt }; stop = refl }
kept_ends (refusals.DiskFault device count) why = record { ends = ends_fault device count Read; stop = refl }
kept_ends refusals.OutOfMemory why = by_refusal refusals.OutOfMemory
kept_ends refusals.SourceFault why = by_refusal refusals.SourceFault
kept_ends refusals.SinkFault why = by_refusal refusals.SinkFault
kept_ends (refusals.NotAStore d p) why = by_refusal (refusals.NotAStore d p)
kept_ends refusals.BadWords why = by_refusal refusals.BadWords
kept_ends (refusals.BadScript l) why = by_refusal (refusals.BadScript l)
kept_ends (refusals.NoSuchSnapshot a n) why = by_refusal (refusals.NoSuchSnapshot a n)
kept_ends (refusals.Dropped a o) why = by_refusal (refusals.Dropped a o)
kept_ends (refusals.Pinned a s) why = by_refusal (refusals.Pinned a s)
kept_ends (refusals.ArchiveFull n r) why = by_refusal (refusals.ArchiveFull n r)
kept_ends (refusals.JournalFull l i) why = by_refusal (refusals.JournalFull l i)
kept_ends (refusals.PagesFull p) why = by_refusal (refusals.PagesFull p)
kept_ends (refusals.TooManyPages n) why = by_refusal (refusals.TooManyPages n)
kept_ends (refusals.Stopped d c) why = by_refusal (refusals.Stopped d c)
kept_ends (refusals.NoRoom n f) why = by_refusal (refusals.NoRoom n f)
kept_ends (refusals.SnapshotsFull r) why = by_refusal (refusals.SnapshotsFull r)
kept_ends (refusals.Syntax p) why = by_refusal (refusals.Syntax p)
kept_ends refusals.UnknownName why = by_refusal refusals.UnknownName
kept_ends refusals.NameTaken why = by_refusal refusals.NameTaken
kept_ends refusals.WrongType why = by_refusal refusals.WrongType
kept_ends refusals.Overflow why = by_refusal refusals.Overflow
kept_ends (refusals.RowTooLong b) why = by_refusal (refusals.RowTooLong b)
kept_ends (refusals.NotOneValue s) why = by_refusal (refusals.NotOneValue s)
kept_ends refusals.BadSizes why = by_refusal refusals.BadSizes

closing_ending : (kept : Option Refusal) (why : Ending) → Ends (closing kept why)
closing_ending None ending.Asked = record { ends = record { changes = λ base. refl; rules = λ base pins. tt }; stop = refl }
closing_ending None (ending.Refused why) = by_refusal why
closing_ending None (ending.Failed device count) = record { ends = ends_fault device count Read; stop = refl }
closing_ending (Some kept) why = kept_ends kept why

pub closing_work : (kept : Option Refusal) (why : Ending) → EndsWork (closing kept why)
closing_work kept why = (closing_ending kept why).ends

pub closing_stop : (kept : Option Refusal) (why : Ending) → stop_of (closing kept why) ≡ None
closing_stop kept why = (closing_ending kept why).stop

-- ---- the core behind them

pub given_book : (l : Ledger) (who : Who) → ((given_up who l).book.lines ≡ l.book.lines) × ((given_up who l).book.pages ≡ l.book.pages)
given_book l who = at (keeps_other_drop who (work_at l.works.slots who.session)) where
  at : (test : Bool) → ((cond test (gives_up who.session l) l).book.lines ≡ l.book.lines) × ((cond test (gives_up who.session l) l).book.pages ≡ l.book.pages)
  at true = (refl, refl)
  at false = (refl, refl)

given_edits : (l : Ledger) (who : Who) (page other : ℕ) → edits_page page (work_at (given_up who l).works.slots other) ≡ edits_page page (work_at l.works.slots other)
given_edits l who page other = at (keeps_other_drop who (work_at l.works.slots who.session)) refl where
  none : (work : Option Work) → keeps_other_drop who work ≡ true → edits_of None ≡ edits_of work
  none None e = refl
  none (Some (Open t)) e = absurd cc
  none (Some (Looking look)) e = refl
  none (Some (KeptDrop kept)) e = refl

  at : (test : Bool) → keeps_other_drop who (work_at l.works.slots who.session) ≡ test → edits_page page (work_at (cond test (gives_up who.session l) l).works.slots other) ≡ edits_page page (work_at l.works.slots other)
  at true e = same_edits l.works.slots who.session None (none (work_at l.works.slots who.session) e) page other
  at false e = refl

module _ {D : Type 0} (honest : D → Type 0) (state : D → State) (opening : History) (core : Core D) (plain : Desk) (is : IsCore honest state opening core plain) where
  -- without the line that was kept for a drop in another phase
  pub core_given_up : (who : Who) → IsCore honest state opening (record { desk = core.desk; ledger = given_up who core.ledger }) plain
  core_given_up who =
      core_still honest state opening core plain is (record { desk = core.desk; ledger = given_up who core.ledger }) plain (given_book core.ledger who).0 (given_book core.ledger who).1
      (ledger_given_up (now opening).base core.ledger is.ledger who) is.is is.fits refl
      (holds_moved core.desk.pool core.desk.pool core.ledger.works.slots (given_up who core.ledger).works.slots is.edits (λ page. refl) (given_edits core.ledger who)) refl refl is.doubt

  -- a work opened
  pub core_opened : (who : Who) (what : What) (work : Work) → work_at core.ledger.works.slots who.session ≡ None → lines_refused core.ledger.book 2 ≡ None → WorksFit (opened who what work core.ledger)
      → KeepsRules (base_of (now opening).base core.ledger.book.lines) (pins_of (now opening).base [] core.ledger.book.lines) what
      → PinsForNone who (Some work) → pinned_by who (pins_of (now opening).base [] (core.ledger.book.lines ++ line_of who what ∷ [])) ≡ pins_at who (Some work) → edits_of (Some work) ≡ [] → IsQuiet what
      → IsCore honest state opening (record { desk = core.desk; ledger = opened who what work core.ledger }) plain
  core_opened who what work none room fits rules others own edits quiet =
      core_quiet honest state opening core plain is (record { desk = core.desk; ledger = opened who what work core.ledger }) plain (line_of who what) refl refl
      (ledger_opened (now opening).base core.ledger is.ledger who what work none room fits rules others own edits) is.is is.fits refl
      (holds_moved core.desk.pool core.desk.pool core.ledger.works.slots (with_work core.ledger.works.slots who.session (Some work)) is.edits (λ page. refl)
      (same_edits core.ledger.works.slots who.session (Some work) (edits ∙ ap edits_of (sym none)))) quiet refl refl refl

  own_closed : (who : Who) (what : What) (work : Option Work) → work_at core.ledger.works.slots who.session ≡ work → IsSome work → Closes who what work
      → (begins what ≡ false) × (pinned_by who (pins_of (now opening).base [] (core.ledger.book.lines ++ line_of who what ∷ [])) ≡ [])
  own_closed who what None e some closes = absurd cc
  own_closed who what (Some (Open t)) e some closes =
      (closes.0, own_ended (now opening).base core.ledger.book.lines (line_of who what) closes.0 (is.ledger.pins.pins who ∙ ap (pins_at who) e))
  own_closed who what (Some (Looking look)) e some closes = (ended_begins what closes.0, ended_pins_nothing (now opening).base core.ledger.book.lines (line_of who what) closes.0)
  own_closed who what (Some (KeptDrop kept)) e some closes =
      (closes, own_ended (now opening).base core.ledger.book.lines (line_of who what) closes (is.ledger.pins.pins who ∙ ap (pins_at who) e))

  -- a work ended, and its edits released
  pub core_ended : (desk : RunningDesk D) (ledger : Ledger) (other : Desk) (who : Who) (what : What) → ledger ≡ closed who what core.ledger → WorksFit ledger → IsSome (work_at core.ledger.works.slots who.session)
      → Closes who what (work_at core.ledger.works.slots who.session) → EndsWork what → IsDesk honest state desk other → DeskFits other → other.history ≡ plain.history
      → ((page : ℕ) → held desk.pool page ≡ (held core.desk.pool page && not (is_among page (pages_of (edits_of (work_at core.ledger.works.slots who.session))))))
      → desk.stop ≡ option_or core.desk.stop (stop_of what) → desk.base ≡ core.desk.base → IsToldDoubt other.doubt (core.ledger.book.lines ++ line_of who what ∷ []) → IsCore honest state opening (record { desk = desk; ledger = ledger }) other
  core_ended desk ledger other who what ledger_is fits some closes ends is_desk desk_fits history released stop base told =
      let own = own_closed who what (work_at core.ledger.works.slots who.session) refl some closes in
      let behind : IsLedger (now opening).base (closed who what core.ledger) = ledger_closed (now opening).base core.ledger is.ledger who what some own.0 (ends.rules _ _) (closed_pins who what _ closes) own.1 (subst WorksFit ledger_is fits) in
      subst (λ (l : Ledger). IsCore honest state opening (record { desk = desk; ledger = l }) other) (sym ledger_is)
      (core_line honest state opening core plain is (record { desk = desk; ledger = closed who what core.ledger }) other (line_of who what) refl refl behind is_desk desk_fits
      (history ∙ sym (with_nothing honest state opening core plain is plain.history) ∙ ap (λ (c : Option Change). with_changes plain.history (option_to_list c)) (sym (ends.changes core.desk.base)))
      (holds_ended core.desk.pool desk.pool core.ledger.works.slots who.session is.edits is.ledger.works.apart released) stop (ap (λ (b : Base). b.page_count) base) told)

-- a call that opens a work
pub core_opens : {D T : Type 0} (honest : D → Type 0) (state : D → State) (opening : History) (core : Core D) (plain : Desk) → IsCore honest state opening core plain → (who : Who) (what : What) (work : Work) (new : Ledger) (result : Result T Refusal)
    → is_idle who (work_at core.ledger.works.slots who.session) ≡ true → HasOpened who what work core.ledger new result → WorksFit new
    → KeepsRules (base_of (now opening).base (given_up who core.ledger).book.lines) (pins_of (now opening).base [] (given_up who core.ledger).book.lines) what
    → PinsForNone who (Some work) → pinned_by who (pins_of (now opening).base [] ((given_up who core.ledger).book.lines ++ line_of who what ∷ [])) ≡ pins_at who (Some work) → edits_of (Some work) ≡ [] → IsQuiet what
    → IsCore honest state opening (record { desk = core.desk; ledger = new }) plain
core_opens {D = D} honest state opening core plain is who what work new (Err e) idle has fits rules others own edits quiet =
    subst (λ (l : Ledger). IsCore honest state opening (record { desk = core.desk; ledger = l }) plain) (sym has.stays) (core_given_up honest state opening core plain is who)
core_opens {D = D} honest state opening core plain is who what work new (Ok x) idle has fits rules others own edits quiet =
    let g : Core D = record { desk = core.desk; ledger = given_up who core.ledger } in
    subst (λ (l : Ledger). IsCore honest state opening (record { desk = core.desk; ledger = l }) plain) (sym has.done)
    (core_opened honest state opening g plain (core_given_up honest state opening core plain is who) who what work (idle_none core.ledger who idle) (room (lines_refused (given_up who core.ledger).book 2) refl) (subst WorksFit has.done fits) rules others own edits quiet) where
      room : (refused : Option Refusal) → lines_refused (given_up who core.ledger).book 2 ≡ refused → lines_refused (given_up who core.ledger).book 2 ≡ None
      room None e = e
      room (Some why) e = absurd (cc (has.full why e))

-- where nothing was pinned, a line that begins a transaction pins nothing
pub began_pins : (opening : Base) (l : Ledger) (who : Who) → IsLedger opening l → work_at l.works.slots who.session ≡ None → pinned_by who (pins_of opening [] (l.book.lines ++ line_of who whats.Began ∷ [])) ≡ []
began_pins opening l who is none = ap (pinned_by who) (pins_of_one_more opening l.book.lines (line_of who whats.Began)) ∙ none_pinned opening l is who none

pub and_true : (b : Bool) → b ≡ (b && true)
and_true true = refl
and_true false = refl

pub stop_stays : {X : Type 0} (s other : Option X) → other ≡ None → s ≡ option_or s other
stop_stays None other e = sym e
stop_stays (Some x) other e = refl
