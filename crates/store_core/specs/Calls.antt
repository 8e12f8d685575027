-- What the calls of a core give.
use Rattle.std.specs.Prelude.{if◌then◌else◌, nat_lt, ◌≡◌, ◌⊎◌, ℕ, Bool, true, false, []}
use Rattle.std.specs.Prelude.{◌∷◌, Option, Some, None, Result, Err, IfErr, OnErr, OnOk}
use Rattle.retro_base.specs.declared.device.Device.{Device}
use Rattle.retro_base.specs.declared.refusal.Refusal.{Refusal}
use Rattle.retro_base.specs.declared.refusal.Refusal.TheVariants.{DiskFault, OutOfMemory}
use Rattle.retro_base.specs.declared.who.Who.{Who}
use Rattle.history.specs.declared.entry.Change.TheVariants.{Drop}
use Rattle.history.specs.declared.journal.What.{What}
use Rattle.history.specs.declared.journal.FailedCall.{FailedCall}
use Rattle.history.specs.declared.journal.FailedCall.TheVariants.{Write}
use Rattle.history.specs.declared.journal.What.TheVariants as whats
use Rattle.history.specs.Writes.{is_among}
use Rattle.journal_book.specs.declared.work.Look.{Look}
use Rattle.journal_book.specs.declared.work.Transaction.{Transaction}
use Rattle.journal_book.specs.declared.work.Work.{Work}
use Rattle.journal_book.specs.declared.work.Work.TheVariants.{Looking}
use Rattle.journal_book.specs.Book.{lines_refused}
use Rattle.journal_book.specs.Works.{edits_page, work_at}
use Rattle.race_model.specs.Desk.{Desk}
use Rattle.race_model.specs.Machine.{changed}
use Rattle.txn_set.specs.declared.ledger.Ledger.{Ledger}
use Rattle.txn_set.specs.Ledger.{MayFault, faulted, given_up, kept_behind, looking, opened, with_told_line, with_open}
use Rattle.txn_set.specs.Refused.{look_refused}
use Rattle.txn_set.specs.WorksFit.{Closes}

-- A work was opened with its line. JournalFull comes exactly where two lines find no room; else it was refused for want
-- of memory alone. A drop line of another phase is given up in any case.
pub record HasOpened {T : Type 0} (who : Who) (what : What) (work : Work) (old new : Ledger)
    (result : Result T Refusal) : Type 0 where
  pub full : (why : Refusal) → lines_refused (given_up who old).book 2 ≡ Some why → result ≡ Err why
  pub done : OnOk result (new ≡ opened who what work (given_up who old))
  pub memory : lines_refused (given_up who old).book 2 ≡ None → IfErr result (λ why. why ≡ OutOfMemory)
  pub stays : OnErr result (new ≡ given_up who old)

-- A look was opened at a snapshot, among those from the oldest to the newest. JournalFull comes exactly where two lines
-- find no room; then a number that is none of them is refused, with a line that says so; else want of memory alone.
pub record HasLooked {T : Type 0} (who : Who) (number oldest newest : ℕ) (old new : Ledger)
    (result : Result T Refusal) : Type 0 where
  pub full : (why : Refusal) → lines_refused (given_up who old).book 2 ≡ Some why
      → (result ≡ Err why) × (new ≡ given_up who old)
  pub done : OnOk result
      ((look_refused number oldest newest ≡ None)
      × (new ≡ opened who (whats.Looked number) (looking who old.book.lines (number ∷ [])) (given_up who old)))
  pub refused : (why : Refusal) → lines_refused (given_up who old).book 2 ≡ None
      → look_refused number oldest newest ≡ Some why
      → IfErr result
      (λ other. ((other ≡ why) × (new ≡ with_told_line who (whats.Refused why) (given_up who old)))
      ⊎ ((other ≡ OutOfMemory) × (new ≡ given_up who old)))
  pub memory : lines_refused (given_up who old).book 2 ≡ None → look_refused number oldest newest ≡ None
      → IfErr result (λ why. (why ≡ OutOfMemory) × (new ≡ given_up who old))

-- A read or an edit of a transaction, which the ledger refuses so or not. On Ok the transaction is the next one; behind
-- a refusal it keeps that, where it is one that a transaction keeps, and is else as before.
pub record HasAnswered {T : Type 0} (who : Who) (t next : Transaction) (refused : Option Refusal) (old new : Ledger)
    (result : Result T Refusal) : Type 0 where
  pub allowed : OnOk result ((refused ≡ None) × (new ≡ with_open who next old))
  pub kept : IfErr result (λ why. new ≡ with_open who (kept_behind why t) old)

-- A fault of the item may have its line: it closes what the session has, which is this item's, or else is one of the
-- two that are kept for workers.
abbrev pub MayRecord : Who → Ledger → Type 0
MayRecord who ledger =
    MayFault who ledger
    × ((device : Device) (count : ℕ)
    → Closes who (whats.Fault device count Write) (work_at ledger.works.slots who.session))

-- with the line of a fault that such a call met, if this is one
abbrev pub failed_at : FailedCall → Who → Refusal → Ledger → Ledger
failed_at call who (DiskFault device count) ledger = faulted who device count call ledger
failed_at call who _ ledger = ledger

-- that a write or a sync met
abbrev pub failed : Who → Refusal → Ledger → Ledger
failed who why ledger = failed_at Write who why ledger

-- whether a page was edited by what such a fault closed
abbrev pub has_released : Who → Refusal → ℕ → Ledger → Bool
has_released who (DiskFault device count) page ledger = edits_page page (work_at ledger.works.slots who.session)
has_released who _ page ledger = false

-- an open look pins the snapshot
pub record IsPinned (ledger : Ledger) (snapshot : ℕ) : Type 0 where
  pub session : ℕ
  pub look : Look
  pub there : work_at ledger.works.slots session ≡ Some (Looking look)
  pub pinned : is_among snapshot look.pins ≡ true

-- the plain desk behind a drop, which leaves a record where it drops something
abbrev pub dropped_behind : ℕ → ℕ → Desk → Desk
dropped_behind oldest below plain = if nat_lt oldest below then changed plain (Drop below) else plain
