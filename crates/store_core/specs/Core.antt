-- When a core is a plain desk behind a journal.
use Rattle.std.specs.Prelude.{◌≡◌, ◌≤◌, ◌+◌, ℕ, true, List, length, Option, Some}
use Rattle.std.specs.List.{AllByRecursion}
use Rattle.area_log.specs.Listed.{DeviceStandsFor}
use Rattle.disk_model.specs.declared.four.Sizes.{Sizes}
use Rattle.disk_model.specs.Disk.{State}
use Rattle.retro_base.specs.declared.limits.TheConstants.{JOURNAL_LINES, LOG_REGION_BYTES, PAGE_BYTES, WORKER_LINES}
use Rattle.history.specs.Lines.{doubt_in, first_stop}
use Rattle.history.specs.declared.entry.Base.{Base}
use Rattle.history.specs.declared.journal.Line.{Line}
use Rattle.history.specs.declared.log.Log.{Log}
use Rattle.history.specs.declared.log.Version.{Version}
use Rattle.history.specs.History.{History, now}
use Rattle.history.specs.Journal.{after_journal}
use Rattle.history.specs.Sound.{IsSound}
use Rattle.page_pool.specs.Side.{Pool, held}
use Rattle.race_model.specs.Desk.{Desk, Doubt, OneMore}
use Rattle.records.specs.Log.{IsLog}
use Rattle.replay.specs.Joined.{AreJoined}
use Rattle.replay.specs.Opened.{opened}
use Rattle.skippy.specs.Mappings.{Mappings}
use Rattle.race_model.specs.Fits.{DeskFits}
use Rattle.race_model.specs.Reopened.{opened_desk}
use Rattle.desk.specs.Desk.{IsDesk}
use Rattle.desk.specs.Fetched.{contents_of}
use Rattle.journal_book.specs.declared.work.Work.{Work}
use Rattle.journal_book.specs.Book.{Book}
use Rattle.journal_book.specs.Works.{edits_of, edits_page, work_at}
use Rattle.txn_set.specs.declared.ledger.Ledger.{Ledger}
use Rattle.txn_set.specs.WorksFit.{PinsFit, WorksFit}
use Rattle.store_core.specs.declared.desk_core.Core.{Core}

-- there are places for the lines that are kept
pub record HasPlaces (book : Book) : Type 0 where
  pub places : length book.lines + book.kept + book.workers ≤ JOURNAL_LINES
  pub workers : book.workers ≤ WORKER_LINES

-- The journal is sound behind what the log said at the opening, with places for the lines that are kept; the works of
-- the sessions fit it, and what they pin is what it says; each edit is a whole page.
pub record IsLedger (opening : Base) (ledger : Ledger) : Type 0 where
  pub sound : IsSound opening ledger.book.lines
  pub places : HasPlaces ledger.book
  pub works : WorksFit ledger
  pub pins : PinsFit opening ledger
  pub whole : (session : ℕ)
      → AllByRecursion (λ edit. length edit.bytes ≡ PAGE_BYTES) (edits_of (work_at ledger.works.slots session))

-- the pages that open transactions edit are held in memory, and no other is
pub record HoldsEdits {D : Type 0} (pool : Pool D) (slots : List (Option Work)) : Type 0 where
  pub kept : (page session : ℕ) → edits_page page (work_at slots session) ≡ true → held pool page ≡ true
  pub only : (page : ℕ) → held pool page ≡ true → (session : ℕ) × (edits_page page (work_at slots session) ≡ true)

-- a change in doubt is the one that the journal tells to be
abbrev pub IsToldDoubt : Doubt → List Line → Type 0
IsToldDoubt (OneMore change) lines = doubt_in lines ≡ Some change
IsToldDoubt _ lines = Unit {0}

-- The running desk is the plain one, which fits; its history is that of the opening with the changes of the journal; it
-- has stopped at the first fault that a line tells of a write or a sync; and a change that is in doubt is told.
pub record IsCore {D : Type 0} (is_honest : D → Type 0) (state : D → State) (opening : History) (core : Core D)
    (plain : Desk) : Type 0 where
  pub ledger : IsLedger (now opening).base core.ledger
  pub is : IsDesk is_honest state core.desk plain
  pub fits : DeskFits plain
  pub journal : plain.history ≡ after_journal opening core.ledger.book.lines
  pub pages : core.ledger.book.pages ≡ core.desk.base.page_count
  pub edits : HoldsEdits core.desk.pool core.ledger.works.slots
  pub stop : core.desk.stop ≡ first_stop core.ledger.book.lines
  pub doubt : IsToldDoubt plain.doubt core.ledger.book.lines

-- an opening and a plain desk that a core is
pub record IsWholeCore {D : Type 0} (is_honest : D → Type 0) (state : D → State) (core : Core D) : Type 0 where
  pub opening : History
  pub plain : Desk
  pub is : IsCore is_honest state opening core plain

-- the core is of each opening and plain desk that the other was
abbrev pub StaysCore : {D : Type 0} → (D → Type 0) → (D → State) → Core D → Core D → Type 0
StaysCore is_honest state old new = (opening : History) (plain : Desk) → IsCore is_honest state opening old plain
    → IsCore is_honest state opening new plain

-- The log's device lists a log, to which the mappings belong, and the core is the one that the devices open to beside
-- them, whatever the slots have.
pub record FetchesCore {D : Type 0} (is_honest : D → Type 0) (state : D → State) (version : Version) (log pages : D)
    (mappings : Mappings) (core : Core D) : Type 0 where
  pub list : Log
  pub lists : is_honest log → DeviceStandsFor LOG_REGION_BYTES (IsLog version) (state log).seen list
  pub joined : (slots : ℕ → List ℕ) → AreJoined (contents_of list (state pages).seen mappings slots)
  pub is : (slots : ℕ → List ℕ)
      → IsCore is_honest state (opened (contents_of list (state pages).seen mappings slots)) core
      (opened_desk (contents_of list (state pages).seen mappings slots))

-- the bytes of a log's device list a log with these sizes
pub record AreSizesOf (version : Version) (bytes : List ℕ) (sizes : Sizes) : Type 0 where
  pub list : Log
  pub lists : DeviceStandsFor LOG_REGION_BYTES (IsLog version) bytes list
  pub pages : sizes.pages ≡ list.base.page_count
  pub capacity : sizes.capacity ≡ list.base.capacity
