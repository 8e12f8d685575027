-- When a running desk is a plain one.
use Rattle.std.specs.Prelude.{◌≡◌, ◌≤◌, ◌<◌, ◌++◌, ℕ, true, List, [], ◌∷◌, drop, Option, Some, None, is_some}
use Rattle.disk_model.specs.Disk.{State}
use Rattle.block_file.specs.Blocks.{block_at}
use Rattle.history.specs.declared.log.Log.{Log}
use Rattle.history.specs.declared.writes.PageImage.{PageImage}
use Rattle.history.specs.History.{now, captures}
use Rattle.history.specs.Writes.{is_among, pages_of}
use Rattle.records.specs.Entries.{BaseFits}
use Rattle.page_pool.specs.Side.{IsPageSide}
use Rattle.race_model.specs.Desk.{ArePagesOf, Desk, Doubt, NewBase, OneMore, Sure, log_from}
use Rattle.race_model.specs.Fits.{DeskFits}
use Rattle.redo_log.specs.Redo.{ListsOneOf}
use Rattle.redo_log.specs.Side.{IsLogSide}
use Rattle.desk.specs.declared.desk.Passed.{Passed}
use Rattle.desk.specs.declared.desk.RunningDesk.{RunningDesk}

-- the log that a desk keeps
abbrev pub log_of : Desk → Log
log_of desk = log_from desk.version desk.history desk.past desk.rest

-- the log that a failed call may have left in its place
abbrev pub other_log : Desk → Doubt → Option Log
other_log desk Sure = None
other_log desk (OneMore change) = Some (log_from desk.version desk.history desk.past (desk.rest ++ change ∷ []))
other_log desk (NewBase version) = Some (log_from version desk.history desk.history.changes [])

-- the captures that are not yet acknowledged
abbrev pub pending_of : Desk → List PageImage
pending_of desk = drop desk.acked (captures desk.history)

-- While just that many captures are acknowledged, each dirty page below the place waits for one of its captures. The
-- number is never past the count that is acknowledged.
pub record HasPassed (passed : Passed) (desk : Desk) : Type 0 where
  pub known : passed.first ≤ desk.acked
  pub waits : passed.first ≡ desk.acked → (page : ℕ) → page < passed.page → desk.dirty page ≡ true
      → is_among page (pages_of (pending_of desk)) ≡ true

-- The devices are those of the plain desk; memory has its pages, the captures that are not yet acknowledged, and what
-- the log says now; both have stopped or neither. The bytes of captures are those of the plain desk where the pages'
-- device is honest, all else on any device.
pub record IsDesk {D : Type 0} (is_honest : D → Type 0) (state : D → State) (running : RunningDesk D)
    (desk : Desk) : Type 0 where
  pub log : IsLogSide is_honest state running.log (log_of desk) (other_log desk desk.doubt) desk.stopped
  pub version : running.log.log.version ≡ desk.version
  pub pages : IsPageSide is_honest state running.pool (now desk.history).pages desk.pages desk.loose desk.dirty
  pub whole : running.pool.file.blocks ≡ (now desk.history).base.page_count
  pub first : running.queue.first ≡ desk.acked
  pub pending : pages_of running.queue.images ≡ pages_of (pending_of desk)
  pub bytes : is_honest running.pool.file.disk → running.queue.images ≡ pending_of desk
  pub base : running.base ≡ (now desk.history).base
  pub fits : BaseFits desk.version running.base
  pub stopped : desk.stopped ≡ is_some running.stop
  pub passed : HasPassed running.passed desk

-- a plain desk that a running one is, and that fits
pub record IsWhole {D : Type 0} (is_honest : D → Type 0) (state : D → State) (running : RunningDesk D) : Type 0 where
  pub desk : Desk
  pub is : IsDesk is_honest state running desk
  pub fits : DeskFits desk

-- the bytes of the log's device list a log that the desk may have there
abbrev pub ListsLogOf : Desk → List ℕ → Type 0
ListsLogOf desk bytes = ListsOneOf (log_of desk) (other_log desk desk.doubt) bytes

-- the bytes of the pages' device hold pages that the desk may have there
abbrev pub HoldsPagesOf : Desk → List ℕ → Type 0
HoldsPagesOf desk bytes = ArePagesOf desk (block_at bytes)
