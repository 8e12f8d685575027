-- What the bytes of the desk's devices open to.
use Rattle.std.specs.Prelude.{◌≡◌, ℕ, List}
use Rattle.block_file.specs.Blocks.{block_at}
use Rattle.history.specs.declared.log.Log.{Log}
use Rattle.skippy.specs.Mappings.{Mappings}
use Rattle.redo_log.specs.Redo.{ListsLog}
use Rattle.race_model.specs.Desk.{Desk}
use Rattle.race_model.specs.Fits.{DeskFits}
use Rattle.race_model.specs.Images.{HoldsCaptures, OpenInDoubt}
use Rattle.desk.specs.Desk.{HoldsPagesOf, ListsLogOf}

-- The bytes of the log's device list one log. With the pages in those of the pages' device, and beside these mappings
-- and slots, it opens to the history, or to it with the change in doubt.
pub record Opens (desk : Desk) (log_bytes page_bytes : List ℕ) (mappings : Mappings) (slots : ℕ → List ℕ) : Type 0 where
  pub log : Log
  pub lists : ListsLog log log_bytes
  pub only : (other : Log) → ListsLog other log_bytes → other ≡ log
  pub opens : OpenInDoubt
      (record { log = log; pages = block_at page_bytes; mappings = mappings; slots = slots }) desk desk.doubt

-- so do whatever bytes the two devices may hold, beside any archive that holds what the desk needs
abbrev pub DeskBytesOpen : Type 0
DeskBytesOpen = (desk : Desk) (log_bytes page_bytes : List ℕ) (mappings : Mappings) (slots : ℕ → List ℕ) → DeskFits desk
    → ListsLogOf desk log_bytes → HoldsPagesOf desk page_bytes
    → HoldsCaptures desk.history desk.floor desk.need mappings slots → Opens desk log_bytes page_bytes mappings slots
