-- The log's device with its log, and when they are those of plain data.
use Rattle.std.specs.Prelude.{◌≡◌, ℕ, Bool, false, List, Option, None}
use Rattle.disk_model.specs.Disk.{State, IsImage}
use Rattle.history.specs.declared.log.Log.{Log}
use Rattle.redo_log.specs.Redo.{Keeps, ListsOneOf, Redo}

-- a device, and what its log knows of it
pub record LogSide (D : Type 0) : Type 0 where
  pub disk : D
  pub log : Redo

-- Until writes stop the device keeps the one log. Each image lists it or, where a failed call may have left another,
-- that.
pub record IsLogSide {D : Type 0} (is_honest : D → Type 0) (state : D → State) (side : LogSide D) (sure : Log)
    (other : Option Log) (stopped : Bool) : Type 0 where
  pub going : stopped ≡ false → side.log.area.fault ≡ None
  pub keeps : is_honest side.disk → stopped ≡ false → Keeps side.log sure (state side.disk)
  pub images : is_honest side.disk → (image : List ℕ) → IsImage (state side.disk) image → ListsOneOf sure other image
