-- The making of a log on a device that is all zero.
use Rattle.std.specs.Prelude.{◌⊎◌, Result, OnOk}
use Rattle.disk_model.specs.Disk.{State, IsDurable}
use Rattle.disk_model.specs.Moments.{Clock, LeavesOnly}
use Rattle.retro_base.specs.declared.limits.TheConstants.{LOG_REGION_BYTES}
use Rattle.retro_base.specs.declared.refusal.Refusal.{Refusal}
use Rattle.history.specs.declared.log.Log.{Log}
use Rattle.area_log.specs.Regions.{NoneCounts}
use Rattle.redo_log.specs.Redo.{ListsLog}

-- The log is listed, and nothing is loose. A crash at any moment leaves no list, or this one.
pub record MakesLog {Disk : Type 0} (log : Log) (remembers : Type 0) (state : Disk → State) (clock : Disk → Clock)
    (old new : Disk) (result : Result (Unit {0}) Refusal) : Type 0 where
  pub lists : OnOk result (ListsLog log (state new).seen)
  pub durable : OnOk result (IsDurable (state new))
  pub any_moment : IsDurable (state old)
      → LeavesOnly remembers (clock old) (clock new) (λ image. NoneCounts LOG_REGION_BYTES image 0 ⊎ ListsLog log image)
