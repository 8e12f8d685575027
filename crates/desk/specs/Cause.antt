-- Why a call was refused.
use Rattle.std.specs.Prelude.{◌≡◌, ℕ, Option, Some, None}
use Rattle.retro_base.specs.declared.refusal.Refusal.{Refusal}
use Rattle.retro_base.specs.declared.refusal.Refusal.TheVariants.{DiskFault, OutOfMemory, Stopped}
use Rattle.gate_log.specs.Cause.{IsAppendRefusal}
use Rattle.gate_log.specs.Log.{Region}
use Rattle.history.specs.declared.stop.Stop.{Stop}

-- a refused write: the desk has stopped, which is told with the first fault, or the write is refused for a cause of its
-- own
abbrev pub IsWriteRefusal : Option Stop → (Refusal → Type 0) → Refusal → Type 0
IsWriteRefusal stop IsOwn (Stopped device count) = stop ≡ Some (record { device = device; count = count })
IsWriteRefusal stop IsOwn e = (stop ≡ None) × IsOwn e

-- a refused change: memory ran out, the record does not fit, or a call of the log's device failed
abbrev pub IsChangeRefusal : Region → ℕ → ℕ → ℕ → Refusal → Type 0
IsChangeRefusal log count before now OutOfMemory = now ≡ before
IsChangeRefusal log count before now e = IsAppendRefusal log count before now e

-- the first fault behind a refusal
abbrev pub stop_behind : Option Stop → Refusal → Option Stop
stop_behind stop (DiskFault device count) = Some (record { device = device; count = count })
stop_behind stop e = stop
