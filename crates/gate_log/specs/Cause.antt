-- Why a call was refused.
use Rattle.std.specs.Prelude.{◌≡◌, ℕ, ◌+◌, ◌-◌, ◌<◌, ◌≤◌, List, length}
use Rattle.gate_log.specs.declared.log.TheConstants.{HEADER_BYTES}
use Rattle.retro_base.specs.Cause.{IsFault}
use Rattle.retro_base.specs.Framing.{records_of, BreaksAt}
use Rattle.retro_base.specs.declared.device.Device.{Device}
use Rattle.retro_base.specs.declared.refusal.Refusal.{Refusal}
use Rattle.retro_base.specs.declared.refusal.Refusal.TheVariants.{OutOfMemory, DiskFault, NotAStore, NoRoom}
use Rattle.gate_log.specs.Log.{Region}

-- the refusal tells a fault of a device
abbrev pub IsDiskFault : Refusal → Type 0
IsDiskFault (DiskFault which count) = Unit {0}
IsDiskFault _ = ⊥

-- the bytes of the record of a body of that length, and of the gate behind it, fit behind the log's gate
abbrev pub HasRoom : Region → ℕ → Type 0
HasRoom log count = count + 6 ≤ log.size - log.gate

-- a refused append: there is no room, or a call of the device failed
abbrev pub IsAppendRefusal : Region → ℕ → ℕ → ℕ → Refusal → Type 0
IsAppendRefusal log count before now (NoRoom needed free) =
    (needed ≡ count + 6) × (free ≡ log.size - log.gate) × (free < needed) × (now ≡ before)
IsAppendRefusal log count before now e = HasRoom log count × IsFault log.device before now e

-- the records of these bodies and the gate behind them fit behind the header of a region of that size
abbrev pub Fit : ℕ → List (List ℕ) → Type 0
Fit size bodies = length (records_of bodies) + 1 ≤ size - HEADER_BYTES

-- a refused preparation: memory ran out, or the records do not fit
abbrev pub IsPrepareRefusal : ℕ → List (List ℕ) → Refusal → Type 0
IsPrepareRefusal size bodies OutOfMemory = Unit {0}
IsPrepareRefusal size bodies (NoRoom needed free) =
    (needed ≡ length (records_of bodies) + 1) × (free ≡ size - HEADER_BYTES) × (free < needed)
IsPrepareRefusal size bodies _ = ⊥

-- a region that was not filled: it was not prepared, or a call of the device failed
abbrev pub IsFillRefusal : ℕ → List (List ℕ) → Device → ℕ → ℕ → Refusal → Type 0
IsFillRefusal size bodies device before now (DiskFault which count) =
    Fit size bodies × IsFault device before now (DiskFault which count)
IsFillRefusal size bodies device before now e = IsPrepareRefusal size bodies e × (now ≡ before)

-- bytes, from that place of that device on, that were refused as records: memory ran out, or a record breaks at the
-- place told
abbrev pub IsRecordsRefusal : Device → ℕ → List ℕ → Refusal → Type 0
IsRecordsRefusal device place bytes OutOfMemory = Unit {0}
IsRecordsRefusal device place bytes (NotAStore which broken) =
    (which ≡ device) × ((at : ℕ) × (broken ≡ place + at) × BreaksAt bytes at)
IsRecordsRefusal device place bytes _ = ⊥

-- a refused read of a region: memory ran out, a call of the device failed, or a record breaks
abbrev pub IsReadRefusal : (ℕ → Type 0) → Device → ℕ → ℕ → Refusal → Type 0
IsReadRefusal IsBroken device before now OutOfMemory = now ≡ before
IsReadRefusal IsBroken device before now (NotAStore which broken) = (which ≡ device) × (now ≡ before) × IsBroken broken
IsReadRefusal IsBroken device before now e = IsFault device before now e
