-- Why a call of the archive was refused.
use Rattle.std.specs.Prelude.{◌≡◌, ◌<◌, ℕ, Bool, true, false, Option, Some, None, Result, MatchResult}
use Rattle.retro_base.specs.Cause.{IsFault}
use Rattle.retro_base.specs.declared.device.Device.{Device}
use Rattle.retro_base.specs.declared.device.Device.TheVariants.{Pagelog}
use Rattle.retro_base.specs.declared.refusal.Refusal.{Refusal}
use Rattle.retro_base.specs.declared.refusal.Refusal.TheVariants.{DiskFault, OutOfMemory, Stopped}
use Rattle.map_log.specs.Cause.{IsCallRefusal}

-- The only refusals are want of memory, and a fault of the Maplog's device. The count is as before where the call
-- succeeded.
abbrev pub FaultsOrMemory : {T : Type 0} → ℕ → ℕ → Result T Refusal → Type 0
FaultsOrMemory before now result = MatchResult result (λ _. now ≡ before) (IsCallRefusal before now)

-- the archive stopped at an earlier fault, which is told
abbrev pub IsStopped : Option (Device × ℕ) → Refusal → Bool → Type 0
IsStopped first (Stopped which count) wrote = (first ≡ Some (which, count)) × (wrote ≡ false)
IsStopped first why wrote = ⊥

-- A refused write: the archive stopped at an earlier fault, which is told; or memory ran out, where it may; or a write
-- or a sync of that device failed. Only the last tells of a failed write.
abbrev pub IsRefusedWrite : Device → Type 0 → Option (Device × ℕ) → ℕ → ℕ → Refusal → Bool → Type 0
IsRefusedWrite device NeedsMemory first before now (Stopped which count) wrote = (first ≡ Some (which, count))
    × (wrote ≡ false) × (now ≡ before)
IsRefusedWrite device NeedsMemory first before now OutOfMemory wrote = NeedsMemory × (first ≡ None) × (wrote ≡ false)
    × (now ≡ before)
IsRefusedWrite device NeedsMemory first before now why wrote = (first ≡ None) × (wrote ≡ true)
    × IsFault device before now why

-- a refused search: memory ran out, where mappings were not covered, or a read of the Pagelog failed; no write did
abbrev pub IsRefusedFind : ℕ → ℕ → ℕ → ℕ → Refusal → Bool → Type 0
IsRefusedFind covered upto before now OutOfMemory wrote = (covered < upto) × (wrote ≡ false) × (now ≡ before)
IsRefusedFind covered upto before now why wrote = (wrote ≡ false) × IsFault Pagelog before now why

-- the first fault of a write, after a refusal
abbrev pub first_after : Option (Device × ℕ) → Refusal → Option (Device × ℕ)
first_after first (DiskFault which count) = Some (which, count)
first_after first why = first

-- whether the refusal tells a fault of a device
abbrev pub is_disk_fault : Refusal → Bool
is_disk_fault (DiskFault which count) = true
is_disk_fault why = false
