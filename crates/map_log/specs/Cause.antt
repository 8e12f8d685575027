-- Why a call was refused.
use Rattle.std.specs.Prelude.{◌≡◌, ℕ, None, Some, List}
use Rattle.disk_model.specs.Sizes.{maplog_half}
use Rattle.retro_base.specs.Cause.{IsFault}
use Rattle.retro_base.specs.declared.device.Device.TheVariants.{Maplog}
use Rattle.retro_base.specs.declared.refusal.Refusal.{Refusal}
use Rattle.retro_base.specs.declared.refusal.Refusal.TheVariants.{OutOfMemory, Stopped}
use Rattle.area_log.specs.Area.{Area}
use Rattle.area_log.specs.Listed.{IsRefused}
use Rattle.history.specs.declared.log.Version.{Version}
use Rattle.records.specs.Maplog.{IsMaplog}

-- a device of so many bytes is refused at that place: for its size, or else for its bytes, which an honest device tells
abbrev pub NotMaplog : Version → ℕ → ℕ → ℕ → Type 0 → List ℕ → ℕ → Type 0
NotMaplog version page_count capacity extent is_honest bytes broken =
    IsRefused (maplog_half capacity) (IsMaplog version page_count capacity) is_honest extent bytes broken

-- a refused rewrite: the log stopped at an earlier fault, which is told; or memory ran out; or a call of the device
-- failed
abbrev pub IsRewriteRefusal : Area → ℕ → ℕ → Refusal → Type 0
IsRewriteRefusal area before now (Stopped which count) = (which ≡ Maplog) × (area.fault ≡ Some count) × (now ≡ before)
IsRewriteRefusal area before now OutOfMemory = (area.fault ≡ None) × (now ≡ before)
IsRewriteRefusal area before now e = (area.fault ≡ None) × IsFault Maplog before now e

-- a refused call of the device: memory ran out, or a call of the device failed
abbrev pub IsCallRefusal : ℕ → ℕ → Refusal → Type 0
IsCallRefusal before now OutOfMemory = now ≡ before
IsCallRefusal before now e = IsFault Maplog before now e
