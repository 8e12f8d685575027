-- Why a call was refused.
use Rattle.std.specs.Prelude.{◌≡◌, ℕ, Some, None}
use Rattle.retro_base.specs.declared.refusal.Refusal.{Refusal}
use Rattle.retro_base.specs.declared.refusal.Refusal.TheVariants.{Stopped}
use Rattle.area_log.specs.Area.{Area}

-- a refused write: the log stopped at an earlier fault, which is told, or the write is refused for a cause of its own
abbrev pub IsWriteRefusal : Area → (Refusal → Type 0) → ℕ → ℕ → Refusal → Type 0
IsWriteRefusal area IsOwn before now (Stopped which count) =
    (which ≡ area.log.device) × (area.fault ≡ Some count) × (now ≡ before)
IsWriteRefusal area IsOwn before now e = (area.fault ≡ None) × IsOwn e
