-- Why a page is not held.
use Rattle.std.specs.Prelude.{◌≡◌, ℕ}
use Rattle.retro_base.specs.Cause.{IsFault}
use Rattle.retro_base.specs.declared.device.Device.TheVariants.{Pages}
use Rattle.retro_base.specs.declared.refusal.Refusal.{Refusal}
use Rattle.retro_base.specs.declared.refusal.Refusal.TheVariants.{OutOfMemory}

-- memory ran out, with no call of the device that failed, or one failed
abbrev pub IsHoldRefusal : ℕ → ℕ → Refusal → Type 0
IsHoldRefusal before now OutOfMemory = now ≡ before
IsHoldRefusal before now e = IsFault Pages before now e
