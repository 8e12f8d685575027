-- Why a call was refused.
use Rattle.std.specs.Prelude.{◌≡◌, ℕ}
use Rattle.retro_base.specs.Cause.{IsFault}
use Rattle.retro_base.specs.declared.device.Device.{Device}
use Rattle.retro_base.specs.declared.refusal.Refusal.{Refusal}
use Rattle.retro_base.specs.declared.refusal.Refusal.TheVariants.{OutOfMemory}

-- memory ran out before a call of the device, or a call of it failed
abbrev pub IsMemoryOrFault : Device → ℕ → ℕ → Refusal → Type 0
IsMemoryOrFault device before now OutOfMemory = now ≡ before
IsMemoryOrFault device before now e = IsFault device before now e
