-- Counts of faults: what each step does to them, and what an error says of them.
use Rattle.std.specs.Prelude.{◌≡◌, ◌≤◌, ℕ, ◌+◌, ◌-◌, ◌^◌, min, Result, MatchResult, OnOk, OnErr}
use Rattle.retro_base.specs.declared.device.Device.{Device}
use Rattle.retro_base.specs.declared.refusal.Refusal.{Refusal}
use Rattle.retro_base.specs.declared.refusal.Refusal.TheVariants.{DiskFault}

-- the count after one more, which stops at the last value of a u64
abbrev pub raised : ℕ → ℕ
raised count = min (count + 1) (2 ^ 64 - 1)

-- the count rose, or stands at the last value of a u64
abbrev pub Rose : ℕ → ℕ → Type 0
Rose before now = raised before ≤ now

-- what a call does to a count of faults: it never falls, an error has raised it, and a success left it as it was
pub record HasCause {T E : Type 0} (before now : ℕ) (result : Result T E) : Type 0 where
  pub later : before ≤ now
  pub failed : OnErr result (Rose before now)
  pub steady : OnOk result (now ≡ before)

-- a fault of that device, with its new count, which rose
abbrev pub IsFault : Device → ℕ → ℕ → Refusal → Type 0
IsFault device before now (DiskFault which count) = (which ≡ device) × (count ≡ now) × (before ≤ now) × Rose before now
IsFault device before now _ = ⊥

-- The only refusal is a fault of the device. The count is as before where the call succeeded.
abbrev pub FaultsAlone : {T : Type 0} → Device → ℕ → ℕ → Result T Refusal → Type 0
FaultsAlone device before now result = MatchResult result (λ _. now ≡ before) (IsFault device before now)
