-- The headers of two regions, and which of the two counts.
use Rattle.std.specs.Prelude.{◌≡◌, ◌↔◌, ℕ, IsTrue, List}
use Rattle.retro_base.specs.Cause.{IsFault}
use Rattle.retro_base.specs.Framing.{next_generation}
use Rattle.retro_base.specs.declared.device.Device.{Device}
use Rattle.retro_base.specs.declared.refusal.Refusal.{Refusal}
use Rattle.retro_base.specs.declared.refusal.Refusal.TheVariants.{NotAStore}
use Rattle.gate_log.specs.Region.{generation_at, IsOpen}
use Rattle.area_log.specs.Regions.{Counts, other_half}
use Rattle.area_log.specs.declared.header.Header.{Header}
use Rattle.area_log.specs.declared.header.Counting.{Counting}

-- the header of the region at that place
pub record IsHeader (place : ℕ) (bytes : List ℕ) (header : Header) : Type 0 where
  pub gate : IsTrue header.is_open ↔ IsOpen place bytes
  pub under : header.generation ≡ generation_at place bytes

-- the half with the one header counts beside the half with the other
abbrev pub HeaderCounts : Header → Header → Type 0
HeaderCounts this other =
    IsTrue this.is_open × (IsTrue other.is_open → this.generation ≡ next_generation other.generation)

-- no half was found that counts: neither does, which is told at such a place, or a call of the device failed
abbrev pub IsUnfound : (ℕ → Type 0) → Device → ℕ → ℕ → Refusal → Type 0
IsUnfound IsBroken device before now (NotAStore which broken) = (which ≡ device) × (now ≡ before) × IsBroken broken
IsUnfound IsBroken device before now e = IsFault device before now e

-- it tells which half counts, its generation, and whether the other is open
pub record IsCounting (size : ℕ) (bytes : List ℕ) (counting : Counting) : Type 0 where
  pub counts : Counts size counting.place bytes
  pub under : counting.generation ≡ generation_at counting.place bytes
  pub other : IsTrue counting.is_other_open ↔ IsOpen (other_half size counting.place) bytes
