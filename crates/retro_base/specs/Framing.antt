-- Records of a log as bytes, and the generations of its regions.
use Rattle.std.specs.Prelude.{◌≡◌, ◌+◌, ◌-◌, ◌^◌, ◌<◌, ◌++◌, ◌==◌, ℕ, List, ◌∷◌, length, flat_map, if◌then◌else◌}
use Rattle.std.specs.List.{AllByRecursion}
use Rattle.retro_base.specs.Fields.{field_bytes, number_at}
use Rattle.retro_base.specs.declared.limits.TheConstants.{OPEN_GATE}

-- what stands behind a record's gate: the length of its body in four bytes, and its body
abbrev pub sized : List ℕ → List ℕ
sized body = field_bytes 4 (length body) ++ body

-- a record whose gate is open
abbrev pub record_of : List ℕ → List ℕ
record_of body = OPEN_GATE ∷ sized body

-- records one after the other
abbrev pub records_of : List (List ℕ) → List ℕ
records_of bodies = flat_map record_of bodies

-- each body's length fits its four bytes
abbrev pub AreBodies : List (List ℕ) → Type 0
AreBodies bodies = AllByRecursion (λ (body : List ℕ). length body < 2 ^ 32) bodies

-- The bytes begin with the records of these bodies, and behind them stands a gate that is not open. What stands behind
-- that gate is not read.
pub record AreRecords (bodies : List (List ℕ)) (bytes : List ℕ) : Type 0 where
  pub gate : ℕ
  pub rest : List ℕ
  pub split : bytes ≡ records_of bodies ++ gate ∷ rest
  pub closed : gate ≡ OPEN_GATE → ⊥
  pub short : AreBodies bodies

-- The record whose open gate stands at that place of the bytes does not end with its next gate inside the bytes.
pub record BreaksAt (bytes : List ℕ) (place : ℕ) : Type 0 where
  pub bodies : List (List ℕ)
  pub rest : List ℕ
  pub split : bytes ≡ records_of bodies ++ OPEN_GATE ∷ rest
  pub behind : place ≡ length (records_of bodies)
  pub over : length rest < number_at 4 rest 0 + 5
  pub short : AreBodies bodies

-- the generation of the region that is written after one of this generation
abbrev pub next_generation : ℕ → ℕ
next_generation generation = if generation == 2 ^ 64 - 1 then 1 else generation + 1
