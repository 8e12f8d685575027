-- A region of a device: a header of 16 bytes, which begins with a gate and ends with a generation, and then the records
-- of a list.
use Rattle.std.specs.Prelude.{◌≡◌, ◌+◌, ◌<◌, ◌≤◌, ℕ, List, length, slice_index, take, drop}
use Rattle.gate_log.specs.declared.log.TheConstants.{HEADER_BYTES}
use Rattle.retro_base.specs.Fields.{number_at}
use Rattle.retro_base.specs.Framing.{records_of, AreRecords, BreaksAt}
use Rattle.retro_base.specs.declared.limits.TheConstants.{OPEN_GATE}

-- the gate of the header of the region at that place is open
abbrev pub IsOpen : ℕ → List ℕ → Type 0
IsOpen place bytes = slice_index bytes place ≡ OPEN_GATE

-- the generation in the header of the region at that place
abbrev pub generation_at : ℕ → List ℕ → ℕ
generation_at place bytes = number_at 8 bytes (place + 8)

-- what stands behind the header of the region of that size at that place
abbrev pub region_records : ℕ → ℕ → List ℕ → List ℕ
region_records place size bytes = drop HEADER_BYTES (take size (drop place bytes))

-- the region of that size at that place lists these bodies
abbrev pub Lists : ℕ → ℕ → List (List ℕ) → List ℕ → Type 0
Lists place size bodies bytes = AreRecords bodies (region_records place size bytes)

-- a record of the region of that size at that place may stand there
abbrev pub InRecords : ℕ → ℕ → ℕ → Type 0
InRecords place size at = (place + HEADER_BYTES ≤ at) × (at < place + size)

-- where in its region the gate behind these records stands
abbrev pub gate_behind : List (List ℕ) → ℕ
gate_behind bodies = HEADER_BYTES + length (records_of bodies)

-- The region is open, and the record whose gate stands at that place of the device breaks.
pub record Breaks (place size : ℕ) (bytes : List ℕ) (broken : ℕ) : Type 0 where
  pub is_open : IsOpen place bytes
  pub at : ℕ
  pub is_at : broken ≡ place + HEADER_BYTES + at
  pub breaks : BreaksAt (region_records place size bytes) at
