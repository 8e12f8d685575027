-- What a log knows of its region, and what the region holds.
use Rattle.std.specs.Prelude.{◌≡◌, ◌+◌, ◌-◌, ◌^◌, ◌<◌, ℕ, List, [], ◌∷◌, ◌++◌, replicate, slice_index}
use Rattle.disk_model.specs.Disk.{State, InRange, IsDurable, SameOutside}
use Rattle.retro_base.specs.declared.device.Device.{Device}
use Rattle.retro_base.specs.Fields.{field_bytes}
use Rattle.retro_base.specs.Framing.{records_of, AreBodies}
use Rattle.gate_log.specs.Region.{gate_behind, generation_at, Lists}

-- a region of a device, and where in it the closed gate behind its records stands
pub record Region : Type 0 where
  pub device : Device
  pub place : ℕ
  pub size : ℕ
  pub gate : ℕ

-- The log's region lists these bodies, and all of the region but the gate of its header is durable.
pub record HoldsBodies (log : Region) (bodies : List (List ℕ)) (state : State) : Type 0 where
  pub lists : Lists log.place log.size bodies state.seen
  pub gate : log.gate ≡ gate_behind bodies
  pub durable : (place : ℕ) → log.place < place → place < log.place + log.size → state.is_loose place → ⊥

-- what stands in a region behind its header's gate: seven zeros, the generation, the records, and a closed gate
abbrev pub region_tail : ℕ → List (List ℕ) → List ℕ
region_tail generation bodies = (replicate 7 0 ++ field_bytes 8 generation) ++ (records_of bodies ++ 0 ∷ [])

-- the bytes are the tail of a region with these bodies, whose lengths and generation fit their fields
pub record IsPrepared (bytes : List ℕ) (generation : ℕ) (bodies : List (List ℕ)) : Type 0 where
  pub tail : bytes ≡ region_tail generation bodies
  pub small : generation < 2 ^ 64
  pub short : AreBodies bodies

-- The region was filled with these bodies under that generation, and nothing is loose. Its header's gate and all that
-- stands outside the region are as before.
pub record Fills (place size generation : ℕ) (bodies : List (List ℕ)) (old new : State) : Type 0 where
  pub lists : Lists place size bodies new.seen
  pub under : generation_at place new.seen ≡ generation
  pub blank : (i : ℕ) → place < i → i < place + 8 → slice_index new.seen i ≡ 0
  pub same : SameOutside (InRange (place + 1) (size - 1)) old.seen new.seen
  pub durable : IsDurable new
