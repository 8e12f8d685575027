-- The making of a list on a device that is all zero.
use Rattle.std.specs.Prelude.{◌≡◌, ◌⊎◌, ◌/◌, ℕ, List, length, replicate, Result, OnOk}
use Rattle.disk_model.specs.Disk.{State, IsDurable}
use Rattle.disk_model.specs.Moments.{Clock, LeavesOnly}
use Rattle.retro_base.specs.declared.refusal.Refusal.{Refusal}
use Rattle.gate_log.specs.Region.{generation_at, IsOpen}
use Rattle.area_log.specs.Regions.{DeviceLists, NoneCounts}

-- the bytes are as many, and list nothing, or these bodies
pub record ListsOrNone (extent : ℕ) (bodies : List (List ℕ)) (image : List ℕ) : Type 0 where
  pub whole : length image ≡ extent
  pub lists : NoneCounts (extent / 2) image 0 ⊎ DeviceLists (extent / 2) bodies image

-- A list is made in the first half, under the first generation, and the second half stays closed. A crash at any moment
-- leaves no list, or this one.
pub record Makes {Disk : Type 0} (extent : ℕ) (bodies : List (List ℕ)) (remembers : Type 0) (state : Disk → State)
    (clock : Disk → Clock) (old new : Disk) (result : Result (Unit {0}) Refusal) : Type 0 where
  pub lists : (state old).seen ≡ replicate extent 0 → OnOk result (DeviceLists (extent / 2) bodies (state new).seen)
  pub first : OnOk result (generation_at 0 (state new).seen ≡ 1)
  pub shut : (state old).seen ≡ replicate extent 0 → OnOk result (IsOpen (extent / 2) (state new).seen → ⊥)
  pub durable : OnOk result (IsDurable (state new))
  pub any_moment : (state old).seen ≡ replicate extent 0 → IsDurable (state old)
      → LeavesOnly remembers (clock old) (clock new) (ListsOrNone extent bodies)
