-- What a run of calls owes a device.
use Rattle.std.specs.Prelude.{◌≡◌, ◌↔◌, ℕ}
use Rattle.disk_model.specs.Disk.{State, IsImage, Unchanged}
use Rattle.disk_model.specs.Moments.{Clock, LeavesOnly}

-- it is of the same size, and as honest as it was
pub record SameDevice {Device : Type 0} (extent : Device → ℕ) (is_honest : Device → Type 0) (old new : Device)
    : Type 0 where
  pub size : extent new ≡ extent old
  pub honest : is_honest old ↔ is_honest new

-- A run that only reads: reads return the same, and a crash leaves the same, also at each moment within the run.
pub record OnlyReads {Device : Type 0} (remembers : Type 0) (state : Device → State) (clock : Device → Clock)
    (old new : Device) : Type 0 where
  pub unchanged : Unchanged (state old) (state new)
  pub any_moment : LeavesOnly remembers (clock old) (clock new) (IsImage (state old))

-- A run that writes nothing, and may sync: reads return the same, and a crash leaves nothing that it might not have
-- left before.
pub record WritesNothing {Device : Type 0} (remembers : Type 0) (state : Device → State) (clock : Device → Clock)
    (old new : Device) : Type 0 where
  pub same : (state new).seen ≡ (state old).seen
  pub loose : (place : ℕ) → (state new).is_loose place → (state old).is_loose place
  pub any_moment : LeavesOnly remembers (clock old) (clock new) (IsImage (state old))
