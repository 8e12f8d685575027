-- What calls of a device leave.
use Rattle.std.specs.Prelude.{◌≡◌, ℕ, List}
use Rattle.disk_model.specs.Disk.{State, IsDurable, written}

-- these bytes stand there, and nothing is loose
pub record IsPut (place : ℕ) (bytes : List ℕ) (old new : State) : Type 0 where
  pub written : new.seen ≡ written place bytes old.seen
  pub durable : IsDurable new
