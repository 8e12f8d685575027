-- A seat behind an item.
use Rattle.std.specs.Prelude.{◌≡◌}
use Rattle.journal_law.specs.Seats.{Idle, View}

-- nothing is open, and the seat is the same
pub record IsStill (old new : View) : Type 0 where
  pub idle : new.work ≡ Idle
  pub session : new.session ≡ old.session
  pub opened : new.opened ≡ old.opened
