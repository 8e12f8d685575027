-- Two seats of one store that meet.
use Rattle.std.specs.Prelude.{◌≡◌, ◌⊎◌}
use Rattle.journal_law.specs.Seats.{View, Waits}

-- Both have then seen the same lines: those that one of them had seen. To each have come only lines of others.
pub record HaveMet (one other one_then other_then : View) : Type 0 where
  pub one_waits : Waits one one_then one.work
  pub other_waits : Waits other other_then other.work
  pub same : other_then.front ≡ one_then.front
  pub seen : (one_then.front ≡ one.front) ⊎ (one_then.front ≡ other.front)
