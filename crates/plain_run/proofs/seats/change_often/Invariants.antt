use Rattle.plain_run.specs.Still.{IsStill}
use Rattle.plain_run.proofs.seats.change_often.Given as goal

abbrev pub invariant-loop-number : goal.invariant-loop-number
invariant-loop-number g l = IsStill (g.S.Seat.view l.fn.seat) (g.S.Seat.view l.seat)
