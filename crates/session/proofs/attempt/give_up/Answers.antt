use Rattle.std.proofs.Common.{subst, sym}
use Rattle.journal_law.specs.Seats.{MayEnd, RollbackGives}
use Rattle.journal_law.specs.declared.seat.Ending.{Ending}
use Rattle.session.proofs.AttemptEnds.{may_end}
use Rattle.session.proofs.attempt.give_up.Goals as goal

pub rollback-requires : goal.rollback-requires
rollback-requires g c = record {
  open_now = c.requires.open_now;
  may_end = subst (MayEnd (g.S.Seat.view c.args.seat.now)) (sym c.ending_of.ensures) (may_end c.args.why (g.S.Seat.view c.args.seat.now));
}

pub returns-clause-gives : goal.returns-clause-gives
returns-clause-gives g c a is =
    subst (λ (e : Ending). RollbackGives e (g.S.Seat.view c.args.seat.now) (g.S.Seat.view c.rollback.new.self) a) c.ending_of.ensures (c.rollback.ensures.gives a is)
