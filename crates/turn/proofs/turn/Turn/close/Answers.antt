use Rattle.turn.proofs.Ends.{closed_as}
use Rattle.turn.proofs.turn.Turn.close.Goals as goal

pub returns-clause-closed : goal.returns-clause-closed
returns-clause-closed g c = closed_as _ _ _ _ _ _ c.take_home.result.0 c.take_home.result.1 c.gather-all.ensures.told c.take_home.ensures.closed

pub returns-clause-right : goal.returns-clause-right
returns-clause-right g c = c.gather-all.ensures.covers c.take_home.result.0 c.take_home.result.1 c.take_home.ensures.known
