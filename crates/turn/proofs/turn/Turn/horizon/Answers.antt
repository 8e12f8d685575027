use Rattle.std.proofs.Common.{rules}
use Rattle.turn.proofs.Handing.{if_some}
use Rattle.turn.proofs.Steps.{see_horizon}
use Rattle.turn.proofs.turn.Turn.horizon.Goals as goal

pub load-requires : goal.load-requires
load-requires g c = (c.requires.seat.table, search rules, see_horizon _ _ _ _ _ _ _ c.args.seat.now.seat.me c.requires.desk)

pub returns-clause-horizon : goal.returns-clause-horizon
returns-clause-horizon g c = if_some _ c.args.seat.now.seat.me.0.opening (λ x e. c.horizon_in.ensures _ (c.load.ensures.2.1 x e))
