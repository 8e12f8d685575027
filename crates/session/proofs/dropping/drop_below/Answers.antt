use Rattle.session.proofs.Drops.{drop_refused_settles, drop_settles}
use Rattle.session.proofs.dropping.drop_below.Goals as goal

pub returns-in-Ok-clause-settles : goal.returns-in-Ok-clause-settles
returns-in-Ok-clause-settles g c =
    drop_settles c.args.names.now c.args.who c.args.below (g.S.Seat.view c.args.seat) (g.S.Seat.view c.drop_below.new.self) c.dropped.result c.in-Ok.ensures.gives c.dropped.ensures

pub returns-in-Err-clause-settles : goal.returns-in-Err-clause-settles
returns-in-Err-clause-settles g c =
    drop_refused_settles c.args.names.now c.args.who c.args.below c.in-Err.why (g.S.Seat.view c.args.seat) (g.S.Seat.view c.drop_below.new.self) c.refused_alone.result c.in-Err.ensures.gives c.refused_alone.ensures
