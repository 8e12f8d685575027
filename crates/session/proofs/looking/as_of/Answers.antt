use Rattle.std.proofs.Common.{◌∙◌}
use Rattle.session.specs.Singles.{AsksPast}
use Rattle.session.proofs.AsOf.{is_now_looking, look_refused_settles, looked_settles}
use Rattle.session.proofs.Ends.{ended_left}
use Rattle.session.proofs.looking.as_of.Goals as goal

pub look_up-requires-clause-number : goal.look_up-requires-clause-number
look_up-requires-clause-number g c = c.in-Ok.ensures.gives.4

pub returns-in-Ok-clause-settles : goal.returns-in-Ok-clause-settles
returns-in-Ok-clause-settles g c = λ honest.
    looked_settles c.args.names.now c.args.who c.args.query.now (g.S.Seat.is_honest c.look.new.self) (g.S.Seat.view c.args.seat) (g.S.Seat.view c.look.new.self) (g.S.Seat.view c.look_up.result.0) c.look_up.result.1
    c.in-Ok.ensures.gives ((g.S.Seat.honest_stays c.args.seat c.look.new.self c.in-Ok.ensures.goes).0 honest) c.look_up.ensures.ends

pub returns-in-Ok-clause-idle : goal.returns-in-Ok-clause-idle
returns-in-Ok-clause-idle g c =
    (ended_left c.args.names.now (AsksPast c.args.query.now.query c.args.query.now.snapshot (g.S.Seat.is_honest c.look.new.self) (g.S.Seat.view c.look.new.self)) (g.S.Seat.view c.look.new.self) (g.S.Seat.view c.look_up.result.0) c.look_up.result.1
    (is_now_looking c.args.who c.args.query.now.snapshot (g.S.Seat.view c.args.seat) (g.S.Seat.view c.look.new.self) c.in-Ok.ensures.gives) c.look_up.ensures.ends).0

pub returns-in-Ok-clause-session : goal.returns-in-Ok-clause-session
returns-in-Ok-clause-session g c =
    (ended_left c.args.names.now (AsksPast c.args.query.now.query c.args.query.now.snapshot (g.S.Seat.is_honest c.look.new.self) (g.S.Seat.view c.look.new.self)) (g.S.Seat.view c.look.new.self) (g.S.Seat.view c.look_up.result.0) c.look_up.result.1
    (is_now_looking c.args.who c.args.query.now.snapshot (g.S.Seat.view c.args.seat) (g.S.Seat.view c.look.new.self) c.in-Ok.ensures.gives) c.look_up.ensures.ends).1
    ∙ c.in-Ok.ensures.gives.1.moves.session

pub returns-in-Err-clause-settles : goal.returns-in-Err-clause-settles
returns-in-Err-clause-settles g c = λ honest.
    look_refused_settles c.args.names.now c.args.who c.args.query.now c.in-Err.why (g.S.Seat.view c.args.seat) (g.S.Seat.view c.look.new.self) c.refused_alone.result c.in-Err.ensures.gives c.refused_alone.ensures
