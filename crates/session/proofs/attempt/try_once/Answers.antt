use Rattle.session.proofs.Transacted.{begins, not_begun_ended, tried_not, tried_once}
use Rattle.session.proofs.attempt.try_once.Goals as goal

pub returns-in-Ok-clause-tried : goal.returns-in-Ok-clause-tried
returns-in-Ok-clause-tried g c honest size items overlaps stands =
    let began = begins size items c.args.who c.args.names.now c.args.t.now (g.S.Seat.view c.args.seat) (g.S.Seat.view c.begin.new.self) c.in-Ok.field-0 stands c.in-Ok.ensures.gives in
    tried_once size items c.args.who c.args.names.now c.args.t.now (g.S.Seat.view c.args.seat) (g.S.Seat.view c.begin.new.self) (g.S.Seat.view c.attempt.result.0) c.attempt.result.1 began.2
    (c.attempt.ensures.ends ((g.S.Seat.honest_stays _ _ c.in-Ok.ensures.goes).0 honest) size items overlaps began.0 began.1)

pub returns-in-Err-clause-tried : goal.returns-in-Err-clause-tried
returns-in-Err-clause-tried g c honest size items overlaps stands =
    tried_not size items c.args.who c.args.names.now c.args.t.now (g.S.Seat.view c.args.seat) (g.S.Seat.view c.begin.new.self) c.in-Err.field-0 c.requires.idle stands c.in-Err.ensures.gives

pub returns-in-Err-clause-ended : goal.returns-in-Err-clause-ended
returns-in-Err-clause-ended g c = not_begun_ended c.args.who (g.S.Seat.view c.args.seat) (g.S.Seat.view c.begin.new.self) c.in-Err.field-0 c.requires.idle c.in-Err.ensures.gives
