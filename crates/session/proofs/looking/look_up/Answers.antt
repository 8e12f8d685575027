use Rattle.session.specs.Singles.{AsksPast}
use Rattle.session.proofs.Ends.{look_ends}
use Rattle.session.proofs.looking.look_up.Goals as goal

pub returns-clause-ends : goal.returns-clause-ends
returns-clause-ends g c =
    let n = c.args.query.now.snapshot in
    let honest = g.S.Seat.is_honest c.args.seat in
    look_ends c.args.names.now (AsksPast c.args.query.now.query n honest (g.S.Seat.view c.args.seat)) (g.S.Seat.view c.args.seat) (g.S.Seat.view c.ask_past-seat.result.0) (g.S.Seat.view c.finish.result.0)
    c.ask_past-seat.result.1 c.finish.result.1 c.ask_past-seat.ensures.moves c.ask_past-seat.ensures.work c.ask_past-seat.ensures.concludes
    c.finish.ensures.ends c.finish.ensures.tells

pub returns-clause-goes : goal.returns-clause-goes
returns-clause-goes g c = g.S.Seat.goes_on _ _ _ c.ask_past-seat.ensures.goes c.finish.ensures.goes
