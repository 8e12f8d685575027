use Rattle.seat_pager.proofs.Shown.{opened}
use Rattle.session.proofs.Attempted.{rolled_so}
use Rattle.session.proofs.attempt.roll_back.Goals as goal

pub returns-clause-ends : goal.returns-clause-ends
returns-clause-ends g c size items h =
    rolled_so size items c.args.who c.args.names.now c.args.t.now (g.S.Seat.view c.args.seat.now) c.args.text.items h (g.S.Seat.view c.rollback.new.self) c.rolled_back.result c.requires.end c.rollback.ensures.gives c.rolled_back.ensures

pub returns-clause-ended : goal.returns-clause-ended
returns-clause-ended g c =
    let a = opened (g.S.Seat.view c.args.seat.now).work c.requires.open_now in
    let gave = c.rollback.ensures.gives a.0 a.1 in
    record { idle = gave.work_is; session = gave.moves.session }
