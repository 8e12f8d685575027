use Rattle.store.specs.Seats.{EndingIsTold}
use Rattle.store.proofs.Entering.{has_own, may_give, open_there, still_whole, work_there}
use Rattle.store.proofs.Working.{closed_none}
use Rattle.store.proofs.shared.Store.rollback.Goals as goal

pub rollback-requires-clause-stands : goal.rollback-requires-clause-stands
rollback-requires-clause-stands g c = c.enter-side.ensures.stands

pub rollback-requires-clause-is_open : goal.rollback-requires-clause-is_open
rollback-requires-clause-is_open g c = open_there g.D.Disk.is_honest g.D.Disk.state g.D.Disk.faults _ c.args.seat.now c.enter-side.new.seat c.enter-side.result c.enter-side.ensures c.args.who c.requires.own c.requires.is_open

pub leave-requires : goal.leave-requires
leave-requires g c = may_give g.D.Disk.is_honest g.D.Disk.state g.D.Disk.faults _ c.args.seat.now c.enter-side.new.seat c.enter-side.result c.enter-side.ensures c.args.who (EndingIsTold c.args.why) c.rollback.new.self (has_own g.D.Disk.is_honest g.D.Disk.state g.D.Disk.faults _ c.args.seat.now c.enter-side.new.seat c.enter-side.result c.enter-side.ensures c.args.who (EndingIsTold c.args.why) c.requires.own c.requires.ready.1 c.requires.told) c.rollback.ensures.visit

pub returns-clause-ready : goal.returns-clause-ready
returns-clause-ready g c =
    let v = (c.leave.ensures c.args.seat.now c.enter-side.result c.enter-side.ensures) in
    (v.ready, still_whole g.D.Disk.is_honest g.D.Disk.state g.D.Disk.faults _ c.args.seat.now c.enter-side.new.seat c.enter-side.result c.enter-side.ensures c.leave.new.seat c.rollback.new.self c.args.who (EndingIsTold c.args.why) (has_own g.D.Disk.is_honest g.D.Disk.state g.D.Disk.faults _ c.args.seat.now c.enter-side.new.seat c.enter-side.result c.enter-side.ensures c.args.who (EndingIsTold c.args.why) c.requires.own c.requires.ready.1 c.requires.told) c.rollback.ensures.visit v)

pub returns-clause-visits : goal.returns-clause-visits
returns-clause-visits g c = λ t is. record { before = c.enter-side.result; after = c.rollback.new.self; visited = (c.leave.ensures c.args.seat.now c.enter-side.result c.enter-side.ensures); does = c.rollback.ensures.does t (work_there g.D.Disk.is_honest g.D.Disk.state g.D.Disk.faults _ c.args.seat.now c.enter-side.new.seat c.enter-side.result c.enter-side.ensures c.args.who c.requires.own _ is) }

pub returns-clause-ended : goal.returns-clause-ended
returns-clause-ended g c =
    let o = c.requires.is_open in
    closed_none g.D.Disk.is_honest g.D.Disk.state g.D.Disk.faults _ c.args.seat.now c.leave.new.seat c.enter-side.result c.rollback.new.self (c.leave.ensures c.args.seat.now c.enter-side.result c.enter-side.ensures) c.args.who c.requires.own _ (c.rollback.ensures.does o.transaction (work_there g.D.Disk.is_honest g.D.Disk.state g.D.Disk.faults _ c.args.seat.now c.enter-side.new.seat c.enter-side.result c.enter-side.ensures c.args.who c.requires.own _ o.open_there)).closed

pub returns-clause-same : goal.returns-clause-same
returns-clause-same g c = (c.leave.ensures c.args.seat.now c.enter-side.result c.enter-side.ensures).same
