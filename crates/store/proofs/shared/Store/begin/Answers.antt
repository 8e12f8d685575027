use Rattle.store.specs.Seats.{always}
use Rattle.store.proofs.Entering.{has_own, idle_there, may_give, still_whole}
use Rattle.store.proofs.Working.{begun_idle, begun_open}
use Rattle.store.proofs.shared.Store.begin.Goals as goal

pub begin-answer-requires-clause-stands : goal.begin-answer-requires-clause-stands
begin-answer-requires-clause-stands g c = c.enter-side.ensures.stands

pub begin-answer-requires-clause-idle : goal.begin-answer-requires-clause-idle
begin-answer-requires-clause-idle g c = idle_there g.D.Disk.is_honest g.D.Disk.state g.D.Disk.faults _ c.args.seat.now c.enter-side.new.seat c.enter-side.result c.enter-side.ensures c.args.who c.requires.own c.requires.idle

pub leave-requires : goal.leave-requires
leave-requires g c = may_give g.D.Disk.is_honest g.D.Disk.state g.D.Disk.faults _ c.args.seat.now c.enter-side.new.seat c.enter-side.result c.enter-side.ensures c.args.who always c.begin-answer.new.self (has_own g.D.Disk.is_honest g.D.Disk.state g.D.Disk.faults _ c.args.seat.now c.enter-side.new.seat c.enter-side.result c.enter-side.ensures c.args.who always c.requires.own c.requires.ready.1 tt) c.begin-answer.ensures.visit

pub returns-clause-ready : goal.returns-clause-ready
returns-clause-ready g c =
    let v = (c.leave.ensures c.args.seat.now c.enter-side.result c.enter-side.ensures) in
    (v.ready, still_whole g.D.Disk.is_honest g.D.Disk.state g.D.Disk.faults _ c.args.seat.now c.enter-side.new.seat c.enter-side.result c.enter-side.ensures c.leave.new.seat c.begin-answer.new.self c.args.who always (has_own g.D.Disk.is_honest g.D.Disk.state g.D.Disk.faults _ c.args.seat.now c.enter-side.new.seat c.enter-side.result c.enter-side.ensures c.args.who always c.requires.own c.requires.ready.1 tt) c.begin-answer.ensures.visit v)

pub returns-clause-visits : goal.returns-clause-visits
returns-clause-visits g c = record { before = c.enter-side.result; after = c.begin-answer.new.self; visited = (c.leave.ensures c.args.seat.now c.enter-side.result c.enter-side.ensures); does = c.begin-answer.ensures.does }

pub returns-clause-begun : goal.returns-clause-begun
returns-clause-begun g c = begun_open g.D.Disk.is_honest g.D.Disk.state g.D.Disk.faults _ c.args.seat.now c.leave.new.seat c.enter-side.result c.begin-answer.new.self (c.leave.ensures c.args.seat.now c.enter-side.result c.enter-side.ensures) c.args.who c.requires.own c.begin-answer.result c.begin-answer.ensures.does

pub returns-clause-idle : goal.returns-clause-idle
returns-clause-idle g c = begun_idle g.D.Disk.is_honest g.D.Disk.state g.D.Disk.faults _ c.args.seat.now c.leave.new.seat c.enter-side.result c.begin-answer.new.self (c.leave.ensures c.args.seat.now c.enter-side.result c.enter-side.ensures) c.args.who c.requires.own c.begin-answer.result (idle_there g.D.Disk.is_honest g.D.Disk.state g.D.Disk.faults _ c.args.seat.now c.enter-side.new.seat c.enter-side.result c.enter-side.ensures c.args.who c.requires.own c.requires.idle) c.begin-answer.ensures.does

pub returns-clause-same : goal.returns-clause-same
returns-clause-same g c = (c.leave.ensures c.args.seat.now c.enter-side.result c.enter-side.ensures).same
