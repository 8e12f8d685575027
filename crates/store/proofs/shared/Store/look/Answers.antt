use Rattle.store.specs.Seats.{always}
use Rattle.store.proofs.Entering.{has_own, idle_there, may_give, still_whole}
use Rattle.store.proofs.Tabling.{looked_table}
use Rattle.store.proofs.Working.{looked_looking}
use Rattle.store.proofs.shared.Store.look.Goals as goal

pub look-answer-requires-clause-stands : goal.look-answer-requires-clause-stands
look-answer-requires-clause-stands g c = c.enter-side.ensures.stands

pub look-answer-requires-clause-idle : goal.look-answer-requires-clause-idle
look-answer-requires-clause-idle g c = idle_there g.D.Disk.is_honest g.D.Disk.state g.D.Disk.faults _ c.args.seat.now c.enter-side.new.seat c.enter-side.result c.enter-side.ensures c.args.who c.requires.own c.requires.idle

pub leave-requires : goal.leave-requires
leave-requires g c = may_give g.D.Disk.is_honest g.D.Disk.state g.D.Disk.faults _ c.args.seat.now c.enter-side.new.seat c.enter-side.result c.enter-side.ensures c.args.who always c.look-answer.new.self (has_own g.D.Disk.is_honest g.D.Disk.state g.D.Disk.faults _ c.args.seat.now c.enter-side.new.seat c.enter-side.result c.enter-side.ensures c.args.who always c.requires.own c.requires.ready.1 tt) c.look-answer.ensures.visit

pub returns-clause-ready : goal.returns-clause-ready
returns-clause-ready g c =
    let v = (c.leave.ensures c.args.seat.now c.enter-side.result c.enter-side.ensures) in
    (v.ready, still_whole g.D.Disk.is_honest g.D.Disk.state g.D.Disk.faults _ c.args.seat.now c.enter-side.new.seat c.enter-side.result c.enter-side.ensures c.leave.new.seat c.look-answer.new.self c.args.who always (has_own g.D.Disk.is_honest g.D.Disk.state g.D.Disk.faults _ c.args.seat.now c.enter-side.new.seat c.enter-side.result c.enter-side.ensures c.args.who always c.requires.own c.requires.ready.1 tt) c.look-answer.ensures.visit v)

pub returns-clause-visits : goal.returns-clause-visits
returns-clause-visits g c = record { before = c.enter-side.result; after = c.look-answer.new.self; visited = (c.leave.ensures c.args.seat.now c.enter-side.result c.enter-side.ensures); does = c.look-answer.ensures.does }

pub returns-clause-looking : goal.returns-clause-looking
returns-clause-looking g c = looked_looking g.D.Disk.is_honest g.D.Disk.state g.D.Disk.faults _ c.args.seat.now c.leave.new.seat c.enter-side.result c.look-answer.new.self (c.leave.ensures c.args.seat.now c.enter-side.result c.enter-side.ensures) c.args.who c.requires.own c.args.number c.look-answer.result c.look-answer.ensures.does

pub returns-clause-same : goal.returns-clause-same
returns-clause-same g c = (c.leave.ensures c.args.seat.now c.enter-side.result c.enter-side.ensures).same

pub returns-clause-table : goal.returns-clause-table
returns-clause-table g c =
    looked_table g.D.Disk.is_honest g.D.Disk.state g.D.Disk.faults _ c.args.seat.now c.leave.new.seat c.enter-side.result c.look-answer.new.self (c.leave.ensures c.args.seat.now c.enter-side.result c.enter-side.ensures) c.args.who c.args.number c.look-answer.result c.look-answer.ensures.does
