use Rattle.std.proofs.Common.{refl}
use Rattle.store.specs.Seats.{always}
use Rattle.store.proofs.Entering.{has_own, may_give, open_there, page_there, still_whole, work_there}
use Rattle.store.proofs.Working.{answered_open}
use Rattle.store.proofs.shared.Store.read.Goals as goal

pub read-answer-requires-clause-stands : goal.read-answer-requires-clause-stands
read-answer-requires-clause-stands g c = c.enter-side.ensures.stands

pub read-answer-requires-clause-is_open : goal.read-answer-requires-clause-is_open
read-answer-requires-clause-is_open g c = open_there g.D.Disk.is_honest g.D.Disk.state g.D.Disk.faults _ c.args.seat.now c.enter-side.new.seat c.enter-side.result c.enter-side.ensures c.args.who c.requires.own c.requires.is_open

pub read-answer-requires-clause-inside : goal.read-answer-requires-clause-inside
read-answer-requires-clause-inside g c = page_there g.D.Disk.is_honest g.D.Disk.state g.D.Disk.faults _ c.args.seat.now c.enter-side.new.seat c.enter-side.result c.enter-side.ensures c.args.page c.requires.inside

pub leave-requires : goal.leave-requires
leave-requires g c = may_give g.D.Disk.is_honest g.D.Disk.state g.D.Disk.faults _ c.args.seat.now c.enter-side.new.seat c.enter-side.result c.enter-side.ensures c.args.who always c.read-answer.new.self (has_own g.D.Disk.is_honest g.D.Disk.state g.D.Disk.faults _ c.args.seat.now c.enter-side.new.seat c.enter-side.result c.enter-side.ensures c.args.who always c.requires.own c.requires.ready.1 tt) c.read-answer.ensures.visit

pub returns-clause-ready : goal.returns-clause-ready
returns-clause-ready g c =
    let v = (c.leave.ensures c.args.seat.now c.enter-side.result c.enter-side.ensures) in
    (v.ready, still_whole g.D.Disk.is_honest g.D.Disk.state g.D.Disk.faults _ c.args.seat.now c.enter-side.new.seat c.enter-side.result c.enter-side.ensures c.leave.new.seat c.read-answer.new.self c.args.who always (has_own g.D.Disk.is_honest g.D.Disk.state g.D.Disk.faults _ c.args.seat.now c.enter-side.new.seat c.enter-side.result c.enter-side.ensures c.args.who always c.requires.own c.requires.ready.1 tt) c.read-answer.ensures.visit v)

pub returns-clause-visits : goal.returns-clause-visits
returns-clause-visits g c = λ t is. record { before = c.enter-side.result; after = c.read-answer.new.self; visited = (c.leave.ensures c.args.seat.now c.enter-side.result c.enter-side.ensures); does = c.read-answer.ensures.does t (work_there g.D.Disk.is_honest g.D.Disk.state g.D.Disk.faults _ c.args.seat.now c.enter-side.new.seat c.enter-side.result c.enter-side.ensures c.args.who c.requires.own _ is) }

pub returns-clause-still : goal.returns-clause-still
returns-clause-still g c =
    let o = c.requires.is_open in
    answered_open g.D.Disk.is_honest g.D.Disk.state g.D.Disk.faults _ c.args.seat.now c.leave.new.seat c.enter-side.result c.read-answer.new.self (c.leave.ensures c.args.seat.now c.enter-side.result c.enter-side.ensures) c.args.who c.requires.own o.transaction _ _ c.read-answer.result o.is_of refl (c.read-answer.ensures.does o.transaction (work_there g.D.Disk.is_honest g.D.Disk.state g.D.Disk.faults _ c.args.seat.now c.enter-side.new.seat c.enter-side.result c.enter-side.ensures c.args.who c.requires.own _ o.open_there)).answered

pub returns-clause-same : goal.returns-clause-same
returns-clause-same g c = (c.leave.ensures c.args.seat.now c.enter-side.result c.enter-side.ensures).same
