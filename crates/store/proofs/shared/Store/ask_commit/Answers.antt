use Rattle.store.specs.Seats.{always}
use Rattle.store.proofs.Entering.{has_own, may_give, open_there, still_whole, work_there}
use Rattle.store.proofs.Working.{committed_none}
use Rattle.store.proofs.shared.Store.ask_commit.Goals as goal

pub commit-answer-requires-clause-stands : goal.commit-answer-requires-clause-stands
commit-answer-requires-clause-stands g c = c.enter-side.ensures.stands

pub commit-answer-requires-clause-is_open : goal.commit-answer-requires-clause-is_open
commit-answer-requires-clause-is_open g c = open_there g.D.Disk.is_honest g.D.Disk.state g.D.Disk.faults _ c.args.seat.now c.enter-side.new.seat c.enter-side.result c.enter-side.ensures c.args.who c.requires.own c.requires.is_open

pub leave-requires : goal.leave-requires
leave-requires g c = may_give g.D.Disk.is_honest g.D.Disk.state g.D.Disk.faults _ c.args.seat.now c.enter-side.new.seat c.enter-side.result c.enter-side.ensures c.args.who always c.commit-answer.new.self (has_own g.D.Disk.is_honest g.D.Disk.state g.D.Disk.faults _ c.args.seat.now c.enter-side.new.seat c.enter-side.result c.enter-side.ensures c.args.who always c.requires.own c.requires.ready.1 tt) c.commit-answer.ensures.visit

pub returns-clause-ready : goal.returns-clause-ready
returns-clause-ready g c =
    let v = (c.leave.ensures c.args.seat.now c.enter-side.result c.enter-side.ensures) in
    (v.ready, still_whole g.D.Disk.is_honest g.D.Disk.state g.D.Disk.faults _ c.args.seat.now c.enter-side.new.seat c.enter-side.result c.enter-side.ensures c.leave.new.seat c.commit-answer.new.self c.args.who always (has_own g.D.Disk.is_honest g.D.Disk.state g.D.Disk.faults _ c.args.seat.now c.enter-side.new.seat c.enter-side.result c.enter-side.ensures c.args.who always c.requires.own c.requires.ready.1 tt) c.commit-answer.ensures.visit v)

pub returns-clause-visits : goal.returns-clause-visits
returns-clause-visits g c = λ t is. record { before = c.enter-side.result; after = c.commit-answer.new.self; visited = (c.leave.ensures c.args.seat.now c.enter-side.result c.enter-side.ensures); does = c.commit-answer.ensures.does t (work_there g.D.Disk.is_honest g.D.Disk.state g.D.Disk.faults _ c.args.seat.now c.enter-side.new.seat c.enter-side.result c.enter-side.ensures c.args.who c.requires.own _ is) }

pub returns-clause-ended : goal.returns-clause-ended
returns-clause-ended g c =
    let o = c.requires.is_open in
    committed_none g.D.Disk.is_honest g.D.Disk.state g.D.Disk.faults _ c.args.seat.now c.leave.new.seat c.enter-side.result c.commit-answer.new.self (c.leave.ensures c.args.seat.now c.enter-side.result c.enter-side.ensures) c.args.who c.requires.own _ _ _ o.transaction c.commit-answer.result (c.commit-answer.ensures.does o.transaction (work_there g.D.Disk.is_honest g.D.Disk.state g.D.Disk.faults _ c.args.seat.now c.enter-side.new.seat c.enter-side.result c.enter-side.ensures c.args.who c.requires.own _ o.open_there))

pub returns-clause-same : goal.returns-clause-same
returns-clause-same g c = (c.leave.ensures c.args.seat.now c.enter-side.result c.enter-side.ensures).same
