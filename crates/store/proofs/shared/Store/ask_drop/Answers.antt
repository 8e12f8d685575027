use Rattle.store.specs.Seats.{always}
use Rattle.store.proofs.Entering.{has_own, may_give, still_whole}
use Rattle.store.proofs.Working.{dropped_kept}
use Rattle.store.proofs.shared.Store.ask_drop.Goals as goal

pub leave-requires : goal.leave-requires
leave-requires g c = may_give g.D.Disk.is_honest g.D.Disk.state g.D.Disk.faults _ c.args.seat.now c.enter-side.new.seat c.enter-side.result c.enter-side.ensures c.args.who always c.drop_below-answer.new.self (has_own g.D.Disk.is_honest g.D.Disk.state g.D.Disk.faults _ c.args.seat.now c.enter-side.new.seat c.enter-side.result c.enter-side.ensures c.args.who always c.requires.own c.requires.ready.1 tt) c.drop_below-answer.ensures.visit

pub returns-clause-ready : goal.returns-clause-ready
returns-clause-ready g c =
    let v = (c.leave.ensures c.args.seat.now c.enter-side.result c.enter-side.ensures) in
    (v.ready, still_whole g.D.Disk.is_honest g.D.Disk.state g.D.Disk.faults _ c.args.seat.now c.enter-side.new.seat c.enter-side.result c.enter-side.ensures c.leave.new.seat c.drop_below-answer.new.self c.args.who always (has_own g.D.Disk.is_honest g.D.Disk.state g.D.Disk.faults _ c.args.seat.now c.enter-side.new.seat c.enter-side.result c.enter-side.ensures c.args.who always c.requires.own c.requires.ready.1 tt) c.drop_below-answer.ensures.visit v)

pub returns-clause-kept : goal.returns-clause-kept
returns-clause-kept g c =
    dropped_kept g.D.Disk.is_honest g.D.Disk.state g.D.Disk.faults _ c.args.seat.now c.leave.new.seat c.enter-side.result c.drop_below-answer.new.self (c.leave.ensures c.args.seat.now c.enter-side.result c.enter-side.ensures) c.args.who c.requires.own c.drop_below-answer.result c.drop_below-answer.ensures.kept

pub returns-clause-visits : goal.returns-clause-visits
returns-clause-visits g c = record { before = c.enter-side.result; after = c.drop_below-answer.new.self; visited = (c.leave.ensures c.args.seat.now c.enter-side.result c.enter-side.ensures); does = c.drop_below-answer.ensures.does }
