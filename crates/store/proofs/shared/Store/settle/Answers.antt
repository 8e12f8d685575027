use Rattle.std.proofs.Common.{refl}
use Rattle.store.specs.Seats.{always}
use Rattle.store.proofs.Entering.{has_own, may_give, still_whole}
use Rattle.store.proofs.Leaving.{whole_core}
use Rattle.store.proofs.Passing.{fresh_there, may_record}
use Rattle.store.proofs.Serving.{settles}
use Rattle.store.proofs.shared.Store.settle.Goals as goal

pub settle-answer-requires-clause-core : goal.settle-answer-requires-clause-core
settle-answer-requires-clause-core g c = whole_core g.D.Disk.is_honest g.D.Disk.state c.enter-side.result c.enter-side.ensures.stands

pub settle-answer-requires-clause-place : goal.settle-answer-requires-clause-place
settle-answer-requires-clause-place g c = may_record g.D.Disk.is_honest g.D.Disk.state g.D.Disk.faults _ c.args.seat.now c.enter-side.new.seat c.enter-side.result c.enter-side.ensures c.args.who c.requires.own c.requires.serve

pub leave-requires : goal.leave-requires
leave-requires g c = may_give g.D.Disk.is_honest g.D.Disk.state g.D.Disk.faults _ c.args.seat.now c.enter-side.new.seat c.enter-side.result c.enter-side.ensures c.args.who always (record { core = c.settle-answer.new.self; start = c.enter-side.result.start }) (has_own g.D.Disk.is_honest g.D.Disk.state g.D.Disk.faults _ c.args.seat.now c.enter-side.new.seat c.enter-side.result c.enter-side.ensures c.args.who always c.requires.own c.requires.ready.1 tt) (settles g.D.Disk.is_honest g.D.Disk.state g.D.Disk.faults c.args.who c.enter-side.result (record { core = c.settle-answer.new.self; start = c.enter-side.result.start }) refl c.enter-side.ensures.stands g.D.Disk.remembers g.D.Disk.clock c.settle-answer.result (fresh_there g.D.Disk.is_honest g.D.Disk.state g.D.Disk.faults _ c.args.seat.now c.enter-side.new.seat c.enter-side.result c.enter-side.ensures c.args.who c.requires.own c.requires.serve) c.count_fits.ensures (record { log = c.settle-answer.ensures.log; same = c.settle-answer.ensures.same; cause = c.settle-answer.ensures.cause; ledger = c.settle-answer.ensures.ledger; untouched = c.settle-answer.ensures.untouched; done = c.settle-answer.ensures.done; failed = c.settle-answer.ensures.failed; any_moment = c.settle-answer.ensures.any_moment; long = c.settle-answer.ensures.long }))

pub returns-clause-ready : goal.returns-clause-ready
returns-clause-ready g c =
    let v = c.leave.ensures c.args.seat.now c.enter-side.result c.enter-side.ensures in
    (v.ready, still_whole g.D.Disk.is_honest g.D.Disk.state g.D.Disk.faults _ c.args.seat.now c.enter-side.new.seat c.enter-side.result c.enter-side.ensures c.leave.new.seat (record { core = c.settle-answer.new.self; start = c.enter-side.result.start }) c.args.who always (has_own g.D.Disk.is_honest g.D.Disk.state g.D.Disk.faults _ c.args.seat.now c.enter-side.new.seat c.enter-side.result c.enter-side.ensures c.args.who always c.requires.own c.requires.ready.1 tt) (settles g.D.Disk.is_honest g.D.Disk.state g.D.Disk.faults c.args.who c.enter-side.result (record { core = c.settle-answer.new.self; start = c.enter-side.result.start }) refl c.enter-side.ensures.stands g.D.Disk.remembers g.D.Disk.clock c.settle-answer.result (fresh_there g.D.Disk.is_honest g.D.Disk.state g.D.Disk.faults _ c.args.seat.now c.enter-side.new.seat c.enter-side.result c.enter-side.ensures c.args.who c.requires.own c.requires.serve) c.count_fits.ensures (record { log = c.settle-answer.ensures.log; same = c.settle-answer.ensures.same; cause = c.settle-answer.ensures.cause; ledger = c.settle-answer.ensures.ledger; untouched = c.settle-answer.ensures.untouched; done = c.settle-answer.ensures.done; failed = c.settle-answer.ensures.failed; any_moment = c.settle-answer.ensures.any_moment; long = c.settle-answer.ensures.long })) v)

pub returns-clause-settles : goal.returns-clause-settles
returns-clause-settles g c = record { before = c.enter-side.result; after = (record { core = c.settle-answer.new.self; start = c.enter-side.result.start }); visited = c.leave.ensures c.args.seat.now c.enter-side.result c.enter-side.ensures; does = (record { log = c.settle-answer.ensures.log; same = c.settle-answer.ensures.same; cause = c.settle-answer.ensures.cause; ledger = c.settle-answer.ensures.ledger; untouched = c.settle-answer.ensures.untouched; done = c.settle-answer.ensures.done; failed = c.settle-answer.ensures.failed; any_moment = c.settle-answer.ensures.any_moment; long = c.settle-answer.ensures.long }) }
