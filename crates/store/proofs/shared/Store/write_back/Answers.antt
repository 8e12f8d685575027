use Rattle.std.proofs.Common.{refl}
use Rattle.store.specs.Seats.{always}
use Rattle.store.proofs.Entering.{has_own, may_give, still_whole}
use Rattle.store.proofs.Leaving.{whole_core}
use Rattle.store.proofs.Passing.{fresh_there, may_record}
use Rattle.store.proofs.Serving.{writes_back}
use Rattle.store.proofs.shared.Store.write_back.Goals as goal

pub write_back-answer-requires-clause-core : goal.write_back-answer-requires-clause-core
write_back-answer-requires-clause-core g c = whole_core g.D.Disk.is_honest g.D.Disk.state c.enter-side.result c.enter-side.ensures.stands

pub write_back-answer-requires-clause-place : goal.write_back-answer-requires-clause-place
write_back-answer-requires-clause-place g c = may_record g.D.Disk.is_honest g.D.Disk.state g.D.Disk.faults _ c.args.seat.now c.enter-side.new.seat c.enter-side.result c.enter-side.ensures c.args.who c.requires.own c.requires.serve

pub leave-requires : goal.leave-requires
leave-requires g c = may_give g.D.Disk.is_honest g.D.Disk.state g.D.Disk.faults _ c.args.seat.now c.enter-side.new.seat c.enter-side.result c.enter-side.ensures c.args.who always (record { core = c.write_back-answer.new.self; start = c.enter-side.result.start }) (has_own g.D.Disk.is_honest g.D.Disk.state g.D.Disk.faults _ c.args.seat.now c.enter-side.new.seat c.enter-side.result c.enter-side.ensures c.args.who always c.requires.own c.requires.ready.1 tt) (writes_back g.D.Disk.is_honest g.D.Disk.state g.D.Disk.faults c.args.who c.enter-side.result (record { core = c.write_back-answer.new.self; start = c.enter-side.result.start }) refl c.enter-side.ensures.stands g.D.Disk.remembers g.D.Disk.clock c.write_back-answer.result (fresh_there g.D.Disk.is_honest g.D.Disk.state g.D.Disk.faults _ c.args.seat.now c.enter-side.new.seat c.enter-side.result c.enter-side.ensures c.args.who c.requires.own c.requires.serve) c.count_fits.ensures (record { log = c.write_back-answer.ensures.log; same = c.write_back-answer.ensures.same; cause = c.write_back-answer.ensures.cause; ledger = c.write_back-answer.ensures.ledger; untouched = c.write_back-answer.ensures.untouched; done = c.write_back-answer.ensures.done; none = c.write_back-answer.ensures.none; failed = c.write_back-answer.ensures.failed; any_moment = c.write_back-answer.ensures.any_moment; long = c.write_back-answer.ensures.long }))

pub returns-clause-ready : goal.returns-clause-ready
returns-clause-ready g c =
    let v = c.leave.ensures c.args.seat.now c.enter-side.result c.enter-side.ensures in
    (v.ready, still_whole g.D.Disk.is_honest g.D.Disk.state g.D.Disk.faults _ c.args.seat.now c.enter-side.new.seat c.enter-side.result c.enter-side.ensures c.leave.new.seat (record { core = c.write_back-answer.new.self; start = c.enter-side.result.start }) c.args.who always (has_own g.D.Disk.is_honest g.D.Disk.state g.D.Disk.faults _ c.args.seat.now c.enter-side.new.seat c.enter-side.result c.enter-side.ensures c.args.who always c.requires.own c.requires.ready.1 tt) (writes_back g.D.Disk.is_honest g.D.Disk.state g.D.Disk.faults c.args.who c.enter-side.result (record { core = c.write_back-answer.new.self; start = c.enter-side.result.start }) refl c.enter-side.ensures.stands g.D.Disk.remembers g.D.Disk.clock c.write_back-answer.result (fresh_there g.D.Disk.is_honest g.D.Disk.state g.D.Disk.faults _ c.args.seat.now c.enter-side.new.seat c.enter-side.result c.enter-side.ensures c.args.who c.requires.own c.requires.serve) c.count_fits.ensures (record { log = c.write_back-answer.ensures.log; same = c.write_back-answer.ensures.same; cause = c.write_back-answer.ensures.cause; ledger = c.write_back-answer.ensures.ledger; untouched = c.write_back-answer.ensures.untouched; done = c.write_back-answer.ensures.done; none = c.write_back-answer.ensures.none; failed = c.write_back-answer.ensures.failed; any_moment = c.write_back-answer.ensures.any_moment; long = c.write_back-answer.ensures.long })) v)

pub returns-clause-writes : goal.returns-clause-writes
returns-clause-writes g c = record { before = c.enter-side.result; after = (record { core = c.write_back-answer.new.self; start = c.enter-side.result.start }); visited = c.leave.ensures c.args.seat.now c.enter-side.result c.enter-side.ensures; does = (record { log = c.write_back-answer.ensures.log; same = c.write_back-answer.ensures.same; cause = c.write_back-answer.ensures.cause; ledger = c.write_back-answer.ensures.ledger; untouched = c.write_back-answer.ensures.untouched; done = c.write_back-answer.ensures.done; none = c.write_back-answer.ensures.none; failed = c.write_back-answer.ensures.failed; any_moment = c.write_back-answer.ensures.any_moment; long = c.write_back-answer.ensures.long }) }
