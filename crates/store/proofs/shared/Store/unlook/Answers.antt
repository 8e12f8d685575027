use Rattle.std.proofs.Common.{refl}
use Rattle.store.specs.Seats.{EndingIsTold}
use Rattle.store.proofs.Entering.{has_own, looking_there, may_give, still_whole}
use Rattle.store.proofs.Calling.{unlooks}
use Rattle.store.proofs.Leaving.{whole_core}
use Rattle.store.proofs.Working.{closed_none}
use Rattle.store.proofs.shared.Store.unlook.Goals as goal

pub unlook-requires-clause-core : goal.unlook-requires-clause-core
unlook-requires-clause-core g c = whole_core g.D.Disk.is_honest g.D.Disk.state c.enter-side.result c.enter-side.ensures.stands

pub unlook-requires-clause-is_looking : goal.unlook-requires-clause-is_looking
unlook-requires-clause-is_looking g c = looking_there g.D.Disk.is_honest g.D.Disk.state g.D.Disk.faults _ c.args.seat.now c.enter-side.new.seat c.enter-side.result c.enter-side.ensures c.args.who c.requires.own c.requires.is_looking

pub leave-requires : goal.leave-requires
leave-requires g c = may_give g.D.Disk.is_honest g.D.Disk.state g.D.Disk.faults _ c.args.seat.now c.enter-side.new.seat c.enter-side.result c.enter-side.ensures c.args.who (EndingIsTold c.args.why) (record { core = c.unlook.new.self; start = c.enter-side.result.start }) (has_own g.D.Disk.is_honest g.D.Disk.state g.D.Disk.faults _ c.args.seat.now c.enter-side.new.seat c.enter-side.result c.enter-side.ensures c.args.who (EndingIsTold c.args.why) c.requires.own c.requires.ready.1 c.requires.told) (unlooks g.D.Disk.is_honest g.D.Disk.state g.D.Disk.faults c.args.who c.enter-side.result (record { core = c.unlook.new.self; start = c.enter-side.result.start }) refl c.enter-side.ensures.stands c.args.why (record { desk = c.unlook.ensures.desk; closed = c.unlook.ensures.closed; stays = c.unlook.ensures.core }))

pub returns-clause-ready : goal.returns-clause-ready
returns-clause-ready g c =
    let v = (c.leave.ensures c.args.seat.now c.enter-side.result c.enter-side.ensures) in
    (v.ready, still_whole g.D.Disk.is_honest g.D.Disk.state g.D.Disk.faults _ c.args.seat.now c.enter-side.new.seat c.enter-side.result c.enter-side.ensures c.leave.new.seat (record { core = c.unlook.new.self; start = c.enter-side.result.start }) c.args.who (EndingIsTold c.args.why) (has_own g.D.Disk.is_honest g.D.Disk.state g.D.Disk.faults _ c.args.seat.now c.enter-side.new.seat c.enter-side.result c.enter-side.ensures c.args.who (EndingIsTold c.args.why) c.requires.own c.requires.ready.1 c.requires.told) (unlooks g.D.Disk.is_honest g.D.Disk.state g.D.Disk.faults c.args.who c.enter-side.result (record { core = c.unlook.new.self; start = c.enter-side.result.start }) refl c.enter-side.ensures.stands c.args.why (record { desk = c.unlook.ensures.desk; closed = c.unlook.ensures.closed; stays = c.unlook.ensures.core })) v)

pub returns-clause-visits : goal.returns-clause-visits
returns-clause-visits g c = record { before = c.enter-side.result; after = record { core = c.unlook.new.self; start = c.enter-side.result.start }; visited = (c.leave.ensures c.args.seat.now c.enter-side.result c.enter-side.ensures); does = (record { desk = c.unlook.ensures.desk; closed = c.unlook.ensures.closed; stays = c.unlook.ensures.core }) }

pub returns-clause-ended : goal.returns-clause-ended
returns-clause-ended g c = closed_none g.D.Disk.is_honest g.D.Disk.state g.D.Disk.faults _ c.args.seat.now c.leave.new.seat c.enter-side.result (record { core = c.unlook.new.self; start = c.enter-side.result.start }) (c.leave.ensures c.args.seat.now c.enter-side.result c.enter-side.ensures) c.args.who c.requires.own _ c.unlook.ensures.closed

pub returns-clause-same : goal.returns-clause-same
returns-clause-same g c = (c.leave.ensures c.args.seat.now c.enter-side.result c.enter-side.ensures).same
