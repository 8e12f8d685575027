use Rattle.std.proofs.Common.{◌<◌, refl}
use Rattle.turn.specs.Faults.{fault_times}
use Rattle.store.proofs.Entering.{has_own, may_give, still_whole}
use Rattle.store.proofs.Leaving.{whole_core}
use Rattle.store.proofs.Passing.{closes_there, fault_there, fresh_there}
use Rattle.store.proofs.Serving.{notes}
use Rattle.store.proofs.shared.Store.noted.Goals as goal

pub note-requires-clause-core : goal.note-requires-clause-core
note-requires-clause-core g c = whole_core g.D.Disk.is_honest g.D.Disk.state c.enter-side.result c.enter-side.ensures.stands

pub note-requires-clause-place : goal.note-requires-clause-place
note-requires-clause-place g c = fault_there g.D.Disk.is_honest g.D.Disk.state g.D.Disk.faults _ c.args.seat.now c.enter-side.new.seat c.enter-side.result c.enter-side.ensures c.args.who c.requires.own c.requires.serve

pub note-requires-clause-closes : goal.note-requires-clause-closes
note-requires-clause-closes g c = closes_there g.D.Disk.is_honest g.D.Disk.state g.D.Disk.faults _ c.args.seat.now c.enter-side.new.seat c.enter-side.result c.enter-side.ensures c.args.who c.requires.own c.requires.serve c.args.device c.args.count

pub leave-requires : goal.leave-requires
leave-requires g c = may_give g.D.Disk.is_honest g.D.Disk.state g.D.Disk.faults _ c.args.seat.now c.enter-side.new.seat c.enter-side.result c.enter-side.ensures c.args.who (λ fs. 0 < fault_times c.args.device c.args.count fs) (record { core = c.note.new.self; start = c.enter-side.result.start }) (has_own g.D.Disk.is_honest g.D.Disk.state g.D.Disk.faults _ c.args.seat.now c.enter-side.new.seat c.enter-side.result c.enter-side.ensures c.args.who (λ fs. 0 < fault_times c.args.device c.args.count fs) c.requires.own c.requires.ready.1 c.requires.told) (notes g.D.Disk.is_honest g.D.Disk.state g.D.Disk.faults c.args.who c.enter-side.result (record { core = c.note.new.self; start = c.enter-side.result.start }) refl c.enter-side.ensures.stands c.args.device c.args.count (fresh_there g.D.Disk.is_honest g.D.Disk.state g.D.Disk.faults _ c.args.seat.now c.enter-side.new.seat c.enter-side.result c.enter-side.ensures c.args.who c.requires.own c.requires.serve) (record { log = c.note.ensures.log; file = c.note.ensures.file; ledger = c.note.ensures.ledger; stops = c.note.ensures.stops; quiet = c.note.ensures.quiet }))

pub returns-clause-ready : goal.returns-clause-ready
returns-clause-ready g c =
    let v = c.leave.ensures c.args.seat.now c.enter-side.result c.enter-side.ensures in
    (v.ready, still_whole g.D.Disk.is_honest g.D.Disk.state g.D.Disk.faults _ c.args.seat.now c.enter-side.new.seat c.enter-side.result c.enter-side.ensures c.leave.new.seat (record { core = c.note.new.self; start = c.enter-side.result.start }) c.args.who (λ fs. 0 < fault_times c.args.device c.args.count fs) (has_own g.D.Disk.is_honest g.D.Disk.state g.D.Disk.faults _ c.args.seat.now c.enter-side.new.seat c.enter-side.result c.enter-side.ensures c.args.who (λ fs. 0 < fault_times c.args.device c.args.count fs) c.requires.own c.requires.ready.1 c.requires.told) (notes g.D.Disk.is_honest g.D.Disk.state g.D.Disk.faults c.args.who c.enter-side.result (record { core = c.note.new.self; start = c.enter-side.result.start }) refl c.enter-side.ensures.stands c.args.device c.args.count (fresh_there g.D.Disk.is_honest g.D.Disk.state g.D.Disk.faults _ c.args.seat.now c.enter-side.new.seat c.enter-side.result c.enter-side.ensures c.args.who c.requires.own c.requires.serve) (record { log = c.note.ensures.log; file = c.note.ensures.file; ledger = c.note.ensures.ledger; stops = c.note.ensures.stops; quiet = c.note.ensures.quiet })) v)

pub returns-clause-notes : goal.returns-clause-notes
returns-clause-notes g c = record {
  before = c.enter-side.result;
  after = record { core = c.note.new.self; start = c.enter-side.result.start };
  visited = c.leave.ensures c.args.seat.now c.enter-side.result c.enter-side.ensures;
  does = (record { log = c.note.ensures.log; file = c.note.ensures.file; ledger = c.note.ensures.ledger; stops = c.note.ensures.stops; quiet = c.note.ensures.quiet });
}
