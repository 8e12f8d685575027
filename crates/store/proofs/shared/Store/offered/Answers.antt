use Rattle.std.proofs.Common.{refl, arith}
use Rattle.store.proofs.Meeting.{gives_same}
use Rattle.store.proofs.Passing.{no_length, offered_at}
use Rattle.store.proofs.shared.Store.offered.Goals as goal

pub leave-requires : goal.leave-requires
leave-requires g c = gives_same g.D.Disk.is_honest g.D.Disk.state g.D.Disk.faults _ c.args.seat.now c.enter-side.new.seat c.enter-side.result c.enter-side.ensures

pub returns-then-pending-eq0-clause-asks : goal.returns-then-pending-eq0-clause-asks
returns-then-pending-eq0-clause-asks g c = record {
  before = c.enter-side.result;
  after = c.enter-side.result;
  visited = c.leave.ensures c.args.seat.now c.enter-side.result c.enter-side.ensures;
  does = record { same = refl; offered = λ e. absurd (cc e); none = λ e. (no_length c.enter-side.result.core.desk.queue.images (let p = c.pending.ensures in let z = c.if-pending-eq0.true in omega (arith, p, z)), refl) };
}

pub leave-requires-2 : goal.leave-requires-2
leave-requires-2 g c = gives_same g.D.Disk.is_honest g.D.Disk.state g.D.Disk.faults _ c.args.seat.now c.enter-side.new.seat c.enter-side.result c.enter-side.ensures

pub returns-clause-asks : goal.returns-clause-asks
returns-clause-asks g c = record {
  before = c.enter-side.result;
  after = c.enter-side.result;
  visited = c.leave-2.ensures c.args.seat.now c.enter-side.result c.enter-side.ensures;
  does = record { same = refl; offered = c.next_batch-some.ensures.some; none = c.next_batch-some.ensures.none };
}

pub returns-clause-batch : goal.returns-clause-batch
returns-clause-batch g c = λ is.
    let v = c.leave-2.ensures c.args.seat.now c.enter-side.result c.enter-side.ensures in
    offered_at g.D.Disk.is_honest g.D.Disk.state g.D.Disk.faults _ c.args.seat.now c.leave-2.new.seat c.enter-side.result v (let p = c.pending.ensures in let z = c.if-pending-eq0.false in omega (arith, p, z)) v.seen c.next_batch-some.new.batch (c.next_batch-some.ensures.some is)
