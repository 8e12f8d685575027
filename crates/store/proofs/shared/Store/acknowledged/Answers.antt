use Rattle.std.proofs.Common.{◌∙◌, refl, subst, arith}
use Rattle.turn.specs.Seats.{held, mine}
use Rattle.store.specs.RoundCalls.{AckDoes}
use Rattle.store.proofs.Leaving.{whole_core}
use Rattle.store.proofs.Passing.{end_there}
use Rattle.store.proofs.Serving.{acks}
use Rattle.store.proofs.shared.Store.acknowledged.Goals as goal

pub ack-requires-clause-core : goal.ack-requires-clause-core
ack-requires-clause-core g c = whole_core g.D.Disk.is_honest g.D.Disk.state c.enter-side.result c.enter-side.ensures.stands

pub ack-requires-clause-there : goal.ack-requires-clause-there
ack-requires-clause-there g c = let e = end_there g.D.Disk.is_honest g.D.Disk.state g.D.Disk.faults _ c.args.seat.now c.enter-side.new.seat c.enter-side.result c.enter-side.ensures c.args.batch.now c.requires.batch in let r = c.requires.there.0 in let o = c.of.ensures in omega (arith, e, r, o)

pub leave-requires : goal.leave-requires
leave-requires g c = (
  c.args.seat.now,
  c.enter-side.result,
  c.enter-side.ensures,
  acks g.D.Disk.is_honest g.D.Disk.state g.D.Disk.faults c.enter-side.result (record { core = c.ack.new.self; start = c.enter-side.result.start }) refl c.enter-side.ensures.stands c.args.count
      (subst (λ n. AckDoes g.D.Disk.is_honest g.D.Disk.state n c.enter-side.result.core c.ack.new.self) c.of.ensures (record { ledger = c.ack.ensures.ledger; queue = c.ack.ensures.queue; done = c.ack.ensures.done })) (held c.enter-side.new.seat) (mine c.args.seat.now) c.enter-side.ensures.keeps c.enter-side.ensures.acked
      (let r = c.requires.there.1 in let u = c.enter-side.ensures.rises in omega (arith, r, u)),
)

pub returns : goal.returns
returns g c = record {
  acks = record {
    before = c.enter-side.result;
    after = record { core = c.ack.new.self; start = c.enter-side.result.start };
    visited = c.leave.ensures c.args.seat.now c.enter-side.result c.enter-side.ensures;
    does = subst (λ n. AckDoes g.D.Disk.is_honest g.D.Disk.state n c.enter-side.result.core c.ack.new.self) (c.of.ensures ∙ c.requires.there.0) (record { ledger = c.ack.ensures.ledger; queue = c.ack.ensures.queue; done = c.ack.ensures.done });
  };
}
