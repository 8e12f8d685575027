use Rattle.std.proofs.Common.{length, ap, arith}
use Rattle.copy_queue.specs.Pending.{Pending}
use Rattle.copy_queue.proofs.Lengths.{kept}
use Rattle.copy_queue.proofs.queue.CopyQueue.keep.Goals as goal

pub returns : goal.returns
returns c =
    let old : Pending = c.args.self.now in
    let i = c.loop.invariant in
    kept c.loop.self old.first c.args.count c.loop.counter c.len-end.result old.images i.0 i.3 i.1 c.loop.auto.counter-end (λ lt. omega (arith, lt, c.loop-test.false)) (omega (arith, c.len-end.ensures, ap (λ (p : Pending). length p.images) c.self.view_is)) i.2
