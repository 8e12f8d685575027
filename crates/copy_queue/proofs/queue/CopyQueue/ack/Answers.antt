use Rattle.std.proofs.Common.{◌∙◌, ◌+◌, ◌-◌, length, ap, arith}
use Rattle.std.proofs.lemmas.List.{length-drop}
use Rattle.copy_queue.specs.Pending.{Pending}
use Rattle.copy_queue.proofs.Lengths.{acked, after_one}
use Rattle.copy_queue.proofs.queue.CopyQueue.ack.Goals as goal

pub let_go-requires : goal.let_go-requires
let_go-requires c =
    let old : Pending = c.args.self.now in
    let i = c.loop.invariant in
    omega (arith, ap length i.3, length-drop (c.loop.counter - old.first) old.images, i.1, c.requires, c.loop-test.true)

pub loop-preserved : goal.loop-preserved
loop-preserved c =
    let old : Pending = c.args.self.now in
    let i = c.loop.invariant in
    let first = ap (λ (p : Pending). p.first) c.let_go.ensures in
    let images = ap (λ (p : Pending). p.images) c.let_go.ensures in
    (omega (arith, first, i.0), omega (arith, i.1), omega (arith, i.2, c.loop-test.true), images ∙ after_one (c.loop.counter - old.first) (c.loop.counter + 1 - old.first) old.images c.loop.self.images i.3 (omega (arith, i.1)))

pub returns : goal.returns
returns c =
    let old : Pending = c.args.self.now in
    let i = c.loop.invariant in
    acked c.loop.self old.first c.args.count c.loop.counter old.images i.0 i.1 i.2 i.3 (λ lt. omega (arith, lt, c.loop-test.false))
