use Rattle.std.proofs.Common.{◌∙◌, refl, append_assoc, arith}
use Rattle.tables.proofs.Numbering.{numbered_more}
use Rattle.tables.proofs.contents.push_rows.Goals as goal

pub loop-tuple-preserved : goal.loop-tuple-preserved
loop-tuple-preserved c =
    let more = numbered_more c.args.next c.args.tuples.now c.loop-tuple.tuple-index c.tuple-item.result c.loop-tuple-test.true c.tuple-item.is in
    (c.in_ok-push.ensures.ok ∙ (rw (c.loop-tuple.invariant.0, c.loop-tuple.invariant.1, c.in_ok-copy.ensures, more, append_assoc) refl), omega arith)
