use Rattle.std.proofs.Common.{◌+◌, arith}
use Rattle.gate_log.specs.Bodies.{bodies_of}
use Rattle.gate_log.proofs.Framing.{length-records-split}
use Rattle.area_log.proofs.Records.{length-records-vec}
use Rattle.area_log.proofs.listing.records_bytes.Goals as goal

pub overflow_add-count-in-loop-body : goal.overflow_add-count-in-loop-body
overflow_add-count-in-loop-body c =
    let i = c.loop-body.body-index in
    omega (arith, length-records-vec c.args.bodies.now i c.body-item.result c.loop-body-test.true c.body-item.is, length-records-split (bodies_of c.args.bodies.now) (i + 1), c.requires, c.loop-body.invariant, c.len.ensures)

pub loop-body-preserved : goal.loop-body-preserved
loop-body-preserved c = omega (arith, length-records-vec c.args.bodies.now c.loop-body.body-index c.body-item.result c.loop-body-test.true c.body-item.is, c.loop-body.invariant, c.len.ensures)
