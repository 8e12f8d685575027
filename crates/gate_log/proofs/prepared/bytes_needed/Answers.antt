use Rattle.std.proofs.Common.{◌+◌, ◌^◌, inl, inr, arith}
use Rattle.std.proofs.lemmas.Bool.{cases_lt}
use Rattle.gate_log.proofs.Framing.{length-records-next, length-records-split}
use Rattle.gate_log.proofs.prepared.bytes_needed.Goals as goal

pub returns-in_default : goal.returns-in_default
returns-in_default c =
    let bodies = c.args.bodies.now in
    let i = c.loop-framed.framed-index in
    elim (cases_lt (c.loop-framed.needed + (c.len.result + 5)) (2 ^ 64)) [
      | inl less ↦ absurd (c.in_default.ensures less)
      | inr more ↦ omega (arith, more, length-records-next bodies i c.framed-item.result c.loop-framed-test.true c.framed-item.is, length-records-split bodies (i + 1), c.loop-framed.invariant, c.len.ensures.same)
    ]

pub loop-framed-preserved : goal.loop-framed-preserved
loop-framed-preserved c =
    omega (arith, length-records-next c.args.bodies.now c.loop-framed.framed-index c.framed-item.result c.loop-framed-test.true c.framed-item.is, c.loop-framed.invariant, c.len.ensures.same)
