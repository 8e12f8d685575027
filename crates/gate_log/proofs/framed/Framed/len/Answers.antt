use Rattle.std.proofs.Common.{arith}
use Rattle.gate_log.proofs.Framing.{length-framed}
use Rattle.gate_log.proofs.framed.Framed.len.Goals as goal

pub overflow_sub-result : goal.overflow_sub-result
overflow_sub-result c = omega (arith, length-framed c.self.inside c.self.invariant, c.len.ensures)
