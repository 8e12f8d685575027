use Rattle.std.proofs.Common.{◌≡◌, ◌<◌, ◌++◌, length}
use Rattle.gate_log.specs.Bodies.{bodies_of}
use Rattle.retro_base.specs.Framing.{records_of, AreBodies}
use Rattle.gate_log.proofs.records.read_records.Given as goal

abbrev pub invariant-loop-rest : goal.invariant-loop-rest
invariant-loop-rest l = record {
  split : l.records ≡ records_of (bodies_of l.bodies.items) ++ l.rest;
  some : 0 < length l.rest;
  short : AreBodies (bodies_of l.bodies.items);
}

abbrev pub decreases-loop-rest : goal.decreases-loop-rest
decreases-loop-rest l = length l.rest
