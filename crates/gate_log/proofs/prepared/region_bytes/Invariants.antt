use Rattle.std.proofs.Common.{◌≡◌, ◌++◌, take, replicate}
use Rattle.retro_base.specs.Fields.{field_bytes}
use Rattle.retro_base.specs.Framing.{records_of, AreBodies}
use Rattle.gate_log.proofs.prepared.region_bytes.Given as goal

abbrev pub invariant-loop-framed : goal.invariant-loop-framed
invariant-loop-framed l = record {
  written : l.bytes.items ≡ (replicate 7 0 ++ field_bytes 8 l.generation) ++ records_of (take l.framed-index l.bodies);
  short : AreBodies (take l.framed-index l.bodies);
}
