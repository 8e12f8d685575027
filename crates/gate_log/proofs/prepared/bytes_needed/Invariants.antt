use Rattle.std.proofs.Common.{◌≡◌, ◌+◌, length, take}
use Rattle.retro_base.specs.Framing.{records_of}
use Rattle.gate_log.proofs.prepared.bytes_needed.Given as goal

abbrev pub invariant-loop-framed : goal.invariant-loop-framed
invariant-loop-framed l = l.needed ≡ length (records_of (take l.framed-index l.bodies)) + 1
