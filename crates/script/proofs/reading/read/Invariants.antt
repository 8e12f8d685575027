use Rattle.std.proofs.Common.{length}
use Rattle.script.proofs.ReadLaws.{HasRead}
use Rattle.script.proofs.reading.read.Given as goal

abbrev pub invariant-loop-rest : goal.invariant-loop-rest
invariant-loop-rest l = HasRead l.bytes l.rest l.number l.draft

abbrev pub decreases-loop-rest : goal.decreases-loop-rest
decreases-loop-rest l = length l.rest
