use Rattle.std.proofs.Common.{◌≡◌, ◌++◌, drop, map}
use Rattle.sql_select.specs.Bound.{over}
use Rattle.sql_select.proofs.BoundOutputs.{means}
use Rattle.sql_select.proofs.outputs.bind_outputs.Given as goal

abbrev pub invariant-loop-output : goal.invariant-loop-output
invariant-loop-output l = map over l.bound.items ++ map (means l.scope l.snapshot) (drop l.output-index l.outputs) ≡ map (means l.scope l.snapshot) l.outputs
