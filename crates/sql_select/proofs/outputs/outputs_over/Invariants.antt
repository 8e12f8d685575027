use Rattle.std.proofs.Common.{◌≡◌, drop}
use Rattle.sql_select.specs.Bound.{over}
use Rattle.sql_select.specs.Each.{each, onto}
use Rattle.sql_select.specs.declared.outputs.BoundOutput.{BoundOutput}
use Rattle.sql_select.proofs.outputs.outputs_over.Given as goal

abbrev pub invariant-loop-output : goal.invariant-loop-output
invariant-loop-output l =
    let f = λ (output : BoundOutput). over output l.rows in
    onto l.values.items (each f (drop l.output-index l.outputs)) ≡ each f l.outputs
