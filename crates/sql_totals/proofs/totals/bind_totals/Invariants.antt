use Rattle.std.proofs.Common.{◌≡◌, ◌++◌, [], drop, map}
use Rattle.std.specs.List.{AllByRecursion, list_all}
use Rattle.sql_tree.specs.declared.select.Output.{Output}
use Rattle.sql_tree.specs.Select.{is_aggregate}
use Rattle.sql_select.specs.Bound.{over}
use Rattle.sql_select.proofs.BoundOutputs.{means}
use Rattle.sql_totals.specs.Totals.{IsOver, output_of}
use Rattle.sql_totals.proofs.totals.bind_totals.Given as goal

abbrev pub invariant-loop-output : goal.invariant-loop-output
invariant-loop-output l =
    let aggregates = list_all (λ (output : Output). is_aggregate output.value) in
    record {
      found : aggregates (drop l.output-index l.outputs) ≡ aggregates l.outputs;
      outputs : map over (map output_of l.totals.items) ++ map (means l.scope l.snapshot) (drop l.output-index l.outputs) ≡ map (means l.scope l.snapshot) l.outputs;
      over : AllByRecursion (IsOver []) l.totals.items;
    }
