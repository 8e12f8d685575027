use Rattle.std.proofs.Common.{◌∙◌, [], map, refl, sym}
use Rattle.sql_totals.specs.Totals.{output_of}
use Rattle.sql_totals.proofs.Totalling.{outputs_are}
use Rattle.sql_totals.proofs.totals.Totals.bind.Goals as goal

pub returns-in-Some-clause-totals : goal.returns-in-Some-clause-totals
returns-in-Some-clause-totals c =
    let bound = rw c.in-Some.is at c.in_ok-totals.ensures.totals in
    let one_group = sym c.is_of_one_group.ensures ∙ c.if-not-is_of_one_group.false in
    record {
      one_group = one_group;
      filter = c.in_ok-filter.ensures;
      outputs = outputs_are c.args.scope.now c.args.snapshot c.args.select.now (map output_of c.in-Some.totals.items) one_group (rw c.outputs.ensures at bound.0);
      kept_rows = [];
      kept = refl;
      count = refl;
      over = bound.1;
    }
