use Rattle.std.proofs.Common.{◌∙◌, [], ap}
use Rattle.sql_select.specs.Bound.{over}
use Rattle.sql_select.proofs.BoundOutputs.{aggregate-means}
use Rattle.sql_totals.proofs.Totalling.{aggregate-more, bound-more, over_more}
use Rattle.sql_totals.proofs.totals.bind_totals.Goals as goal

pub loop-output-preserved : goal.loop-output-preserved
loop-output-preserved c =
    let so_far = c.loop-output.invariant in
    let total = c.of_none.ensures in
    let gives = ap over total.0 ∙ aggregate-means c.args.scope.now c.args.snapshot c.in_ok-bound.bound c.in-Aggregate.aggregate c.in_ok-bound.ensures in
    rw c.in_ok-push.ensures.items
    (record {
      found = aggregate-more c.args.outputs.now c.loop-output.output-index c.output-item.result c.loop-output-test.true c.output-item.is c.in-Aggregate.aggregate c.in-Aggregate.is so_far.found;
      outputs = bound-more c.args.outputs.now c.loop-output.output-index c.output-item.result c.loop-output-test.true c.output-item.is c.in-Aggregate.aggregate c.in-Aggregate.is c.args.scope.now c.args.snapshot c.loop-output.totals.items c.of_none.result gives so_far.outputs;
      over = over_more [] c.loop-output.totals.items c.of_none.result so_far.over total.1;
    })
