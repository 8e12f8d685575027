use Rattle.sql_select.proofs.BoundOutputs.{more_means}
use Rattle.sql_select.proofs.outputs.bind_outputs.Goals as goal

pub loop-output-preserved : goal.loop-output-preserved
loop-output-preserved c =
    rw c.in_ok-push.ensures.items
    (more_means c.args.scope.now c.args.snapshot c.loop-output.bound.items c.in_ok-bind.field-0 c.args.outputs.now c.loop-output.output-index c.output-item.result c.loop-output-test.true c.output-item.is c.in_ok-bind.ensures c.loop-output.invariant)
