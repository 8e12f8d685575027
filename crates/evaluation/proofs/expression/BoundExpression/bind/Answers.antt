use Rattle.std.proofs.Common.{◌∙◌, ap, map}
use Rattle.evaluation.specs.Bound.{bound_step}
use Rattle.evaluation.proofs.Binding.{value_bound}
use Rattle.evaluation.proofs.expression.BoundExpression.bind.Goals as goal

pub returns : goal.returns
returns c =
    let step = bound_step c.args.scope.now c.args.snapshot in
    value_bound (record { steps = c.in_ok-steps.steps }) c.args.scope.now c.args.snapshot c.args.expression.now (c.in_ok-steps.ensures ∙ ap (map step) c.steps.ensures)
