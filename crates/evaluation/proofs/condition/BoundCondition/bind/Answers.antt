use Rattle.std.proofs.Common.{◌∙◌, ap, map}
use Rattle.evaluation.specs.Bound.{bound_condition_step}
use Rattle.evaluation.proofs.Binding.{truth_bound}
use Rattle.evaluation.proofs.condition.BoundCondition.bind.Goals as goal

pub returns : goal.returns
returns c =
    let step = bound_condition_step c.args.scope.now c.args.snapshot in
    truth_bound (record { steps = c.in_ok-steps.steps }) c.args.scope.now c.args.snapshot c.args.condition.now (c.in_ok-steps.ensures ∙ ap (map step) c.steps.ensures)
