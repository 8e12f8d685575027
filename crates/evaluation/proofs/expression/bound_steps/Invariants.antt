use Rattle.std.proofs.Common.{◌≡◌, ◌++◌, drop, map}
use Rattle.evaluation.specs.Bound.{bound_step}
use Rattle.evaluation.proofs.expression.bound_steps.Given as goal

abbrev pub invariant-loop-step : goal.invariant-loop-step
invariant-loop-step l = l.bound.items ++ map (bound_step l.scope l.snapshot) (drop l.step-index l.steps) ≡ map (bound_step l.scope l.snapshot) l.steps
