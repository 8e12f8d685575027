use Rattle.std.proofs.Common.{◌≡◌, [], drop}
use Rattle.evaluation.specs.Bound.{pushes_all}
use Rattle.evaluation.proofs.expression.run.Given as goal

abbrev pub invariant-loop-step : goal.invariant-loop-step
invariant-loop-step l = pushes_all l.row (drop l.step-index l.steps) l.stack ≡ pushes_all l.row l.steps []
