use Rattle.std.proofs.Common.{◌≡◌, [], drop}
use Rattle.evaluation.specs.Bound.{decides_all}
use Rattle.evaluation.proofs.condition.decide.Given as goal

abbrev pub invariant-loop-step : goal.invariant-loop-step
invariant-loop-step l = decides_all l.row (drop l.step-index l.steps) l.stack ≡ decides_all l.row l.steps []
