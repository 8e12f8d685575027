use Rattle.std.proofs.Common.{◌≡◌, [], drop}
use Rattle.sql_exec.specs.Bounds.{all_bounds}
use Rattle.sql_exec.proofs.bounds.bounds_left.Given as goal

abbrev pub invariant-loop-step : goal.invariant-loop-step
invariant-loop-step l = all_bounds l.scope l.column (drop l.step-index l.steps) l.stack ≡ all_bounds l.scope l.column l.steps []
