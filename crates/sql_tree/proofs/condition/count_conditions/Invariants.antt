use Rattle.std.proofs.Common.{◌≡◌, ◌≤◌, drop}
use Rattle.sql_tree.specs.Steps.{all_conditions, conditions_of}
use Rattle.sql_tree.proofs.condition.count_conditions.Given as goal

abbrev pub invariant-loop-step : goal.invariant-loop-step
invariant-loop-step l = (all_conditions (drop l.step-index l.steps) l.conditions ≡ conditions_of l.steps) × (l.conditions ≤ l.step-index)
