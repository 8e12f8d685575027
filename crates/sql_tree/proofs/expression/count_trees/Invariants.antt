use Rattle.std.proofs.Common.{◌≡◌, ◌≤◌, drop}
use Rattle.sql_tree.specs.Steps.{all_trees, trees_of}
use Rattle.sql_tree.proofs.expression.count_trees.Given as goal

abbrev pub invariant-loop-step : goal.invariant-loop-step
invariant-loop-step l = (all_trees (drop l.step-index l.steps) l.trees ≡ trees_of l.steps) × (l.trees ≤ l.step-index)
