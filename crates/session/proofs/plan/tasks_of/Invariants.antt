use Rattle.std.proofs.Common.{◌++◌, List}
use Rattle.session.specs.Plan.{AreTasks}
use Rattle.session.specs.declared.plan.Task.{Task}
use Rattle.session.proofs.plan.tasks_of.Given as goal

abbrev pub invariant-loop-item : goal.invariant-loop-item
invariant-loop-item l = (more : List Task) → AreTasks l.item-iterator.rest.items more → AreTasks l.fn.items (l.tasks ++ more)
