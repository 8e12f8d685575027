use Rattle.sql_select.proofs.BoundOutputs.{aggregate-means, value-means}
use Rattle.sql_select.proofs.outputs.BoundOutput.bind.Goals as goal

pub returns-in_ok-of-in-Expression : goal.returns-in_ok-of-in-Expression
returns-in_ok-of-in-Expression c = rw c.in-Expression.is (value-means c.args.scope.now c.args.snapshot c.in_ok-of-in-Expression.of c.in-Expression.of c.in_ok-of-in-Expression.ensures)

pub returns-in_ok-of-in-Aggregate : goal.returns-in_ok-of-in-Aggregate
returns-in_ok-of-in-Aggregate c = rw c.in-Aggregate.is (aggregate-means c.args.scope.now c.args.snapshot c.in_ok-of-in-Aggregate.of c.in-Aggregate.of c.in_ok-of-in-Aggregate.ensures)
