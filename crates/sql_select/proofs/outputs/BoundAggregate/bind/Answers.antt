use Rattle.sql_select.proofs.BoundOutputs.{count-means, greatest-means, least-means, sum-means}
use Rattle.sql_select.proofs.outputs.BoundAggregate.bind.Goals as goal

pub returns-in_ok-of-in-Count : goal.returns-in_ok-of-in-Count
returns-in_ok-of-in-Count c = rw c.in-Count.is (count-means c.args.scope.now c.args.snapshot c.in_ok-of-in-Count.of c.in-Count.of c.in_ok-of-in-Count.ensures)

pub returns-in_ok-of-in-Sum : goal.returns-in_ok-of-in-Sum
returns-in_ok-of-in-Sum c = rw c.in-Sum.is (sum-means c.args.scope.now c.args.snapshot c.in_ok-of-in-Sum.of c.in-Sum.of c.in_ok-of-in-Sum.ensures)

pub returns-in_ok-of-in-Min : goal.returns-in_ok-of-in-Min
returns-in_ok-of-in-Min c = rw c.in-Min.is (least-means c.args.scope.now c.args.snapshot c.in_ok-of-in-Min.of c.in-Min.of c.in_ok-of-in-Min.ensures)

pub returns-in_ok-of-in-Max : goal.returns-in_ok-of-in-Max
returns-in_ok-of-in-Max c = rw c.in-Max.is (greatest-means c.args.scope.now c.args.snapshot c.in_ok-of-in-Max.of c.in-Max.of c.in_ok-of-in-Max.ensures)
