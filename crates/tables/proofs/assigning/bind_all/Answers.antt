use Rattle.tables.proofs.BoundAssigning.{more_parts, part_same}
use Rattle.tables.proofs.assigning.bind_all.Goals as goal

pub loop-assignment-preserved : goal.loop-assignment-preserved
loop-assignment-preserved c =
    let table = c.args.table.now in
    let a = c.assignment-item.result in
    let value = c.in_ok-value.value in
    let place = c.column_place-place.result in
    rw c.in_ok-push.ensures.items
    (more_parts table c.args.snapshot c.loop-assignment.bound.items (record { place = place; value = value }) c.args.assignments.now c.loop-assignment.assignment-index a c.loop-assignment-test.true c.assignment-item.is
    (part_same table c.args.snapshot value place a c.of_one-scope.result c.as_slice-columns.result.now c.of_one-scope.ensures c.as_slice-columns.ensures c.in_ok-value.ensures c.column_place-place.ensures.place) c.loop-assignment.invariant)
