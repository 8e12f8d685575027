use Rattle.tables.proofs.BoundAssigning.{assigns-is}
use Rattle.tables.proofs.assigning.BoundAssignments.bind.Goals as goal

pub returns : goal.returns
returns c = assigns-is c.args.table.now c.args.snapshot (record { assignments = c.in_ok-assignments.assignments }) c.args.assignments.now c.in_ok-assignments.ensures
