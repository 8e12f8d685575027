use Rattle.std.proofs.Common.{◌≡◌, ◌≤◌, drop, length, take}
use Rattle.sql_select.specs.Bound.{keeps}
use Rattle.tables.specs.Bound.{assigns, updated_by}
use Rattle.tables.specs.Fates.{rewritten}
use Rattle.tables.specs.Meaning.{reworked}
use Rattle.tables.specs.Reworked.{behind}
use Rattle.tables.proofs.changes.updated_rows.Given as goal

abbrev pub invariant-loop-row : goal.invariant-loop-row
invariant-loop-row l =
    let step = updated_by (keeps l.filter) (assigns l.assignments) in
    record {
      made : behind (rewritten l.fates.each (take l.row-index l.rows), l.fates.count) (reworked step (drop l.row-index l.rows)) ≡ reworked step l.rows;
      each : length l.fates.each ≡ l.row-index;
      count : l.fates.count ≤ l.row-index;
    }
