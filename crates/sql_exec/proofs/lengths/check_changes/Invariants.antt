use Rattle.std.proofs.Common.{◌≡◌, drop, take}
use Rattle.std.specs.List.{AllByRecursion}
use Rattle.row_codec.specs.RowCode.{IsRow}
use Rattle.tables.specs.Meaning.{check_lengths}
use Rattle.sql_exec.specs.Running.{IsOfWidth, values_of}
use Rattle.sql_exec.proofs.lengths.check_changes.Given as goal

abbrev pub invariant-loop-change : goal.invariant-loop-change
invariant-loop-change l = record {
  rest : check_lengths (values_of (drop l.change-index l.changes)) ≡ check_lengths (values_of l.changes);
  wide : AllByRecursion IsOfWidth (values_of (drop l.change-index l.changes));
  lawful : AllByRecursion IsRow (values_of (take l.change-index l.changes));
}
