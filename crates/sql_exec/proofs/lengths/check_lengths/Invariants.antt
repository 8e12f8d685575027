use Rattle.std.proofs.Common.{◌≡◌, drop, take}
use Rattle.std.specs.List.{AllByRecursion}
use Rattle.row_codec.specs.RowCode.{IsRow}
use Rattle.tables.specs.Meaning.{check_lengths}
use Rattle.sql_exec.specs.Running.{IsOfWidth}
use Rattle.sql_exec.proofs.lengths.check_lengths.Given as goal

abbrev pub invariant-loop-row : goal.invariant-loop-row
invariant-loop-row l = record {
  rest : check_lengths (drop l.row-index l.rows) ≡ check_lengths l.rows;
  wide : AllByRecursion IsOfWidth (drop l.row-index l.rows);
  lawful : AllByRecursion IsRow (take l.row-index l.rows);
}
