use Rattle.std.proofs.Common.{◌≡◌, ◌≤◌, drop, length, List}
use Rattle.std.specs.List.{AllByRecursion}
use Rattle.values.specs.declared.value.Value.{Value}
use Rattle.tables.specs.Meaning.{check_lengths}
use Rattle.tables.proofs.lengths.check_tuples.Given as goal

abbrev pub invariant-loop-row : goal.invariant-loop-row
invariant-loop-row l = (check_lengths (drop l.row-index l.rows) ≡ check_lengths l.rows) × AllByRecursion (λ (row : List Value). length row ≤ 16) (drop l.row-index l.rows)
