use Rattle.std.proofs.Common.{take}
use Rattle.std.specs.List.{AllByRecursion}
use Rattle.values.specs.Name.{IsName}
use Rattle.sql_tree.specs.declared.statement.Column.{Column}
use Rattle.sql_exec.proofs.making.read_names.Given as goal

abbrev pub invariant-loop-column : goal.invariant-loop-column
invariant-loop-column l = AllByRecursion (λ (column : Column). IsName column.name) (take l.column-index l.column-items)
