use Rattle.std.proofs.Common.{◌≡◌, ◌++◌, map}
use Rattle.rql.specs.Table.{column_in}
use Rattle.rql.proofs.table.columns_in.Given as goal

abbrev pub invariant-loop-column : goal.invariant-loop-column
invariant-loop-column l = l.found.items ++ map (column_in l.pairs) l.column-iterator.rest.items ≡ map (column_in l.pairs) l.fn.columns
