use Rattle.std.proofs.Common.{◌≡◌, ◌++◌, List, Option, drop, length}
use Rattle.sql_select.specs.Each.{onto}
use Rattle.values.specs.declared.value.Value.{Value}
use Rattle.rql.specs.Groups.{IsGroup}
use Rattle.rql.specs.Table.{row_of_group}
use Rattle.rql.specs.declared.function.Function.{Function}
use Rattle.rql.proofs.GroupRows.{row_from}
use Rattle.rql.proofs.groups.Group.finish.Given as goal

abbrev pub invariant-loop-cell : goal.invariant-loop-cell
invariant-loop-cell l = record {
  split : l.yielded ++ l.cell-iterator.rest.items ≡ l.fn.self.cells.items;
  rest : (functions : List (Option Function)) (rows : List (List Value)) → IsGroup functions l.fn.self rows
      → onto l.values.items (row_from (length l.yielded) (drop (length l.yielded) functions) rows) ≡ row_of_group functions rows;
}
