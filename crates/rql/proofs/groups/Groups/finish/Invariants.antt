use Rattle.std.proofs.Common.{◌≡◌, ◌++◌, List, Option, length}
use Rattle.sql_select.specs.Each.{onto}
use Rattle.values.specs.declared.value.Value.{Value}
use Rattle.rql.specs.Groups.{AreGroups}
use Rattle.rql.specs.Table.{table_rows}
use Rattle.rql.specs.declared.function.Function.{Function}
use Rattle.rql.proofs.GroupFolds.{table_from}
use Rattle.rql.proofs.groups.Groups.finish.Given as goal

abbrev pub invariant-loop-group : goal.invariant-loop-group
invariant-loop-group l = record {
  split : l.yielded ++ l.group-iterator.rest.items ≡ l.fn.self.groups.items;
  rest : (functions : List (Option Function)) (rows : List (List Value)) → AreGroups functions l.fn.self rows
      → onto l.rows.items (table_from functions (length l.yielded) rows) ≡ table_rows functions rows;
}
