-- What each action puts together of the last parts.
use Rattle.std.specs.Prelude.{◌≡◌, ◌++◌, ℕ, ℤ, pos, true, false, Option, Some, None, List, [], ◌∷◌, neg_ℤ, unsigned_abs}
use Rattle.values.specs.declared.value.Value.{Value}
use Rattle.values.specs.declared.value.Value.TheVariants as value
use Rattle.sql_tree.specs.declared.condition.Operand.TheVariants as operand
use Rattle.sql_tree.specs.declared.name.ColumnName.{ColumnName}
use Rattle.sql_tree.specs.declared.select.Aggregate.TheVariants as aggregate
use Rattle.sql_tree.specs.declared.select.Direction.{Direction}
use Rattle.sql_tree.specs.declared.select.OutputValue.TheVariants as output_value
use Rattle.sql_tree.specs.declared.select.Select.{Select}
use Rattle.sql_tree.specs.declared.select.SelectList.{SelectList}
use Rattle.sql_tree.specs.declared.select.SelectList.TheVariants as list
use Rattle.sql_tree.specs.declared.statement.Assignment.{Assignment}
use Rattle.sql_tree.specs.declared.statement.Column.{Column}
use Rattle.sql_tree.specs.declared.statement.CreateTable.{CreateTable}
use Rattle.sql_tree.specs.declared.statement.Insert.{Insert}
use Rattle.sql_tree.specs.declared.statement.Statement.{Statement}
use Rattle.sql_tree.specs.declared.statement.Statement.TheVariants as statement
use Rattle.sql_tree.specs.declared.statement.Update.{Update}
use Rattle.sql_tree.specs.Condition.{ConditionTree}
use Rattle.sql_parts.specs.declared.action.LineAction.{LineAction}
use Rattle.sql_parts.specs.declared.action.LineAction.TheVariants as line_action
use Rattle.sql_parts.specs.declared.action.ListAction.{ListAction}
use Rattle.sql_parts.specs.declared.action.ListAction.TheVariants as list_action
use Rattle.sql_parts.specs.declared.action.OutputAction.{OutputAction}
use Rattle.sql_parts.specs.declared.action.OutputAction.TheVariants as output_action
use Rattle.sql_parts.specs.declared.action.QueryAction.{QueryAction}
use Rattle.sql_parts.specs.declared.action.QueryAction.TheVariants as query_action
use Rattle.sql_parts.specs.declared.action.RowAction.{RowAction}
use Rattle.sql_parts.specs.declared.action.RowAction.TheVariants as row_action
use Rattle.sql_parts.specs.declared.action.TableAction.{TableAction}
use Rattle.sql_parts.specs.declared.action.TableAction.TheVariants as table_action
use Rattle.sql_parts.specs.declared.action.TermAction.{TermAction}
use Rattle.sql_parts.specs.declared.action.TermAction.TheVariants as term_action
use Rattle.sql_parts.specs.declared.action.UpdateAction.{UpdateAction}
use Rattle.sql_parts.specs.declared.action.UpdateAction.TheVariants as update_action
use Rattle.sql_parts.specs.declared.part.Part.{Part}
use Rattle.sql_parts.specs.declared.part.Part.TheVariants as part
use Rattle.sql_parts.specs.declared.parsed.Mechanism.{Mechanism}
use Rattle.sql_parts.specs.declared.parsed.Mechanism.TheVariants as mechanism
use Rattle.sql_parts.specs.declared.parsed.Parsed.TheVariants as parsed
use Rattle.sql_parts.specs.Taking.{◌>>=◌, a_column, a_column_name, a_condition, a_create_table, a_literal}
use Rattle.sql_parts.specs.Taking.{a_name, a_number, a_query, a_row, a_text, an_argument, an_assignment}
use Rattle.sql_parts.specs.Taking.{an_expression, an_insert, an_output, an_output_value, an_update, done, outputs}

-- the part is what is put together, above those that are left, or nothing is
abbrev pub Makes : Option Part → List Part → Option (List Part) → Type 0
Makes None rest made = made ≡ None
Makes (Some part) rest made = made ≡ Some (part ∷ rest)

-- the number behind a minus; the digits of a line have no sign of their own
abbrev pub negative : ℤ → ℤ
negative number = neg_ℤ (pos (unsigned_abs number))

abbrev pub plain : Statement → Part
plain s = part.Parsed (parsed.Plain s)

-- literals, columns and operands
abbrev pub term : TermAction → List Part → Option (List Part)
term term_action.Integer = do
  n ← a_number
  done (part.Literal (value.Int n))
term term_action.Negative = do
  n ← a_number
  done (part.Literal (value.Int (negative n)))
term term_action.Text = do
  t ← a_text
  done (part.Literal (value.Text t))
term term_action.PlainColumn = do
  c ← a_name
  done (part.ColumnName (record { table = None; column = c }))
term term_action.QualifiedColumn = do
  c ← a_name
  t ← a_name
  done (part.ColumnName (record { table = Some t; column = c }))
term term_action.LiteralOperand = do
  v ← a_literal
  done (part.Operand (operand.Literal v))
term term_action.ColumnOperand = do
  c ← a_column_name
  done (part.Operand (operand.Column c))
term term_action.CurrentSnapshot = done (part.Operand operand.CurrentSnapshot)

abbrev pub with_column : Column → CreateTable → CreateTable
with_column c t = record { table = t.table; columns = t.columns ++ c ∷ [] }

-- CREATE TABLE and CREATE INDEX
abbrev pub table : TableAction → List Part → Option (List Part)
table (table_action.Column k) = do
  n ← a_name
  done (part.Column (record { name = n; kind = k }))
table table_action.CreateTable = do
  c ← a_column
  t ← a_name
  done (part.CreateTable (record { table = t; columns = c ∷ [] }))
table table_action.NextColumn = do
  c ← a_column
  t ← a_create_table
  done (part.CreateTable (with_column c t))
table table_action.Finish = do
  t ← a_create_table
  done (plain (statement.CreateTable t))
table table_action.CreateIndex = do
  c ← a_name
  t ← a_name
  i ← a_name
  done (plain (statement.CreateIndex (record { index = i; table = t; column = c })))

abbrev pub with_tuple : List Value → Insert → Insert
with_tuple row i = record { table = i.table; tuples = i.tuples ++ row ∷ [] }

-- INSERT
abbrev pub row : RowAction → List Part → Option (List Part)
row row_action.FirstValue = do
  v ← a_literal
  done (part.Row (v ∷ []))
row row_action.NextValue = do
  v ← a_literal
  vs ← a_row
  done (part.Row (vs ++ v ∷ []))
row row_action.Insert = do
  vs ← a_row
  t ← a_name
  done (part.Insert (record { table = t; tuples = vs ∷ [] }))
row row_action.NextTuple = do
  vs ← a_row
  i ← an_insert
  done (part.Insert (with_tuple vs i))
row row_action.Finish = do
  i ← an_insert
  done (plain (statement.Insert i))

abbrev pub with_assignment : Assignment → Update → Update
with_assignment a u = record { table = u.table; assignments = u.assignments ++ a ∷ []; condition = u.condition }

abbrev pub where_condition : Option ConditionTree → Update → Update
where_condition c u = record { table = u.table; assignments = u.assignments; condition = c }

-- UPDATE and DELETE
abbrev pub update : UpdateAction → List Part → Option (List Part)
update update_action.Assign = do
  e ← an_expression
  c ← a_name
  done (part.Assignment (record { column = c; value = e }))
update update_action.Update = do
  a ← an_assignment
  t ← a_name
  done (part.Update (record { table = t; assignments = a ∷ []; condition = None }))
update update_action.NextAssignment = do
  a ← an_assignment
  u ← an_update
  done (part.Update (with_assignment a u))
update update_action.Finish = do
  c ← a_condition
  u ← an_update
  done (plain (statement.Update (where_condition c u)))
update update_action.Delete = do
  c ← a_condition
  t ← a_name
  done (plain (statement.Delete (record { table = t; condition = c })))

-- the outputs of a select
abbrev pub output : OutputAction → List Part → Option (List Part)
output output_action.Value = do
  e ← an_expression
  done (part.OutputValue (output_value.Expression e))
output output_action.CountRows = done (part.OutputValue (output_value.Aggregate aggregate.CountRows))
output output_action.Count = do
  e ← an_expression
  done (part.OutputValue (output_value.Aggregate (aggregate.Count e)))
output output_action.Sum = do
  e ← an_expression
  done (part.OutputValue (output_value.Aggregate (aggregate.Sum e)))
output output_action.Min = do
  e ← an_expression
  done (part.OutputValue (output_value.Aggregate (aggregate.Min e)))
output output_action.Max = do
  e ← an_expression
  done (part.OutputValue (output_value.Aggregate (aggregate.Max e)))
output output_action.Named = do
  n ← a_name
  v ← an_output_value
  done (part.Output (record { value = v; name = Some n }))
output output_action.Unnamed = do
  v ← an_output_value
  done (part.Output (record { value = v; name = None }))

-- a select without the parts that may be left out
abbrev pub plain_query : SelectList → List ℕ → Select
plain_query l t =
    record {
      distinct = false;
      list = l;
      table = t;
      second = None;
      condition = None;
      group_by = [];
      order_by = [];
      limit = None;
    }

-- the list of a select, and its first table
abbrev pub select_list : ListAction → List Part → Option (List Part)
select_list list_action.All = do
  t ← a_name
  done (part.Query (plain_query list.All t))
select_list list_action.First = do
  o ← an_output
  done (part.Outputs (o ∷ []))
select_list list_action.Next = do
  o ← an_output
  os ← outputs
  done (part.Outputs (os ++ o ∷ []))
select_list list_action.From = do
  t ← a_name
  os ← outputs
  done (part.Query (plain_query (list.Outputs os) t))

abbrev pub made_distinct : Select → Select
made_distinct q =
    record {
      distinct = true;
      list = q.list;
      table = q.table;
      second = q.second;
      condition = q.condition;
      group_by = q.group_by;
      order_by = q.order_by;
      limit = q.limit;
    }

abbrev pub with_second : List ℕ → Select → Select
with_second t q =
    record {
      distinct = q.distinct;
      list = q.list;
      table = q.table;
      second = Some t;
      condition = q.condition;
      group_by = q.group_by;
      order_by = q.order_by;
      limit = q.limit;
    }

abbrev pub with_condition : Option ConditionTree → Select → Select
with_condition c q =
    record {
      distinct = q.distinct;
      list = q.list;
      table = q.table;
      second = q.second;
      condition = c;
      group_by = q.group_by;
      order_by = q.order_by;
      limit = q.limit;
    }

abbrev pub with_group : ColumnName → Select → Select
with_group c q =
    record {
      distinct = q.distinct;
      list = q.list;
      table = q.table;
      second = q.second;
      condition = q.condition;
      group_by = q.group_by ++ c ∷ [];
      order_by = q.order_by;
      limit = q.limit;
    }

abbrev pub with_key : Direction → ColumnName → Select → Select
with_key d c q =
    record {
      distinct = q.distinct;
      list = q.list;
      table = q.table;
      second = q.second;
      condition = q.condition;
      group_by = q.group_by;
      order_by = q.order_by ++ record { column = c; direction = d } ∷ [];
      limit = q.limit;
    }

abbrev pub with_limit : ℤ → Select → Select
with_limit n q =
    record {
      distinct = q.distinct;
      list = q.list;
      table = q.table;
      second = q.second;
      condition = q.condition;
      group_by = q.group_by;
      order_by = q.order_by;
      limit = Some (unsigned_abs n);
    }

-- the other parts of a select
abbrev pub query : QueryAction → List Part → Option (List Part)
query query_action.Distinct = do
  q ← a_query
  done (part.Query (made_distinct q))
query query_action.Second = do
  t ← a_name
  q ← a_query
  done (part.Query (with_second t q))
query query_action.Filter = do
  c ← a_condition
  q ← a_query
  done (part.Query (with_condition c q))
query query_action.GroupBy = do
  c ← a_column_name
  q ← a_query
  done (part.Query (with_group c q))
query (query_action.OrderBy d) = do
  c ← a_column_name
  q ← a_query
  done (part.Query (with_key d c q))
query query_action.Limit = do
  n ← a_number
  q ← a_query
  done (part.Query (with_limit n q))
query query_action.Finish = do
  q ← a_query
  done (plain (statement.Select q))
query query_action.AsOf = do
  q ← a_query
  n ← a_number
  done (part.Parsed (parsed.AsOf (record { snapshot = unsigned_abs n; query = q })))

-- a call of a mechanism with its first three arguments
abbrev pub call : Mechanism → List Part → Option (List Part)
call m = do
  t ← an_argument
  q ← an_argument
  s ← an_argument
  done (part.Parsed (parsed.Rql (record { snapshots = s; query = q; table = t; mechanism = m })))

-- lines that are no statements
abbrev pub line : LineAction → List Part → Option (List Part)
line line_action.Commit = done (part.Parsed (parsed.Commit None))
line line_action.CommitUnlabelled = done (part.Parsed (parsed.Commit (Some [])))
line line_action.CommitLabelled = do
  label ← a_text
  done (part.Parsed (parsed.Commit (Some label)))
line line_action.Rollback = done (part.Parsed parsed.Rollback)
line line_action.DropBelow = do
  n ← a_number
  done (part.Parsed (parsed.DropBelow (unsigned_abs n)))
line line_action.Argument = do
  t ← a_text
  done (part.Argument t)
line line_action.CollateData = call mechanism.CollateData
line line_action.AggregateDataInVariable = do
  f ← an_argument
  call (mechanism.AggregateDataInVariable f)
line line_action.AggregateDataInTable = do
  f ← an_argument
  call (mechanism.AggregateDataInTable f)
line line_action.CollateDataIntoIntervals = call mechanism.CollateDataIntoIntervals
