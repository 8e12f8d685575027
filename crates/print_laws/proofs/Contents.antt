-- What the parts hold has a spelling.
use Rattle.std.proofs.Common.{◌<◌, ◌^◌, ℕ, ℤ, Option, Some, None, List, unsigned_abs}
use Rattle.std.specs.List.{AllByRecursion}
use Rattle.values.specs.Text.{IsPrintable, IsText}
use Rattle.values.specs.declared.value.Value.{Value}
use Rattle.values.specs.declared.value.Value.TheVariants as value
use Rattle.sql_tree.specs.Condition.{ConditionTree}
use Rattle.sql_tree.specs.Condition as condition_tree
use Rattle.sql_tree.specs.Expression.{ExpressionTree}
use Rattle.sql_tree.specs.Expression as expression_tree
use Rattle.sql_tree.specs.declared.condition.Operand.{Operand}
use Rattle.sql_tree.specs.declared.condition.Operand.TheVariants as operand
use Rattle.sql_tree.specs.declared.name.ColumnName.{ColumnName}
use Rattle.sql_tree.specs.declared.select.Aggregate.{Aggregate}
use Rattle.sql_tree.specs.declared.select.Aggregate.TheVariants as aggregate
use Rattle.sql_tree.specs.declared.select.OrderKey.{OrderKey}
use Rattle.sql_tree.specs.declared.select.Output.{Output}
use Rattle.sql_tree.specs.declared.select.OutputValue.{OutputValue}
use Rattle.sql_tree.specs.declared.select.OutputValue.TheVariants as output_value
use Rattle.sql_tree.specs.declared.select.Select.{Select}
use Rattle.sql_tree.specs.declared.select.SelectList.{SelectList}
use Rattle.sql_tree.specs.declared.select.SelectList.TheVariants as select_list
use Rattle.sql_tree.specs.declared.statement.Assignment.{Assignment}
use Rattle.sql_tree.specs.declared.statement.Column.{Column}
use Rattle.sql_tree.specs.declared.statement.CreateTable.{CreateTable}
use Rattle.sql_tree.specs.declared.statement.Insert.{Insert}
use Rattle.sql_tree.specs.declared.statement.Statement.{Statement}
use Rattle.sql_tree.specs.declared.statement.Statement.TheVariants as statement
use Rattle.sql_tree.specs.declared.statement.Update.{Update}
use Rattle.sql_lexer.specs.declared.token.Token.TheVariants as token
use Rattle.sql_parts.specs.declared.parsed.Mechanism.{Mechanism}
use Rattle.sql_parts.specs.declared.parsed.Mechanism.TheVariants as mechanism
use Rattle.sql_parts.specs.declared.parsed.Parsed.{Parsed}
use Rattle.sql_parts.specs.declared.parsed.Parsed.TheVariants as parsed
use Rattle.sql_parts.specs.declared.parsed.RqlCall.{RqlCall}
use Rattle.sql_parts.specs.declared.part.Part.{Part}
use Rattle.sql_parts.specs.declared.part.Part.TheVariants as part
use Rattle.print_laws.specs.Spelt.{HasSpelling}

-- what is there, if anything is
abbrev pub Optional : {X : Type 0} → (X → Type 0) → Option X → Type 0
Optional P None = Unit {0}
Optional P (Some x) = P x

abbrev pub NameFits : List ℕ → Type 0
NameFits n = HasSpelling (token.Name n)

abbrev pub NumberFits : ℕ → Type 0
NumberFits n = n < 2 ^ 63

abbrev pub ValueFits : Value → Type 0
ValueFits (value.Int n) = NumberFits (unsigned_abs n)
ValueFits (value.Text t) = IsText t

abbrev pub ColumnFits : ColumnName → Type 0
ColumnFits c = Optional NameFits c.table × NameFits c.column

abbrev pub OperandFits : Operand → Type 0
OperandFits (operand.Literal v) = ValueFits v
OperandFits (operand.Column c) = ColumnFits c
OperandFits operand.CurrentSnapshot = Unit {0}

abbrev pub ExpressionFits : ExpressionTree → Type 0
ExpressionFits (expression_tree.Literal v) = ValueFits v
ExpressionFits (expression_tree.Column c) = ColumnFits c
ExpressionFits expression_tree.CurrentSnapshot = Unit {0}
ExpressionFits (expression_tree.Apply o a b) = ExpressionFits a × ExpressionFits b

abbrev pub ConditionFits : ConditionTree → Type 0
ConditionFits (condition_tree.Compare a c b) = OperandFits a × OperandFits b
ConditionFits (condition_tree.Not a) = ConditionFits a
ConditionFits (condition_tree.And a b) = ConditionFits a × ConditionFits b
ConditionFits (condition_tree.Or a b) = ConditionFits a × ConditionFits b

abbrev pub FilterFits : Option ConditionTree → Type 0
FilterFits c = Optional ConditionFits c

abbrev pub NewColumnFits : Column → Type 0
NewColumnFits c = NameFits c.name

abbrev pub CreateFits : CreateTable → Type 0
CreateFits t = NameFits t.table × AllByRecursion NewColumnFits t.columns

abbrev pub RowFits : List Value → Type 0
RowFits vs = AllByRecursion ValueFits vs

abbrev pub InsertFits : Insert → Type 0
InsertFits i = NameFits i.table × AllByRecursion RowFits i.tuples

abbrev pub AssignmentFits : Assignment → Type 0
AssignmentFits a = NameFits a.column × ExpressionFits a.value

abbrev pub UpdateFits : Update → Type 0
UpdateFits u = NameFits u.table × AllByRecursion AssignmentFits u.assignments × FilterFits u.condition

abbrev pub AggregateFits : Aggregate → Type 0
AggregateFits aggregate.CountRows = Unit {0}
AggregateFits (aggregate.Count e) = ExpressionFits e
AggregateFits (aggregate.Sum e) = ExpressionFits e
AggregateFits (aggregate.Min e) = ExpressionFits e
AggregateFits (aggregate.Max e) = ExpressionFits e

abbrev pub OutputValueFits : OutputValue → Type 0
OutputValueFits (output_value.Expression e) = ExpressionFits e
OutputValueFits (output_value.Aggregate a) = AggregateFits a

abbrev pub OutputFits : Output → Type 0
OutputFits o = OutputValueFits o.value × Optional NameFits o.name

abbrev pub ListFits : SelectList → Type 0
ListFits select_list.All = Unit {0}
ListFits (select_list.Outputs os) = AllByRecursion OutputFits os

abbrev pub KeyFits : OrderKey → Type 0
KeyFits k = ColumnFits k.column

pub record SelectFits (q : Select) : Type 0 where
  pub list : ListFits q.list
  pub table : NameFits q.table
  pub second : Optional NameFits q.second
  pub condition : FilterFits q.condition
  pub group_by : AllByRecursion ColumnFits q.group_by
  pub order_by : AllByRecursion KeyFits q.order_by
  pub limit : Optional NumberFits q.limit

abbrev pub StatementFits : Statement → Type 0
StatementFits (statement.CreateTable t) = CreateFits t
StatementFits (statement.CreateIndex i) = NameFits i.index × NameFits i.table × NameFits i.column
StatementFits (statement.Insert i) = InsertFits i
StatementFits (statement.Update u) = UpdateFits u
StatementFits (statement.Delete d) = NameFits d.table × FilterFits d.condition
StatementFits (statement.Select q) = SelectFits q

abbrev pub ArgumentFits : List ℕ → Type 0
ArgumentFits t = AllByRecursion IsPrintable t

abbrev pub MechanismFits : Mechanism → Type 0
MechanismFits (mechanism.AggregateDataInVariable function) = ArgumentFits function
MechanismFits (mechanism.AggregateDataInTable pairs) = ArgumentFits pairs
MechanismFits m = Unit {0}

abbrev pub CallFits : RqlCall → Type 0
CallFits c = ArgumentFits c.snapshots × ArgumentFits c.query × ArgumentFits c.table × MechanismFits c.mechanism

abbrev pub LineFits : Parsed → Type 0
LineFits (parsed.Plain s) = StatementFits s
LineFits (parsed.AsOf q) = NumberFits q.snapshot × SelectFits q.query
LineFits (parsed.Commit label) = Optional IsText label
LineFits parsed.Rollback = Unit {0}
LineFits (parsed.DropBelow n) = NumberFits n
LineFits (parsed.Rql c) = CallFits c

abbrev pub DigitsFit : ℤ → Type 0
DigitsFit n = HasSpelling (token.Integer n)

abbrev pub PartFits : Part → Type 0
PartFits (part.Name n) = NameFits n
PartFits (part.Number n) = DigitsFit n
PartFits (part.Text t) = IsText t
PartFits (part.Argument t) = ArgumentFits t
PartFits (part.Literal v) = ValueFits v
PartFits (part.ColumnName c) = ColumnFits c
PartFits (part.Operand o) = OperandFits o
PartFits (part.Expression e) = ExpressionFits e
PartFits (part.Condition c) = FilterFits c
PartFits (part.Column c) = NewColumnFits c
PartFits (part.CreateTable t) = CreateFits t
PartFits (part.Row vs) = RowFits vs
PartFits (part.Insert i) = InsertFits i
PartFits (part.Assignment a) = AssignmentFits a
PartFits (part.Update u) = UpdateFits u
PartFits (part.OutputValue v) = OutputValueFits v
PartFits (part.Output o) = OutputFits o
PartFits (part.Outputs os) = AllByRecursion OutputFits os
PartFits (part.Query q) = SelectFits q
PartFits (part.Parsed p) = LineFits p

abbrev pub PartsFit : List Part → Type 0
PartsFit ps = AllByRecursion PartFits ps
