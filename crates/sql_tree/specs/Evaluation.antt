-- The value of an expression and the truth of a condition at a row, whose values are those of all tables side by side.
-- Left goes before right, and the first refusal stands.
use Rattle.std.specs.Prelude.{◌+ℤ◌, ◌-ℤ◌, ◌*ℤ◌, ◌&&◌, ◌||◌, ◌^◌, ℕ, ℤ, pos, negsuc, Bool, not, Option}
use Rattle.std.specs.Prelude.{Some, None, List, Result, Ok, Err, nat_lt, slice_get, if◌then◌else◌}
use Rattle.std.specs.Ordering.{is_eq, is_ne, is_lt, is_le, is_gt, is_ge}
use Rattle.std.specs.declared.cmp.Ordering.{Ordering}
use Rattle.retro_base.specs.Gives.{◌>>=◌}
use Rattle.retro_base.specs.declared.refusal.Refusal.{Refusal}
use Rattle.retro_base.specs.declared.refusal.Refusal.TheVariants.{Overflow, UnknownName, WrongType}
use Rattle.values.specs.Value.{value_cmp}
use Rattle.values.specs.declared.value.Value.{Value}
use Rattle.values.specs.declared.value.Value.TheVariants.{Int, Text}
use Rattle.sql_tree.specs.declared.condition.Comparison.{Comparison}
use Rattle.sql_tree.specs.declared.condition.Comparison.TheVariants.{Equal, NotEqual, Less, AtMost, Greater, AtLeast}
use Rattle.sql_tree.specs.declared.condition.Operand.{Operand}
use Rattle.sql_tree.specs.declared.condition.Operand.TheVariants as operand
use Rattle.sql_tree.specs.declared.expression.Operator.{Operator}
use Rattle.sql_tree.specs.declared.expression.Operator.TheVariants.{Add, Subtract, Multiply}
use Rattle.sql_tree.specs.declared.name.ColumnName.{ColumnName}
use Rattle.sql_tree.specs.declared.schema.TableSchema.{TableSchema}
use Rattle.sql_tree.specs.Condition.{ConditionTree, Compare, Not, And, Or}
use Rattle.sql_tree.specs.Expression.{ExpressionTree, Literal, Column, CurrentSnapshot, Apply}
use Rattle.sql_tree.specs.Scope.{place_of}

abbrev pub found_value : Option Value → Result Value Refusal
found_value None = Err UnknownName
found_value (Some value) = Ok value

abbrev pub value_at : List Value → Option ℕ → Option Value
value_at row None = None
value_at row (Some place) = slice_get row place

-- the value of a column
abbrev pub column_value : List TableSchema → List Value → ColumnName → Result Value Refusal
column_value scope row name = found_value (value_at row (place_of scope name))

-- the value of `current_snapshot()`: the number of the snapshot, where there is one
abbrev pub snapshot_value : Option ℕ → Result Value Refusal
snapshot_value None = Err UnknownName
snapshot_value (Some number) = Ok (Int (pos number))

-- whether an i64 can hold the number
abbrev pub is_i64 : ℤ → Bool
is_i64 (pos n) = nat_lt n (2 ^ 63)
is_i64 (negsuc n) = nat_lt n (2 ^ 63)

abbrev pub narrow : ℤ → Option ℤ
narrow z = if is_i64 z then Some z else None

abbrev pub in_range : Option ℤ → Result Value Refusal
in_range None = Err Overflow
in_range (Some z) = Ok (Int z)

abbrev pub result_of : Operator → ℤ → ℤ → ℤ
result_of Add m n = m +ℤ n
result_of Subtract m n = m -ℤ n
result_of Multiply m n = m *ℤ n

-- an operator is between two numbers, and its result is one of an i64
abbrev pub applied : Operator → Value → Value → Result Value Refusal
applied operator (Int m) (Int n) = in_range (narrow (result_of operator m n))
applied operator _ _ = Err WrongType

abbrev pub value_of : List TableSchema → Option ℕ → List Value → ExpressionTree → Result Value Refusal
value_of scope snapshot row (Literal value) = Ok value
value_of scope snapshot row (Column name) = column_value scope row name
value_of scope snapshot row CurrentSnapshot = snapshot_value snapshot
value_of scope snapshot row (Apply operator left right) = do
  a ← value_of scope snapshot row left
  b ← value_of scope snapshot row right
  applied operator a b

abbrev pub operand_value : List TableSchema → Option ℕ → List Value → Operand → Result Value Refusal
operand_value scope snapshot row (operand.Literal value) = Ok value
operand_value scope snapshot row (operand.Column name) = column_value scope row name
operand_value scope snapshot row operand.CurrentSnapshot = snapshot_value snapshot

abbrev pub agrees : Comparison → Ordering → Bool
agrees Equal order = is_eq order
agrees NotEqual order = is_ne order
agrees Less order = is_lt order
agrees AtMost order = is_le order
agrees Greater order = is_gt order
agrees AtLeast order = is_ge order

-- a comparison is between two numbers or two texts
abbrev pub compared : Comparison → Value → Value → Result Bool Refusal
compared comparison (Int m) (Int n) = Ok (agrees comparison (value_cmp (Int m) (Int n)))
compared comparison (Text s) (Text t) = Ok (agrees comparison (value_cmp (Text s) (Text t)))
compared comparison _ _ = Err WrongType

-- both sides of AND and OR are worked out, whatever the left one is
abbrev pub is_true : List TableSchema → Option ℕ → List Value → ConditionTree → Result Bool Refusal
is_true scope snapshot row (Compare left comparison right) = do
  a ← operand_value scope snapshot row left
  b ← operand_value scope snapshot row right
  compared comparison a b
is_true scope snapshot row (Not condition) = do
  a ← is_true scope snapshot row condition
  Ok (not a)
is_true scope snapshot row (And left right) = do
  a ← is_true scope snapshot row left
  b ← is_true scope snapshot row right
  Ok (a && b)
is_true scope snapshot row (Or left right) = do
  a ← is_true scope snapshot row left
  b ← is_true scope snapshot row right
  Ok (a || b)
