-- The bounds that a condition sets to a column: where it is true, the column's value lies within them.
use Rattle.std.specs.Prelude.{◌==◌, ◌&&◌, ℕ, Bool, true, false, not, Option, Some, None, List, [], ◌∷◌, if◌then◌else◌}
use Rattle.std.specs.Ordering.{is_gt, is_lt}
use Rattle.values.specs.Value.{kind_of, value_cmp}
use Rattle.values.specs.declared.value.Value.{Value}
use Rattle.sql_tree.specs.declared.condition.Comparison.{Comparison}
use Rattle.sql_tree.specs.declared.condition.Comparison.TheVariants.{Equal, NotEqual, Less, AtMost, Greater, AtLeast}
use Rattle.sql_tree.specs.declared.condition.ConditionStep.{ConditionStep}
use Rattle.sql_tree.specs.declared.condition.ConditionStep.TheVariants as step
use Rattle.sql_tree.specs.declared.condition.Operand.{Operand}
use Rattle.sql_tree.specs.declared.condition.Operand.TheVariants as operand
use Rattle.sql_tree.specs.declared.name.ColumnName.{ColumnName}
use Rattle.sql_tree.specs.declared.schema.TableSchema.{TableSchema}
use Rattle.sql_tree.specs.Condition.{ConditionTree, Compare, Not, And, Or}
use Rattle.sql_tree.specs.Rows.{same_kind}
use Rattle.sql_tree.specs.Scope.{place_of}
use Rattle.sql_exec.specs.declared.bounds.BoundColumn.{BoundColumn}
use Rattle.sql_exec.specs.declared.bounds.Bounds.{Bounds}

-- whether a value lies within bounds
abbrev pub reaches : Option Value → Value → Bool
reaches None value = true
reaches (Some low) value = not (is_lt (value_cmp value low))

abbrev pub stays_under : Option Value → Value → Bool
stays_under None value = true
stays_under (Some high) value = not (is_gt (value_cmp value high))

abbrev pub is_within : Bounds → Value → Bool
is_within bounds value = reaches bounds.low value && stays_under bounds.high value

-- no bounds
abbrev pub unbounded : Bounds
unbounded = record { low = None; high = None }

-- the bounds of a column that is compared with a value
abbrev pub bounds_set : Comparison → Value → Bounds
bounds_set Equal value = record { low = Some value; high = Some value }
bounds_set NotEqual value = unbounded
bounds_set Less value = record { low = None; high = Some value }
bounds_set AtMost value = record { low = None; high = Some value }
bounds_set Greater value = record { low = Some value; high = None }
bounds_set AtLeast value = record { low = Some value; high = None }

-- a comparison with its sides exchanged
abbrev pub turned : Comparison → Comparison
turned Equal = Equal
turned NotEqual = NotEqual
turned Less = Greater
turned AtMost = AtLeast
turned Greater = Less
turned AtLeast = AtMost

-- whether that is the column's place, and the value of its kind
abbrev pub is_at : BoundColumn → Option ℕ → Value → Bool
is_at column None value = false
is_at column (Some place) value = (place == column.place) && same_kind (kind_of value) column.kind

abbrev pub is_of : List TableSchema → BoundColumn → ColumnName → Value → Bool
is_of scope column name value = is_at column (place_of scope name) value

abbrev pub column_bounds : List TableSchema → BoundColumn → ColumnName → Comparison → Value → Bounds
column_bounds scope column name comparison value =
    if is_of scope column name value then bounds_set comparison value else unbounded

-- a comparison sets bounds where it is between the column and a literal, either way round
abbrev pub compared_bounds : List TableSchema → BoundColumn → Operand → Comparison → Operand → Bounds
compared_bounds scope column (operand.Column name) comparison (operand.Literal value) =
    column_bounds scope column name comparison value
compared_bounds scope column (operand.Literal value) comparison (operand.Column name) =
    column_bounds scope column name (turned comparison) value
compared_bounds scope column _ comparison _ = unbounded

-- whether a value of one kind with another is less
abbrev pub is_below : Value → Value → Bool
is_below a b = same_kind (kind_of a) (kind_of b) && is_lt (value_cmp a b)

abbrev pub higher : Option Value → Option Value → Option Value
higher None b = b
higher (Some a) None = Some a
higher (Some a) (Some b) = Some (if is_below a b then b else a)

abbrev pub lower : Option Value → Option Value → Option Value
lower None b = b
lower (Some a) None = Some a
lower (Some a) (Some b) = Some (if is_below b a then b else a)

-- both bounds together
abbrev pub narrower : Bounds → Bounds → Bounds
narrower a b = record { low = higher a.low b.low; high = lower a.high b.high }

-- both sides of AND set bounds; NOT and OR set none
abbrev pub bounds_of : List TableSchema → BoundColumn → ConditionTree → Bounds
bounds_of scope column (Compare left comparison right) = compared_bounds scope column left comparison right
bounds_of scope column (And left right) = narrower (bounds_of scope column left) (bounds_of scope column right)
bounds_of scope column (Or left right) = unbounded
bounds_of scope column (Not condition) = unbounded

-- ---- the same step by step, over the bounds of the parts so far, the last first

abbrev pub top : List Bounds → Bounds
top [] = unbounded
top (bounds ∷ stack) = bounds

abbrev pub under : List Bounds → List Bounds
under [] = []
under (bounds ∷ stack) = stack

abbrev pub step_bounds : List TableSchema → BoundColumn → ConditionStep → List Bounds → List Bounds
step_bounds scope column (step.Compare left comparison right) stack =
    compared_bounds scope column left comparison right ∷ stack
step_bounds scope column step.Not stack = unbounded ∷ under stack
step_bounds scope column step.And stack = narrower (top (under stack)) (top stack) ∷ under (under stack)
step_bounds scope column step.Or stack = unbounded ∷ under (under stack)

abbrev pub all_bounds : List TableSchema → BoundColumn → List ConditionStep → List Bounds → List Bounds
all_bounds scope column [] stack = stack
all_bounds scope column (s ∷ ss) stack = all_bounds scope column ss (step_bounds scope column s stack)
