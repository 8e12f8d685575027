-- The names and kinds of expressions and conditions.
use Rattle.std.specs.Prelude.{◌&&◌, ◌||◌, ℕ, Bool, true, false, not, Option, Some, None, is_none, is_some, List}
use Rattle.values.specs.declared.value.Kind.{Kind}
use Rattle.values.specs.declared.value.Kind.TheVariants as kind
use Rattle.values.specs.Value as value
use Rattle.sql_tree.specs.declared.condition.Operand.{Operand}
use Rattle.sql_tree.specs.declared.condition.Operand.TheVariants as operand
use Rattle.sql_tree.specs.declared.name.ColumnName.{ColumnName}
use Rattle.sql_tree.specs.declared.schema.TableSchema.{TableSchema}
use Rattle.sql_tree.specs.declared.select.Aggregate.{Aggregate}
use Rattle.sql_tree.specs.declared.select.Aggregate.TheVariants.{CountRows, Count, Sum, Min, Max}
use Rattle.sql_tree.specs.declared.select.OutputValue.{OutputValue}
use Rattle.sql_tree.specs.declared.select.OutputValue.TheVariants as output
use Rattle.sql_tree.specs.Condition.{ConditionTree, Compare, Not, And, Or}
use Rattle.sql_tree.specs.Expression.{ExpressionTree, Literal, Column, CurrentSnapshot, Apply}
use Rattle.sql_tree.specs.Scope.{kind_at}
use Rattle.sql_tree.specs.Rows.{same_kind}

-- whether the scope has no column, or more than one, of the name
abbrev pub is_unknown : List TableSchema → ColumnName → Bool
is_unknown scope name = is_none (kind_at scope name)

-- whether an expression has an unknown column, or the number of a snapshot where there is none
abbrev pub has_unknown : List TableSchema → Option ℕ → ExpressionTree → Bool
has_unknown scope snapshot (Literal v) = false
has_unknown scope snapshot (Column name) = is_unknown scope name
has_unknown scope snapshot CurrentSnapshot = is_none snapshot
has_unknown scope snapshot (Apply operator left right) =
    has_unknown scope snapshot left || has_unknown scope snapshot right

-- whether there is a kind, and it is INT
abbrev pub is_int : Option Kind → Bool
is_int None = false
is_int (Some kind.Int) = true
is_int (Some kind.Text) = false

-- INT, where the test holds
abbrev pub int_if : Bool → Option Kind
int_if true = Some kind.Int
int_if false = None

-- the kind of an expression; there is none over an unknown column, nor where a text is reckoned with
abbrev pub kind_of : List TableSchema → ExpressionTree → Option Kind
kind_of scope (Literal v) = Some (value.kind_of v)
kind_of scope (Column name) = kind_at scope name
kind_of scope CurrentSnapshot = Some kind.Int
kind_of scope (Apply operator left right) = int_if (is_int (kind_of scope left) && is_int (kind_of scope right))

-- whether there are two kinds, and they are the same
abbrev pub agree : Option Kind → Option Kind → Bool
agree (Some a) (Some b) = same_kind a b
agree _ _ = false

-- whether a side of a comparison is an unknown column, or the number of a snapshot where there is none
abbrev pub is_unknown_operand : List TableSchema → Option ℕ → Operand → Bool
is_unknown_operand scope snapshot (operand.Column name) = is_unknown scope name
is_unknown_operand scope snapshot (operand.Literal v) = false
is_unknown_operand scope snapshot operand.CurrentSnapshot = is_none snapshot

-- the kind of a side of a comparison
abbrev pub operand_kind : List TableSchema → Operand → Option Kind
operand_kind scope (operand.Column name) = kind_at scope name
operand_kind scope (operand.Literal v) = Some (value.kind_of v)
operand_kind scope operand.CurrentSnapshot = Some kind.Int

-- whether a condition has an unknown side
abbrev pub has_unknown_operand : List TableSchema → Option ℕ → ConditionTree → Bool
has_unknown_operand scope snapshot (Compare left comparison right) =
    is_unknown_operand scope snapshot left || is_unknown_operand scope snapshot right
has_unknown_operand scope snapshot (Not a) = has_unknown_operand scope snapshot a
has_unknown_operand scope snapshot (And a b) =
    has_unknown_operand scope snapshot a || has_unknown_operand scope snapshot b
has_unknown_operand scope snapshot (Or a b) =
    has_unknown_operand scope snapshot a || has_unknown_operand scope snapshot b

-- whether a condition compares INT with TEXT
abbrev pub compares_apart : List TableSchema → ConditionTree → Bool
compares_apart scope (Compare left comparison right) = not (agree (operand_kind scope left) (operand_kind scope right))
compares_apart scope (Not a) = compares_apart scope a
compares_apart scope (And a b) = compares_apart scope a || compares_apart scope b
compares_apart scope (Or a b) = compares_apart scope a || compares_apart scope b

-- whether an aggregate has an unknown column, or the number of a snapshot where there is none
abbrev pub aggregate_has_unknown : List TableSchema → Option ℕ → Aggregate → Bool
aggregate_has_unknown scope snapshot CountRows = false
aggregate_has_unknown scope snapshot (Count of) = has_unknown scope snapshot of
aggregate_has_unknown scope snapshot (Sum of) = has_unknown scope snapshot of
aggregate_has_unknown scope snapshot (Min of) = has_unknown scope snapshot of
aggregate_has_unknown scope snapshot (Max of) = has_unknown scope snapshot of

-- the kind of an aggregate; there is none where its expression has none, nor of a SUM of texts
abbrev pub aggregate_kind : List TableSchema → Aggregate → Option Kind
aggregate_kind scope CountRows = Some kind.Int
aggregate_kind scope (Count of) = int_if (is_some (kind_of scope of))
aggregate_kind scope (Sum of) = int_if (is_int (kind_of scope of))
aggregate_kind scope (Min of) = kind_of scope of
aggregate_kind scope (Max of) = kind_of scope of

-- whether an output has an unknown column, or the number of a snapshot where there is none
abbrev pub output_has_unknown : List TableSchema → Option ℕ → OutputValue → Bool
output_has_unknown scope snapshot (output.Expression of) = has_unknown scope snapshot of
output_has_unknown scope snapshot (output.Aggregate of) = aggregate_has_unknown scope snapshot of

-- the kind of an output
abbrev pub output_kind : List TableSchema → OutputValue → Option Kind
output_kind scope (output.Expression of) = kind_of scope of
output_kind scope (output.Aggregate of) = aggregate_kind scope of
