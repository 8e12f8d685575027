-- What follows for expressions and conditions that were checked.
use Rattle.std.specs.Prelude.{◌≡◌, ℕ, false, IsTrue, IsOk, Option, Some, List, Result, Ok, Err}
use Rattle.retro_base.specs.declared.refusal.Refusal.{Refusal}
use Rattle.retro_base.specs.declared.refusal.Refusal.TheVariants.{Overflow}
use Rattle.values.specs.declared.value.Kind.{Kind}
use Rattle.values.specs.declared.value.Value.{Value}
use Rattle.values.specs.Value as value
use Rattle.sql_tree.specs.declared.schema.TableSchema.{TableSchema}
use Rattle.sql_tree.specs.Condition.{ConditionTree}
use Rattle.sql_tree.specs.Evaluation.{is_true, value_of}
use Rattle.sql_tree.specs.Expression.{ExpressionTree}
use Rattle.sql_tree.specs.Scope.{columns_of}
use Rattle.sql_kinds.specs.Expressions.{compares_apart, has_unknown, has_unknown_operand, kind_of}
use Rattle.sql_tree.specs.Rows.{fits}

-- there is a value of the kind, or a step left i64
abbrev pub IsOfKind : Kind → Result Value Refusal → Type 0
IsOfKind kind (Ok v) = value.kind_of v ≡ kind
IsOfKind kind (Err refusal) = refusal ≡ Overflow

-- at a row that fits the columns, an expression whose names are known has a value of its kind, unless a step leaves i64
abbrev pub ExpressionsKeepTheirKind : Type 0
ExpressionsKeepTheirKind =
    (scope : List TableSchema) (snapshot : Option ℕ) (row : List Value) (of : ExpressionTree) (kind : Kind) →
    IsTrue (fits (columns_of scope) row) → has_unknown scope snapshot of ≡ false → kind_of scope of ≡ Some kind →
    IsOfKind kind (value_of scope snapshot row of)

-- at a row that fits the columns, a condition whose names are known, and that compares like with like, is true or false
abbrev pub ConditionsAreDecided : Type 0
ConditionsAreDecided = (scope : List TableSchema) (snapshot : Option ℕ) (row : List Value) (condition : ConditionTree) →
    IsTrue (fits (columns_of scope) row) → has_unknown_operand scope snapshot condition ≡ false →
    compares_apart scope condition ≡ false →
    IsOk (is_true scope snapshot row condition)
