-- Names and kinds, step by step.
use Rattle.std.specs.Prelude.{◌||◌, ℕ, Bool, false, not, Option, Some, None, is_none, List, [], ◌∷◌}
use Rattle.std.specs.List.{list_all}
use Rattle.values.specs.declared.value.Kind.{Kind}
use Rattle.values.specs.declared.value.Kind.TheVariants as kind
use Rattle.values.specs.Value as value
use Rattle.sql_tree.specs.declared.condition.ConditionStep.{ConditionStep}
use Rattle.sql_tree.specs.declared.condition.ConditionStep.TheVariants as condition
use Rattle.sql_tree.specs.declared.expression.ExpressionStep.{ExpressionStep}
use Rattle.sql_tree.specs.declared.expression.ExpressionStep.TheVariants as step
use Rattle.sql_tree.specs.declared.schema.TableSchema.{TableSchema}
use Rattle.sql_tree.specs.Scope.{kind_at}
use Rattle.sql_kinds.specs.Expressions.{agree, int_if, is_int, is_unknown, is_unknown_operand, operand_kind}

-- whether a step is an unknown column, or the number of a snapshot where there is none
abbrev pub is_unknown_step : List TableSchema → Option ℕ → ExpressionStep → Bool
is_unknown_step scope snapshot (step.Literal v) = false
is_unknown_step scope snapshot (step.Column name) = is_unknown scope name
is_unknown_step scope snapshot step.CurrentSnapshot = is_none snapshot
is_unknown_step scope snapshot (step.Apply operator) = false

-- the kind that a step gives where it is reckoned with numbers
abbrev pub step_kind : List TableSchema → ExpressionStep → Option Kind
step_kind scope (step.Literal v) = Some (value.kind_of v)
step_kind scope (step.Column name) = kind_at scope name
step_kind scope step.CurrentSnapshot = Some kind.Int
step_kind scope (step.Apply operator) = Some kind.Int

-- whether all that steps reckon with are numbers
abbrev pub reckons_with_numbers : List TableSchema → List ExpressionStep → Bool
reckons_with_numbers scope steps = list_all (λ (s : ExpressionStep). is_int (step_kind scope s)) steps

-- the item of a list of one
abbrev pub only : {X : Type 0} → List X → Option X
only (x ∷ []) = Some x
only _ = None

-- the kind that steps give: a step alone gives its own, and several reckon with numbers
abbrev pub kind_beside : List TableSchema → List ExpressionStep → Option ExpressionStep → Option Kind
kind_beside scope steps (Some s) = step_kind scope s
kind_beside scope steps None = int_if (reckons_with_numbers scope steps)

abbrev pub steps_kind : List TableSchema → List ExpressionStep → Option Kind
steps_kind scope steps = kind_beside scope steps (only steps)

-- whether a step of a condition has an unknown side
abbrev pub is_unknown_at : List TableSchema → Option ℕ → ConditionStep → Bool
is_unknown_at scope snapshot (condition.Compare left comparison right) =
    is_unknown_operand scope snapshot left || is_unknown_operand scope snapshot right
is_unknown_at scope snapshot condition.Not = false
is_unknown_at scope snapshot condition.And = false
is_unknown_at scope snapshot condition.Or = false

-- whether a step of a condition compares INT with TEXT
abbrev pub compares_apart_at : List TableSchema → ConditionStep → Bool
compares_apart_at scope (condition.Compare left comparison right) =
    not (agree (operand_kind scope left) (operand_kind scope right))
compares_apart_at scope condition.Not = false
compares_apart_at scope condition.And = false
compares_apart_at scope condition.Or = false
