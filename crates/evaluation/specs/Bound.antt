-- Steps over places in place of names. No promise above cites more of it than `seen`, `source_value`, `value_at` and
-- `truth_at`.
use Rattle.std.specs.Prelude.{◌&&◌, ◌||◌, ℕ, pos, Bool, not, Option, Some, None}
use Rattle.std.specs.Prelude.{List, [], ◌∷◌, Result, Ok, Err, slice_get}
use denote.Ref.{Bor}
use Rattle.retro_base.specs.Gives.{◌>>=◌}
use Rattle.retro_base.specs.declared.refusal.Refusal.{Refusal}
use Rattle.retro_base.specs.declared.refusal.Refusal.TheVariants.{UnknownName}
use Rattle.values.specs.declared.value.Value.{Value}
use Rattle.values.specs.declared.value.Value.TheVariants.{Int}
use Rattle.sql_tree.specs.declared.condition.Comparison.{Comparison}
use Rattle.sql_tree.specs.declared.condition.ConditionStep.{ConditionStep}
use Rattle.sql_tree.specs.declared.condition.ConditionStep.TheVariants as condition
use Rattle.sql_tree.specs.declared.condition.Operand.{Operand}
use Rattle.sql_tree.specs.declared.condition.Operand.TheVariants as operand
use Rattle.sql_tree.specs.declared.expression.ExpressionStep.{ExpressionStep}
use Rattle.sql_tree.specs.declared.expression.ExpressionStep.TheVariants as step
use Rattle.sql_tree.specs.declared.name.ColumnName.{ColumnName}
use Rattle.sql_tree.specs.declared.schema.TableSchema.{TableSchema}
use Rattle.sql_tree.specs.Evaluation.{compared, found_value}
use Rattle.sql_tree.specs.Scope.{place_of}
use Rattle.sql_tree.specs.Steps.{apply_top, last, one_truth, pushed, two_truths}
use Rattle.evaluation.specs.declared.condition.BoundCondition.{BoundCondition}
use Rattle.evaluation.specs.declared.condition.BoundConditionStep.{BoundConditionStep}
use Rattle.evaluation.specs.declared.condition.BoundConditionStep.TheVariants.{Compare, Not, And, Or}
use Rattle.evaluation.specs.declared.expression.BoundExpression.{BoundExpression}
use Rattle.evaluation.specs.declared.expression.BoundStep.{BoundStep}
use Rattle.evaluation.specs.declared.expression.BoundStep.TheVariants.{Push, Apply}
use Rattle.evaluation.specs.declared.source.Source.{Source}
use Rattle.evaluation.specs.declared.source.Source.TheVariants.{Constant, Place, Unknown}
use Rattle.evaluation.specs.declared.worked.Worked.{Worked}
use Rattle.evaluation.specs.declared.worked.Worked.TheVariants.{Standing, New}

-- a value that was worked out
abbrev pub seen : Worked → Value
seen (Standing value) = value.now
seen (New value) = value

-- the same of a value that stands somewhere
abbrev pub seen_value : Result (Bor Value) Refusal → Result Value Refusal
seen_value (Ok value) = Ok value.now
seen_value (Err why) = Err why

-- where the value of a name comes from
abbrev pub at_place : Option ℕ → Source
at_place None = Unknown
at_place (Some place) = Place place

abbrev pub column_source : List TableSchema → ColumnName → Source
column_source scope name = at_place (place_of scope name)

abbrev pub snapshot_source : Option ℕ → Source
snapshot_source None = Unknown
snapshot_source (Some number) = Constant (Int (pos number))

abbrev pub operand_source : List TableSchema → Option ℕ → Operand → Source
operand_source scope snapshot (operand.Literal value) = Constant value
operand_source scope snapshot (operand.Column name) = column_source scope name
operand_source scope snapshot operand.CurrentSnapshot = snapshot_source snapshot

-- the value at a row
abbrev pub source_value : Source → List Value → Result Value Refusal
source_value (Constant value) row = Ok value
source_value (Place place) row = found_value (slice_get row place)
source_value Unknown row = Err UnknownName

-- a step of an expression, and what it does
abbrev pub bound_step : List TableSchema → Option ℕ → ExpressionStep → BoundStep
bound_step scope snapshot (step.Literal value) = Push (Constant value)
bound_step scope snapshot (step.Column name) = Push (column_source scope name)
bound_step scope snapshot step.CurrentSnapshot = Push (snapshot_source snapshot)
bound_step scope snapshot (step.Apply operator) = Apply operator

abbrev pub pushes : List Value → BoundStep → List Value → Result (List Value) Refusal
pushes row (Push source) stack = pushed (source_value source row) stack
pushes row (Apply operator) stack = apply_top operator stack

abbrev pub pushes_all : List Value → List BoundStep → List Value → Result (List Value) Refusal
pushes_all row [] stack = Ok stack
pushes_all row (s ∷ ss) stack = do
  next ← pushes row s stack
  pushes_all row ss next

abbrev pub value_left : List Value → List BoundStep → Result Value Refusal
value_left row ss = pushes_all row ss [] >>= last

-- the value of a bound expression at a row
abbrev pub value_at : BoundExpression → List Value → Result Value Refusal
value_at bound row = value_left row bound.steps

-- a step of a condition, and what it does
abbrev pub bound_condition_step : List TableSchema → Option ℕ → ConditionStep → BoundConditionStep
bound_condition_step scope snapshot (condition.Compare a c b) =
    Compare (operand_source scope snapshot a) c (operand_source scope snapshot b)
bound_condition_step scope snapshot condition.Not = Not
bound_condition_step scope snapshot condition.And = And
bound_condition_step scope snapshot condition.Or = Or

abbrev pub sources_compared : List Value → Source → Comparison → Source → Result Bool Refusal
sources_compared row left comparison right = do
  a ← source_value left row
  b ← source_value right row
  compared comparison a b

abbrev pub decides : List Value → BoundConditionStep → List Bool → Result (List Bool) Refusal
decides row (Compare a c b) stack = pushed (sources_compared row a c b) stack
decides row Not stack = one_truth not stack
decides row And stack = two_truths ◌&&◌ stack
decides row Or stack = two_truths ◌||◌ stack

abbrev pub decides_all : List Value → List BoundConditionStep → List Bool → Result (List Bool) Refusal
decides_all row [] stack = Ok stack
decides_all row (s ∷ ss) stack = do
  next ← decides row s stack
  decides_all row ss next

abbrev pub truth_left : List Value → List BoundConditionStep → Result Bool Refusal
truth_left row ss = decides_all row ss [] >>= last

-- the truth of a bound condition at a row
abbrev pub truth_at : BoundCondition → List Value → Result Bool Refusal
truth_at bound row = truth_left row bound.steps
