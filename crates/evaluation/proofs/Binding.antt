-- What steps over places do is what the steps over names do.
use Rattle.std.proofs.Common.{◌≡◌, ◌∙◌, ℕ, Bool, Option, Some, None, List, [], ◌∷◌, Result, Ok, Err, map, refl, sym, ap}
use Rattle.retro_base.specs.Gives.{◌>>=◌}
use Rattle.retro_base.specs.declared.refusal.Refusal.{Refusal}
use Rattle.values.specs.declared.value.Value.{Value}
use Rattle.sql_tree.specs.declared.condition.Comparison.{Comparison}
use Rattle.sql_tree.specs.declared.condition.ConditionStep.{ConditionStep}
use Rattle.sql_tree.specs.declared.condition.ConditionStep.TheVariants as condition
use Rattle.sql_tree.specs.declared.condition.Operand.{Operand}
use Rattle.sql_tree.specs.declared.condition.Operand.TheVariants as operand
use Rattle.sql_tree.specs.declared.expression.ExpressionStep.{ExpressionStep}
use Rattle.sql_tree.specs.declared.expression.ExpressionStep.TheVariants as step
use Rattle.sql_tree.specs.declared.name.ColumnName.{ColumnName}
use Rattle.sql_tree.specs.declared.schema.TableSchema.{TableSchema}
use Rattle.sql_tree.specs.Condition as condition_tree
use Rattle.sql_tree.specs.Condition.{ConditionTree}
use Rattle.sql_tree.specs.Evaluation.{column_value, compared, is_true, found_value, operand_value, snapshot_value, value_at as value_in, value_of}
use Rattle.sql_tree.specs.Expression.{ExpressionTree, postfix}
use Rattle.sql_tree.specs.Scope.{place_of}
use Rattle.sql_tree.specs.Steps.{judge, judged, last, pushed, run, stepped}
use Rattle.evaluation.specs.declared.condition.BoundCondition.{BoundCondition}
use Rattle.evaluation.specs.declared.condition.BoundConditionStep.{BoundConditionStep}
use Rattle.evaluation.specs.declared.expression.BoundExpression.{BoundExpression}
use Rattle.evaluation.specs.declared.expression.BoundStep.{BoundStep}
use Rattle.evaluation.specs.declared.source.Source.{Source}
use Rattle.evaluation.specs.Bound.{at_place, bound_condition_step, bound_step, column_source, decides, decides_all, operand_source, pushes, pushes_all, snapshot_source, source_value, sources_compared, truth_at, value_at}
use Rattle.evaluation.proofs.Running.{truth_is, value_is}

module _ (scope : List TableSchema) (n : Option ℕ) (row : List Value) where
  at_place-value : (place : Option ℕ) → source_value (at_place place) row ≡ found_value (value_in row place)
  at_place-value None = refl
  at_place-value (Some place) = refl

  pub column_source-value : (name : ColumnName) → source_value (column_source scope name) row ≡ column_value scope row name
  column_source-value name = at_place-value (place_of scope name)

  snapshot_by : (n : Option ℕ) → source_value (snapshot_source n) row ≡ snapshot_value n
  snapshot_by None = refl
  snapshot_by (Some number) = refl

  operand_source-value : (o : Operand) → source_value (operand_source scope n o) row ≡ operand_value scope n row o
  operand_source-value (operand.Literal value) = refl
  operand_source-value (operand.Column name) = column_source-value name
  operand_source-value operand.CurrentSnapshot = snapshot_by n

  pushes-stepped : (s : ExpressionStep) (stack : List Value) → pushes row (bound_step scope n s) stack ≡ stepped scope n row s stack
  pushes-stepped (step.Literal value) stack = refl
  pushes-stepped (step.Column name) stack = ap (λ r. pushed r stack) (column_source-value name)
  pushes-stepped step.CurrentSnapshot stack = ap (λ r. pushed r stack) (snapshot_by n)
  pushes-stepped (step.Apply operator) stack = refl

  on_same : {X Y : Type 0} (x : Result X Refusal) (f g : X → Result Y Refusal) → ((v : X) → f v ≡ g v) → (x >>= f) ≡ (x >>= g)
  on_same (Ok v) f g h = h v
  on_same (Err e) f g h = refl

  runs_bound : (ss : List ExpressionStep) (stack : List Value) → pushes_all row (map (bound_step scope n) ss) stack ≡ run scope n row ss stack
  runs_bound [] stack = refl
  runs_bound (s ∷ ss) stack =
      ap (λ r. r >>= pushes_all row (map (bound_step scope n) ss)) (pushes-stepped s stack)
      ∙ on_same (stepped scope n row s stack) (pushes_all row (map (bound_step scope n) ss)) (run scope n row ss) (runs_bound ss)

  sources_compared-judged : (a : Operand) (c : Comparison) (b : Operand) → sources_compared row (operand_source scope n a) c (operand_source scope n b) ≡ (operand_value scope n row a >>= (λ x. operand_value scope n row b >>= (λ y. compared c x y)))
  sources_compared-judged a c b =
      ap (λ x. x >>= (λ x. source_value (operand_source scope n b) row >>= (λ y. compared c x y))) (operand_source-value a)
      ∙ ap (λ r. operand_value scope n row a >>= (λ x. r >>= (λ y. compared c x y))) (operand_source-value b)

  decides-judged : (s : ConditionStep) (stack : List Bool) → decides row (bound_condition_step scope n s) stack ≡ judged scope n row s stack
  decides-judged (condition.Compare a c b) stack = ap (λ r. pushed r stack) (sources_compared-judged a c b)
  decides-judged condition.Not stack = refl
  decides-judged condition.And stack = refl
  decides-judged condition.Or stack = refl

  judges_bound : (ss : List ConditionStep) (stack : List Bool) → decides_all row (map (bound_condition_step scope n) ss) stack ≡ judge scope n row ss stack
  judges_bound [] stack = refl
  judges_bound (s ∷ ss) stack =
      ap (λ r. r >>= decides_all row (map (bound_condition_step scope n) ss)) (decides-judged s stack)
      ∙ on_same (judged scope n row s stack) (decides_all row (map (bound_condition_step scope n) ss)) (judge scope n row ss) (judges_bound ss)

-- the steps of a tree, bound, have its value and its truth at every row
pub value_bound : (bound : BoundExpression) (scope : List TableSchema) (n : Option ℕ) (t : ExpressionTree) → bound.steps ≡ map (bound_step scope n) (postfix t) → value_at bound ≡ (λ row. value_of scope n row t)
value_bound bound scope n t e = λ i row. (ap (λ ss. pushes_all row ss [] >>= last) e ∙ ap (λ r. r >>= last) (runs_bound scope n row (postfix t) []) ∙ value_is scope n row t) i

pub truth_bound : (bound : BoundCondition) (scope : List TableSchema) (n : Option ℕ) (t : ConditionTree) → bound.steps ≡ map (bound_condition_step scope n) (condition_tree.postfix t) → truth_at bound ≡ (λ row. is_true scope n row t)
truth_bound bound scope n t e = λ i row. (ap (λ ss. decides_all row ss [] >>= last) e ∙ ap (λ r. r >>= last) (judges_bound scope n row (condition_tree.postfix t) []) ∙ truth_is scope n row t) i
