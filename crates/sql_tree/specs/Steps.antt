-- What steps do, one after the other: counted, and over a stack of values.
use Rattle.std.specs.Prelude.{◌&&◌, ◌||◌, ℕ, suc, Bool, not, Option, Some, None, List, [], ◌∷◌, Result, Ok, Err}
use Rattle.retro_base.specs.Gives.{◌>>=◌}
use Rattle.retro_base.specs.declared.refusal.Refusal.{Refusal}
use Rattle.retro_base.specs.declared.refusal.Refusal.TheVariants.{WrongType}
use Rattle.values.specs.declared.value.Value.{Value}
use Rattle.sql_tree.specs.declared.condition.Comparison.{Comparison}
use Rattle.sql_tree.specs.declared.condition.ConditionStep.{ConditionStep}
use Rattle.sql_tree.specs.declared.condition.ConditionStep.TheVariants.{Compare, Not, And, Or}
use Rattle.sql_tree.specs.declared.condition.Operand.{Operand}
use Rattle.sql_tree.specs.declared.expression.ExpressionStep.{ExpressionStep}
use Rattle.sql_tree.specs.declared.expression.ExpressionStep.TheVariants.{Literal, Column, CurrentSnapshot, Apply}
use Rattle.sql_tree.specs.declared.expression.Operator.{Operator}
use Rattle.sql_tree.specs.declared.schema.TableSchema.{TableSchema}
use Rattle.sql_tree.specs.Evaluation.{applied, column_value, compared, operand_value, snapshot_value}

abbrev pub counted : Option ℕ → (ℕ → Option ℕ) → Option ℕ
counted None f = None
counted (Some n) f = f n

-- how many trees there are after a step
abbrev pub trees_behind : ExpressionStep → ℕ → Option ℕ
trees_behind (Apply o) (suc (suc n)) = Some (suc n)
trees_behind (Apply o) _ = None
trees_behind _ n = Some (suc n)

abbrev pub all_trees : List ExpressionStep → ℕ → Option ℕ
all_trees [] n = Some n
all_trees (s ∷ ss) n = counted (trees_behind s n) (all_trees ss)

abbrev pub trees_of : List ExpressionStep → Option ℕ
trees_of ss = all_trees ss 0

abbrev pub conditions_behind : ConditionStep → ℕ → Option ℕ
conditions_behind (Compare a c b) n = Some (suc n)
conditions_behind Not (suc n) = Some (suc n)
conditions_behind And (suc (suc n)) = Some (suc n)
conditions_behind Or (suc (suc n)) = Some (suc n)
conditions_behind _ _ = None

abbrev pub all_conditions : List ConditionStep → ℕ → Option ℕ
all_conditions [] n = Some n
all_conditions (s ∷ ss) n = counted (conditions_behind s n) (all_conditions ss)

abbrev pub conditions_of : List ConditionStep → Option ℕ
conditions_of ss = all_conditions ss 0

-- the values after a step, the last first
abbrev pub apply_top : Operator → List Value → Result (List Value) Refusal
apply_top operator (b ∷ a ∷ stack) = do
  value ← applied operator a b
  Ok (value ∷ stack)
apply_top operator _ = Err WrongType

abbrev pub pushed : {X : Type 0} → Result X Refusal → List X → Result (List X) Refusal
pushed value stack = do
  x ← value
  Ok (x ∷ stack)

abbrev pub stepped : List TableSchema → Option ℕ → List Value → ExpressionStep → List Value →
    Result (List Value) Refusal
stepped scope snapshot row (Literal value) stack = Ok (value ∷ stack)
stepped scope snapshot row (Column name) stack = pushed (column_value scope row name) stack
stepped scope snapshot row CurrentSnapshot stack = pushed (snapshot_value snapshot) stack
stepped scope snapshot row (Apply operator) stack = apply_top operator stack

abbrev pub run : List TableSchema → Option ℕ → List Value → List ExpressionStep → List Value →
    Result (List Value) Refusal
run scope snapshot row [] stack = Ok stack
run scope snapshot row (s ∷ ss) stack = do
  next ← stepped scope snapshot row s stack
  run scope snapshot row ss next

-- the truths after a step, the last first
abbrev pub one_truth : (Bool → Bool) → List Bool → Result (List Bool) Refusal
one_truth f (a ∷ stack) = Ok (f a ∷ stack)
one_truth f _ = Err WrongType

abbrev pub two_truths : (Bool → Bool → Bool) → List Bool → Result (List Bool) Refusal
two_truths f (b ∷ a ∷ stack) = Ok (f a b ∷ stack)
two_truths f _ = Err WrongType

abbrev pub comparison_value : List TableSchema → Option ℕ → List Value → Operand → Comparison → Operand →
    Result Bool Refusal
comparison_value scope snapshot row left comparison right = do
  a ← operand_value scope snapshot row left
  b ← operand_value scope snapshot row right
  compared comparison a b

abbrev pub judged : List TableSchema → Option ℕ → List Value → ConditionStep → List Bool → Result (List Bool) Refusal
judged scope snapshot row (Compare a c b) stack = pushed (comparison_value scope snapshot row a c b) stack
judged scope snapshot row Not stack = one_truth not stack
judged scope snapshot row And stack = two_truths ◌&&◌ stack
judged scope snapshot row Or stack = two_truths ◌||◌ stack

abbrev pub judge : List TableSchema → Option ℕ → List Value → List ConditionStep → List Bool →
    Result (List Bool) Refusal
judge scope snapshot row [] stack = Ok stack
judge scope snapshot row (s ∷ ss) stack = do
  next ← judged scope snapshot row s stack
  judge scope snapshot row ss next

-- the last, if there is one
abbrev pub last : {X : Type 0} → List X → Result X Refusal
last [] = Err WrongType
last (x ∷ xs) = Ok x

-- what the steps leave
abbrev pub value_left : List TableSchema → Option ℕ → List Value → List ExpressionStep → Result Value Refusal
value_left scope snapshot row ss = run scope snapshot row ss [] >>= last

abbrev pub truth_left : List TableSchema → Option ℕ → List Value → List ConditionStep → Result Bool Refusal
truth_left scope snapshot row ss = judge scope snapshot row ss [] >>= last
