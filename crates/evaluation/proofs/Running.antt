-- Running the steps of a tree leaves what the tree means.
use Rattle.std.proofs.Common.{◌≡◌, ◌∙◌, ◌&&◌, ◌||◌, ℕ, Bool, not, Option, List, [], ◌∷◌, ◌++◌, Result, Ok, Err, refl, sym, ap, append_assoc, append-nil}
use Rattle.retro_base.specs.Gives.{◌>>=◌}
use Rattle.retro_base.specs.declared.refusal.Refusal.{Refusal}
use Rattle.values.specs.declared.value.Value.{Value}
use Rattle.sql_tree.specs.declared.condition.ConditionStep.{ConditionStep}
use Rattle.sql_tree.specs.declared.condition.ConditionStep.TheVariants as condition
use Rattle.sql_tree.specs.declared.expression.ExpressionStep.{ExpressionStep}
use Rattle.sql_tree.specs.declared.expression.ExpressionStep.TheVariants as step
use Rattle.sql_tree.specs.declared.schema.TableSchema.{TableSchema}
use Rattle.sql_tree.specs.Condition as condition_tree
use Rattle.sql_tree.specs.Condition.{ConditionTree, Compare, Not, And, Or}
use Rattle.sql_tree.specs.Evaluation.{applied, column_value, is_true, snapshot_value, value_of}
use Rattle.sql_tree.specs.Expression.{ExpressionTree, Literal, Column, CurrentSnapshot, Apply, postfix}
use Rattle.sql_tree.specs.Steps.{comparison_value, judge, last, pushed, run, truth_left, value_left}

on_same : {X Y : Type 0} (x : Result X Refusal) (f g : X → Result Y Refusal) → ((v : X) → f v ≡ g v) → (x >>= f) ≡ (x >>= g)
on_same (Ok v) f g h = h v
on_same (Err e) f g h = refl

push_on : {X Y : Type 0} (x : Result X Refusal) (stack : List X) (f : List X → Result Y Refusal) → (pushed x stack >>= f) ≡ (x >>= (λ v. f (v ∷ stack)))
push_on (Ok v) stack f = refl
push_on (Err e) stack f = refl

leaves : {X : Type 0} (x : Result X Refusal) → ((x >>= (λ v. Ok (v ∷ []))) >>= last) ≡ x
leaves (Ok v) = refl
leaves (Err e) = refl

apply_on : {X Y : Type 0} (x y : Result X Refusal) (g : X → X → Result X Refusal) (stack : List X) (f : List X → Result Y Refusal)
    → (x >>= (λ a. y >>= (λ b. pushed (g a b) stack >>= f))) ≡ ((x >>= (λ a. y >>= (λ b. g a b))) >>= (λ v. f (v ∷ stack)))
apply_on (Ok a) (Ok b) g stack f = push_on (g a b) stack f
apply_on (Ok a) (Err e) g stack f = refl
apply_on (Err e) y g stack f = refl

runs : (scope : List TableSchema) (n : Option ℕ) (row : List Value) (t : ExpressionTree) (ss : List ExpressionStep) (stack : List Value)
    → run scope n row (postfix t ++ ss) stack ≡ (value_of scope n row t >>= (λ v. run scope n row ss (v ∷ stack)))
runs scope n row (Literal v) ss stack = refl
runs scope n row (Column c) ss stack = push_on (column_value scope row c) stack (run scope n row ss)
runs scope n row CurrentSnapshot ss stack = push_on (snapshot_value n) stack (run scope n row ss)
runs scope n row (Apply o a b) ss stack =
    ap (λ x. run scope n row x stack) (append_assoc (postfix a) (postfix b ++ step.Apply o ∷ []) ss ∙ ap (λ x. postfix a ++ x) (append_assoc (postfix b) (step.Apply o ∷ []) ss))
    ∙ runs scope n row a (postfix b ++ (step.Apply o ∷ ss)) stack
    ∙ on_same (value_of scope n row a) (λ v. run scope n row (postfix b ++ (step.Apply o ∷ ss)) (v ∷ stack)) (λ v. value_of scope n row b >>= (λ w. pushed (applied o v w) stack >>= run scope n row ss)) (λ v. runs scope n row b (step.Apply o ∷ ss) (v ∷ stack))
    ∙ apply_on (value_of scope n row a) (value_of scope n row b) (applied o) stack (run scope n row ss)

pub value_is : (scope : List TableSchema) (n : Option ℕ) (row : List Value) (t : ExpressionTree) → value_left scope n row (postfix t) ≡ value_of scope n row t
value_is scope n row t = ap (λ x. value_left scope n row x) (sym (append-nil (postfix t))) ∙ ap (λ x. x >>= last) (runs scope n row t [] []) ∙ leaves (value_of scope n row t)

two_on : {Y : Type 0} (x y : Result Bool Refusal) (g : Bool → Bool → Bool) (stack : List Bool) (f : List Bool → Result Y Refusal)
    → (x >>= (λ a. y >>= (λ b. f (g a b ∷ stack)))) ≡ ((x >>= (λ a. y >>= (λ b. Ok (g a b)))) >>= (λ v. f (v ∷ stack)))
two_on (Ok a) (Ok b) g stack f = refl
two_on (Ok a) (Err e) g stack f = refl
two_on (Err e) y g stack f = refl

one_on : {Y : Type 0} (x : Result Bool Refusal) (g : Bool → Bool) (stack : List Bool) (f : List Bool → Result Y Refusal)
    → (x >>= (λ a. f (g a ∷ stack))) ≡ ((x >>= (λ a. Ok (g a))) >>= (λ v. f (v ∷ stack)))
one_on (Ok a) g stack f = refl
one_on (Err e) g stack f = refl

judges_two : (scope : List TableSchema) (n : Option ℕ) (row : List Value) (a b : ConditionTree) (s : ConditionStep) (g : Bool → Bool → Bool) (ss : List ConditionStep) (stack : List Bool)
    → ((v w : Bool) → judge scope n row (s ∷ ss) (w ∷ v ∷ stack) ≡ judge scope n row ss (g v w ∷ stack))
    → ((ss : List ConditionStep) (stack : List Bool) → judge scope n row (condition_tree.postfix a ++ ss) stack ≡ (is_true scope n row a >>= (λ v. judge scope n row ss (v ∷ stack))))
    → ((ss : List ConditionStep) (stack : List Bool) → judge scope n row (condition_tree.postfix b ++ ss) stack ≡ (is_true scope n row b >>= (λ v. judge scope n row ss (v ∷ stack))))
    → judge scope n row ((condition_tree.postfix a ++ (condition_tree.postfix b ++ s ∷ [])) ++ ss) stack ≡ ((is_true scope n row a >>= (λ v. is_true scope n row b >>= (λ w. Ok (g v w)))) >>= (λ v. judge scope n row ss (v ∷ stack)))
judges_two scope n row a b s g ss stack hs ha hb =
    ap (λ x. judge scope n row x stack) (append_assoc (condition_tree.postfix a) (condition_tree.postfix b ++ s ∷ []) ss ∙ ap (λ x. condition_tree.postfix a ++ x) (append_assoc (condition_tree.postfix b) (s ∷ []) ss))
    ∙ ha (condition_tree.postfix b ++ (s ∷ ss)) stack
    ∙ on_same (is_true scope n row a) (λ v. judge scope n row (condition_tree.postfix b ++ (s ∷ ss)) (v ∷ stack)) (λ v. is_true scope n row b >>= (λ w. judge scope n row ss (g v w ∷ stack)))
    (λ v. hb (s ∷ ss) (v ∷ stack) ∙ on_same (is_true scope n row b) (λ w. judge scope n row (s ∷ ss) (w ∷ v ∷ stack)) (λ w. judge scope n row ss (g v w ∷ stack)) (hs v))
    ∙ two_on (is_true scope n row a) (is_true scope n row b) g stack (judge scope n row ss)

judges : (scope : List TableSchema) (n : Option ℕ) (row : List Value) (t : ConditionTree) (ss : List ConditionStep) (stack : List Bool)
    → judge scope n row (condition_tree.postfix t ++ ss) stack ≡ (is_true scope n row t >>= (λ v. judge scope n row ss (v ∷ stack)))
judges scope n row (Compare a c b) ss stack = push_on (comparison_value scope n row a c b) stack (judge scope n row ss)
judges scope n row (Not a) ss stack =
    ap (λ x. judge scope n row x stack) (append_assoc (condition_tree.postfix a) (condition.Not ∷ []) ss) ∙ judges scope n row a (condition.Not ∷ ss) stack ∙ one_on (is_true scope n row a) not stack (judge scope n row ss)
judges scope n row (And a b) ss stack = judges_two scope n row a b condition.And ◌&&◌ ss stack (λ v w. refl) (judges scope n row a) (judges scope n row b)
judges scope n row (Or a b) ss stack = judges_two scope n row a b condition.Or ◌||◌ ss stack (λ v w. refl) (judges scope n row a) (judges scope n row b)

pub truth_is : (scope : List TableSchema) (n : Option ℕ) (row : List Value) (t : ConditionTree) → truth_left scope n row (condition_tree.postfix t) ≡ is_true scope n row t
truth_is scope n row t = ap (λ x. truth_left scope n row x) (sym (append-nil (condition_tree.postfix t))) ∙ ap (λ x. x >>= last) (judges scope n row t [] []) ∙ leaves (is_true scope n row t)
