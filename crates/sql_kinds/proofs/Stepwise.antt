-- What the steps of an expression or a condition say together is what its tree says.
use Rattle.std.proofs.Common.{◌≡◌, ◌∙◌, ℕ, Bool, true, false, ◌&&◌, ◌||◌, Option, None, List, [], ◌∷◌, ◌++◌, refl, ap, sym}
use Rattle.std.specs.List.{list_any}
use Rattle.std.proofs.lemmas.List.Folds.{list_all-append, list_any-append}
use Rattle.sql_tree.specs.declared.expression.ExpressionStep.{ExpressionStep}
use Rattle.sql_tree.specs.declared.expression.ExpressionStep.TheVariants as step
use Rattle.sql_tree.specs.declared.schema.TableSchema.{TableSchema}
use Rattle.sql_tree.specs.Condition.{ConditionTree, Compare, Not, And, Or}
use Rattle.sql_tree.specs.Condition as condition
use Rattle.sql_tree.specs.Expression.{ExpressionTree, Literal, Column, CurrentSnapshot, Apply, postfix}
use Rattle.sql_kinds.specs.Expressions.{compares_apart, has_unknown, has_unknown_operand, int_if, is_int, kind_of}
use Rattle.sql_kinds.specs.Steps.{compares_apart_at, is_unknown_at, is_unknown_step, only, reckons_with_numbers, steps_kind}
use Rattle.sql_kinds.proofs.Truths.{and_true, or_false, or_same}

-- a test of two lists and of a step that fails it
any_two : {S : Type 0} (test : S → Bool) (xs ys : List S) (s : S) → test s ≡ false → list_any test (xs ++ (ys ++ s ∷ [])) ≡ list_any test xs || list_any test ys
any_two test xs ys s e =
    list_any-append test xs (ys ++ s ∷ []) ∙ ap (λ b. list_any test xs || b) (list_any-append test ys (s ∷ []) ∙ ap (λ b. list_any test ys || b) (or_false (test s) ∙ e) ∙ or_false (list_any test ys))

any_one : {S : Type 0} (test : S → Bool) (xs : List S) (s : S) → test s ≡ false → list_any test (xs ++ s ∷ []) ≡ list_any test xs
any_one test xs s e = list_any-append test xs (s ∷ []) ∙ ap (λ b. list_any test xs || b) (or_false (test s) ∙ e) ∙ or_false (list_any test xs)

pub any_unknown_step : (scope : List TableSchema) (snapshot : Option ℕ) (of : ExpressionTree) → list_any (is_unknown_step scope snapshot) (postfix of) ≡ has_unknown scope snapshot of
any_unknown_step scope snapshot (Literal v) = refl
any_unknown_step scope snapshot (Column name) = or_false _
any_unknown_step scope snapshot CurrentSnapshot = or_false _
any_unknown_step scope snapshot (Apply operator left right) =
    any_two (is_unknown_step scope snapshot) (postfix left) (postfix right) (step.Apply operator) refl
    ∙ or_same _ _ _ _ (any_unknown_step scope snapshot left) (any_unknown_step scope snapshot right)

pub any_unknown_at : (scope : List TableSchema) (snapshot : Option ℕ) (of : ConditionTree) → list_any (is_unknown_at scope snapshot) (condition.postfix of) ≡ has_unknown_operand scope snapshot of
any_unknown_at scope snapshot (Compare left comparison right) = or_false _
any_unknown_at scope snapshot (Not a) = any_one (is_unknown_at scope snapshot) (condition.postfix a) _ refl ∙ any_unknown_at scope snapshot a
any_unknown_at scope snapshot (And a b) =
    any_two (is_unknown_at scope snapshot) (condition.postfix a) (condition.postfix b) _ refl ∙ or_same _ _ _ _ (any_unknown_at scope snapshot a) (any_unknown_at scope snapshot b)
any_unknown_at scope snapshot (Or a b) =
    any_two (is_unknown_at scope snapshot) (condition.postfix a) (condition.postfix b) _ refl ∙ or_same _ _ _ _ (any_unknown_at scope snapshot a) (any_unknown_at scope snapshot b)

pub any_compares_apart_at : (scope : List TableSchema) (of : ConditionTree) → list_any (compares_apart_at scope) (condition.postfix of) ≡ compares_apart scope of
any_compares_apart_at scope (Compare left comparison right) = or_false _
any_compares_apart_at scope (Not a) = any_one (compares_apart_at scope) (condition.postfix a) _ refl ∙ any_compares_apart_at scope a
any_compares_apart_at scope (And a b) =
    any_two (compares_apart_at scope) (condition.postfix a) (condition.postfix b) _ refl ∙ or_same _ _ _ _ (any_compares_apart_at scope a) (any_compares_apart_at scope b)
any_compares_apart_at scope (Or a b) =
    any_two (compares_apart_at scope) (condition.postfix a) (condition.postfix b) _ refl ∙ or_same _ _ _ _ (any_compares_apart_at scope a) (any_compares_apart_at scope b)

int_if_is : (b : Bool) → is_int (int_if b) ≡ b
int_if_is true = refl
int_if_is false = refl

-- whether an expression is a number, told by its steps
all_numbers : (scope : List TableSchema) (of : ExpressionTree) → reckons_with_numbers scope (postfix of) ≡ is_int (kind_of scope of)
all_numbers scope (Literal v) = and_true _
all_numbers scope (Column name) = and_true _
all_numbers scope CurrentSnapshot = refl
all_numbers scope (Apply operator left right) =
    list_all-append _ (postfix left) (postfix right ++ step.Apply operator ∷ [])
    ∙ ap (λ b. reckons_with_numbers scope (postfix left) && b) (list_all-append _ (postfix right) (step.Apply operator ∷ []) ∙ and_true _)
    ∙ ap (λ b. b && reckons_with_numbers scope (postfix right)) (all_numbers scope left)
    ∙ ap (λ b. is_int (kind_of scope left) && b) (all_numbers scope right)
    ∙ sym (int_if_is _)

-- an expression begins with a step
begins : (of : ExpressionTree) → (s : ExpressionStep) × (rest : List ExpressionStep) × (postfix of ≡ s ∷ rest)
begins (Literal v) = (step.Literal v, [], refl)
begins (Column name) = (step.Column name, [], refl)
begins CurrentSnapshot = (step.CurrentSnapshot, [], refl)
begins (Apply operator left right) =
    let first = begins left in
    (first.0, first.1 ++ (postfix right ++ step.Apply operator ∷ []), ap (λ steps. steps ++ (postfix right ++ step.Apply operator ∷ [])) first.2)

only_one : {S : Type 0} (s : S) (xs ys : List S) (last : S) → only (s ∷ (xs ++ (ys ++ last ∷ []))) ≡ None
only_one s [] [] last = refl
only_one s [] (y ∷ ys) last = refl
only_one s (x ∷ xs) ys last = refl

-- the kind of an expression, told by its steps
pub steps_kind_is : (scope : List TableSchema) (of : ExpressionTree) → steps_kind scope (postfix of) ≡ kind_of scope of
steps_kind_is scope (Literal v) = refl
steps_kind_is scope (Column name) = refl
steps_kind_is scope CurrentSnapshot = refl
steps_kind_is scope (Apply operator left right) =
    let first = begins left in
    let several : only (postfix (Apply operator left right)) ≡ None = ap (λ steps. only (steps ++ (postfix right ++ step.Apply operator ∷ []))) first.2 ∙ only_one first.0 first.1 (postfix right) (step.Apply operator) in
    rw several (ap int_if (all_numbers scope (Apply operator left right) ∙ int_if_is _))
