-- The steps of a condition leave the bounds that it sets.
use Rattle.std.proofs.Common.{◌≡◌, ◌∙◌, List, [], ◌∷◌, ◌++◌, refl, sym, ap, append_assoc, append-nil}
use Rattle.sql_tree.specs.declared.condition.ConditionStep.{ConditionStep}
use Rattle.sql_tree.specs.declared.condition.ConditionStep.TheVariants as step
use Rattle.sql_tree.specs.declared.schema.TableSchema.{TableSchema}
use Rattle.sql_tree.specs.Condition.{ConditionTree, Compare, Not, And, Or, postfix}
use Rattle.sql_exec.specs.declared.bounds.BoundColumn.{BoundColumn}
use Rattle.sql_exec.specs.declared.bounds.Bounds.{Bounds}
use Rattle.sql_exec.specs.Bounds.{all_bounds, bounds_of, top}

module _ (scope : List TableSchema) (column : BoundColumn) where
  leaves-two : (a b : ConditionTree) (s : ConditionStep) (ss : List ConditionStep) (stack : List Bounds)
      → ((ss : List ConditionStep) (stack : List Bounds) → all_bounds scope column (postfix a ++ ss) stack ≡ all_bounds scope column ss (bounds_of scope column a ∷ stack))
      → ((ss : List ConditionStep) (stack : List Bounds) → all_bounds scope column (postfix b ++ ss) stack ≡ all_bounds scope column ss (bounds_of scope column b ∷ stack))
      → all_bounds scope column ((postfix a ++ (postfix b ++ s ∷ [])) ++ ss) stack ≡ all_bounds scope column (s ∷ ss) (bounds_of scope column b ∷ bounds_of scope column a ∷ stack)
  leaves-two a b s ss stack ha hb =
      ap (λ x. all_bounds scope column x stack) (append_assoc (postfix a) (postfix b ++ s ∷ []) ss ∙ ap (λ x. postfix a ++ x) (append_assoc (postfix b) (s ∷ []) ss))
      ∙ ha (postfix b ++ (s ∷ ss)) stack ∙ hb (s ∷ ss) (bounds_of scope column a ∷ stack)

  leaves : (t : ConditionTree) (ss : List ConditionStep) (stack : List Bounds) → all_bounds scope column (postfix t ++ ss) stack ≡ all_bounds scope column ss (bounds_of scope column t ∷ stack)
  leaves (Compare a c b) ss stack = refl
  leaves (Not a) ss stack = ap (λ x. all_bounds scope column x stack) (append_assoc (postfix a) (step.Not ∷ []) ss) ∙ leaves a (step.Not ∷ ss) stack
  leaves (And a b) ss stack = leaves-two a b step.And ss stack (leaves a) (leaves b)
  leaves (Or a b) ss stack = leaves-two a b step.Or ss stack (leaves a) (leaves b)

  pub bounds_left : (t : ConditionTree) → top (all_bounds scope column (postfix t) []) ≡ bounds_of scope column t
  bounds_left t = ap (λ x. top (all_bounds scope column x [])) (sym (append-nil (postfix t))) ∙ ap top (leaves t [] [])
