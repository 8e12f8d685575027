-- An expression is the only one with its steps.
use Rattle.std.specs.Prelude.{◌≡◌, Some, List, [], ◌∷◌, ◌++◌, refl}
use Rattle.std.specs.Coded.{Coded, code_by, coded_list}
use Rattle.std.proofs.Common.{◌∙◌, sym, ap, append_assoc, append-nil}
use Rattle.sql_tree.specs.contracts.expression.ExpressionStep as the_step
use Rattle.sql_tree.specs.declared.expression.ExpressionStep.{ExpressionStep}
use Rattle.sql_tree.specs.declared.expression.ExpressionStep.TheVariants as step
use Rattle.sql_tree.specs.Expression.{ExpressionTree, Literal, Column, CurrentSnapshot, Apply}
use Rattle.sql_tree.specs.Expression.{expression_of, only, or_any, postfix, told, tree_of}

pub tells : (t : ExpressionTree) (ss : List ExpressionStep) (ts : List ExpressionTree) →
    told (postfix t ++ ss) ts ≡ told ss (t ∷ ts)
tells (Literal v) ss ts = refl
tells (Column c) ss ts = refl
tells CurrentSnapshot ss ts = refl
tells (Apply o a b) ss ts =
    ap (λ x. told x ts)
    (append_assoc (postfix a) (postfix b ++ step.Apply o ∷ []) ss ∙
    ap (λ x. postfix a ++ x) (append_assoc (postfix b) (step.Apply o ∷ []) ss))
    ∙ tells a (postfix b ++ (step.Apply o ∷ ss)) ts ∙ tells b (step.Apply o ∷ ss) (a ∷ ts)

pub tree_is : (t : ExpressionTree) → tree_of (postfix t) ≡ Some t
tree_is t = ap tree_of (sym (append-nil (postfix t))) ∙ ap only (tells t [] [])

-- an expression is stored as its steps
abbrev pub expression_code : Coded ExpressionTree
expression_code =
    code_by (List ExpressionStep) (coded_list the_step.the_row.coded) postfix expression_of (λ t. ap or_any (tree_is t))
