-- A condition is the only one with its steps.
use Rattle.std.specs.Prelude.{◌≡◌, Some, List, [], ◌∷◌, ◌++◌, refl}
use Rattle.std.specs.Coded.{Coded, code_by, coded_list}
use Rattle.std.proofs.Common.{◌∙◌, sym, ap, append_assoc, append-nil}
use Rattle.sql_tree.specs.contracts.condition.ConditionStep as the_step
use Rattle.sql_tree.specs.declared.condition.ConditionStep.{ConditionStep}
use Rattle.sql_tree.specs.declared.condition.ConditionStep.TheVariants as step
use Rattle.sql_tree.specs.Condition.{ConditionTree, Compare, Not, And, Or, condition_of}
use Rattle.sql_tree.specs.Condition.{goes_on, grown, only, or_any, postfix, told, tree_of}

tells_two : (a b : ConditionTree) (s : ConditionStep) (ss : List ConditionStep) (ts : List ConditionTree)
    → ((ss : List ConditionStep) (ts : List ConditionTree) → told (postfix a ++ ss) ts ≡ told ss (a ∷ ts)) →
    ((ss : List ConditionStep) (ts : List ConditionTree) → told (postfix b ++ ss) ts ≡ told ss (b ∷ ts))
    → told ((postfix a ++ (postfix b ++ s ∷ [])) ++ ss) ts ≡ goes_on (grown s (b ∷ a ∷ ts)) (told ss)
tells_two a b s ss ts ha hb =
    ap (λ x. told x ts)
    (append_assoc (postfix a) (postfix b ++ s ∷ []) ss ∙
    ap (λ x. postfix a ++ x) (append_assoc (postfix b) (s ∷ []) ss))
    ∙ ha (postfix b ++ (s ∷ ss)) ts ∙ hb (s ∷ ss) (a ∷ ts)

pub tells : (t : ConditionTree) (ss : List ConditionStep) (ts : List ConditionTree) →
    told (postfix t ++ ss) ts ≡ told ss (t ∷ ts)
tells (Compare a c b) ss ts = refl
tells (Not a) ss ts = ap (λ x. told x ts) (append_assoc (postfix a) (step.Not ∷ []) ss) ∙ tells a (step.Not ∷ ss) ts
tells (And a b) ss ts = tells_two a b step.And ss ts (tells a) (tells b)
tells (Or a b) ss ts = tells_two a b step.Or ss ts (tells a) (tells b)

pub tree_is : (t : ConditionTree) → tree_of (postfix t) ≡ Some t
tree_is t = ap tree_of (sym (append-nil (postfix t))) ∙ ap only (tells t [] [])

-- a condition is stored as its steps
abbrev pub condition_code : Coded ConditionTree
condition_code =
    code_by (List ConditionStep) (coded_list the_step.the_row.coded) postfix condition_of (λ t. ap or_any (tree_is t))
