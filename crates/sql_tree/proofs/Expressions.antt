-- Steps that tell one tree are those of the tree.
use Rattle.std.proofs.Common.{◌≡◌, ◌≢◌, ◌∙◌, ℕ, Option, Some, None, List, [], ◌∷◌, ◌++◌, length, refl, sym, ap, append_assoc, append-nil}
use Rattle.std.specs.Option.{option_map}
use Rattle.sql_tree.specs.declared.expression.ExpressionStep.{ExpressionStep}
use Rattle.sql_tree.specs.declared.expression.ExpressionStep.TheVariants as step
use Rattle.sql_tree.specs.Expression.{ExpressionTree, expression_of, goes_on, grown, only, or_any, postfix, told, tree_of}
use Rattle.sql_tree.specs.Steps.{all_trees, counted, trees_behind, trees_of}

abbrev spelled : List ExpressionTree → List ExpressionStep
spelled [] = []
spelled (t ∷ ts) = spelled ts ++ postfix t

some_is : {X : Type 0} {x y : X} → Some x ≡ Some y → x ≡ y
some_is e = cc

split : {us : List ExpressionTree} (x : Option (List ExpressionTree)) (f : List ExpressionTree → Option (List ExpressionTree)) → goes_on x f ≡ Some us → (ms : List ExpressionTree) × (x ≡ Some ms) × (f ms ≡ Some us)
split None f e = cc
split (Some ms) f e = (ms, refl, e)

spells_step : (s : ExpressionStep) (ts us : List ExpressionTree) → grown s ts ≡ Some us → spelled us ≡ spelled ts ++ s ∷ []
spells_step (step.Literal v) ts us e = ap spelled (sym (some_is e))
spells_step (step.Column c) ts us e = ap spelled (sym (some_is e))
spells_step step.CurrentSnapshot ts us e = ap spelled (sym (some_is e))
spells_step (step.Apply o) [] us e = cc
spells_step (step.Apply o) (b ∷ []) us e = cc
spells_step (step.Apply o) (b ∷ a ∷ ts) us e =
    ap spelled (sym (some_is e)) ∙ sym (append_assoc (spelled ts ++ postfix a) (postfix b) (step.Apply o ∷ []) ∙ append_assoc (spelled ts) (postfix a) (postfix b ++ step.Apply o ∷ []))

spells : (ss : List ExpressionStep) (ts us : List ExpressionTree) → told ss ts ≡ Some us → spelled us ≡ spelled ts ++ ss
spells [] ts us e = ap spelled (sym (some_is e)) ∙ sym (append-nil (spelled ts))
spells (s ∷ ss) ts us e =
    let p = split (grown s ts) (told ss) e in
    spells ss p.0 us p.2 ∙ ap (λ x. x ++ ss) (spells_step s ts p.0 p.1) ∙ append_assoc (spelled ts) (s ∷ []) ss

counts_step : (s : ExpressionStep) (ts : List ExpressionTree) → option_map length (grown s ts) ≡ trees_behind s (length ts)
counts_step (step.Literal v) ts = refl
counts_step (step.Column c) ts = refl
counts_step step.CurrentSnapshot ts = refl
counts_step (step.Apply o) [] = refl
counts_step (step.Apply o) (b ∷ []) = refl
counts_step (step.Apply o) (b ∷ a ∷ ts) = refl

counts_on : (x : Option (List ExpressionTree)) (f : List ExpressionTree → Option (List ExpressionTree)) (g : ℕ → Option ℕ) → ((ts : List ExpressionTree) → option_map length (f ts) ≡ g (length ts)) → option_map length (goes_on x f) ≡ counted (option_map length x) g
counts_on None f g h = refl
counts_on (Some ts) f g h = h ts

counts : (ss : List ExpressionStep) (ts : List ExpressionTree) → option_map length (told ss ts) ≡ all_trees ss (length ts)
counts [] ts = refl
counts (s ∷ ss) ts = counts_on (grown s ts) (told ss) (all_trees ss) (counts ss) ∙ ap (λ x. counted x (all_trees ss)) (counts_step s ts)

one : (x : Option (List ExpressionTree)) → option_map length x ≡ Some 1 → x ≡ Some (or_any (only x) ∷ [])
one None e = cc
one (Some []) e = cc
one (Some (t ∷ [])) e = refl
one (Some (t ∷ u ∷ ts)) e = cc

none : (x : Option (List ExpressionTree)) → option_map length x ≢ Some 1 → only x ≡ None
none None e = refl
none (Some []) e = refl
none (Some (t ∷ [])) e = absurd (e refl)
none (Some (t ∷ u ∷ ts)) e = refl

told_one : (ss : List ExpressionStep) → trees_of ss ≡ Some 1 → told ss [] ≡ Some (expression_of ss ∷ [])
told_one ss e = one (told ss []) (counts ss [] ∙ e)

pub is_postfix : (ss : List ExpressionStep) → trees_of ss ≡ Some 1 → ss ≡ postfix (expression_of ss)
is_postfix ss e = sym (spells ss [] (expression_of ss ∷ []) (told_one ss e))

pub is_tree : (ss : List ExpressionStep) → trees_of ss ≡ Some 1 → Some (expression_of ss) ≡ tree_of ss
is_tree ss e = sym (ap only (told_one ss e))

pub is_none : (ss : List ExpressionStep) → trees_of ss ≢ Some 1 → None ≡ tree_of ss
is_none ss e = sym (none (told ss []) (λ h. e (sym (counts ss []) ∙ h)))
