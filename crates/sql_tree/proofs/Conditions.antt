-- Steps that tell one tree are those of the tree.
use Rattle.std.proofs.Common.{◌≡◌, ◌≢◌, ◌∙◌, ℕ, Option, Some, None, List, [], ◌∷◌, ◌++◌, length, refl, sym, ap, append_assoc, append-nil}
use Rattle.std.specs.Option.{option_map}
use Rattle.sql_tree.specs.declared.condition.ConditionStep.{ConditionStep}
use Rattle.sql_tree.specs.declared.condition.ConditionStep.TheVariants as step
use Rattle.sql_tree.specs.Condition.{ConditionTree, And, Or, condition_of, goes_on, grown, only, or_any, postfix, told, tree_of}
use Rattle.sql_tree.specs.Steps.{all_conditions, counted, conditions_behind, conditions_of}

abbrev spelled : List ConditionTree → List ConditionStep
spelled [] = []
spelled (t ∷ ts) = spelled ts ++ postfix t

some_is : {X : Type 0} {x y : X} → Some x ≡ Some y → x ≡ y
some_is e = cc

split : {us : List ConditionTree} (x : Option (List ConditionTree)) (f : List ConditionTree → Option (List ConditionTree)) → goes_on x f ≡ Some us → (ms : List ConditionTree) × (x ≡ Some ms) × (f ms ≡ Some us)
split None f e = cc
split (Some ms) f e = (ms, refl, e)

spells_two : (s : ConditionStep) (t a b : ConditionTree) (ts us : List ConditionTree) → postfix t ≡ postfix a ++ (postfix b ++ s ∷ []) → Some (t ∷ ts) ≡ Some us → spelled us ≡ spelled (b ∷ a ∷ ts) ++ s ∷ []
spells_two s t a b ts us p e =
    ap spelled (sym (some_is e)) ∙ ap (λ x. spelled ts ++ x) p ∙ sym (append_assoc (spelled ts ++ postfix a) (postfix b) (s ∷ []) ∙ append_assoc (spelled ts) (postfix a) (postfix b ++ s ∷ []))

spells_step : (s : ConditionStep) (ts us : List ConditionTree) → grown s ts ≡ Some us → spelled us ≡ spelled ts ++ s ∷ []
spells_step (step.Compare a c b) ts us e = ap spelled (sym (some_is e))
spells_step step.Not [] us e = cc
spells_step step.Not (a ∷ ts) us e = ap spelled (sym (some_is e)) ∙ sym (append_assoc (spelled ts) (postfix a) (step.Not ∷ []))
spells_step step.And [] us e = cc
spells_step step.And (b ∷ []) us e = cc
spells_step step.And (b ∷ a ∷ ts) us e = spells_two step.And (And a b) a b ts us refl e
spells_step step.Or [] us e = cc
spells_step step.Or (b ∷ []) us e = cc
spells_step step.Or (b ∷ a ∷ ts) us e = spells_two step.Or (Or a b) a b ts us refl e

spells : (ss : List ConditionStep) (ts us : List ConditionTree) → told ss ts ≡ Some us → spelled us ≡ spelled ts ++ ss
spells [] ts us e = ap spelled (sym (some_is e)) ∙ sym (append-nil (spelled ts))
spells (s ∷ ss) ts us e =
    let p = split (grown s ts) (told ss) e in
    spells ss p.0 us p.2 ∙ ap (λ x. x ++ ss) (spells_step s ts p.0 p.1) ∙ append_assoc (spelled ts) (s ∷ []) ss

counts_step : (s : ConditionStep) (ts : List ConditionTree) → option_map length (grown s ts) ≡ conditions_behind s (length ts)
counts_step (step.Compare a c b) ts = refl
counts_step step.Not [] = refl
counts_step step.Not (a ∷ ts) = refl
counts_step step.And [] = refl
counts_step step.And (b ∷ []) = refl
counts_step step.And (b ∷ a ∷ ts) = refl
counts_step step.Or [] = refl
counts_step step.Or (b ∷ []) = refl
counts_step step.Or (b ∷ a ∷ ts) = refl

counts_on : (x : Option (List ConditionTree)) (f : List ConditionTree → Option (List ConditionTree)) (g : ℕ → Option ℕ) → ((ts : List ConditionTree) → option_map length (f ts) ≡ g (length ts)) → option_map length (goes_on x f) ≡ counted (option_map length x) g
counts_on None f g h = refl
counts_on (Some ts) f g h = h ts

counts : (ss : List ConditionStep) (ts : List ConditionTree) → option_map length (told ss ts) ≡ all_conditions ss (length ts)
counts [] ts = refl
counts (s ∷ ss) ts = counts_on (grown s ts) (told ss) (all_conditions ss) (counts ss) ∙ ap (λ x. counted x (all_conditions ss)) (counts_step s ts)

one : (x : Option (List ConditionTree)) → option_map length x ≡ Some 1 → x ≡ Some (or_any (only x) ∷ [])
one None e = cc
one (Some []) e = cc
one (Some (t ∷ [])) e = refl
one (Some (t ∷ u ∷ ts)) e = cc

none : (x : Option (List ConditionTree)) → option_map length x ≢ Some 1 → only x ≡ None
none None e = refl
none (Some []) e = refl
none (Some (t ∷ [])) e = absurd (e refl)
none (Some (t ∷ u ∷ ts)) e = refl

told_one : (ss : List ConditionStep) → conditions_of ss ≡ Some 1 → told ss [] ≡ Some (condition_of ss ∷ [])
told_one ss e = one (told ss []) (counts ss [] ∙ e)

pub is_postfix : (ss : List ConditionStep) → conditions_of ss ≡ Some 1 → ss ≡ postfix (condition_of ss)
is_postfix ss e = sym (spells ss [] (condition_of ss ∷ []) (told_one ss e))

pub is_tree : (ss : List ConditionStep) → conditions_of ss ≡ Some 1 → Some (condition_of ss) ≡ tree_of ss
is_tree ss e = sym (ap only (told_one ss e))

pub is_none : (ss : List ConditionStep) → conditions_of ss ≢ Some 1 → None ≡ tree_of ss
is_none ss e = sym (none (told ss []) (λ h. e (sym (counts ss []) ∙ h)))
