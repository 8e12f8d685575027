-- Conditions as trees, and the steps that tell them.
use Rattle.std.specs.Prelude.{Option, Some, None, List, [], ◌∷◌, ◌++◌}
use Rattle.sql_tree.specs.declared.condition.Comparison.{Comparison}
use Rattle.sql_tree.specs.declared.condition.Comparison.TheVariants as comparison
use Rattle.sql_tree.specs.declared.condition.ConditionStep.{ConditionStep}
use Rattle.sql_tree.specs.declared.condition.ConditionStep.TheVariants as step
use Rattle.sql_tree.specs.declared.condition.Operand.{Operand}
use Rattle.sql_tree.specs.declared.condition.Operand.TheVariants as operand

-- a condition
pub data ConditionTree : Type 0 where
  Compare : Operand → Comparison → Operand → ConditionTree
  Not : ConditionTree → ConditionTree
  And : ConditionTree → ConditionTree → ConditionTree
  Or : ConditionTree → ConditionTree → ConditionTree

-- the steps of a condition: NOT behind its condition, AND and OR behind their two sides
abbrev pub postfix : ConditionTree → List ConditionStep
postfix (Compare a c b) = step.Compare a c b ∷ []
postfix (Not a) = postfix a ++ step.Not ∷ []
postfix (And a b) = postfix a ++ (postfix b ++ step.And ∷ [])
postfix (Or a b) = postfix a ++ (postfix b ++ step.Or ∷ [])

-- the trees after a step, the last first; NOT takes one, AND and OR take two
abbrev pub grown : ConditionStep → List ConditionTree → Option (List ConditionTree)
grown (step.Compare a c b) ts = Some (Compare a c b ∷ ts)
grown step.Not (a ∷ ts) = Some (Not a ∷ ts)
grown step.And (b ∷ a ∷ ts) = Some (And a b ∷ ts)
grown step.Or (b ∷ a ∷ ts) = Some (Or a b ∷ ts)
grown _ _ = None

abbrev pub goes_on : Option (List ConditionTree) → (List ConditionTree → Option (List ConditionTree)) →
    Option (List ConditionTree)
goes_on None f = None
goes_on (Some ts) f = f ts

-- the trees that steps tell behind these
abbrev pub told : List ConditionStep → List ConditionTree → Option (List ConditionTree)
told [] ts = Some ts
told (s ∷ ss) ts = goes_on (grown s ts) (told ss)

abbrev pub only : Option (List ConditionTree) → Option ConditionTree
only (Some (t ∷ [])) = Some t
only _ = None

-- the one tree that the steps tell
abbrev pub tree_of : List ConditionStep → Option ConditionTree
tree_of ss = only (told ss [])

abbrev pub or_any : Option ConditionTree → ConditionTree
or_any (Some t) = t
or_any None = Compare operand.CurrentSnapshot comparison.Equal operand.CurrentSnapshot

-- the same of steps that tell one
abbrev pub condition_of : List ConditionStep → ConditionTree
condition_of ss = or_any (tree_of ss)
