-- Expressions as trees, and the steps that tell them.
use Rattle.std.specs.Prelude.{Bool, true, false, Option, Some, None, List, [], ◌∷◌, ◌++◌}
use Rattle.values.specs.declared.value.Value.{Value}
use Rattle.sql_tree.specs.declared.expression.ExpressionStep.{ExpressionStep}
use Rattle.sql_tree.specs.declared.expression.ExpressionStep.TheVariants as step
use Rattle.sql_tree.specs.declared.expression.Operator.{Operator}
use Rattle.sql_tree.specs.declared.name.ColumnName.{ColumnName}

-- an expression
pub data ExpressionTree : Type 0 where
  Literal : Value → ExpressionTree
  Column : ColumnName → ExpressionTree
  CurrentSnapshot : ExpressionTree
  Apply : Operator → ExpressionTree → ExpressionTree → ExpressionTree

-- the steps of an expression: an operator behind the steps of its two sides
abbrev pub postfix : ExpressionTree → List ExpressionStep
postfix (Literal v) = step.Literal v ∷ []
postfix (Column c) = step.Column c ∷ []
postfix CurrentSnapshot = step.CurrentSnapshot ∷ []
postfix (Apply o a b) = postfix a ++ (postfix b ++ step.Apply o ∷ [])

-- the trees after a step, the last first; an operator takes two
abbrev pub grown : ExpressionStep → List ExpressionTree → Option (List ExpressionTree)
grown (step.Literal v) ts = Some (Literal v ∷ ts)
grown (step.Column c) ts = Some (Column c ∷ ts)
grown step.CurrentSnapshot ts = Some (CurrentSnapshot ∷ ts)
grown (step.Apply o) (b ∷ a ∷ ts) = Some (Apply o a b ∷ ts)
grown (step.Apply o) _ = None

abbrev pub goes_on : Option (List ExpressionTree) → (List ExpressionTree → Option (List ExpressionTree)) →
    Option (List ExpressionTree)
goes_on None f = None
goes_on (Some ts) f = f ts

-- the trees that steps tell behind these
abbrev pub told : List ExpressionStep → List ExpressionTree → Option (List ExpressionTree)
told [] ts = Some ts
told (s ∷ ss) ts = goes_on (grown s ts) (told ss)

abbrev pub only : Option (List ExpressionTree) → Option ExpressionTree
only (Some (t ∷ [])) = Some t
only _ = None

-- the one tree that the steps tell
abbrev pub tree_of : List ExpressionStep → Option ExpressionTree
tree_of ss = only (told ss [])

abbrev pub or_any : Option ExpressionTree → ExpressionTree
or_any (Some t) = t
or_any None = CurrentSnapshot

-- the same of steps that tell one
abbrev pub expression_of : List ExpressionStep → ExpressionTree
expression_of ss = or_any (tree_of ss)

-- the column that the whole expression is
abbrev pub column_of : ExpressionTree → Option ColumnName
column_of (Column c) = Some c
column_of _ = None

-- whether the expression is a literal or the snapshot's number
abbrev pub is_constant : ExpressionTree → Bool
is_constant (Literal v) = true
is_constant CurrentSnapshot = true
is_constant _ = false
