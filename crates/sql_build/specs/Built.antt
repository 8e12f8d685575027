-- What the operations of a sentence build.
use Rattle.std.specs.Prelude.{◌++◌, Option, Some, None, List, [], ◌∷◌}
use Rattle.sql_tree.specs.declared.condition.Comparison.{Comparison}
use Rattle.sql_tree.specs.declared.condition.ConditionStep.{ConditionStep}
use Rattle.sql_tree.specs.declared.condition.ConditionStep.TheVariants as condition_step
use Rattle.sql_tree.specs.declared.condition.Operand.{Operand as Operand'}
use Rattle.sql_tree.specs.declared.condition.Operand.TheVariants as operand
use Rattle.sql_tree.specs.declared.expression.ExpressionStep.{ExpressionStep}
use Rattle.sql_tree.specs.declared.expression.ExpressionStep.TheVariants as step
use Rattle.sql_tree.specs.Condition.{ConditionTree}
use Rattle.sql_tree.specs.Condition as condition
use Rattle.sql_tree.specs.Expression.{ExpressionTree}
use Rattle.sql_tree.specs.Expression as expression
use Rattle.sql_build.specs.declared.draft.Assembly.{Assembly}
use Rattle.sql_parts.specs.declared.action.Action.{Action}
use Rattle.sql_parts.specs.declared.action.Action.TheVariants.{Term, Step, Table, Row, Update, Output}
use Rattle.sql_parts.specs.declared.action.Action.TheVariants.{List as ListAction, Query, Line}
use Rattle.sql_parts.specs.declared.action.Op.{Op}
use Rattle.sql_parts.specs.declared.action.Op.TheVariants as op
use Rattle.sql_parts.specs.declared.action.StepAction.{StepAction}
use Rattle.sql_parts.specs.declared.action.StepAction.TheVariants.{Leaf, Apply, Compare, Not, And, Or}
use Rattle.sql_parts.specs.declared.action.StepAction.TheVariants.{Expression, Condition, NoCondition}
use Rattle.sql_parts.specs.declared.parsed.Parsed.{Parsed}
use Rattle.sql_parts.specs.declared.part.Part.{Part}
use Rattle.sql_parts.specs.declared.part.Part.TheVariants as part
use Rattle.sql_parts.specs.Taking.{◌>>=◌, a_line, an_operand}
use Rattle.sql_build.specs.Parts.{line, output, query, row, select_list, table, term, update}

-- nothing yet
abbrev pub empty : Assembly
empty = record { parts = []; expression = []; condition = [] }

abbrev pub with_parts : List Part → Assembly → Assembly
with_parts ps d = record { parts = ps; expression = d.expression; condition = d.condition }

abbrev pub leaf : Operand' → ExpressionStep
leaf (operand.Literal v) = step.Literal v
leaf (operand.Column c) = step.Column c
leaf operand.CurrentSnapshot = step.CurrentSnapshot

-- an expression goes on by a step
abbrev pub expression_on : ExpressionStep → List Part → Assembly → Assembly
expression_on s ps d = record { parts = ps; expression = d.expression ++ s ∷ []; condition = d.condition }

-- a condition goes on by a step
abbrev pub condition_on : ConditionStep → List Part → Assembly → Assembly
condition_on s ps d = record { parts = ps; expression = d.expression; condition = d.condition ++ s ∷ [] }

-- an expression is over where its steps tell one
abbrev pub expression_ends : Option ExpressionTree → Assembly → Option Assembly
expression_ends None d = None
expression_ends (Some t) d =
    Some (record { parts = part.Expression t ∷ d.parts; expression = []; condition = d.condition })

-- a condition is over where its steps tell one
abbrev pub condition_ends : Option ConditionTree → Assembly → Option Assembly
condition_ends None d = None
condition_ends (Some t) d =
    Some (record { parts = part.Condition (Some t) ∷ d.parts; expression = d.expression; condition = [] })

abbrev pub leaf_step : Assembly → List Part → Option Assembly
leaf_step d = do
  a ← an_operand
  (λ ps. Some (expression_on (leaf a) ps d))

abbrev pub compare_step : Comparison → Assembly → List Part → Option Assembly
compare_step c d = do
  b ← an_operand
  a ← an_operand
  (λ ps. Some (condition_on (condition_step.Compare a c b) ps d))

-- The steps of an expression and of a condition come in postfix order.
abbrev pub stepped : StepAction → Assembly → Option Assembly
stepped Leaf d = leaf_step d d.parts
stepped (Apply o) d = Some (expression_on (step.Apply o) d.parts d)
stepped (Compare c) d = compare_step c d d.parts
stepped Not d = Some (condition_on condition_step.Not d.parts d)
stepped And d = Some (condition_on condition_step.And d.parts d)
stepped Or d = Some (condition_on condition_step.Or d.parts d)
stepped Expression d = expression_ends (expression.tree_of d.expression) d
stepped Condition d = condition_ends (condition.tree_of d.condition) d
stepped NoCondition d = Some (with_parts (part.Condition None ∷ d.parts) d)

abbrev pub put : Option (List Part) → Assembly → Option Assembly
put None d = None
put (Some ps) d = Some (with_parts ps d)

abbrev pub acted : Action → Assembly → Option Assembly
acted (Term a) d = put (term a d.parts) d
acted (Step a) d = stepped a d
acted (Table a) d = put (table a d.parts) d
acted (Row a) d = put (row a d.parts) d
acted (Update a) d = put (update a d.parts) d
acted (Output a) d = put (output a d.parts) d
acted (ListAction a) d = put (select_list a d.parts) d
acted (Query a) d = put (query a d.parts) d
acted (Line a) d = put (line a d.parts) d

-- after an operation
abbrev pub taken : Op → Assembly → Option Assembly
taken (op.Name n) d = Some (with_parts (part.Name n ∷ d.parts) d)
taken (op.Integer i) d = Some (with_parts (part.Number i ∷ d.parts) d)
taken (op.Text t) d = Some (with_parts (part.Text t ∷ d.parts) d)
taken (op.LongText t) d = Some (with_parts (part.Argument t ∷ d.parts) d)
taken (op.Act a) d = acted a d

abbrev pub goes_on : Option Assembly → (Assembly → Option Assembly) → Option Assembly
goes_on None f = None
goes_on (Some d) f = f d

abbrev pub all_taken : List Op → Assembly → Option Assembly
all_taken [] d = Some d
all_taken (o ∷ os) d = goes_on (taken o d) (all_taken os)

-- the line that is left alone
abbrev pub alone : Parsed → List Part → Option Parsed
alone p [] = Some p
alone p (other ∷ others) = None

abbrev pub said : List Part → Option Parsed
said = do
  p ← a_line
  alone p

abbrev pub finished : Option Assembly → Option Parsed
finished None = None
finished (Some d) = said d.parts

-- what a sentence says
abbrev pub built : List Op → Option Parsed
built os = finished (all_taken os empty)
