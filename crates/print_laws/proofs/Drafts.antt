-- What the operations of a sentence build has a spelling.
use Rattle.std.proofs.Common.{◌≡◌, ◌++◌, Option, Some, None, List, [], ◌∷◌, subst}
use Rattle.std.specs.List.{AllByRecursion}
use Rattle.values.specs.Text.{IsText}
use Rattle.sql_tree.specs.Condition as condition_tree
use Rattle.sql_tree.specs.Condition.{ConditionTree}
use Rattle.sql_tree.specs.Expression as expression_tree
use Rattle.sql_tree.specs.Expression.{ExpressionTree}
use Rattle.sql_tree.specs.declared.condition.ConditionStep.{ConditionStep}
use Rattle.sql_tree.specs.declared.condition.ConditionStep.TheVariants as condition_step
use Rattle.sql_tree.specs.declared.condition.Operand.{Operand}
use Rattle.sql_tree.specs.declared.condition.Operand.TheVariants as operand
use Rattle.sql_tree.specs.declared.expression.ExpressionStep.{ExpressionStep}
use Rattle.sql_tree.specs.declared.expression.ExpressionStep.TheVariants as step
use Rattle.sql_parts.specs.declared.action.Action.{Action}
use Rattle.sql_parts.specs.declared.action.Action.TheVariants as action
use Rattle.sql_parts.specs.declared.action.Op.{Op}
use Rattle.sql_parts.specs.declared.action.Op.TheVariants as op
use Rattle.sql_parts.specs.declared.action.StepAction.{StepAction}
use Rattle.sql_parts.specs.declared.action.StepAction.TheVariants as step_action
use Rattle.sql_parts.specs.declared.parsed.Parsed.{Parsed}
use Rattle.sql_parts.specs.declared.part.Part.{Part}
use Rattle.sql_parts.specs.Taking.{a_line, an_operand}
use Rattle.sql_build.specs.declared.draft.Assembly.{Assembly}
use Rattle.sql_build.specs.Built.{acted, all_taken, alone, built, condition_ends, empty, expression_ends, finished, goes_on, leaf, put, said, stepped, taken}
use Rattle.print_laws.proofs.Contents.{ArgumentFits, ColumnFits, ConditionFits, DigitsFit, ExpressionFits, LineFits, NameFits, OperandFits, Optional, PartsFit, ValueFits}
use Rattle.print_laws.proofs.Keeping.{Kept, all_on, goes_on_with, got_line, got_operand, kept, line_kept, list_kept, nothing, output_kept, query_kept, row_kept, table_kept, term_kept, update_kept}

abbrev StepFits : ExpressionStep → Type 0
StepFits (step.Literal v) = ValueFits v
StepFits (step.Column c) = ColumnFits c
StepFits step.CurrentSnapshot = Unit {0}
StepFits (step.Apply o) = Unit {0}

abbrev JudgeFits : ConditionStep → Type 0
JudgeFits (condition_step.Compare a c b) = OperandFits a × OperandFits b
JudgeFits _ = Unit {0}

record DraftFits (d : Assembly) : Type 0 where
  parts : PartsFit d.parts
  expression : AllByRecursion StepFits d.expression
  condition : AllByRecursion JudgeFits d.condition

-- what was built so far, if anything was
data KeptDraft : Option Assembly → Type 0 where
  gone : KeptDraft None
  kept_draft : {d : Assembly} → DraftFits d → KeptDraft (Some d)

leaf_fits : (o : Operand) → OperandFits o → StepFits (leaf o)
leaf_fits (operand.Literal v) h = h
leaf_fits (operand.Column c) h = h
leaf_fits operand.CurrentSnapshot h = tt

-- the tree that steps tell
expression_grown : (s : ExpressionStep) (ts : List ExpressionTree) → StepFits s → AllByRecursion ExpressionFits ts → Optional (AllByRecursion ExpressionFits) (expression_tree.grown s ts)
expression_grown (step.Literal v) ts f h = (f, h)
expression_grown (step.Column c) ts f h = (f, h)
expression_grown step.CurrentSnapshot ts f h = (tt, h)
expression_grown (step.Apply o) [] f h = tt
expression_grown (step.Apply o) (b ∷ []) f h = tt
expression_grown (step.Apply o) (b ∷ a ∷ ts) f h = ((h.1.0, h.0), h.1.1)

expressions_go_on : (x : Option (List ExpressionTree)) (f : List ExpressionTree → Option (List ExpressionTree)) → Optional (AllByRecursion ExpressionFits) x → ((ts : List ExpressionTree) → AllByRecursion ExpressionFits ts → Optional (AllByRecursion ExpressionFits) (f ts)) → Optional (AllByRecursion ExpressionFits) (expression_tree.goes_on x f)
expressions_go_on None f h g = tt
expressions_go_on (Some ts) f h g = g ts h

expressions_told : (ss : List ExpressionStep) (ts : List ExpressionTree) → AllByRecursion StepFits ss → AllByRecursion ExpressionFits ts → Optional (AllByRecursion ExpressionFits) (expression_tree.told ss ts)
expressions_told [] ts f h = h
expressions_told (s ∷ ss) ts f h = expressions_go_on (expression_tree.grown s ts) (expression_tree.told ss) (expression_grown s ts f.0 h) (λ us g. expressions_told ss us f.1 g)

only_expression : (x : Option (List ExpressionTree)) → Optional (AllByRecursion ExpressionFits) x → Optional ExpressionFits (expression_tree.only x)
only_expression None h = tt
only_expression (Some []) h = tt
only_expression (Some (t ∷ [])) h = h.0
only_expression (Some (t ∷ u ∷ us)) h = tt

condition_grown : (s : ConditionStep) (ts : List ConditionTree) → JudgeFits s → AllByRecursion ConditionFits ts → Optional (AllByRecursion ConditionFits) (condition_tree.grown s ts)
condition_grown (condition_step.Compare a c b) ts f h = (f, h)
condition_grown condition_step.Not [] f h = tt
condition_grown condition_step.Not (a ∷ ts) f h = h
condition_grown condition_step.And [] f h = tt
condition_grown condition_step.And (b ∷ []) f h = tt
condition_grown condition_step.And (b ∷ a ∷ ts) f h = ((h.1.0, h.0), h.1.1)
condition_grown condition_step.Or [] f h = tt
condition_grown condition_step.Or (b ∷ []) f h = tt
condition_grown condition_step.Or (b ∷ a ∷ ts) f h = ((h.1.0, h.0), h.1.1)

conditions_go_on : (x : Option (List ConditionTree)) (f : List ConditionTree → Option (List ConditionTree)) → Optional (AllByRecursion ConditionFits) x → ((ts : List ConditionTree) → AllByRecursion ConditionFits ts → Optional (AllByRecursion ConditionFits) (f ts)) → Optional (AllByRecursion ConditionFits) (condition_tree.goes_on x f)
conditions_go_on None f h g = tt
conditions_go_on (Some ts) f h g = g ts h

conditions_told : (ss : List ConditionStep) (ts : List ConditionTree) → AllByRecursion JudgeFits ss → AllByRecursion ConditionFits ts → Optional (AllByRecursion ConditionFits) (condition_tree.told ss ts)
conditions_told [] ts f h = h
conditions_told (s ∷ ss) ts f h = conditions_go_on (condition_tree.grown s ts) (condition_tree.told ss) (condition_grown s ts f.0 h) (λ us g. conditions_told ss us f.1 g)

only_condition : (x : Option (List ConditionTree)) → Optional (AllByRecursion ConditionFits) x → Optional ConditionFits (condition_tree.only x)
only_condition None h = tt
only_condition (Some []) h = tt
only_condition (Some (t ∷ [])) h = h.0
only_condition (Some (t ∷ u ∷ us)) h = tt

expression_kept : (t : Option ExpressionTree) (d : Assembly) → Optional ExpressionFits t → DraftFits d → KeptDraft (expression_ends t d)
expression_kept None d f h = gone
expression_kept (Some t) d f h = kept_draft (record { parts = (f, h.parts); expression = tt; condition = h.condition })

condition_kept : (t : Option ConditionTree) (d : Assembly) → Optional ConditionFits t → DraftFits d → KeptDraft (condition_ends t d)
condition_kept None d f h = gone
condition_kept (Some t) d f h = kept_draft (record { parts = (f, h.parts); expression = h.expression; condition = tt })

judged : (s : ConditionStep) (d : Assembly) (ps : List Part) → JudgeFits s → PartsFit ps → DraftFits d → KeptDraft (Some (record { parts = ps; expression = d.expression; condition = d.condition ++ s ∷ [] }))
judged s d ps f g h = kept_draft (record { parts = g; expression = h.expression; condition = all_on JudgeFits d.condition s h.condition f })

-- each operation keeps what fits
step_kept : (a : StepAction) (d : Assembly) → DraftFits d → KeptDraft (stepped a d)
step_kept step_action.Leaf d h =
    goes_on_with KeptDraft gone OperandFits (an_operand d.parts) _ (got_operand d.parts h.parts)
    (λ o ps f g. kept_draft (record { parts = g; expression = all_on StepFits d.expression (leaf o) h.expression (leaf_fits o f); condition = h.condition }))
step_kept (step_action.Apply o) d h = kept_draft (record { parts = h.parts; expression = all_on StepFits d.expression (step.Apply o) h.expression tt; condition = h.condition })
step_kept (step_action.Compare c) d h =
    goes_on_with KeptDraft gone OperandFits (an_operand d.parts) _ (got_operand d.parts h.parts)
    (λ b ps f g. goes_on_with KeptDraft gone OperandFits (an_operand ps) _ (got_operand ps g) (λ a qs x y. judged (condition_step.Compare a c b) d qs (x, f) y h))
step_kept step_action.Not d h = judged condition_step.Not d d.parts tt h.parts h
step_kept step_action.And d h = judged condition_step.And d d.parts tt h.parts h
step_kept step_action.Or d h = judged condition_step.Or d d.parts tt h.parts h
step_kept step_action.Expression d h = expression_kept (expression_tree.tree_of d.expression) d (only_expression (expression_tree.told d.expression []) (expressions_told d.expression [] h.expression tt)) h
step_kept step_action.Condition d h = condition_kept (condition_tree.tree_of d.condition) d (only_condition (condition_tree.told d.condition []) (conditions_told d.condition [] h.condition tt)) h
step_kept step_action.NoCondition d h = kept_draft (record { parts = (tt, h.parts); expression = h.expression; condition = h.condition })

put_kept : {x : Option (List Part)} (d : Assembly) → DraftFits d → Kept x → KeptDraft (put x d)
put_kept d h nothing = gone
put_kept d h (kept f) = kept_draft (record { parts = f; expression = h.expression; condition = h.condition })

act_kept : (a : Action) (d : Assembly) → DraftFits d → KeptDraft (acted a d)
act_kept (action.Term a) d h = put_kept d h (term_kept a d.parts h.parts)
act_kept (action.Step a) d h = step_kept a d h
act_kept (action.Table a) d h = put_kept d h (table_kept a d.parts h.parts)
act_kept (action.Row a) d h = put_kept d h (row_kept a d.parts h.parts)
act_kept (action.Update a) d h = put_kept d h (update_kept a d.parts h.parts)
act_kept (action.Output a) d h = put_kept d h (output_kept a d.parts h.parts)
act_kept (action.List a) d h = put_kept d h (list_kept a d.parts h.parts)
act_kept (action.Query a) d h = put_kept d h (query_kept a d.parts h.parts)
act_kept (action.Line a) d h = put_kept d h (line_kept a d.parts h.parts)

-- what a token puts out has a spelling
abbrev pub OpFits : Op → Type 0
OpFits (op.Name n) = NameFits n
OpFits (op.Integer n) = DigitsFit n
OpFits (op.Text t) = IsText t
OpFits (op.LongText t) = ArgumentFits t
OpFits (op.Act a) = Unit {0}

op_kept : (o : Op) (d : Assembly) → OpFits o → DraftFits d → KeptDraft (taken o d)
op_kept (op.Name n) d f h = kept_draft (record { parts = (f, h.parts); expression = h.expression; condition = h.condition })
op_kept (op.Integer n) d f h = kept_draft (record { parts = (f, h.parts); expression = h.expression; condition = h.condition })
op_kept (op.Text t) d f h = kept_draft (record { parts = (f, h.parts); expression = h.expression; condition = h.condition })
op_kept (op.LongText t) d f h = kept_draft (record { parts = (f, h.parts); expression = h.expression; condition = h.condition })
op_kept (op.Act a) d f h = act_kept a d h

goes_on_kept : {x : Option Assembly} (f : Assembly → Option Assembly) → KeptDraft x → ((d : Assembly) → DraftFits d → KeptDraft (f d)) → KeptDraft (goes_on x f)
goes_on_kept f gone g = gone
goes_on_kept f (kept_draft {d} h) g = g d h

all_kept : (os : List Op) (d : Assembly) → AllByRecursion OpFits os → DraftFits d → KeptDraft (all_taken os d)
all_kept [] d f h = kept_draft h
all_kept (o ∷ os) d f h = goes_on_kept (all_taken os) (op_kept o d f.0 h) (λ e g. all_kept os e f.1 g)

alone_fits : (p : Parsed) (ps : List Part) → LineFits p → Optional LineFits (alone p ps)
alone_fits p [] h = h
alone_fits p (other ∷ others) h = tt

said_fits : (ps : List Part) → PartsFit ps → Optional LineFits (said ps)
said_fits ps h = goes_on_with (Optional LineFits) tt LineFits (a_line ps) _ (got_line ps h) (λ p qs f g. alone_fits p qs f)

finished_fits : {x : Option Assembly} → KeptDraft x → Optional LineFits (finished x)
finished_fits gone = tt
finished_fits (kept_draft {d} h) = said_fits d.parts h.parts

pub built_fits : (os : List Op) (p : Parsed) → AllByRecursion OpFits os → built os ≡ Some p → LineFits p
built_fits os p f e = subst (Optional LineFits) e (finished_fits (all_kept os empty f (record { parts = tt; expression = tt; condition = tt })))
