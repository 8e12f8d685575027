-- What an action does to a draft of some shape.
use Rattle.std.proofs.Common.{◌≡◌, ◌∙◌, ℕ, suc, Option, Some, None, List, [], ◌∷◌, ◌++◌, length, refl, ap, subst, arith}
use Rattle.sql_tree.specs.Condition as condition_tree
use Rattle.sql_tree.specs.Condition.{ConditionTree}
use Rattle.sql_tree.specs.Expression as expression_tree
use Rattle.sql_tree.specs.Expression.{ExpressionTree}
use Rattle.sql_tree.specs.declared.condition.ConditionStep.{ConditionStep}
use Rattle.sql_tree.specs.declared.condition.ConditionStep.TheVariants as condition_step
use Rattle.sql_tree.specs.declared.condition.Operand.{Operand}
use Rattle.sql_tree.specs.declared.condition.Operand.TheVariants as operand'
use Rattle.sql_tree.specs.declared.expression.ExpressionStep.{ExpressionStep}
use Rattle.sql_tree.specs.declared.expression.ExpressionStep.TheVariants as step
use Rattle.sql_tree.specs.declared.expression.Operator.{Operator}
use Rattle.sql_tree.specs.declared.condition.Comparison.{Comparison}
use Rattle.sql_build.specs.declared.draft.Assembly.{Assembly}
use Rattle.sql_parts.specs.declared.action.Action.{Action}
use Rattle.sql_parts.specs.declared.action.Action.TheVariants as action
use Rattle.sql_parts.specs.declared.action.StepAction.{StepAction}
use Rattle.sql_parts.specs.declared.action.StepAction.TheVariants as step_action
use Rattle.sql_parts.specs.declared.part.Part.{Part}
use Rattle.sql_parts.specs.declared.part.Part.TheVariants as part
use Rattle.sql_build.specs.Built.{acted, compare_step, condition_ends, condition_on, expression_ends, expression_on, leaf, leaf_step, put, stepped, with_parts}
use Rattle.sql_build.specs.Parts.{line, output, query, row, select_list, table, term, update}
use Rattle.sql_parts.proofs.Common.{some_injective}
use Rattle.sql_build.proofs.Fitting.{Fits, Made, condition, expression, line_made, list_made, operand, output_made, query_made, row_made, table_made, term_made, update_made}
use Rattle.sql_build.proofs.Sorts.{Cell, Effect, Shape, alike, alike_of, from, line_pops, line_pushes, list_pops, list_pushes, output_pops, output_pushes, put_effect, query_pops, query_pushes, row_pops, row_pushes, step_effect, table_cells, term_pops, term_pushes, to, update_pops, update_pushes}
use Rattle.sql_build.proofs.Sorts as sort

-- the steps so far tell so many expressions, and so many conditions
abbrev pub Expressions : List ExpressionStep → ℕ → Type 0
Expressions ss n = (ts : List ExpressionTree) × (expression_tree.told ss [] ≡ Some ts) × (length ts ≡ n)

abbrev pub Conditions : List ConditionStep → ℕ → Type 0
Conditions ss n = (ts : List ConditionTree) × (condition_tree.told ss [] ≡ Some ts) × (length ts ≡ n)

-- a draft has a shape
pub record Has (d : Assembly) (k : Shape) : Type 0 where
  pub parts : Fits d.parts k.cells
  pub expressions : Expressions d.expression k.trees
  pub conditions : Conditions d.condition k.conditions

-- one step more of an expression
expression_ended : (x : Option (List ExpressionTree)) → expression_tree.goes_on x (λ ts. Some ts) ≡ x
expression_ended None = refl
expression_ended (Some ts) = refl

expression_carried : (x : Option (List ExpressionTree)) (f g h : List ExpressionTree → Option (List ExpressionTree)) → ((ts : List ExpressionTree) → f ts ≡ expression_tree.goes_on (g ts) h) → expression_tree.goes_on x f ≡ expression_tree.goes_on (expression_tree.goes_on x g) h
expression_carried None f g h e = refl
expression_carried (Some ts) f g h e = e ts

expression_told : (ss : List ExpressionStep) (s : ExpressionStep) (ts : List ExpressionTree) → expression_tree.told (ss ++ s ∷ []) ts ≡ expression_tree.goes_on (expression_tree.told ss ts) (expression_tree.grown s)
expression_told [] s ts = expression_ended (expression_tree.grown s ts)
expression_told (r ∷ ss) s ts = expression_carried (expression_tree.grown r ts) (expression_tree.told (ss ++ s ∷ [])) (expression_tree.told ss) (expression_tree.grown s) (expression_told ss s)

expressions_on : (ss : List ExpressionStep) (s : ExpressionStep) (n m : ℕ) → ((ts : List ExpressionTree) → length ts ≡ n → (us : List ExpressionTree) × (expression_tree.grown s ts ≡ Some us) × (length us ≡ m)) → Expressions ss n → Expressions (ss ++ s ∷ []) m
expressions_on ss s n m f h =
    let g = f h.0 h.2 in
    (g.0, expression_told ss s [] ∙ ap (λ x. expression_tree.goes_on x (expression_tree.grown s)) h.1 ∙ g.1, g.2)

leaf_grows : (a : Operand) (ts : List ExpressionTree) → (t : ExpressionTree) × (expression_tree.grown (leaf a) ts ≡ Some (t ∷ ts))
leaf_grows (operand'.Literal v) ts = (expression_tree.Literal v, refl)
leaf_grows (operand'.Column c) ts = (expression_tree.Column c, refl)
leaf_grows operand'.CurrentSnapshot ts = (expression_tree.CurrentSnapshot, refl)

leaf_on : (ss : List ExpressionStep) (a : Operand) (n : ℕ) → Expressions ss n → Expressions (ss ++ leaf a ∷ []) (suc n)
leaf_on ss a n h = expressions_on ss (leaf a) n (suc n) (λ ts e. let l = leaf_grows a ts in (l.0 ∷ ts, l.1, ap suc e)) h

apply_grows : (o : Operator) (m : ℕ) (ts : List ExpressionTree) → length ts ≡ suc (suc m) → (us : List ExpressionTree) × (expression_tree.grown (step.Apply o) ts ≡ Some us) × (length us ≡ suc m)
apply_grows o m [] e = absurd (omega (arith, e))
apply_grows o m (b ∷ []) e = absurd (omega (arith, e))
apply_grows o m (b ∷ a ∷ ts) e = (expression_tree.Apply o a b ∷ ts, refl, omega (arith, e))

only_expression : (ts : List ExpressionTree) (x : Option (List ExpressionTree)) → x ≡ Some ts → length ts ≡ 1 → (t : ExpressionTree) × (expression_tree.only x ≡ Some t)
only_expression [] x e l = absurd (omega (arith, l))
only_expression (t ∷ []) x e l = (t, ap expression_tree.only e)
only_expression (t ∷ u ∷ ts) x e l = absurd (omega (arith, l))

-- one step more of a condition
condition_ended : (x : Option (List ConditionTree)) → condition_tree.goes_on x (λ ts. Some ts) ≡ x
condition_ended None = refl
condition_ended (Some ts) = refl

condition_carried : (x : Option (List ConditionTree)) (f g h : List ConditionTree → Option (List ConditionTree)) → ((ts : List ConditionTree) → f ts ≡ condition_tree.goes_on (g ts) h) → condition_tree.goes_on x f ≡ condition_tree.goes_on (condition_tree.goes_on x g) h
condition_carried None f g h e = refl
condition_carried (Some ts) f g h e = e ts

condition_told : (ss : List ConditionStep) (s : ConditionStep) (ts : List ConditionTree) → condition_tree.told (ss ++ s ∷ []) ts ≡ condition_tree.goes_on (condition_tree.told ss ts) (condition_tree.grown s)
condition_told [] s ts = condition_ended (condition_tree.grown s ts)
condition_told (r ∷ ss) s ts = condition_carried (condition_tree.grown r ts) (condition_tree.told (ss ++ s ∷ [])) (condition_tree.told ss) (condition_tree.grown s) (condition_told ss s)

conditions_on : (ss : List ConditionStep) (s : ConditionStep) (n m : ℕ) → ((ts : List ConditionTree) → length ts ≡ n → (us : List ConditionTree) × (condition_tree.grown s ts ≡ Some us) × (length us ≡ m)) → Conditions ss n → Conditions (ss ++ s ∷ []) m
conditions_on ss s n m f h =
    let g = f h.0 h.2 in
    (g.0, condition_told ss s [] ∙ ap (λ x. condition_tree.goes_on x (condition_tree.grown s)) h.1 ∙ g.1, g.2)

not_grows : (m : ℕ) (ts : List ConditionTree) → length ts ≡ suc m → (us : List ConditionTree) × (condition_tree.grown condition_step.Not ts ≡ Some us) × (length us ≡ suc m)
not_grows m [] e = absurd (omega (arith, e))
not_grows m (a ∷ ts) e = (condition_tree.Not a ∷ ts, refl, e)

and_grows : (m : ℕ) (ts : List ConditionTree) → length ts ≡ suc (suc m) → (us : List ConditionTree) × (condition_tree.grown condition_step.And ts ≡ Some us) × (length us ≡ suc m)
and_grows m [] e = absurd (omega (arith, e))
and_grows m (b ∷ []) e = absurd (omega (arith, e))
and_grows m (b ∷ a ∷ ts) e = (condition_tree.And a b ∷ ts, refl, omega (arith, e))

or_grows : (m : ℕ) (ts : List ConditionTree) → length ts ≡ suc (suc m) → (us : List ConditionTree) × (condition_tree.grown condition_step.Or ts ≡ Some us) × (length us ≡ suc m)
or_grows m [] e = absurd (omega (arith, e))
or_grows m (b ∷ []) e = absurd (omega (arith, e))
or_grows m (b ∷ a ∷ ts) e = (condition_tree.Or a b ∷ ts, refl, omega (arith, e))

only_condition : (ts : List ConditionTree) (x : Option (List ConditionTree)) → x ≡ Some ts → length ts ≡ 1 → (t : ConditionTree) × (condition_tree.only x ≡ Some t)
only_condition [] x e l = absurd (omega (arith, l))
only_condition (t ∷ []) x e l = (t, ap condition_tree.only e)
only_condition (t ∷ u ∷ ts) x e l = absurd (omega (arith, l))

-- what an action leaves
abbrev pub Leaves : Option Assembly → Shape → Type 0
Leaves x k = (d : Assembly) × (x ≡ Some d) × Has d k

leaf_taken : (d : Assembly) (ps : List Part) (cs : List Cell) → Fits ps ((sort.Operand, 0) ∷ cs) → (a : Operand) × (rest : List Part) × (leaf_step d ps ≡ Some (expression_on (leaf a) rest d)) × Fits rest cs
leaf_taken d ps cs (operand f) = (_, _, refl, f)

compare_taken : (c : Comparison) (d : Assembly) (ps : List Part) (cs : List Cell) → Fits ps ((sort.Operand, 0) ∷ (sort.Operand, 0) ∷ cs)
    → (a : Operand) × (b : Operand) × (rest : List Part) × (compare_step c d ps ≡ Some (condition_on (condition_step.Compare a c b) rest d)) × Fits rest cs
compare_taken c d ps cs (operand (operand f)) = (_, _, _, refl, f)

step_made : (a : StepAction) (d : Assembly) (m : Shape) → Has d (from (step_effect a) m) → Leaves (stepped a d) (to (step_effect a) m)
step_made step_action.Leaf d m h =
    let l = leaf_taken d d.parts m.cells h.parts in
    (expression_on (leaf l.0) l.1 d, l.2, record { parts = l.3; expressions = leaf_on d.expression l.0 m.trees h.expressions; conditions = h.conditions })
step_made (step_action.Apply o) d m h =
    (expression_on (step.Apply o) d.parts d, refl, record { parts = h.parts; expressions = expressions_on d.expression (step.Apply o) (suc (suc m.trees)) (suc m.trees) (apply_grows o m.trees) h.expressions; conditions = h.conditions })
step_made (step_action.Compare c) d m h =
    let l = compare_taken c d d.parts m.cells h.parts in
    let s = condition_step.Compare l.0 c l.1 in
    (condition_on s l.2 d, l.3, record { parts = l.4; expressions = h.expressions; conditions = conditions_on d.condition s m.conditions (suc m.conditions) (λ ts e. (condition_tree.Compare l.0 c l.1 ∷ ts, refl, ap suc e)) h.conditions })
step_made step_action.Not d m h =
    (condition_on condition_step.Not d.parts d, refl, record { parts = h.parts; expressions = h.expressions; conditions = conditions_on d.condition condition_step.Not (suc m.conditions) (suc m.conditions) (not_grows m.conditions) h.conditions })
step_made step_action.And d m h =
    (condition_on condition_step.And d.parts d, refl, record { parts = h.parts; expressions = h.expressions; conditions = conditions_on d.condition condition_step.And (suc (suc m.conditions)) (suc m.conditions) (and_grows m.conditions) h.conditions })
step_made step_action.Or d m h =
    (condition_on condition_step.Or d.parts d, refl, record { parts = h.parts; expressions = h.expressions; conditions = conditions_on d.condition condition_step.Or (suc (suc m.conditions)) (suc m.conditions) (or_grows m.conditions) h.conditions })
step_made step_action.Expression d m h =
    let t = only_expression h.expressions.0 (expression_tree.told d.expression []) h.expressions.1 h.expressions.2 in
    (record { parts = part.Expression t.0 ∷ d.parts; expression = []; condition = d.condition }, ap (λ x. expression_ends x d) t.1, record { parts = expression h.parts; expressions = ([], refl, refl); conditions = h.conditions })
step_made step_action.Condition d m h =
    let t = only_condition h.conditions.0 (condition_tree.told d.condition []) h.conditions.1 h.conditions.2 in
    (record { parts = part.Condition (Some t.0) ∷ d.parts; expression = d.expression; condition = [] }, ap (λ x. condition_ends x d) t.1, record { parts = condition h.parts; expressions = h.expressions; conditions = ([], refl, refl) })
step_made step_action.NoCondition d m h =
    (with_parts (part.Condition None ∷ d.parts) d, refl, record { parts = condition h.parts; expressions = h.expressions; conditions = h.conditions })

parts_made : (x : Option (List Part)) (d : Assembly) (m : Shape) (pops pushes : List Cell) → Has d (from (alike pops pushes) m) → Made x (pushes ++ m.cells) → Leaves (put x d) (to (alike pops pushes) m)
parts_made x d m pops pushes h q = (with_parts q.0 d, ap (λ y. put y d) q.1, record { parts = q.2; expressions = h.expressions; conditions = h.conditions })

-- from the effect of an action to the one that is given
given : (a : Action) (d : Assembly) (m : Shape) (x y : Effect) → x ≡ y → (Has d (from x m) → Leaves (acted a d) (to x m)) → Has d (from y m) → Leaves (acted a d) (to y m)
given a d m x y e f =
    let P : Effect → Type 0 = λ z. Has d (from z m) → Leaves (acted a d) (to z m) in
    subst P e f

alike_is : (x : Option (List Cell × List Cell)) (e : Effect) → alike_of x ≡ Some e → (p : List Cell × List Cell) × (x ≡ Some p) × (alike p.0 p.1 ≡ e)
alike_is None e h = cc
alike_is (Some p) e h = (p, refl, some_injective h)

pub act_made : (n : ℕ) (a : Action) (d : Assembly) (m : Shape) (e : Effect) → put_effect n a ≡ Some e → Has d (from e m) → Leaves (acted a d) (to e m)
act_made n (action.Term a) d m e h =
    given (action.Term a) d m (alike (term_pops a) (term_pushes a)) e (some_injective h) (λ k. parts_made (term a d.parts) d m (term_pops a) (term_pushes a) k (term_made a d.parts m.cells k.parts))
act_made n (action.Row a) d m e h =
    given (action.Row a) d m (alike (row_pops a) (row_pushes a)) e (some_injective h) (λ k. parts_made (row a d.parts) d m (row_pops a) (row_pushes a) k (row_made a d.parts m.cells k.parts))
act_made n (action.Update a) d m e h =
    given (action.Update a) d m (alike (update_pops a) (update_pushes a)) e (some_injective h) (λ k. parts_made (update a d.parts) d m (update_pops a) (update_pushes a) k (update_made a d.parts m.cells k.parts))
act_made n (action.Output a) d m e h =
    given (action.Output a) d m (alike (output_pops a) (output_pushes a)) e (some_injective h) (λ k. parts_made (output a d.parts) d m (output_pops a) (output_pushes a) k (output_made a d.parts m.cells k.parts))
act_made n (action.List a) d m e h =
    given (action.List a) d m (alike (list_pops a) (list_pushes a)) e (some_injective h) (λ k. parts_made (select_list a d.parts) d m (list_pops a) (list_pushes a) k (list_made a d.parts m.cells k.parts))
act_made n (action.Query a) d m e h =
    given (action.Query a) d m (alike (query_pops a) (query_pushes a)) e (some_injective h) (λ k. parts_made (query a d.parts) d m (query_pops a) (query_pushes a) k (query_made a d.parts m.cells k.parts))
act_made n (action.Line a) d m e h =
    given (action.Line a) d m (alike (line_pops a) (line_pushes a)) e (some_injective h) (λ k. parts_made (line a d.parts) d m (line_pops a) (line_pushes a) k (line_made a d.parts m.cells k.parts))
act_made n (action.Table a) d m e h =
    let p = alike_is (table_cells n a) e h in
    given (action.Table a) d m (alike p.0.0 p.0.1) e p.2 (λ k. parts_made (table a d.parts) d m p.0.0 p.0.1 k (table_made a n d.parts m.cells p.0 p.1 k.parts))
act_made n (action.Step a) d m e h = given (action.Step a) d m (step_effect a) e (some_injective h) (step_made a d m)
