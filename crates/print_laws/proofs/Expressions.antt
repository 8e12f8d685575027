-- Literals, columns, operands and expressions are read back.
use Rattle.std.proofs.Common.{◌≡◌, ◌∙◌, ◌++◌, ℕ, pos, negsuc, Bool, true, false, Option, Some, None, List, [], ◌∷◌, nat_le, length, refl, ap, subst, sym, append_assoc, if◌then◌else◌}
use Rattle.values.specs.declared.value.Value.{Value}
use Rattle.values.specs.declared.value.Value.TheVariants as value
use Rattle.sql_tree.specs.Expression.{ExpressionTree, Literal, Column, CurrentSnapshot, Apply, postfix}
use Rattle.sql_tree.specs.ExpressionCode.{tree_is}
use Rattle.sql_tree.specs.declared.condition.Operand.{Operand}
use Rattle.sql_tree.specs.declared.condition.Operand.TheVariants as operand'
use Rattle.sql_tree.specs.declared.expression.ExpressionStep.{ExpressionStep}
use Rattle.sql_tree.specs.declared.expression.ExpressionStep.TheVariants as step
use Rattle.sql_tree.specs.declared.expression.Operator.{Operator}
use Rattle.sql_tree.specs.declared.expression.Operator.TheVariants as operator
use Rattle.sql_tree.specs.declared.name.ColumnName.{ColumnName}
use Rattle.sql_lexer.specs.declared.token.Sign.TheVariants as sign
use Rattle.sql_lexer.specs.declared.token.Token.{Token}
use Rattle.sql_lexer.specs.declared.token.Token.TheVariants as token
use Rattle.sql_parts.specs.declared.action.Action.TheVariants as action
use Rattle.sql_grammar.specs.declared.grammar.Class.TheVariants as class
use Rattle.sql_grammar.specs.declared.grammar.Rule.TheVariants as rule
use Rattle.sql_parts.specs.declared.action.StepAction.TheVariants as step_action
use Rattle.sql_grammar.specs.declared.grammar.Symbol.{Symbol}
use Rattle.sql_grammar.specs.declared.grammar.Symbol.TheVariants.{Put, Use}
use Rattle.sql_grammar.specs.Grammar.{class_of}
use Rattle.sql_parts.specs.declared.parsed.Parsed.{Parsed}
use Rattle.sql_parts.specs.declared.part.Part.{Part}
use Rattle.sql_parts.specs.declared.part.Part.TheVariants as part
use Rattle.sql_build.specs.declared.draft.Assembly.{Assembly}
use Rattle.sql_build.specs.Built.{expression_ends, expression_on, leaf}
use Rattle.print_laws.specs.Printed.{column, column_of, expression, literal, mark, operand}
use Rattle.print_laws.proofs.Leads.{Leads, by_side, clean, push, puts, takes}

text_class : (b : Bool) (t : List ℕ) → nat_le (length t) 64 ≡ b → class_of (token.Text t) ≡ (if b then class.ShortText else class.Text)
text_class b t e = ap (λ x. if x then class.ShortText else class.Text) e

text_by : (b : Bool) (t : List ℕ) {ss : List Symbol} {ts : List Token} {d : Assembly} {p : Parsed} → nat_le (length t) 64 ≡ b
    → Leads ss ts (Some (push (part.Literal (value.Text t)) d)) p → Leads (Use rule.Literal ∷ ss) (token.Text t ∷ ts) (Some d) p
text_by true t e l = by_side 2 (takes (text_class true t e) (puts l))
text_by false t e l = by_side 3 (takes (text_class false t e) (puts l))

pub reads_literal : (v : Value) {ss : List Symbol} {ts : List Token} {d : Assembly} {p : Parsed} → Leads ss ts (Some (push (part.Literal v) d)) p → Leads (Use rule.Literal ∷ ss) (literal v ts) (Some d) p
reads_literal (value.Int (pos n)) l = by_side 0 (takes refl (puts l))
reads_literal (value.Int (negsuc n)) l = by_side 1 (takes refl (takes refl (puts l)))
reads_literal (value.Text t) l = text_by (nat_le (length t) 64) t refl l

column_by : (t : Option (List ℕ)) (c : List ℕ) {ss : List Symbol} {ts : List Token} {d : Assembly} {p : Parsed}
    → Leads ss ts (Some (push (part.ColumnName (record { table = t; column = c })) d)) p → Leads (Use rule.ColumnName ∷ ss) (column_of t c ts) (Some d) p
column_by None c l = by_side 0 (takes refl (by_side 1 (puts l)))
column_by (Some t) c l = by_side 0 (takes refl (by_side 0 (takes refl (takes refl (puts l)))))

pub reads_column : (c : ColumnName) {ss : List Symbol} {ts : List Token} {d : Assembly} {p : Parsed} → Leads ss ts (Some (push (part.ColumnName c) d)) p → Leads (Use rule.ColumnName ∷ ss) (column c ts) (Some d) p
reads_column c l = column_by c.table c.column l

pub reads_operand : (o : Operand) {ss : List Symbol} {ts : List Token} {d : Assembly} {p : Parsed} → Leads ss ts (Some (push (part.Operand o) d)) p → Leads (Use rule.Operand ∷ ss) (operand o ts) (Some d) p
reads_operand (operand'.Literal v) l = by_side 2 (reads_literal v (puts l))
reads_operand (operand'.Column c) l = by_side 1 (reads_column c (puts l))
reads_operand operand'.CurrentSnapshot l = by_side 0 (takes refl (takes refl (takes refl (puts l))))

-- a draft whose expression goes on
abbrev on : List ExpressionStep → Assembly → Assembly
on steps d = record { parts = d.parts; expression = d.expression ++ steps; condition = d.condition }

-- the expression is read back wherever it may stand
record IsReadBack (e : ExpressionTree) : Type 0 where
  factor : (ss : List Symbol) (ts : List Token) (d : Assembly) (p : Parsed) → Leads ss ts (Some (on (postfix e) d)) p → Leads (Use rule.Factor ∷ ss) (expression 2 e ts) (Some d) p
  term : (ss : List Symbol) (ts : List Token) (d : Assembly) (p : Parsed) → Leads (Use rule.MoreFactors ∷ ss) ts (Some (on (postfix e) d)) p → Leads (Use rule.Term ∷ ss) (expression 1 e ts) (Some d) p
  whole : (ss : List Symbol) (ts : List Token) (d : Assembly) (p : Parsed) → Leads (Use rule.MoreTerms ∷ ss) ts (Some (on (postfix e) d)) p → Leads (Use rule.Expression ∷ ss) (expression 0 e ts) (Some d) p

reads_leaf : (o : Operand) (ss : List Symbol) (ts : List Token) (d : Assembly) (p : Parsed) → Leads ss ts (Some (on (leaf o ∷ []) d)) p → Leads (Use rule.Factor ∷ ss) (operand o ts) (Some d) p
reads_leaf o ss ts d p l = by_side 1 (reads_operand o (puts (on_leaf o l)))
  where
    on_leaf : (o : Operand) → Leads ss ts (Some (on (leaf o ∷ []) d)) p → Leads ss ts (Some (expression_on (leaf o) d.parts (push (part.Operand o) d))) p
    on_leaf o l = l

-- behind both sides an operator
pub both : {X : Type 0} (xs ys zs : List X) (y : X) → xs ++ (ys ++ (zs ++ y ∷ [])) ≡ ((xs ++ ys) ++ zs) ++ y ∷ []
both xs ys zs y = sym (append_assoc xs ys (zs ++ y ∷ [])) ∙ sym (append_assoc (xs ++ ys) zs (y ∷ []))

applied : (o : Operator) (a b : ExpressionTree) (ss : List Symbol) (ts : List Token) (d : Assembly) (p : Parsed)
    → Leads ss ts (Some (on (postfix (Apply o a b)) d)) p → Leads ss ts (Some (on (step.Apply o ∷ []) (on (postfix b) (on (postfix a) d)))) p
applied o a b ss ts d p l =
    let P : List ExpressionStep → Type 0 = λ es. Leads ss ts (Some (record { parts = d.parts; expression = es; condition = d.condition })) p in
    subst P (both d.expression (postfix a) (postfix b) (step.Apply o)) l

reads_sum : (a b : ExpressionTree) → IsReadBack a → IsReadBack b → (ss : List Symbol) (ts : List Token) (d : Assembly) (p : Parsed)
    → Leads (Use rule.MoreTerms ∷ ss) ts (Some (on (postfix (Apply operator.Add a b)) d)) p
    → Leads (Use rule.Expression ∷ ss) (expression 0 a (mark sign.Plus (expression 1 b ts))) (Some d) p
reads_sum a b ra rb ss ts d p l =
    ra.whole ss _ d p (by_side 0 (takes refl (rb.term (Put (action.Step (step_action.Apply operator.Add)) ∷ Use rule.MoreTerms ∷ ss) ts _ p (by_side 1 (puts (applied operator.Add a b _ ts d p l))))))

reads_difference : (a b : ExpressionTree) → IsReadBack a → IsReadBack b → (ss : List Symbol) (ts : List Token) (d : Assembly) (p : Parsed)
    → Leads (Use rule.MoreTerms ∷ ss) ts (Some (on (postfix (Apply operator.Subtract a b)) d)) p
    → Leads (Use rule.Expression ∷ ss) (expression 0 a (mark sign.Minus (expression 1 b ts))) (Some d) p
reads_difference a b ra rb ss ts d p l =
    ra.whole ss _ d p (by_side 1 (takes refl (rb.term (Put (action.Step (step_action.Apply operator.Subtract)) ∷ Use rule.MoreTerms ∷ ss) ts _ p (by_side 1 (puts (applied operator.Subtract a b _ ts d p l))))))

reads_product : (a b : ExpressionTree) → IsReadBack a → IsReadBack b → (ss : List Symbol) (ts : List Token) (d : Assembly) (p : Parsed)
    → Leads (Use rule.MoreFactors ∷ ss) ts (Some (on (postfix (Apply operator.Multiply a b)) d)) p
    → Leads (Use rule.Term ∷ ss) (expression 1 a (mark sign.Star (expression 2 b ts))) (Some d) p
reads_product a b ra rb ss ts d p l =
    ra.term ss _ d p (by_side 0 (takes refl (rb.factor (Put (action.Step (step_action.Apply operator.Multiply)) ∷ Use rule.MoreFactors ∷ ss) ts _ p (puts (applied operator.Multiply a b _ ts d p l)))))

reads_back : (e : ExpressionTree) → IsReadBack e
reads_back (Literal v) = record {
  factor = reads_leaf (operand'.Literal v);
  term = λ ss ts d p l. by_side 0 (reads_leaf (operand'.Literal v) _ ts d p l);
  whole = λ ss ts d p l. by_side 0 (by_side 0 (reads_leaf (operand'.Literal v) _ ts d p (by_side 1 l)));
}
reads_back (Column c) = record {
  factor = reads_leaf (operand'.Column c);
  term = λ ss ts d p l. by_side 0 (reads_leaf (operand'.Column c) _ ts d p l);
  whole = λ ss ts d p l. by_side 0 (by_side 0 (reads_leaf (operand'.Column c) _ ts d p (by_side 1 l)));
}
reads_back CurrentSnapshot = record {
  factor = reads_leaf operand'.CurrentSnapshot;
  term = λ ss ts d p l. by_side 0 (reads_leaf operand'.CurrentSnapshot _ ts d p l);
  whole = λ ss ts d p l. by_side 0 (by_side 0 (reads_leaf operand'.CurrentSnapshot _ ts d p (by_side 1 l)));
}
reads_back (Apply operator.Add a b) =
    let sum = reads_sum a b (reads_back a) (reads_back b) in
    record {
      factor = λ ss ts d p l. by_side 0 (takes refl (sum _ _ d p (by_side 2 (takes refl l))));
      term = λ ss ts d p l. by_side 0 (by_side 0 (takes refl (sum _ _ d p (by_side 2 (takes refl l)))));
      whole = sum;
    }
reads_back (Apply operator.Subtract a b) =
    let difference = reads_difference a b (reads_back a) (reads_back b) in
    record {
      factor = λ ss ts d p l. by_side 0 (takes refl (difference _ _ d p (by_side 2 (takes refl l))));
      term = λ ss ts d p l. by_side 0 (by_side 0 (takes refl (difference _ _ d p (by_side 2 (takes refl l)))));
      whole = difference;
    }
reads_back (Apply operator.Multiply a b) =
    let product = reads_product a b (reads_back a) (reads_back b) in
    record {
      factor = λ ss ts d p l. by_side 0 (takes refl (by_side 0 (product _ _ d p (by_side 1 (by_side 2 (takes refl l))))));
      term = product;
      whole = λ ss ts d p l. by_side 0 (product _ ts d p (by_side 1 l));
    }

-- an expression as a part
pub reads_value : (e : ExpressionTree) {ss : List Symbol} {ts : List Token} {ps : List Part} {p : Parsed} → Leads ss ts (Some (clean (part.Expression e ∷ ps))) p → Leads (Use rule.Value ∷ ss) (expression 0 e ts) (Some (clean ps)) p
reads_value e {ss} {ts} {ps} {p} l =
    let d = on (postfix e) (clean ps) in
    let P : Option ExpressionTree → Type 0 = λ t. Leads ss ts (expression_ends t d) p in
    let r = reads_back e in
    by_side 0 (r.whole (Put (action.Step step_action.Expression) ∷ ss) ts (clean ps) p (by_side 2 (puts (subst P (sym (tree_is e)) l))))
