-- Conditions are read back.
use Rattle.std.proofs.Common.{◌++◌, Option, Some, None, List, [], ◌∷◌, refl, subst, sym, append_assoc}
use Rattle.sql_tree.specs.Condition.{ConditionTree, Compare, Not, And, Or, postfix}
use Rattle.sql_tree.specs.ConditionCode.{tree_is}
use Rattle.sql_tree.specs.declared.condition.Comparison.{Comparison}
use Rattle.sql_tree.specs.declared.condition.Comparison.TheVariants as comparison
use Rattle.sql_tree.specs.declared.condition.ConditionStep.{ConditionStep}
use Rattle.sql_tree.specs.declared.condition.ConditionStep.TheVariants as step
use Rattle.sql_tree.specs.declared.condition.Operand.{Operand}
use Rattle.sql_lexer.specs.declared.token.Keyword.TheVariants as keyword
use Rattle.sql_lexer.specs.declared.token.Token.{Token}
use Rattle.sql_parts.specs.declared.action.Action.TheVariants as action
use Rattle.sql_grammar.specs.declared.grammar.Rule.TheVariants as rule
use Rattle.sql_parts.specs.declared.action.StepAction.TheVariants as step_action
use Rattle.sql_grammar.specs.declared.grammar.Symbol.{Symbol}
use Rattle.sql_grammar.specs.declared.grammar.Symbol.TheVariants.{Put, Use}
use Rattle.sql_parts.specs.declared.parsed.Parsed.{Parsed}
use Rattle.sql_parts.specs.declared.part.Part.{Part}
use Rattle.sql_parts.specs.declared.part.Part.TheVariants as part
use Rattle.sql_build.specs.declared.draft.Assembly.{Assembly}
use Rattle.sql_build.specs.Built.{condition_ends}
use Rattle.print_laws.specs.Printed.{comparison_sign, condition, filter, mark, operand, word}
use Rattle.print_laws.proofs.Expressions.{both, reads_operand}
use Rattle.print_laws.proofs.Leads.{Leads, by_side, clean, push, puts, takes}

-- a draft whose condition goes on
abbrev on : List ConditionStep → Assembly → Assembly
on steps d = record { parts = d.parts; expression = d.expression; condition = d.condition ++ steps }

-- the condition is read back wherever it may stand
record IsReadBack (c : ConditionTree) : Type 0 where
  negation : (ss : List Symbol) (ts : List Token) (d : Assembly) (p : Parsed) → Leads ss ts (Some (on (postfix c) d)) p → Leads (Use rule.Negation ∷ ss) (condition 2 c ts) (Some d) p
  conjunction : (ss : List Symbol) (ts : List Token) (d : Assembly) (p : Parsed) → Leads (Use rule.MoreNegations ∷ ss) ts (Some (on (postfix c) d)) p → Leads (Use rule.Conjunction ∷ ss) (condition 1 c ts) (Some d) p
  whole : (ss : List Symbol) (ts : List Token) (d : Assembly) (p : Parsed) → Leads (Use rule.MoreConjunctions ∷ ss) ts (Some (on (postfix c) d)) p → Leads (Use rule.Condition ∷ ss) (condition 0 c ts) (Some d) p

reads_compared : (a : Operand) (c : Comparison) (b : Operand) (ss : List Symbol) (ts : List Token) (d : Assembly) (p : Parsed)
    → Leads ss ts (Some (on (step.Compare a c b ∷ []) d)) p → Leads (Use rule.Compared ∷ ss) (mark (comparison_sign c) (operand b ts)) (Some (push (part.Operand a) d)) p
reads_compared a comparison.Equal b ss ts d p l = by_side 0 (takes refl (reads_operand b (puts l)))
reads_compared a comparison.NotEqual b ss ts d p l = by_side 1 (takes refl (reads_operand b (puts l)))
reads_compared a comparison.Less b ss ts d p l = by_side 2 (takes refl (reads_operand b (puts l)))
reads_compared a comparison.AtMost b ss ts d p l = by_side 3 (takes refl (reads_operand b (puts l)))
reads_compared a comparison.Greater b ss ts d p l = by_side 4 (takes refl (reads_operand b (puts l)))
reads_compared a comparison.AtLeast b ss ts d p l = by_side 5 (takes refl (reads_operand b (puts l)))

reads_comparison : (a : Operand) (c : Comparison) (b : Operand) (ss : List Symbol) (ts : List Token) (d : Assembly) (p : Parsed)
    → Leads ss ts (Some (on (step.Compare a c b ∷ []) d)) p → Leads (Use rule.Negation ∷ ss) (operand a (mark (comparison_sign c) (operand b ts))) (Some d) p
reads_comparison a c b ss ts d p l = by_side 2 (reads_operand a (reads_compared a c b ss ts d p l))

reads_negation : (a : ConditionTree) → IsReadBack a → (ss : List Symbol) (ts : List Token) (d : Assembly) (p : Parsed)
    → Leads ss ts (Some (on (postfix (Not a)) d)) p → Leads (Use rule.Negation ∷ ss) (word keyword.Not (condition 2 a ts)) (Some d) p
reads_negation a ra ss ts d p l =
    let P : List ConditionStep → Type 0 = λ cs. Leads ss ts (Some (record { parts = d.parts; expression = d.expression; condition = cs })) p in
    by_side 0 (takes refl (ra.negation (Put (action.Step step_action.Not) ∷ ss) ts d p (puts (subst P (sym (append_assoc d.condition (postfix a) (step.Not ∷ []))) l))))

reads_and : (a b : ConditionTree) → IsReadBack a → IsReadBack b → (ss : List Symbol) (ts : List Token) (d : Assembly) (p : Parsed)
    → Leads (Use rule.MoreNegations ∷ ss) ts (Some (on (postfix (And a b)) d)) p → Leads (Use rule.Conjunction ∷ ss) (condition 1 a (word keyword.And (condition 2 b ts))) (Some d) p
reads_and a b ra rb ss ts d p l =
    let P : List ConditionStep → Type 0 = λ cs. Leads (Use rule.MoreNegations ∷ ss) ts (Some (record { parts = d.parts; expression = d.expression; condition = cs })) p in
    ra.conjunction ss _ d p (by_side 0 (takes refl (rb.negation (Put (action.Step step_action.And) ∷ Use rule.MoreNegations ∷ ss) ts _ p (puts (subst P (both d.condition (postfix a) (postfix b) step.And) l)))))

reads_or : (a b : ConditionTree) → IsReadBack a → IsReadBack b → (ss : List Symbol) (ts : List Token) (d : Assembly) (p : Parsed)
    → Leads (Use rule.MoreConjunctions ∷ ss) ts (Some (on (postfix (Or a b)) d)) p → Leads (Use rule.Condition ∷ ss) (condition 0 a (word keyword.Or (condition 1 b ts))) (Some d) p
reads_or a b ra rb ss ts d p l =
    let P : List ConditionStep → Type 0 = λ cs. Leads (Use rule.MoreConjunctions ∷ ss) ts (Some (record { parts = d.parts; expression = d.expression; condition = cs })) p in
    ra.whole ss _ d p (by_side 0 (takes refl (rb.conjunction (Put (action.Step step_action.Or) ∷ Use rule.MoreConjunctions ∷ ss) ts _ p (by_side 1 (puts (subst P (both d.condition (postfix a) (postfix b) step.Or) l))))))

reads_back : (c : ConditionTree) → IsReadBack c
reads_back (Compare a c b) = record {
  negation = reads_comparison a c b;
  conjunction = λ ss ts d p l. by_side 0 (reads_comparison a c b _ ts d p l);
  whole = λ ss ts d p l. by_side 0 (by_side 0 (reads_comparison a c b _ ts d p (by_side 1 l)));
}
reads_back (Not a) =
    let negation' = reads_negation a (reads_back a) in
    record {
      negation = negation';
      conjunction = λ ss ts d p l. by_side 0 (negation' _ ts d p l);
      whole = λ ss ts d p l. by_side 0 (by_side 0 (negation' _ ts d p (by_side 1 l)));
    }
reads_back (And a b) =
    let conjunction' = reads_and a b (reads_back a) (reads_back b) in
    record {
      negation = λ ss ts d p l. by_side 1 (takes refl (by_side 0 (conjunction' _ _ d p (by_side 1 (by_side 1 (takes refl l))))));
      conjunction = conjunction';
      whole = λ ss ts d p l. by_side 0 (conjunction' _ ts d p (by_side 1 l));
    }
reads_back (Or a b) =
    let whole' = reads_or a b (reads_back a) (reads_back b) in
    record {
      negation = λ ss ts d p l. by_side 1 (takes refl (whole' _ _ d p (by_side 1 (takes refl l))));
      conjunction = λ ss ts d p l. by_side 0 (by_side 1 (takes refl (whole' _ _ d p (by_side 1 (takes refl l)))));
      whole = whole';
    }

-- a condition, or none, as a part
pub reads_filter : (c : Option ConditionTree) {ss : List Symbol} {ts : List Token} {ps : List Part} {p : Parsed} → Leads ss ts (Some (clean (part.Condition c ∷ ps))) p → Leads (Use rule.Where ∷ ss) (filter c ts) (Some (clean ps)) p
reads_filter None l = by_side 1 (puts l)
reads_filter (Some c) {ss} {ts} {ps} {p} l =
    let d = on (postfix c) (clean ps) in
    let P : Option ConditionTree → Type 0 = λ t. Leads ss ts (condition_ends t d) p in
    let r = reads_back c in
    by_side 0 (takes refl (r.whole (Put (action.Step step_action.Condition) ∷ ss) ts (clean ps) p (by_side 1 (puts (subst P (sym (tree_is c)) l)))))
