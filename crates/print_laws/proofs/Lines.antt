-- Statements and lines are read back.
use Rattle.std.proofs.Common.{◌≡◌, ◌≤◌, ◌⊎◌, inl, inr, ◌++◌, ℕ, suc, Bool, true, false, Option, Some, None, List, [], ◌∷◌, length, nat_le, refl, ap, subst, sym, append-nil, append_assoc, if◌then◌else◌, arith}
use Rattle.std.specs.List.{AllByRecursion}
use Rattle.std.proofs.lemmas.Bool.{le-leb}
use Rattle.values.specs.declared.value.Kind.{Kind}
use Rattle.values.specs.declared.value.Kind.TheVariants as kind
use Rattle.values.specs.declared.value.Value.{Value}
use Rattle.sql_tree.specs.Condition.{ConditionTree}
use Rattle.sql_tree.specs.Statement.{IsStatement}
use Rattle.sql_tree.specs.declared.statement.Assignment.{Assignment}
use Rattle.sql_tree.specs.declared.statement.Column.{Column}
use Rattle.sql_tree.specs.declared.statement.Statement.{Statement}
use Rattle.sql_tree.specs.declared.statement.Statement.TheVariants as statement'
use Rattle.sql_lexer.specs.declared.token.Keyword.TheVariants as keyword
use Rattle.sql_lexer.specs.declared.token.Sign.TheVariants as sign
use Rattle.sql_lexer.specs.declared.token.Token.{Token}
use Rattle.sql_lexer.specs.declared.token.Token.TheVariants as token
use Rattle.sql_parts.specs.declared.action.Action.TheVariants as action
use Rattle.sql_grammar.specs.declared.grammar.Class.TheVariants as class
use Rattle.sql_grammar.specs.declared.grammar.Room.{Room}
use Rattle.sql_grammar.specs.declared.grammar.Room.TheVariants.{Fifteen, Fourteen, Thirteen, Twelve, Eleven, Ten, Nine, Eight, Seven, Six, Five, Four, Three, Two, One}
use Rattle.sql_grammar.specs.declared.grammar.Rule.TheVariants as rule
use Rattle.sql_grammar.specs.declared.grammar.Symbol.{Symbol}
use Rattle.sql_grammar.specs.declared.grammar.Symbol.TheVariants.{Take, Put, Use}
use Rattle.sql_parts.specs.declared.action.TableAction.TheVariants as table_action
use Rattle.sql_grammar.specs.Grammar.{class_of, more_columns}
use Rattle.sql_parts.specs.declared.parsed.Mechanism.{Mechanism}
use Rattle.sql_parts.specs.declared.parsed.Mechanism.TheVariants as mechanism
use Rattle.sql_parts.specs.declared.parsed.Parsed.{Parsed}
use Rattle.sql_parts.specs.declared.parsed.Parsed.TheVariants as parsed
use Rattle.sql_parts.specs.declared.part.Part.{Part}
use Rattle.sql_parts.specs.declared.part.Part.TheVariants as part
use Rattle.sql_text.specs.Line.{HasLimits, Says}
use Rattle.print_laws.specs.Printed.{argument, assignment, filter, further, kind_word, literal, mark, name, new_column, printed, rql_call, several, statement, tuple, word}
use Rattle.print_laws.proofs.Conditions.{reads_filter}
use Rattle.print_laws.proofs.Expressions.{reads_literal, reads_value}
use Rattle.print_laws.proofs.Leads.{Leads, by_side, clean, ends, goes_further, goes_further_with, puts, takes}
use Rattle.print_laws.proofs.Selects.{reads_query}

-- columns
reads_kind : (k : Kind) (n : List ℕ) {ss : List Symbol} {ts : List Token} {ps : List Part} {p : Parsed}
    → Leads ss ts (Some (clean (part.Column (record { name = n; kind = k }) ∷ ps))) p → Leads (Use rule.Kind ∷ ss) (word (kind_word k) ts) (Some (clean (part.Name n ∷ ps))) p
reads_kind kind.Int n l = by_side 0 (takes refl (puts l))
reads_kind kind.Text n l = by_side 1 (takes refl (puts l))

reads_new_column : (c : Column) {ss : List Symbol} {ts : List Token} {ps : List Part} {p : Parsed} → Leads ss ts (Some (clean (part.Column c ∷ ps))) p → Leads (Use rule.Column ∷ ss) (new_column c ts) (Some (clean ps)) p
reads_new_column c l = by_side 0 (takes refl (reads_kind c.kind c.name l))

abbrev size : Room → ℕ
size Fifteen = 15
size Fourteen = 14
size Thirteen = 13
size Twelve = 12
size Eleven = 11
size Ten = 10
size Nine = 9
size Eight = 8
size Seven = 7
size Six = 6
size Five = 5
size Four = 4
size Three = 3
size Two = 2
size One = 1

-- one column, and then what follows
abbrev column_then : Symbol → List Symbol
column_then s = Take (class.Sign sign.Comma) ∷ Use rule.Column ∷ Put (action.Table table_action.NextColumn) ∷ s ∷ []

-- behind a column there is room for one less, or none
abbrev Narrows : Room → Type 0
Narrows r = ((q : Room) × (more_columns r ≡ column_then (Use (rule.MoreColumns q))) × (size r ≡ suc (size q))) ⊎ ((more_columns r ≡ column_then (Put (action.Table table_action.Finish))) × (size r ≡ 1))

narrows : (r : Room) → Narrows r
narrows Fifteen = inl (Fourteen, refl, refl)
narrows Fourteen = inl (Thirteen, refl, refl)
narrows Thirteen = inl (Twelve, refl, refl)
narrows Twelve = inl (Eleven, refl, refl)
narrows Eleven = inl (Ten, refl, refl)
narrows Ten = inl (Nine, refl, refl)
narrows Nine = inl (Eight, refl, refl)
narrows Eight = inl (Seven, refl, refl)
narrows Seven = inl (Six, refl, refl)
narrows Six = inl (Five, refl, refl)
narrows Five = inl (Four, refl, refl)
narrows Four = inl (Three, refl, refl)
narrows Three = inl (Two, refl, refl)
narrows Two = inl (One, refl, refl)
narrows One = inr (refl, refl)

-- the table with these columns, to be gone on with, and finished
abbrev begun : List ℕ → List Column → List Part → List Part
begun t cs ps = part.CreateTable (record { table = t; columns = cs }) ∷ ps

abbrev made : List ℕ → List Column → List Part → List Part
made t cs ps = part.Parsed (parsed.Plain (statement'.CreateTable (record { table = t; columns = cs }))) ∷ ps

none_left : {X : Type 0} (xs : List X) → length xs ≤ 0 → xs ≡ []
none_left [] h = refl
none_left (x ∷ xs) h = absurd (omega (arith, h))

more_columns_read : (cs before : List Column) (r : Room) (t : List ℕ) (ss : List Symbol) (ts : List Token) (ps : List Part) (p : Parsed) → length cs ≤ size r
    → Leads ss ts (Some (clean (made t (before ++ cs) ps))) p → Leads (Use (rule.MoreColumns r) ∷ ss) (further new_column cs ts) (Some (clean (begun t before ps))) p
more_columns_read [] before r t ss ts ps p h l =
    let P : List Column → Type 0 = λ xs. Leads ss ts (Some (clean (made t xs ps))) p in
    by_side 1 (puts (subst P (append-nil before) l))
more_columns_read (c ∷ cs) before r t ss ts ps p h l =
    let P : List Column → Type 0 = λ xs. Leads ss ts (Some (clean (made t xs ps))) p in
    let S : List Symbol → Type 0 = λ side. Leads (side ++ ss) (mark sign.Comma (new_column c (further new_column cs ts))) (Some (clean (begun t before ps))) p in
    let next = subst P (sym (append_assoc before (c ∷ []) cs)) l in
    elim (narrows r) [
      | inl x ↦ by_side 0 (subst S (sym x.1) (takes refl (reads_new_column c (puts (more_columns_read cs (before ++ c ∷ []) x.0 t ss ts ps p (omega (arith, h, x.2)) next)))))
      | inr x ↦
          let none = none_left cs (omega (arith, h, x.1)) in
          let T : List Column → Type 0 = λ xs. Leads (Put (action.Table table_action.Finish) ∷ ss) (further new_column xs ts) (Some (clean (begun t (before ++ c ∷ []) ps))) p in
          let Q : List Column → Type 0 = λ xs. Leads ss ts (Some (clean (made t ((before ++ c ∷ []) ++ xs) ps))) p in
          let last = subst P (append-nil (before ++ c ∷ [])) (subst Q none next) in
          by_side 0 (subst S (sym x.0) (takes refl (reads_new_column c (puts (subst T (sym none) (puts last))))))
    ]

create_read : (t : List ℕ) (cs : List Column) → 1 ≤ length cs → length cs ≤ 16
    → Leads (Use rule.Sentence ∷ []) (word keyword.Create (word keyword.Table (name t (mark sign.Open (several new_column cs (mark sign.Close [])))))) (Some (clean [])) (parsed.Plain (statement'.CreateTable (record { table = t; columns = cs })))
create_read t [] h k = absurd (omega (arith, h))
create_read t (c ∷ cs) h k =
    let p = parsed.Plain (statement'.CreateTable (record { table = t; columns = c ∷ cs })) in
    by_side 0 (takes refl (by_side 0 (takes refl (takes refl (takes refl (reads_new_column c (puts (more_columns_read cs (c ∷ []) Fifteen t _ _ [] p (omega (arith, k)) (takes refl (ends p))))))))))

-- rows
reads_tuple : (vs : List Value) → 1 ≤ length vs → (ss : List Symbol) (ts : List Token) (ps : List Part) (p : Parsed) → Leads ss ts (Some (clean (part.Row vs ∷ ps))) p → Leads (Use rule.Tuple ∷ ss) (tuple vs ts) (Some (clean ps)) p
reads_tuple [] h ss ts ps p l = absurd (omega (arith, h))
reads_tuple (v ∷ vs) h ss ts ps p l =
    by_side 0 (takes refl (reads_literal v (puts (goes_further rule.MoreValues literal (λ xs. clean (part.Row xs ∷ ps)) p (Take (class.Sign sign.Close) ∷ ss) (λ xs ts l. by_side 1 l) (λ x xs ts l. by_side 0 (takes refl (reads_literal x (puts l)))) vs (v ∷ []) (mark sign.Close ts) (takes refl l)))))

insert_read : (t : List ℕ) (rows : List (List Value)) → 1 ≤ length rows → AllByRecursion (λ (row : List Value). 1 ≤ length row) rows
    → Leads (Use rule.Sentence ∷ []) (word keyword.Insert (word keyword.Into (name t (word keyword.Values (several tuple rows []))))) (Some (clean [])) (parsed.Plain (statement'.Insert (record { table = t; tuples = rows })))
insert_read t [] h all = absurd (omega (arith, h))
insert_read t (row ∷ rows) h all =
    let p = parsed.Plain (statement'.Insert (record { table = t; tuples = row ∷ rows })) in
    by_side 1 (takes refl (takes refl (takes refl (takes refl (reads_tuple row all.0 _ _ _ p (puts (goes_further_with (λ (row : List Value). 1 ≤ length row) rule.MoreTuples tuple (λ xs. clean (part.Insert (record { table = t; tuples = xs }) ∷ [])) p _ (λ xs ts l. by_side 1 l) (λ x xs ts q l. by_side 0 (takes refl (reads_tuple x q _ _ _ p (puts l)))) rows (row ∷ []) [] all.1 (puts (ends p)))))))))

-- assignments
reads_assignment : (a : Assignment) {ss : List Symbol} {ts : List Token} {ps : List Part} {p : Parsed} → Leads ss ts (Some (clean (part.Assignment a ∷ ps))) p → Leads (Use rule.Assignment ∷ ss) (assignment a ts) (Some (clean ps)) p
reads_assignment a l = by_side 0 (takes refl (takes refl (reads_value a.value (puts l))))

update_read : (t : List ℕ) (list : List Assignment) (c : Option ConditionTree) → 1 ≤ length list
    → Leads (Use rule.Sentence ∷ []) (word keyword.Update (name t (word keyword.Set (several assignment list (filter c []))))) (Some (clean [])) (parsed.Plain (statement'.Update (record { table = t; assignments = list; condition = c })))
update_read t [] c h = absurd (omega (arith, h))
update_read t (a ∷ list) c h =
    let p = parsed.Plain (statement'.Update (record { table = t; assignments = a ∷ list; condition = c })) in
    by_side 2 (takes refl (takes refl (takes refl (reads_assignment a (puts (goes_further rule.MoreAssignments assignment (λ xs. clean (part.Update (record { table = t; assignments = xs; condition = None }) ∷ [])) p _ (λ xs ts l. by_side 1 l) (λ x xs ts l. by_side 0 (takes refl (reads_assignment x (puts l)))) list (a ∷ []) (filter c []) (reads_filter c (puts (ends p)))))))))

statement_read : (s : Statement) → IsStatement s → Leads (Use rule.Sentence ∷ []) (statement s) (Some (clean [])) (parsed.Plain s)
statement_read (statement'.CreateTable t) h = create_read t.table t.columns h.0 h.1
statement_read (statement'.CreateIndex i) h = by_side 0 (takes refl (by_side 1 (takes refl (takes refl (takes refl (takes refl (takes refl (takes refl (takes refl (puts (ends (parsed.Plain (statement'.CreateIndex i)))))))))))))
statement_read (statement'.Insert i) h = insert_read i.table i.tuples h.0 h.1
statement_read (statement'.Update u) h = update_read u.table u.assignments u.condition h
statement_read (statement'.Delete d) h = by_side 3 (takes refl (takes refl (takes refl (reads_filter d.condition (puts (ends (parsed.Plain (statement'.Delete d))))))))
statement_read (statement'.Select q) h = by_side 4 (takes refl (by_side 1 (reads_query q h (puts (ends (parsed.Plain (statement'.Select q)))))))

label_class : (t : List ℕ) → length t ≤ 64 → class_of (token.Text t) ≡ class.ShortText
label_class t h = ap (λ b. if b then class.ShortText else class.Text) (le-leb (length t) 64 h)

-- an argument of a call
text_read : (t : List ℕ) (short : Bool) {ss : List Symbol} {ts : List Token} {ps : List Part} {p : Parsed} → nat_le (length t) 64 ≡ short → Leads ss ts (Some (clean (part.Argument t ∷ ps))) p
    → Leads (Use rule.Argument ∷ ss) (token.Text t ∷ ts) (Some (clean ps)) p
text_read t true e l = by_side 0 (takes (ap (λ b. if b then class.ShortText else class.Text) e) (puts l))
text_read t false e l = by_side 1 (takes (ap (λ b. if b then class.ShortText else class.Text) e) (puts l))

by_length : (t : List ℕ) (b : Bool) {ss : List Symbol} {ts : List Token} {ps : List Part} {p : Parsed} → Leads ss ts (Some (clean (part.Argument t ∷ ps))) p
    → Leads (Use rule.Argument ∷ ss) ((if b then token.Text t else token.LongText t) ∷ ts) (Some (clean ps)) p
by_length t true l = text_read t (nat_le (length t) 64) refl l
by_length t false l = by_side 2 (takes refl l)

reads_argument : (t : List ℕ) {ss : List Symbol} {ts : List Token} {ps : List Part} {p : Parsed} → Leads ss ts (Some (clean (part.Argument t ∷ ps))) p
    → Leads (Use rule.Argument ∷ ss) (argument t ts) (Some (clean ps)) p
reads_argument t l = by_length t (nat_le (length t) 200) l

three_read : (a b c : List ℕ) {ss : List Symbol} {ts : List Token} {p : Parsed} → Leads ss ts (Some (clean (part.Argument c ∷ part.Argument b ∷ part.Argument a ∷ []))) p
    → Leads (Use rule.Argument ∷ Take (class.Sign sign.Comma) ∷ Use rule.Argument ∷ Take (class.Sign sign.Comma) ∷ Use rule.Argument ∷ ss)
    (argument a (mark sign.Comma (argument b (mark sign.Comma (argument c ts))))) (Some (clean [])) p
three_read a b c l = reads_argument a (takes refl (reads_argument b (takes refl (reads_argument c l))))

call_read : (s q t : List ℕ) (m : Mechanism) → Leads (Use rule.Sentence ∷ []) (rql_call (record { snapshots = s; query = q; table = t; mechanism = m })) (Some (clean [])) (parsed.Rql (record { snapshots = s; query = q; table = t; mechanism = m }))
call_read s q t mechanism.CollateData = by_side 7 (takes refl (takes refl (three_read s q t (takes refl (puts (ends (parsed.Rql (record { snapshots = s; query = q; table = t; mechanism = mechanism.CollateData }))))))))
call_read s q t (mechanism.AggregateDataInVariable f) =
    by_side 8 (takes refl (takes refl (three_read s q t (takes refl (reads_argument f (takes refl (puts (ends (parsed.Rql (record { snapshots = s; query = q; table = t; mechanism = mechanism.AggregateDataInVariable f }))))))))))
call_read s q t (mechanism.AggregateDataInTable f) =
    by_side 9 (takes refl (takes refl (three_read s q t (takes refl (reads_argument f (takes refl (puts (ends (parsed.Rql (record { snapshots = s; query = q; table = t; mechanism = mechanism.AggregateDataInTable f }))))))))))
call_read s q t mechanism.CollateDataIntoIntervals = by_side 10 (takes refl (takes refl (three_read s q t (takes refl (puts (ends (parsed.Rql (record { snapshots = s; query = q; table = t; mechanism = mechanism.CollateDataIntoIntervals }))))))))

line_read : (p : Parsed) → HasLimits p → Leads (Use rule.Sentence ∷ []) (printed p) (Some (clean [])) p
line_read (parsed.Plain s) h = statement_read s h
line_read (parsed.AsOf q) h = by_side 4 (takes refl (by_side 0 (takes refl (takes refl (takes refl (reads_query q.query h (puts (ends (parsed.AsOf q)))))))))
line_read (parsed.Commit None) h = by_side 5 (takes refl (by_side 1 (puts (ends (parsed.Commit None)))))
line_read (parsed.Commit (Some label)) h = by_side 5 (takes refl (by_side 0 (takes refl (takes refl (by_side 0 (takes (label_class label h) (puts (ends (parsed.Commit (Some label))))))))))
line_read parsed.Rollback h = by_side 6 (takes refl (puts (ends parsed.Rollback)))
line_read (parsed.Rql c) h = call_read c.snapshots c.query c.table c.mechanism
line_read (parsed.DropBelow n) h = by_side 11 (takes refl (takes refl (takes refl (takes refl (puts (ends (parsed.DropBelow n)))))))

-- what is within the limits is said by its tokens
pub printed_says : (p : Parsed) → HasLimits p → Says (printed p) p
printed_says p h = let l = line_read p h in (l.ops, l.derives, l.builds)
