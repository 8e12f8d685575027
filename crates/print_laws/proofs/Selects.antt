-- Selects are read back.
use Rattle.std.proofs.Common.{◌++◌, ℕ, Bool, true, false, Option, Some, None, List, [], ◌∷◌, refl, arith}
use Rattle.sql_tree.specs.Condition.{ConditionTree}
use Rattle.sql_tree.specs.Statement.{IsList, IsSelect}
use Rattle.sql_tree.specs.declared.name.ColumnName.{ColumnName}
use Rattle.sql_tree.specs.declared.select.Aggregate.{Aggregate}
use Rattle.sql_tree.specs.declared.select.Aggregate.TheVariants as aggregate'
use Rattle.sql_tree.specs.declared.select.Direction.{Direction}
use Rattle.sql_tree.specs.declared.select.Direction.TheVariants as direction'
use Rattle.sql_tree.specs.declared.select.OrderKey.{OrderKey}
use Rattle.sql_tree.specs.declared.select.Output.{Output}
use Rattle.sql_tree.specs.declared.select.OutputValue.{OutputValue}
use Rattle.sql_tree.specs.declared.select.OutputValue.TheVariants as output_value'
use Rattle.sql_tree.specs.declared.select.Select.{Select}
use Rattle.sql_tree.specs.declared.select.SelectList.{SelectList}
use Rattle.sql_tree.specs.declared.select.SelectList.TheVariants as select_list'
use Rattle.sql_lexer.specs.declared.token.Keyword.TheVariants as keyword
use Rattle.sql_lexer.specs.declared.token.Token.{Token}
use Rattle.sql_grammar.specs.declared.grammar.Rule.TheVariants as rule
use Rattle.sql_grammar.specs.declared.grammar.Symbol.{Symbol}
use Rattle.sql_grammar.specs.declared.grammar.Symbol.TheVariants.{Use}
use Rattle.sql_parts.specs.declared.parsed.Parsed.{Parsed}
use Rattle.sql_parts.specs.declared.part.Part.{Part}
use Rattle.sql_parts.specs.declared.part.Part.TheVariants as part
use Rattle.sql_build.specs.declared.draft.Assembly.{Assembly}
use Rattle.print_laws.specs.Printed.{column, direction_word, distinct, filter, further, grouping, key, limit, name, ordering, output, output_name, output_value, query, second, select_list, word}
use Rattle.print_laws.proofs.Conditions.{reads_filter}
use Rattle.print_laws.proofs.Expressions.{reads_column, reads_value}
use Rattle.print_laws.proofs.Leads.{Leads, by_side, clean, goes_further, puts, takes}

-- outputs
reads_aggregate : (a : Aggregate) {ss : List Symbol} {ts : List Token} {ps : List Part} {p : Parsed}
    → Leads ss ts (Some (clean (part.OutputValue (output_value'.Aggregate a) ∷ ps))) p → Leads (Use rule.OutputValue ∷ ss) (output_value (output_value'.Aggregate a) ts) (Some (clean ps)) p
reads_aggregate aggregate'.CountRows l = by_side 0 (takes refl (takes refl (by_side 0 (takes refl (takes refl (puts l))))))
reads_aggregate (aggregate'.Count e) l = by_side 0 (takes refl (takes refl (by_side 1 (reads_value e (takes refl (puts l))))))
reads_aggregate (aggregate'.Sum e) l = by_side 1 (takes refl (takes refl (reads_value e (takes refl (puts l)))))
reads_aggregate (aggregate'.Min e) l = by_side 2 (takes refl (takes refl (reads_value e (takes refl (puts l)))))
reads_aggregate (aggregate'.Max e) l = by_side 3 (takes refl (takes refl (reads_value e (takes refl (puts l)))))

reads_output_value : (v : OutputValue) {ss : List Symbol} {ts : List Token} {ps : List Part} {p : Parsed} → Leads ss ts (Some (clean (part.OutputValue v ∷ ps))) p → Leads (Use rule.OutputValue ∷ ss) (output_value v ts) (Some (clean ps)) p
reads_output_value (output_value'.Expression e) l = by_side 4 (reads_value e (puts l))
reads_output_value (output_value'.Aggregate a) l = reads_aggregate a l

reads_output_name : (n : Option (List ℕ)) (v : OutputValue) {ss : List Symbol} {ts : List Token} {ps : List Part} {p : Parsed}
    → Leads ss ts (Some (clean (part.Output (record { value = v; name = n }) ∷ ps))) p → Leads (Use rule.OutputName ∷ ss) (output_name n ts) (Some (clean (part.OutputValue v ∷ ps))) p
reads_output_name None v l = by_side 1 (puts l)
reads_output_name (Some n) v l = by_side 0 (takes refl (takes refl (puts l)))

reads_output : (o : Output) {ss : List Symbol} {ts : List Token} {ps : List Part} {p : Parsed} → Leads ss ts (Some (clean (part.Output o ∷ ps))) p → Leads (Use rule.Output ∷ ss) (output o ts) (Some (clean ps)) p
reads_output o l = by_side 0 (reads_output_value o.value (reads_output_name o.name o.value l))

more_outputs : (os before : List Output) (ss : List Symbol) (ts : List Token) (ps : List Part) (p : Parsed)
    → Leads ss ts (Some (clean (part.Outputs (before ++ os) ∷ ps))) p → Leads (Use rule.MoreOutputs ∷ ss) (further output os ts) (Some (clean (part.Outputs before ∷ ps))) p
more_outputs os before ss ts ps p l =
    goes_further rule.MoreOutputs output (λ xs. clean (part.Outputs xs ∷ ps)) p ss (λ xs ts l. by_side 1 l) (λ x xs ts l. by_side 0 (takes refl (reads_output x (puts l)))) os before ts l

-- a select whose parts are at hand
abbrev select : Bool → SelectList → List ℕ → Option (List ℕ) → Option ConditionTree → List ColumnName → List OrderKey → Option ℕ → Select
select b l t s c g o n = record { distinct = b; list = l; table = t; second = s; condition = c; group_by = g; order_by = o; limit = n }

abbrev with_query : Select → List Part → Option Assembly
with_query q ps = Some (clean (part.Query q ∷ ps))

reads_list : (l : SelectList) (t : List ℕ) → IsList l → {ss : List Symbol} {ts : List Token} {ps : List Part} {p : Parsed}
    → Leads ss ts (with_query (select false l t None None [] [] None) ps) p → Leads (Use rule.List ∷ ss) (select_list l (word keyword.From (name t ts))) (Some (clean ps)) p
reads_list select_list'.All t h l = by_side 0 (takes refl (takes refl (takes refl (puts l))))
reads_list (select_list'.Outputs []) t h l = absurd (omega (arith, h))
reads_list (select_list'.Outputs (o ∷ os)) t h {ps = ps} {p = p} l = by_side 1 (reads_output o (puts (more_outputs os (o ∷ []) _ _ ps p (takes refl (takes refl (puts l))))))

reads_second : (s : Option (List ℕ)) (l : SelectList) (t : List ℕ) {ss : List Symbol} {ts : List Token} {ps : List Part} {p : Parsed}
    → Leads ss ts (with_query (select false l t s None [] [] None) ps) p → Leads (Use rule.Second ∷ ss) (second s ts) (with_query (select false l t None None [] [] None) ps) p
reads_second None l t h = by_side 1 h
reads_second (Some s) l t h = by_side 0 (takes refl (takes refl (puts h)))

reads_grouping : (g : List ColumnName) (l : SelectList) (t : List ℕ) (s : Option (List ℕ)) (c : Option ConditionTree) {ss : List Symbol} {ts : List Token} {ps : List Part} {p : Parsed}
    → Leads ss ts (with_query (select false l t s c g [] None) ps) p → Leads (Use rule.Grouping ∷ ss) (grouping g ts) (with_query (select false l t s c [] [] None) ps) p
reads_grouping [] l t s c h = by_side 1 h
reads_grouping (x ∷ xs) l t s c {ss} {ts} {ps} {p} h =
    by_side 0 (takes refl (takes refl (reads_column x (puts (goes_further rule.MoreGroups column (λ g. clean (part.Query (select false l t s c g [] None) ∷ ps)) p ss (λ xs ts l. by_side 1 l) (λ x xs ts l. by_side 0 (takes refl (reads_column x (puts l)))) xs (x ∷ []) ts h)))))

reads_direction : (d : Direction) (x : ColumnName) (l : SelectList) (t : List ℕ) (s : Option (List ℕ)) (c : Option ConditionTree) (g : List ColumnName) (o : List OrderKey) {ss : List Symbol} {ts : List Token} {ps : List Part} {p : Parsed}
    → Leads ss ts (with_query (select false l t s c g (o ++ record { column = x; direction = d } ∷ []) None) ps) p
    → Leads (Use rule.SortDirection ∷ ss) (word (direction_word d) ts) (Some (clean (part.ColumnName x ∷ part.Query (select false l t s c g o None) ∷ ps))) p
reads_direction direction'.Ascending x l t s c g o h = by_side 0 (takes refl (puts h))
reads_direction direction'.Descending x l t s c g o h = by_side 1 (takes refl (puts h))

reads_key : (k : OrderKey) (l : SelectList) (t : List ℕ) (s : Option (List ℕ)) (c : Option ConditionTree) (g : List ColumnName) (o : List OrderKey) {ss : List Symbol} {ts : List Token} {ps : List Part} {p : Parsed}
    → Leads ss ts (with_query (select false l t s c g (o ++ k ∷ []) None) ps) p → Leads (Use rule.Key ∷ ss) (key k ts) (with_query (select false l t s c g o None) ps) p
reads_key k l t s c g o h = by_side 0 (reads_column k.column (reads_direction k.direction k.column l t s c g o h))

reads_ordering : (o : List OrderKey) (l : SelectList) (t : List ℕ) (s : Option (List ℕ)) (c : Option ConditionTree) (g : List ColumnName) {ss : List Symbol} {ts : List Token} {ps : List Part} {p : Parsed}
    → Leads ss ts (with_query (select false l t s c g o None) ps) p → Leads (Use rule.Ordering ∷ ss) (ordering o ts) (with_query (select false l t s c g [] None) ps) p
reads_ordering [] l t s c g h = by_side 1 h
reads_ordering (x ∷ xs) l t s c g {ss} {ts} {ps} {p} h =
    by_side 0 (takes refl (takes refl (reads_key x l t s c g [] (goes_further rule.MoreKeys key (λ o. clean (part.Query (select false l t s c g o None) ∷ ps)) p ss (λ xs ts l. by_side 1 l) (λ x xs ts h. by_side 0 (takes refl (reads_key x l t s c g xs h))) xs (x ∷ []) ts h))))

reads_limit : (n : Option ℕ) (l : SelectList) (t : List ℕ) (s : Option (List ℕ)) (c : Option ConditionTree) (g : List ColumnName) (o : List OrderKey) {ss : List Symbol} {ts : List Token} {ps : List Part} {p : Parsed}
    → Leads ss ts (with_query (select false l t s c g o n) ps) p → Leads (Use rule.Limit ∷ ss) (limit n ts) (with_query (select false l t s c g o None) ps) p
reads_limit None l t s c g o h = by_side 1 h
reads_limit (Some n) l t s c g o h = by_side 0 (takes refl (takes refl (puts h)))

-- the list and the clauses
reads_clauses : (q : Select) → IsSelect q → {ss : List Symbol} {ts : List Token} {ps : List Part} {p : Parsed}
    → Leads ss ts (with_query (select false q.list q.table q.second q.condition q.group_by q.order_by q.limit) ps) p
    → Leads (Use rule.List ∷ Use rule.Clauses ∷ ss) (select_list q.list (word keyword.From (name q.table (second q.second (filter q.condition (grouping q.group_by (ordering q.order_by (limit q.limit ts)))))))) (Some (clean ps)) p
reads_clauses q i h =
    reads_list q.list q.table i (by_side 0 (reads_second q.second q.list q.table (reads_filter q.condition (puts
    (reads_grouping q.group_by q.list q.table q.second q.condition (reads_ordering q.order_by q.list q.table q.second q.condition q.group_by (reads_limit q.limit q.list q.table q.second q.condition q.group_by q.order_by h)))))))

reads_distinct : (b : Bool) (q : Select) → IsSelect q → {ss : List Symbol} {ts : List Token} {ps : List Part} {p : Parsed}
    → Leads ss ts (with_query (select b q.list q.table q.second q.condition q.group_by q.order_by q.limit) ps) p
    → Leads (Use rule.Query ∷ ss) (distinct b (select_list q.list (word keyword.From (name q.table (second q.second (filter q.condition (grouping q.group_by (ordering q.order_by (limit q.limit ts))))))))) (Some (clean ps)) p
reads_distinct true q i h = by_side 0 (takes refl (reads_clauses q i (puts h)))
reads_distinct false q i h = by_side 1 (reads_clauses q i h)

pub reads_query : (q : Select) → IsSelect q → {ss : List Symbol} {ts : List Token} {ps : List Part} {p : Parsed} → Leads ss ts (with_query q ps) p → Leads (Use rule.Query ∷ ss) (query q ts) (Some (clean ps)) p
reads_query q i h = reads_distinct q.distinct q i h
