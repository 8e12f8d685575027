-- Queries of a table beside those of the store.
use Rattle.std.proofs.Common.{◌≡◌, ◌∙◌, ◌++◌, Bor, ℕ, Bool, true, false, cond, List, [], ◌∷◌, map, Option, Some, None, Result, Ok, Err, refl, sym, ap, subst}
use Rattle.std.proofs.lemmas.List.{map-id}
use Rattle.std.proofs.lemmas.Slice.Eq.{bytes_eq-Decides}
use Rattle.std.specs.BTreeMap.{BTreeMap, get, is_at}
use Rattle.std.specs.Cmp.Lexicographic.{slice_cmp}
use Rattle.std.specs.Map.{lookup}
use Rattle.std.specs.Option.{option_copied}
use Rattle.std.specs.Ordering.{nat_cmp}
use Rattle.relation.proofs.Naming.{at_name, name_is}
use Rattle.retro_base.specs.Gives.{◌>>=◌, Gives}
use Rattle.retro_base.specs.declared.refusal.Refusal.{Refusal}
use Rattle.retro_base.specs.declared.refusal.Refusal.TheVariants.{UnknownName}
use Rattle.values.specs.declared.value.Value.{Value}
use Rattle.sql_tree.specs.declared.schema.TableSchema.{TableSchema}
use Rattle.sql_tree.specs.declared.select.Select.{Select}
use Rattle.sql_tree.specs.declared.statement.Column.{Column}
use Rattle.values.specs.Name.{same_name}
use Rattle.sql_check.specs.Outputs.{answer_columns}
use Rattle.sql_select.specs.Select.{answer as answer_over}
use Rattle.sql_select.specs.declared.answer.Answer.{Answer}
use Rattle.sql_check.specs.Check.{checked_beside}
use Rattle.session.specs.Held.{GiveAlike, held}
use Rattle.session.specs.OverSnapshots.{asked_of, results_asked}
use Rattle.session.specs.declared.result_table.ResultTable.{ResultTable}

-- what is checked is answered
pub asked-checked : (query : Select) (table : TableSchema) (rows : List (List Value)) → checked_beside query table ≡ Ok tt
    → asked_of query table rows ≡ answer_over query (table ∷ []) (answer_columns (table ∷ []) query.list) None rows None
asked-checked query table rows e = ap (λ (r : Result (Unit {0}) Refusal). r >>= (λ (u : Unit {0}). answer_over query (table ∷ []) (answer_columns (table ∷ []) query.list) None rows None)) e

pub asked-gives : (result : Result Answer Refusal) (query : Select) (table : TableSchema) (rows : List (List Value)) (scope : List TableSchema) (columns : List Column) → checked_beside query table ≡ Ok tt
    → scope ≡ table ∷ [] → columns ≡ answer_columns scope query.list
    → Gives (λ (answer : Answer). answer) result (answer_over query scope columns None (map (λ (row : List Value). row) rows) None)
    → Gives (λ (answer : Answer). answer) result (asked_of query table rows)
asked-gives result query table rows scope columns e is_scope is_columns gives =
    subst (Gives (λ (answer : Answer). answer) result)
    (ap (λ (rs : List (List Value)). answer_over query scope columns None rs None) (map-id rows)
    ∙ ap (λ (cs : List Column). answer_over query scope cs None rows None) is_columns
    ∙ ap (λ (s : List TableSchema). answer_over query s (answer_columns s query.list) None rows None) is_scope
    ∙ sym (asked-checked query table rows e)) gives

-- the same of what is equal
pub asked_as : (result : Result Answer Refusal) (query : Select) (name other : List ℕ) (columns same : List Column) (rows these : List (List Value)) → name ≡ other → columns ≡ same → rows ≡ these
    → Gives (λ (answer : Answer). answer) result (asked_of query (record { name = name; columns = columns }) rows) → Gives (λ (answer : Answer). answer) result (asked_of query (record { name = other; columns = same }) these)
asked_as result query name other columns same rows these names are_same are gives =
    subst (Gives (λ (answer : Answer). answer) result) (λ i. asked_of query (record { name = names i; columns = are_same i }) (are i)) gives

-- ---- what a session holds

same_turned : (a b : List ℕ) → same_name a b ≡ same_name b a
same_turned a b = by_tests (same_name a b) (same_name b a) refl refl
  where
    itself : (name : List ℕ) → same_name name name ≡ true
    itself name = (bytes_eq-Decides name name).1 refl

    by_tests : (one other : Bool) → same_name a b ≡ one → same_name b a ≡ other → one ≡ other
    by_tests true true e f = refl
    by_tests false false e f = refl
    by_tests true false e f =
        let is : a ≡ b = name_is a b e in
        sym (itself b) ∙ ap (λ (n : List ℕ). same_name b n) (sym is) ∙ f
    by_tests false true e f =
        let is : b ≡ a = name_is b a f in
        sym e ∙ ap (λ (n : List ℕ). same_name a n) is ∙ itself a

-- the answer of a query of what is held under its name
abbrev pub found_asked : Select → Option Answer → Result Answer Refusal
found_asked query None = Err UnknownName
found_asked query (Some answer) = asked_of query (record { name = query.table; columns = answer.columns }) answer.rows

one_asked : (query : Select) (name : List ℕ) (answer : Answer) (rest : Result Answer Refusal) (more : Option Answer) (same : Bool)
    → same_name query.table name ≡ same → rest ≡ found_asked query more
    → cond same (asked_of query (record { name = name; columns = answer.columns }) answer.rows) rest ≡ found_asked query (cond same (Some answer) more)
one_asked query name answer rest more true is e =
    ap (λ (n : List ℕ). asked_of query (record { name = n; columns = answer.columns }) answer.rows) (sym (name_is query.table name is))
one_asked query name answer rest more false is e = e

entries_asked : (query : Select) (entries : List (List ℕ × Answer))
    → results_asked query (map (λ (entry : List ℕ × Answer). record { name = entry.0; answer = entry.1 }) entries) ≡ found_asked query (lookup (is_at (slice_cmp nat_cmp query.table)) entries)
entries_asked query [] = refl
entries_asked query (e ∷ entries) =
    let more = lookup (is_at (slice_cmp nat_cmp query.table)) entries in
    one_asked query e.0 e.1 (results_asked query (map (λ (entry : List ℕ × Answer). record { name = entry.0; answer = entry.1 }) entries)) more (same_name query.table e.0) refl (entries_asked query entries)
    ∙ ap (λ (b : Bool). found_asked query (cond b (Some e.1) more)) (sym (at_name query.table e.0))

pub held_asked : (query : Select) (tables : BTreeMap (List ℕ) Answer) → results_asked query (held tables) ≡ found_asked query (get (slice_cmp nat_cmp) tables query.table)
held_asked query tables = entries_asked query tables.entries

-- one more, in place of an older one of its name
pub held_more : (old new : BTreeMap (List ℕ) Answer) (table : ResultTable)
    → ((name : List ℕ) → get (slice_cmp nat_cmp) new name ≡ cond (is_at (slice_cmp nat_cmp table.name) name) (Some table.answer) (get (slice_cmp nat_cmp) old name))
    → GiveAlike (held new) (table ∷ held old)
held_more old new table updates query =
    let more = get (slice_cmp nat_cmp) old query.table in
    held_asked query new
    ∙ ap (found_asked query) (updates query.table)
    ∙ ap (λ (b : Bool). found_asked query (cond b (Some table.answer) more)) (at_name table.name query.table ∙ same_turned table.name query.table)
    ∙ sym (one_asked query table.name table.answer (results_asked query (held old)) more (same_name query.table table.name) refl (held_asked query old))

pub asked_found : (result : Result Answer Refusal) (query : Select) (tables : BTreeMap (List ℕ) Answer) (found : Option (Bor Answer)) (answer : Bor Answer)
    → option_copied found ≡ get (slice_cmp nat_cmp) tables query.table → found ≡ Some answer
    → Gives (λ (a : Answer). a) result (found_asked query (Some answer.now)) → Gives (λ (a : Answer). a) result (results_asked query (held tables))
asked_found result query tables found answer got is gives =
    subst (Gives (λ (a : Answer). a) result)
    (ap (λ (o : Option (Bor Answer)). found_asked query (option_copied o)) (sym is) ∙ ap (found_asked query) got ∙ sym (held_asked query tables)) gives

pub none_found : (query : Select) (tables : BTreeMap (List ℕ) Answer) (found : Option (Bor Answer))
    → option_copied found ≡ get (slice_cmp nat_cmp) tables query.table → found ≡ None → results_asked query (held tables) ≡ Err UnknownName
none_found query tables found got is =
    held_asked query tables ∙ ap (found_asked query) (sym got) ∙ ap (λ (o : Option (Bor Answer)). found_asked query (option_copied o)) is

-- ---- what gives alike

pub alike_sym : (one other : List ResultTable) → GiveAlike one other → GiveAlike other one
alike_sym one other alike query = sym (alike query)

-- behind the same table
pub alike_more : (front one other : List ResultTable) → GiveAlike one other → GiveAlike (front ++ one) (front ++ other)
alike_more [] one other alike query = alike query
alike_more (table ∷ front) one other alike query = ap (λ (rest : Result Answer Refusal). cond (same_name query.table table.name) (asked_of query (record { name = table.name; columns = table.answer.columns }) table.answer.rows) rest) (alike_more front one other alike query)
