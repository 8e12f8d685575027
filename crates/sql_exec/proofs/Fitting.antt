-- What a check that passes says of tuples.
use Rattle.std.proofs.Common.{◌≡◌, ◌∙◌, ◌≤◌, ◌&&◌, ◌||◌, ◌==◌, ℕ, Bool, true, false, not, cond, is_none, List, [], ◌∷◌, length, map, Option, Some, None, Ok, refl, ap, subst, arith}
use Rattle.std.specs.Cmp.Lexicographic.{pointwise}
use Rattle.std.specs.List.{AllByRecursion, find, list_all, list_any}
use Rattle.values.specs.Value.{kind_of}
use Rattle.values.specs.declared.value.Value.{Value}
use Rattle.sql_tree.specs.declared.schema.Schema.{Schema}
use Rattle.sql_tree.specs.declared.schema.TableSchema.{TableSchema}
use Rattle.sql_tree.specs.declared.statement.Column.{Column}
use Rattle.sql_tree.specs.declared.statement.Insert.{Insert as InsertRecord}
use Rattle.sql_tree.specs.declared.statement.Statement.TheVariants.{Delete, Insert, Select, Update}
use Rattle.sql_tree.specs.declared.statement.Delete.{Delete as DeleteRecord}
use Rattle.sql_tree.specs.declared.select.Select.{Select as SelectRecord}
use Rattle.sql_tree.specs.Condition.{ConditionTree}
use Rattle.sql_check.specs.Selects.{keys_have_unknown, lacks_kind, list_has_unknown, select_has_unknown, select_is_mistyped, where_compares_apart, where_has_unknown}
use Rattle.sql_check.specs.Outputs.{answer_columns}
use Rattle.sql_kinds.proofs.Truths.{or_none}
use Rattle.sql_tree.specs.declared.statement.Update.{Update as UpdateRecord}
use Rattle.sql_check.specs.Check.{assigns_other_kind, assigns_unknown, checked, scope_of_one, select_scope, tables_of, finds, first_refusal, has_unknown_name, has_wrong_type, lacks, takes_taken_name, update_has_unknown, update_is_mistyped}
use Rattle.sql_check.specs.Names.{is_reserved, stored_table, table_named as named_in}
use Rattle.sql_tree.specs.Rows.{same_kind, fits}
use Rattle.tables.specs.Rows.{rows_of}
use Rattle.sql_tree.specs.Rows.{AllFit}
use Rattle.heap_file.specs.declared.chain.Placed.{Placed}
use Rattle.relation.specs.declared.catalog.Catalog.{Catalog}
use Rattle.relation.specs.declared.catalog.StoredTable.{StoredTable}
use Rattle.relation.specs.Catalog.{schema_of, table_named}
use Rattle.values.specs.Name.{same_name}
use Rattle.relation.specs.Work.{AllPlacedFit}
use Rattle.relation_laws.specs.Tables.{numbered_row}
use Rattle.sql_exec.specs.Reading.{schema_at}
use Rattle.sql_exec.specs.Running.{IsOfWidth, numbered_at}

pub passed : (unknown taken mistyped : Bool) → first_refusal unknown taken mistyped ≡ Ok tt → (unknown ≡ false) × (taken ≡ false) × (mistyped ≡ false)
passed true taken mistyped e = absurd (cc e)
passed false true mistyped e = absurd (cc e)
passed false false true e = absurd (cc e)
passed false false false e = (refl, refl, refl)

-- a table of the catalog in its schema
pub found-in : (name : List ℕ) (stored : List StoredTable) (table : StoredTable) → table_named name stored ≡ Some table → find (λ (t : TableSchema). pointwise ◌==◌ t.name name) (map schema_at stored) ≡ Some (schema_at table)
found-in name [] table e = absurd (none e)
  where
    none : None ≡ Some table → ⊥
    none e = cc
found-in name (first ∷ stored) table e = go (same_name first.name name) e (found-in name stored table)
  where
    go : (b : Bool) → cond b (Some first) (table_named name stored) ≡ Some table → (table_named name stored ≡ Some table → find (λ (t : TableSchema). pointwise ◌==◌ t.name name) (map schema_at stored) ≡ Some (schema_at table)) → cond b (Some (schema_at first)) (find (λ (t : TableSchema). pointwise ◌==◌ t.name name) (map schema_at stored)) ≡ Some (schema_at table)
    go true is rest = let same : first ≡ table = cc is in ap (λ (t : StoredTable). Some (schema_at t)) same
    go false is rest = rest is

-- a table that is not missing where one of the store is wanted
pub stored-is : (name : List ℕ) (schema : Schema) (table : TableSchema) → is_none (stored_table name schema) ≡ false → named_in name schema ≡ Some table → stored_table name schema ≡ Some table
stored-is name schema table there is = go (is_reserved name) there
  where
    go : (b : Bool) → is_none (cond b None (named_in name schema)) ≡ false → cond b None (named_in name schema) ≡ Some table
    go true e = absurd (clash e)
      where
        clash : true ≡ false → ⊥
        clash e = cc
    go false e = is

pub not-false : (b : Bool) → not b ≡ false → b ≡ true
not-false true e = refl
not-false false e = absurd (clash e)
  where
    clash : true ≡ false → ⊥
    clash e = cc

-- the tuples of an insert that was checked fit its table
pub tuples-fit : (found : Catalog) (insert : InsertRecord) (snapshot : Option ℕ) (table : StoredTable) → table_named insert.table found.tables ≡ Some table → checked (Insert insert) snapshot (schema_of found) ≡ Ok tt → list_all (fits table.columns) insert.tuples ≡ true
tuples-fit found insert snapshot table is passes =
    let schema = schema_of found in
    let pass = passed (has_unknown_name (Insert insert) snapshot schema) (takes_taken_name (Insert insert) schema) (has_wrong_type (Insert insert) schema) passes in
    let there = stored-is insert.table schema (schema_at table) pass.0 (found-in insert.table found.tables table is) in
    not-false (list_all (fits table.columns) insert.tuples)
    (subst (λ (t : Option TableSchema). finds t (λ (table : TableSchema). not (list_all (fits table.columns) insert.tuples)) ≡ false) there pass.2)

no-row : {P : Type 0} → false ≡ true → P
no-row e = absurd (clash e)
  where
    clash : false ≡ true → ⊥
    clash e = cc

both-true : (a b : Bool) → a && b ≡ true → (a ≡ true) × (b ≡ true)
both-true true b e = (refl, e)
both-true false b e = no-row e

-- a row that fits is as long as the columns
pub fits-long : (columns : List Column) (row : List Value) → fits columns row ≡ true → length row ≡ length columns
fits-long [] [] e = refl
fits-long [] (value ∷ row) e = no-row e
fits-long (column ∷ columns) [] e = no-row e
fits-long (column ∷ columns) (value ∷ row) e = omega (arith, fits-long columns row (both-true (same_kind column.kind (kind_of value)) (fits columns row) e).1)

pub each-fits : (columns : List Column) (rows : List (List Value)) → list_all (fits columns) rows ≡ true → AllByRecursion (λ (row : List Value). fits columns row ≡ true) rows
each-fits columns [] e = tt
each-fits columns (row ∷ rows) e =
    let both = both-true (fits columns row) (list_all (fits columns) rows) e in
    (both.0, each-fits columns rows both.1)

pub each-wide : (columns : List Column) (rows : List (List Value)) → length columns ≤ 16 → AllByRecursion (λ (row : List Value). 1 ≤ length row) rows → list_all (fits columns) rows ≡ true → AllByRecursion IsOfWidth rows
each-wide columns [] few some e = tt
each-wide columns (row ∷ rows) few some e =
    let both = both-true (fits columns row) (list_all (fits columns) rows) e in
    let long = fits-long columns row both.0 in
    ((some.0, omega (arith, long, few)), each-wide columns rows few some.1 both.1)

some-there : {X : Type 0} (found : Option X) (test : X → Bool) → lacks found test ≡ false → is_none found ≡ false
some-there None test e = absurd (clash e)
  where
    clash : true ≡ false → ⊥
    clash e = cc
some-there (Some x) test e = refl

-- an update that was checked has known names and right types
pub update-right : (found : Catalog) (update : UpdateRecord) (snapshot : Option ℕ) (table : StoredTable) → table_named update.table found.tables ≡ Some table → checked (Update update) snapshot (schema_of found) ≡ Ok tt → (update_has_unknown snapshot update (schema_at table) ≡ false) × (update_is_mistyped update (schema_at table) ≡ false)
update-right found update snapshot table is passes =
    let schema = schema_of found in
    let pass = passed (has_unknown_name (Update update) snapshot schema) (takes_taken_name (Update update) schema) (has_wrong_type (Update update) schema) passes in
    let there = stored-is update.table schema (schema_at table) (some-there (stored_table update.table schema) (update_has_unknown snapshot update) pass.0) (found-in update.table found.tables table is) in
    (subst (λ (t : Option TableSchema). lacks t (update_has_unknown snapshot update) ≡ false) there pass.0, subst (λ (t : Option TableSchema). finds t (update_is_mistyped update) ≡ false) there pass.2)

-- and so has the condition of an update, of a delete, and of a select of one table
abbrev IsRight : TableSchema → Option ℕ → Option ConditionTree → Type 0
IsRight table snapshot condition = (where_has_unknown (table ∷ []) snapshot condition ≡ false) × (where_compares_apart (table ∷ []) condition ≡ false)

pub update-where : (found : Catalog) (update : UpdateRecord) (snapshot : Option ℕ) (table : StoredTable) → table_named update.table found.tables ≡ Some table → checked (Update update) snapshot (schema_of found) ≡ Ok tt → IsRight (schema_at table) snapshot update.condition
update-where found update snapshot table is passes =
    let right = update-right found update snapshot table is passes in
    ((or_none (list_any (assigns_unknown snapshot (schema_at table)) update.assignments) (where_has_unknown (schema_at table ∷ []) snapshot update.condition) right.0).1, (or_none (list_any (assigns_other_kind (schema_at table)) update.assignments) (where_compares_apart (schema_at table ∷ []) update.condition) right.1).1)

pub delete-where : (found : Catalog) (delete : DeleteRecord) (snapshot : Option ℕ) (table : StoredTable) → table_named delete.table found.tables ≡ Some table → checked (Delete delete) snapshot (schema_of found) ≡ Ok tt → IsRight (schema_at table) snapshot delete.condition
delete-where found delete snapshot table is passes =
    let schema = schema_of found in
    let pass = passed (has_unknown_name (Delete delete) snapshot schema) (takes_taken_name (Delete delete) schema) (has_wrong_type (Delete delete) schema) passes in
    let unknown : TableSchema → Bool = λ table. where_has_unknown (table ∷ []) snapshot delete.condition in
    let there = stored-is delete.table schema (schema_at table) (some-there (stored_table delete.table schema) unknown pass.0) (found-in delete.table found.tables table is) in
    (subst (λ (t : Option TableSchema). lacks t unknown ≡ false) there pass.0, subst (λ (t : Option TableSchema). finds t (λ (table : TableSchema). where_compares_apart (table ∷ []) delete.condition) ≡ false) there pass.2)

pub select-where : (found : Catalog) (select : SelectRecord) (snapshot : Option ℕ) (table : StoredTable) → select.second ≡ None → table_named select.table found.tables ≡ Some table → checked (Select select) snapshot (schema_of found) ≡ Ok tt → IsRight (schema_at table) snapshot select.condition
select-where found select snapshot table alone is passes =
    let schema = schema_of found in
    let scope = schema_at table ∷ [] in
    let pass = passed (has_unknown_name (Select select) snapshot schema) (takes_taken_name (Select select) schema) (has_wrong_type (Select select) schema) passes in
    let there : select_scope select schema ≡ Some scope = ap (λ (second : Option (List ℕ)). tables_of select.table second schema) alone ∙ ap scope_of_one (found-in select.table found.tables table is) in
    let names : select_has_unknown snapshot select scope ≡ false = subst (λ (s : Option (List TableSchema)). lacks s (select_has_unknown snapshot select) ≡ false) there pass.0 in
    let kinds : select_is_mistyped select scope ≡ false = subst (λ (s : Option (List TableSchema)). finds s (select_is_mistyped select) ≡ false) there pass.2 in (
      (or_none (list_has_unknown scope snapshot select.list) (where_has_unknown scope snapshot select.condition) (or_none _ _ (or_none _ (keys_have_unknown scope select (answer_columns scope select.list)) names).0).0).1,
      (or_none (lacks_kind scope select.list) (where_compares_apart scope select.condition) (or_none (lacks_kind scope select.list || where_compares_apart scope select.condition) _ kinds).0).1,
    )

pub wide-each : (columns : List Column) (rows : List (List Value)) → 1 ≤ length columns → length columns ≤ 16 → AllFit columns rows → AllByRecursion IsOfWidth rows
wide-each columns [] some few fit = tt
wide-each columns (row ∷ rows) some few fit =
    let long = fits-long columns row fit.0 in
    ((omega (arith, long, some), omega (arith, long, few)), wide-each columns rows some few fit.1)

-- rows that fit as the pages keep them, under their numbers
pub read-fit : (columns : List Column) (rows : List Placed) → AllPlacedFit columns rows → AllFit columns (rows_of (map numbered_at rows))
read-fit columns [] fit = tt
read-fit columns (row ∷ rows) fit = (fit.0, read-fit columns rows fit.1)

pub fit-read : (columns : List Column) (rows : List Placed) → AllByRecursion (λ (row : ℕ × List Value). fits columns row.1 ≡ true) (map numbered_row rows) → AllPlacedFit columns rows
fit-read columns [] fit = tt
fit-read columns (row ∷ rows) fit = (fit.0, fit-read columns rows fit.1)
