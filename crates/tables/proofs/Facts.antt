-- What the check of a statement says of the tables that it names.
use Rattle.std.proofs.Common.{◌≡◌, ◌∙◌, ℕ, Bool, true, false, not, Option, Some, None, List, [], ◌∷◌, Ok, refl, ap, subst, cond}
use Rattle.std.specs.Prelude.{is_none, slice_get}
use Rattle.std.specs.List.{list_all}
use Rattle.std.specs.Option.{option_and_then}
use Rattle.sql_tree.specs.declared.schema.Schema.{Schema}
use Rattle.sql_tree.specs.declared.schema.TableSchema.{TableSchema}
use Rattle.sql_tree.specs.declared.select.Select.{Select as SelectRecord}
use Rattle.sql_tree.specs.declared.statement.Insert.{Insert as InsertRecord}
use Rattle.sql_tree.specs.declared.statement.Statement.{Statement}
use Rattle.sql_tree.specs.declared.statement.Statement.TheVariants.{Insert, Update, Select}
use Rattle.sql_tree.specs.declared.statement.Update.{Update as UpdateRecord}
use Rattle.sql_check.specs.Check.{checked, finds, first_refusal, has_unknown_name, has_wrong_type, lacks, scope_of_one, scope_of_two, select_scope, tables_of, takes_taken_name, update_has_unknown, update_is_mistyped}
use Rattle.sql_check.specs.Names.{is_reserved, stored_table}
use Rattle.values.specs.Name.{same_name}
use Rattle.sql_check.specs.Names as names
use Rattle.sql_tree.specs.Rows.{fits}
use Rattle.sql_check.specs.Selects.{select_has_unknown, select_is_mistyped}
use Rattle.tables.specs.declared.contents.Contents.{Contents}
use Rattle.tables.specs.Tables.{Found, Tables, found_with, place_named, table_named}
use Rattle.tables.proofs.Sound.{find-position}

first_ok : (unknown taken mistyped : Bool) → first_refusal unknown taken mistyped ≡ Ok tt → (unknown ≡ false) × (taken ≡ false) × (mistyped ≡ false)
first_ok true taken mistyped e = let no : ⊥ = cc in absurd no
first_ok false true mistyped e = let no : ⊥ = cc in absurd no
first_ok false false true e = let no : ⊥ = cc in absurd no
first_ok false false false e = (refl, refl, refl)

-- a statement that was let through
pub let_through : (statement : Statement) (snapshot : Option ℕ) (schema : Schema) → checked statement snapshot schema ≡ Ok tt → (has_unknown_name statement snapshot schema ≡ false) × (takes_taken_name statement schema ≡ false) × (has_wrong_type statement schema ≡ false)
let_through statement snapshot schema e = first_ok (has_unknown_name statement snapshot schema) (takes_taken_name statement schema) (has_wrong_type statement schema) e

-- what is found stands at its place
pub record IsFound (name : List ℕ) (tables : Tables) (found : Found) : Type 0 where
  pub place : place_named name tables ≡ Some found.place
  pub schema : slice_get tables.schema.tables found.place ≡ Some found.schema
  pub contents : slice_get tables.contents found.place ≡ Some found.contents

found_parts : (place : ℕ) (schema : Option TableSchema) (contents : Option Contents) (found : Found) → found_with place schema contents ≡ Some found → (place ≡ found.place) × (schema ≡ Some found.schema) × (contents ≡ Some found.contents)
found_parts place None contents found e = let no : ⊥ = cc in absurd no
found_parts place (Some schema) None found e = let no : ⊥ = cc in absurd no
found_parts place (Some schema) (Some contents) found e =
    let same : ◌≡◌ {A = Found} (record { place = place; schema = schema; contents = contents }) found = cc in
    (ap (λ (f : Found). f.place) same, ap (λ (f : Found). Some f.schema) same, ap (λ (f : Found). Some f.contents) same)

found_by : (place : Option ℕ) (schemas : List TableSchema) (contents : List Contents) (found : Found) → option_and_then (λ (p : ℕ). found_with p (slice_get schemas p) (slice_get contents p)) place ≡ Some found → (place ≡ Some found.place) × (slice_get schemas found.place ≡ Some found.schema) × (slice_get contents found.place ≡ Some found.contents)
found_by None schemas contents found e = let no : ⊥ = cc in absurd no
found_by (Some p) schemas contents found e =
    let parts = found_parts p (slice_get schemas p) (slice_get contents p) found e in
    (ap (λ (q : ℕ). Some q) parts.0, subst (λ (q : ℕ). slice_get schemas q ≡ Some found.schema) parts.0 parts.1, subst (λ (q : ℕ). slice_get contents q ≡ Some found.contents) parts.0 parts.2)

pub is_found : (name : List ℕ) (tables : Tables) (found : Found) → table_named name tables ≡ Some found → IsFound name tables found
is_found name tables found e =
    let parts = found_by (place_named name tables) tables.schema.tables tables.contents found e in
    record { place = parts.0; schema = parts.1; contents = parts.2 }

-- the check finds the same table by its name
pub found_schema : (name : List ℕ) (tables : Tables) (found : Found) → table_named name tables ≡ Some found → names.table_named name tables.schema ≡ Some found.schema
found_schema name tables found e =
    let is = is_found name tables found e in
    find-position (λ (table : TableSchema). same_name table.name name) tables.schema.tables found.place is.place ∙ is.schema

lacks_is : {X : Type 0} (stored : Option X) (test : X → Bool) → lacks stored test ≡ false → (x : X) × (stored ≡ Some x) × (test x ≡ false)
lacks_is None test e = let no : ⊥ = cc in absurd no
lacks_is (Some x) test e = (x, refl, e)

none_is : {X : Type 0} (stored : Option X) → is_none stored ≡ false → (x : X) × (stored ≡ Some x)
none_is None e = let no : ⊥ = cc in absurd no
none_is (Some x) e = (x, refl)

finds_is : {X : Type 0} (stored : Option X) (x : X) (test : X → Bool) → stored ≡ Some x → finds stored test ≡ false → test x ≡ false
finds_is {X = X} stored x test is e = subst (λ (o : Option X). finds o test ≡ false) is e

stored_same : (reserved : Bool) (found : Option TableSchema) (x t : TableSchema) → cond reserved None found ≡ Some x → found ≡ Some t → x ≡ t
stored_same true found x t e is = cc
stored_same false found x t e is = cc

-- a table of the store that the check finds is the one that is found
stored_is : (name : List ℕ) (tables : Tables) (found : Found) (x : TableSchema) → table_named name tables ≡ Some found → stored_table name tables.schema ≡ Some x → x ≡ found.schema
stored_is name tables found x e stored = stored_same (is_reserved name) (names.table_named name tables.schema) x found.schema stored (found_schema name tables found e)

-- the tuples of an INSERT that was checked fit the table
pub insert_checked : (insert : InsertRecord) (snapshot : Option ℕ) (tables : Tables) (found : Found) → checked (Insert insert) snapshot tables.schema ≡ Ok tt → table_named insert.table tables ≡ Some found → list_all (fits found.schema.columns) insert.tuples ≡ true
insert_checked insert snapshot tables found e is =
    let facts = let_through (Insert insert) snapshot tables.schema e in
    let stored = none_is (stored_table insert.table tables.schema) facts.0 in
    let fit : not (list_all (fits stored.0.columns) insert.tuples) ≡ false = finds_is (stored_table insert.table tables.schema) stored.0 (λ (table : TableSchema). not (list_all (fits table.columns) insert.tuples)) stored.1 facts.2 in
    subst (λ (t : TableSchema). list_all (fits t.columns) insert.tuples ≡ true) (stored_is insert.table tables found stored.0 is stored.1) (not_false (list_all (fits stored.0.columns) insert.tuples) fit)
  where
    not_false : (b : Bool) → not b ≡ false → b ≡ true
    not_false true p = refl
    not_false false p = cc

-- the names and types of an UPDATE that was checked are right for the table
pub update_checked : (update : UpdateRecord) (snapshot : Option ℕ) (tables : Tables) (found : Found) → checked (Update update) snapshot tables.schema ≡ Ok tt → table_named update.table tables ≡ Some found → (update_has_unknown snapshot update found.schema ≡ false) × (update_is_mistyped update found.schema ≡ false)
update_checked update snapshot tables found e is =
    let facts = let_through (Update update) snapshot tables.schema e in
    let stored = lacks_is (stored_table update.table tables.schema) (update_has_unknown snapshot update) facts.0 in
    let types = finds_is (stored_table update.table tables.schema) stored.0 (update_is_mistyped update) stored.1 facts.2 in
    let same = stored_is update.table tables found stored.0 is stored.1 in
    (subst (λ (t : TableSchema). update_has_unknown snapshot update t ≡ false) same stored.2, subst (λ (t : TableSchema). update_is_mistyped update t ≡ false) same types)

-- the names and types of a select that was checked are right for its tables
abbrev pub IsRight : SelectRecord → Option ℕ → List TableSchema → Type 0
IsRight select snapshot scope = (select_has_unknown snapshot select scope ≡ false) × (select_is_mistyped select scope ≡ false)

right_by : (select : SelectRecord) (snapshot : Option ℕ) (schema : Schema) (scope : List TableSchema) → checked (Select select) snapshot schema ≡ Ok tt → ((other : List TableSchema) → select_scope select schema ≡ Some other → other ≡ scope) → IsRight select snapshot scope
right_by select snapshot schema scope e only =
    let facts = let_through (Select select) snapshot schema e in
    let found = lacks_is (select_scope select schema) (select_has_unknown snapshot select) facts.0 in
    let types = finds_is (select_scope select schema) found.0 (select_is_mistyped select) found.1 facts.2 in
    subst (IsRight select snapshot) (only found.0 found.1) (found.2, types)

scope_one : (found : Option TableSchema) (t : TableSchema) (scope : List TableSchema) → found ≡ Some t → scope_of_one found ≡ Some scope → scope ≡ t ∷ []
scope_one None t scope is e = cc
scope_one (Some u) t scope is e = cc

scope_two : (a b : Option TableSchema) (scope : List TableSchema) → scope_of_two a b ≡ Some scope → (t : TableSchema) × (u : TableSchema) × (a ≡ Some t) × (b ≡ Some u) × (scope ≡ t ∷ u ∷ [])
scope_two None b scope e = let no : ⊥ = cc in absurd no
scope_two (Some t) None scope e = let no : ⊥ = cc in absurd no
scope_two (Some t) (Some u) scope e = (t, u, refl, refl, cc)

pub select_checked : (select : SelectRecord) (snapshot : Option ℕ) (tables : Tables) (first : Found) → select.second ≡ None → checked (Select select) snapshot tables.schema ≡ Ok tt → table_named select.table tables ≡ Some first → IsRight select snapshot (first.schema ∷ [])
select_checked select snapshot tables first alone e is =
    right_by select snapshot tables.schema (first.schema ∷ []) e
    (λ (other : List TableSchema) (q : select_scope select tables.schema ≡ Some other).
    scope_one (names.table_named select.table tables.schema) first.schema other (found_schema select.table tables first is) (subst (λ (second : Option (List ℕ)). tables_of select.table second tables.schema ≡ Some other) alone q))

pub join_checked : (select : SelectRecord) (snapshot : Option ℕ) (tables : Tables) (name : List ℕ) (first second : Found) → select.second ≡ Some name → checked (Select select) snapshot tables.schema ≡ Ok tt → table_named select.table tables ≡ Some first → table_named name tables ≡ Some second → IsRight select snapshot (first.schema ∷ second.schema ∷ [])
join_checked select snapshot tables name first second two e is_first is_second =
    right_by select snapshot tables.schema (first.schema ∷ second.schema ∷ []) e only
  where
    only : (other : List TableSchema) → select_scope select tables.schema ≡ Some other → other ≡ first.schema ∷ second.schema ∷ []
    only other q =
        let parts = scope_two (stored_table select.table tables.schema) (stored_table name tables.schema) other (subst (λ (s : Option (List ℕ)). tables_of select.table s tables.schema ≡ Some other) two q) in
        let a = stored_is select.table tables first parts.0 is_first parts.2 in
        let b = stored_is name tables second parts.1 is_second parts.3 in
        parts.4 ∙ ap (λ (t : TableSchema). t ∷ parts.1 ∷ []) a ∙ ap (λ (u : TableSchema). first.schema ∷ u ∷ []) b
