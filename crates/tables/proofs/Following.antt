-- The laws of what is shown.
use Rattle.std.proofs.Common.{◌≡◌, ◌≢◌, ◌∙◌, ℕ, ◌+◌, ◌-◌, ◌^◌, true, false, ◌||◌, Option, Some, None, List, [], ◌∷◌, ◌++◌, Result, Ok, length, refl, ap, sym, subst, append-nil}
use Rattle.std.specs.Prelude.{nat_le, slice_get}
use Rattle.std.specs.Option.{option_and_then}
use Rattle.std.specs.Cmp.Lexicographic.{same_text}
use Rattle.std.proofs.lemmas.Cmp.{nat_list_eq_equiv}
use Rattle.std.proofs.lemmas.List.Quantifiers.{position-Some}
use Rattle.std.proofs.lemmas.Option.{get_or_from_slice_get}
use Rattle.retro_base.specs.Gives.{◌>>=◌}
use Rattle.retro_base.specs.declared.refusal.Refusal.{Refusal}
use Rattle.retro_base.specs.declared.refusal.Refusal.TheVariants.{Overflow}
use Rattle.values.specs.declared.value.Value.{Value}
use Rattle.sql_tree.specs.declared.schema.TableSchema.{TableSchema}
use Rattle.sql_tree.specs.declared.statement.Column.{Column}
use Rattle.sql_tree.specs.declared.statement.CreateTable.{CreateTable as CreateRecord}
use Rattle.sql_tree.specs.declared.statement.Insert.{Insert as InsertRecord}
use Rattle.sql_tree.specs.declared.statement.Statement.{Statement}
use Rattle.sql_tree.specs.declared.statement.Statement.TheVariants.{CreateTable, CreateIndex, Insert, Update, Delete, Select}
use Rattle.sql_check.specs.Check.{checked, finds, first_refusal, lacks, scope_of_one}
use Rattle.sql_check.specs.Names.{has_name, has_twins, is_named, is_reserved}
use Rattle.values.specs.Name.{same_name}
use Rattle.sql_check.specs.Names as names
use Rattle.sql_check.specs.Selects.{select_has_unknown, select_is_mistyped}
use Rattle.sql_kinds.proofs.Truths.{or_none}
use Rattle.sql_select.specs.declared.answer.Answer.{Answer}
use Rattle.sql_select.proofs.Following.{star_gives_rows}
use Rattle.tables.specs.declared.contents.Contents.{Contents}
use Rattle.tables.specs.declared.reply.Reply.{Reply}
use Rattle.tables.specs.declared.reply.Reply.TheVariants.{Plain, Count, Rows}
use Rattle.tables.specs.Laws.{CreatedIsEmpty, InsertedAreLast, OthersStay, Shows, star_of, table_of}
use Rattle.tables.specs.Meaning.{answer_of, answer_over, changed, check, check_lengths, does, inserted, known, performed, remaining, updated}
use Rattle.tables.specs.Rows.{numbered, rows_of}
use Rattle.tables.specs.Tables.{Found, IsTable, Tables, found_with, table_named, with_contents, with_table}
use Rattle.tables.proofs.Facts.{IsFound, found_schema, is_found, let_through}
use Rattle.tables.proofs.Places.{get-append, get-append_end, get-set_other, get-set_same, position-append, position-append_end, zip_length}
use Rattle.tables.proofs.Sound.{bound, ok_same, rows_of-append, rows_of-numbered}

some_found : (a b : Found) → Some a ≡ Some b → a ≡ b
some_found a b e = cc

pub known_some : (found : Option Found) (x : Found) → known found ≡ Ok x → found ≡ Some x
known_some None x e = let no : ⊥ = cc in absurd no
known_some (Some y) x e = ap (λ (z : Found). Some z) (ok_same y x e)

-- a table is found where its name, its columns and its contents stand at one place
pub found_from : (name : List ℕ) (tables : Tables) (found : Found) → IsFound name tables found → table_named name tables ≡ Some found
found_from name tables found is =
    ap (option_and_then (λ (p : ℕ). found_with p (slice_get tables.schema.tables p) (slice_get tables.contents p))) is.place
    ∙ ap (λ (s : Option TableSchema). found_with found.place s (slice_get tables.contents found.place)) is.schema
    ∙ ap (found_with found.place (Some found.schema)) is.contents

-- SELECT * of a table that is found
star_by : (name : List ℕ) (found : Option TableSchema) (t : TableSchema) → found ≡ Some t → first_refusal (lacks (scope_of_one found) (select_has_unknown None (star_of name))) false (finds (scope_of_one found) (select_is_mistyped (star_of name))) ≡ Ok tt
star_by name found t e = rw e refl

star_checked : (name : List ℕ) (tables : Tables) (found : Found) → table_named name tables ≡ Some found → checked (Select (star_of name)) None tables.schema ≡ Ok tt
star_checked name tables found e = star_by name (names.table_named name tables.schema) found.schema (found_schema name tables found e)

star_answer : (name : List ℕ) (found : Found) → answer_over (star_of name) None found None ≡ Ok (record { columns = found.schema.columns; rows = rows_of found.contents.rows })
star_answer name found =
    star_gives_rows name None (found.schema ∷ []) (found.schema.columns ++ []) None (rows_of found.contents.rows) None
    ∙ ap (λ (columns : List Column). Ok (record { columns = columns; rows = rows_of found.contents.rows })) (append-nil found.schema.columns)

abbrev Outcome : Type 0
Outcome = Result (Tables × Reply) Refusal

pub shows_found : (name : List ℕ) (tables : Tables) (found : Found) → table_named name tables ≡ Some found → Shows tables name found.schema.columns (rows_of found.contents.rows)
shows_found name tables found e =
    ap (λ (c : Result (Unit {0}) Refusal). c >>= (λ (u : Unit {0}). performed (Select (star_of name)) None tables)) (star_checked name tables found e)
    ∙ ap (λ (f : Option Found). (known f >>= (λ (first : Found). answer_over (star_of name) None first None)) >>= (λ (a : Answer). Ok (tables, Rows a))) e
    ∙ ap (λ (a : Result Answer Refusal). a >>= (λ (answer : Answer). Ok (tables, Rows answer))) (star_answer name found)

abbrev answer_in : Answer → Reply → Answer
answer_in other Plain = other
answer_in other (Count count) = other
answer_in other (Rows answer) = answer

-- what is shown is what the table that is found holds
pub record IsShown (name : List ℕ) (tables : Tables) (columns : List Column) (rows : List (List Value)) : Type 0 where
  pub found : Found
  pub is : table_named name tables ≡ Some found
  pub columns_are : found.schema.columns ≡ columns
  pub rows_are : rows_of found.contents.rows ≡ rows

pub is_shown : (name : List ℕ) (tables : Tables) (columns : List Column) (rows : List (List Value)) → Shows tables name columns rows → IsShown name tables columns rows
is_shown name tables columns rows e =
    let last : Answer = record { columns = columns; rows = rows } in
    let checks = bound (checked (Select (star_of name)) None tables.schema) (λ (u : Unit {0}). performed (Select (star_of name)) None tables) (tables, Rows last) e in
    let answer = bound (answer_of (star_of name) None tables) (λ (a : Answer). Ok (tables, Rows a)) (tables, Rows last) checks.2 in
    let found = bound (known (table_named name tables)) (λ (first : Found). answer_over (star_of name) None first None) answer.0 answer.1 in
    let given : ◌≡◌ {A = Answer} (record { columns = found.0.schema.columns; rows = rows_of found.0.contents.rows }) answer.0 = ok_same (record { columns = found.0.schema.columns; rows = rows_of found.0.contents.rows }) answer.0 (sym (star_answer name found.0) ∙ found.2) in
    let same : answer.0 ≡ last = ap (λ (done : Tables × Reply). answer_in last done.1) (ok_same (tables, Rows answer.0) (tables, Rows last) answer.2) in
    record {
      found = found.0;
      is = known_some (table_named name tables) found.0 found.1;
      columns_are = ap (λ (a : Answer). a.columns) (given ∙ same);
      rows_are = ap (λ (a : Answer). a.rows) (given ∙ same);
    }

pub shows_as : (name : List ℕ) (tables : Tables) (found : Found) (columns : List Column) (rows : List (List Value)) → table_named name tables ≡ Some found → found.schema.columns ≡ columns → rows_of found.contents.rows ≡ rows → Shows tables name columns rows
shows_as name tables found columns rows e these_columns these_rows =
    subst (λ (rs : List (List Value)). Shows tables name columns rs) these_rows (subst (λ (cs : List Column). Shows tables name cs (rows_of found.contents.rows)) these_columns (shows_found name tables found e))

-- what a statement that is not refused does
pub was_performed : (statement : Statement) (snapshot : Option ℕ) (tables after : Tables) (reply : Reply) → does statement snapshot tables ≡ Ok (after, reply) → (checked statement snapshot tables.schema ≡ Ok tt) × (performed statement snapshot tables ≡ Ok (after, reply))
was_performed statement snapshot tables after reply e =
    let checks = bound (checked statement snapshot tables.schema) (λ (u : Unit {0}). performed statement snapshot tables) (after, reply) e in
    (checks.1, checks.2)

-- what a change of a table's contents does
pub record IsChange (name : List ℕ) (tables after : Tables) (outcome : Found → Result (Contents × ℕ) Refusal) : Type 0 where
  pub found : Found
  pub made : Contents × ℕ
  pub is : table_named name tables ≡ Some found
  pub gives : outcome found ≡ Ok made
  pub leaves : with_contents found.place made.0 tables ≡ after

pub is_change : (name : List ℕ) (tables after : Tables) (reply : Reply) (outcome : Found → Result (Contents × ℕ) Refusal) → known (table_named name tables) >>= (λ (found : Found). changed found tables (outcome found)) ≡ Ok (after, reply) → IsChange name tables after outcome
is_change name tables after reply outcome e =
    let found = bound (known (table_named name tables)) (λ (f : Found). changed f tables (outcome f)) (after, reply) e in
    let made = bound (outcome found.0) (λ (m : Contents × ℕ). Ok (with_contents found.0.place m.0 tables, Count m.1)) (after, reply) found.2 in
    record {
      found = found.0;
      made = made.0;
      is = known_some (table_named name tables) found.0 found.1;
      gives = made.1;
      leaves = ap (λ (done : Tables × Reply). done.0) (ok_same (with_contents found.0.place made.0.0 tables, Count made.0.1) (after, reply) made.2);
    }

-- the table whose contents were changed, and another one
pub changed_found : (name : List ℕ) (tables : Tables) (found : Found) (contents : Contents) → table_named name tables ≡ Some found → table_named name (with_contents found.place contents tables) ≡ Some (record { place = found.place; schema = found.schema; contents = contents })
changed_found name tables found contents e =
    let is = is_found name tables found e in
    found_from name (with_contents found.place contents tables) (record { place = found.place; schema = found.schema; contents = contents })
    (record { place = is.place; schema = is.schema; contents = get-set_same tables.contents found.place found.contents contents is.contents })

name_is : (name : List ℕ) (tables : Tables) (found : Found) → table_named name tables ≡ Some found → found.schema.name ≡ name
name_is name tables found e =
    let is = is_found name tables found e in
    let passes = position-Some (λ (table : TableSchema). same_name table.name name) tables.schema.tables found.place found.schema is.place in
    let at = get_or_from_slice_get tables.schema.tables found.place found.schema found.schema is.schema in
    same_text found.schema.name name (sym (subst (λ (t : TableSchema). same_name t.name name ≡ true) at passes.1))

some_table : (a b : TableSchema) → Some a ≡ Some b → a ≡ b
some_table a b e = cc

pub places_apart : (name other : List ℕ) (tables : Tables) (found changed : Found) → other ≢ name → table_named name tables ≡ Some found → table_named other tables ≡ Some changed → changed.place ≡ found.place → ⊥
places_apart name other tables found changed apart e f same =
    let is = is_found name tables found e in
    let was = is_found other tables changed f in
    let schemas : changed.schema ≡ found.schema = some_table changed.schema found.schema (sym was.schema ∙ ap (slice_get tables.schema.tables) same ∙ is.schema) in
    apart (sym (name_is other tables changed f) ∙ ap (λ (t : TableSchema). t.name) schemas ∙ name_is name tables found e)

pub other_found : (name other : List ℕ) (tables : Tables) (found changed : Found) (contents : Contents) → other ≢ name → table_named name tables ≡ Some found → table_named other tables ≡ Some changed → table_named name (with_contents changed.place contents tables) ≡ Some found
other_found name other tables found changed contents apart e f =
    let is = is_found name tables found e in
    found_from name (with_contents changed.place contents tables) found
    (record { place = is.place; schema = is.schema; contents = get-set_other tables.contents changed.place found.place contents (places_apart name other tables found changed apart e f) ∙ is.contents })

-- a table stays where another one is made
pub kept_found : (name : List ℕ) (tables : Tables) (found : Found) (table : TableSchema) → table_named name tables ≡ Some found → table_named name (with_table table tables) ≡ Some found
kept_found name tables found table e =
    let is = is_found name tables found e in
    found_from name (with_table table tables) found
    (record { place = position-append (λ (t : TableSchema). same_name t.name name) tables.schema.tables (table ∷ []) found.place is.place; schema = get-append tables.schema.tables (table ∷ []) found.place found.schema is.schema; contents = get-append tables.contents (record { next = 0; rows = [] } ∷ []) found.place found.contents is.contents })

pub created_is_empty : CreatedIsEmpty
created_is_empty tables after name columns snapshot reply sound e =
    let create : CreateRecord = record { table = name; columns = columns } in
    let table : TableSchema = record { name = name; columns = columns } in
    let done = was_performed (CreateTable create) snapshot tables after reply e in
    let facts = let_through (CreateTable create) snapshot tables.schema done.0 in
    let free = or_none (is_named name tables.schema || is_reserved name) (has_twins (λ (column : Column). column.name) columns) facts.1 in
    let unnamed = or_none (is_named name tables.schema) (is_reserved name) free.0 in
    let none = or_none (has_name (λ (t : TableSchema). t.name) name tables.schema.tables) _ unnamed.0 in
    let leaves : with_table table tables ≡ after = ap (λ (d : Tables × Reply). d.0) (ok_same (with_table table tables, Plain) (after, reply) done.1) in
    let itself : same_name name name ≡ true = nat_list_eq_equiv.refl name in
    let found : Found = record { place = length tables.schema.tables; schema = table; contents = record { next = 0; rows = [] } } in
    let long : length tables.contents ≡ length tables.schema.tables = sym (zip_length IsTable tables.schema.tables tables.contents sound) in
    let contents_at : slice_get (tables.contents ++ record { next = 0; rows = [] } ∷ []) (length tables.schema.tables) ≡ Some (record { next = 0; rows = [] }) = subst (λ (n : ℕ). slice_get (tables.contents ++ record { next = 0; rows = [] } ∷ []) n ≡ Some (record { next = 0; rows = [] })) long (get-append_end tables.contents (record { next = 0; rows = [] })) in
    let is = found_from name (with_table table tables) found (record { place = position-append_end (λ (t : TableSchema). same_name t.name name) tables.schema.tables table none.0 itself; schema = get-append_end tables.schema.tables table; contents = contents_at }) in
    subst (λ (at : Tables). Shows at name columns []) leaves (shows_found name (with_table table tables) found is)

pub inserted_are_last : InsertedAreLast
inserted_are_last tables after name columns rows tuples snapshot reply shown e =
    let insert : InsertRecord = record { table = name; tuples = tuples } in
    let done = was_performed (Insert insert) snapshot tables after reply e in
    let change = is_change name tables after reply (λ (f : Found). inserted tuples f.contents) done.1 in
    let before = is_shown name tables columns rows shown in
    let same : before.found ≡ change.found = some_found before.found change.found (sym before.is ∙ change.is) in
    let old = change.found.contents in
    let made : Contents × ℕ = (record { next = old.next + length tuples; rows = old.rows ++ numbered old.next tuples }, length tuples) in
    let room = bound (check (nat_le (old.next + length tuples) (2 ^ 64 - 1)) Overflow) (λ (u : Unit {0}). check_lengths tuples >>= (λ (w : Unit {0}). Ok made)) change.made change.gives in
    let lengths = bound (check_lengths tuples) (λ (w : Unit {0}). Ok made) change.made room.2 in
    let rows_now : rows_of change.made.0.rows ≡ rows ++ tuples =
    ap (λ (m : Contents × ℕ). rows_of m.0.rows) (sym (ok_same made change.made lengths.2))
    ∙ rows_of-append old.rows (numbered old.next tuples)
    ∙ ap (λ (rs : List (List Value)). rows_of old.rows ++ rs) (rows_of-numbered old.next tuples)
    ∙ ap (λ (f : Found). rows_of f.contents.rows ++ tuples) (sym same)
    ∙ ap (λ (rs : List (List Value)). rs ++ tuples) before.rows_are in
    let columns_now : change.found.schema.columns ≡ columns = ap (λ (f : Found). f.schema.columns) (sym same) ∙ before.columns_are in
    subst (λ (at : Tables). Shows at name columns (rows ++ tuples)) change.leaves
    (shows_as name (with_contents change.found.place change.made.0 tables) (record { place = change.found.place; schema = change.found.schema; contents = change.made.0 }) columns (rows ++ tuples) (changed_found name tables change.found change.made.0 change.is) columns_now rows_now)

-- a statement about another table leaves a table where it was
pub other_stays : (tables after : Tables) (name : List ℕ) (found : Found) (statement : Statement) (snapshot : Option ℕ) (reply : Reply) → table_of statement ≢ name → table_named name tables ≡ Some found → performed statement snapshot tables ≡ Ok (after, reply) → table_named name after ≡ Some found
other_stays tables after name found (CreateTable create) snapshot reply apart is e =
    let table : TableSchema = record { name = create.table; columns = create.columns } in
    subst (λ (at : Tables). table_named name at ≡ Some found) (ap (λ (d : Tables × Reply). d.0) (ok_same (with_table table tables, Plain) (after, reply) e)) (kept_found name tables found table is)
other_stays tables after name found (CreateIndex create) snapshot reply apart is e =
    subst (λ (at : Tables). table_named name at ≡ Some found) (ap (λ (d : Tables × Reply). d.0) (ok_same _ (after, reply) e)) is
other_stays tables after name found (Insert insert) snapshot reply apart is e =
    let change = is_change insert.table tables after reply (λ (f : Found). inserted insert.tuples f.contents) e in
    subst (λ (at : Tables). table_named name at ≡ Some found) change.leaves (other_found name insert.table tables found change.found change.made.0 apart is change.is)
other_stays tables after name found (Update update) snapshot reply apart is e =
    let change = is_change update.table tables after reply (λ (f : Found). updated snapshot update f.schema f.contents) e in
    subst (λ (at : Tables). table_named name at ≡ Some found) change.leaves (other_found name update.table tables found change.found change.made.0 apart is change.is)
other_stays tables after name found (Delete delete) snapshot reply apart is e =
    let change = is_change delete.table tables after reply (λ (f : Found). remaining snapshot delete f.schema f.contents) e in
    subst (λ (at : Tables). table_named name at ≡ Some found) change.leaves (other_found name delete.table tables found change.found change.made.0 apart is change.is)
other_stays tables after name found (Select select) snapshot reply apart is e =
    let answer = bound (answer_of select snapshot tables) (λ (a : Answer). Ok (tables, Rows a)) (after, reply) e in
    subst (λ (at : Tables). table_named name at ≡ Some found) (ap (λ (d : Tables × Reply). d.0) (ok_same (tables, Rows answer.0) (after, reply) answer.2)) is

pub others_stay : OthersStay
others_stay tables after name columns rows statement snapshot reply apart shown e =
    let before = is_shown name tables columns rows shown in
    let done = was_performed statement snapshot tables after reply e in
    shows_as name after before.found columns rows (other_stays tables after name before.found statement snapshot reply apart before.is done.1) before.columns_are before.rows_are
