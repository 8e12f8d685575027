-- The meaning of statements, step by step.
use Rattle.std.proofs.Common.{◌≡◌, ◌∙◌, ◌+◌, ◌-◌, ◌^◌, ◌≤◌, ◌++◌, ℕ, Bool, true, false, length, List, Option, Some, None, Result, Ok, Err, ap}
use Rattle.retro_base.specs.Gives.{◌>>=◌}
use Rattle.retro_base.specs.declared.refusal.Refusal.{Refusal}
use Rattle.retro_base.specs.declared.refusal.Refusal.TheVariants.{UnknownName, Overflow}
use Rattle.std.specs.Prelude.{nat_le}
use Rattle.std.proofs.lemmas.Bool.{le-leb}
use Rattle.values.specs.declared.value.Value.{Value}
use Rattle.sql_tree.specs.declared.schema.TableSchema.{TableSchema}
use Rattle.sql_tree.specs.declared.select.Select.{Select as SelectRecord}
use Rattle.sql_tree.specs.declared.statement.Delete.{Delete as DeleteRecord}
use Rattle.sql_tree.specs.declared.statement.Statement.{Statement}
use Rattle.sql_tree.specs.declared.statement.Update.{Update as UpdateRecord}
use Rattle.sql_tree.specs.declared.statement.Statement.TheVariants.{Delete, Select, Update}
use Rattle.sql_check.specs.Check.{checked}
use Rattle.sql_select.specs.declared.answer.Answer.{Answer}
use Rattle.tables.specs.declared.contents.Contents.{Contents}
use Rattle.tables.specs.declared.reply.Reply.TheVariants.{Rows}
use Rattle.tables.specs.Rows.{numbered, rows_of}
use Rattle.tables.specs.Meaning.{answer_of, answer_over, asked, changed, check, check_lengths, does, inserted, known, performed, remaining, remaining_row, reworked, second_named, updated, updated_row}
use Rattle.tables.specs.declared.contents.NumberedRow.{NumberedRow}
use Rattle.relation_laws.specs.Work.Work.{Changes, Removes}
use Rattle.sql_exec.specs.Planning.{picked, row_changes, row_numbers, work_of}
use Rattle.tables.specs.Tables.{Found, Tables, table_named}

abbrev added : List (List Value) → Contents → Result (Contents × ℕ) Refusal
added tuples contents = Ok (record { next = contents.next + length tuples; rows = contents.rows ++ numbered contents.next tuples }, length tuples)

pub asked-passed : (query : SelectRecord) (snapshot : Option ℕ) (tables : Tables) → checked (Select query) snapshot tables.schema ≡ Ok tt → asked query snapshot tables ≡ answer_of query snapshot tables
asked-passed query snapshot tables passes = ap (λ (r : Result (Unit {0}) Refusal). r >>= (λ (u : Unit {0}). answer_of query snapshot tables)) passes

pub asked-refused : (query : SelectRecord) (snapshot : Option ℕ) (tables : Tables) (why : Refusal) → checked (Select query) snapshot tables.schema ≡ Err why → asked query snapshot tables ≡ Err why
asked-refused query snapshot tables why refuses = ap (λ (r : Result (Unit {0}) Refusal). r >>= (λ (u : Unit {0}). answer_of query snapshot tables)) refuses

pub table-unknown : (query : SelectRecord) (snapshot : Option ℕ) (tables : Tables) → table_named query.table tables ≡ None → answer_of query snapshot tables ≡ Err UnknownName
table-unknown query snapshot tables none = ap (λ (f : Option Found). known f >>= (λ (x : Found). answer_over query snapshot x (second_named query.second tables))) none

pub second-unknown : (query : SelectRecord) (snapshot : Option ℕ) (tables : Tables) (name : List ℕ) (first : Found) → table_named query.table tables ≡ Some first → query.second ≡ Some name → table_named name tables ≡ None → answer_of query snapshot tables ≡ Err UnknownName
second-unknown query snapshot tables name first is two none =
    ap (λ (f : Option Found). known f >>= (λ (x : Found). answer_over query snapshot x (second_named query.second tables))) is
    ∙ ap (λ (s : Option (List ℕ)). answer_over query snapshot first (second_named s tables)) two
    ∙ ap (λ (f : Option Found). answer_over query snapshot first (Some f)) none

pub does-passed : (statement : Statement) (snapshot : Option ℕ) (tables : Tables) → checked statement snapshot tables.schema ≡ Ok tt → does statement snapshot tables ≡ performed statement snapshot tables
does-passed statement snapshot tables passes = ap (λ (r : Result (Unit {0}) Refusal). r >>= (λ (u : Unit {0}). performed statement snapshot tables)) passes

pub does-refused : (statement : Statement) (snapshot : Option ℕ) (tables : Tables) (why : Refusal) → checked statement snapshot tables.schema ≡ Err why → does statement snapshot tables ≡ Err why
does-refused statement snapshot tables why refuses = ap (λ (r : Result (Unit {0}) Refusal). r >>= (λ (u : Unit {0}). performed statement snapshot tables)) refuses

-- an insert that passes, and one that is refused
pub inserted-passes : (tuples : List (List Value)) (contents : Contents) → contents.next + length tuples ≤ 2 ^ 64 - 1 → check_lengths tuples ≡ Ok tt → inserted tuples contents ≡ Ok (record { next = contents.next + length tuples; rows = contents.rows ++ numbered contents.next tuples }, length tuples)
inserted-passes tuples contents room passes =
    ap (λ (b : Bool). check b Overflow >>= (λ (u : Unit {0}). check_lengths tuples >>= (λ (v : Unit {0}). added tuples contents))) (le-leb (contents.next + length tuples) (2 ^ 64 - 1) room)
    ∙ ap (λ (r : Result (Unit {0}) Refusal). r >>= (λ (v : Unit {0}). added tuples contents)) passes

pub inserted-over : (tuples : List (List Value)) (contents : Contents) → nat_le (contents.next + length tuples) (2 ^ 64 - 1) ≡ false → inserted tuples contents ≡ Err Overflow
inserted-over tuples contents over =
    ap (λ (b : Bool). check b Overflow >>= (λ (u : Unit {0}). check_lengths tuples >>= (λ (v : Unit {0}). added tuples contents))) over

pub inserted-long : (tuples : List (List Value)) (contents : Contents) (why : Refusal) → nat_le (contents.next + length tuples) (2 ^ 64 - 1) ≡ true → check_lengths tuples ≡ Err why → inserted tuples contents ≡ Err why
inserted-long tuples contents why room long =
    ap (λ (b : Bool). check b Overflow >>= (λ (u : Unit {0}). check_lengths tuples >>= (λ (v : Unit {0}). added tuples contents))) room
    ∙ ap (λ (r : Result (Unit {0}) Refusal). r >>= (λ (v : Unit {0}). added tuples contents)) long

pub performed-unknown : (name : List ℕ) (tables : Tables) (change : TableSchema → Contents → Result (Contents × ℕ) Refusal) → table_named name tables ≡ None → (known (table_named name tables) >>= (λ (f : Found). changed f tables (change f.schema f.contents))) ≡ Err UnknownName
performed-unknown name tables change none = ap (λ (t : Option Found). known t >>= (λ (f : Found). changed f tables (change f.schema f.contents))) none

pub selected-ok : (query : SelectRecord) (snapshot : Option ℕ) (tables : Tables) (answer : Answer) → answer_of query snapshot tables ≡ Ok answer → performed (Select query) snapshot tables ≡ Ok (tables, Rows answer)
selected-ok query snapshot tables answer is = ap (λ (r : Result Answer Refusal). r >>= (λ (a : Answer). Ok (tables, Rows a))) is

pub selected-err : (query : SelectRecord) (snapshot : Option ℕ) (tables : Tables) (why : Refusal) → answer_of query snapshot tables ≡ Err why → performed (Select query) snapshot tables ≡ Err why
selected-err query snapshot tables why is = ap (λ (r : Result Answer Refusal). r >>= (λ (a : Answer). Ok (tables, Rows a))) is

-- what is left of a table, and the work of a delete
pub remaining-ok : (snapshot : Option ℕ) (delete : DeleteRecord) (table : TableSchema) (contents : Contents) (after : List NumberedRow × ℕ) → reworked (remaining_row table snapshot delete) contents.rows ≡ Ok after → remaining snapshot delete table contents ≡ Ok (record contents { rows = after.0 }, after.1)
remaining-ok snapshot delete table contents after is = ap (λ (r : Result (List NumberedRow × ℕ) Refusal). r >>= (λ (after : List NumberedRow × ℕ). Ok (record contents { rows = after.0 }, after.1))) is

pub remaining-err : (snapshot : Option ℕ) (delete : DeleteRecord) (table : TableSchema) (contents : Contents) (why : Refusal) → reworked (remaining_row table snapshot delete) contents.rows ≡ Err why → remaining snapshot delete table contents ≡ Err why
remaining-err snapshot delete table contents why is = ap (λ (r : Result (List NumberedRow × ℕ) Refusal). r >>= (λ (after : List NumberedRow × ℕ). Ok (record contents { rows = after.0 }, after.1))) is

pub work-deletes : (delete : DeleteRecord) (snapshot : Option ℕ) (tables : Tables) (found : Found) (numbers : List ℕ) → table_named delete.table tables ≡ Some found → picked (row_numbers found.schema snapshot delete) found.contents.rows ≡ Ok numbers → work_of (Delete delete) snapshot tables ≡ Ok (Some (Removes delete.table numbers))
work-deletes delete snapshot tables found numbers is told =
    ap (λ (t : Option Found). known t >>= (λ (f : Found). picked (row_numbers f.schema snapshot delete) f.contents.rows >>= (λ (numbers : List ℕ). Ok (Some (Removes delete.table numbers))))) is
    ∙ ap (λ (r : Result (List ℕ) Refusal). r >>= (λ (numbers : List ℕ). Ok (Some (Removes delete.table numbers)))) told

-- what an update makes of a table, and its work
pub updated-ok : (snapshot : Option ℕ) (update : UpdateRecord) (table : TableSchema) (contents : Contents) (after : List NumberedRow × ℕ) → reworked (updated_row table snapshot update) contents.rows ≡ Ok after → check_lengths (rows_of after.0) ≡ Ok tt → updated snapshot update table contents ≡ Ok (record contents { rows = after.0 }, after.1)
updated-ok snapshot update table contents after is short =
    ap (λ (r : Result (List NumberedRow × ℕ) Refusal). r >>= (λ (after : List NumberedRow × ℕ). check_lengths (rows_of after.0) >>= (λ (u : Unit {0}). Ok (record contents { rows = after.0 }, after.1)))) is
    ∙ ap (λ (r : Result (Unit {0}) Refusal). r >>= (λ (u : Unit {0}). Ok (record contents { rows = after.0 }, after.1))) short

pub updated-long : (snapshot : Option ℕ) (update : UpdateRecord) (table : TableSchema) (contents : Contents) (after : List NumberedRow × ℕ) (why : Refusal) → reworked (updated_row table snapshot update) contents.rows ≡ Ok after → check_lengths (rows_of after.0) ≡ Err why → updated snapshot update table contents ≡ Err why
updated-long snapshot update table contents after why is long =
    ap (λ (r : Result (List NumberedRow × ℕ) Refusal). r >>= (λ (after : List NumberedRow × ℕ). check_lengths (rows_of after.0) >>= (λ (u : Unit {0}). Ok (record contents { rows = after.0 }, after.1)))) is
    ∙ ap (λ (r : Result (Unit {0}) Refusal). r >>= (λ (u : Unit {0}). Ok (record contents { rows = after.0 }, after.1))) long

pub updated-err : (snapshot : Option ℕ) (update : UpdateRecord) (table : TableSchema) (contents : Contents) (why : Refusal) → reworked (updated_row table snapshot update) contents.rows ≡ Err why → updated snapshot update table contents ≡ Err why
updated-err snapshot update table contents why is = ap (λ (r : Result (List NumberedRow × ℕ) Refusal). r >>= (λ (after : List NumberedRow × ℕ). check_lengths (rows_of after.0) >>= (λ (u : Unit {0}). Ok (record contents { rows = after.0 }, after.1)))) is

pub work-updates : (update : UpdateRecord) (snapshot : Option ℕ) (tables : Tables) (found : Found) (changes : List (ℕ × List Value)) → table_named update.table tables ≡ Some found → picked (row_changes found.schema snapshot update) found.contents.rows ≡ Ok changes → work_of (Update update) snapshot tables ≡ Ok (Some (Changes update.table changes))
work-updates update snapshot tables found changes is told =
    ap (λ (t : Option Found). known t >>= (λ (f : Found). picked (row_changes f.schema snapshot update) f.contents.rows >>= (λ (changes : List (ℕ × List Value)). Ok (Some (Changes update.table changes))))) is
    ∙ ap (λ (r : Result (List (ℕ × List Value)) Refusal). r >>= (λ (changes : List (ℕ × List Value)). Ok (Some (Changes update.table changes)))) told
