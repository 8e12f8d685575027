-- The laws of what statements keep: tables stay tables, and numbers stay with their rows.
use Rattle.std.proofs.Common.{◌≡◌, ◌∙◌, inl, inr, ℕ, ◌+◌, ◌-◌, ◌^◌, ◌<◌, Bool, true, false, ◌||◌, Option, Some, None, List, [], ◌∷◌, ◌++◌, Result, Ok, length, refl, ap, sym, subst, arith}
use Rattle.std.specs.Prelude.{nat_eq, nat_le}
use Rattle.std.specs.List.{list_any}
use Rattle.std.specs.Cmp.Lexicographic.{other_text, pointwise, same_text}
use Rattle.std.proofs.lemmas.Bool.{eqb-true}
use Rattle.std.proofs.lemmas.List.Folds.{list_any-append}
use Rattle.retro_base.specs.Gives.{◌>>=◌}
use Rattle.retro_base.specs.declared.refusal.Refusal.{Refusal}
use Rattle.retro_base.specs.declared.refusal.Refusal.TheVariants.{Overflow}
use Rattle.values.specs.declared.value.Value.{Value}
use Rattle.sql_tree.specs.declared.schema.TableSchema.{TableSchema}
use Rattle.sql_tree.specs.declared.select.Select.{Select as SelectRecord}
use Rattle.sql_tree.specs.declared.statement.Delete.{Delete as DeleteRecord}
use Rattle.sql_tree.specs.declared.statement.Insert.{Insert as InsertRecord}
use Rattle.sql_tree.specs.declared.statement.Statement.{Statement}
use Rattle.sql_tree.specs.declared.statement.Statement.TheVariants.{CreateTable, CreateIndex, Insert, Update, Delete, Select}
use Rattle.sql_tree.specs.declared.statement.Update.{Update as UpdateRecord}
use Rattle.sql_check.specs.Check.{checked}
use Rattle.sql_kinds.proofs.Truths.{or_none}
use Rattle.sql_select.specs.declared.answer.Answer.{Answer}
use Rattle.tables.proofs.CheckedSelects.{answers_fit}
use Rattle.tables.specs.declared.contents.Contents.{Contents}
use Rattle.tables.specs.declared.contents.NumberedRow.{NumberedRow}
use Rattle.tables.specs.declared.reply.Reply.{Reply}
use Rattle.tables.specs.declared.reply.Reply.TheVariants.{Plain, Count, Rows}
use Rattle.tables.specs.Laws.{GoneStaysGone, IsReply, TablesStaySound, UpdatedKeepPlaces, has_number, numbers_of, table_of}
use Rattle.tables.specs.Meaning.{answer_of, answer_over, changed, check, check_lengths, inserted, known, performed, remaining, remaining_row, reworked, second_named, updated, updated_row}
use Rattle.tables.specs.Rows.{numbered, rows_of}
use Rattle.sql_tree.specs.Rows.{AllFit}
use Rattle.tables.specs.Tables.{Found, IsTable, IsTables, Tables, table_named, with_contents, with_index, with_table}
use Rattle.tables.proofs.Facts.{insert_checked, is_found, join_checked, select_checked, update_checked}
use Rattle.tables.proofs.Following.{IsChange, changed_found, is_change, kept_found, known_some, other_stays, was_performed}
use Rattle.tables.proofs.Places.{zip_append, zip_at, zip_set}
use Rattle.tables.proofs.Sound.{KeepsNumber, bound, inserted_sound, ok_same, remaining_row_number, remaining_sound, updated_row_keeps, updated_sound}

-- a table that is found is a table
found_is : (name : List ℕ) (tables : Tables) (found : Found) → IsTables tables → table_named name tables ≡ Some found → IsTable found.schema found.contents
found_is name tables found sound e =
    let is = is_found name tables found e in
    zip_at IsTable tables.schema.tables tables.contents found.place found.schema found.contents sound is.schema is.contents

-- tables with other sound contents of one of them
changed_are : (name : List ℕ) (tables : Tables) (found : Found) (contents : Contents) → IsTables tables → table_named name tables ≡ Some found → IsTable found.schema contents → IsTables (with_contents found.place contents tables)
changed_are name tables found contents sound e new =
    zip_set IsTable tables.schema.tables tables.contents found.place found.schema contents sound (is_found name tables found e).schema new

-- each row of the answer of a select that was checked fits
one_fits : (select : SelectRecord) (snapshot : Option ℕ) (tables : Tables) (first : Found) (answer : Answer) → IsTables tables → select.second ≡ None → checked (Select select) snapshot tables.schema ≡ Ok tt → table_named select.table tables ≡ Some first → answer_over select snapshot first None ≡ Ok answer → AllFit answer.columns answer.rows
one_fits select snapshot tables first answer sound alone right is e =
    let facts = select_checked select snapshot tables first alone right is in
    answers_fit select (first.schema ∷ []) snapshot (rows_of first.contents.rows) None answer (found_is select.table tables first sound is).fitting facts.0 facts.1 e

two_fit : (select : SelectRecord) (snapshot : Option ℕ) (tables : Tables) (name : List ℕ) (first : Found) (found : Option Found) (answer : Answer) → IsTables tables → select.second ≡ Some name → checked (Select select) snapshot tables.schema ≡ Ok tt → table_named select.table tables ≡ Some first → table_named name tables ≡ found → answer_over select snapshot first (Some found) ≡ Ok answer → AllFit answer.columns answer.rows
two_fit select snapshot tables name first None answer sound two right is other e = let no : ⊥ = cc in absurd no
two_fit select snapshot tables name first (Some second) answer sound two right is other e =
    let facts = join_checked select snapshot tables name first second two right is other in
    answers_fit select (first.schema ∷ second.schema ∷ []) snapshot (rows_of first.contents.rows) (Some (rows_of second.contents.rows)) answer ((found_is select.table tables first sound is).fitting, (found_is name tables second sound other).fitting) facts.0 facts.1 e

answer_by : (select : SelectRecord) (snapshot : Option ℕ) (tables : Tables) (first : Found) (answer : Answer) (second : Option (List ℕ)) → IsTables tables → select.second ≡ second → checked (Select select) snapshot tables.schema ≡ Ok tt → table_named select.table tables ≡ Some first → answer_over select snapshot first (second_named second tables) ≡ Ok answer → AllFit answer.columns answer.rows
answer_by select snapshot tables first answer None sound is_second right is e = one_fits select snapshot tables first answer sound is_second right is e
answer_by select snapshot tables first answer (Some name) sound is_second right is e = two_fit select snapshot tables name first (table_named name tables) answer sound is_second right is refl e

pub answer_fits : (select : SelectRecord) (snapshot : Option ℕ) (tables : Tables) (answer : Answer) → IsTables tables → checked (Select select) snapshot tables.schema ≡ Ok tt → answer_of select snapshot tables ≡ Ok answer → AllFit answer.columns answer.rows
answer_fits select snapshot tables answer sound right e =
    let first = bound (known (table_named select.table tables)) (λ (f : Found). answer_over select snapshot f (second_named select.second tables)) answer e in
    answer_by select snapshot tables first.0 answer select.second sound refl right (known_some (table_named select.table tables) first.0 first.1) first.2

-- the contents that a change made are those of a table
inserted_is : (insert : InsertRecord) (snapshot : Option ℕ) (tables after : Tables) → IsTables tables → checked (Insert insert) snapshot tables.schema ≡ Ok tt → IsChange insert.table tables after (λ (f : Found). inserted insert.tuples f.contents) → IsTables after
inserted_is insert snapshot tables after sound right change =
    let new = inserted_sound change.found.schema insert.tuples change.found.contents change.made.0 change.made.1 (found_is insert.table tables change.found sound change.is) (insert_checked insert snapshot tables change.found right change.is) change.gives in
    subst IsTables change.leaves (changed_are insert.table tables change.found change.made.0 sound change.is new)

updated_is : (update : UpdateRecord) (snapshot : Option ℕ) (tables after : Tables) → IsTables tables → checked (Update update) snapshot tables.schema ≡ Ok tt → IsChange update.table tables after (λ (f : Found). updated snapshot update f.schema f.contents) → IsTables after
updated_is update snapshot tables after sound right change =
    let facts = update_checked update snapshot tables change.found right change.is in
    let new = updated_sound change.found.schema snapshot update change.found.contents change.made.0 change.made.1 (found_is update.table tables change.found sound change.is) facts.0 facts.1 change.gives in
    subst IsTables change.leaves (changed_are update.table tables change.found change.made.0 sound change.is new)

remaining_is : (delete : DeleteRecord) (snapshot : Option ℕ) (tables after : Tables) → IsTables tables → IsChange delete.table tables after (λ (f : Found). remaining snapshot delete f.schema f.contents) → IsTables after
remaining_is delete snapshot tables after sound change =
    let new = remaining_sound change.found.schema snapshot delete change.found.contents change.made.0 change.made.1 (found_is delete.table tables change.found sound change.is) change.gives in
    subst IsTables change.leaves (changed_are delete.table tables change.found change.made.0 sound change.is new)

count_replies : (name : List ℕ) (tables after : Tables) (reply : Reply) (outcome : Found → Result (Contents × ℕ) Refusal) → known (table_named name tables) >>= (λ (found : Found). changed found tables (outcome found)) ≡ Ok (after, reply) → IsReply reply
count_replies name tables after reply outcome e =
    let found = bound (known (table_named name tables)) (λ (f : Found). changed f tables (outcome f)) (after, reply) e in
    let made = bound (outcome found.0) (λ (m : Contents × ℕ). Ok (with_contents found.0.place m.0 tables, Count m.1)) (after, reply) found.2 in
    subst IsReply (ap (λ (d : Tables × Reply). d.1) (ok_same (with_contents found.0.place made.0.0 tables, Count made.0.1) (after, reply) made.2)) tt

pub tables_stay_sound : TablesStaySound
tables_stay_sound tables after (CreateTable create) snapshot reply lawful sound e =
    let done = was_performed (CreateTable create) snapshot tables after reply e in
    let table : TableSchema = record { name = create.table; columns = create.columns } in
    let same = ok_same (with_table table tables, Plain) (after, reply) done.1 in
    let empty : IsTable table (record { next = 0; rows = [] }) = record { few_columns = lawful.1; rising = omega arith; fitting = tt; short = tt } in
    (subst IsTables (ap (λ (d : Tables × Reply). d.0) same) (zip_append IsTable tables.schema.tables tables.contents table (record { next = 0; rows = [] }) sound empty), subst IsReply (ap (λ (d : Tables × Reply). d.1) same) tt)
tables_stay_sound tables after (CreateIndex create) snapshot reply lawful sound e =
    let done = was_performed (CreateIndex create) snapshot tables after reply e in
    let same = ok_same (with_index (record { name = create.index; table = create.table; column = create.column }) tables, Plain) (after, reply) done.1 in
    (subst IsTables (ap (λ (d : Tables × Reply). d.0) same) sound, subst IsReply (ap (λ (d : Tables × Reply). d.1) same) tt)
tables_stay_sound tables after (Insert insert) snapshot reply lawful sound e =
    let done = was_performed (Insert insert) snapshot tables after reply e in
    (inserted_is insert snapshot tables after sound done.0 (is_change insert.table tables after reply (λ (f : Found). inserted insert.tuples f.contents) done.1), count_replies insert.table tables after reply (λ (f : Found). inserted insert.tuples f.contents) done.1)
tables_stay_sound tables after (Update update) snapshot reply lawful sound e =
    let done = was_performed (Update update) snapshot tables after reply e in
    (updated_is update snapshot tables after sound done.0 (is_change update.table tables after reply (λ (f : Found). updated snapshot update f.schema f.contents) done.1), count_replies update.table tables after reply (λ (f : Found). updated snapshot update f.schema f.contents) done.1)
tables_stay_sound tables after (Delete delete) snapshot reply lawful sound e =
    let done = was_performed (Delete delete) snapshot tables after reply e in
    (remaining_is delete snapshot tables after sound (is_change delete.table tables after reply (λ (f : Found). remaining snapshot delete f.schema f.contents) done.1), count_replies delete.table tables after reply (λ (f : Found). remaining snapshot delete f.schema f.contents) done.1)
tables_stay_sound tables after (Select select) snapshot reply lawful sound e =
    let done = was_performed (Select select) snapshot tables after reply e in
    let answer = bound (answer_of select snapshot tables) (λ (a : Answer). Ok (tables, Rows a)) (after, reply) done.1 in
    let same = ok_same (tables, Rows answer.0) (after, reply) answer.2 in
    (subst IsTables (ap (λ (d : Tables × Reply). d.0) same) sound, subst IsReply (ap (λ (d : Tables × Reply). d.1) same) (answer_fits select snapshot tables answer.0 sound done.0 answer.1))

neither : (a b : Bool) → a ≡ false → b ≡ false → a || b ≡ false
neither a b p q = ap (λ x. x || b) p ∙ q

-- numbers of rows
numbers_of-append : (xs ys : List NumberedRow) → numbers_of (xs ++ ys) ≡ numbers_of xs ++ numbers_of ys
numbers_of-append [] ys = refl
numbers_of-append (x ∷ xs) ys = ap (λ (ns : List ℕ). x.number ∷ ns) (numbers_of-append xs ys)

-- where each row becomes one row with its number, the numbers stay
one_number : (row : NumberedRow) (made rest : List NumberedRow) (numbers : List ℕ) → (r : NumberedRow) × (made ≡ r ∷ []) × (r.number ≡ row.number) → numbers_of rest ≡ numbers → numbers_of (made ++ rest) ≡ row.number ∷ numbers
one_number row made rest numbers r e =
    ap (λ (xs : List NumberedRow). numbers_of (xs ++ rest)) r.1 ∙ ap (λ (n : ℕ). n ∷ numbers_of rest) r.2 ∙ ap (λ (ns : List ℕ). row.number ∷ ns) e

numbers_stay : (step : NumberedRow → Result (List NumberedRow × ℕ) Refusal) → ((row : NumberedRow) (made : List NumberedRow × ℕ) → step row ≡ Ok made → (r : NumberedRow) × (made.0 ≡ r ∷ []) × (r.number ≡ row.number)) → (rows : List NumberedRow) (after : List NumberedRow × ℕ) → reworked step rows ≡ Ok after → numbers_of after.0 ≡ numbers_of rows
numbers_stay step keeps [] after e = ap (λ (m : List NumberedRow × ℕ). numbers_of m.0) (sym (ok_same ([], 0) after e))
numbers_stay step keeps (row ∷ rows) after e =
    let here = bound (step row) (λ (made : List NumberedRow × ℕ). reworked step rows >>= (λ (rest : List NumberedRow × ℕ). Ok (made.0 ++ rest.0, made.1 + rest.1))) after e in
    let rest = bound (reworked step rows) (λ (rest : List NumberedRow × ℕ). Ok (here.0.0 ++ rest.0, here.0.1 + rest.1)) after here.2 in
    ap (λ (m : List NumberedRow × ℕ). numbers_of m.0) (sym (ok_same (here.0.0 ++ rest.0.0, here.0.1 + rest.0.1) after rest.2))
    ∙ one_number row here.0.0 rest.0.0 (numbers_of rows) (keeps row here.0 here.1) (numbers_stay step keeps rows rest.0 rest.1)

-- the rows after an UPDATE have the numbers of those before it
updated_numbers : (table : TableSchema) (snapshot : Option ℕ) (update : UpdateRecord) (before : Contents) (made : Contents × ℕ) → updated snapshot update table before ≡ Ok made → (numbers_of made.0.rows ≡ numbers_of before.rows) × (made.0.next ≡ before.next)
updated_numbers table snapshot update before made e =
    let after = bound (reworked (updated_row table snapshot update) before.rows) (λ (m : List NumberedRow × ℕ). check_lengths (rows_of m.0) >>= (λ (u : Unit {0}). Ok (record before { rows = m.0 }, m.1))) made e in
    let lengths = bound (check_lengths (rows_of after.0.0)) (λ (u : Unit {0}). Ok (record before { rows = after.0.0 }, after.0.1)) made after.2 in
    let is = ok_same (record before { rows = after.0.0 }, after.0.1) made lengths.2 in
    (ap (λ (m : Contents × ℕ). numbers_of m.0.rows) (sym is) ∙ numbers_stay (updated_row table snapshot update) (updated_row_keeps table snapshot update) before.rows after.0 after.1, ap (λ (m : Contents × ℕ). m.0.next) (sym is))

some_found : (a b : Found) → Some a ≡ Some b → a ≡ b
some_found a b e = cc

-- the table of a change, before and after it
now_is : (name : List ℕ) (tables after : Tables) (outcome : Found → Result (Contents × ℕ) Refusal) (change : IsChange name tables after outcome) (now : Found) → table_named name after ≡ Some now → now.contents ≡ change.made.0
now_is name tables after outcome change now e =
    let there : table_named name after ≡ Some (record { place = change.found.place; schema = change.found.schema; contents = change.made.0 }) = subst (λ (at : Tables). table_named name at ≡ Some (record { place = change.found.place; schema = change.found.schema; contents = change.made.0 })) change.leaves (changed_found name tables change.found change.made.0 change.is) in
    ap (λ (f : Found). f.contents) (some_found now (record { place = change.found.place; schema = change.found.schema; contents = change.made.0 }) (sym e ∙ there))

pub updated_keep_places : UpdatedKeepPlaces
updated_keep_places tables after update snapshot reply before now e is_before is_now =
    let done = was_performed (Update update) snapshot tables after reply e in
    let change = is_change update.table tables after reply (λ (f : Found). updated snapshot update f.schema f.contents) done.1 in
    let same : change.found ≡ before = some_found change.found before (sym change.is ∙ is_before) in
    ap (λ (c : Contents). numbers_of c.rows) (now_is update.table tables after (λ (f : Found). updated snapshot update f.schema f.contents) change now is_now)
    ∙ (updated_numbers change.found.schema snapshot update change.found.contents change.made change.gives).0
    ∙ ap (λ (f : Found). numbers_of f.contents.rows) same

-- what stands of a number in rows
has_number-same : (number : ℕ) (xs ys : List NumberedRow) → numbers_of xs ≡ numbers_of ys → has_number number xs ≡ has_number number ys
has_number-same number xs ys e = counted xs ∙ ap (list_any (λ (n : ℕ). nat_eq n number)) e ∙ sym (counted ys)
  where
    counted : (rows : List NumberedRow) → has_number number rows ≡ list_any (λ (n : ℕ). nat_eq n number) (numbers_of rows)
    counted [] = refl
    counted (row ∷ rows) = ap (λ (b : Bool). nat_eq row.number number || b) (counted rows)

nat_apart : (m n : ℕ) → n < m → nat_eq m n ≡ false
nat_apart m n below = by_test (nat_eq m n) refl
  where
    by_test : (b : Bool) → nat_eq m n ≡ b → b ≡ false
    by_test true e = let same : m ≡ n = eqb-true m n e in absurd (omega arith)
    by_test false e = refl

numbered_apart : (number next : ℕ) (rows : List (List Value)) → number < next → has_number number (numbered next rows) ≡ false
numbered_apart number next [] below = refl
numbered_apart number next (row ∷ rows) below = neither (nat_eq next number) (has_number number (numbered (next + 1) rows)) (nat_apart next number below) (numbered_apart number (next + 1) rows (omega arith))

neither_of : (number : ℕ) (xs ys : List NumberedRow) → has_number number xs ≡ false → has_number number ys ≡ false → has_number number (xs ++ ys) ≡ false
neither_of number xs ys p q = list_any-append (λ (row : NumberedRow). nat_eq row.number number) xs ys ∙ neither (has_number number xs) (has_number number ys) p q

made_lacks : (number : ℕ) (row : NumberedRow) (made : List NumberedRow) → nat_eq row.number number ≡ false → KeepsNumber row made → has_number number made ≡ false
made_lacks number row made apart (inl none) = ap (has_number number) none
made_lacks number row made apart (inr r) = ap (has_number number) r.1 ∙ neither (nat_eq r.0.number number) false (ap (λ (n : ℕ). nat_eq n number) r.2 ∙ apart) refl

reworked_lacks : (number : ℕ) (step : NumberedRow → Result (List NumberedRow × ℕ) Refusal) → ((row : NumberedRow) (made : List NumberedRow × ℕ) → step row ≡ Ok made → KeepsNumber row made.0) → (rows : List NumberedRow) (after : List NumberedRow × ℕ) → has_number number rows ≡ false → reworked step rows ≡ Ok after → has_number number after.0 ≡ false
reworked_lacks number step keeps [] after lacks e = ap (λ (m : List NumberedRow × ℕ). has_number number m.0) (sym (ok_same ([], 0) after e))
reworked_lacks number step keeps (row ∷ rows) after lacks e =
    let parts = or_none (nat_eq row.number number) (has_number number rows) lacks in
    let here = bound (step row) (λ (made : List NumberedRow × ℕ). reworked step rows >>= (λ (rest : List NumberedRow × ℕ). Ok (made.0 ++ rest.0, made.1 + rest.1))) after e in
    let rest = bound (reworked step rows) (λ (rest : List NumberedRow × ℕ). Ok (here.0.0 ++ rest.0, here.0.1 + rest.1)) after here.2 in
    ap (λ (m : List NumberedRow × ℕ). has_number number m.0) (sym (ok_same (here.0.0 ++ rest.0.0, here.0.1 + rest.0.1) after rest.2))
    ∙ neither_of number here.0.0 rest.0.0 (made_lacks number row here.0.0 parts.0 (keeps row here.0 here.1)) (reworked_lacks number step keeps rows rest.0 parts.1 rest.1)

-- a number is gone from contents: it was given, and no row has it
abbrev IsGone : ℕ → Contents → Type 0
IsGone number contents = (number < contents.next) × (has_number number contents.rows ≡ false)

inserted_gone : (number : ℕ) (tuples : List (List Value)) (before : Contents) (made : Contents × ℕ) → IsGone number before → inserted tuples before ≡ Ok made → IsGone number made.0
inserted_gone number tuples before made gone e =
    let new : Contents × ℕ = (record { next = before.next + length tuples; rows = before.rows ++ numbered before.next tuples }, length tuples) in
    let room = bound (check (nat_le (before.next + length tuples) (2 ^ 64 - 1)) Overflow) (λ (u : Unit {0}). check_lengths tuples >>= (λ (w : Unit {0}). Ok new)) made e in
    let lengths = bound (check_lengths tuples) (λ (w : Unit {0}). Ok new) made room.2 in
    let below : number < before.next + length tuples = omega (arith, gone.0) in
    subst (λ (m : Contents × ℕ). IsGone number m.0) (ok_same new made lengths.2) (below, neither_of number before.rows (numbered before.next tuples) gone.1 (numbered_apart number before.next tuples gone.0))

updated_gone : (number : ℕ) (table : TableSchema) (snapshot : Option ℕ) (update : UpdateRecord) (before : Contents) (made : Contents × ℕ) → IsGone number before → updated snapshot update table before ≡ Ok made → IsGone number made.0
updated_gone number table snapshot update before made gone e =
    let numbers = updated_numbers table snapshot update before made e in
    (subst (λ (n : ℕ). number < n) (sym numbers.1) gone.0, has_number-same number made.0.rows before.rows numbers.0 ∙ gone.1)

remaining_gone : (number : ℕ) (table : TableSchema) (snapshot : Option ℕ) (delete : DeleteRecord) (before : Contents) (made : Contents × ℕ) → IsGone number before → remaining snapshot delete table before ≡ Ok made → IsGone number made.0
remaining_gone number table snapshot delete before made gone e =
    let after = bound (reworked (remaining_row table snapshot delete) before.rows) (λ (m : List NumberedRow × ℕ). Ok (record before { rows = m.0 }, m.1)) made e in
    subst (λ (m : Contents × ℕ). IsGone number m.0) (ok_same (record before { rows = after.0.0 }, after.0.1) made after.2) (gone.0, reworked_lacks number (remaining_row table snapshot delete) (remaining_row_number table snapshot delete) before.rows after.0 gone.1 after.1)

-- a change of the table that has the number
changed_gone : (name : List ℕ) (tables after : Tables) (number : ℕ) (outcome : Found → Result (Contents × ℕ) Refusal) (change : IsChange name tables after outcome) (before now : Found) → table_named name tables ≡ Some before → table_named name after ≡ Some now → ((found : Found) (made : Contents × ℕ) → IsGone number found.contents → outcome found ≡ Ok made → IsGone number made.0) → IsGone number before.contents → IsGone number now.contents
changed_gone name tables after number outcome change before now is_before is_now keeps gone =
    let same : before ≡ change.found = some_found before change.found (sym is_before ∙ change.is) in
    subst (IsGone number) (sym (now_is name tables after outcome change now is_now)) (keeps change.found change.made (subst (λ (f : Found). IsGone number f.contents) same gone) change.gives)

own_gone : (tables after : Tables) (statement : Statement) (snapshot : Option ℕ) (reply : Reply) (before now : Found) (number : ℕ) → performed statement snapshot tables ≡ Ok (after, reply) → table_named (table_of statement) tables ≡ Some before → table_named (table_of statement) after ≡ Some now → IsGone number before.contents → IsGone number now.contents
own_gone tables after (CreateTable create) snapshot reply before now number e is_before is_now gone =
    let table : TableSchema = record { name = create.table; columns = create.columns } in
    let kept = subst (λ (at : Tables). table_named create.table at ≡ Some before) (ap (λ (d : Tables × Reply). d.0) (ok_same (with_table table tables, Plain) (after, reply) e)) (kept_found create.table tables before table is_before) in
    subst (λ (f : Found). IsGone number f.contents) (some_found before now (sym kept ∙ is_now)) gone
own_gone tables after (CreateIndex create) snapshot reply before now number e is_before is_now gone =
    let kept = subst (λ (at : Tables). table_named create.table at ≡ Some before) (ap (λ (d : Tables × Reply). d.0) (ok_same (with_index (record { name = create.index; table = create.table; column = create.column }) tables, Plain) (after, reply) e)) is_before in
    subst (λ (f : Found). IsGone number f.contents) (some_found before now (sym kept ∙ is_now)) gone
own_gone tables after (Insert insert) snapshot reply before now number e is_before is_now gone =
    changed_gone insert.table tables after number (λ (f : Found). inserted insert.tuples f.contents) (is_change insert.table tables after reply (λ (f : Found). inserted insert.tuples f.contents) e) before now is_before is_now
    (λ (f : Found) (made : Contents × ℕ) (g : IsGone number f.contents) (q : inserted insert.tuples f.contents ≡ Ok made). inserted_gone number insert.tuples f.contents made g q) gone
own_gone tables after (Update update) snapshot reply before now number e is_before is_now gone =
    changed_gone update.table tables after number (λ (f : Found). updated snapshot update f.schema f.contents) (is_change update.table tables after reply (λ (f : Found). updated snapshot update f.schema f.contents) e) before now is_before is_now
    (λ (f : Found) (made : Contents × ℕ) (g : IsGone number f.contents) (q : updated snapshot update f.schema f.contents ≡ Ok made). updated_gone number f.schema snapshot update f.contents made g q) gone
own_gone tables after (Delete delete) snapshot reply before now number e is_before is_now gone =
    changed_gone delete.table tables after number (λ (f : Found). remaining snapshot delete f.schema f.contents) (is_change delete.table tables after reply (λ (f : Found). remaining snapshot delete f.schema f.contents) e) before now is_before is_now
    (λ (f : Found) (made : Contents × ℕ) (g : IsGone number f.contents) (q : remaining snapshot delete f.schema f.contents ≡ Ok made). remaining_gone number f.schema snapshot delete f.contents made g q) gone
own_gone tables after (Select select) snapshot reply before now number e is_before is_now gone =
    let answer = bound (answer_of select snapshot tables) (λ (a : Answer). Ok (tables, Rows a)) (after, reply) e in
    let kept = subst (λ (at : Tables). table_named select.table at ≡ Some before) (ap (λ (d : Tables × Reply). d.0) (ok_same (tables, Rows answer.0) (after, reply) answer.2)) is_before in
    subst (λ (f : Found). IsGone number f.contents) (some_found before now (sym kept ∙ is_now)) gone

pub gone_stays_gone : GoneStaysGone
gone_stays_gone tables after name statement snapshot reply before now number e is_before is_now given none =
    by_test (pointwise nat_eq (table_of statement) name) refl
  where
    performed_so : performed statement snapshot tables ≡ Ok (after, reply)
    performed_so = (was_performed statement snapshot tables after reply e).1

    by_test : (b : Bool) → pointwise nat_eq (table_of statement) name ≡ b → IsGone number now.contents
    by_test true same =
        let is : name ≡ table_of statement = sym (same_text (table_of statement) name (sym same)) in
        own_gone tables after statement snapshot reply before now number performed_so (subst (λ (n : List ℕ). table_named n tables ≡ Some before) is is_before) (subst (λ (n : List ℕ). table_named n after ≡ Some now) is is_now) (given, none)
    by_test false apart =
        let stays = other_stays tables after name before statement snapshot reply (other_text (table_of statement) name (sym apart)) is_before performed_so in
        subst (λ (f : Found). IsGone number f.contents) (some_found before now (sym stays ∙ is_now)) (given, none)
