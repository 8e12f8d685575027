-- What updates and deletes make of rows, where their conditions are decided.
use Rattle.std.proofs.Common.{◌≡◌, ◌∙◌, ◌⊎◌, ◌+◌, ◌==◌, ◌≤◌, ◌++◌, ◌∷◌, ℕ, Bool, true, false, not, cond, List, [], length, map, Option, Result, Ok, Err, inl, inr, refl, sym, ap, arith}
use Rattle.std.specs.List.{AllByRecursion, filter}
use Rattle.std.specs.Prelude.{IsTrue, nat_le}
use Rattle.std.proofs.lemmas.Bool.{le-leb}
use Rattle.retro_base.specs.Gives.{◌>>=◌}
use Rattle.retro_base.specs.declared.refusal.Refusal.{Refusal}
use Rattle.retro_base.specs.declared.refusal.Refusal.TheVariants.{RowTooLong}
use Rattle.values.specs.declared.value.Value.{Value}
use Rattle.sql_tree.specs.declared.schema.TableSchema.{TableSchema}
use Rattle.sql_tree.specs.declared.statement.Column.{Column}
use Rattle.sql_tree.specs.declared.statement.Delete.{Delete as DeleteRecord}
use Rattle.sql_tree.specs.declared.statement.Update.{Update as UpdateRecord}
use Rattle.sql_tree.specs.Rows.{fits}
use Rattle.sql_select.specs.Rows.{holds_at}
use Rattle.tables.specs.declared.contents.NumberedRow.{NumberedRow}
use Rattle.tables.specs.Meaning.{assigned, check_lengths, remaining_row, reworked, set_row, updated_row}
use Rattle.tables.specs.Rows.{rows_of}
use Rattle.values.specs.Row.{row_bytes}
use Rattle.sql_tree.specs.Rows.{AllFit}
use Rattle.heap_file.specs.declared.chain.Placed.{Placed}
use Rattle.relation.specs.declared.drafting.RowChange.{RowChange}
use Rattle.sql_exec.specs.Planning.{counted, picked, row_changes, row_numbers, under_numbers}
use Rattle.sql_exec.specs.Running.{changes_on, numbered_at, placed_changes, placed_gone, values_of}
use Rattle.sql_exec.specs.Stored.{row_under}
use Rattle.sql_exec.proofs.Choosing.{chosen_value, number_of, with_value}

-- a step at the head of rows
pub picked-stops : {A B : Type 0} (step : A → Result (List B) Refusal) (x : A) (xs : List A) (why : Refusal) → step x ≡ Err why → picked step (x ∷ xs) ≡ Err why
picked-stops step x xs why e = ap (λ (r : Result _ Refusal). r >>= (λ (here : List _). picked step xs >>= (λ (others : List _). Ok (here ++ others)))) e

pub picked-ends : {A B : Type 0} (step : A → Result (List B) Refusal) (x : A) (xs : List A) (here : List B) (why : Refusal) → step x ≡ Ok here → picked step xs ≡ Err why → picked step (x ∷ xs) ≡ Err why
picked-ends step x xs here why e rest =
    ap (λ (r : Result _ Refusal). r >>= (λ (here : List _). picked step xs >>= (λ (others : List _). Ok (here ++ others)))) e
    ∙ ap (λ (r : Result _ Refusal). r >>= (λ (others : List _). Ok (here ++ others))) rest

pub picked-goes : {A B : Type 0} (step : A → Result (List B) Refusal) (x : A) (xs : List A) (here others : List B) → step x ≡ Ok here → picked step xs ≡ Ok others → picked step (x ∷ xs) ≡ Ok (here ++ others)
picked-goes step x xs here others e rest =
    ap (λ (r : Result _ Refusal). r >>= (λ (here : List _). picked step xs >>= (λ (others : List _). Ok (here ++ others)))) e
    ∙ ap (λ (r : Result _ Refusal). r >>= (λ (others : List _). Ok (here ++ others))) rest

module _ (step : NumberedRow → Result (List NumberedRow × ℕ) Refusal) (row : NumberedRow) (rows : List NumberedRow) where
  rework-stops : (why : Refusal) → step row ≡ Err why → reworked step (row ∷ rows) ≡ Err why
  rework-stops why e = ap (λ (r : Result (List NumberedRow × ℕ) Refusal). r >>= (λ (here : List NumberedRow × ℕ). reworked step rows >>= (λ (rest : List NumberedRow × ℕ). Ok (here.0 ++ rest.0, here.1 + rest.1)))) e

  rework-ends : (here : List NumberedRow × ℕ) (why : Refusal) → step row ≡ Ok here → reworked step rows ≡ Err why → reworked step (row ∷ rows) ≡ Err why
  rework-ends here why e rest =
      ap (λ (r : Result (List NumberedRow × ℕ) Refusal). r >>= (λ (here : List NumberedRow × ℕ). reworked step rows >>= (λ (rest : List NumberedRow × ℕ). Ok (here.0 ++ rest.0, here.1 + rest.1)))) e
      ∙ ap (λ (r : Result (List NumberedRow × ℕ) Refusal). r >>= (λ (rest : List NumberedRow × ℕ). Ok (here.0 ++ rest.0, here.1 + rest.1))) rest

  rework-goes : (here rest : List NumberedRow × ℕ) → step row ≡ Ok here → reworked step rows ≡ Ok rest → reworked step (row ∷ rows) ≡ Ok (here.0 ++ rest.0, here.1 + rest.1)
  rework-goes here rest e more =
      ap (λ (r : Result (List NumberedRow × ℕ) Refusal). r >>= (λ (here : List NumberedRow × ℕ). reworked step rows >>= (λ (rest : List NumberedRow × ℕ). Ok (here.0 ++ rest.0, here.1 + rest.1)))) e
      ∙ ap (λ (r : Result (List NumberedRow × ℕ) Refusal). r >>= (λ (rest : List NumberedRow × ℕ). Ok (here.0 ++ rest.0, here.1 + rest.1))) more

-- whether a condition holds, where it is decided
abbrev pub held : Result Bool Refusal → Bool
held (Ok holds) = holds
held (Err why) = false

abbrev pub value_or : Result (List Value) Refusal → List Value
value_or (Ok values) = values
value_or (Err why) = []

module _ (table : TableSchema) (snapshot : Option ℕ) (delete : DeleteRecord) where
  abbrev pub goes : Placed → Bool
  goes placed = held (holds_at (table ∷ []) snapshot delete.condition placed.row)

  abbrev pub stays : Placed → Bool
  stays placed = not (goes placed)

  -- what a delete makes of rows that are decided
  pub record Parts (rows : List Placed) : Type 0 where
    pub gone : picked (placed_gone table snapshot delete) rows ≡ Ok (filter goes rows)
    pub left : reworked (remaining_row table snapshot delete) (map numbered_at rows) ≡ Ok (map numbered_at (filter stays rows), length (filter goes rows))
    pub numbers : picked (row_numbers table snapshot delete) (map numbered_at rows) ≡ Ok (map number_of (filter goes rows))

  -- or by which refusal it ends
  pub record PartsNot (rows : List Placed) : Type 0 where
    pub why : Refusal
    pub gone : picked (placed_gone table snapshot delete) rows ≡ Err why
    pub left : reworked (remaining_row table snapshot delete) (map numbered_at rows) ≡ Err why

  row-left : (placed : Placed) (r : Result Bool Refusal) → holds_at (table ∷ []) snapshot delete.condition placed.row ≡ r → remaining_row table snapshot delete (numbered_at placed) ≡ r >>= (λ (holds : Bool). cond holds (Ok ([], 1)) (Ok (numbered_at placed ∷ [], 0)))
  row-left placed r e = ap (λ (r : Result Bool Refusal). r >>= (λ (holds : Bool). cond holds (Ok ([], 1)) (Ok (numbered_at placed ∷ [], 0)))) e

  pub parted : (rows : List Placed) → PartsNot rows ⊎ Parts rows
  parted [] = inr (record { gone = refl; left = refl; numbers = refl })
  parted (row ∷ rows) = go (holds_at (table ∷ []) snapshot delete.condition row.row) refl (parted rows)
    where
      go : (r : Result Bool Refusal) → holds_at (table ∷ []) snapshot delete.condition row.row ≡ r → PartsNot rows ⊎ Parts rows → PartsNot (row ∷ rows) ⊎ Parts (row ∷ rows)
      go (Err why) e rest =
          let step = row-left row (Err why) e in
          inl (record {
            why = why;
            gone = picked-stops (placed_gone table snapshot delete) row rows why (ap (counted (λ (after : List NumberedRow). row ∷ [])) step);
            left = rework-stops (remaining_row table snapshot delete) (numbered_at row) (map numbered_at rows) why step;
          })
      go (Ok true) e (inl rest) =
          let step = row-left row (Ok true) e in
          inl (record {
            why = rest.why;
            gone = picked-ends (placed_gone table snapshot delete) row rows (row ∷ []) rest.why (ap (counted (λ (after : List NumberedRow). row ∷ [])) step) rest.gone;
            left = rework-ends (remaining_row table snapshot delete) (numbered_at row) (map numbered_at rows) ([], 1) rest.why step rest.left;
          })
      go (Ok false) e (inl rest) =
          let step = row-left row (Ok false) e in
          inl (record {
            why = rest.why;
            gone = picked-ends (placed_gone table snapshot delete) row rows [] rest.why (ap (counted (λ (after : List NumberedRow). row ∷ [])) step) rest.gone;
            left = rework-ends (remaining_row table snapshot delete) (numbered_at row) (map numbered_at rows) (numbered_at row ∷ [], 0) rest.why step rest.left;
          })
      go (Ok true) e (inr rest) =
          let step = row-left row (Ok true) e in
          inr (record {
            gone = picked-goes (placed_gone table snapshot delete) row rows (row ∷ []) (filter goes rows) (ap (counted (λ (after : List NumberedRow). row ∷ [])) step) rest.gone ∙ ap (λ (r : Result Bool Refusal). Ok (cond (held r) (row ∷ filter goes rows) (filter goes rows))) (sym e);
            left = rework-goes (remaining_row table snapshot delete) (numbered_at row) (map numbered_at rows) ([], 1) (map numbered_at (filter stays rows), length (filter goes rows)) step rest.left
                ∙ ap (λ (n : ℕ). Ok (map numbered_at (filter stays rows), n)) (let one : 1 + length (filter goes rows) ≡ length (row ∷ filter goes rows) = omega arith in one)
                ∙ ap (λ (r : Result Bool Refusal). Ok (map numbered_at (cond (not (held r)) (row ∷ filter stays rows) (filter stays rows)), length (cond (held r) (row ∷ filter goes rows) (filter goes rows)))) (sym e);
            numbers = picked-goes (row_numbers table snapshot delete) (numbered_at row) (map numbered_at rows) (row.number ∷ []) (map number_of (filter goes rows)) (ap (counted (λ (after : List NumberedRow). row.number ∷ [])) step) rest.numbers ∙ ap (λ (r : Result Bool Refusal). Ok (map number_of (cond (held r) (row ∷ filter goes rows) (filter goes rows)))) (sym e);
          })
      go (Ok false) e (inr rest) =
          let step = row-left row (Ok false) e in
          inr (record {
            gone = picked-goes (placed_gone table snapshot delete) row rows [] (filter goes rows) (ap (counted (λ (after : List NumberedRow). row ∷ [])) step) rest.gone ∙ ap (λ (r : Result Bool Refusal). Ok (cond (held r) (row ∷ filter goes rows) (filter goes rows))) (sym e);
            left = rework-goes (remaining_row table snapshot delete) (numbered_at row) (map numbered_at rows) (numbered_at row ∷ [], 0) (map numbered_at (filter stays rows), length (filter goes rows)) step rest.left
                ∙ ap (λ (n : ℕ). Ok (numbered_at row ∷ map numbered_at (filter stays rows), n)) (let none : 0 + length (filter goes rows) ≡ length (filter goes rows) = omega arith in none)
                ∙ ap (λ (r : Result Bool Refusal). Ok (map numbered_at (cond (not (held r)) (row ∷ filter stays rows) (filter stays rows)), length (cond (held r) (row ∷ filter goes rows) (filter goes rows)))) (sym e);
            numbers = picked-goes (row_numbers table snapshot delete) (numbered_at row) (map numbered_at rows) [] (map number_of (filter goes rows)) (ap (counted (λ (after : List NumberedRow). row.number ∷ [])) step) rest.numbers ∙ ap (λ (r : Result Bool Refusal). Ok (map number_of (cond (held r) (row ∷ filter goes rows) (filter goes rows)))) (sym e);
          })

module _ (table : TableSchema) (snapshot : Option ℕ) (update : UpdateRecord) where
  abbrev pub hits : Placed → Bool
  hits placed = held (holds_at (table ∷ []) snapshot update.condition placed.row)

  abbrev pub value : Placed → List Value
  value placed = value_or (assigned table snapshot placed.row update.assignments placed.row)

  abbrev pub set_at : Placed → RowChange
  set_at placed = record { was = placed; row = value placed }

  abbrev pub after_at : Placed → NumberedRow
  after_at placed = row_under (chosen_value (hits placed) value placed)

  -- what an update makes of rows that are decided
  pub record Sets (rows : List Placed) : Type 0 where
    pub changes : picked (placed_changes table snapshot update) rows ≡ Ok (map set_at (filter hits rows))
    pub after : reworked (updated_row table snapshot update) (map numbered_at rows) ≡ Ok (map after_at rows, length (map set_at (filter hits rows)))
    pub numbered : picked (row_changes table snapshot update) (map numbered_at rows) ≡ Ok (map (with_value value) (filter hits rows))

  -- or by which refusal it ends
  pub record SetsNot (rows : List Placed) : Type 0 where
    pub why : Refusal
    pub changes : picked (placed_changes table snapshot update) rows ≡ Err why
    pub after : reworked (updated_row table snapshot update) (map numbered_at rows) ≡ Err why

  row-after : (placed : Placed) (r : Result Bool Refusal) (v : Result (List Value) Refusal) → holds_at (table ∷ []) snapshot update.condition placed.row ≡ r → assigned table snapshot placed.row update.assignments placed.row ≡ v → updated_row table snapshot update (numbered_at placed) ≡ r >>= (λ (holds : Bool). cond holds (set_row (numbered_at placed) v) (Ok (numbered_at placed ∷ [], 0)))
  row-after placed r v e a =
      ap (λ (r : Result Bool Refusal). r >>= (λ (holds : Bool). cond holds (set_row (numbered_at placed) (assigned table snapshot placed.row update.assignments placed.row)) (Ok (numbered_at placed ∷ [], 0)))) e
      ∙ ap (λ (v : Result (List Value) Refusal). r >>= (λ (holds : Bool). cond holds (set_row (numbered_at placed) v) (Ok (numbered_at placed ∷ [], 0)))) a

  pub set-all : (rows : List Placed) → SetsNot rows ⊎ Sets rows
  set-all [] = inr (record { changes = refl; after = refl; numbered = refl })
  set-all (row ∷ rows) = go (holds_at (table ∷ []) snapshot update.condition row.row) refl (assigned table snapshot row.row update.assignments row.row) refl (set-all rows)
    where
      stop : (why : Refusal) → updated_row table snapshot update (numbered_at row) ≡ Err why → SetsNot (row ∷ rows)
      stop why step = record {
        why = why;
        changes = picked-stops (placed_changes table snapshot update) row rows why (ap (counted (changes_on row)) step);
        after = rework-stops (updated_row table snapshot update) (numbered_at row) (map numbered_at rows) why step;
      }

      end : (made : List NumberedRow) (n : ℕ) → updated_row table snapshot update (numbered_at row) ≡ Ok (made, n) → SetsNot rows → SetsNot (row ∷ rows)
      end made n step rest = record {
        why = rest.why;
        changes = picked-ends (placed_changes table snapshot update) row rows (cond (n == 0) [] (changes_on row made)) rest.why (ap (counted (changes_on row)) step) rest.changes;
        after = rework-ends (updated_row table snapshot update) (numbered_at row) (map numbered_at rows) (made, n) rest.why step rest.after;
      }

      stay : holds_at (table ∷ []) snapshot update.condition row.row ≡ Ok false → updated_row table snapshot update (numbered_at row) ≡ Ok (numbered_at row ∷ [], 0) → Sets rows → Sets (row ∷ rows)
      stay e step rest = record {
        changes = picked-goes (placed_changes table snapshot update) row rows [] (map set_at (filter hits rows)) (ap (counted (changes_on row)) step) rest.changes
            ∙ ap (λ (r : Result Bool Refusal). Ok (map set_at (cond (held r) (row ∷ filter hits rows) (filter hits rows)))) (sym e);
        after = rework-goes (updated_row table snapshot update) (numbered_at row) (map numbered_at rows) (numbered_at row ∷ [], 0) (map after_at rows, length (map set_at (filter hits rows))) step rest.after
            ∙ ap (λ (n : ℕ). Ok (numbered_at row ∷ map after_at rows, n)) (let none : 0 + length (map set_at (filter hits rows)) ≡ length (map set_at (filter hits rows)) = omega arith in none)
            ∙ ap (λ (r : Result Bool Refusal). Ok (row_under (chosen_value (held r) value row) ∷ map after_at rows, length (map set_at (cond (held r) (row ∷ filter hits rows) (filter hits rows))))) (sym e);
        numbered = picked-goes (row_changes table snapshot update) (numbered_at row) (map numbered_at rows) [] (map (with_value value) (filter hits rows)) (ap (counted under_numbers) step) rest.numbered
            ∙ ap (λ (r : Result Bool Refusal). Ok (map (with_value value) (cond (held r) (row ∷ filter hits rows) (filter hits rows)))) (sym e);
      }

      change : (values : List Value) → holds_at (table ∷ []) snapshot update.condition row.row ≡ Ok true → assigned table snapshot row.row update.assignments row.row ≡ Ok values → updated_row table snapshot update (numbered_at row) ≡ Ok (record { number = row.number; row = values } ∷ [], 1) → Sets rows → Sets (row ∷ rows)
      change values e a step rest = record {
        changes = picked-goes (placed_changes table snapshot update) row rows (record { was = row; row = values } ∷ []) (map set_at (filter hits rows)) (ap (counted (changes_on row)) step) rest.changes
            ∙ ap (λ (v : Result (List Value) Refusal). Ok (record { was = row; row = value_or v } ∷ map set_at (filter hits rows))) (sym a)
            ∙ ap (λ (r : Result Bool Refusal). Ok (map set_at (cond (held r) (row ∷ filter hits rows) (filter hits rows)))) (sym e);
        after = rework-goes (updated_row table snapshot update) (numbered_at row) (map numbered_at rows) (record { number = row.number; row = values } ∷ [], 1) (map after_at rows, length (map set_at (filter hits rows))) step rest.after
            ∙ ap (λ (n : ℕ). Ok (record { number = row.number; row = values } ∷ map after_at rows, n)) (let one : 1 + length (map set_at (filter hits rows)) ≡ length (set_at row ∷ map set_at (filter hits rows)) = omega arith in one)
            ∙ ap (λ (v : Result (List Value) Refusal). Ok (record { number = row.number; row = value_or v } ∷ map after_at rows, length (set_at row ∷ map set_at (filter hits rows)))) (sym a)
            ∙ ap (λ (r : Result Bool Refusal). Ok (row_under (chosen_value (held r) value row) ∷ map after_at rows, length (map set_at (cond (held r) (row ∷ filter hits rows) (filter hits rows))))) (sym e);
        numbered = picked-goes (row_changes table snapshot update) (numbered_at row) (map numbered_at rows) ((row.number, values) ∷ []) (map (with_value value) (filter hits rows)) (ap (counted under_numbers) step) rest.numbered
            ∙ ap (λ (v : Result (List Value) Refusal). Ok ((row.number, value_or v) ∷ map (with_value value) (filter hits rows))) (sym a)
            ∙ ap (λ (r : Result Bool Refusal). Ok (map (with_value value) (cond (held r) (row ∷ filter hits rows) (filter hits rows)))) (sym e);
      }

      go : (r : Result Bool Refusal) → holds_at (table ∷ []) snapshot update.condition row.row ≡ r → (v : Result (List Value) Refusal) → assigned table snapshot row.row update.assignments row.row ≡ v → SetsNot rows ⊎ Sets rows → SetsNot (row ∷ rows) ⊎ Sets (row ∷ rows)
      go (Err why) e v a rest = inl (stop why (row-after row (Err why) v e a))
      go (Ok true) e (Err why) a rest = inl (stop why (row-after row (Ok true) (Err why) e a))
      go (Ok true) e (Ok values) a (inl rest) = inl (end (record { number = row.number; row = values } ∷ []) 1 (row-after row (Ok true) (Ok values) e a) rest)
      go (Ok true) e (Ok values) a (inr rest) = inr (change values e a (row-after row (Ok true) (Ok values) e a) rest)
      go (Ok false) e v a (inl rest) = inl (end (numbered_at row ∷ []) 0 (row-after row (Ok false) v e a) rest)
      go (Ok false) e v a (inr rest) = inr (stay e (row-after row (Ok false) v e a) rest)

  -- the lengths of all rows are checked where those of the changed ones are, since the others are short
  pub lengths-same : (rows : List Placed) → AllByRecursion (λ (placed : Placed). row_bytes placed.row ≤ 900) rows → check_lengths (rows_of (map after_at rows)) ≡ check_lengths (values_of (map set_at (filter hits rows)))
  lengths-same [] short = refl
  lengths-same (row ∷ rows) short = go (hits row) (lengths-same rows short.1)
    where
      go : (b : Bool) → check_lengths (rows_of (map after_at rows)) ≡ check_lengths (values_of (map set_at (filter hits rows)))
          → check_lengths (rows_of (row_under (chosen_value b value row) ∷ map after_at rows)) ≡ check_lengths (values_of (map set_at (cond b (row ∷ filter hits rows) (filter hits rows))))
      go true rest = ap (λ (r : Result (Unit {0}) Refusal). cond (nat_le (row_bytes (value row)) 900) r (Err (RowTooLong (row_bytes (value row))))) rest
      go false rest = ap (λ (b : Bool). cond b (check_lengths (rows_of (map after_at rows))) (Err (RowTooLong (row_bytes row.row)))) (le-leb (row_bytes row.row) 900 short.0) ∙ rest

  -- changed rows fit where all rows after the update do
  pub set-fit : (columns : List Column) (rows : List Placed) → AllFit columns (rows_of (map after_at rows)) → AllFit columns (values_of (map set_at (filter hits rows)))
  set-fit columns [] fit = tt
  set-fit columns (row ∷ rows) fit = go (hits row) fit.0 (set-fit columns rows fit.1)
    where
      go : (b : Bool) → IsTrue (fits columns (row_under (chosen_value b value row)).row) → AllFit columns (values_of (map set_at (filter hits rows))) → AllFit columns (values_of (map set_at (cond b (row ∷ filter hits rows) (filter hits rows))))
      go true one rest = (one, rest)
      go false one rest = rest
