-- Rows that are left out change nothing where they are not kept, or not counted.
use Rattle.std.proofs.Common.{◌≡◌, ◌∙◌, ◌++◌, ◌∷◌, ℕ, Bool, true, false, cond, List, [], map, Option, None, Result, Ok, Err, refl, sym, ap}
use Rattle.std.specs.List.{AllByRecursion, filter}
use Rattle.retro_base.specs.Gives.{◌>>=◌}
use Rattle.retro_base.specs.declared.refusal.Refusal.{Refusal}
use Rattle.values.specs.declared.value.Value.{Value}
use Rattle.sql_tree.specs.declared.schema.TableSchema.{TableSchema}
use Rattle.sql_tree.specs.declared.select.Select.{Select as SelectRecord}
use Rattle.sql_tree.specs.declared.statement.Column.{Column}
use Rattle.sql_tree.specs.declared.statement.Delete.{Delete as DeleteRecord}
use Rattle.sql_tree.specs.declared.statement.Update.{Update as UpdateRecord}
use Rattle.sql_select.specs.Each.{each}
use Rattle.sql_select.specs.Rows.{holds_at, kept}
use Rattle.sql_select.specs.Select.{answer, finished, output_rows, sort_key}
use Rattle.heap_file.specs.declared.chain.Placed.{Placed}
use Rattle.sql_exec.specs.Planning.{counted, picked}
use Rattle.sql_exec.specs.Running.{changes_on, numbered_at, placed_changes, placed_gone}
use Rattle.tables.specs.Meaning.{assigned, set_row}
use Rattle.tables.specs.declared.contents.NumberedRow.{NumberedRow}

-- what is picked, where nothing is picked of a row that is left out
picked-sifted : {A B : Type 0} (step : A → Result (List B) Refusal) (inside : A → Bool) (rows : List A) → AllByRecursion (λ row. inside row ≡ false → step row ≡ Ok []) rows → picked step (filter inside rows) ≡ picked step rows
picked-sifted {B = B} step inside [] out = refl
picked-sifted {B = B} step inside (row ∷ rows) out = go (inside row) refl (picked-sifted step inside rows out.1)
  where
    go : (b : Bool) → inside row ≡ b → picked step (filter inside rows) ≡ picked step rows → picked step (cond b (row ∷ filter inside rows) (filter inside rows)) ≡ picked step (row ∷ rows)
    go true e same = ap (λ (r : Result (List _) Refusal). step row >>= (λ (here : List _). r >>= (λ (others : List _). Ok (here ++ others)))) same
    go false e same =
        same ∙ sym (nothing (picked step rows)) ∙ sym (ap (λ (r : Result (List _) Refusal). r >>= (λ (here : List _). picked step rows >>= (λ (others : List _). Ok (here ++ others)))) (out.0 e))
      where
        nothing : (r : Result (List B) Refusal) → (r >>= (λ (others : List B). Ok ([] ++ others))) ≡ r
        nothing (Ok others) = refl
        nothing (Err why) = refl

-- the same, where nothing is picked of a row at which a condition is false, and each that is left out is one
pub picked-without : {B : Type 0} (holds : List Value → Result Bool Refusal) (step : Placed → Result (List B) Refusal) (inside : Placed → Bool) (rows : List Placed) → AllByRecursion (λ (placed : Placed). inside placed ≡ false → holds placed.row ≡ Ok false) rows → ((placed : Placed) → holds placed.row ≡ Ok false → step placed ≡ Ok []) → picked step (filter inside rows) ≡ picked step rows
picked-without holds step inside rows out nothing = picked-sifted step inside rows (through rows out)
  where
    through : (rows : List Placed) → AllByRecursion (λ (placed : Placed). inside placed ≡ false → holds placed.row ≡ Ok false) rows → AllByRecursion (λ (placed : Placed). inside placed ≡ false → step placed ≡ Ok []) rows
    through [] out = tt
    through (row ∷ rows) out = ((λ outside. nothing row (out.0 outside)), through rows out.1)

abbrev row_at : Placed → List Value
row_at placed = placed.row

-- the rows that WHERE keeps, where it keeps none that is left out
pub kept-sifted : (holds : List Value → Result Bool Refusal) (inside : Placed → Bool) (rows : List Placed) → AllByRecursion (λ (placed : Placed). inside placed ≡ false → holds placed.row ≡ Ok false) rows → kept holds (map row_at (filter inside rows)) ≡ kept holds (map row_at rows)
kept-sifted holds inside [] out = refl
kept-sifted holds inside (placed ∷ rows) out = go (inside placed) refl (kept-sifted holds inside rows out.1)
  where
    go : (b : Bool) → inside placed ≡ b → kept holds (map row_at (filter inside rows)) ≡ kept holds (map row_at rows) → kept holds (map row_at (cond b (placed ∷ filter inside rows) (filter inside rows))) ≡ kept holds (map row_at (placed ∷ rows))
    go true e same = ap (λ (r : Result (List (List Value)) Refusal). holds placed.row >>= (λ (keeps : Bool). r >>= (λ (others : List (List Value)). Ok (cond keeps (placed.row ∷ others) others)))) same
    go false e same =
        same ∙ sym (nothing (kept holds (map row_at rows))) ∙ sym (ap (λ (r : Result Bool Refusal). r >>= (λ (keeps : Bool). kept holds (map row_at rows) >>= (λ (others : List (List Value)). Ok (cond keeps (placed.row ∷ others) others)))) (out.0 e))
      where
        nothing : (r : Result (List (List Value)) Refusal) → (r >>= (λ (others : List (List Value)). Ok (cond false (placed.row ∷ others) others))) ≡ r
        nothing (Ok others) = refl
        nothing (Err why) = refl

-- the answer of a select over one table
pub answer-sifted : (select : SelectRecord) (scope : List TableSchema) (columns : List Column) (snapshot : Option ℕ) (inside : Placed → Bool) (rows : List Placed) → AllByRecursion (λ (placed : Placed). inside placed ≡ false → holds_at scope snapshot select.condition placed.row ≡ Ok false) rows
    → answer select scope columns snapshot (map row_at (filter inside rows)) None ≡ answer select scope columns snapshot (map row_at rows) None
answer-sifted select scope columns snapshot inside rows out =
    ap (λ (r : Result (List (List Value)) Refusal). r >>= (λ (kept : List (List Value)). output_rows scope snapshot select kept >>= (λ found. each (sort_key select scope columns) select.order_by >>= (λ keys. Ok (record { columns = columns; rows = finished select keys found })))))
    (kept-sifted (holds_at scope snapshot select.condition) inside rows out)

-- an update, and a delete, counts no row for which the condition does not hold
pub changes-none : (table : TableSchema) (snapshot : Option ℕ) (update : UpdateRecord) (placed : Placed) → holds_at (table ∷ []) snapshot update.condition placed.row ≡ Ok false → placed_changes table snapshot update placed ≡ Ok []
changes-none table snapshot update placed not_so =
    ap (λ (r : Result Bool Refusal). counted (changes_on placed) (r >>= (λ (holds : Bool). cond holds (set_row (numbered_at placed) (assigned table snapshot placed.row update.assignments placed.row)) (Ok (numbered_at placed ∷ [], 0))))) not_so

pub gone-none : (table : TableSchema) (snapshot : Option ℕ) (delete : DeleteRecord) (placed : Placed) → holds_at (table ∷ []) snapshot delete.condition placed.row ≡ Ok false → placed_gone table snapshot delete placed ≡ Ok []
gone-none table snapshot delete placed not_so =
    ap (λ (r : Result Bool Refusal). counted (λ (after : List NumberedRow). placed ∷ []) (r >>= (λ (holds : Bool). cond holds (Ok ([], 1)) (Ok (numbered_at placed ∷ [], 0))))) not_so
