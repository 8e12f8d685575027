-- What an INSERT makes of the tables.
use Rattle.std.proofs.Common.{◌≡◌, ◌≤◌, ◌&&◌, ◌⊎◌, inl, inr, ◌∙◌, ℕ, Bool, true, false, List, [], ◌∷◌, None, Some, Result, Ok, Err, length, refl, ap, sym, subst}
use Rattle.std.specs.List.{AllByRecursion, list_all}
use Rattle.std.specs.Prelude.{slice_index_or, slice_set}
use Rattle.retro_base.specs.declared.refusal.Refusal.{Refusal}
use Rattle.retro_base.specs.declared.refusal.Refusal.TheVariants.{OutOfMemory}
use Rattle.values.specs.declared.value.Value.{Value}
use Rattle.sql_check.specs.Check.{checked}
use Rattle.sql_tree.specs.Rows.{fits}
use Rattle.sql_tree.specs.declared.schema.TableSchema.{TableSchema}
use Rattle.sql_tree.specs.declared.statement.Column.{Column}
use Rattle.sql_tree.specs.declared.statement.Insert.{Insert as InsertRecord}
use Rattle.sql_tree.specs.declared.statement.Statement.TheVariants.{Insert}
use Rattle.tables.specs.declared.contents.Contents.{Contents}
use Rattle.tables.specs.declared.reply.Reply.TheVariants.{Count}
use Rattle.tables.specs.Meaning.{inserted, performed}
use Rattle.sql_tree.specs.Rows.{AllFit}
use Rattle.tables.specs.Tables.{Found, IsPlace, IsTable, IsTables, Tables, with_contents}
use Rattle.tables.proofs.Facts.{insert_checked}
use Rattle.tables.proofs.Finding.{changed_err, changed_ok, put_sound, table_there}
use Rattle.tables.proofs.Sound.{inserted_sound, short_rows}
use Rattle.std.proofs.lemmas.List.{get_or_default}

abbrev pub no_table : TableSchema
no_table = record { name = []; columns = [] }

abbrev pub no_contents : Contents
no_contents = record { next = 0; rows = [] }

abbrev found_at : Tables → ℕ → Found
found_at tables place = record { place = place; schema = slice_index_or tables.schema.tables place no_table; contents = slice_index_or tables.contents place no_contents }

both_true : (a b : Bool) → a && b ≡ true → (a ≡ true) × (b ≡ true)
both_true true b e = (refl, e)
both_true false b e = absurd (let none : false ≡ true = e in cc)

all_fit : (columns : List Column) (rows : List (List Value)) → list_all (fits columns) rows ≡ true → AllFit columns rows
all_fit columns [] e = tt
all_fit columns (row ∷ rows) e = let both = both_true (fits columns row) (list_all (fits columns) rows) e in (both.0, all_fit columns rows both.1)

module _ (insert : InsertRecord) (tables : Tables) (place : ℕ) (lawful : IsTables tables) (is : IsPlace insert.table tables place) (let_in : checked (Insert insert) None tables.schema ≡ Ok tt) where
  is_table : IsTable (found_at tables place).schema (found_at tables place).contents
  is_table = table_there tables place lawful is.in_schema no_table no_contents

  fit : list_all (fits (found_at tables place).schema.columns) insert.tuples ≡ true
  fit = insert_checked insert None tables (found_at tables place) let_in (is.found no_table no_contents)

  pub tuples_short : AllByRecursion (λ (row : List Value). length row ≤ 16) insert.tuples
  tuples_short = short_rows (found_at tables place).schema.columns insert.tuples is_table.few_columns (all_fit (found_at tables place).schema.columns insert.tuples fit)

  pub insert_means : (new : List Contents) → inserted insert.tuples (slice_index_or tables.contents place no_contents) ≡ Ok (slice_index_or new place no_contents, length insert.tuples)
      → new ≡ slice_set tables.contents place (slice_index_or new place no_contents) → performed (Insert insert) None tables ≡ Ok (record tables { contents = new }, Count (length insert.tuples))
  insert_means new gives set =
      changed_ok insert.table tables (λ (schema : TableSchema) (contents : Contents). inserted insert.tuples contents) (found_at tables place) (slice_index_or new place no_contents) (length insert.tuples) (is.found no_table no_contents) gives
      ∙ ap (λ (contents : List Contents). Ok (record tables { contents = contents }, Count (length insert.tuples))) (sym set)

  pub insert_refused : (why : Refusal) → inserted insert.tuples (slice_index_or tables.contents place no_contents) ≡ Err why → performed (Insert insert) None tables ≡ Err why
  insert_refused why gives = changed_err insert.table tables (λ (schema : TableSchema) (contents : Contents). inserted insert.tuples contents) (found_at tables place) why (is.found no_table no_contents) gives

  pub insert_sound : (new : List Contents) → inserted insert.tuples (slice_index_or tables.contents place no_contents) ≡ Ok (slice_index_or new place no_contents, length insert.tuples)
      → new ≡ slice_set tables.contents place (slice_index_or new place no_contents) → IsTables (record tables { contents = new })
  insert_sound new gives set =
      let after = slice_index_or new place no_contents in
      let sound = inserted_sound (found_at tables place).schema insert.tuples (found_at tables place).contents after (length insert.tuples) is_table fit gives in
      let put = put_sound tables place after lawful (λ s. subst (λ (t : TableSchema). IsTable t after) (get_or_default tables.schema.tables place no_table s is.in_schema) sound) in
      subst (λ (contents : List Contents). IsTables (record tables { contents = contents })) (sym set) put

-- the same, over what a call tells of its parts
pub refused_by : (insert : InsertRecord) (inside tables : Tables) (place : ℕ) (tuples : List (List Value)) (why : Refusal) → inside ≡ tables → tuples ≡ insert.tuples → IsTables inside → IsPlace insert.table tables place → checked (Insert insert) None tables.schema ≡ Ok tt
    → (why ≡ OutOfMemory) ⊎ (inserted tuples (slice_index_or inside.contents place no_contents) ≡ Err why) → (why ≡ OutOfMemory) ⊎ (performed (Insert insert) None tables ≡ Err why)
refused_by insert inside tables place tuples why same these lawful is let_in (inl memory) = inl memory
refused_by insert inside tables place tuples why same these lawful is let_in (inr gives) =
    let here : inserted insert.tuples (slice_index_or tables.contents place no_contents) ≡ Err why =
    subst (λ (t : Tables). inserted insert.tuples (slice_index_or t.contents place no_contents) ≡ Err why) same (subst (λ (ts : List (List Value)). inserted ts (slice_index_or inside.contents place no_contents) ≡ Err why) these gives) in
    inr (insert_refused insert tables place (subst IsTables same lawful) is let_in why here)

pub record Done (insert : InsertRecord) (inside tables : Tables) (tuples : List (List Value)) (new : List Contents) : Type 0 where
  pub sound : IsTables (record inside { contents = new })
  pub means : performed (Insert insert) None tables ≡ Ok (record inside { contents = new }, Count (length tuples))

pub done_by : (insert : InsertRecord) (inside tables : Tables) (place : ℕ) (tuples : List (List Value)) (new : List Contents) → inside ≡ tables → tuples ≡ insert.tuples → IsTables inside → IsPlace insert.table tables place → checked (Insert insert) None tables.schema ≡ Ok tt
    → inserted tuples (slice_index_or inside.contents place no_contents) ≡ Ok (slice_index_or new place no_contents, length tuples) → new ≡ slice_set inside.contents place (slice_index_or new place no_contents) → Done insert inside tables tuples new
done_by insert inside tables place tuples new same these lawful is let_in gives set =
    let here = subst (λ (t : Tables). inserted insert.tuples (slice_index_or t.contents place no_contents) ≡ Ok (slice_index_or new place no_contents, length insert.tuples)) same
    (subst (λ (ts : List (List Value)). inserted ts (slice_index_or inside.contents place no_contents) ≡ Ok (slice_index_or new place no_contents, length ts)) these gives) in
    let put = subst (λ (t : Tables). new ≡ slice_set t.contents place (slice_index_or new place no_contents)) same set in
    let sound = insert_sound insert tables place (subst IsTables same lawful) is let_in new here put in
    let means = insert_means insert tables place (subst IsTables same lawful) is let_in new here put in
    record {
      sound = subst (λ (t : Tables). IsTables (record t { contents = new })) (sym same) sound;
      means = means ∙ ap (λ (t : Tables). Ok (record t { contents = new }, Count (length insert.tuples))) (sym same) ∙ ap (λ (ts : List (List Value)). Ok (record inside { contents = new }, Count (length ts))) (sym these);
    }
