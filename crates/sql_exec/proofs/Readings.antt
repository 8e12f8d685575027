-- The rows that a statement reads of well-formed pages: all but some for which its condition does not hold.
use Rattle.std.proofs.Common.{◌≡◌, ◌∙◌, ℕ, Bool, true, false, Option, Some, None, List, [], ◌∷◌, Result, Ok, Err, refl, sym, ap, subst, append-nil}
use Rattle.std.specs.List.{AllByRecursion, filter}
use Rattle.std.specs.Prelude.{IsOk}
use Rattle.retro_base.specs.declared.refusal.Refusal.{Refusal}
use Rattle.values.specs.declared.value.Value.{Value}
use Rattle.row_codec.specs.RowCode.{IsRow}
use Rattle.sql_tree.specs.Condition.{ConditionTree}
use Rattle.sql_tree.specs.Evaluation.{is_true}
use Rattle.sql_tree.specs.Rows.{fits}
use Rattle.sql_tree.specs.declared.schema.TableSchema.{TableSchema}
use Rattle.sql_tree.specs.declared.statement.Column.{Column}
use Rattle.sql_check.specs.Selects.{where_compares_apart, where_has_unknown}
use Rattle.sql_kinds.proofs.Checked.{conditions_are_decided}
use Rattle.sql_select.specs.Rows.{holds_at}
use Rattle.pager.specs.Pages.{Pages}
use Rattle.heap_file.specs.declared.chain.Placed.{Placed}
use Rattle.relation.specs.Work.{AllPlacedFit}
use Rattle.relation_laws.specs.Laws.{IsStoreOf, lies_between}
use Rattle.relation_laws.specs.Tables.{PlainTables}
use Rattle.relation_laws.proofs.Ranging.{ranged_law}
use Rattle.relation_laws.proofs.Singling.{named-here, rows-here, rows-read}
use Rattle.relation_laws.proofs.TableStores.{tables_of}
use Rattle.sql_exec.specs.declared.ranges.Range.{Range}
use Rattle.sql_exec.specs.Planning.{picked}
use Rattle.sql_exec.specs.Ranges.{plan_of}
use Rattle.sql_exec.specs.Reading.{read_at, read_by, schema_at}
use Rattle.sql_exec.proofs.Fitting.{fit-read}
use Rattle.sql_exec.proofs.Leaving.{filter-true}
use Rattle.sql_exec.proofs.Named.{Here, single-of}
use Rattle.sql_exec.proofs.Ranged.{lies-planned, plan-planned}
use Rattle.sql_exec.proofs.Shortness.{rows-lawful}
use Rattle.sql_exec.proofs.Sifting.{picked-without}

-- whether a row is read
abbrev inside_of : Option Range → Placed → Bool
inside_of None placed = true
inside_of (Some range) placed = lies_between range.index.place range.low range.high placed

all-both : (P Q R : Placed → Type 0) → ((placed : Placed) → P placed → Q placed → R placed) → (rows : List Placed) → AllByRecursion P rows → AllByRecursion Q rows → AllByRecursion R rows
all-both P Q R both [] ps qs = tt
all-both P Q R both (row ∷ rows) ps qs = (both row ps.0 qs.0, all-both P Q R both rows ps.1 qs.1)

-- a condition that is decided, and is not true
decided-false : (r : Result Bool Refusal) → IsOk r → (r ≡ Ok true → ⊥) → r ≡ Ok false
decided-false (Ok true) decided not_so = absurd (not_so refl)
decided-false (Ok false) decided not_so = refl
decided-false (Err why) decided not_so = let no : ⊥ = cc in absurd no

-- a row that is not read is not kept
not-kept : (table : TableSchema) (snapshot : Option ℕ) (indexes : _) (condition : Option ConditionTree) → where_has_unknown (table ∷ []) snapshot condition ≡ false → where_compares_apart (table ∷ []) condition ≡ false → (placed : Placed) → fits table.columns placed.row ≡ true → IsRow placed.row → (plan : Option Range) → plan_of table indexes condition ≡ plan → inside_of plan placed ≡ false
    → holds_at (table ∷ []) snapshot condition placed.row ≡ Ok false
not-kept table snapshot indexes condition names alike placed fit lawful None e out = let no : ⊥ = cc in absurd no
not-kept table snapshot indexes None names alike placed fit lawful (Some range) e out = let no : ⊥ = cc in absurd no
not-kept table snapshot indexes (Some condition) names alike placed fit lawful (Some range) e out =
    decided-false (is_true (table ∷ []) snapshot placed.row condition)
    (conditions_are_decided (table ∷ []) snapshot placed.row condition (subst (λ (columns : List Column). fits columns placed.row ≡ true) (sym (append-nil table.columns)) fit) names alike)
    (λ holds.
    let so = lies-planned table snapshot placed.row fit lawful.values condition holds indexes range e in
    let no : ⊥ = cc (so, out) in
    no)

-- the rows that are read are those of the table but for some that are not kept
pub record Sifts (size : ℕ) (pages : Pages) (all : PlainTables) (is : IsStoreOf size pages all) (name : List ℕ) (here : Here size pages name is.store.base.found.tables all.tables) (snapshot : Option ℕ) (condition : Option ConditionTree) : Type 0 where
  pub inside : Placed → Bool
  pub reads : (a : Result (List Placed) Refusal) → read_at size pages here.found condition a → a ≡ Ok (filter inside here.shows.placed)
  pub out : AllByRecursion (λ (placed : Placed). inside placed ≡ false → holds_at (schema_at here.found ∷ []) snapshot condition placed.row ≡ Ok false) here.shows.placed

module _ (size : ℕ) (pages : Pages) (all : PlainTables) (is : IsStoreOf size pages all) (name : List ℕ) (here : Here size pages name is.store.base.found.tables all.tables) where
  -- the rows of the table fit its columns
  pub rows-fit : AllPlacedFit here.found.columns here.shows.placed
  rows-fit = fit-read here.found.columns here.shows.placed
      (subst (λ (rows : List (ℕ × List Value)). AllByRecursion (λ (row : ℕ × List Value). fits here.found.columns row.1 ≡ true) rows) here.shows.rows
      (subst (λ (columns : List Column). AllByRecursion (λ (row : ℕ × List Value). fits columns row.1 ≡ true) here.table.rows) here.shows.columns here.shows.fitting))

  reads-by : (plan : Option Range) (condition : Option ConditionTree) → plan_of (schema_at here.found) here.found.indexes condition ≡ plan → (a : Result (List Placed) Refusal) → read_by size pages here.found plan a → a ≡ Ok (filter (inside_of plan) here.shows.placed)
  reads-by None condition e a h =
      rows-read size pages all here.table (tables_of size pages all is) (single-of size pages all is name here) a h
      ∙ ap (λ (rows : List Placed). Ok rows) (sym (filter-true here.shows.placed))
  reads-by (Some range) condition e a h =
      let planned = plan-planned (schema_at here.found) here.found.indexes condition range e in
      let single = single-of size pages all is name here in
      ranged_law size pages all here.table here.found range.index planned.column range.low range.high here.shows.placed a is here.has
      (named-here size pages all here.table (tables_of size pages all is) single)
      planned.among planned.stands planned.low planned.high
      (rows-here size pages all here.table (tables_of size pages all is) single) h

  pub sifts : (snapshot : Option ℕ) (condition : Option ConditionTree) → where_has_unknown (schema_at here.found ∷ []) snapshot condition ≡ false → where_compares_apart (schema_at here.found ∷ []) condition ≡ false → Sifts size pages all is name here snapshot condition
  sifts snapshot condition names alike =
      let plan = plan_of (schema_at here.found) here.found.indexes condition in
      record {
        inside = inside_of plan;
        reads = λ a h. reads-by plan condition refl a h;
        out = all-both (λ (placed : Placed). fits here.found.columns placed.row ≡ true) (λ (placed : Placed). IsRow placed.row) (λ (placed : Placed). inside_of plan placed ≡ false → holds_at (schema_at here.found ∷ []) snapshot condition placed.row ≡ Ok false)
            (λ placed fit lawful out. not-kept (schema_at here.found) snapshot here.found.indexes condition names alike placed fit lawful plan refl out)
            here.shows.placed rows-fit (rows-lawful size pages here.found.first here.shows.placed here.shows.is_table.rows);
      }

  -- what a statement counts of the rows that it reads is what it counts of all
  pub sifted-picks : {B : Type 0} (snapshot : Option ℕ) (condition : Option ConditionTree) (sifted : Sifts size pages all is name here snapshot condition) (step : Placed → Result (List B) Refusal) → ((placed : Placed) → holds_at (schema_at here.found ∷ []) snapshot condition placed.row ≡ Ok false → step placed ≡ Ok []) → picked step (filter sifted.inside here.shows.placed) ≡ picked step here.shows.placed
  sifted-picks snapshot condition sifted step nothing =
      picked-without (holds_at (schema_at here.found ∷ []) snapshot condition) step sifted.inside here.shows.placed sifted.out nothing
