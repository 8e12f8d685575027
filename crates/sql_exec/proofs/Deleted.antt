-- What a delete does to well-formed pages is what it means over their tables.
use Rattle.std.proofs.Common.{◌≡◌, ◌∙◌, ◌⊎◌, ◌∷◌, ◌==◌, ℕ, Bool, not, List, [], length, map, Option, Some, Result, Ok, Err, inl, inr, refl, sym, ap, subst}
use Rattle.std.specs.Prelude.{is_ok}
use Rattle.std.specs.List.{AllByRecursion, Contains, filter, list_any}
use Rattle.retro_base.specs.declared.refusal.Refusal.{Refusal}
use Rattle.values.specs.declared.value.Value.{Value}
use Rattle.sql_tree.specs.declared.schema.Schema.{Schema}
use Rattle.sql_tree.specs.declared.schema.TableSchema.{TableSchema}
use Rattle.sql_tree.specs.declared.statement.Delete.{Delete as DeleteRecord}
use Rattle.sql_tree.specs.declared.statement.Statement.TheVariants.{Delete}
use Rattle.sql_check.specs.Check.{checked}
use Rattle.tables.specs.declared.contents.Contents.{Contents}
use Rattle.tables.specs.declared.contents.NumberedRow.{NumberedRow}
use Rattle.tables.specs.declared.reply.Reply.{Reply}
use Rattle.tables.specs.declared.reply.Reply.TheVariants.{Count}
use Rattle.tables.specs.Meaning.{does, known, remaining, remaining_row, reworked}
use Rattle.tables.specs.Tables.{Tables}
use Rattle.tables.proofs.Finding.{changed_err, changed_ok}
use Rattle.pager.specs.Allows.{◌>>=◌, only}
use Rattle.pager.specs.Pages.{Pages}
use Rattle.heap_file.specs.declared.chain.Placed.{Placed}
use Rattle.heap_file.proofs.Ones.{differ}
use Rattle.heap_laws.proofs.Reading.{table-numbered}
use Rattle.relation.specs.declared.catalog.Catalog.{Catalog}
use Rattle.relation.specs.declared.catalog.StoredTable.{StoredTable}
use Rattle.relation.specs.Catalog.{table_named}
use Rattle.relation.specs.Work.{placed_of, rows_at, table_deleted, table_in}
use Rattle.relation.specs.Each.{each}
use Rattle.relation.proofs.Steps.{next_step}
use Rattle.relation_laws.specs.Laws.{AreNumbersOf, IsStoreOf, without_rows}
use Rattle.relation_laws.specs.Tables.{AreDifferent, PlainTables, numbered_row}
use Rattle.relation_laws.specs.Work.{IsWorked, LeavesWorked, where_named}
use Rattle.relation_laws.specs.Work.Work.{Removes}
use Rattle.relation_laws.proofs.Catalogs.{goes-on}
use Rattle.relation_laws.proofs.Lists.{contains-map}
use Rattle.relation_laws.proofs.Placing.{placed_law}
use Rattle.relation_laws.proofs.Singling.{firsts_of, has-first, named-here, rows-here}
use Rattle.relation_laws.proofs.TableStores.{tables_of}
use Rattle.relation_laws.proofs.Working.{work_law}
use Rattle.tree_index.specs.Work.{removed}
use Rattle.sql_select.specs.Rows.{holds_at}
use Rattle.sql_exec.specs.Bound.{left_at, stays_by}
use Rattle.sql_exec.specs.Reading.{read_at, schema_at}
use Rattle.sql_exec.specs.Planning.{picked, row_numbers}
use Rattle.sql_exec.specs.Promises.{IsDoneOver, IsRunOver}
use Rattle.sql_exec.specs.Running.{at_table, deleted_from, numbered_at, placed_gone}
use Rattle.sql_exec.specs.Stored.{contents_of, plain, row_under}
use Rattle.sql_exec.proofs.Choosing.{all-contained, any-chosen, chosen-all, chosen-differ, filter-chosen, number_of, rising-differ}
use Rattle.sql_exec.proofs.Deciding.{Parts, PartsNot, goes, parted, stays}
use Rattle.sql_exec.proofs.Fitting.{delete-where}
use Rattle.sql_exec.proofs.Leaving.{picked-left}
use Rattle.sql_exec.proofs.Readings.{Sifts, sifted-picks, sifts}
use Rattle.sql_exec.proofs.Sifting.{gone-none}
use Rattle.sql_exec.proofs.Inserted.{table-by-name, table-missing, table-there}
use Rattle.sql_exec.proofs.Meaning.{does-passed, performed-unknown, remaining-err, remaining-ok, work-deletes}
use Rattle.sql_exec.proofs.Named.{Here, Missing, by-name-here, found_as, found-plain, missing-plain, rows-under, schema-same, set-plain, single-of, unders}
use Rattle.sql_exec.proofs.Steps.{ends-there}

-- the rows of a table of a store have different numbers
pub numbers-differ : (size : ℕ) (pages : Pages) (all : PlainTables) (is : IsStoreOf size pages all) (name : List ℕ) (here : Here size pages name is.store.base.found.tables all.tables) → AreDifferent (map number_of here.shows.placed)
numbers-differ size pages all is name here =
    let told = table-numbered size pages (firsts_of is.store.base.found) is.store.base.held here.found.first (record { next_number = here.table.next_number; rows = here.shows.placed }) is.store.base.heap (has-first is.store.base.found here.found here.in_catalog) here.shows.is_table in
    rising-differ number_of here.shows.placed (λ i j d less lt. told.rise i j d less lt)

-- each stands on its page, under its number
pub each-placed : (size : ℕ) (pages : Pages) (all : PlainTables) (is : IsStoreOf size pages all) (name : List ℕ) (here : Here size pages name is.store.base.found.tables all.tables) → AllByRecursion (λ (placed : Placed). placed_of here.found.first placed.number here.shows.placed ≡ Ok placed) here.shows.placed
each-placed size pages all is name here = all-contained (λ (placed : Placed). placed_of here.found.first placed.number here.shows.placed ≡ Ok placed) here.shows.placed
    (λ placed has. placed_law.told size pages all here.table here.found here.shows.placed placed is here.has (named-here size pages all here.table (tables_of size pages all is) (single-of size pages all is name here)) (rows-here size pages all here.table (tables_of size pages all is) (single-of size pages all is name here)) has)

-- each number is one of the table's
pub each-number : (size : ℕ) (pages : Pages) (all : PlainTables) (is : IsStoreOf size pages all) (name : List ℕ) (here : Here size pages name is.store.base.found.tables all.tables) → AllByRecursion (λ (placed : Placed). Contains (map (λ (row : ℕ × List Value). row.0) here.table.rows) placed.number) here.shows.placed
each-number size pages all is name here = all-contained (λ (placed : Placed). Contains (map (λ (row : ℕ × List Value). row.0) here.table.rows) placed.number) here.shows.placed
    (λ placed has. subst (λ (rows : List (ℕ × List Value)). Contains (map (λ (row : ℕ × List Value). row.0) rows) placed.number) (sym here.shows.rows) (contains-map (λ (row : ℕ × List Value). row.0) (map numbered_row here.shows.placed) (numbered_row placed) (contains-map numbered_row here.shows.placed placed has)))

pub all-numbers : (P : ℕ → Type 0) (rows : List Placed) → AllByRecursion (λ (placed : Placed). P placed.number) rows → AllByRecursion P (map number_of rows)
all-numbers P rows all = go rows all
  where
    go : (rows : List Placed) → AllByRecursion (λ (placed : Placed). P placed.number) rows → AllByRecursion P (map number_of rows)
    go [] all = tt
    go (row ∷ rows) all = (all.0, go rows all.1)

module _ (size : ℕ) (pages : Pages) (all : PlainTables) (is : IsStoreOf size pages all) (delete : DeleteRecord) (snapshot : Option ℕ) (passes : checked (Delete delete) snapshot (plain all).schema ≡ Ok tt) where
  refused : (here : Here size pages delete.table is.store.base.found.tables all.tables) (why : Refusal) → reworked (remaining_row (schema_at here.found) snapshot delete) (map numbered_at here.shows.placed) ≡ Err why → does (Delete delete) snapshot (plain all) ≡ Err why
  refused here why gives = does-passed (Delete delete) snapshot (plain all) passes
      ∙ changed_err delete.table (plain all) (λ (schema : TableSchema) (contents : Contents). remaining snapshot delete schema contents) (found_as here) why (found-plain size pages delete.table is.store.base.found.tables all here)
      (remaining-err snapshot delete (schema_at here.found) (contents_of here.table) why (ap (λ (rows : List NumberedRow). reworked (remaining_row (schema_at here.found) snapshot delete) rows) (rows-under size pages here.found here.table here.shows) ∙ gives))

  module _ (here : Here size pages delete.table is.store.base.found.tables all.tables) where
    abbrev choose : Placed → Bool
    choose = goes (schema_at here.found) snapshot delete

    abbrev gone : List Placed
    gone = filter (goes (schema_at here.found) snapshot delete) here.shows.placed

    abbrev numbers : List ℕ
    numbers = map number_of (filter (goes (schema_at here.found) snapshot delete) here.shows.placed)

    allowed : AreNumbersOf here.table numbers
    allowed = (
      all-numbers (Contains (map (λ (row : ℕ × List Value). row.0) here.table.rows)) gone (chosen-all (λ (placed : Placed). Contains (map (λ (row : ℕ × List Value). row.0) here.table.rows) placed.number) choose here.shows.placed (each-number size pages all is delete.table here)),
      chosen-differ choose here.shows.placed (numbers-differ size pages all is delete.table here),
    )

    worked-as : (b : Result (Unit {0} × Pages) Refusal) → table_deleted removed size here.found gone pages b → IsWorked size pages all (Removes delete.table numbers) b
    worked-as b h = work_law.single size pages all (Removes delete.table numbers) b is (here.table, here.has, here.is_name, allowed)
        (next_step (table_in size pages delete.table) (λ (t : StoredTable). rows_at size pages t >>= (λ (rows : List Placed). each (λ (number : ℕ). only (placed_of t.first number rows)) numbers >>= (λ (gone : List Placed). table_deleted removed size t gone pages))) here.found (table-by-name size pages all is delete.table here) b
        (next_step (rows_at size pages here.found) (λ (rows : List Placed). each (λ (number : ℕ). only (placed_of here.found.first number rows)) numbers >>= (λ (gone : List Placed). table_deleted removed size here.found gone pages)) here.shows.placed (rows-here size pages all here.table (tables_of size pages all is) (single-of size pages all is delete.table here)) b
        (next_step (each (λ (number : ℕ). only (placed_of here.found.first number here.shows.placed)) numbers) (λ (gone : List Placed). table_deleted removed size here.found gone pages) gone (placed_law.removes here.found.first here.shows.placed gone (chosen-all (λ (placed : Placed). placed_of here.found.first placed.number here.shows.placed ≡ Ok placed) choose here.shows.placed (each-placed size pages all is delete.table here))) b h)))

    left-same : map numbered_at (filter (stays (schema_at here.found) snapshot delete) here.shows.placed) ≡ (contents_of (without_rows numbers here.table)).rows
    left-same =
        sym (ap (λ (rows : List (ℕ × List Value)). map row_under (filter (λ (row : ℕ × List Value). not (list_any (λ (number : ℕ). row.0 == number) numbers)) rows)) here.shows.rows
        ∙ ap (λ (rows : List (ℕ × List Value)). map row_under rows) (filter-chosen choose numbers here.shows.placed (any-chosen choose here.shows.placed (numbers-differ size pages all is delete.table here)))
        ∙ unders (filter (stays (schema_at here.found) snapshot delete) here.shows.placed))

    means : Parts (schema_at here.found) snapshot delete here.shows.placed → does (Delete delete) snapshot (plain all) ≡ Ok (plain (where_named delete.table (without_rows numbers) all), Count (length gone))
    means parts =
        does-passed (Delete delete) snapshot (plain all) passes
        ∙ changed_ok delete.table (plain all) (λ (schema : TableSchema) (contents : Contents). remaining snapshot delete schema contents) (found_as here) (contents_of (without_rows numbers here.table)) (length gone) (found-plain size pages delete.table is.store.base.found.tables all here)
        (remaining-ok snapshot delete (schema_at here.found) (contents_of here.table) (map numbered_at (filter (stays (schema_at here.found) snapshot delete) here.shows.placed), length gone) (ap (λ (rows : List NumberedRow). reworked (remaining_row (schema_at here.found) snapshot delete) rows) (rows-under size pages here.found here.table here.shows) ∙ parts.left)
        ∙ ap (λ (rows : List NumberedRow). Ok (record { next = here.table.next_number; rows = rows }, length gone)) left-same)
        ∙ ap (λ (t : Tables). Ok (t, Count (length gone))) (set-plain size pages delete.table is.store.base.found.tables all here (without_rows numbers) (λ t. refl))

    gone-law : Parts (schema_at here.found) snapshot delete here.shows.placed → (b : Result (Reply × Pages) Refusal) → (table_deleted removed size here.found gone pages >>= (λ (done : Unit {0} × Pages). only (Ok (Count (length gone), done.1)))) b → IsRunOver size (Delete delete) snapshot pages (plain all) b
    gone-law parts (Ok y) (done, taken, e) = subst (λ (r : Result (Reply × Pages) Refusal). IsRunOver size (Delete delete) snapshot pages (plain all) r) e made
      where
        leaves : LeavesWorked size pages all (Removes delete.table numbers) done.1
        leaves = worked-as (Ok done) taken

        made : IsDoneOver size (Delete delete) snapshot pages (plain all) (Count (length gone)) done.1
        made = record {
          behind = plain (where_named delete.table (without_rows numbers) all);
          means = means parts;
          stored = record { all = where_named delete.table (without_rows numbers) all; store = leaves.store; same = refl };
          work = Some (Removes delete.table numbers);
          is_work = work-deletes delete snapshot (plain all) (found_as here) numbers (found-plain size pages delete.table is.store.base.found.tables all here)
              (ap (λ (rows : List NumberedRow). picked (row_numbers (schema_at here.found) snapshot delete) rows) (rows-under size pages here.found here.table here.shows) ∙ parts.numbers);
          edits = (leaves.needs, leaves.are_needed, leaves.takes, leaves.within);
        }
    gone-law parts (Err why) (inl full) =
        let so = worked-as (Err why) full in
        inr (so.0, ap is_ok (means parts), Some (Removes delete.table numbers), work-deletes delete snapshot (plain all) (found_as here) numbers (found-plain size pages delete.table is.store.base.found.tables all here) (ap (λ (rows : List NumberedRow). picked (row_numbers (schema_at here.found) snapshot delete) rows) (rows-under size pages here.found here.table here.shows) ∙ parts.numbers), so.1)
    gone-law parts (Err why) (inr (done, taken, e)) = differ _ why e

    from-law : (b : Result (Reply × Pages) Refusal) → deleted_from size snapshot delete here.found pages b → IsRunOver size (Delete delete) snapshot pages (plain all) b
    from-law b h = parts (parted (schema_at here.found) snapshot delete here.shows.placed)
      where
        sifted : Sifts size pages all is delete.table here snapshot delete.condition
        sifted =
            let right = delete-where is.store.base.found delete snapshot here.found here.named (ap (λ (s : Schema). checked (Delete delete) snapshot s) (schema-same size pages all is) ∙ passes) in
            sifts size pages all is delete.table here snapshot delete.condition right.0 right.1

        behind : (only (picked (placed_gone (schema_at here.found) snapshot delete) here.shows.placed) >>= (λ (gone : List Placed). table_deleted removed size here.found gone pages >>= (λ (done : Unit {0} × Pages). only (Ok (Count (length gone), done.1))))) b
        behind = subst (λ (r : Result (List Placed) Refusal). (only r >>= (λ (gone : List Placed). table_deleted removed size here.found gone pages >>= (λ (done : Unit {0} × Pages). only (Ok (Count (length gone), done.1))))) b)
            (sifted-picks size pages all is delete.table here snapshot delete.condition sifted (placed_gone (schema_at here.found) snapshot delete) (gone-none (schema_at here.found) snapshot delete))
            (goes-on (read_at size pages here.found delete.condition) (λ (rows : List Placed). only (picked (placed_gone (schema_at here.found) snapshot delete) rows) >>= (λ (gone : List Placed). table_deleted removed size here.found gone pages >>= (λ (done : Unit {0} × Pages). only (Ok (Count (length gone), done.1))))) (filter sifted.inside here.shows.placed) sifted.reads b h)

        parts : PartsNot (schema_at here.found) snapshot delete here.shows.placed ⊎ Parts (schema_at here.found) snapshot delete here.shows.placed → IsRunOver size (Delete delete) snapshot pages (plain all) b
        parts (inl none) = subst (λ (r : Result (Reply × Pages) Refusal). IsRunOver size (Delete delete) snapshot pages (plain all) r)
            (sym (ends-there (only (picked (placed_gone (schema_at here.found) snapshot delete) here.shows.placed)) (λ (gone : List Placed). table_deleted removed size here.found gone pages >>= (λ (done : Unit {0} × Pages). only (Ok (Count (length gone), done.1)))) none.why
            (λ (a : Result (List Placed) Refusal) (e : picked (placed_gone (schema_at here.found) snapshot delete) here.shows.placed ≡ a). sym e ∙ none.gone) b behind))
            (inl (refused here none.why none.left))
        parts (inr some) = gone-law some b
            (goes-on (only (picked (placed_gone (schema_at here.found) snapshot delete) here.shows.placed)) (λ (gone : List Placed). table_deleted removed size here.found gone pages >>= (λ (done : Unit {0} × Pages). only (Ok (Count (length gone), done.1)))) gone
            (λ (a : Result (List Placed) Refusal) (e : picked (placed_gone (schema_at here.found) snapshot delete) here.shows.placed ≡ a). sym e ∙ some.gone) b behind)

  pub delete-law : (b : Result (Reply × Pages) Refusal) → at_table is.store.base.found delete.table (λ (table : StoredTable). deleted_from size snapshot delete table pages) b → IsRunOver size (Delete delete) snapshot pages (plain all) b
  delete-law b h = found (by-name-here size pages all is delete.table)
    where
      found : Missing delete.table is.store.base.found.tables all.tables ⊎ Here size pages delete.table is.store.base.found.tables all.tables → IsRunOver size (Delete delete) snapshot pages (plain all) b
      found (inl none) = subst (λ (r : Result (Reply × Pages) Refusal). IsRunOver size (Delete delete) snapshot pages (plain all) r) (sym (table-missing is.store.base.found delete.table (λ (table : StoredTable). deleted_from size snapshot delete table pages) none.named b h))
          (inl (does-passed (Delete delete) snapshot (plain all) passes ∙ performed-unknown delete.table (plain all) (λ (schema : TableSchema) (contents : Contents). remaining snapshot delete schema contents) (missing-plain delete.table is.store.base.found.tables all none)))
      found (inr here) = from-law here b (table-there is.store.base.found delete.table here.found (λ (table : StoredTable). deleted_from size snapshot delete table pages) here.named b h)

-- the rows that a delete counts of those that are left are those that it counts of all
all-gone : (delete : DeleteRecord) (snapshot : Option ℕ) (table : StoredTable) (schema : TableSchema) (left rows : List Placed) (gone : Result (List Placed) Refusal) → schema ≡ schema_at table → left ≡ filter (stays_by (holds_at (schema_at table ∷ []) snapshot delete.condition)) rows → picked (placed_gone schema snapshot delete) left ≡ gone → picked (placed_gone (schema_at table) snapshot delete) rows ≡ gone
all-gone delete snapshot table schema left rows gone of_table leaves told =
    sym (picked-left (holds_at (schema_at table ∷ []) snapshot delete.condition) (placed_gone (schema_at table) snapshot delete) rows left (gone-none (schema_at table) snapshot delete) leaves)
    ∙ subst (λ (s : TableSchema). picked (placed_gone s snapshot delete) left ≡ gone) of_table told

-- rows that were taken out, for which there was no page, and that were not decided
pub deleted-there : (size width : ℕ) (found : Catalog) (delete : DeleteRecord) (snapshot : Option ℕ) (table : StoredTable) (schema : TableSchema) (rows gone : List Placed) (was now : Pages) (u : Unit {0}) → table_named delete.table found.tables ≡ Some table → schema ≡ schema_at table → left_at size snapshot was table delete.condition (Ok rows) → picked (placed_gone schema snapshot delete) rows ≡ Ok gone → width ≡ size → table_deleted removed width table gone was (Ok (u, now))
    → at_table found delete.table (λ (t : StoredTable). deleted_from size snapshot delete t was) (Ok (Count (length gone), now))
deleted-there size width found delete snapshot table schema rows gone was now u is of_table read told same h =
    (table, ap (λ (t : Option StoredTable). known t) is, (read.0, read.1, (gone, all-gone delete snapshot table schema rows read.0 (Ok gone) of_table read.2 told, ((u, now), subst (λ (s : ℕ). table_deleted removed s table gone was (Ok (u, now))) same h, refl))))

pub deleted-full : (size width : ℕ) (found : Catalog) (delete : DeleteRecord) (snapshot : Option ℕ) (table : StoredTable) (schema : TableSchema) (rows gone : List Placed) (was : Pages) (why : Refusal) → table_named delete.table found.tables ≡ Some table → schema ≡ schema_at table → left_at size snapshot was table delete.condition (Ok rows) → picked (placed_gone schema snapshot delete) rows ≡ Ok gone → width ≡ size → table_deleted removed width table gone was (Err why)
    → at_table found delete.table (λ (t : StoredTable). deleted_from size snapshot delete t was) (Err why)
deleted-full size width found delete snapshot table schema rows gone was why is of_table read told same h =
    inr (table, ap (λ (t : Option StoredTable). known t) is, inr (read.0, read.1, inr (gone, all-gone delete snapshot table schema rows read.0 (Ok gone) of_table read.2 told, inl (subst (λ (s : ℕ). table_deleted removed s table gone was (Err why)) same h))))

pub deleted-not : (size : ℕ) (found : Catalog) (delete : DeleteRecord) (snapshot : Option ℕ) (table : StoredTable) (schema : TableSchema) (rows : List Placed) (was : Pages) (why : Refusal) → table_named delete.table found.tables ≡ Some table → schema ≡ schema_at table → left_at size snapshot was table delete.condition (Ok rows) → picked (placed_gone schema snapshot delete) rows ≡ Err why
    → at_table found delete.table (λ (t : StoredTable). deleted_from size snapshot delete t was) (Err why)
deleted-not size found delete snapshot table schema rows was why is of_table read told =
    inr (table, ap (λ (t : Option StoredTable). known t) is, inr (read.0, read.1, inl (all-gone delete snapshot table schema rows read.0 (Err why) of_table read.2 told)))
