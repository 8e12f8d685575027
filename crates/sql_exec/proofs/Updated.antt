-- What an update does to well-formed pages is what it means over their tables.
use Rattle.std.proofs.Common.{◌≡◌, ◌∙◌, ◌⊎◌, ◌∷◌, ℕ, true, List, [], length, map, Option, Some, Result, Ok, Err, inl, inr, refl, sym, ap, subst}
use Rattle.std.specs.Prelude.{is_ok}
use Rattle.std.specs.List.{AllByRecursion, Contains, filter}
use Rattle.retro_base.specs.declared.refusal.Refusal.{Refusal}
use Rattle.values.specs.declared.value.Value.{Value}
use Rattle.row_codec.specs.RowCode.{IsRow}
use Rattle.sql_tree.specs.declared.schema.Schema.{Schema}
use Rattle.sql_tree.specs.declared.schema.TableSchema.{TableSchema}
use Rattle.sql_tree.specs.declared.statement.Column.{Column}
use Rattle.sql_tree.specs.declared.statement.Statement.TheVariants.{Update}
use Rattle.sql_tree.specs.declared.statement.Update.{Update as UpdateRecord}
use Rattle.sql_check.specs.Check.{checked}
use Rattle.tables.specs.declared.contents.Contents.{Contents}
use Rattle.tables.specs.declared.contents.NumberedRow.{NumberedRow}
use Rattle.tables.specs.declared.reply.Reply.{Reply}
use Rattle.tables.specs.declared.reply.Reply.TheVariants.{Count}
use Rattle.tables.specs.Meaning.{check_lengths, does, known, reworked, updated, updated_row}
use Rattle.tables.specs.Rows.{rows_of}
use Rattle.sql_tree.specs.Rows.{AllFit}
use Rattle.tables.specs.Tables.{Tables}
use Rattle.tables.proofs.Finding.{changed_err, changed_ok}
use Rattle.tables.proofs.Sound.{reworked_fit}
use Rattle.pager.specs.Allows.{◌>>=◌, only}
use Rattle.pager.specs.Pages.{Pages}
use Rattle.heap_file.specs.declared.chain.Placed.{Placed}
use Rattle.heap_file.proofs.Ones.{differ}
use Rattle.heap_laws.specs.Table.{IsStorable}
use Rattle.relation.specs.declared.catalog.Catalog.{Catalog}
use Rattle.relation.specs.declared.catalog.StoredTable.{StoredTable}
use Rattle.relation.specs.Catalog.{HaveFewColumns, schema_of, table_named}
use Rattle.relation.specs.declared.drafting.RowChange.{RowChange}
use Rattle.relation.specs.Work.{AllPlacedFit, change_of, placed_of, rows_at, table_in, table_updated}
use Rattle.tree_index.specs.Work.{added, removed}
use Rattle.sql_tree.specs.Rows.{fits}
use Rattle.relation.specs.Each.{each}
use Rattle.relation.proofs.Steps.{next_step}
use Rattle.relation_laws.specs.Laws.{AreChangesOf, IsRowFor, IsStoreOf, changed_to, numbered_change, with_changes}
use Rattle.relation_laws.specs.Tables.{AreDifferent, PlainTable, PlainTables}
use Rattle.relation_laws.specs.Work.{IsWorked, LeavesWorked, where_named}
use Rattle.relation_laws.specs.Work.Work.{Changes}
use Rattle.relation_laws.proofs.Catalogs.{goes-on}
use Rattle.relation_laws.proofs.Placing.{placed_law}
use Rattle.relation_laws.proofs.Singling.{rows-here}
use Rattle.relation_laws.proofs.TableStores.{tables_of}
use Rattle.relation_laws.proofs.Working.{work_law}
use Rattle.sql_select.specs.Rows.{holds_at}
use Rattle.sql_exec.specs.Bound.{left_at, stays_by}
use Rattle.sql_exec.specs.Reading.{read_at, schema_at}
use Rattle.sql_exec.specs.Planning.{picked, row_changes, work_of}
use Rattle.sql_exec.specs.Promises.{IsDoneOver, IsRunOver}
use Rattle.sql_exec.specs.Running.{IsOfWidth, at_table, given, numbered_at, placed_changes, updated_in, values_of}
use Rattle.sql_exec.specs.Stored.{contents_of, plain, row_under}
use Rattle.sql_exec.proofs.Answering.{few-named}
use Rattle.sql_exec.proofs.Choosing.{changed-chosen, chosen-all, chosen-differ, chosen_value, map-chosen, number_of, with_value}
use Rattle.sql_exec.proofs.Deciding.{Sets, SetsNot, after_at, hits, lengths-same, set-all, set-fit, set_at, value}
use Rattle.sql_exec.proofs.Deleted.{all-numbers, each-number, each-placed, numbers-differ}
use Rattle.sql_exec.proofs.Fitting.{read-fit, update-right, update-where, wide-each}
use Rattle.sql_exec.proofs.Leaving.{picked-left}
use Rattle.sql_exec.proofs.Readings.{Sifts, rows-fit, sifted-picks, sifts}
use Rattle.sql_exec.proofs.Sifting.{changes-none}
use Rattle.sql_exec.proofs.Inserted.{table-by-name, table-missing, table-there}
use Rattle.sql_exec.proofs.Meaning.{does-passed, performed-unknown, updated-err, updated-long, updated-ok, work-updates}
use Rattle.sql_exec.proofs.Named.{Here, Missing, by-name-here, found_as, found-plain, missing-plain, rows-under, schema-same, set-plain, single-of}
use Rattle.sql_exec.proofs.Shortness.{passed-each, rows-short, storable-each}
use Rattle.sql_exec.proofs.Steps.{ends-there}

-- changed rows fit, over any rows that fit
pub changes-fit : (found : Catalog) (update : UpdateRecord) (snapshot : Option ℕ) (table : StoredTable) (rows : List Placed) → table_named update.table found.tables ≡ Some table → checked (Update update) snapshot (schema_of found) ≡ Ok tt → AllPlacedFit table.columns rows → Sets (schema_at table) snapshot update rows
    → AllFit table.columns (values_of (map (set_at (schema_at table) snapshot update) (filter (hits (schema_at table) snapshot update) rows)))
changes-fit found update snapshot table rows is passes fit sets =
    let right = update-right found update snapshot table is passes in
    set-fit (schema_at table) snapshot update table.columns rows
    (reworked_fit (schema_at table) snapshot update (map numbered_at rows) (map (after_at (schema_at table) snapshot update) rows, length (map (set_at (schema_at table) snapshot update) (filter (hits (schema_at table) snapshot update) rows))) (read-fit table.columns rows fit) right.0 right.1 sets.after)

-- and have one to sixteen values
pub changes-wide : (found : Catalog) (update : UpdateRecord) (snapshot : Option ℕ) (table : StoredTable) (schema : TableSchema) (rows : List Placed) (changes : List RowChange) → HaveFewColumns found.tables → table_named update.table found.tables ≡ Some table → schema ≡ schema_at table → checked (Update update) snapshot (schema_of found) ≡ Ok tt → AllPlacedFit table.columns rows → picked (placed_changes schema snapshot update) rows ≡ Ok changes
    → AllByRecursion IsOfWidth (values_of changes)
changes-wide found update snapshot table schema rows changes few is of_table passes fit told = go (set-all (schema_at table) snapshot update rows)
  where
    here : picked (placed_changes (schema_at table) snapshot update) rows ≡ Ok changes
    here = subst (λ (s : TableSchema). picked (placed_changes s snapshot update) rows ≡ Ok changes) of_table told

    go : SetsNot (schema_at table) snapshot update rows ⊎ Sets (schema_at table) snapshot update rows → AllByRecursion IsOfWidth (values_of changes)
    go (inl none) = differ changes none.why (sym here ∙ none.changes)
    go (inr sets) =
        let same : map (set_at (schema_at table) snapshot update) (filter (hits (schema_at table) snapshot update) rows) ≡ changes = cc (sym sets.changes ∙ here) in
        let count = few-named update.table found.tables table few is in
        subst (λ (list : List RowChange). AllByRecursion IsOfWidth (values_of list)) same
        (wide-each table.columns (values_of (map (set_at (schema_at table) snapshot update) (filter (hits (schema_at table) snapshot update) rows))) count.0 count.1 (changes-fit found update snapshot table rows is passes fit sets))

-- numbers and rows of changes
numbers-same : (schema : TableSchema) (snapshot : Option ℕ) (update : UpdateRecord) (rows : List Placed) → map number_of rows ≡ map (λ (change : ℕ × List Value). change.0) (map (with_value (value schema snapshot update)) rows)
numbers-same schema snapshot update [] = refl
numbers-same schema snapshot update (row ∷ rows) = ap (λ (l : List ℕ). row.number ∷ l) (numbers-same schema snapshot update rows)

pairs-same : (schema : TableSchema) (snapshot : Option ℕ) (update : UpdateRecord) (rows : List Placed) → map numbered_change (map (set_at schema snapshot update) rows) ≡ map (with_value (value schema snapshot update)) rows
pairs-same schema snapshot update [] = refl
pairs-same schema snapshot update (row ∷ rows) = ap (λ (l : List (ℕ × List Value)). (row.number, value schema snapshot update row) ∷ l) (pairs-same schema snapshot update rows)

rows-for : (schema : TableSchema) (snapshot : Option ℕ) (update : UpdateRecord) (table : PlainTable) (rows : List Placed) → AllByRecursion IsStorable (values_of (map (set_at schema snapshot update) rows)) → AllByRecursion (λ (row : List Value). fits table.columns row ≡ true) (values_of (map (set_at schema snapshot update) rows)) → AllByRecursion (λ (change : ℕ × List Value). IsRowFor table change.1) (map (with_value (value schema snapshot update)) rows)
rows-for schema snapshot update table [] storable fit = tt
rows-for schema snapshot update table (row ∷ rows) storable fit = ((storable.0, fit.0), rows-for schema snapshot update table rows storable.1 fit.1)

placed-still : (schema : TableSchema) (snapshot : Option ℕ) (update : UpdateRecord) (first : ℕ) (all rows : List Placed) → AllByRecursion (λ (placed : Placed). placed_of first placed.number all ≡ Ok placed) rows → AllByRecursion (λ (change : RowChange). placed_of first change.was.number all ≡ Ok change.was) (map (set_at schema snapshot update) rows)
placed-still schema snapshot update first all [] each = tt
placed-still schema snapshot update first all (row ∷ rows) each = (each.0, placed-still schema snapshot update first all rows each.1)

afters : (schema : TableSchema) (snapshot : Option ℕ) (update : UpdateRecord) (rows : List Placed) → map row_under (map (λ (p : Placed). chosen_value (hits schema snapshot update p) (value schema snapshot update) p) rows) ≡ map (after_at schema snapshot update) rows
afters schema snapshot update [] = refl
afters schema snapshot update (row ∷ rows) = ap (λ (l : List NumberedRow). after_at schema snapshot update row ∷ l) (afters schema snapshot update rows)

module _ (size : ℕ) (pages : Pages) (all : PlainTables) (is : IsStoreOf size pages all) (update : UpdateRecord) (snapshot : Option ℕ) (passes : checked (Update update) snapshot (plain all).schema ≡ Ok tt) where
  means-err : (here : Here size pages update.table is.store.base.found.tables all.tables) (why : Refusal) → updated snapshot update (schema_at here.found) (contents_of here.table) ≡ Err why → does (Update update) snapshot (plain all) ≡ Err why
  means-err here why gives = does-passed (Update update) snapshot (plain all) passes
      ∙ changed_err update.table (plain all) (λ (schema : TableSchema) (contents : Contents). updated snapshot update schema contents) (found_as here) why (found-plain size pages update.table is.store.base.found.tables all here) gives

  module _ (here : Here size pages update.table is.store.base.found.tables all.tables) (sets : Sets (schema_at here.found) snapshot update here.shows.placed) where
    abbrev changed : List RowChange
    changed = map (set_at (schema_at here.found) snapshot update) (filter (hits (schema_at here.found) snapshot update) here.shows.placed)

    abbrev pairs : List (ℕ × List Value)
    pairs = map (with_value (value (schema_at here.found) snapshot update)) (filter (hits (schema_at here.found) snapshot update) here.shows.placed)

    abbrev afterwards : List NumberedRow
    afterwards = map (after_at (schema_at here.found) snapshot update) here.shows.placed

    reworks : reworked (updated_row (schema_at here.found) snapshot update) (contents_of here.table).rows ≡ Ok (afterwards, length changed)
    reworks = ap (λ (rows : List NumberedRow). reworked (updated_row (schema_at here.found) snapshot update) rows) (rows-under size pages here.found here.table here.shows) ∙ sets.after

    lengths : check_lengths (rows_of afterwards) ≡ check_lengths (values_of changed)
    lengths = lengths-same (schema_at here.found) snapshot update here.shows.placed (rows-short size pages here.found.first here.shows.placed here.shows.is_table.rows)

    fitting : AllFit here.found.columns (values_of changed)
    fitting = changes-fit is.store.base.found update snapshot here.found here.shows.placed here.named (ap (λ (s : Schema). checked (Update update) snapshot s) (schema-same size pages all is) ∙ passes)
        (rows-fit size pages all is update.table here) sets

    allowed : check_lengths (values_of changed) ≡ Ok tt → AllByRecursion IsRow (values_of changed) → AreChangesOf here.table pairs
    allowed short lawful = (
      (
        subst (AllByRecursion (Contains (map (λ (row : ℕ × List Value). row.0) here.table.rows))) (numbers-same (schema_at here.found) snapshot update (filter (hits (schema_at here.found) snapshot update) here.shows.placed))
            (all-numbers (Contains (map (λ (row : ℕ × List Value). row.0) here.table.rows)) (filter (hits (schema_at here.found) snapshot update) here.shows.placed) (chosen-all (λ (placed : Placed). Contains (map (λ (row : ℕ × List Value). row.0) here.table.rows) placed.number) (hits (schema_at here.found) snapshot update) here.shows.placed (each-number size pages all is update.table here))),
        subst AreDifferent (numbers-same (schema_at here.found) snapshot update (filter (hits (schema_at here.found) snapshot update) here.shows.placed)) (chosen-differ (hits (schema_at here.found) snapshot update) here.shows.placed (numbers-differ size pages all is update.table here)),
      ),
      rows-for (schema_at here.found) snapshot update here.table (filter (hits (schema_at here.found) snapshot update) here.shows.placed) (storable-each (values_of changed) lawful (passed-each (values_of changed) short))
          (subst (λ (columns : List Column). AllByRecursion (λ (row : List Value). fits columns row ≡ true) (values_of changed)) (sym here.shows.columns) fitting),
    )

    worked-as : check_lengths (values_of changed) ≡ Ok tt → AllByRecursion IsRow (values_of changed) → (b : Result (Unit {0} × Pages) Refusal) → table_updated added removed size here.found changed pages b → IsWorked size pages all (Changes update.table pairs) b
    worked-as short lawful b h = work_law.single size pages all (Changes update.table pairs) b is (here.table, here.has, here.is_name, allowed short lawful)
        (next_step (table_in size pages update.table) (λ (t : StoredTable). rows_at size pages t >>= (λ (rows : List Placed). each (change_of t.first rows) pairs >>= (λ (told : List RowChange). table_updated added removed size t told pages))) here.found (table-by-name size pages all is update.table here) b
        (next_step (rows_at size pages here.found) (λ (rows : List Placed). each (change_of here.found.first rows) pairs >>= (λ (told : List RowChange). table_updated added removed size here.found told pages)) here.shows.placed (rows-here size pages all here.table (tables_of size pages all is) (single-of size pages all is update.table here)) b
        (next_step (each (change_of here.found.first here.shows.placed) pairs) (λ (told : List RowChange). table_updated added removed size here.found told pages) changed
        (subst (λ (list : List (ℕ × List Value)). each (change_of here.found.first here.shows.placed) list (Ok changed)) (pairs-same (schema_at here.found) snapshot update (filter (hits (schema_at here.found) snapshot update) here.shows.placed))
        (placed_law.changes here.found.first here.shows.placed changed (placed-still (schema_at here.found) snapshot update here.found.first here.shows.placed (filter (hits (schema_at here.found) snapshot update) here.shows.placed) (chosen-all (λ (placed : Placed). placed_of here.found.first placed.number here.shows.placed ≡ Ok placed) (hits (schema_at here.found) snapshot update) here.shows.placed (each-placed size pages all is update.table here))))) b h)))

    after-same : afterwards ≡ (contents_of (with_changes pairs here.table)).rows
    after-same =
        sym (ap (λ (rows : List (ℕ × List Value)). map row_under (map (changed_to pairs) rows)) here.shows.rows
        ∙ ap (λ (rows : List (ℕ × List Value)). map row_under rows) (map-chosen (hits (schema_at here.found) snapshot update) (value (schema_at here.found) snapshot update) pairs here.shows.placed (changed-chosen (hits (schema_at here.found) snapshot update) (value (schema_at here.found) snapshot update) here.shows.placed (numbers-differ size pages all is update.table here)))
        ∙ afters (schema_at here.found) snapshot update here.shows.placed)

    works : work_of (Update update) snapshot (plain all) ≡ Ok (Some (Changes update.table pairs))
    works = work-updates update snapshot (plain all) (found_as here) pairs (found-plain size pages update.table is.store.base.found.tables all here)
        (ap (λ (rows : List NumberedRow). picked (row_changes (schema_at here.found) snapshot update) rows) (rows-under size pages here.found here.table here.shows) ∙ sets.numbered)

    means : check_lengths (values_of changed) ≡ Ok tt → does (Update update) snapshot (plain all) ≡ Ok (plain (where_named update.table (with_changes pairs) all), Count (length changed))
    means short =
        does-passed (Update update) snapshot (plain all) passes
        ∙ changed_ok update.table (plain all) (λ (schema : TableSchema) (contents : Contents). updated snapshot update schema contents) (found_as here) (contents_of (with_changes pairs here.table)) (length changed) (found-plain size pages update.table is.store.base.found.tables all here)
        (updated-ok snapshot update (schema_at here.found) (contents_of here.table) (afterwards, length changed) reworks (lengths ∙ short)
        ∙ ap (λ (rows : List NumberedRow). Ok (record { next = here.table.next_number; rows = rows }, length changed)) after-same)
        ∙ ap (λ (t : Tables). Ok (t, Count (length changed))) (set-plain size pages update.table is.store.base.found.tables all here (with_changes pairs) (λ t. refl))

    changed-law : check_lengths (values_of changed) ≡ Ok tt → AllByRecursion IsRow (values_of changed) → (b : Result (Reply × Pages) Refusal) → (table_updated added removed size here.found changed pages >>= (λ (done : Unit {0} × Pages). only (Ok (Count (length changed), done.1)))) b → IsRunOver size (Update update) snapshot pages (plain all) b
    changed-law short lawful (Ok y) (done, changes, e) = subst (λ (r : Result (Reply × Pages) Refusal). IsRunOver size (Update update) snapshot pages (plain all) r) e made
      where
        leaves : LeavesWorked size pages all (Changes update.table pairs) done.1
        leaves = worked-as short lawful (Ok done) changes

        made : IsDoneOver size (Update update) snapshot pages (plain all) (Count (length changed)) done.1
        made = record {
          behind = plain (where_named update.table (with_changes pairs) all);
          means = means short;
          stored = record { all = where_named update.table (with_changes pairs) all; store = leaves.store; same = refl };
          work = Some (Changes update.table pairs);
          is_work = works;
          edits = (leaves.needs, leaves.are_needed, leaves.takes, leaves.within);
        }
    changed-law short lawful (Err why) (inl full) =
        let so = worked-as short lawful (Err why) full in
        inr (so.0, ap is_ok (means short), Some (Changes update.table pairs), works, so.1)
    changed-law short lawful (Err why) (inr (done, changes, e)) = differ _ why e

    given-law : check_lengths (values_of changed) ≡ Ok tt → (b : Result (Reply × Pages) Refusal) → (given (AllByRecursion IsRow (values_of changed)) >>= (λ (u : Unit {0}). table_updated added removed size here.found changed pages >>= (λ (done : Unit {0} × Pages). only (Ok (Count (length changed), done.1))))) b → IsRunOver size (Update update) snapshot pages (plain all) b
    given-law short (Ok y) (u, lawful, h) = changed-law short lawful (Ok y) h
    given-law short (Err why) (inl none) = absurd none
    given-law short (Err why) (inr (u, lawful, h)) = changed-law short lawful (Err why) h

    short-law : (r : Result (Unit {0}) Refusal) → check_lengths (values_of changed) ≡ r → (b : Result (Reply × Pages) Refusal) → (only (check_lengths (values_of changed)) >>= (λ (v : Unit {0}). given (AllByRecursion IsRow (values_of changed)) >>= (λ (u : Unit {0}). table_updated added removed size here.found changed pages >>= (λ (done : Unit {0} × Pages). only (Ok (Count (length changed), done.1)))))) b → IsRunOver size (Update update) snapshot pages (plain all) b
    short-law (Ok tt) short b h = given-law short b (goes-on (only (check_lengths (values_of changed))) (λ (v : Unit {0}). given (AllByRecursion IsRow (values_of changed)) >>= (λ (u : Unit {0}). table_updated added removed size here.found changed pages >>= (λ (done : Unit {0} × Pages). only (Ok (Count (length changed), done.1))))) tt (λ (a : Result (Unit {0}) Refusal) (e : check_lengths (values_of changed) ≡ a). sym e ∙ short) b h)
    short-law (Err why) long b h = subst (λ (r : Result (Reply × Pages) Refusal). IsRunOver size (Update update) snapshot pages (plain all) r)
        (sym (ends-there (only (check_lengths (values_of changed))) (λ (v : Unit {0}). given (AllByRecursion IsRow (values_of changed)) >>= (λ (u : Unit {0}). table_updated added removed size here.found changed pages >>= (λ (done : Unit {0} × Pages). only (Ok (Count (length changed), done.1))))) why (λ (a : Result (Unit {0}) Refusal) (e : check_lengths (values_of changed) ≡ a). sym e ∙ long) b h))
        (inl (means-err here why (updated-long snapshot update (schema_at here.found) (contents_of here.table) (afterwards, length changed) why reworks (lengths ∙ long))))

  in-law : (here : Here size pages update.table is.store.base.found.tables all.tables) (b : Result (Reply × Pages) Refusal) → updated_in size snapshot update here.found pages b → IsRunOver size (Update update) snapshot pages (plain all) b
  in-law here b h = parts (set-all (schema_at here.found) snapshot update here.shows.placed)
    where
      sifted : Sifts size pages all is update.table here snapshot update.condition
      sifted =
          let right = update-where is.store.base.found update snapshot here.found here.named (ap (λ (s : Schema). checked (Update update) snapshot s) (schema-same size pages all is) ∙ passes) in
          sifts size pages all is update.table here snapshot update.condition right.0 right.1

      behind : (only (picked (placed_changes (schema_at here.found) snapshot update) here.shows.placed) >>= (λ (changes : List RowChange). only (check_lengths (values_of changes)) >>= (λ (v : Unit {0}). given (AllByRecursion IsRow (values_of changes)) >>= (λ (u : Unit {0}). table_updated added removed size here.found changes pages >>= (λ (done : Unit {0} × Pages). only (Ok (Count (length changes), done.1))))))) b
      behind = subst (λ (r : Result (List RowChange) Refusal). (only r >>= (λ (changes : List RowChange). only (check_lengths (values_of changes)) >>= (λ (v : Unit {0}). given (AllByRecursion IsRow (values_of changes)) >>= (λ (u : Unit {0}). table_updated added removed size here.found changes pages >>= (λ (done : Unit {0} × Pages). only (Ok (Count (length changes), done.1))))))) b)
          (sifted-picks size pages all is update.table here snapshot update.condition sifted (placed_changes (schema_at here.found) snapshot update) (changes-none (schema_at here.found) snapshot update))
          (goes-on (read_at size pages here.found update.condition) (λ (rows : List Placed). only (picked (placed_changes (schema_at here.found) snapshot update) rows) >>= (λ (changes : List RowChange). only (check_lengths (values_of changes)) >>= (λ (v : Unit {0}). given (AllByRecursion IsRow (values_of changes)) >>= (λ (u : Unit {0}). table_updated added removed size here.found changes pages >>= (λ (done : Unit {0} × Pages). only (Ok (Count (length changes), done.1))))))) (filter sifted.inside here.shows.placed) sifted.reads b h)

      parts : SetsNot (schema_at here.found) snapshot update here.shows.placed ⊎ Sets (schema_at here.found) snapshot update here.shows.placed → IsRunOver size (Update update) snapshot pages (plain all) b
      parts (inl none) = subst (λ (r : Result (Reply × Pages) Refusal). IsRunOver size (Update update) snapshot pages (plain all) r)
          (sym (ends-there (only (picked (placed_changes (schema_at here.found) snapshot update) here.shows.placed)) (λ (changes : List RowChange). only (check_lengths (values_of changes)) >>= (λ (v : Unit {0}). given (AllByRecursion IsRow (values_of changes)) >>= (λ (u : Unit {0}). table_updated added removed size here.found changes pages >>= (λ (done : Unit {0} × Pages). only (Ok (Count (length changes), done.1)))))) none.why
          (λ (a : Result (List RowChange) Refusal) (e : picked (placed_changes (schema_at here.found) snapshot update) here.shows.placed ≡ a). sym e ∙ none.changes) b behind))
          (inl (means-err here none.why (updated-err snapshot update (schema_at here.found) (contents_of here.table) none.why (ap (λ (rows : List NumberedRow). reworked (updated_row (schema_at here.found) snapshot update) rows) (rows-under size pages here.found here.table here.shows) ∙ none.after))))
      parts (inr sets) = short-law here sets (check_lengths (values_of (map (set_at (schema_at here.found) snapshot update) (filter (hits (schema_at here.found) snapshot update) here.shows.placed)))) refl b
          (goes-on (only (picked (placed_changes (schema_at here.found) snapshot update) here.shows.placed)) (λ (changes : List RowChange). only (check_lengths (values_of changes)) >>= (λ (v : Unit {0}). given (AllByRecursion IsRow (values_of changes)) >>= (λ (u : Unit {0}). table_updated added removed size here.found changes pages >>= (λ (done : Unit {0} × Pages). only (Ok (Count (length changes), done.1)))))) (map (set_at (schema_at here.found) snapshot update) (filter (hits (schema_at here.found) snapshot update) here.shows.placed))
          (λ (a : Result (List RowChange) Refusal) (e : picked (placed_changes (schema_at here.found) snapshot update) here.shows.placed ≡ a). sym e ∙ sets.changes) b behind)

  pub update-law : (b : Result (Reply × Pages) Refusal) → at_table is.store.base.found update.table (λ (table : StoredTable). updated_in size snapshot update table pages) b → IsRunOver size (Update update) snapshot pages (plain all) b
  update-law b h = found (by-name-here size pages all is update.table)
    where
      found : Missing update.table is.store.base.found.tables all.tables ⊎ Here size pages update.table is.store.base.found.tables all.tables → IsRunOver size (Update update) snapshot pages (plain all) b
      found (inl none) = subst (λ (r : Result (Reply × Pages) Refusal). IsRunOver size (Update update) snapshot pages (plain all) r) (sym (table-missing is.store.base.found update.table (λ (table : StoredTable). updated_in size snapshot update table pages) none.named b h))
          (inl (does-passed (Update update) snapshot (plain all) passes ∙ performed-unknown update.table (plain all) (λ (schema : TableSchema) (contents : Contents). updated snapshot update schema contents) (missing-plain update.table is.store.base.found.tables all none)))
      found (inr here) = in-law here b (table-there is.store.base.found update.table here.found (λ (table : StoredTable). updated_in size snapshot update table pages) here.named b h)

-- the rows that an update counts of those that are left are those that it counts of all
all-changes : (update : UpdateRecord) (snapshot : Option ℕ) (table : StoredTable) (schema : TableSchema) (left rows : List Placed) (changes : Result (List RowChange) Refusal) → schema ≡ schema_at table → left ≡ filter (stays_by (holds_at (schema_at table ∷ []) snapshot update.condition)) rows → picked (placed_changes schema snapshot update) left ≡ changes → picked (placed_changes (schema_at table) snapshot update) rows ≡ changes
all-changes update snapshot table schema left rows changes of_table leaves told =
    sym (picked-left (holds_at (schema_at table ∷ []) snapshot update.condition) (placed_changes (schema_at table) snapshot update) rows left (changes-none (schema_at table) snapshot update) leaves)
    ∙ subst (λ (s : TableSchema). picked (placed_changes s snapshot update) left ≡ changes) of_table told

-- rows that were changed, for which there was no page, that are too long, and that were not decided
pub updated-there : (size width : ℕ) (found : Catalog) (update : UpdateRecord) (snapshot : Option ℕ) (table : StoredTable) (schema : TableSchema) (rows : List Placed) (changes : List RowChange) (was now : Pages) (u : Unit {0}) → table_named update.table found.tables ≡ Some table → schema ≡ schema_at table → left_at size snapshot was table update.condition (Ok rows) → picked (placed_changes schema snapshot update) rows ≡ Ok changes → check_lengths (values_of changes) ≡ Ok tt → AllByRecursion IsRow (values_of changes) → width ≡ size → table_updated added removed width table changes was (Ok (u, now))
    → at_table found update.table (λ (t : StoredTable). updated_in size snapshot update t was) (Ok (Count (length changes), now))
updated-there size width found update snapshot table schema rows changes was now u is of_table read told short lawful same h =
    (table, ap (λ (t : Option StoredTable). known t) is, (read.0, read.1, (changes, all-changes update snapshot table schema rows read.0 (Ok changes) of_table read.2 told, (tt, short, (tt, lawful, ((u, now), subst (λ (s : ℕ). table_updated added removed s table changes was (Ok (u, now))) same h, refl))))))

pub updated-full : (size width : ℕ) (found : Catalog) (update : UpdateRecord) (snapshot : Option ℕ) (table : StoredTable) (schema : TableSchema) (rows : List Placed) (changes : List RowChange) (was : Pages) (why : Refusal) → table_named update.table found.tables ≡ Some table → schema ≡ schema_at table → left_at size snapshot was table update.condition (Ok rows) → picked (placed_changes schema snapshot update) rows ≡ Ok changes → check_lengths (values_of changes) ≡ Ok tt → AllByRecursion IsRow (values_of changes) → width ≡ size → table_updated added removed width table changes was (Err why)
    → at_table found update.table (λ (t : StoredTable). updated_in size snapshot update t was) (Err why)
updated-full size width found update snapshot table schema rows changes was why is of_table read told short lawful same h =
    inr (table, ap (λ (t : Option StoredTable). known t) is, inr (read.0, read.1, inr (changes, all-changes update snapshot table schema rows read.0 (Ok changes) of_table read.2 told, inr (tt, short, inr (tt, lawful, inl (subst (λ (s : ℕ). table_updated added removed s table changes was (Err why)) same h))))))

pub changes-long : (size : ℕ) (found : Catalog) (update : UpdateRecord) (snapshot : Option ℕ) (table : StoredTable) (schema : TableSchema) (rows : List Placed) (changes : List RowChange) (was : Pages) (why : Refusal) → table_named update.table found.tables ≡ Some table → schema ≡ schema_at table → left_at size snapshot was table update.condition (Ok rows) → picked (placed_changes schema snapshot update) rows ≡ Ok changes → check_lengths (values_of changes) ≡ Err why
    → at_table found update.table (λ (t : StoredTable). updated_in size snapshot update t was) (Err why)
changes-long size found update snapshot table schema rows changes was why is of_table read told long =
    inr (table, ap (λ (t : Option StoredTable). known t) is, inr (read.0, read.1, inr (changes, all-changes update snapshot table schema rows read.0 (Ok changes) of_table read.2 told, inl long)))

pub updated-not : (size : ℕ) (found : Catalog) (update : UpdateRecord) (snapshot : Option ℕ) (table : StoredTable) (schema : TableSchema) (rows : List Placed) (was : Pages) (why : Refusal) → table_named update.table found.tables ≡ Some table → schema ≡ schema_at table → left_at size snapshot was table update.condition (Ok rows) → picked (placed_changes schema snapshot update) rows ≡ Err why
    → at_table found update.table (λ (t : StoredTable). updated_in size snapshot update t was) (Err why)
updated-not size found update snapshot table schema rows was why is of_table read told =
    inr (table, ap (λ (t : Option StoredTable). known t) is, inr (read.0, read.1, inl (all-changes update snapshot table schema rows read.0 (Err why) of_table read.2 told)))
