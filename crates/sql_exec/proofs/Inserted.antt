-- What an insert does to well-formed pages is what it means over their tables.
use Rattle.std.proofs.Common.{◌≡◌, ◌∙◌, ◌⊎◌, ◌≤◌, ◌+◌, ◌-◌, ◌^◌, ◌++◌, ◌∷◌, ℕ, Bool, true, false, List, [], length, map, Option, Some, None, Result, Ok, Err, inl, inr, refl, sym, ap, subst, arith}
use Rattle.std.specs.Prelude.{is_ok}
use Rattle.std.specs.List.{AllByRecursion, list_all}
use Rattle.std.specs.Prelude.{nat_le}
use Rattle.std.proofs.lemmas.Bool.{leb-true}
use Rattle.std.proofs.lemmas.List.{map-append}
use Rattle.retro_base.specs.declared.refusal.Refusal.{Refusal}
use Rattle.retro_base.specs.declared.refusal.Refusal.TheVariants.{Overflow, UnknownName}
use Rattle.values.specs.declared.value.Value.{Value}
use Rattle.row_codec.specs.RowCode.{IsRow}
use Rattle.sql_tree.specs.declared.schema.Schema.{Schema}
use Rattle.sql_tree.specs.declared.schema.TableSchema.{TableSchema}
use Rattle.sql_tree.specs.declared.statement.Column.{Column}
use Rattle.sql_tree.specs.declared.statement.Insert.{Insert as InsertRecord}
use Rattle.sql_tree.specs.declared.statement.Statement.TheVariants.{Insert}
use Rattle.sql_check.specs.Check.{checked}
use Rattle.sql_tree.specs.Rows.{fits}
use Rattle.tables.specs.declared.contents.Contents.{Contents}
use Rattle.tables.specs.declared.contents.NumberedRow.{NumberedRow}
use Rattle.tables.specs.declared.reply.Reply.{Reply}
use Rattle.tables.specs.declared.reply.Reply.TheVariants.{Count}
use Rattle.tables.specs.Meaning.{check_lengths, does, inserted, known}
use Rattle.tables.specs.Rows.{numbered}
use Rattle.tables.proofs.Finding.{changed_err, changed_ok}
use Rattle.pager.specs.Allows.{◌>>=◌, only}
use Rattle.pager.specs.Pages.{Pages}
use Rattle.heap_file.specs.Work.{next_of}
use Rattle.heap_file.proofs.Ones.{answers_are_one, differ}
use Rattle.heap_laws.specs.Table.{IsStorable}
use Rattle.relation.specs.declared.catalog.Catalog.{Catalog}
use Rattle.relation.specs.declared.catalog.StoredTable.{StoredTable}
use Rattle.relation.specs.Catalog.{table_named}
use Rattle.relation.specs.Work.{or_broken, table_in, table_inserted}
use Rattle.tree_index.specs.Work as tree
use Rattle.relation.proofs.Steps.{next_step}
use Rattle.relation_laws.specs.Laws.{IsRowFor, IsStoreOf, with_rows}
use Rattle.relation_laws.specs.Tables.{PlainTable, PlainTables, numbered as numbered_pairs}
use Rattle.relation_laws.specs.Work.{IsWorked, LeavesWorked, where_named}
use Rattle.relation_laws.specs.Work.Work.{Inserts}
use Rattle.relation_laws.proofs.Catalogs.{goes-on}
use Rattle.relation_laws.proofs.Singling.{read-here}
use Rattle.relation_laws.proofs.Working.{work_law}
use Rattle.sql_exec.specs.Promises.{IsDoneOver, IsRunOver}
use Rattle.sql_exec.specs.Running.{at_table, given, inserted_into}
use Rattle.sql_exec.specs.Stored.{contents_of, plain, row_under}
use Rattle.sql_exec.proofs.Fitting.{each-fits, tuples-fit}
use Rattle.sql_exec.proofs.Meaning.{does-passed, inserted-long, inserted-over, inserted-passes, performed-unknown}
use Rattle.sql_exec.proofs.Named.{Here, Missing, by-name-here, found_as, found-plain, missing-plain, schema-same, set-plain}
use Rattle.sql_exec.proofs.Shortness.{passed-each, storable-each}
use Rattle.sql_exec.proofs.Steps.{ends-there}

-- a step on a table that is not there
pub table-missing : {A : Type 0} (found : Catalog) (name : List ℕ) (f : StoredTable → Result A Refusal → Type 0) → table_named name found.tables ≡ None → (b : Result A Refusal) → at_table found name f b → b ≡ Err UnknownName
table-missing found name f none b h =
    ends-there (only (known (table_named name found.tables))) f UnknownName (λ (r : Result StoredTable Refusal) (e : known (table_named name found.tables) ≡ r). sym e ∙ ap (λ (t : Option StoredTable). known t) none) b h

-- and on one that is
pub table-there : {A : Type 0} (found : Catalog) (name : List ℕ) (table : StoredTable) (f : StoredTable → Result A Refusal → Type 0) → table_named name found.tables ≡ Some table → (b : Result A Refusal) → at_table found name f b → f table b
table-there found name table f is b h =
    goes-on (only (known (table_named name found.tables))) f table (λ (r : Result StoredTable Refusal) (e : known (table_named name found.tables) ≡ r). sym e ∙ ap (λ (t : Option StoredTable). known t) is) b h

-- the catalog finds the table by its name
pub table-by-name : (size : ℕ) (pages : Pages) (all : PlainTables) (is : IsStoreOf size pages all) (name : List ℕ) (here : Here size pages name is.store.base.found.tables all.tables) → table_in size pages name (Ok here.found)
table-by-name size pages all is name here = (is.store.base.found, read-here size pages is.store.base, ap (λ (t : Option StoredTable). or_broken t) here.named)

-- the rows of an insert, as pages and as tables number them
numbered-same : (next : ℕ) (rows : List (List Value)) → map row_under (numbered_pairs next rows) ≡ numbered next rows
numbered-same next [] = refl
numbered-same next (row ∷ rows) = ap (λ (l : List NumberedRow). record { number = next; row = row } ∷ l) (numbered-same (next + 1) rows)

with-rows-same : (table : PlainTable) (rows : List (List Value)) → record { next = table.next_number + length rows; rows = (contents_of table).rows ++ numbered table.next_number rows } ≡ contents_of (with_rows rows table)
with-rows-same table rows =
    ap (λ (l : List NumberedRow). the_contents l) (ap (λ (l : List NumberedRow). map row_under table.rows ++ l) (sym (numbered-same table.next_number rows)) ∙ sym (map-append row_under table.rows (numbered_pairs table.next_number rows)))
  where
    the_contents : List NumberedRow → Contents
    the_contents l = record { next = table.next_number + length rows; rows = l }

rows-for : (table : PlainTable) (rows : List (List Value)) → AllByRecursion IsStorable rows → AllByRecursion (λ (row : List Value). fits table.columns row ≡ true) rows → AllByRecursion (IsRowFor table) rows
rows-for table [] storable fit = tt
rows-for table (row ∷ rows) storable fit = ((storable.0, fit.0), rows-for table rows storable.1 fit.1)

module _ (size : ℕ) (pages : Pages) (all : PlainTables) (is : IsStoreOf size pages all) (insert : InsertRecord) (snapshot : Option ℕ) (passes : checked (Insert insert) snapshot (plain all).schema ≡ Ok tt) where
  -- it is refused by its meaning
  refused : (here : Here size pages insert.table is.store.base.found.tables all.tables) (why : Refusal) → inserted insert.tuples (contents_of here.table) ≡ Err why → does (Insert insert) snapshot (plain all) ≡ Err why
  refused here why gives = does-passed (Insert insert) snapshot (plain all) passes ∙ changed_err insert.table (plain all) (λ (schema : TableSchema) (contents : Contents). inserted insert.tuples contents) (found_as here) why (found-plain size pages insert.table is.store.base.found.tables all here) gives

  -- the tuples can be stored
  rows-are : (here : Here size pages insert.table is.store.base.found.tables all.tables) → check_lengths insert.tuples ≡ Ok tt → AllByRecursion IsRow insert.tuples → AllByRecursion (IsRowFor here.table) insert.tuples
  rows-are here short lawful =
      let fit : list_all (fits here.found.columns) insert.tuples ≡ true = tuples-fit is.store.base.found insert snapshot here.found here.named (ap (λ (s : Schema). checked (Insert insert) snapshot s) (schema-same size pages all is) ∙ passes) in
      rows-for here.table insert.tuples (storable-each insert.tuples lawful (passed-each insert.tuples short))
      (subst (λ (columns : List Column). AllByRecursion (λ (row : List Value). fits columns row ≡ true) insert.tuples) (sym here.shows.columns) (each-fits here.found.columns insert.tuples fit))

  -- its work on the pages
  worked-as : (here : Here size pages insert.table is.store.base.found.tables all.tables) → here.table.next_number + length insert.tuples ≤ 2 ^ 64 - 1 → check_lengths insert.tuples ≡ Ok tt → AllByRecursion IsRow insert.tuples
      → (b : Result (Unit {0} × Pages) Refusal) → table_inserted tree.added size here.found insert.tuples pages b → IsWorked size pages all (Inserts insert.table insert.tuples) b
  worked-as here room short lawful b h =
      work_law.single size pages all (Inserts insert.table insert.tuples) b is
      (here.table, here.has, here.is_name, (rows-are here short lawful, omega (arith, room)))
      (next_step (table_in size pages insert.table) (λ (t : StoredTable). table_inserted tree.added size t insert.tuples pages) here.found (table-by-name size pages all is insert.table here) b h)

  means : (here : Here size pages insert.table is.store.base.found.tables all.tables) → here.table.next_number + length insert.tuples ≤ 2 ^ 64 - 1 → check_lengths insert.tuples ≡ Ok tt
      → does (Insert insert) snapshot (plain all) ≡ Ok (plain (where_named insert.table (with_rows insert.tuples) all), Count (length insert.tuples))
  means here room short =
      does-passed (Insert insert) snapshot (plain all) passes
      ∙ changed_ok insert.table (plain all) (λ (schema : TableSchema) (contents : Contents). inserted insert.tuples contents) (found_as here) (contents_of (with_rows insert.tuples here.table)) (length insert.tuples) (found-plain size pages insert.table is.store.base.found.tables all here)
      (inserted-passes insert.tuples (contents_of here.table) room short ∙ ap (λ (c : Contents). Ok (c, length insert.tuples)) (with-rows-same here.table insert.tuples))
      ∙ ap (λ (t : _). Ok (t, Count (length insert.tuples))) (set-plain size pages insert.table is.store.base.found.tables all here (with_rows insert.tuples) (λ t. refl))

  added-law : (here : Here size pages insert.table is.store.base.found.tables all.tables) → here.table.next_number + length insert.tuples ≤ 2 ^ 64 - 1 → check_lengths insert.tuples ≡ Ok tt → AllByRecursion IsRow insert.tuples
      → (b : Result (Reply × Pages) Refusal) → (table_inserted tree.added size here.found insert.tuples pages >>= (λ (done : Unit {0} × Pages). only (Ok (Count (length insert.tuples), done.1)))) b → IsRunOver size (Insert insert) snapshot pages (plain all) b
  added-law here room short lawful (Ok y) (done, added, e) = subst (λ (r : Result (Reply × Pages) Refusal). IsRunOver size (Insert insert) snapshot pages (plain all) r) e made
    where
      leaves : LeavesWorked size pages all (Inserts insert.table insert.tuples) done.1
      leaves = worked-as here room short lawful (Ok done) added

      made : IsDoneOver size (Insert insert) snapshot pages (plain all) (Count (length insert.tuples)) done.1
      made = record {
        behind = plain (where_named insert.table (with_rows insert.tuples) all);
        means = means here room short;
        stored = record { all = where_named insert.table (with_rows insert.tuples) all; store = leaves.store; same = refl };
        work = Some (Inserts insert.table insert.tuples);
        is_work = refl;
        edits = (leaves.needs, leaves.are_needed, leaves.takes, leaves.within);
      }
  added-law here room short lawful (Err why) (inl full) =
      let refused_so = worked-as here room short lawful (Err why) full in
      inr (refused_so.0, ap is_ok (means here room short), Some (Inserts insert.table insert.tuples), refl, refused_so.1)
  added-law here room short lawful (Err why) (inr (done, added, e)) = differ _ why e

  into-law : (here : Here size pages insert.table is.store.base.found.tables all.tables) (b : Result (Reply × Pages) Refusal) → inserted_into size insert.tuples here.found pages b → IsRunOver size (Insert insert) snapshot pages (plain all) b
  into-law here b h = room (nat_le (here.table.next_number + length insert.tuples) (2 ^ 64 - 1)) refl
    where
      behind : (only (inserted insert.tuples (record { next = here.table.next_number; rows = [] })) >>= (λ (after : Contents × ℕ). given (AllByRecursion IsRow insert.tuples) >>= (λ (u : Unit {0}). table_inserted tree.added size here.found insert.tuples pages >>= (λ (done : Unit {0} × Pages). only (Ok (Count after.1, done.1)))))) b
      behind = goes-on (next_of size pages here.found.first) (λ (next : ℕ). only (inserted insert.tuples (record { next = next; rows = [] })) >>= (λ (after : Contents × ℕ). given (AllByRecursion IsRow insert.tuples) >>= (λ (u : Unit {0}). table_inserted tree.added size here.found insert.tuples pages >>= (λ (done : Unit {0} × Pages). only (Ok (Count after.1, done.1)))))) here.table.next_number
          (λ (a : Result ℕ Refusal) (told : next_of size pages here.found.first a). answers_are_one.next_number size pages here.found.first a (Ok here.table.next_number) told here.shows.is_table.next_number) b h

      stops : (why : Refusal) → inserted insert.tuples (record { next = here.table.next_number; rows = [] }) ≡ Err why → b ≡ Err why
      stops why gives = ends-there (only (inserted insert.tuples (record { next = here.table.next_number; rows = [] }))) (λ (after : Contents × ℕ). given (AllByRecursion IsRow insert.tuples) >>= (λ (u : Unit {0}). table_inserted tree.added size here.found insert.tuples pages >>= (λ (done : Unit {0} × Pages). only (Ok (Count after.1, done.1))))) why
          (λ (a : Result (Contents × ℕ) Refusal) (e : inserted insert.tuples (record { next = here.table.next_number; rows = [] }) ≡ a). sym e ∙ gives) b behind

      out : (why : Refusal) → inserted insert.tuples (record { next = here.table.next_number; rows = [] }) ≡ Err why → inserted insert.tuples (contents_of here.table) ≡ Err why → IsRunOver size (Insert insert) snapshot pages (plain all) b
      out why gives means = subst (λ (r : Result (Reply × Pages) Refusal). IsRunOver size (Insert insert) snapshot pages (plain all) r) (sym (stops why gives)) (inl (refused here why means))

      lawfully : here.table.next_number + length insert.tuples ≤ 2 ^ 64 - 1 → check_lengths insert.tuples ≡ Ok tt → (r : Result (Reply × Pages) Refusal) → (given (AllByRecursion IsRow insert.tuples) >>= (λ (u : Unit {0}). table_inserted tree.added size here.found insert.tuples pages >>= (λ (done : Unit {0} × Pages). only (Ok (Count (length insert.tuples), done.1))))) r → IsRunOver size (Insert insert) snapshot pages (plain all) r
      lawfully fit short (Ok y) (u, lawful, added) = added-law here fit short lawful (Ok y) added
      lawfully fit short (Err why) (inl none) = absurd none
      lawfully fit short (Err why) (inr (u, lawful, added)) = added-law here fit short lawful (Err why) added

      lengths : nat_le (here.table.next_number + length insert.tuples) (2 ^ 64 - 1) ≡ true → (r : Result (Unit {0}) Refusal) → check_lengths insert.tuples ≡ r → IsRunOver size (Insert insert) snapshot pages (plain all) b
      lengths fit (Err why) long = out why (inserted-long insert.tuples (record { next = here.table.next_number; rows = [] }) why fit long) (inserted-long insert.tuples (contents_of here.table) why fit long)
      lengths fit (Ok tt) short =
          let small : here.table.next_number + length insert.tuples ≤ 2 ^ 64 - 1 = leb-true (here.table.next_number + length insert.tuples) (2 ^ 64 - 1) fit in
          lawfully small short b
          (goes-on (only (inserted insert.tuples (record { next = here.table.next_number; rows = [] }))) (λ (after : Contents × ℕ). given (AllByRecursion IsRow insert.tuples) >>= (λ (u : Unit {0}). table_inserted tree.added size here.found insert.tuples pages >>= (λ (done : Unit {0} × Pages). only (Ok (Count after.1, done.1)))))
          (record { next = here.table.next_number + length insert.tuples; rows = [] ++ numbered here.table.next_number insert.tuples }, length insert.tuples)
          (λ (a : Result (Contents × ℕ) Refusal) (e : inserted insert.tuples (record { next = here.table.next_number; rows = [] }) ≡ a). sym e ∙ inserted-passes insert.tuples (record { next = here.table.next_number; rows = [] }) small short) b behind)

      room : (fit : Bool) → nat_le (here.table.next_number + length insert.tuples) (2 ^ 64 - 1) ≡ fit → IsRunOver size (Insert insert) snapshot pages (plain all) b
      room false over = out Overflow (inserted-over insert.tuples (record { next = here.table.next_number; rows = [] }) over) (inserted-over insert.tuples (contents_of here.table) over)
      room true fit = lengths fit (check_lengths insert.tuples) refl

  pub insert-law : (b : Result (Reply × Pages) Refusal) → at_table is.store.base.found insert.table (λ (table : StoredTable). inserted_into size insert.tuples table pages) b → IsRunOver size (Insert insert) snapshot pages (plain all) b
  insert-law b h = found (by-name-here size pages all is insert.table)
    where
      found : Missing insert.table is.store.base.found.tables all.tables ⊎ Here size pages insert.table is.store.base.found.tables all.tables → IsRunOver size (Insert insert) snapshot pages (plain all) b
      found (inl none) = subst (λ (r : Result (Reply × Pages) Refusal). IsRunOver size (Insert insert) snapshot pages (plain all) r) (sym (table-missing is.store.base.found insert.table (λ (table : StoredTable). inserted_into size insert.tuples table pages) none.named b h))
          (inl (does-passed (Insert insert) snapshot (plain all) passes ∙ performed-unknown insert.table (plain all) (λ (schema : TableSchema) (contents : Contents). inserted insert.tuples contents) (missing-plain insert.table is.store.base.found.tables all none)))
      found (inr here) = into-law here b (table-there is.store.base.found insert.table here.found (λ (table : StoredTable). inserted_into size insert.tuples table pages) here.named b h)

-- tuples that were added, and for which there was no page
pub inserted-there : (size width : ℕ) (found : Catalog) (name : List ℕ) (tuples : List (List Value)) (table : StoredTable) (next : ℕ) (was now : Pages) (u : Unit {0}) → table_named name found.tables ≡ Some table → next_of size was table.first (Ok next) → next + length tuples ≤ 2 ^ 64 - 1 → check_lengths tuples ≡ Ok tt → AllByRecursion IsRow tuples → width ≡ size → table_inserted tree.added width table tuples was (Ok (u, now))
    → at_table found name (λ (t : StoredTable). inserted_into size tuples t was) (Ok (Count (length tuples), now))
inserted-there size width found name tuples table next was now u is read room short lawful same h =
    (table, ap (λ (t : Option StoredTable). known t) is, (next, read, ((record { next = next + length tuples; rows = [] ++ numbered next tuples }, length tuples), inserted-passes tuples (record { next = next; rows = [] }) room short, (tt, lawful, ((u, now), subst (λ (s : ℕ). table_inserted tree.added s table tuples was (Ok (u, now))) same h, refl)))))

pub inserted-full : (size width : ℕ) (found : Catalog) (name : List ℕ) (tuples : List (List Value)) (table : StoredTable) (next : ℕ) (was : Pages) (why : Refusal) → table_named name found.tables ≡ Some table → next_of size was table.first (Ok next) → next + length tuples ≤ 2 ^ 64 - 1 → check_lengths tuples ≡ Ok tt → AllByRecursion IsRow tuples → width ≡ size → table_inserted tree.added width table tuples was (Err why)
    → at_table found name (λ (t : StoredTable). inserted_into size tuples t was) (Err why)
inserted-full size width found name tuples table next was why is read room short lawful same h =
    inr (table, ap (λ (t : Option StoredTable). known t) is, inr (next, read, inr ((record { next = next + length tuples; rows = [] ++ numbered next tuples }, length tuples), inserted-passes tuples (record { next = next; rows = [] }) room short, inr (tt, lawful, inl (subst (λ (s : ℕ). table_inserted tree.added s table tuples was (Err why)) same h)))))
