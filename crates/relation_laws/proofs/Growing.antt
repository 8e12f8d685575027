-- The catalog with more rows.
use Rattle.std.proofs.Common.{◌≡◌, ◌≢◌, ◌∙◌, ◌+◌, ◌++◌, ℕ, Bool, true, false, cond, List, [], ◌∷◌, length, map, Option, Some, None, Ok, Err, refl, sym, ap, subst, arith, eq-eqb, append-nil, length-append}
use Rattle.std.specs.List.{AllByRecursion, AllZip, Contains, range_with_len}
use Rattle.std.proofs.lemmas.List.{map-append}
use Rattle.std.proofs.lemmas.List.Elements.{filter_map-append}
use Rattle.values.specs.declared.value.Value.{Value}
use Rattle.sql_tree.specs.declared.schema.IndexSchema.{IndexSchema}
use Rattle.sql_tree.specs.declared.statement.Column.{Column as TableColumn}
use Rattle.pager.specs.Pages.{Pages, broken}
use Rattle.heap_file.specs.declared.chain.Placed.{Placed}
use Rattle.pager.specs.Allows.{either, only}
use Rattle.heap_laws.specs.Store.{WellFormed}
use Rattle.heap_laws.specs.Table.{IsTable, Table as HeapTable}
use Rattle.heap_laws.proofs.Reading.{ok-one}
use Rattle.relation.specs.declared.catalog.Catalog.{Catalog}
use Rattle.relation.specs.declared.catalog.StoredIndex.{StoredIndex}
use Rattle.relation.specs.declared.catalog.StoredTable.{StoredTable}
use Rattle.relation.specs.declared.catalog.TheConstants.{CATALOG}
use Rattle.relation.specs.declared.catalog.CatalogEntry.{CatalogEntry}
use Rattle.relation.specs.declared.row.CatalogRow.{CatalogRow}
use Rattle.relation.specs.declared.row.CatalogRow.TheVariants.{Table, Column, Index}
use Rattle.relation.specs.declared.row.ColumnRow.{ColumnRow}
use Rattle.relation.specs.declared.row.IndexRow.{IndexRow}
use Rattle.relation.specs.declared.row.TableRow.{TableRow}
use Rattle.relation.specs.Catalog.{AreColumnsOf, as_column, as_index, as_kept, as_table, catalog_rows, catalog_told, column_at, column_rows, index_over, index_rows, index_told, kept_indexes, table_named, table_rows, table_told, row_told}
use Rattle.values.specs.Name.{same_name}
use Rattle.relation.specs.CatalogRow.{IsCatalogRow, row_values}
use Rattle.relation.specs.Each.{each}
use Rattle.relation_laws.specs.Laws.{IsNewName}
use Rattle.relation_laws.specs.Tables.{AreDifferent, SpeaksOfTable, PlainTable, PlainTables, ShowsTable, names_of, numbered, numbered_row}
use Rattle.relation_laws.proofs.CatalogRows.{are-told, length-more, tells}
use Rattle.heap_laws.proofs.Stores.{all-join}
use Rattle.relation_laws.proofs.Reaching.{all-imp}
use Rattle.relation_laws.proofs.KeyTurns.{some-is}
use Rattle.relation_laws.proofs.Eaches.{each-append, each-map, each-weaken, find-append, map-map, range-append, range-numbered}
use Rattle.relation_laws.proofs.Entries.{entries}
use Rattle.relation_laws.proofs.Lists.{all-map}
use Rattle.relation_laws.proofs.Singling.{firsts_of, shown-here}
use Rattle.relation_laws.proofs.TableStores.{HoldsStill, IsTableStoreOf}

-- a table with the indexes that more rows tell of it
abbrev pub longer : List CatalogEntry → StoredTable → StoredTable
longer more table = record table { indexes = table.indexes ++ kept_indexes table.name more }

-- a table and the columns that rows tell of it, among more rows
told-more : (rows more : List CatalogEntry) (row : ℕ × TableRow) (table : StoredTable) → column_rows row.1.name more ≡ [] → table_told rows row (Ok table) → table_told (rows ++ more) row (Ok (longer more table))
told-more rows more row table none h =
    let same : column_rows row.1.name (rows ++ more) ≡ column_rows row.1.name rows =
    filter_map-append (λ (t : CatalogEntry). as_column row.1.name t.row) rows more ∙ ap (λ (l : List ColumnRow). column_rows row.1.name rows ++ l) none ∙ append-nil (column_rows row.1.name rows) in (
      h.0,
      h.1,
      subst (λ (l : List ColumnRow). AreColumnsOf l (Some table.columns)) (sym same) h.2,
      ap (λ (l : List StoredIndex). l ++ kept_indexes table.name more) h.3 ∙ ap (λ (name : List ℕ). kept_indexes row.1.name rows ++ kept_indexes name more) h.0 ∙ sym (filter_map-append (λ (t : CatalogEntry). as_kept row.1.name t.row) rows more),
    )

-- a table is found with the indexes that more rows tell of it
pub find-longer : (more : List CatalogEntry) (name : List ℕ) (tables : List StoredTable) (table : StoredTable) → table_named name tables ≡ Some table → table_named name (map (longer more) tables) ≡ Some (longer more table)
find-longer more name [] table e = absurd cc
find-longer more name (t ∷ tables) table e = go (find-longer more name tables table) (same_name t.name name) e
  where
    go : (table_named name tables ≡ Some table → table_named name (map (longer more) tables) ≡ Some (longer more table)) → (b : Bool) → cond b (Some t) (table_named name tables) ≡ Some table → cond b (Some (longer more t)) (table_named name (map (longer more) tables)) ≡ Some (longer more table)
    go rest true h = ap (λ (x : StoredTable). Some (longer more x)) (some-is h)
    go rest false h = rest h

-- an index over a table that stays
index-more : (rows : List CatalogEntry) (tables more : List StoredTable) (row : ℕ × IndexRow) (index : IndexSchema) → index_told tables row (Ok index) → index_told (map (longer rows) tables ++ more) row (Ok index)
index-more rows tables more row index h = go (table_named row.1.table tables) refl h
  where
    go : (found : Option StoredTable) → table_named row.1.table tables ≡ found → index_over row (column_at row.1.place found) ≡ Ok index → index_over row (column_at row.1.place (table_named row.1.table (map (longer rows) tables ++ more))) ≡ Ok index
    go None e h = absurd cc
    go (Some table) e h = rw (find-append (λ (t : StoredTable). same_name t.name row.1.table) (map (longer rows) tables) more (longer rows table) (find-longer rows row.1.table tables table e)) h

-- the catalog's rows before, and more rows, which tell more tables and more indexes
pub record Grown (rows more : List CatalogEntry) (found : Catalog) (tables : List StoredTable) (indexes : List IndexSchema) : Type 0 where
  pub before : catalog_told rows (Ok found)
  pub others : (table : StoredTable) → Contains found.tables table → column_rows table.name more ≡ []
  pub newer : each (table_told (rows ++ more)) (table_rows more) (Ok tables)
  pub over : each (index_told (map (longer more) found.tables ++ tables)) (index_rows more) (Ok indexes)

abbrev pub grown_catalog : List CatalogEntry → Catalog → List StoredTable → List IndexSchema → Catalog
grown_catalog more found tables indexes = record { tables = map (longer more) found.tables ++ tables; indexes = found.indexes ++ indexes }

pub grown : (rows more : List CatalogEntry) (found : Catalog) (tables : List StoredTable) (indexes : List IndexSchema) → Grown rows more found tables indexes → catalog_told (rows ++ more) (Ok (grown_catalog more found tables indexes))
grown rows more found tables indexes is =
    subst (λ (c : Catalog). ((table : StoredTable) → Contains c.tables table → column_rows table.name more ≡ []) → each (index_told (map (longer more) c.tables ++ tables)) (index_rows more) (Ok indexes) → catalog_told (rows ++ more) (Ok (grown_catalog more c tables indexes))) (ok-one is.before.2.2) joined is.others is.over
  where
    all_tables : table_rows (rows ++ more) ≡ table_rows rows ++ table_rows more
    all_tables = filter_map-append (λ (t : CatalogEntry). as_table t.page t.row) rows more

    all_indexes : index_rows (rows ++ more) ≡ index_rows rows ++ index_rows more
    all_indexes = filter_map-append (λ (t : CatalogEntry). as_index t.page t.row) rows more

    joined : ((table : StoredTable) → Contains is.before.0 table → column_rows table.name more ≡ []) → each (index_told (map (longer more) is.before.0 ++ tables)) (index_rows more) (Ok indexes) → catalog_told (rows ++ more) (Ok (record { tables = map (longer more) is.before.0 ++ tables; indexes = is.before.2.0 ++ indexes }))
    joined others over = (
      map (longer more) is.before.0 ++ tables,
      subst (λ (l : List (ℕ × TableRow)). each (table_told (rows ++ more)) l (Ok (map (longer more) is.before.0 ++ tables))) (sym all_tables)
          (each-append (table_told (rows ++ more)) (table_rows rows) (table_rows more) (map (longer more) is.before.0) tables
          (each-map (table_told rows) (table_told (rows ++ more)) (longer more) (table_rows rows) is.before.0 (λ row table has h. told-more rows more row table (ap (λ (name : List ℕ). column_rows name more) (sym h.0) ∙ others table has) h) is.before.1)
          is.newer),
      (
        is.before.2.0 ++ indexes,
        subst (λ (l : List (ℕ × IndexRow)). each (index_told (map (longer more) is.before.0 ++ tables)) l (Ok (is.before.2.0 ++ indexes))) (sym all_indexes)
            (each-append (index_told (map (longer more) is.before.0 ++ tables)) (index_rows rows) (index_rows more) is.before.2.0 indexes
            (each-weaken (index_told is.before.0) (index_told (map (longer more) is.before.0 ++ tables)) (index_rows rows) is.before.2.0 (λ row index has h. index-more more is.before.0 tables row index h) is.before.2.1)
            over),
        refl,
      ),
    )

kept-wider : (names wider : List (List ℕ)) (row : CatalogRow) → ((name : List ℕ) → Contains names name → Contains wider name) → SpeaksOfTable names row → SpeaksOfTable wider row
kept-wider names wider (Table row) go h = h
kept-wider names wider (Column row) go h = go row.table h
kept-wider names wider (Index row) go h = go row.table h

-- names that are told apart from those of the tables shown
apart-shown : (size : ℕ) (pages : Pages) (name : List ℕ) (stored : List StoredTable) (tables : List PlainTable) → AllZip (ShowsTable size pages) stored tables → AllByRecursion (λ (table : PlainTable). table.name ≢ name) tables → AllByRecursion (λ other. other ≢ name) (names_of stored)
apart-shown size pages name [] [] shown apart = tt
apart-shown size pages name [] (t ∷ ts) shown apart = tt
apart-shown size pages name (s ∷ ss) [] shown apart = absurd shown
apart-shown size pages name (s ∷ ss) (t ∷ ts) shown apart = ((λ e. apart.0 (shown.0.name ∙ e)), apart-shown size pages name ss ts shown.1 apart.1)

-- a new name is told apart from those of the catalog
pub apart-new : (size : ℕ) (pages : Pages) (all : PlainTables) (is : IsTableStoreOf size pages all) (name : List ℕ) → IsNewName all name
    → AllByRecursion (λ other. other ≢ name) (names_of is.store.found.tables) × AllByRecursion (λ other. other ≢ name) (map (λ (index : IndexSchema). index.name) is.store.found.indexes)
apart-new size pages all is name new = (
  apart-shown size pages name is.store.found.tables all.tables (shown-here size pages all is).0 new.of_tables,
  all-map (λ other. other ≢ name) (λ (index : IndexSchema). index.name) is.store.found.indexes (subst (λ (l : List IndexSchema). AllByRecursion (λ (index : IndexSchema). index.name ≢ name) l) (shown-here size pages all is).1 new.of_indexes),
)

-- what is shown of a table that stays
pub shows-stays : (size : ℕ) (pages after : Pages) (stored : StoredTable) (table : PlainTable) → ((t : HeapTable) → IsTable size pages stored.first t → IsTable size after stored.first t) → ShowsTable size pages stored table → ShowsTable size after stored table
shows-stays size pages after stored table stays told = record {
  name = told.name;
  columns = told.columns;
  placed = told.placed;
  is_table = stays (record { next_number = table.next_number; rows = told.placed }) told.is_table;
  rows = told.rows;
  fitting = told.fitting;
}

-- A store whose catalog has more rows: the rows are there, and what all of them tell together is well-formed over the
-- pages behind, whose other pages are those held.
pub record Grows (size : ℕ) (pages : Pages) (all : PlainTables) (is : IsTableStoreOf size pages all) (rows : List CatalogRow) (held : List ℕ) (after : Pages) (behind : PlainTables) : Type 0 where
  pub more : List Placed
  pub are : map numbered_row more ≡ numbered (length is.store.placed) (map row_values rows)
  pub is_table : IsTable size after CATALOG (record { next_number = length is.store.placed + length (map row_values rows); rows = is.store.placed ++ more })
  pub lawful : AllByRecursion IsCatalogRow rows
  pub found : Catalog
  pub read : catalog_told (is.store.told ++ tells more rows) (Ok found)
  pub wider : (name : List ℕ) → Contains (names_of is.store.found.tables) name → Contains (names_of found.tables) name
  pub kept : AllByRecursion (λ (row : CatalogEntry). SpeaksOfTable (names_of found.tables) row.row) (tells more rows)
  pub well : WellFormed size after (firsts_of found) held
  pub names : AreDifferent (names_of found.tables ++ map (λ (index : IndexSchema). index.name) found.indexes)
  pub columns : AllByRecursion (λ (table : StoredTable). AreDifferent (map (λ (column : TableColumn). column.name) table.columns)) found.tables
  pub shown : AllZip (ShowsTable size after) found.tables behind.tables
  pub indexes : behind.indexes ≡ found.indexes

pub grown_store : (size : ℕ) (pages : Pages) (all : PlainTables) (is : IsTableStoreOf size pages all) (rows : List CatalogRow) (held : List ℕ) (after : Pages) (behind : PlainTables) (it : Grows size pages all is rows held after behind) → HoldsStill size after behind it.found held
grown_store size pages all is rows held after behind it = record {
  is = record {
    store = record {
      placed = is.store.placed ++ it.more;
      scan = it.is_table.rows;
      gapless = gapless;
      told = is.store.told ++ tells it.more rows;
      rows = all_rows;
      found = it.found;
      read = it.read;
      kept = kept;
      held = held;
      heap = it.well;
      names = it.names;
      columns = it.columns;
      tables = behind.tables;
      shown = it.shown;
    };
    tables = record { found = it.found; read = (is.store.told ++ tells it.more rows, all_rows, it.read); shown = it.shown; indexes = it.indexes };
  };
  found_is = refl;
  held_is = refl;
}
  where
    count : length is.store.placed + length (map row_values rows) ≡ length (is.store.placed ++ it.more)
    count = omega (arith, length-append is.store.placed it.more, length-more (length is.store.placed) it.more (map row_values rows) it.are)

    all_told : each row_told (is.store.placed ++ it.more) (Ok (is.store.told ++ tells it.more rows))
    all_told = each-append row_told is.store.placed it.more is.store.told (tells it.more rows) (entries size pages is.store).tell (are-told (length is.store.placed) it.more rows it.are it.lawful)

    all_rows : catalog_rows size after (Ok (is.store.told ++ tells it.more rows))
    all_rows = (
      is.store.placed ++ it.more,
      it.is_table.rows,
      (
        length is.store.placed + length (map row_values rows),
        it.is_table.next_number,
        subst (λ (b : Bool). either b (each row_told (is.store.placed ++ it.more)) (only (Err (broken CATALOG))) (Ok (is.store.told ++ tells it.more rows))) (sym (eq-eqb (length is.store.placed + length (map row_values rows)) (length (is.store.placed ++ it.more)) count)) all_told,
      ),
    )

    gapless : map (λ (row : Placed). row.number) (is.store.placed ++ it.more) ≡ range_with_len 0 (length (is.store.placed ++ it.more))
    gapless =
        let fresh : map (λ (row : Placed). row.number) it.more ≡ range_with_len (length is.store.placed) (length (map row_values rows)) =
        sym (map-map numbered_row (λ (row : ℕ × List Value). row.0) it.more) ∙ ap (map (λ (row : ℕ × List Value). row.0)) it.are ∙ range-numbered (length is.store.placed) (map row_values rows) in
        let low : length is.store.placed ≡ 0 + length is.store.placed = omega arith in
        map-append (λ (row : Placed). row.number) is.store.placed it.more
        ∙ ap (λ (l : List ℕ). l ++ map (λ (row : Placed). row.number) it.more) is.store.gapless
        ∙ ap (λ (l : List ℕ). range_with_len 0 (length is.store.placed) ++ l) (fresh ∙ ap (λ (n : ℕ). range_with_len n (length (map row_values rows))) low)
        ∙ sym (range-append 0 (length is.store.placed) (length (map row_values rows)))
        ∙ ap (range_with_len 0) count

    kept : AllByRecursion (λ (row : CatalogEntry). SpeaksOfTable (names_of it.found.tables) row.row) (is.store.told ++ tells it.more rows)
    kept =
        all-join (λ (row : CatalogEntry). SpeaksOfTable (names_of it.found.tables) row.row) is.store.told (tells it.more rows)
        (all-imp (λ (row : CatalogEntry). SpeaksOfTable (names_of is.store.found.tables) row.row) (λ (row : CatalogEntry). SpeaksOfTable (names_of it.found.tables) row.row) is.store.told
        (λ row h. kept-wider (names_of is.store.found.tables) (names_of it.found.tables) row.row it.wider h) is.store.kept)
        it.kept
