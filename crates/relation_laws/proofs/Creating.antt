-- A table that is made.
use Rattle.std.proofs.Common.{◌≡◌, ◌≢◌, ◌∙◌, ◌<◌, ◌+◌, ◌++◌, ◌^◌, ℕ, List, [], ◌∷◌, length, map, Some, Ok, refl, sym, ap, subst, arith, append-nil}
use Rattle.std.specs.List.{AllByRecursion, AllZip, Contains}
use Rattle.std.proofs.lemmas.List.{map-append}
use Rattle.std.proofs.lemmas.List.Elements.{filter_map-append}
use Rattle.values.specs.declared.value.Value.{Value}
use Rattle.values.specs.Name.{IsName}
use Rattle.sql_tree.specs.declared.schema.IndexSchema.{IndexSchema}
use Rattle.sql_tree.specs.declared.statement.Column.{Column as TableColumn}
use Rattle.pager.specs.Pages.{Pages}
use Rattle.heap_file.specs.declared.chain.Placed.{Placed}
use Rattle.heap_laws.specs.Store.{WellFormed}
use Rattle.heap_laws.specs.Table.{IsStorable, IsTable, MakesTable, Table as HeapTable}
use Rattle.heap_laws.proofs.Counts.{keyed-same}
use Rattle.heap_laws.proofs.Reading.{reads}
use Rattle.heap_laws.proofs.Routes.{times-append, times-here}
use Rattle.heap_laws.proofs.Stores.{all-join}
use Rattle.relation.specs.declared.catalog.Catalog.{Catalog}
use Rattle.relation.specs.declared.catalog.StoredIndex.{StoredIndex}
use Rattle.relation.specs.declared.catalog.StoredTable.{StoredTable}
use Rattle.relation.specs.declared.catalog.TheConstants.{CATALOG}
use Rattle.relation.specs.declared.catalog.CatalogEntry.{CatalogEntry}
use Rattle.relation.specs.declared.row.ColumnRow.{ColumnRow}
use Rattle.relation.specs.declared.row.IndexRow.{IndexRow}
use Rattle.relation.specs.declared.row.TableRow.{TableRow}
use Rattle.relation.specs.Catalog.{AreColumnsOf, as_column, as_kept, catalog_told, column_rows, index_told, kept_indexes, table_rows, table_told}
use Rattle.relation.specs.CatalogRow.{row_values}
use Rattle.relation.specs.Each.{each}
use Rattle.relation.specs.Work.{rows_of_table}
use Rattle.relation_laws.specs.Laws.{AreTableColumns, IsNewName, empty_table, with_new}
use Rattle.relation_laws.specs.Tables.{AreDifferent, IsTableStore, PlainTables, ShowsTable, names_of, numbered, numbered_row}
use Rattle.relation_laws.proofs.CatalogRows.{are-columns, columns_from, kept-columns, length-more, length-rows, no-indexes, no-kept, no-tables, other-columns, own-columns, rows-lawful, rows-storable, strangers, tells}
use Rattle.relation_laws.proofs.Entries.{entries, few-rows}
use Rattle.relation_laws.proofs.Growing.{apart-new, grown, grown_store, longer, shows-stays}
use Rattle.relation_laws.proofs.Inserting.{Extends}
use Rattle.relation_laws.proofs.Lists.{all-at, contains-last, contains-left, contains-map, different-insert, zip-join, zip-weaken}
use Rattle.relation_laws.proofs.Names.{firsts-once, first_of, first-apart}
use Rattle.relation_laws.proofs.Singling.{firsts_of, has-catalog, has-first, shown-here}
use Rattle.relation_laws.proofs.TableStores.{HoldsStill, IsTableStoreOf}

-- a store with one more table
pub record Creates (size : ℕ) (pages : Pages) (all : PlainTables) (is : IsTableStoreOf size pages all) (name : List ℕ) (columns : List TableColumn) (first : ℕ) (base : Pages) (more : List Placed) (after : Pages) : Type 0 where
  pub new_name : IsNewName all name
  pub are : AreTableColumns columns
  pub makes : MakesTable size pages (firsts_of is.store.found) is.store.held first base
  pub extends : Extends size base (firsts_of is.store.found ++ first ∷ []) is.store.held CATALOG (record { next_number = length is.store.placed; rows = is.store.placed }) (map row_values (rows_of_table name first columns)) more after
  pub small : first < 2 ^ 32

-- a new table, the tables with it, its rows in the catalog, and what they tell where they stand
abbrev pub stored_as : List ℕ → ℕ → List TableColumn → StoredTable
stored_as name first columns = record { name = name; first = first; columns = columns; indexes = [] }

abbrev pub more_tables : Catalog → StoredTable → List StoredTable
more_tables found stored = found.tables ++ stored ∷ []

abbrev rows_made : List ℕ → ℕ → List TableColumn → List (List Value)
rows_made name first columns = map row_values (rows_of_table name first columns)

abbrev told_made : Placed → List Placed → List ℕ → ℕ → List TableColumn → List CatalogEntry
told_made placed more name first columns = tells (placed ∷ more) (rows_of_table name first columns)

-- the catalog with it
abbrev pub found_with : Catalog → StoredTable → Catalog
found_with found stored = record { tables = more_tables found stored; indexes = found.indexes }

-- more rows that tell no index leave the tables as they are
longer-none : (more : List CatalogEntry) (tables : List StoredTable) → ((name : List ℕ) → kept_indexes name more ≡ []) → map (longer more) tables ≡ tables
longer-none more [] none = refl
longer-none more (t ∷ tables) none = both (λ i. record { name = t.name; first = t.first; columns = t.columns; indexes = same i }) (longer-none more tables none)
  where
    same : t.indexes ++ kept_indexes t.name more ≡ t.indexes
    same = ap (λ (l : List StoredIndex). t.indexes ++ l) (none t.name) ∙ append-nil t.indexes

    both : {x y : StoredTable} {xs ys : List StoredTable} → x ≡ y → xs ≡ ys → x ∷ xs ≡ y ∷ ys
    both e f = λ i. e i ∷ f i

pub created_store : (size : ℕ) (pages : Pages) (all : PlainTables) (is : IsTableStoreOf size pages all) (name : List ℕ) (columns : List TableColumn) (first : ℕ) (base : Pages) (more : List Placed) (after : Pages) → Creates size pages all is name columns first base more after
    → HoldsStill size after (with_new (empty_table name columns) all) (found_with is.store.found (stored_as name first columns)) is.store.held
created_store size pages all is name columns first base more after it = holds more it.extends.are it.extends.is_table
  where
    names_are : names_of (more_tables is.store.found (stored_as name first columns)) ≡ (names_of is.store.found.tables) ++ name ∷ []
    names_are = map-append (λ (t : StoredTable). t.name) is.store.found.tables ((stored_as name first columns) ∷ [])

    apart : AllByRecursion (λ other. other ≢ name) (names_of is.store.found.tables)
    apart = (apart-new size pages all is name it.new_name).0

    not_catalog : first ≢ CATALOG
    not_catalog e = omega (arith, firsts-once size base (firsts_of is.store.found ++ first ∷ []) is.store.held it.makes.well CATALOG, times-append CATALOG (firsts_of is.store.found) (first ∷ []), times-here CATALOG (map first_of is.store.found.tables), keyed-same (λ (m : ℕ). m) CATALOG first [] e)

    shown : AllZip (ShowsTable size after) (more_tables is.store.found (stored_as name first columns)) (all.tables ++ empty_table name columns ∷ [])
    shown =
        zip-join (ShowsTable size after) is.store.found.tables ((stored_as name first columns) ∷ []) all.tables (empty_table name columns ∷ [])
        (zip-weaken (ShowsTable size pages) (ShowsTable size after) is.store.found.tables all.tables (λ s t has told. shows-stays size pages after s t (older s has) told) (shown-here size pages all is).0)
        (newer, tt)
      where
        older : (s : StoredTable) → Contains is.store.found.tables s → (t : HeapTable) → IsTable size pages s.first t → IsTable size after s.first t
        older s has t told =
            it.extends.others s.first (contains-left (firsts_of is.store.found) (first ∷ []) s.first (has-first is.store.found s has)) (λ e. first-apart size pages is.store.found.tables is.store.held s is.store.heap has (sym e)) t
            (it.makes.others s.first (has-first is.store.found s has) t told)

        newer : ShowsTable size after (stored_as name first columns) (empty_table name columns)
        newer = record {
          name = refl;
          columns = refl;
          placed = [];
          is_table = it.extends.others first (contains-last (firsts_of is.store.found) first) not_catalog (record { next_number = 0; rows = [] }) it.makes.shows;
          rows = refl;
          fitting = tt;
        }

    widen : (other : List ℕ) → Contains (names_of is.store.found.tables) other → Contains (names_of (more_tables is.store.found (stored_as name first columns))) other
    widen other has = subst (λ (l : List (List ℕ)). Contains l other) (sym names_are) (contains-left (names_of is.store.found.tables) (name ∷ []) other has)

    holds : (more : List Placed) → map numbered_row more ≡ numbered (length is.store.placed) (rows_made name first columns)
        → IsTable size after CATALOG (record { next_number = length is.store.placed + length (rows_made name first columns); rows = is.store.placed ++ more }) → HoldsStill size after (with_new (empty_table name columns) all) (found_with is.store.found (stored_as name first columns)) is.store.held
    holds [] are table = absurd cc
    holds (p ∷ ps) are table = grown_store size pages all is (rows_of_table name first columns) is.store.held after (with_new (empty_table name columns) all) (record {
      more = p ∷ ps;
      are = are;
      is_table = table;
      lawful = rows-lawful name first columns it.new_name.is_name it.small it.are;
      found = record { tables = more_tables is.store.found (stored_as name first columns); indexes = is.store.found.indexes };
      read = read;
      wider = widen;
      kept = (tt, kept-columns (names_of (more_tables is.store.found (stored_as name first columns))) ps name 0 columns (contains-map (λ (t : StoredTable). t.name) (more_tables is.store.found (stored_as name first columns)) (stored_as name first columns) (contains-last is.store.found.tables (stored_as name first columns))));
      well = subst (λ (l : List ℕ). WellFormed size after l is.store.held) (sym firsts_are) it.extends.well;
      names = subst (λ (l : List (List ℕ)). AreDifferent (l ++ map (λ (index : IndexSchema). index.name) is.store.found.indexes)) (sym names_are) (different-insert (names_of is.store.found.tables) (map (λ (index : IndexSchema). index.name) is.store.found.indexes) name is.store.names apart (apart-new size pages all is name it.new_name).1);
      columns = all-join (λ (t : StoredTable). AreDifferent (map (λ (column : TableColumn). column.name) t.columns)) is.store.found.tables ((stored_as name first columns) ∷ []) is.store.columns (it.are.differ, tt);
      shown = shown;
      indexes = (shown-here size pages all is).1;
    })
      where
        long : length ps ≡ length columns
        long = omega (arith, length-more (length is.store.placed) (p ∷ ps) (rows_made name first columns) are, length-rows name 0 columns)

        firsts_are : CATALOG ∷ map first_of (more_tables is.store.found (stored_as name first columns)) ≡ firsts_of is.store.found ++ first ∷ []
        firsts_are = ap (λ (l : List ℕ). CATALOG ∷ l) (map-append first_of is.store.found.tables ((stored_as name first columns) ∷ []))

        row_there : table_rows (told_made p ps name first columns) ≡ (p.page, record { name = name; first = first }) ∷ []
        row_there = ap (λ (l : List (ℕ × TableRow)). (p.page, record { name = name; first = first }) ∷ l) (no-tables ps name 0 columns)

        columns_there : column_rows name (is.store.told ++ told_made p ps name first columns) ≡ columns_from name 0 columns
        columns_there =
            filter_map-append (λ (t : CatalogEntry). as_column name t.row) is.store.told (told_made p ps name first columns)
            ∙ ap (λ (l : List ColumnRow). l ++ column_rows name (told_made p ps name first columns)) (strangers (names_of is.store.found.tables) name is.store.told apart is.store.kept).0
            ∙ own-columns ps name 0 columns long

        indexes_there : kept_indexes name (is.store.told ++ told_made p ps name first columns) ≡ []
        indexes_there =
            filter_map-append (λ (t : CatalogEntry). as_kept name t.row) is.store.told (told_made p ps name first columns)
            ∙ ap (λ (l : List StoredIndex). l ++ kept_indexes name (told_made p ps name first columns)) (strangers (names_of is.store.found.tables) name is.store.told apart is.store.kept).1
            ∙ no-kept ps name name 0 columns

        told_there : table_told (is.store.told ++ told_made p ps name first columns) (p.page, record { name = name; first = first }) (Ok (stored_as name first columns))
        told_there = (refl, refl, subst (λ (l : List ColumnRow). AreColumnsOf l (Some columns)) (sym columns_there) (are-columns name columns it.are), sym indexes_there)

        olds : map (longer (told_made p ps name first columns)) is.store.found.tables ≡ is.store.found.tables
        olds = longer-none (told_made p ps name first columns) is.store.found.tables (λ other. no-kept ps other name 0 columns)

        read : catalog_told (is.store.told ++ told_made p ps name first columns) (Ok (record { tables = more_tables is.store.found (stored_as name first columns); indexes = is.store.found.indexes }))
        read = subst (λ (l : List IndexSchema). catalog_told (is.store.told ++ told_made p ps name first columns) (Ok (record { tables = more_tables is.store.found (stored_as name first columns); indexes = l }))) (append-nil is.store.found.indexes)
            (subst (λ (l : List StoredTable). catalog_told (is.store.told ++ told_made p ps name first columns) (Ok (record { tables = l ++ stored_as name first columns ∷ []; indexes = is.store.found.indexes ++ [] }))) olds
            (grown is.store.told (told_made p ps name first columns) is.store.found (stored_as name first columns ∷ []) [] (record {
              before = is.store.read;
              others = λ table has. other-columns ps name table.name 0 columns (λ e. all-at (λ other. other ≢ name) (names_of is.store.found.tables) table.name apart (contains-map (λ (t : StoredTable). t.name) is.store.found.tables table has) (sym e));
              newer = subst (λ (l : List (ℕ × TableRow)). each (table_told (is.store.told ++ told_made p ps name first columns)) l (Ok (stored_as name first columns ∷ []))) (sym row_there) (stored_as name first columns, told_there, ([], refl, refl));
              over = subst (λ (l : List (ℕ × IndexRow)). each (index_told (map (longer (told_made p ps name first columns)) is.store.found.tables ++ stored_as name first columns ∷ [])) l (Ok [])) (sym (no-indexes ps name 0 columns)) refl;
            })))

-- the catalog is ready for a new table's rows
pub record Ready (size : ℕ) (pages : Pages) (store : IsTableStore size pages) (name : List ℕ) (columns : List TableColumn) (first : ℕ) (base : Pages) : Type 0 where
  pub is_table : IsTable size base CATALOG (record { next_number = length store.placed; rows = store.placed })
  pub storable : AllByRecursion IsStorable (map row_values (rows_of_table name first columns))
  pub room : length store.placed + length (map row_values (rows_of_table name first columns)) < 2 ^ 64
  pub small : first < 2 ^ 32

pub ready : (size : ℕ) (pages : Pages) (store : IsTableStore size pages) (name : List ℕ) (columns : List TableColumn) (first : ℕ) (base : Pages) → IsName name → AreTableColumns columns → MakesTable size pages (firsts_of store.found) store.held first base → Ready size pages store name columns first base
ready size pages store name columns first base is_name are makes =
    let there = reads size base (firsts_of store.found ++ first ∷ []) store.held first makes.well (contains-last (firsts_of store.found) first) in
    let small : first < 2 ^ 32 = omega (arith, there.head_at.there, makes.well.small) in
    record {
      is_table = makes.others CATALOG (has-catalog store.found) (record { next_number = length store.placed; rows = store.placed }) (entries size pages store).is_table;
      storable = rows-storable name first columns is_name small are;
      room = omega (arith, few-rows size pages (firsts_of store.found) store.held CATALOG (record { next_number = length store.placed; rows = store.placed }) store.heap (has-catalog store.found) (entries size pages store).is_table, length-rows name 0 columns, are.few);
      small = small;
    }
