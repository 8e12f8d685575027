-- An index in the catalog.
use Rattle.std.proofs.Common.{◌≡◌, ◌≢◌, ◌∙◌, ◌<◌, ◌≤◌, ◌+◌, ◌++◌, ◌^◌, cond, ℕ, suc, Bool, true, false, List, [], ◌∷◌, length, map, Some, Ok, refl, sym, ap, subst, arith, append-nil, append_assoc}
use Rattle.std.specs.List.{AllByRecursion, AllZip, Contains, cons_option, position_from}
use Rattle.std.specs.Prelude.{slice_get}
use Rattle.std.proofs.lemmas.Iterator.Adapters.{position_from-zero}
use Rattle.std.proofs.lemmas.List.{map-append}
use Rattle.values.specs.Name.{IsName, same_name}
use Rattle.sql_tree.specs.Scope.{column_place}
use Rattle.sql_tree.specs.declared.schema.IndexSchema.{IndexSchema}
use Rattle.sql_tree.specs.declared.statement.Column.{Column as TableColumn}
use Rattle.pager.specs.Pages.{Pages}
use Rattle.heap_file.specs.declared.chain.Placed.{Placed}
use Rattle.heap_laws.specs.Store.{WellFormed}
use Rattle.heap_laws.specs.Table.{AllStay, IsStorable, IsTable, Table as HeapTable}
use Rattle.heap_laws.proofs.Reading.{ok-one}
use Rattle.heap_laws.proofs.Stores.{all-join}
use Rattle.relation.specs.declared.catalog.Catalog.{Catalog}
use Rattle.relation.specs.declared.catalog.StoredTable.{StoredTable}
use Rattle.relation.specs.declared.catalog.TheConstants.{CATALOG}
use Rattle.relation.specs.declared.catalog.CatalogEntry.{CatalogEntry}
use Rattle.relation.specs.declared.row.CatalogRow.{CatalogRow}
use Rattle.relation.specs.declared.row.CatalogRow.TheVariants.{Table, Column, Index}
use Rattle.relation.specs.declared.row.IndexForm.TheVariants.{Tree}
use Rattle.relation.specs.Catalog.{as_table, catalog_told, index_told, table_named, table_rows, table_told, row_told}
use Rattle.relation.specs.CatalogRow.{IsCatalogRow, row_values}
use Rattle.relation.specs.Each.{each}
use Rattle.relation.specs.Work.{row_of_index}
use Rattle.relation.proofs.Told.{few-told}
use Rattle.relation_laws.specs.Laws.{HasColumn, IsNewName, with_index}
use Rattle.relation_laws.specs.Tables.{AreDifferent, PlainTable, PlainTables, ShowsTable, names_of, numbered, numbered_row}
use Rattle.relation_laws.proofs.CatalogRows.{index-storable, tells}
use Rattle.relation_laws.proofs.Eaches.{map-map}
use Rattle.relation_laws.proofs.Entries.{entries, few-rows}
use Rattle.relation_laws.proofs.Growing.{apart-new, find-longer, grown, grown_store, longer, shows-stays}
use Rattle.relation_laws.proofs.Inserting.{Extends}
use Rattle.relation_laws.proofs.Lists.{all-at, all-map, contains-cases, contains-map, different-push, different-split, zip-weaken}
use Rattle.relation_laws.proofs.Names.{first-apart, first_of, name-is, name-same, named-there}
use Rattle.relation_laws.proofs.Singling.{Single, firsts_of, has-catalog, has-first, shown-here}
use Rattle.relation_laws.proofs.TableStores.{HoldsStill, IsTableStoreOf}

-- a column of a table, by its name
pub record ColumnAt (column : List ℕ) (columns : List TableColumn) : Type 0 where
  pub place : ℕ
  pub within : place < length columns
  pub placed : (i : ℕ) → position_from (λ (c : TableColumn). same_name c.name column) i columns ≡ Some (i + place)
  pub found : TableColumn
  pub there : slice_get columns place ≡ Some found
  pub named : found.name ≡ column

pub column-at : (column : List ℕ) (columns : List TableColumn) → Contains (map (λ (c : TableColumn). c.name) columns) column → ColumnAt column columns
column-at column [] has = absurd (omega (arith, has.1))
column-at column (c ∷ columns) has = go (λ there. column-at column columns there) (same_name c.name column) refl
  where
    clash : false ≡ true → ⊥
    clash e = absurd cc

    go : (Contains (map (λ (c : TableColumn). c.name) columns) column → ColumnAt column columns) → (b : Bool) → same_name c.name column ≡ b → ColumnAt column (c ∷ columns)
    go rest true e = record {
      place = 0;
      within = omega arith;
      placed = λ i. ap (λ (b : Bool). cond b (Some i) (position_from (λ (c : TableColumn). same_name c.name column) (i + 1) columns)) e ∙ ap (λ (k : ℕ). Some k) (let same : i ≡ i + 0 = omega arith in same);
      found = c;
      there = refl;
      named = name-is c.name column e;
    }
    go rest false e =
        let one = rest (contains-cases c.name column (map (λ (c : TableColumn). c.name) columns) has (λ same. absurd (clash (sym e ∙ name-same c.name column same))) (λ there. there)) in
        record {
          place = suc one.place;
          within = omega (arith, one.within);
          placed = λ i. ap (λ (b : Bool). cond b (Some i) (position_from (λ (c : TableColumn). same_name c.name column) (i + 1) columns)) e ∙ one.placed (i + 1) ∙ ap (λ (k : ℕ). Some k) (let same : i + 1 + one.place ≡ i + suc one.place = omega arith in same);
          found = one.found;
          there = one.there;
          named = one.named;
        }

pub place-found : (column : List ℕ) (columns : List TableColumn) (at_column : ColumnAt column columns) → column_place column columns ≡ Some at_column.place
place-found column columns at_column =
    position_from-zero (λ (c : TableColumn). same_name c.name column) columns ∙ at_column.placed 0 ∙ ap (λ (k : ℕ). Some k) (let same : 0 + at_column.place ≡ at_column.place = omega arith in same)

-- what the catalog's rows tell is lawful
lawful-told : (placed : List Placed) (rows : List CatalogEntry) → each row_told placed (Ok rows) → AllByRecursion (λ (row : CatalogEntry). IsCatalogRow row.row) rows
lawful-told [] rows h = let same : [] ≡ rows = cc h in subst (λ (l : List CatalogEntry). AllByRecursion (λ (row : CatalogEntry). IsCatalogRow row.row) l) same tt
lawful-told (p ∷ placed) rows h =
    let same : h.0 ∷ h.2.0 ≡ rows = cc h.2.2 in
    subst (λ (l : List CatalogEntry). AllByRecursion (λ (row : CatalogEntry). IsCatalogRow row.row) l) same (h.1.1.0, lawful-told placed h.2.0 h.2.1)

-- the names of the tables that rows tell are names
names-told : (all rows : List CatalogEntry) (tables : List StoredTable) → AllByRecursion (λ (row : CatalogEntry). IsCatalogRow row.row) rows → each (table_told all) (table_rows rows) (Ok tables) → AllByRecursion (λ (table : StoredTable). IsName table.name) tables
names-told all [] tables lawful h = let same : [] ≡ tables = cc h in subst (λ (l : List StoredTable). AllByRecursion (λ (table : StoredTable). IsName table.name) l) same tt
names-told all (row ∷ rows) tables lawful h = go row.row lawful.0 (λ some told. names-told all rows some lawful.1 told) h
  where
    go : (r : CatalogRow) → IsCatalogRow r → ((some : List StoredTable) → each (table_told all) (table_rows rows) (Ok some) → AllByRecursion (λ (table : StoredTable). IsName table.name) some) → each (table_told all) (cons_option (as_table row.page r) (table_rows rows)) (Ok tables) → AllByRecursion (λ (table : StoredTable). IsName table.name) tables
    go (Table t) is rest h =
        let same : h.0 ∷ h.2.0 ≡ tables = cc h.2.2 in
        subst (λ (l : List StoredTable). AllByRecursion (λ (table : StoredTable). IsName table.name) l) same (subst IsName (sym h.1.0) is.0, rest h.2.0 h.2.1)
    go (Column c) is rest h = rest tables h
    go (Index i) is rest h = rest tables h

-- the catalog is ready for an index's row: the table's name is one, and has the column at a place
pub record IndexReady (size : ℕ) (pages : Pages) (all : PlainTables) (is : IsTableStoreOf size pages all) (stored : StoredTable) (name column : List ℕ) : Type 0 where
  pub named : IsName stored.name
  pub at_column : ColumnAt column stored.columns
  pub small : at_column.place < 2 ^ 32
  pub is_table : IsTable size pages CATALOG (record { next_number = length is.store.placed; rows = is.store.placed })
  pub storable : (root : ℕ) → root < 2 ^ 32 → AllByRecursion IsStorable (row_values (row_of_index name stored.name at_column.place root) ∷ [])
  pub room : length is.store.placed + 1 < 2 ^ 64

pub index-ready : (size : ℕ) (pages : Pages) (all : PlainTables) (table : PlainTable) (is : IsTableStoreOf size pages all) (one : Single size pages all table is) (name column : List ℕ) → IsName name → HasColumn column table → IndexReady size pages all is one.stored name column
index-ready size pages all table is one name column is_name there =
    let same : is.store.read.0 ≡ is.store.found.tables = ap (λ (c : Catalog). c.tables) (ok-one is.store.read.2.2) in
    let has : Contains is.store.read.0 one.stored = subst (λ (l : List StoredTable). Contains l one.stored) (sym same) one.has in
    let lawful = lawful-told is.store.placed is.store.told (entries size pages is.store).tell in
    let named : IsName one.stored.name = all-at (λ (t : StoredTable). IsName t.name) is.store.read.0 one.stored (names-told is.store.told is.store.told is.store.read.0 lawful is.store.read.1) has in
    let few = all-at (λ (t : StoredTable). (1 ≤ length t.columns) × (length t.columns ≤ 16)) is.store.read.0 one.stored (few-told is.store.told (table_rows is.store.told) is.store.read.0 is.store.read.1) has in
    let at_column = column-at column one.stored.columns (subst (λ (columns : List TableColumn). Contains (map (λ (c : TableColumn). c.name) columns) column) one.shows.columns there) in
    let small : at_column.place < 2 ^ 32 = omega (arith, at_column.within, few.1) in
    let is_table = (entries size pages is.store).is_table in
    record {
      named = named;
      at_column = at_column;
      small = small;
      is_table = is_table;
      storable = λ root low. (index-storable name one.stored.name at_column.place root is_name named small low, tt);
      room = omega (arith, few-rows size pages (firsts_of is.store.found) is.store.held CATALOG (record { next_number = length is.store.placed; rows = is.store.placed }) is.store.heap (has-catalog is.store.found) is_table);
    }

-- a row of the catalog, wherever it stands
abbrev pub entry_row : CatalogRow → List CatalogEntry
entry_row row = record { page = 0; row = row } ∷ []

-- the catalog with one more index
abbrev pub found_indexed : Catalog → CatalogRow → IndexSchema → Catalog
found_indexed found row index = record { tables = map (longer (entry_row row)) found.tables; indexes = found.indexes ++ index ∷ [] }

-- the tables with more indexes have their names and first pages
names-longer : (more : List CatalogEntry) (tables : List StoredTable) → names_of (map (longer more) tables) ≡ names_of tables
names-longer more tables = map-map (longer more) (λ (t : StoredTable). t.name) tables

pub firsts-longer : (more : List CatalogEntry) (tables : List StoredTable) → map first_of (map (longer more) tables) ≡ map first_of tables
firsts-longer more tables = map-map (longer more) first_of tables

-- what is shown of tables with more indexes
shown-longer : (size : ℕ) (pages : Pages) (more : List CatalogEntry) (stored : List StoredTable) (tables : List PlainTable) → AllZip (ShowsTable size pages) stored tables → AllZip (ShowsTable size pages) (map (longer more) stored) tables
shown-longer size pages more [] [] all = tt
shown-longer size pages more [] (t ∷ tables) all = absurd all
shown-longer size pages more (s ∷ stored) [] all = absurd all
shown-longer size pages more (s ∷ stored) (t ∷ tables) all = (record { name = all.0.name; columns = all.0.columns; placed = all.0.placed; is_table = all.0.is_table; rows = all.0.rows; fitting = all.0.fitting }, shown-longer size pages more stored tables all.1)

-- an index's row stands in the catalog, on pages that tables were left alone on
pub record RowStands (size : ℕ) (pages mid : Pages) (is_found : Catalog) (placed : List Placed) (row : CatalogRow) (held : List ℕ) (more : List Placed) (after : Pages) : Type 0 where
  pub stay : AllStay size pages mid (firsts_of is_found)
  pub extends : Extends size mid (firsts_of is_found) held CATALOG (record { next_number = length placed; rows = placed }) (row_values row ∷ []) more after

-- a store with one more index
pub index-store : (size : ℕ) (pages mid after : Pages) (all : PlainTables) (table : PlainTable) (is : IsTableStoreOf size pages all) (one : Single size pages all table is) (name column : List ℕ) (root : ℕ) (held : List ℕ) (more : List Placed) → IsNewName all name → (ready : IndexReady size pages all is one.stored name column) → root < 2 ^ 32
    → RowStands size pages mid is.store.found is.store.placed (row_of_index name one.stored.name ready.at_column.place root) held more after
    → HoldsStill size after (with_index (record { name = name; table = table.name; column = column }) all) (found_indexed is.store.found (row_of_index name one.stored.name ready.at_column.place root) (record { name = name; table = table.name; column = column })) held
index-store size pages mid after all table is one name column root held more new ready low stands = holds more stands.extends.are stands.extends.is_table
  where
    row : CatalogRow
    row = row_of_index name one.stored.name ready.at_column.place root

    index : IndexSchema
    index = record { name = name; table = table.name; column = column }

    longers : List StoredTable
    longers = map (longer (entry_row (row_of_index name one.stored.name ready.at_column.place root))) is.store.found.tables

    apart : AllByRecursion (λ other. other ≢ name) (names_of is.store.found.tables ++ map (λ (i : IndexSchema). i.name) is.store.found.indexes)
    apart =
        let both = apart-new size pages all is name new in
        all-join (λ other. other ≢ name) (names_of is.store.found.tables) (map (λ (i : IndexSchema). i.name) is.store.found.indexes) both.0 both.1

    stays : (s : StoredTable) → Contains is.store.found.tables s → (t : HeapTable) → IsTable size pages s.first t → IsTable size after s.first t
    stays s has t told = stands.extends.others s.first (has-first is.store.found s has) (λ e. first-apart size pages is.store.found.tables is.store.held s is.store.heap has (sym e)) t (stands.stay s.first (has-first is.store.found s has) t told)

    over : (page : ℕ) → index_told longers (page, record { name = name; table = one.stored.name; place = ready.at_column.place; form = Tree; root = root }) (Ok index)
    over page =
        let table_there : table_named one.stored.name is.store.found.tables ≡ Some one.stored = named-there is.store.found.tables one.stored (different-split (names_of is.store.found.tables) _ is.store.names) one.has in
        let longer_there = find-longer (entry_row row) one.stored.name is.store.found.tables one.stored table_there in
        let same : record { name = name; table = one.stored.name; column = ready.at_column.found.name } ≡ index = (let t = one.shows.name in let c = ready.at_column.named in cc (t, c)) in
        rw (longer_there, ready.at_column.there) (ap (λ (i : IndexSchema). Ok i) same)

    holds : (more : List Placed) → map numbered_row more ≡ numbered (length is.store.placed) (row_values row ∷ [])
        → IsTable size after CATALOG (record { next_number = length is.store.placed + 1; rows = is.store.placed ++ more }) → HoldsStill size after (with_index index all) (found_indexed is.store.found row index) held
    holds [] are told_there = absurd cc
    holds (p ∷ q ∷ ps) are told_there = absurd cc
    holds (p ∷ []) are told_there = grown_store size pages all is (row ∷ []) held after (with_index index all) (record {
      more = p ∷ [];
      are = are;
      is_table = told_there;
      lawful = ((new.is_name, ready.named, ready.small, low), tt);
      found = found_indexed is.store.found row index;
      read = read;
      wider = λ other has. subst (λ (l : List (List ℕ)). Contains l other) (sym (names-longer (entry_row row) is.store.found.tables)) has;
      kept = (subst (λ (l : List (List ℕ)). Contains l one.stored.name) (sym (names-longer (entry_row row) is.store.found.tables)) (contains-map (λ (t : StoredTable). t.name) is.store.found.tables one.stored one.has), tt);
      well = subst (λ (l : List ℕ). WellFormed size after (CATALOG ∷ l) held) (sym (firsts-longer (entry_row row) is.store.found.tables)) stands.extends.well;
      names = subst (λ (l : List (List ℕ)). AreDifferent (l ++ map (λ (i : IndexSchema). i.name) (is.store.found.indexes ++ index ∷ []))) (sym (names-longer (entry_row row) is.store.found.tables))
          (subst AreDifferent (append_assoc (names_of is.store.found.tables) _ _ ∙ ap (λ (l : List (List ℕ)). names_of is.store.found.tables ++ l) (sym (map-append (λ (i : IndexSchema). i.name) is.store.found.indexes (index ∷ []))))
          (different-push (names_of is.store.found.tables ++ map (λ (i : IndexSchema). i.name) is.store.found.indexes) name is.store.names apart));
      columns = all-map (λ (t : StoredTable). AreDifferent (map (λ (column : TableColumn). column.name) t.columns)) (longer (entry_row row)) is.store.found.tables is.store.columns;
      shown = shown-longer size after (entry_row row) is.store.found.tables all.tables (zip-weaken (ShowsTable size pages) (ShowsTable size after) is.store.found.tables all.tables (λ s t has shows. shows-stays size pages after s t (stays s has) shows) (shown-here size pages all is).0);
      indexes = ap (λ (l : List IndexSchema). l ++ index ∷ []) (shown-here size pages all is).1;
    })
      where
        read : catalog_told (is.store.told ++ tells (p ∷ []) (row ∷ [])) (Ok (record { tables = longers; indexes = is.store.found.indexes ++ index ∷ [] }))
        read = subst (λ (l : List StoredTable). catalog_told (is.store.told ++ tells (p ∷ []) (row ∷ [])) (Ok (record { tables = l; indexes = is.store.found.indexes ++ index ∷ [] }))) (append-nil longers)
            (grown is.store.told (tells (p ∷ []) (row ∷ [])) is.store.found [] (index ∷ []) (record {
              before = is.store.read;
              others = λ t has. refl;
              newer = refl;
              over = (index, subst (λ (l : List StoredTable). index_told l (p.page, record { name = name; table = one.stored.name; place = ready.at_column.place; form = Tree; root = root }) (Ok index)) (sym (append-nil longers)) (over p.page), ([], refl, refl));
            }))
