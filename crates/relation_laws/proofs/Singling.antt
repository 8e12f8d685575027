-- A store of which one table changes.
use Rattle.std.proofs.Common.{◌≡◌, ◌≢◌, ◌∙◌, ℕ, Bool, true, false, cond, List, [], ◌∷◌, map, Some, Result, Ok, refl, sym, ap, subst}
use Rattle.std.specs.List.{AllByRecursion, AllZip, Contains}
use Rattle.retro_base.specs.declared.refusal.Refusal.{Refusal}
use Rattle.values.specs.declared.value.Value.{Value}
use Rattle.sql_tree.specs.declared.statement.Column.{Column as TableColumn}
use Rattle.pager.specs.Pages.{Pages}
use Rattle.heap_file.specs.declared.chain.Placed.{Placed}
use Rattle.pager.specs.Allows.{◌>>=◌}
use Rattle.heap_file.proofs.Ones.{next-one, only-one}
use Rattle.heap_file.proofs.Sieves.{all-pass}
use Rattle.heap_file.specs.Sieving.{passing}
use Rattle.heap_laws.specs.Store.{WellFormed}
use Rattle.heap_laws.specs.Table.{IsTable, OthersStay, Table as HeapTable}
use Rattle.heap_laws.proofs.Reading.{ok-one, scan-one}
use Rattle.relation.specs.declared.catalog.Catalog.{Catalog}
use Rattle.relation.specs.declared.catalog.StoredTable.{StoredTable}
use Rattle.relation.specs.declared.catalog.TheConstants.{CATALOG}
use Rattle.relation.specs.declared.catalog.CatalogEntry.{CatalogEntry}
use Rattle.relation.specs.Catalog.{catalog, catalog_rows, table_named}
use Rattle.values.specs.Name.{same_name}
use Rattle.relation.specs.Sieving.{fitting}
use Rattle.relation.specs.Work.{or_broken, rows_at, table_in}
use Rattle.sql_tree.specs.Rows.{fits}
use Rattle.relation_laws.specs.Laws.{with_table}
use Rattle.relation_laws.specs.Tables.{IsTableStore, PlainTable, PlainTables, ShowsTable, names_of, numbered_row}
use Rattle.relation_laws.proofs.Catalogs.{catalog-one, goes-on}
use Rattle.relation_laws.proofs.Lists.{contains-head, contains-cons, contains-map, different-split, one-keyed, zip-left, zip-map}
use Rattle.relation_laws.proofs.Names.{first-apart, first-one, first_of, name-is, name-same, named-there}
use Rattle.relation_laws.proofs.Sifted.{sifted-is}
use Rattle.relation_laws.proofs.TableStores.{HoldsStill, IsTableStoreOf}

-- the first pages of a store
abbrev pub firsts_of : Catalog → List ℕ
firsts_of found = CATALOG ∷ map first_of found.tables

pub has-catalog : (found : Catalog) → Contains (firsts_of found) CATALOG
has-catalog found = contains-head CATALOG (map first_of found.tables)

pub has-first : (found : Catalog) (stored : StoredTable) → Contains found.tables stored → Contains (firsts_of found) stored.first
has-first found stored has = contains-cons stored.first CATALOG (map first_of found.tables) (contains-map first_of found.tables stored has)

-- the catalog of a store is read
pub read-here : (size : ℕ) (pages : Pages) (store : IsTableStore size pages) → catalog size pages (Ok store.found)
read-here size pages store = (store.told, store.rows, store.read)

-- the catalog of a store
pub store-catalog : (size : ℕ) (pages : Pages) (store : IsTableStore size pages) (a : Result Catalog Refusal) → catalog size pages a → a ≡ Ok store.found
store-catalog size pages store a told =
    catalog-one size pages (firsts_of store.found) store.held store.heap (has-catalog store.found) a (Ok store.found) told (read-here size pages store)

-- the tables shown are those of the store's own catalog
pub shown-here : (size : ℕ) (pages : Pages) (all : PlainTables) (is : IsTableStoreOf size pages all) → AllZip (ShowsTable size pages) is.store.found.tables all.tables × (all.indexes ≡ is.store.found.indexes)
shown-here size pages all is =
    let same : is.tables.found ≡ is.store.found = ok-one (store-catalog size pages is.store (Ok is.tables.found) is.tables.read) in
    (subst (λ (c : Catalog). AllZip (ShowsTable size pages) c.tables all.tables) same is.tables.shown, is.tables.indexes ∙ ap (λ (c : Catalog). c.indexes) same)

-- the names of tables differ
pub names-apart : (size : ℕ) (pages : Pages) (store : IsTableStore size pages) (a b : StoredTable) → Contains store.found.tables a → Contains store.found.tables b → a.name ≡ b.name → a ≡ b
names-apart size pages store a b has also same =
    one-keyed (λ (t : StoredTable). t.name) store.found.tables a b (different-split (names_of store.found.tables) _ store.names) has also same

-- a table of a store, with what the catalog says of it
pub record Single (size : ℕ) (pages : Pages) (all : PlainTables) (table : PlainTable) (is : IsTableStoreOf size pages all) : Type 0 where
  pub stored : StoredTable
  pub has : Contains is.store.found.tables stored
  pub shows : ShowsTable size pages stored table

pub single : (size : ℕ) (pages : Pages) (all : PlainTables) (table : PlainTable) (is : IsTableStoreOf size pages all) → Contains all.tables table → Single size pages all table is
single size pages all table is has =
    let one = zip-left (ShowsTable size pages) is.store.found.tables all.tables table (shown-here size pages all is).0 has in
    record { stored = one.0; has = one.1; shows = one.2 }

-- the catalog tells a table by its name
pub named-here : (size : ℕ) (pages : Pages) (all : PlainTables) (table : PlainTable) (is : IsTableStoreOf size pages all) (one : Single size pages all table is) → table_in size pages table.name (Ok one.stored)
named-here size pages all table is one = (is.store.found, read-here size pages is.store, ap or_broken there)
  where
    there : table_named table.name is.store.found.tables ≡ Some one.stored
    there = rw one.shows.name (named-there is.store.found.tables one.stored (different-split (names_of is.store.found.tables) _ is.store.names) one.has)

-- the catalog is asked for a table by its name
pub named-in : (size : ℕ) (pages : Pages) (all : PlainTables) (table : PlainTable) (is : IsTableStoreOf size pages all) (one : Single size pages all table is) (a : Result StoredTable Refusal) → table_in size pages table.name a → a ≡ Ok one.stored
named-in size pages all table is one a told =
    next-one _ _ (catalog-one size pages (firsts_of is.store.found) is.store.held is.store.heap (has-catalog is.store.found)) (λ found. only-one _) a (Ok one.stored) told (named-here size pages all table is one)

-- what a call by name goes on with
pub by-name : {B : Type 0} (size : ℕ) (pages : Pages) (all : PlainTables) (table : PlainTable) (is : IsTableStoreOf size pages all) (one : Single size pages all table is) (f : StoredTable → Result B Refusal → Type 0) (b : Result B Refusal) → (table_in size pages table.name >>= f) b → f one.stored b
by-name size pages all table is one f b h = goes-on (table_in size pages table.name) f one.stored (named-in size pages all table is one) b h

-- rows that fit are read
each-fits : (columns : List TableColumn) (rows : List Placed) → AllByRecursion (λ (row : ℕ × List Value). fits columns row.1 ≡ true) (map numbered_row rows) → AllByRecursion (λ (row : Placed). fitting columns (λ placed. Ok true) row ≡ Ok true) rows
each-fits columns [] all = tt
each-fits columns (row ∷ rows) all = (rw all.0 refl, each-fits columns rows all.1)

-- the rows of a table of a store
rows-fit : (size : ℕ) (pages : Pages) (all : PlainTables) (table : PlainTable) (is : IsTableStoreOf size pages all) (one : Single size pages all table is) → passing (fitting one.stored.columns (λ placed. Ok true)) one.shows.placed ≡ Ok one.shows.placed
rows-fit size pages all table is one = all-pass (fitting one.stored.columns (λ placed. Ok true)) one.shows.placed (each-fits one.stored.columns one.shows.placed
    (subst (λ (rows : List (ℕ × List Value)). AllByRecursion (λ (row : ℕ × List Value). fits one.stored.columns row.1 ≡ true) rows) one.shows.rows
    (subst (λ (columns : List TableColumn). AllByRecursion (λ (row : ℕ × List Value). fits columns row.1 ≡ true) table.rows) one.shows.columns one.shows.fitting)))

pub rows-here : (size : ℕ) (pages : Pages) (all : PlainTables) (table : PlainTable) (is : IsTableStoreOf size pages all) (one : Single size pages all table is) → rows_at size pages one.stored (Ok one.shows.placed)
rows-here size pages all table is one = (one.shows.placed, one.shows.is_table.rows, rows-fit size pages all table is one)

pub rows-read : (size : ℕ) (pages : Pages) (all : PlainTables) (table : PlainTable) (is : IsTableStoreOf size pages all) (one : Single size pages all table is) (a : Result (List Placed) Refusal) → rows_at size pages one.stored a → a ≡ Ok one.shows.placed
rows-read size pages all table is one a told =
    sifted-is (fitting one.stored.columns (λ placed. Ok true)) size pages one.stored.first one.shows.placed one.shows.placed
    (scan-one size pages (firsts_of is.store.found) is.store.held one.stored.first is.store.heap (has-first is.store.found one.stored one.has))
    one.shows.is_table.rows (rows-fit size pages all table is one) a told

-- what the catalog says goes by its rows alone
pub rows-stay : (size : ℕ) (pages after : Pages) (told : List CatalogEntry) → ((table : HeapTable) → IsTable size pages CATALOG table → IsTable size after CATALOG table) → catalog_rows size pages (Ok told) → catalog_rows size after (Ok told)
rows-stay size pages after told stays c =
    let table : HeapTable = record { next_number = c.2.0; rows = c.0 } in
    let same = stays table (record { next_number = c.2.1; rows = c.1 }) in
    (c.0, same.rows, (c.2.0, same.next_number, c.2.2))

-- a store whose catalog stays, and whose tables are shown
pub store-stays : (size : ℕ) (pages after : Pages) (store : IsTableStore size pages) (held : List ℕ) (all : PlainTables) → ((table : HeapTable) → IsTable size pages CATALOG table → IsTable size after CATALOG table)
    → WellFormed size after (firsts_of store.found) held → AllZip (ShowsTable size after) store.found.tables all.tables → all.indexes ≡ store.found.indexes → HoldsStill size after all store.found held
store-stays size pages after store held all stays well shown same = record {
  is = record {
    store = record {
      found = store.found;
      read = store.read;
      placed = store.placed;
      scan = (stays (record { next_number = store.rows.2.0; rows = store.placed }) (record { next_number = store.rows.2.1; rows = store.scan })).rows;
      gapless = store.gapless;
      told = store.told;
      rows = rows-stay size pages after store.told stays store.rows;
      kept = store.kept;
      held = held;
      heap = well;
      names = store.names;
      columns = store.columns;
      tables = all.tables;
      shown = shown;
    };
    tables = record { found = store.found; read = (store.told, rows-stay size pages after store.told stays store.rows, store.read); shown = shown; indexes = same };
  };
  found_is = refl;
  held_is = refl;
}

-- a store of which one table changed
pub one-changed : (size : ℕ) (pages after : Pages) (all : PlainTables) (table changed : PlainTable) (is : IsTableStoreOf size pages all) (one : Single size pages all table is) → changed.name ≡ table.name
    → OthersStay size pages after (firsts_of is.store.found) one.stored.first → WellFormed size after (firsts_of is.store.found) is.store.held → ShowsTable size after one.stored changed → HoldsStill size after (with_table changed all) is.store.found is.store.held
one-changed size pages after all table changed is one named others well shows =
    store-stays size pages after is.store is.store.held (with_table changed all)
    (λ catalog told. others CATALOG (has-catalog is.store.found) (first-apart size pages is.store.found.tables is.store.held one.stored is.store.heap one.has) catalog told)
    well
    (zip-map (ShowsTable size pages) (ShowsTable size after) (λ (t : PlainTable). cond (same_name t.name changed.name) changed t) is.store.found.tables all.tables beside (shown-here size pages all is).0)
    (shown-here size pages all is).1
  where
    clash : false ≡ true → ⊥
    clash e = absurd cc

    here : changed.name ≡ one.stored.name
    here = named ∙ one.shows.name

    beside : (stored : StoredTable) (t : PlainTable) → Contains is.store.found.tables stored → ShowsTable size pages stored t → ShowsTable size after stored (cond (same_name t.name changed.name) changed t)
    beside stored t has told = go (same_name t.name changed.name) refl
      where
        go : (b : Bool) → same_name t.name changed.name ≡ b → ShowsTable size after stored (cond b changed t)
        go true e =
            let same : one.stored ≡ stored = names-apart size pages is.store one.stored stored one.has has (sym here ∙ sym (name-is t.name changed.name e) ∙ told.name) in
            subst (λ (s : StoredTable). ShowsTable size after s changed) same shows
        go false e =
            let apart : stored.first ≢ one.stored.first = λ same.
            clash (sym e ∙ name-same t.name changed.name (told.name ∙ ap (λ (s : StoredTable). s.name) (first-one size pages is.store.found.tables is.store.held stored one.stored is.store.heap has one.has same) ∙ sym here)) in
            record {
              name = told.name;
              columns = told.columns;
              placed = told.placed;
              is_table = others stored.first (has-first is.store.found stored has) apart (record { next_number = t.next_number; rows = told.placed }) told.is_table;
              rows = told.rows;
              fitting = told.fitting;
            }
