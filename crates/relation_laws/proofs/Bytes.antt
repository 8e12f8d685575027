-- What a store holds is a matter of its pages' bytes: it does not ask which pages count as edited.
use Rattle.std.proofs.Common.{◌≡◌, ℕ, Bool, List, [], ◌∷◌, Ok, refl, subst, sym}
use Rattle.std.specs.List.{AllZip}
use Rattle.pager.specs.Pages.{Pages}
use Rattle.heap_file.specs.Chain.{IsWay, scanned}
use Rattle.heap_file.specs.Work.{next_of}
use Rattle.heap_file.specs.declared.chain.Link.{Link}
use Rattle.heap_file.specs.declared.chain.Placed.{Placed}
use Rattle.heap_laws.specs.Store.{WellFormed}
use Rattle.heap_laws.specs.Table.{IsTable, Table}
use Rattle.heap_laws.proofs.Routes.{at-same, leads-same}
use Rattle.heap_laws.proofs.Stores.{chains-same, frees-same}
use Rattle.relation.specs.Catalog.{catalog, catalog_rows}
use Rattle.relation.specs.declared.catalog.Catalog.{Catalog}
use Rattle.relation.specs.declared.catalog.CatalogEntry.{CatalogEntry}
use Rattle.relation.specs.declared.catalog.StoredIndex.{StoredIndex}
use Rattle.relation.specs.declared.catalog.StoredTable.{StoredTable}
use Rattle.relation_laws.specs.Laws.{IsStoreOf}
use Rattle.relation_laws.specs.Tables.{IsStore, IsTableStore, KeepsIndex, KeepsIndexes, PlainTable, PlainTables, ShowsTable}
use Rattle.tree_index.specs.Listing.{listed}

zip_map : {A B : Type 0} (P Q : A → B → Type 0) → ((x : A) (y : B) → P x y → Q x y) → (xs : List A) (ys : List B) → AllZip P xs ys → AllZip Q xs ys
zip_map P Q go [] [] is = tt
zip_map P Q go [] (y ∷ ys) is = absurd is
zip_map P Q go (x ∷ xs) [] is = absurd is
zip_map P Q go (x ∷ xs) (y ∷ ys) is = (go x y is.0, zip_map P Q go xs ys is.1)

module _ (size : ℕ) (pages : Pages) (edited : ℕ → Bool) where
  -- the same bytes
  abbrev after : Pages
  after = record { at = pages.at; edited = edited }

  there : (from : ℕ) (links : List Link) (to : ℕ) → IsWay size pages from links to → IsWay size after from links to
  there from links to leads = leads-same size pages after from links to (λ p some. refl) leads

  scanned_there : (first : ℕ) (rows : List Placed) → scanned size pages first (Ok rows) → scanned size after first (Ok rows)
  scanned_there first rows is = (is.0, (is.1.0, is.1.1, there first is.0 0 is.1.2), is.2)

  next_there : (first next : ℕ) → next_of size pages first (Ok next) → next_of size after first (Ok next)
  next_there first next is = (is.0, at-same size pages after first is.0 refl is.1, is.2)

  rows_there : (told : List CatalogEntry) → catalog_rows size pages (Ok told) → catalog_rows size after (Ok told)
  rows_there told is = (is.0, scanned_there _ is.0 is.1, (is.2.0, next_there _ is.2.0 is.2.1, is.2.2))

  catalog_there : (found : Catalog) → catalog size pages (Ok found) → catalog size after (Ok found)
  catalog_there found is = (is.0, rows_there is.0 is.1, is.2)

  table_there : (first : ℕ) (table : Table) → IsTable size pages first table → IsTable size after first table
  table_there first table is = record { next_number = next_there first table.next_number is.next_number; rows = scanned_there first table.rows is.rows }

  shows_there : (stored : StoredTable) (table : PlainTable) → ShowsTable size pages stored table → ShowsTable size after stored table
  shows_there stored table is = record {
    name = is.name;
    columns = is.columns;
    placed = is.placed;
    is_table = table_there stored.first (record { next_number = table.next_number; rows = is.placed }) is.is_table;
    rows = is.rows;
    fitting = is.fitting;
  }

  heap_there : (firsts indexes : List ℕ) → WellFormed size pages firsts indexes → WellFormed size after firsts indexes
  heap_there firsts indexes is = record {
    small = is.small;
    root = is.root;
    chains = is.chains;
    free = is.free;
    named = is.named;
    lawful = chains-same size pages after is.chains (λ p some. refl) is.lawful;
    listed = frees-same pages after _ is.free (λ p some. refl) is.listed;
    counted = is.counted;
    once = is.once;
    inside = is.inside;
    inner = is.inner;
  }

  keeps_there : (rows : List Placed) (index : StoredIndex) (held : List ℕ) → KeepsIndex size pages rows index held → KeepsIndex size after rows index held
  keeps_there rows index held is = record {
    shape = is.shape;
    lists = listed.frame size index.root pages after is.shape held is.lists (λ page some. refl);
    entries = is.entries;
  }

  indexes_there : (table : StoredTable) (held : List (List ℕ)) → KeepsIndexes size pages table held → KeepsIndexes size after table held
  indexes_there table held is = record {
    rows = is.rows;
    scan = scanned_there _ is.rows is.scan;
    each = zip_map (KeepsIndex size pages is.rows) (KeepsIndex size after is.rows) (keeps_there is.rows) table.indexes held is.each;
  }

  tables_there : IsTableStore size pages → IsTableStore size after
  tables_there is = record {
    placed = is.placed;
    scan = scanned_there _ is.placed is.scan;
    gapless = is.gapless;
    told = is.told;
    rows = rows_there is.told is.rows;
    found = is.found;
    read = is.read;
    kept = is.kept;
    held = is.held;
    heap = heap_there _ _ is.heap;
    names = is.names;
    columns = is.columns;
    tables = is.tables;
    shown = zip_map (ShowsTable size pages) (ShowsTable size after) shows_there is.found.tables is.tables is.shown;
  }

  store_there : IsStore size pages → IsStore size after
  unfolding tables_there
  store_there is = record {
    base = tables_there is.base;
    held = is.held;
    indexed = zip_map (KeepsIndexes size pages) (KeepsIndexes size after) indexes_there is.base.found.tables is.held is.indexed;
    all = is.all;
  }

  marks_there : (all : PlainTables) → IsStoreOf size pages all → IsStoreOf size after all
  marks_there all is = record {
    store = store_there is.store;
    tables = record {
      found = is.tables.found;
      read = catalog_there is.tables.found is.tables.read;
      shown = zip_map (ShowsTable size pages) (ShowsTable size after) shows_there is.tables.found.tables all.tables is.tables.shown;
      indexes = is.tables.indexes;
    };
  }

-- pages of the same bytes hold the same tables
pub bytes_there : (size : ℕ) (pages after : Pages) (all : PlainTables) → IsStoreOf size pages all → ((page : ℕ) → after.at page ≡ pages.at page) → IsStoreOf size after all
bytes_there size pages after all is same =
    subst (λ (at : ℕ → List ℕ). IsStoreOf size (record { at = at; edited = after.edited }) all) (λ i page. sym (same page) i) (marks_there size pages after.edited all is)
