-- A table is made in a store.
use Rattle.std.proofs.Common.{◌≡◌, ◌∙◌, ◌++◌, ℕ, List, [], ◌∷◌, length, map, Result, Ok, Err, inl, inr, sym, subst, arith, append-nil}
use Rattle.std.specs.List.{AllZip, Contains}
use Rattle.retro_base.specs.declared.refusal.Refusal.{Refusal}
use Rattle.sql_tree.specs.declared.statement.Column.{Column as TableColumn}
use Rattle.pager.specs.Pages.{Pages}
use Rattle.heap_file.specs.declared.chain.Placed.{Placed}
use Rattle.heap_file.specs.Work.{made}
use Rattle.heap_laws.specs.Laws.{AreSpared}
use Rattle.heap_laws.specs.Table.{IsTable, MakesTable, Table as HeapTable}
use Rattle.heap_laws.proofs.Making.{make_law}
use Rattle.heap_laws.proofs.Reading.{ok-one}
use Rattle.heap_laws.proofs.Counts.{keyed-same}
use Rattle.heap_laws.proofs.Routes.{leads-same, pages_on, times-append, times-here}
use Rattle.heap_laws.proofs.Staying.{indexes_stay_law}
use Rattle.heap_laws.proofs.Stores.{times-some}
use Rattle.relation.specs.declared.catalog.Catalog.{Catalog}
use Rattle.relation.specs.declared.catalog.StoredTable.{StoredTable}
use Rattle.relation.specs.declared.catalog.TheConstants.{CATALOG}
use Rattle.relation.specs.Catalog.{catalog}
use Rattle.relation.specs.CatalogRow.{row_values}
use Rattle.relation.specs.Work.{all_added, all_placed, created, rows_of_table}
use Rattle.relation_laws.specs.Laws.{AreTableColumns, CreateLaw, IsNewName, IsStoreOf, LeavesOrIsFull, empty_table, with_new}
use Rattle.relation_laws.specs.Reach.{IsPageOf, IsUntouched, ReachesCatalog}
use Rattle.relation_laws.specs.Tables.{KeepsIndexes, PlainTables, ShowsTable}
use Rattle.relation_laws.proofs.Creating.{Ready, created_store, found_with, ready, stored_as}
use Rattle.relation_laws.proofs.Holding.{all-keep, every, every-middle, keeps-stays, zip-right}
use Rattle.relation_laws.proofs.Inserting.{Extends, added-placed, extended, full}
use Rattle.relation_laws.proofs.Lists.{contains-left, contains-last, zip-join}
use Rattle.relation_laws.proofs.Names.{first-apart, firsts-once, first_of}
use Rattle.relation_laws.proofs.Reaching.{made-spares, untouched-then}
use Rattle.relation_laws.proofs.Sparing.{index-held}
use Rattle.relation_laws.proofs.Singling.{firsts_of, has-catalog, has-first, shown-here, store-catalog}
use Rattle.relation_laws.proofs.TableStores.{HoldsStill, tables_of}

-- a table was made, and its rows stand in the catalog
pub record TableMade (size : ℕ) (pages : Pages) (all : PlainTables) (store : IsStoreOf size pages all) (name : List ℕ) (columns : List TableColumn) (table : ℕ × Pages) (after : Pages) : Type 0 where
  pub makes : MakesTable size pages (firsts_of store.store.base.found) store.store.base.held table.0 table.1
  pub base : Ready size pages store.store.base name columns table.0 table.1
  pub more : List Placed
  pub extends : Extends size table.1 (firsts_of store.store.base.found ++ table.0 ∷ []) store.store.base.held CATALOG (record { next_number = length store.store.base.placed; rows = store.store.base.placed }) (map row_values (rows_of_table name table.0 columns)) more after
  pub spared : AreSpared store.store.base.held pages after
  pub stays : (t : StoredTable) → Contains store.store.base.found.tables t → (h : HeapTable) → IsTable size pages t.first h → IsTable size after t.first h

pub table-made : (size : ℕ) (pages : Pages) (all : PlainTables) (store : IsStoreOf size pages all) (name : List ℕ) (columns : List TableColumn) (table : ℕ × Pages) (after : Pages) → IsNewName all name → AreTableColumns columns → made size pages (Ok table) → all_added size CATALOG (map row_values (rows_of_table name table.0 columns)) table.1 (Ok (tt, after)) → TableMade size pages all store name columns table after
table-made size pages all store name columns table after new_name are make add = record {
  makes = makes;
  base = base;
  more = placed.0;
  extends = extends;
  spared = λ page has. untouched-then pages table.1 after page (indexes_stay_law.make size pages table.1 firsts held table.0 store.store.base.heap makes page has) (extends.spared page has);
  stays = λ t has h told.
      extends.others t.first (contains-left firsts (table.0 ∷ []) t.first (has-first store.store.base.found t has)) (λ e. first-apart size pages store.store.base.found.tables held t store.store.base.heap has (sym e)) h
      (makes.others t.first (has-first store.store.base.found t has) h told);
}
  where
    firsts : List ℕ
    firsts = firsts_of store.store.base.found

    held : List ℕ
    held = store.store.base.held

    makes : MakesTable size pages (firsts_of store.store.base.found) store.store.base.held table.0 table.1
    makes = make_law size pages firsts held (Ok table) store.store.base.heap make

    base : Ready size pages store.store.base name columns table.0 table.1
    base = ready size pages store.store.base name columns table.0 table.1 new_name.is_name are makes

    placed : (more : List Placed) × all_placed size CATALOG (map row_values (rows_of_table name table.0 columns)) table.1 (Ok (more, after))
    placed = added-placed size CATALOG (map row_values (rows_of_table name table.0 columns)) table.1 after add

    extends : Extends size table.1 (firsts_of store.store.base.found ++ table.0 ∷ []) store.store.base.held CATALOG (record { next_number = length store.store.base.placed; rows = store.store.base.placed }) (map row_values (rows_of_table name table.0 columns)) placed.0 after
    extends = extended size table.1 after (firsts ++ table.0 ∷ []) held CATALOG (record { next_number = length store.store.base.placed; rows = store.store.base.placed }) (map row_values (rows_of_table name table.0 columns)) placed.0 makes.well (contains-left firsts (table.0 ∷ []) CATALOG (has-catalog store.store.base.found)) base.is_table base.storable base.room placed.1

-- the store with a table that keeps no index
table-store : (size : ℕ) (pages : Pages) (all : PlainTables) (store : IsStoreOf size pages all) (name : List ℕ) (columns : List TableColumn) (table : ℕ × Pages) (after : Pages) → IsNewName all name → AreTableColumns columns → TableMade size pages all store name columns table after → IsStoreOf size after (with_new (empty_table name columns) all)
table-store size pages all store name columns table after new_name are it = record {
  store = record {
    base = still.is.store;
    held = store.store.held ++ [] ∷ [];
    indexed = subst (λ (c : Catalog). AllZip (KeepsIndexes size after) c.tables (store.store.held ++ [] ∷ [])) (sym still.found_is)
        (zip-join (KeepsIndexes size after) found.tables (stored ∷ []) store.store.held ([] ∷ [])
        (all-keep size pages after found.tables store.store.held (λ t each has within keeps.
        let shows = zip-right (ShowsTable size pages) found.tables all.tables t (shown-here size pages all (tables_of size pages all store)).0 has in
        let h : HeapTable = record { next_number = shows.0.next_number; rows = shows.1.placed } in
        keeps-stays size pages after (firsts_of found) store.store.base.held t each h store.store.base.heap (has-first found t has) shows.1.is_table (it.stays t has h shows.1.is_table) (λ page there. (it.spared page (subst (λ (l : List ℕ). Contains l page) (sym store.store.all) (within page there))).0) keeps) store.store.indexed)
        (record { rows = []; scan = (it.extends.others table.0 (contains-last (firsts_of found) table.0) not_catalog (record { next_number = 0; rows = [] }) it.makes.shows).rows; each = tt }, tt));
    all = still.held_is ∙ store.store.all ∙ sym (every-middle store.store.held [] [] ∙ append-nil (every store.store.held));
  };
  tables = still.is.tables;
}
  where
    found : Catalog
    found = store.store.base.found

    stored : StoredTable
    stored = stored_as name table.0 columns

    still : HoldsStill size after (with_new (empty_table name columns) all) (found_with store.store.base.found (stored_as name table.0 columns)) store.store.base.held
    still = created_store size pages all (tables_of size pages all store) name columns table.0 table.1 it.more after (record { new_name = new_name; are = are; makes = it.makes; extends = it.extends; small = it.base.small })

    not_catalog : table.0 ≡ CATALOG → ⊥
    not_catalog e = omega (arith, firsts-once size table.1 (firsts_of found ++ table.0 ∷ []) store.store.base.held it.makes.well CATALOG, times-append CATALOG (firsts_of found) (table.0 ∷ []), times-here CATALOG (map first_of found.tables), keyed-same (λ (m : ℕ). m) CATALOG table.0 [] e)

pub create_law : CreateLaw
create_law size pages all name columns answer store new_name are work = go answer work
  where
    found : Catalog
    found = store.store.base.found

    held : List ℕ
    held = store.store.base.held

    has_catalog : (first : ℕ) → Contains (firsts_of store.store.base.found ++ first ∷ []) CATALOG
    has_catalog first = contains-left (firsts_of found) (first ∷ []) CATALOG (has-catalog found)

    there : (read : Catalog) (other : StoredTable) → catalog size pages (Ok read) → Contains read.tables other → Contains store.store.base.found.tables other
    there read other told has = subst (λ (c : Catalog). Contains c.tables other) (ok-one (store-catalog size pages store.store.base (Ok read) told)) has

    spared : (table : ℕ × Pages) (after : Pages) → TableMade size pages all store name columns table after → (read : Catalog) (other : StoredTable) (page : ℕ) → catalog size pages (Ok read) → Contains read.tables other → IsPageOf size pages other.first page → IsUntouched pages after page
    spared table after it read other page told has here =
        let also = there read other told has in
        let links = here.0 in
        let leads = here.1.2 in
        let first_half = made-spares size pages table.1 (firsts_of found) held table.0 store.store.base.heap it.makes other.first (has-first found other also) links leads in
        untouched-then pages table.1 after page (first_half page (times-some (pages_on links) page here.2))
        (it.extends.spares.others other.first (contains-left (firsts_of found) (table.0 ∷ []) other.first (has-first found other also)) (λ e. first-apart size pages found.tables held other store.store.base.heap also (sym e)) links (leads-same size pages table.1 other.first links 0 (λ p some. (first_half p some).0) leads) page (times-some (pages_on links) page here.2))

    go : (answer : Result (Unit {0} × Pages) Refusal) → created size pages name columns answer → LeavesOrIsFull size (λ after. IsStoreOf size after (with_new (empty_table name columns) all) × ReachesCatalog size pages after) answer
    go (Ok y) (table, make, add) =
        let it = table-made size pages all store name columns table y.1 new_name are make add in (
          table-store size pages all store name columns table y.1 new_name are it,
          record {
            in_tables = λ read other page told has here. spared table y.1 it read other page told has here;
            in_indexes = λ read other page told has here. it.spared page (index-held size pages all store other here.0 here.2 here.3 (there read other told has) here.1 here.4 page here.5);
          },
        )
    go (Err why) (inl refused) = (make_law size pages (firsts_of found) held (Err why) store.store.base.heap refused).0
    go (Err why) (inr (table, make, add)) =
        let makes = make_law size pages (firsts_of found) held (Ok table) store.store.base.heap make in
        let base = ready size pages store.store.base name columns table.0 table.1 new_name.is_name are makes in
        full size table.1 (firsts_of found ++ table.0 ∷ []) held CATALOG (record { next_number = length store.store.base.placed; rows = store.store.base.placed }) (map row_values (rows_of_table name table.0 columns)) why makes.well (has_catalog table.0) base.is_table base.storable base.room add
