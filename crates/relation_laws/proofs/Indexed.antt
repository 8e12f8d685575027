-- An index is made over a column of a table.
use Rattle.std.proofs.Common.{◌≡◌, ◌≢◌, ◌∙◌, ◌<◌, ◌≤◌, ◌++◌, ◌^◌, ◌⊎◌, cond, ℕ, Bool, true, false, List, [], ◌∷◌, length, map, None, Result, Ok, Err, inl, inr, refl, sym, ap, subst, arith, append_assoc, append-nil}
use Rattle.std.specs.List.{AllByRecursion, AllZip, Contains, cons_option}
use Rattle.std.specs.List.Sorted.{IsPermutation}
use Rattle.std.proofs.lemmas.List.{map-append}
use Rattle.std.proofs.lemmas.List.Concat.{flat_map-append}
use Rattle.std.proofs.lemmas.List.Elements.{Contains-append_right}
use Rattle.std.proofs.lemmas.List.Sorted.{Contains-permutation, IsPermutation-append, IsPermutation-append_comm, IsPermutation-refl, IsPermutation-sym, IsPermutation-trans}
use Rattle.retro_base.specs.declared.refusal.Refusal.{Refusal}
use Rattle.retro_base.specs.declared.refusal.Refusal.TheVariants.{PagesFull}
use Rattle.values.specs.Name.{same_name}
use Rattle.values.specs.declared.value.Value.{Value}
use Rattle.sql_tree.specs.Rows.{fits}
use Rattle.sql_tree.specs.Scope.{column_place}
use Rattle.sql_tree.specs.declared.statement.Column.{Column as TableColumn}
use Rattle.pager.specs.Allows.{◌>>=◌, only}
use Rattle.pager.specs.Index.{AreOfKind}
use Rattle.pager.specs.Pages.{Pages}
use Rattle.pager.specs.declared.index.Found.{Found}
use Rattle.tree_index.specs.Listing.{listed}
use Rattle.tree_index.specs.Shaped.{shaped}
use Rattle.tree_index.specs.Tree.{Lists, Shape, empty, entries_of as entries_of_shape, opens, put}
use Rattle.tree_index.specs.Work.{added, made}
use Rattle.heap_file.specs.declared.chain.Link.{Link}
use Rattle.heap_file.specs.declared.chain.Placed.{Placed}
use Rattle.heap_file.specs.Chain.{IsWay}
use Rattle.heap_laws.specs.Store.{WellFormed, free_pages, times}
use Rattle.heap_laws.specs.Table.{IsTable, Table as HeapTable}
use Rattle.heap_laws.proofs.Indexing.{index_pages_law}
use Rattle.heap_laws.proofs.Reading.{ok-one, rows-numbered, scan-one}
use Rattle.heap_laws.proofs.Routes.{leads-same, pages_on, times-cons}
use Rattle.heap_laws.proofs.Stores.{times-some}
use Rattle.relation.specs.declared.catalog.Catalog.{Catalog}
use Rattle.relation.specs.declared.catalog.StoredIndex.{StoredIndex}
use Rattle.relation.specs.declared.catalog.StoredTable.{StoredTable}
use Rattle.relation.specs.declared.catalog.TheConstants.{CATALOG}
use Rattle.relation.specs.declared.row.CatalogRow.{CatalogRow}
use Rattle.relation.specs.Catalog.{catalog, kept_indexes, stored_index}
use Rattle.relation.specs.CatalogRow.{row_values}
use Rattle.relation.specs.declared.row.IndexForm.TheVariants.{Tree}
use Rattle.relation.specs.Entries.{entries_edited, entries_of, entry_of, in_order}
use Rattle.relation.specs.Work.{all_added, all_placed, indexed, or_broken, row_of_index, rows_at, table_indexed}
use Rattle.relation_laws.specs.Laws.{IndexLaw, IsNewName, IsStoreOf, LeavesOrIsFull, with_index}
use Rattle.relation_laws.specs.Reach.{IsUntouched, ReachesCatalog}
use Rattle.relation_laws.specs.Tables.{AreEntriesOf, KeepsIndex, KeepsIndexes, PlainTable, PlainTables, ShowsTable, all_pages, numbered_row}
use Rattle.relation_laws.specs.Turns.{entered, entries_open}
use Rattle.relation_laws.proofs.Catalogs.{goes-on}
use Rattle.relation_laws.proofs.ColumnKinds.{entry-stands, kind_in, row-stands}
use Rattle.relation_laws.proofs.Entering.{EntriesAnswer, Holds, Once, Stands, all-from, entered-holds, entries-added, once-entries, once-moved}
use Rattle.relation_laws.proofs.Following.{kept-same, pages-cons}
use Rattle.relation_laws.proofs.Growing.{longer, shows-stays}
use Rattle.relation_laws.proofs.Holding.{Shapes, ZipAround, all-keep, every, every-middle, keeps-stays, of-shapes, other-firsts, shapes-of, tree, turned-out, zip-around, zip-right}
use Rattle.relation_laws.proofs.Indexing.{IndexReady, RowStands, entry_row, firsts-longer, found_indexed, index-ready, index-store, place-found}
use Rattle.relation_laws.proofs.Inserting.{Extends, added-placed, extended, full}
use Rattle.relation_laws.proofs.Keeping.{Edited, make-answer}
use Rattle.relation_laws.proofs.KeyTurns.{made-of}
use Rattle.relation_laws.proofs.Lists.{all-at, contains-cons, contains-head, contains-left, contains-map, zip-join, zip-weaken}
use Rattle.relation_laws.proofs.Names.{first-apart, first_of, firsts-once, name-is, name-same}
use Rattle.relation_laws.proofs.Reaching.{untouched-then}
use Rattle.relation_laws.proofs.Sparing.{index-held}
use Rattle.relation_laws.proofs.Singling.{Single, by-name, firsts_of, has-catalog, has-first, names-apart, rows-read, shown-here, single, store-catalog, store-stays}
use Rattle.relation_laws.proofs.TableStores.{HoldsStill, tables_of}
use Rattle.relation_laws.proofs.Turning.{CanStand}

-- The root page of an index was made, and its row added to the catalog.
pub record Begun (size : ℕ) (pages mid : Pages) (all : PlainTables) (table : PlainTable) (store : IsStoreOf size pages all) (one : Single size pages all table (tables_of size pages all store)) (name column : List ℕ) (ready : IndexReady size pages all (tables_of size pages all store) one.stored name column) (root : ℕ × Pages) : Type 0 where
  pub edited : Edited tree size pages root.1 (firsts_of store.store.base.found) store.store.base.held root.0 empty [] 1
  pub low : root.0 < 2 ^ 32
  pub more : List Placed
  pub stands : RowStands size pages root.1 store.store.base.found store.store.base.placed (row_of_index name one.stored.name ready.at_column.place root.0) (edited.behind ++ store.store.base.held) more mid
  pub lists : Lists size mid root.0 empty edited.behind

pub root-low : (size : ℕ) (pages : Pages) (root : ℕ) (shape : Shape) (held firsts others : List ℕ) → WellFormed size pages firsts others → Lists size pages root shape held → root < 2 ^ 32
root-low size pages root shape held firsts others well is =
    let inside = all-at (λ (page : ℕ). (2 ≤ page) × (page < size)) held root (listed.inside size root pages shape held is) (listed.rooted size root pages shape held is) in
    omega (arith, inside.1, well.small)

pub begun : (size : ℕ) (pages mid : Pages) (all : PlainTables) (table : PlainTable) (store : IsStoreOf size pages all) (one : Single size pages all table (tables_of size pages all store)) (name column : List ℕ) (ready : IndexReady size pages all (tables_of size pages all store) one.stored name column) (root : ℕ × Pages) → made size pages (Ok root)
    → all_added size CATALOG (row_values (row_of_index name one.stored.name ready.at_column.place root.0) ∷ []) root.1 (Ok (tt, mid)) → Begun size pages mid all table store one name column ready root
begun size pages mid all table store one name column ready root make add = record {
  edited = edited;
  low = low;
  more = placed.0;
  stands = record { stay = edited.stay; extends = extends };
  lists = listed.frame size root.0 root.1 mid empty edited.behind edited.is (λ page has. (extends.spared page (contains-left edited.behind store.store.base.held page has)).0);
}
  where
    firsts : List ℕ
    firsts = firsts_of store.store.base.found

    edited : Edited tree size pages root.1 (firsts_of store.store.base.found) store.store.base.held root.0 empty [] 1
    edited = make-answer tree size pages (firsts_of store.store.base.found) store.store.base.held (Ok root) store.store.base.heap make

    low : root.0 < 2 ^ 32
    low = root-low size root.1 root.0 empty edited.behind firsts (edited.behind ++ store.store.base.held) edited.well edited.is

    row : CatalogRow
    row = row_of_index name one.stored.name ready.at_column.place root.0

    placed : (more : List Placed) × all_placed size CATALOG (row_values (row_of_index name one.stored.name ready.at_column.place root.0) ∷ []) root.1 (Ok (more, mid))
    placed = added-placed size CATALOG (row_values row ∷ []) root.1 mid add

    extends : Extends size root.1 (firsts_of store.store.base.found) (edited.behind ++ store.store.base.held) CATALOG (record { next_number = length store.store.base.placed; rows = store.store.base.placed }) (row_values (row_of_index name one.stored.name ready.at_column.place root.0) ∷ []) placed.0 mid
    extends = extended size root.1 mid (firsts_of store.store.base.found) (edited.behind ++ store.store.base.held) CATALOG (record { next_number = length store.store.base.placed; rows = store.store.base.placed }) (row_values row ∷ []) placed.0 edited.well (has-catalog store.store.base.found)
        (edited.stay CATALOG (has-catalog store.store.base.found) (record { next_number = length store.store.base.placed; rows = store.store.base.placed }) ready.is_table) (ready.storable root.0 low) ready.room placed.1

-- what is done once the entries are known
abbrev pub indexing_entries : ℕ → List ℕ → List ℕ → ℕ → List Found → Pages → Result (Unit {0} × Pages) Refusal → Type 0
indexing_entries size name table place entries pages =
    made size pages >>= λ (root : ℕ × Pages). all_added size CATALOG (row_values (row_of_index name table place root.0) ∷ []) root.1 >>= λ (told : Unit {0} × Pages). entries_edited added size root.0 entries told.1

-- the entries of rows are put in order, and the index is made by them
pub record Indexing (size : ℕ) (name table : List ℕ) (place : ℕ) (rows : List Placed) (pages : Pages) (answer : Result (Unit {0} × Pages) Refusal) : Type 0 where
  pub entries : List Found
  pub order : in_order (entries_of place rows) (Ok entries)
  pub steps : indexing_entries size name table place entries pages answer

-- what goes on with the entries in order
ordered-on : (read : Result (List Placed) Refusal → Type 0) (place : ℕ) (rows : List Placed) → ((a : Result (List Placed) Refusal) → read a → a ≡ Ok rows) → (size : ℕ) (name table : List ℕ) (pages : Pages) (answer : Result (Unit {0} × Pages) Refusal)
    → ((read >>= λ (some : List Placed). in_order (entries_of place some)) >>= λ (entries : List Found). indexing_entries size name table place entries pages) answer → Indexing size name table place rows pages answer
ordered-on read place rows one size name table pages (Ok y) (entries, (some, told, order), h) =
    record { entries = entries; order = subst (λ (r : List Placed). in_order (entries_of place r) (Ok entries)) (ok-one (one (Ok some) told)) order; steps = h }
ordered-on read place rows one size name table pages (Err why) (inl (inl refused)) = absurd (differ-from (one (Err why) refused))
  where
    differ-from : Err why ≡ Ok rows → ⊥
    differ-from e = absurd cc
ordered-on read place rows one size name table pages (Err why) (inl (inr (some, told, never))) = absurd never
ordered-on read place rows one size name table pages (Err why) (inr (entries, (some, told, order), h)) =
    record { entries = entries; order = subst (λ (r : List Placed). in_order (entries_of place r) (Ok entries)) (ok-one (one (Ok some) told)) order; steps = h }

pub indexing-at : (size : ℕ) (pages : Pages) (all : PlainTables) (table : PlainTable) (store : IsStoreOf size pages all) (one : Single size pages all table (tables_of size pages all store)) (name column : List ℕ) (ready : IndexReady size pages all (tables_of size pages all store) one.stored name column) (answer : Result (Unit {0} × Pages) Refusal) → indexed made added size pages name table.name column answer
    → Indexing size name one.stored.name ready.at_column.place one.shows.placed pages answer
indexing-at size pages all table store one name column ready answer work =
    ordered-on (rows_at size pages one.stored) ready.at_column.place one.shows.placed (rows-read size pages all table (tables_of size pages all store) one) size name one.stored.name pages answer
    (goes-on (only (or_broken (column_place column one.stored.columns))) (λ place. table_indexed made added size name one.stored place pages) ready.at_column.place (λ a e. sym e ∙ ap or_broken (place-found column one.stored.columns ready.at_column)) answer
    (by-name size pages all table (tables_of size pages all store) one (λ (stored : StoredTable). only (or_broken (column_place column stored.columns)) >>= λ place. table_indexed made added size name stored place pages) answer work))

-- what an index over rows answers as it is made by their entries in order
abbrev pub IndexAnswer : (size : ℕ) (pages : Pages) (firsts others : List ℕ) (root place : ℕ) (rows : List Placed) (entries : List Found) (held : List ℕ) → Result (Unit {0} × Pages) Refusal → Type 0
IndexAnswer size pages firsts others root place rows entries held (Ok y) =
    Edited tree size pages y.1 firsts others root (entered put entries empty) held (entries_open put opens entries empty)
    × AreEntriesOf place rows (entries_of_shape (entered put entries empty))
IndexAnswer size pages firsts others root place rows entries held (Err why) = (why ≡ PagesFull size) × (free_pages size pages < entries_open put opens entries empty)

-- the entries of the table's rows are added
pub entries-answer : (size : ℕ) (pages mid : Pages) (all : PlainTables) (table : PlainTable) (store : IsStoreOf size pages all) (one : Single size pages all table (tables_of size pages all store)) (name column : List ℕ) (ready : IndexReady size pages all (tables_of size pages all store) one.stored name column) (root : ℕ × Pages) (it : Begun size pages mid all table store one name column ready root) (entries : List Found) (answer : Result (Unit {0} × Pages) Refusal)
    → in_order (entries_of ready.at_column.place one.shows.placed) (Ok entries) → entries_edited added size root.0 entries mid answer
    → IndexAnswer size mid (firsts_of store.store.base.found) store.store.base.held root.0 ready.at_column.place one.shows.placed entries it.edited.behind answer
entries-answer size pages mid all table store one name column ready root it entries answer order work = go answer (entries-added tree size root.0 (kind_in one.stored.columns place) entries mid firsts store.store.base.held empty it.edited.behind answer it.stands.extends.well it.lists none_of stand work)
  where
    place : ℕ
    place = ready.at_column.place

    firsts : List ℕ
    firsts = firsts_of store.store.base.found

    before : HeapTable
    before = record { next_number = table.next_number; rows = one.shows.placed }

    none_of : AreOfKind (kind_in one.stored.columns ready.at_column.place) (entries_of_shape empty)
    none_of = subst (AreOfKind (kind_in one.stored.columns ready.at_column.place)) (sym shaped.of_none.1) tt

    none-there : (x : Found) → Contains (entries_of_shape empty) x → ⊥
    none-there x has = absurd (omega (arith, (subst (λ (l : List Found). Contains l x) shaped.of_none.1 has).1))

    fit_old : AllByRecursion (λ (row : ℕ × List Value). fits one.stored.columns row.1 ≡ true) (map numbered_row one.shows.placed)
    fit_old = subst (λ (l : List (ℕ × List Value)). AllByRecursion (λ (row : ℕ × List Value). fits one.stored.columns row.1 ≡ true) l) one.shows.rows
        (subst (λ (columns : List TableColumn). AllByRecursion (λ (row : ℕ × List Value). fits columns row.1 ≡ true) table.rows) one.shows.columns one.shows.fitting)

    listed_by : (e : Found) → Contains entries e → Contains (entries_of ready.at_column.place one.shows.placed) e
    listed_by e has = Contains-permutation entries (entries_of place one.shows.placed) e (IsPermutation-sym (entries_of place one.shows.placed) entries order.0) has

    one-stands : (e : Found) → Contains entries e → Stands (kind_in one.stored.columns ready.at_column.place) e
    one-stands e has =
        let of = made-of (entry_of place) one.shows.placed e (listed_by e has) in
        let fit = all-at (λ (row : ℕ × List Value). fits one.stored.columns row.1 ≡ true) (map numbered_row one.shows.placed) (numbered_row of.0) fit_old (contains-map numbered_row one.shows.placed of.0 of.1) in
        let stands = row-stands size pages (firsts_of store.store.base.found) store.store.base.held one.stored.first before of.0 store.store.base.heap (has-first store.store.base.found one.stored one.has) one.shows.is_table of.1 in
        subst (CanStand (kind_in one.stored.columns place)) of.2 (entry-stands one.stored.columns place of.0 fit stands.0 stands.1)

    stand : AllByRecursion (Stands (kind_in one.stored.columns ready.at_column.place)) entries
    stand = all-from (Stands (kind_in one.stored.columns ready.at_column.place)) entries one-stands

    once : Once entries
    once = once-moved (entries_of place one.shows.placed) entries order.0 (once-entries place one.shows.placed (λ n. (rows-numbered size pages (firsts_of store.store.base.found) store.store.base.held one.stored.first before store.store.base.heap (has-first store.store.base.found one.stored one.has) one.shows.is_table n).0))

    holds : Holds tree entries empty
    holds = entered-holds tree (kind_in one.stored.columns ready.at_column.place) entries empty shaped.of_none.0 none_of stand once (λ x y has also. absurd (none-there x has))

    are : AreEntriesOf ready.at_column.place one.shows.placed (entries_of_shape (entered put entries empty))
    are = record {
      told = λ e has. elim (holds.told e has) [
        | inl none ↦ absurd (none-there e none)
        | inr in_ ↦ listed_by e in_
      ];
      listed = λ e has. holds.listed e (inr (Contains-permutation (entries_of place one.shows.placed) entries e order.0 has));
    }

    go : (answer : Result (Unit {0} × Pages) Refusal) → EntriesAnswer tree size mid (firsts_of store.store.base.found) store.store.base.held root.0 entries empty it.edited.behind answer
        → IndexAnswer size mid (firsts_of store.store.base.found) store.store.base.held root.0 ready.at_column.place one.shows.placed entries it.edited.behind answer
    go (Ok y) h = (h, are)
    go (Err why) h = h

-- a table whose catalog has one more index of it
abbrev pub table_indexing : StoredTable → StoredIndex → StoredTable
table_indexing table index = record table { indexes = table.indexes ++ index ∷ [] }

-- a row of an index is one of no other table
longer-other : (name table : List ℕ) (place root : ℕ) (t : StoredTable) → t.name ≢ table → longer (entry_row (row_of_index name table place root)) t ≡ t
longer-other name table place root t apart = λ i. record { name = t.name; first = t.first; columns = t.columns; indexes = same i }
  where
    kept_if : Bool → List StoredIndex
    kept_if b = cons_option (cond b (stored_index Tree place root) None) []

    not-same : (b : Bool) → same_name table t.name ≡ b → kept_if b ≡ []
    not-same true e = absurd (apart (sym (name-is table t.name e)))
    not-same false e = refl

    same : t.indexes ++ kept_indexes t.name (entry_row (row_of_index name table place root)) ≡ t.indexes
    same = ap (λ (l : List StoredIndex). t.indexes ++ l) (not-same (same_name table t.name) refl) ∙ append-nil t.indexes

longer-own : (name : List ℕ) (place root : ℕ) (t : StoredTable) → longer (entry_row (row_of_index name t.name place root)) t ≡ table_indexing t (record { place = place; root = root })
longer-own name place root t = λ i. record { name = t.name; first = t.first; columns = t.columns; indexes = same i }
  where
    same : t.indexes ++ kept_indexes t.name (entry_row (row_of_index name t.name place root)) ≡ t.indexes ++ record { place = place; root = root } ∷ []
    same = rw (name-same t.name t.name refl) refl

longer-all : (name table : List ℕ) (place root : ℕ) (tables : List StoredTable) → ((t : StoredTable) → Contains tables t → t.name ≢ table) → map (longer (entry_row (row_of_index name table place root))) tables ≡ tables
longer-all name table place root [] apart = refl
longer-all name table place root (t ∷ tables) apart = both (longer-other name table place root t (apart t (contains-head t tables))) (longer-all name table place root tables (λ s has. apart s (contains-cons s t tables has)))
  where
    both : {x y : StoredTable} {xs ys : List StoredTable} → x ≡ y → xs ≡ ys → x ∷ xs ≡ y ∷ ys
    both e f = λ i. e i ∷ f i

-- the pages of one more index
every-more : (left : List (List (List ℕ))) (each : List (List ℕ)) (b : List ℕ) (right : List (List (List ℕ))) → every (left ++ (each ++ b ∷ []) ∷ right) ≡ every left ++ ((all_pages each ++ b) ++ every right)
every-more left each b right =
    every-middle left (each ++ b ∷ []) right
    ∙ ap (λ (l : List ℕ). every left ++ (l ++ every right)) (flat_map-append (λ (some : List ℕ). some) each (b ∷ []) ∙ ap (λ (l : List ℕ). all_pages each ++ l) (pages-cons b [] ∙ append-nil b))

more-pages : (b l e r : List ℕ) → IsPermutation (b ++ (l ++ (e ++ r))) (l ++ ((e ++ b) ++ r))
more-pages b l e r =
    IsPermutation-trans (b ++ (l ++ (e ++ r))) (l ++ (b ++ (e ++ r))) (l ++ ((e ++ b) ++ r)) (turned-out b l (e ++ r))
    (IsPermutation-append l l (b ++ (e ++ r)) ((e ++ b) ++ r) (IsPermutation-refl l)
    (subst (λ (k : List ℕ). IsPermutation k ((e ++ b) ++ r)) (append_assoc b e r) (IsPermutation-append (b ++ e) (e ++ b) r r (IsPermutation-append_comm b e) (IsPermutation-refl r))))

-- The store behind an index that was made.
pub indexed-store : (size : ℕ) (pages mid after : Pages) (all : PlainTables) (table : PlainTable) (store : IsStoreOf size pages all) (one : Single size pages all table (tables_of size pages all store)) (name column : List ℕ) (ready : IndexReady size pages all (tables_of size pages all store) one.stored name column) (root : ℕ × Pages) → IsNewName all name → (it : Begun size pages mid all table store one name column ready root)
    (shape : Shape) (takes : ℕ) (fin : Edited tree size mid after (firsts_of store.store.base.found) store.store.base.held root.0 shape it.edited.behind takes) → AreEntriesOf ready.at_column.place one.shows.placed (entries_of_shape shape)
    → IsStoreOf size after (with_index (record { name = name; table = table.name; column = column }) all)
indexed-store size pages mid after all table store one name column ready root new it shape takes fin are = record {
  store = record {
    base = last.is.store;
    held = zip.left ++ (zip.here ++ fin.behind ∷ []) ∷ zip.right;
    indexed = subst (λ (tables : List StoredTable). AllZip (KeepsIndexes size after) tables (zip.left ++ (zip.here ++ fin.behind ∷ []) ∷ zip.right)) (sym tables_are)
        (zip-join (KeepsIndexes size after) zip.before (table_indexing one.stored index ∷ zip.behind) zip.left ((zip.here ++ fin.behind ∷ []) ∷ zip.right)
        (all-keep size pages after zip.before zip.left (λ t each has within keeps. others t each (inl has) (λ page there. held_left page (within page there)) keeps) zip.lefts)
        (mine, all-keep size pages after zip.behind zip.right (λ t each has within keeps. others t each (inr has) (λ page there. held_right page (within page there)) keeps) zip.rights));
    all = last.held_is;
  };
  tables = last.is.tables;
}
  where
    found : Catalog
    found = store.store.base.found

    base_held : List ℕ
    base_held = store.store.base.held

    place : ℕ
    place = ready.at_column.place

    row : CatalogRow
    row = row_of_index name one.stored.name ready.at_column.place root.0

    index : StoredIndex
    index = record { place = ready.at_column.place; root = root.0 }

    still : HoldsStill size mid (with_index (record { name = name; table = table.name; column = column }) all) (found_indexed store.store.base.found (row_of_index name one.stored.name ready.at_column.place root.0) (record { name = name; table = table.name; column = column })) (it.edited.behind ++ store.store.base.held)
    still = index-store size pages root.1 mid all table (tables_of size pages all store) one name column root.0 (it.edited.behind ++ store.store.base.held) it.more new ready it.low it.stands

    zip : ZipAround (KeepsIndexes size pages) store.store.base.found.tables store.store.held one.stored
    zip = zip-around (KeepsIndexes size pages) store.store.base.found.tables store.store.held one.stored store.store.indexed one.has

    held_are : store.store.base.held ≡ every zip.left ++ (all_pages zip.here ++ every zip.right)
    held_are = store.store.all ∙ ap every zip.ys_are ∙ every-middle zip.left zip.here zip.right

    held_left : (page : ℕ) → Contains (every zip.left) page → Contains store.store.base.held page
    held_left page has = subst (λ (l : List ℕ). Contains l page) (sym held_are) (contains-left (every zip.left) (all_pages zip.here ++ every zip.right) page has)

    held_here : (page : ℕ) → Contains (all_pages zip.here) page → Contains store.store.base.held page
    held_here page has = subst (λ (l : List ℕ). Contains l page) (sym held_are) (Contains-append_right (every zip.left) (all_pages zip.here ++ every zip.right) page (contains-left (all_pages zip.here) (every zip.right) page has))

    held_right : (page : ℕ) → Contains (every zip.right) page → Contains store.store.base.held page
    held_right page has = subst (λ (l : List ℕ). Contains l page) (sym held_are) (Contains-append_right (every zip.left) (all_pages zip.here ++ every zip.right) page (Contains-append_right (all_pages zip.here) (every zip.right) page has))

    firsts_same : firsts_of still.is.store.found ≡ firsts_of store.store.base.found
    firsts_same = ap firsts_of still.found_is ∙ ap (λ (l : List ℕ). CATALOG ∷ l) (firsts-longer (entry_row row) store.store.base.found.tables)

    well : WellFormed size after (firsts_of still.is.store.found) (every (zip.left ++ (zip.here ++ fin.behind ∷ []) ∷ zip.right))
    well = subst (λ (f : List ℕ). WellFormed size after f (every (zip.left ++ (zip.here ++ fin.behind ∷ []) ∷ zip.right))) (sym firsts_same)
        (subst (WellFormed size after (firsts_of store.store.base.found)) (sym (every-more zip.left zip.here fin.behind zip.right))
        (index_pages_law.reorder size after (firsts_of store.store.base.found) (fin.behind ++ (every zip.left ++ (all_pages zip.here ++ every zip.right))) (every zip.left ++ ((all_pages zip.here ++ fin.behind) ++ every zip.right))
        (subst (λ (l : List ℕ). WellFormed size after (firsts_of store.store.base.found) (fin.behind ++ l)) held_are fin.well)
        (more-pages fin.behind (every zip.left) (all_pages zip.here) (every zip.right))))

    ending : (first : ℕ) → Contains (firsts_of still.is.store.found) first → (h : HeapTable) → IsTable size mid first h → IsTable size after first h
    ending first has h told = fin.stay first (subst (λ (l : List ℕ). Contains l first) firsts_same has) h told

    last : HoldsStill size after (with_index (record { name = name; table = table.name; column = column }) all) still.is.store.found (every (zip.left ++ (zip.here ++ fin.behind ∷ []) ∷ zip.right))
    last = store-stays size mid after still.is.store (every (zip.left ++ (zip.here ++ fin.behind ∷ []) ∷ zip.right)) (with_index (record { name = name; table = table.name; column = column }) all) (λ h told. ending CATALOG (has-catalog still.is.store.found) h told) well
        (zip-weaken (ShowsTable size mid) (ShowsTable size after) still.is.store.found.tables all.tables (λ s t has shows. shows-stays size mid after s t (λ h told. ending s.first (has-first still.is.store.found s has) h told) shows) (shown-here size mid (with_index (record { name = name; table = table.name; column = column }) all) still.is).0)
        (shown-here size mid (with_index (record { name = name; table = table.name; column = column }) all) still.is).1

    once : times one.stored.first (map first_of (zip.before ++ one.stored ∷ zip.behind)) ≤ 1
    once = omega (arith, ap (λ (l : List StoredTable). times one.stored.first (map first_of l)) zip.xs_are, firsts-once size pages (firsts_of store.store.base.found) store.store.base.held store.store.base.heap one.stored.first, times-cons one.stored.first CATALOG (map first_of store.store.base.found.tables))

    among : (t : StoredTable) → Contains zip.before t ⊎ Contains zip.behind t → Contains store.store.base.found.tables t
    among t has = subst (λ (l : List StoredTable). Contains l t) (sym zip.xs_are) (elim has [
      | inl here ↦ contains-left zip.before (one.stored ∷ zip.behind) t here
      | inr there ↦ Contains-append_right zip.before (one.stored ∷ zip.behind) t (contains-cons t one.stored zip.behind there)
    ])

    named-apart : (t : StoredTable) → Contains zip.before t ⊎ Contains zip.behind t → t.name ≢ one.stored.name
    named-apart t has same = other-firsts zip.before zip.behind one.stored once t has (ap first_of (names-apart size pages store.store.base t one.stored (among t has) one.has same))

    tables_are : last.is.store.found.tables ≡ zip.before ++ table_indexing one.stored index ∷ zip.behind
    tables_are =
        ap (λ (c : Catalog). c.tables) (last.found_is ∙ still.found_is)
        ∙ ap (map (longer (entry_row row))) zip.xs_are
        ∙ map-append (longer (entry_row row)) zip.before (one.stored ∷ zip.behind)
        ∙ around (longer-all name one.stored.name place root.0 zip.before (λ t has. named-apart t (inl has))) (longer-own name place root.0 one.stored) (longer-all name one.stored.name place root.0 zip.behind (λ t has. named-apart t (inr has)))
      where
        around : {a b : List StoredTable} {x y : StoredTable} {c d : List StoredTable} → a ≡ b → x ≡ y → c ≡ d → a ++ x ∷ c ≡ b ++ y ∷ d
        around e f g = λ i. e i ++ f i ∷ g i

    spared : (page : ℕ) → Contains store.store.base.held page → IsUntouched pages after page
    spared page has =
        untouched-then pages root.1 after page (it.edited.spared page has)
        (untouched-then root.1 mid after page (it.stands.extends.spared page (Contains-append_right it.edited.behind store.store.base.held page has)) (fin.spared page has))

    stays : (t : StoredTable) → Contains store.store.base.found.tables t → (h : HeapTable) → IsTable size pages t.first h → IsTable size after t.first h
    stays t has h told =
        let first_has = has-first store.store.base.found t has in
        fin.stay t.first first_has h (it.stands.extends.others t.first first_has (λ e. first-apart size pages store.store.base.found.tables store.store.base.held t store.store.base.heap has (sym e)) h (it.edited.stay t.first first_has h told))

    others : (t : StoredTable) (each : List (List ℕ)) → Contains zip.before t ⊎ Contains zip.behind t → ((page : ℕ) → Contains (all_pages each) page → Contains store.store.base.held page) → KeepsIndexes size pages t each → KeepsIndexes size after t each
    others t each has within keeps =
        let shows = zip-right (ShowsTable size pages) store.store.base.found.tables all.tables t (shown-here size pages all (tables_of size pages all store)).0 (among t has) in
        let h : HeapTable = record { next_number = shows.0.next_number; rows = shows.1.placed } in
        keeps-stays size pages after (firsts_of store.store.base.found) store.store.base.held t each h store.store.base.heap (has-first store.store.base.found t (among t has)) shows.1.is_table (stays t (among t has) h shows.1.is_table) (λ page there. (spared page (within page there)).0) keeps

    rows_same : zip.is.rows ≡ one.shows.placed
    rows_same = ok-one (scan-one size pages (firsts_of store.store.base.found) store.store.base.held one.stored.first store.store.base.heap (has-first store.store.base.found one.stored one.has) (Ok zip.is.rows) (Ok one.shows.placed) zip.is.scan one.shows.is_table.rows)

    mine : KeepsIndexes size after (table_indexing one.stored index) (zip.here ++ fin.behind ∷ [])
    mine =
        let shapes : Shapes size pages one.shows.placed one.stored.indexes zip.here = subst (λ (rows : List Placed). Shapes size pages rows one.stored.indexes zip.here) rows_same (shapes-of size pages zip.is.rows one.stored.indexes zip.here zip.is.each) in
        record {
          rows = one.shows.placed;
          scan = (stays one.stored one.has (record { next_number = table.next_number; rows = one.shows.placed }) one.shows.is_table).rows;
          each = zip-join (KeepsIndex size after one.shows.placed) one.stored.indexes (index ∷ []) zip.here (fin.behind ∷ [])
              (of-shapes size after one.shows.placed one.stored.indexes shapes.shapes zip.here (kept-same tree size pages after one.shows.placed one.stored.indexes shapes.shapes zip.here (λ page has. (spared page (held_here page has)).0) shapes.kept))
              (record { shape = shape; lists = fin.is; entries = are }, tt);
        }

-- what making an index leaves alone
pub index-reaches : (size : ℕ) (pages mid after : Pages) (all : PlainTables) (table : PlainTable) (store : IsStoreOf size pages all) (one : Single size pages all table (tables_of size pages all store)) (name column : List ℕ) (ready : IndexReady size pages all (tables_of size pages all store) one.stored name column) (root : ℕ × Pages) (it : Begun size pages mid all table store one name column ready root)
    (shape : Shape) (takes : ℕ) (fin : Edited tree size mid after (firsts_of store.store.base.found) store.store.base.held root.0 shape it.edited.behind takes) → ReachesCatalog size pages after
index-reaches size pages mid after all table store one name column ready root it shape takes fin = record {
  in_tables = λ read other page told has here. table-page other (there read other told has) here.0 here.1.2 page (times-some (pages_on here.0) page here.2);
  in_indexes = λ read other page told has here.
      let held = index-held size pages all store other here.0 here.2 here.3 (there read other told has) here.1 here.4 page here.5 in
      untouched-then pages root.1 after page (it.edited.spared page held)
      (untouched-then root.1 mid after page (it.stands.extends.spared page (Contains-append_right it.edited.behind store.store.base.held page held)) (fin.spared page held));
}
  where
    there : (read : Catalog) (other : StoredTable) → catalog size pages (Ok read) → Contains read.tables other → Contains store.store.base.found.tables other
    there read other told has = subst (λ (c : Catalog). Contains c.tables other) (ok-one (store-catalog size pages store.store.base (Ok read) told)) has

    table-page : (t : StoredTable) → Contains store.store.base.found.tables t → (links : List Link) → IsWay size pages t.first links 0 → (p : ℕ) → 0 < times p (pages_on links) → IsUntouched pages after p
    table-page t has links leads p in_ =
        let first_has = has-first store.store.base.found t has in
        let one_ = it.edited.tables t.first first_has links leads in
        let on_root = leads-same size pages root.1 t.first links 0 (λ q at. (one_ q at).0) leads in
        let two = it.stands.extends.spares.others t.first first_has (λ e. first-apart size pages store.store.base.found.tables store.store.base.held t store.store.base.heap has (sym e)) links on_root in
        let on_mid = leads-same size root.1 mid t.first links 0 (λ q at. (two q at).0) on_root in
        untouched-then pages root.1 after p (one_ p in_) (untouched-then root.1 mid after p (two p in_) (fin.tables t.first first_has links on_mid p in_))

pub index_law : IndexLaw
index_law size pages all table name column answer store has new there work =
    go answer by.steps
  where
    one : Single size pages all table (tables_of size pages all store)
    one = single size pages all table (tables_of size pages all store) has

    ready : IndexReady size pages all (tables_of size pages all store) one.stored name column
    ready = index-ready size pages all table (tables_of size pages all store) one name column new.is_name there

    by : Indexing size name one.stored.name ready.at_column.place one.shows.placed pages answer
    by = indexing-at size pages all table store one name column ready answer work

    before : HeapTable
    before = record { next_number = length store.store.base.placed; rows = store.store.base.placed }

    go : (answer : Result (Unit {0} × Pages) Refusal) → indexing_entries size name one.stored.name ready.at_column.place by.entries pages answer → LeavesOrIsFull size (λ after. IsStoreOf size after (with_index (record { name = name; table = table.name; column = column }) all) × ReachesCatalog size pages after) answer
    go (Ok y) (root, make, (told, add, listing)) =
        let it = begun size pages told.1 all table store one name column ready root make add in
        let fin = entries-answer size pages told.1 all table store one name column ready root it by.entries (Ok y) by.order listing in (
          indexed-store size pages told.1 y.1 all table store one name column ready root new it _ _ fin.0 fin.1,
          index-reaches size pages told.1 y.1 all table store one name column ready root it _ _ fin.0,
        )
    go (Err why) (inl make) = (make-answer tree size pages (firsts_of store.store.base.found) store.store.base.held (Err why) store.store.base.heap make).0
    go (Err why) (inr (root, make, inl add)) =
        let edited = make-answer tree size pages (firsts_of store.store.base.found) store.store.base.held (Ok root) store.store.base.heap make in
        let low = root-low size root.1 root.0 empty edited.behind (firsts_of store.store.base.found) (edited.behind ++ store.store.base.held) edited.well edited.is in
        full size root.1 (firsts_of store.store.base.found) (edited.behind ++ store.store.base.held) CATALOG before (row_values (row_of_index name one.stored.name ready.at_column.place root.0) ∷ []) why edited.well (has-catalog store.store.base.found) (edited.stay CATALOG (has-catalog store.store.base.found) before ready.is_table) (ready.storable root.0 low) ready.room add
    go (Err why) (inr (root, make, inr (told, add, listing))) =
        let it = begun size pages told.1 all table store one name column ready root make add in
        (entries-answer size pages told.1 all table store one name column ready root it by.entries (Err why) by.order listing).0
