-- What a call on a table that keeps indexes leaves alone.
use Rattle.std.proofs.Common.{◌≡◌, ◌≢◌, ◌∙◌, ◌<◌, ◌++◌, ℕ, Bool, List, ◌∷◌, Ok, inl, inr, sym, ap, subst, arith}
use Rattle.std.specs.List.{AllZip, Contains}
use Rattle.std.proofs.lemmas.List.Elements.{Contains-append_right}
use Rattle.pager.specs.Pages.{Pages}
use Rattle.tree_index.specs.Listing.{listed}
use Rattle.tree_index.specs.Tree.{Lists, Shape}
use Rattle.heap_file.specs.declared.chain.Link.{Link}
use Rattle.heap_file.specs.declared.chain.Placed.{Placed}
use Rattle.heap_file.specs.Chain.{IsWay}
use Rattle.heap_laws.specs.Laws.{AreSpared}
use Rattle.heap_laws.specs.Store.{free_pages, times}
use Rattle.heap_laws.proofs.Reading.{ok-one}
use Rattle.heap_laws.proofs.Routes.{leads-same, pages_on}
use Rattle.heap_laws.proofs.Stores.{times-some}
use Rattle.relation.specs.declared.catalog.Catalog.{Catalog}
use Rattle.relation.specs.declared.catalog.StoredIndex.{StoredIndex}
use Rattle.relation.specs.declared.catalog.StoredTable.{StoredTable}
use Rattle.relation.specs.declared.catalog.TheConstants.{CATALOG}
use Rattle.relation.specs.Catalog.{catalog}
use Rattle.relation_laws.specs.Laws.{IsStoreOf}
use Rattle.relation_laws.specs.Needs.{next_pages}
use Rattle.relation_laws.specs.Reach.{IsIndexPage, IsUntouched, Reaches, with_root}
use Rattle.relation_laws.specs.Tables.{KeepsIndexes, PlainTable, PlainTables, all_pages}
use Rattle.relation_laws.proofs.Following.{AllEdited}
use Rattle.relation_laws.proofs.Holding.{Waiting, every, every-middle, others_of, page-of-index, tree, zip-around}
use Rattle.relation_laws.proofs.Keeping.{zero-off}
use Rattle.relation_laws.proofs.KeyTurns.{contains-split}
use Rattle.relation_laws.proofs.Lists.{contains-cases, contains-left}
use Rattle.relation_laws.proofs.Names.{first-apart, first-one}
use Rattle.relation_laws.proofs.Reaching.{Spares, untouched-then}
use Rattle.relation_laws.proofs.Singling.{Single, firsts_of, has-catalog, has-first, store-catalog}
use Rattle.relation_laws.proofs.TableStores.{HoldsStill, IsTableStoreOf, tables_of}

-- a page of some table's indexes, among those of all
pub among-every : (size : ℕ) (pages : Pages) (tables : List StoredTable) (held : List (List (List ℕ))) → AllZip (KeepsIndexes size pages) tables held → (table : StoredTable) (index : StoredIndex) (shape : Shape) (some : List ℕ) → Contains tables table → Contains table.indexes index → Lists size pages index.root shape some → (page : ℕ) → Contains some page → Contains (every held) page
among-every size pages tables held all table index shape some has among is page there =
    let one = zip-around (KeepsIndexes size pages) tables held table all has in
    subst (λ (l : List ℕ). Contains l page) (sym (ap every one.ys_are ∙ every-middle one.left one.here one.right))
    (Contains-append_right (every one.left) (all_pages one.here ++ every one.right) page (contains-left (all_pages one.here) (every one.right) page (page-of-index size pages one.is.rows table.indexes one.here one.is.each index shape some among is page there)))

-- a page of an index of the store
pub index-held : (size : ℕ) (pages : Pages) (all : PlainTables) (store : IsStoreOf size pages all) (table : StoredTable) (index : StoredIndex) (shape : Shape) (some : List ℕ) → Contains store.store.base.found.tables table → Contains table.indexes index → Lists size pages index.root shape some → (page : ℕ) → Contains some page → Contains store.store.base.held page
index-held size pages all store table index shape some has among is page there =
    subst (λ (l : List ℕ). Contains l page) (sym store.store.all) (among-every size pages store.store.base.found.tables store.store.held store.store.indexed table index shape some has among is page there)

-- a page of another table's index is one of the other pages, where one table's indexes wait
pub other-index : (size : ℕ) (pages mid : Pages) (all behind : PlainTables) (store : IsStoreOf size pages all) (table : PlainTable) (one : Single size pages all table (tables_of size pages all store)) (still : HoldsStill size mid behind store.store.base.found store.store.base.held) (w : Waiting size mid still.is.store one.stored one.shows.placed) → AreSpared store.store.base.held pages mid
    → (other : StoredTable) (page : ℕ) → Contains store.store.base.found.tables other → (other ≡ one.stored → ⊥) → IsIndexPage size pages other page → Contains (others_of w) page
other-index size pages mid all behind store table one still w spared other page has apart (index, among, shape, some, is, there) =
    elim (contains-split w.before (one.stored ∷ w.behind) other (subst (λ (l : List StoredTable). Contains l other) (sym (ap (λ (c : Catalog). c.tables) still.found_is) ∙ w.tables_are) has)) [
      | inl left ↦ contains-left (every w.left) (every w.right) page (among-every size mid w.before w.left w.lefts other index shape some left among lists page there)
      | inr right ↦ contains-cases one.stored other w.behind right (λ same. absurd (apart (sym same))) (λ behind_it. Contains-append_right (every w.left) (every w.right) page (among-every size mid w.behind w.right w.rights other index shape some behind_it among lists page there))
    ]
  where
    lists : Lists size mid index.root shape some
    lists = listed.frame size index.root pages mid shape some is (λ p in_. (spared p (index-held size pages all store other index shape some has among is p in_)).0)

-- indexes that take no page leave the root page alone
pub root-spared : (size : ℕ) (mid after : Pages) (behind : PlainTables) (is : IsTableStoreOf size mid behind) (table : StoredTable) (old rows : List Placed) (shapes : List Shape) (takes : ℕ) (w : Waiting size mid is.store table old) → AllEdited tree size mid after (firsts_of is.store.found) (others_of w) rows table.indexes shapes w.each takes → takes ≡ 0 → IsUntouched mid after 0
root-spared size mid after behind is table old rows shapes takes w edited none = elim (edited.edits 0) [
  | inl same ↦ same
  | inr reached ↦ elim reached [
    | inl has ↦ absurd (zero-off size mid (firsts_of is.store.found) is.store.held is.store.heap (subst (λ (l : List ℕ). Contains l 0) (sym w.held_are) (Contains-append_right (every w.left) (all_pages w.each ++ every w.right) 0 (contains-left (all_pages w.each) (every w.right) 0 has))))
    | inr next ↦ absurd (empty (subst (λ (n : ℕ). Contains (with_root (next_pages mid n)) 0) none next))
  ]
]
  where
    empty : Contains (with_root (next_pages mid 0)) 0 → ⊥
    empty has = omega (arith, has.1)

-- a call that edits a table's rows, and then its indexes
pub reaches-behind : (rises : Bool) (size : ℕ) (pages mid after : Pages) (all behind : PlainTables) (store : IsStoreOf size pages all) (table : PlainTable) (one : Single size pages all table (tables_of size pages all store)) (still : HoldsStill size mid behind store.store.base.found store.store.base.held) (w : Waiting size mid still.is.store one.stored one.shows.placed) (rows : List Placed) (shapes : List Shape) (takes : ℕ)
    → AreSpared store.store.base.held pages mid → Spares rises size pages mid (firsts_of store.store.base.found) one.stored.first → AllEdited tree size mid after (firsts_of still.is.store.found) (others_of w) rows one.stored.indexes shapes w.each takes
    → (free_pages size after ≡ free_pages size pages → (free_pages size mid ≡ free_pages size pages) × (takes ≡ 0)) → Reaches size pages table.name after
reaches-behind rises size pages mid after all behind store table one still w rows shapes takes spared spares edited unmoved = record {
  root = λ same.
      let now = unmoved same in
      untouched-then pages mid after 0 (spares.root now.0) (root-spared size mid after behind still.is one.stored one.shows.placed rows shapes takes w edited now.1);
  in_catalog = λ page here.
      table-page CATALOG (has-catalog found) (first-apart size pages found.tables store.store.base.held one.stored store.store.base.heap one.has) here.0 here.1.2 page (times-some (pages_on here.0) page here.2);
  in_others = λ read other page told has differ here.
      let also = there read other told has in
      table-page other.first (has-first found other also) (λ e. apart other also differ (first-one size pages found.tables store.store.base.held other one.stored store.store.base.heap also one.has e)) here.0 here.1.2 page (times-some (pages_on here.0) page here.2);
  in_indexes = λ read other page told has differ here.
      let also = there read other told has in
      untouched-then pages mid after page (spared page (index-held size pages all store other here.0 here.2 here.3 also here.1 here.4 page here.5))
      (edited.spared page (other-index size pages mid all behind store table one still w spared other page also (apart other also differ) here));
}
  where
    found : Catalog
    found = store.store.base.found

    there : (read : Catalog) (other : StoredTable) → catalog size pages (Ok read) → Contains read.tables other → Contains store.store.base.found.tables other
    there read other told has = subst (λ (c : Catalog). Contains c.tables other) (ok-one (store-catalog size pages store.store.base (Ok read) told)) has

    apart : (other : StoredTable) → Contains store.store.base.found.tables other → other.name ≢ table.name → other ≡ one.stored → ⊥
    apart other also differ e = differ (ap (λ (t : StoredTable). t.name) e ∙ sym one.shows.name)

    table-page : (first : ℕ) → Contains (firsts_of store.store.base.found) first → (first ≡ one.stored.first → ⊥) → (links : List Link) → IsWay size pages first links 0 → (p : ℕ) → 0 < times p (pages_on links) → IsUntouched pages after p
    table-page first has differ links leads p in_ =
        untouched-then pages mid after p (spares.others first has differ links leads p in_)
        (edited.tables first (subst (λ (c : Catalog). Contains (firsts_of c) first) (sym still.found_is) has) links (leads-same size pages mid first links 0 (λ q at. (spares.others first has differ links leads q at).0) leads) p in_)
