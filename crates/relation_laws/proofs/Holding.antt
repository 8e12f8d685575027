-- Stores whose tables keep indexes: one table's are singled out, and follow what becomes of its rows.
use Rattle.std.proofs.Common.{◌≡◌, ◌≢◌, ◌∙◌, ◌<◌, ◌≤◌, ◌+◌, ◌++◌, ◌⊎◌, ℕ, List, [], ◌∷◌, map, Result, Ok, Err, inl, inr, refl, sym, ap, subst, arith, append_assoc}
use Rattle.std.specs.List.{AllZip, Contains, flat_map}
use Rattle.std.specs.List.Sorted.{IsPermutation}
use Rattle.std.proofs.lemmas.List.Concat.{flat_map-append, flat_map-cons}
use Rattle.std.proofs.lemmas.List.Elements.{Contains-append_right}
use Rattle.std.proofs.lemmas.List.Sorted.{IsPermutation-append, IsPermutation-append_comm, IsPermutation-refl}
use Rattle.retro_base.specs.declared.refusal.Refusal.{Refusal}
use Rattle.retro_base.specs.declared.refusal.Refusal.TheVariants.{PagesFull}
use Rattle.pager.specs.Pages.{Pages}
use Rattle.tree_index.specs.Laws.{indexing}
use Rattle.tree_index.specs.Listing.{listed}
use Rattle.tree_index.specs.Shaped.{shaped}
use Rattle.tree_index.specs.Tree.{IsShape, Lists, Shape, empty, entries_of as entries_of_shape, opens, put, without}
use Rattle.tree_index.specs.Work.{added, made, ranged, removed}
use Rattle.heap_file.specs.declared.chain.Placed.{Placed}
use Rattle.heap_file.specs.Chain.{scanned}
use Rattle.heap_laws.specs.Laws.{AreSpared}
use Rattle.heap_laws.specs.Store.{WellFormed, free_pages, times}
use Rattle.heap_laws.specs.Table.{IsTable, OthersStay, Table as HeapTable}
use Rattle.heap_laws.proofs.Indexing.{index_pages_law}
use Rattle.heap_laws.proofs.Reading.{ok-one, scan-one}
use Rattle.relation.specs.declared.catalog.Catalog.{Catalog}
use Rattle.relation.specs.declared.catalog.StoredIndex.{StoredIndex}
use Rattle.relation.specs.declared.catalog.StoredTable.{StoredTable}
use Rattle.relation.specs.declared.catalog.TheConstants.{CATALOG}
use Rattle.relation_laws.specs.Laws.{IsStoreOf}
use Rattle.relation_laws.specs.Needs.{IndexesNeed}
use Rattle.relation_laws.specs.Reach.{IsIndexPage}
use Rattle.relation_laws.specs.Tables.{IsTableStore, KeepsIndex, KeepsIndexes, PlainTable, PlainTables, ShowsTable, all_pages}
use Rattle.relation_laws.specs.Turns.{Turn, turns_open}
use Rattle.relation_laws.proofs.Following.{AllAnswer, AllEdited, Fitting, KeptAs, all-answer, all_open, kept-same, pages-cons, shapes_behind}
use Rattle.relation_laws.proofs.Growing.{shows-stays}
use Rattle.relation_laws.proofs.IndexKind.{IndexKind}
use Rattle.relation_laws.proofs.KeyTurns.{contains-split}
use Rattle.relation_laws.proofs.Lists.{contains-cases, contains-cons, contains-head, contains-left, zip-join, zip-weaken}
use Rattle.heap_laws.proofs.Counts.{keyed, keyed-append, keyed-map, keyed-same}
use Rattle.heap_laws.proofs.Routes.{times-cons}
use Rattle.heap_laws.proofs.Rows.{keyed-contains}
use Rattle.relation_laws.proofs.Names.{first_of, firsts-once}
use Rattle.relation_laws.proofs.Singling.{Single, firsts_of, has-catalog, has-first, shown-here, store-stays}
use Rattle.relation_laws.proofs.TableStores.{HoldsStill, IsTableStoreOf, tables_of}
use Rattle.relation_laws.proofs.Turning.{RowsTurn, turn_work}
use Rattle.pager.specs.Allows.{in_turn}

-- the tree is a kind of index
abbrev pub tree : IndexKind
tree = record {
  Shape = Shape;
  IsShape = λ shape. IsShape shape;
  empty = empty;
  entries = entries_of_shape;
  put = put;
  without = without;
  opens = opens;
  lists = λ size pages root shape held. Lists size pages root shape held;
  made = made;
  added = added;
  removed = removed;
  ranged = ranged;
  shaped = shaped;
  listed = listed;
  indexing = indexing;
}

-- indexes of a table, each with what it holds
pub record Shapes (size : ℕ) (pages : Pages) (rows : List Placed) (indexes : List StoredIndex) (each : List (List ℕ)) : Type 0 where
  pub shapes : List Shape
  pub kept : KeptAs tree size pages rows indexes shapes each

pub shapes-of : (size : ℕ) (pages : Pages) (rows : List Placed) (indexes : List StoredIndex) (each : List (List ℕ)) → AllZip (KeepsIndex size pages rows) indexes each → Shapes size pages rows indexes each
shapes-of size pages rows [] [] all = record { shapes = []; kept = tt }
shapes-of size pages rows [] (h ∷ each) all = absurd all
shapes-of size pages rows (i ∷ indexes) [] all = absurd all
shapes-of size pages rows (i ∷ indexes) (h ∷ each) all =
    let rest = shapes-of size pages rows indexes each all.1 in
    record { shapes = all.0.shape ∷ rest.shapes; kept = ((all.0.lists, all.0.entries), rest.kept) }

pub of-shapes : (size : ℕ) (pages : Pages) (rows : List Placed) (indexes : List StoredIndex) (shapes : List Shape) (each : List (List ℕ)) → KeptAs tree size pages rows indexes shapes each → AllZip (KeepsIndex size pages rows) indexes each
of-shapes size pages rows [] [] [] kept = tt
of-shapes size pages rows [] [] (h ∷ each) kept = absurd kept
of-shapes size pages rows [] (s ∷ shapes) each kept = absurd kept
of-shapes size pages rows (i ∷ indexes) [] each kept = absurd kept
of-shapes size pages rows (i ∷ indexes) (s ∷ shapes) [] kept = absurd kept
of-shapes size pages rows (i ∷ indexes) (s ∷ shapes) (h ∷ each) kept = (record { shape = s; lists = kept.0.0; entries = kept.0.1 }, of-shapes size pages rows indexes shapes each kept.1)

-- how many pages they need as rows turn
pub needs-of : (size : ℕ) (pages : Pages) (rows : List Placed) (turns : List Turn) (indexes : List StoredIndex) (shapes : List Shape) (each : List (List ℕ)) → KeptAs tree size pages rows indexes shapes each → IndexesNeed size pages indexes turns (all_open tree turns indexes shapes)
needs-of size pages rows turns [] [] [] kept = refl
needs-of size pages rows turns [] [] (h ∷ each) kept = absurd kept
needs-of size pages rows turns [] (s ∷ shapes) each kept = absurd kept
needs-of size pages rows turns (i ∷ indexes) [] each kept = absurd kept
needs-of size pages rows turns (i ∷ indexes) (s ∷ shapes) [] kept = absurd kept
needs-of size pages rows turns (i ∷ indexes) (s ∷ shapes) (h ∷ each) kept = (s, h, kept.0.0, all_open tree turns indexes shapes, needs-of size pages rows turns indexes shapes each kept.1, refl)

-- indexes need one number of pages
pub needs-one : (size : ℕ) (pages : Pages) (turns : List Turn) (indexes : List StoredIndex) (a b : ℕ) → IndexesNeed size pages indexes turns a → IndexesNeed size pages indexes turns b → a ≡ b
needs-one size pages turns [] a b p q = p ∙ sym q
needs-one size pages turns (i ∷ indexes) a b (s, h, is, more, rest, e) (t, g, also, others, too, f) =
    let same = (listed.one size i.root pages s t h g is also).0 in
    let behind = needs-one size pages turns indexes more others rest too in
    e ∙ ap (λ (k : Shape). turns_open put without opens i.place turns k + more) same ∙ ap (λ (n : ℕ). turns_open put without opens i.place turns t + n) behind ∙ sym f

-- a page of one of these indexes, and a page of an index of the table
pub index-page : (size : ℕ) (pages : Pages) (rows : List Placed) (table : StoredTable) (indexes : List StoredIndex) (shapes : List Shape) (each : List (List ℕ)) → KeptAs tree size pages rows indexes shapes each → ((i : StoredIndex) → Contains indexes i → Contains table.indexes i) → (page : ℕ) → Contains (all_pages each) page → IsIndexPage size pages table page
index-page size pages rows table [] [] [] kept among page has = absurd (omega (arith, has.1))
index-page size pages rows table [] [] (h ∷ each) kept among page has = absurd kept
index-page size pages rows table [] (s ∷ shapes) each kept among page has = absurd kept
index-page size pages rows table (i ∷ indexes) [] each kept among page has = absurd kept
index-page size pages rows table (i ∷ indexes) (s ∷ shapes) [] kept among page has = absurd kept
index-page size pages rows table (i ∷ indexes) (s ∷ shapes) (h ∷ each) kept among page has =
    elim (contains-split h (all_pages each) page (subst (λ (l : List ℕ). Contains l page) (pages-cons h each) has)) [
      | inl here ↦ (i, among i (contains-head i indexes), s, h, kept.0.0, here)
      | inr there ↦ index-page size pages rows table indexes shapes each kept.1 (λ j also. among j (contains-cons j i indexes also)) page there
    ]

pub page-of-index : (size : ℕ) (pages : Pages) (rows : List Placed) (indexes : List StoredIndex) (each : List (List ℕ)) → AllZip (KeepsIndex size pages rows) indexes each → (index : StoredIndex) (shape : Shape) (held : List ℕ) → Contains indexes index → Lists size pages index.root shape held → (page : ℕ) → Contains held page → Contains (all_pages each) page
page-of-index size pages rows [] [] all index shape held among is page has = absurd (omega (arith, among.1))
page-of-index size pages rows [] (h ∷ each) all index shape held among is page has = absurd all
page-of-index size pages rows (i ∷ indexes) [] all index shape held among is page has = absurd all
page-of-index size pages rows (i ∷ indexes) (h ∷ each) all index shape held among is page has =
    subst (λ (l : List ℕ). Contains l page) (sym (pages-cons h each))
    (contains-cases i index indexes among
    (λ here. contains-left h (all_pages each) page (subst (λ (l : List ℕ). Contains l page) (listed.one size index.root pages shape all.0.shape held h is (subst (λ (j : StoredIndex). Lists size pages j.root all.0.shape h) here all.0.lists)).1 has))
    (λ there. Contains-append_right h (all_pages each) page (page-of-index size pages rows indexes each all.1 index shape held there is page has)))

-- all pages of tables' indexes
abbrev pub every : List (List (List ℕ)) → List ℕ
every held = flat_map all_pages held

every-cons : (each : List (List ℕ)) (held : List (List (List ℕ))) → every (each ∷ held) ≡ all_pages each ++ every held
every-cons each held = flat_map-cons all_pages each held

-- a list split where it is zipped with another
pub record ZipAround {A B : Type 0} (R : A → B → Type 0) (xs : List A) (ys : List B) (x : A) : Type 0 where
  pub before : List A
  pub behind : List A
  pub left : List B
  pub here : B
  pub right : List B
  pub xs_are : xs ≡ before ++ x ∷ behind
  pub ys_are : ys ≡ left ++ here ∷ right
  pub lefts : AllZip R before left
  pub is : R x here
  pub rights : AllZip R behind right

pub zip-around : {A B : Type 0} (R : A → B → Type 0) (xs : List A) (ys : List B) (x : A) → AllZip R xs ys → Contains xs x → ZipAround R xs ys x
zip-around R [] ys x all has = absurd (omega (arith, has.1))
zip-around R (z ∷ xs) [] x all has = absurd all
zip-around R (z ∷ xs) (y ∷ ys) x all has =
    contains-cases z x xs has
    (λ same. record { before = []; behind = xs; left = []; here = y; right = ys; xs_are = ap (λ w. w ∷ xs) same; ys_are = refl; lefts = tt; is = subst (λ w. R w y) same all.0; rights = all.1 })
    (λ there.
    let rest = zip-around R xs ys x all.1 there in
    record { before = z ∷ rest.before; behind = rest.behind; left = y ∷ rest.left; here = rest.here; right = rest.right; xs_are = ap (λ l. z ∷ l) rest.xs_are; ys_are = ap (λ l. y ∷ l) rest.ys_are; lefts = (all.0, rest.lefts); is = rest.is; rights = rest.rights })

pub zip-right : {A B : Type 0} (R : A → B → Type 0) (xs : List A) (ys : List B) (x : A) → AllZip R xs ys → Contains xs x → (y : B) × R x y
zip-right R xs ys x all has = let one = zip-around R xs ys x all has in (one.here, one.is)

-- the indexes of a table that stays, on pages that stay
pub keeps-stays : (size : ℕ) (pages after : Pages) (firsts indexes : List ℕ) (table : StoredTable) (each : List (List ℕ)) (is : HeapTable) → WellFormed size pages firsts indexes → Contains firsts table.first → IsTable size pages table.first is → IsTable size after table.first is → ((page : ℕ) → Contains (all_pages each) page → after.at page ≡ pages.at page)
    → KeepsIndexes size pages table each → KeepsIndexes size after table each
keeps-stays size pages after firsts indexes table each is well has before behind same keeps =
    let one : is.rows ≡ keeps.rows = ok-one (scan-one size pages firsts indexes table.first well has (Ok is.rows) (Ok keeps.rows) before.rows keeps.scan) in
    let shapes = shapes-of size pages keeps.rows table.indexes each keeps.each in
    record {
      rows = keeps.rows;
      scan = subst (λ (rows : List Placed). scanned size after table.first (Ok rows)) one behind.rows;
      each = of-shapes size after keeps.rows table.indexes shapes.shapes each (kept-same tree size pages after keeps.rows table.indexes shapes.shapes each same shapes.kept);
    }

-- the same of several tables
pub all-keep : (size : ℕ) (pages after : Pages) (tables : List StoredTable) (held : List (List (List ℕ))) → ((table : StoredTable) (each : List (List ℕ)) → Contains tables table → ((page : ℕ) → Contains (all_pages each) page → Contains (every held) page) → KeepsIndexes size pages table each → KeepsIndexes size after table each) → AllZip (KeepsIndexes size pages) tables held → AllZip (KeepsIndexes size after) tables held
all-keep size pages after [] [] go all = tt
all-keep size pages after [] (each ∷ held) go all = absurd all
all-keep size pages after (t ∷ tables) [] go all = absurd all
all-keep size pages after (t ∷ tables) (each ∷ held) go all = (
  go t each (contains-head t tables) (λ page has. subst (λ (l : List ℕ). Contains l page) (sym (every-cons each held)) (contains-left (all_pages each) (every held) page has)) all.0,
  all-keep size pages after tables held (λ table some has within. go table some (contains-cons table t tables has) (λ page there. subst (λ (l : List ℕ). Contains l page) (sym (every-cons each held)) (Contains-append_right (all_pages each) (every held) page (within page there)))) all.1,
)

-- Tables stand on the pages, and the indexes of all but one follow their rows; of that one they list other rows still.
pub record Waiting (size : ℕ) (pages : Pages) (store : IsTableStore size pages) (table : StoredTable) (rows : List Placed) : Type 0 where
  pub before : List StoredTable
  pub behind : List StoredTable
  pub left : List (List (List ℕ))
  pub each : List (List ℕ)
  pub right : List (List (List ℕ))
  pub tables_are : store.found.tables ≡ before ++ table ∷ behind
  pub lefts : AllZip (KeepsIndexes size pages) before left
  pub rights : AllZip (KeepsIndexes size pages) behind right
  pub shapes : List Shape
  pub kept : KeptAs tree size pages rows table.indexes shapes each
  pub held_are : store.held ≡ every left ++ (all_pages each ++ every right)

-- pages in another order
pub turned-out : (a b c : List ℕ) → IsPermutation (a ++ (b ++ c)) (b ++ (a ++ c))
turned-out a b c =
    subst (λ (l : List ℕ). IsPermutation l (b ++ (a ++ c))) (append_assoc a b c)
    (subst (IsPermutation ((a ++ b) ++ c)) (append_assoc b a c) (IsPermutation-append (a ++ b) (b ++ a) c c (IsPermutation-append_comm a b) (IsPermutation-refl c)))

pub every-middle : (left : List (List (List ℕ))) (each : List (List ℕ)) (right : List (List (List ℕ))) → every (left ++ each ∷ right) ≡ every left ++ (all_pages each ++ every right)
every-middle left each right = flat_map-append all_pages left (each ∷ right) ∙ ap (λ (l : List ℕ). every left ++ l) (every-cons each right)

-- the other tables begin with other pages
pub other-firsts : (before behind : List StoredTable) (table : StoredTable) → times table.first (map first_of (before ++ table ∷ behind)) ≤ 1 → (other : StoredTable) → Contains before other ⊎ Contains behind other → other.first ≢ table.first
other-firsts before behind table once other among same = elim among [
  | inl here ↦ absurd (omega (arith, once, count, subst (λ (n : ℕ). 0 < keyed first_of n before) same (keyed-contains first_of before other here)))
  | inr here ↦ absurd (omega (arith, once, count, subst (λ (n : ℕ). 0 < keyed first_of n behind) same (keyed-contains first_of behind other here)))
]
  where
    count : times table.first (map first_of (before ++ table ∷ behind)) ≡ keyed first_of table.first before + (1 + keyed first_of table.first behind)
    count = keyed-map first_of table.first (before ++ table ∷ behind) ∙ keyed-append first_of table.first before (table ∷ behind) ∙ ap (λ (k : ℕ). keyed first_of table.first before + k) (keyed-same first_of table.first table behind refl)

-- rows of one table changed, and the indexes wait
pub waiting : (size : ℕ) (pages mid : Pages) (all behind : PlainTables) (store : IsStoreOf size pages all) (table : PlainTable) (one : Single size pages all table (tables_of size pages all store)) (still : HoldsStill size mid behind store.store.base.found store.store.base.held)
    → OthersStay size pages mid (firsts_of store.store.base.found) one.stored.first → AreSpared store.store.base.held pages mid → Waiting size mid still.is.store one.stored one.shows.placed
waiting size pages mid all behind store table one still others spared = record {
  before = zip.before;
  behind = zip.behind;
  left = zip.left;
  each = zip.here;
  right = zip.right;
  tables_are = ap (λ (c : Catalog). c.tables) still.found_is ∙ zip.xs_are;
  lefts = all-keep size pages mid zip.before zip.left (λ t each has within keeps. stays t each (inl has) (λ page there. held_left page (within page there)) keeps) zip.lefts;
  rights = all-keep size pages mid zip.behind zip.right (λ t each has within keeps. stays t each (inr has) (λ page there. held_right page (within page there)) keeps) zip.rights;
  shapes = shapes.shapes;
  kept = kept-same tree size pages mid one.shows.placed one.stored.indexes shapes.shapes zip.here (λ page has. (spared page (held_here page has)).0) (subst (λ (rows : List Placed). KeptAs tree size pages rows one.stored.indexes shapes.shapes zip.here) rows_same shapes.kept);
  held_are = still.held_is ∙ held_are;
}
  where
    base : IsTableStore size pages
    base = store.store.base

    zip : ZipAround (KeepsIndexes size pages) store.store.base.found.tables store.store.held one.stored
    zip = zip-around (KeepsIndexes size pages) store.store.base.found.tables store.store.held one.stored store.store.indexed one.has

    shapes : Shapes size pages zip.is.rows one.stored.indexes zip.here
    shapes = shapes-of size pages zip.is.rows one.stored.indexes zip.here zip.is.each

    rows_same : zip.is.rows ≡ one.shows.placed
    rows_same = ok-one (scan-one size pages (firsts_of store.store.base.found) store.store.base.held one.stored.first store.store.base.heap (has-first store.store.base.found one.stored one.has) (Ok zip.is.rows) (Ok one.shows.placed) zip.is.scan one.shows.is_table.rows)

    held_are : store.store.base.held ≡ every zip.left ++ (all_pages zip.here ++ every zip.right)
    held_are = store.store.all ∙ ap every zip.ys_are ∙ every-middle zip.left zip.here zip.right

    held_left : (page : ℕ) → Contains (every zip.left) page → Contains store.store.base.held page
    held_left page has = subst (λ (l : List ℕ). Contains l page) (sym held_are) (contains-left (every zip.left) (all_pages zip.here ++ every zip.right) page has)

    held_here : (page : ℕ) → Contains (all_pages zip.here) page → Contains store.store.base.held page
    held_here page has = subst (λ (l : List ℕ). Contains l page) (sym held_are) (Contains-append_right (every zip.left) (all_pages zip.here ++ every zip.right) page (contains-left (all_pages zip.here) (every zip.right) page has))

    held_right : (page : ℕ) → Contains (every zip.right) page → Contains store.store.base.held page
    held_right page has = subst (λ (l : List ℕ). Contains l page) (sym held_are) (Contains-append_right (every zip.left) (all_pages zip.here ++ every zip.right) page (Contains-append_right (all_pages zip.here) (every zip.right) page has))

    once : times one.stored.first (map first_of (zip.before ++ one.stored ∷ zip.behind)) ≤ 1
    once = omega (arith, ap (λ (l : List StoredTable). times one.stored.first (map first_of l)) zip.xs_are, firsts-once size pages (firsts_of store.store.base.found) store.store.base.held store.store.base.heap one.stored.first, times-cons one.stored.first CATALOG (map first_of store.store.base.found.tables))

    among : (t : StoredTable) → Contains zip.before t ⊎ Contains zip.behind t → Contains store.store.base.found.tables t
    among t has = subst (λ (l : List StoredTable). Contains l t) (sym zip.xs_are) (elim has [
      | inl here ↦ contains-left zip.before (one.stored ∷ zip.behind) t here
      | inr there ↦ Contains-append_right zip.before (one.stored ∷ zip.behind) t (contains-cons t one.stored zip.behind there)
    ])

    stays : (t : StoredTable) (each : List (List ℕ)) → Contains zip.before t ⊎ Contains zip.behind t → ((page : ℕ) → Contains (all_pages each) page → Contains store.store.base.held page) → KeepsIndexes size pages t each → KeepsIndexes size mid t each
    stays t each has within keeps =
        let shows = zip-right (ShowsTable size pages) store.store.base.found.tables all.tables t (shown-here size pages all (tables_of size pages all store)).0 (among t has) in
        let is : HeapTable = record { next_number = shows.0.next_number; rows = shows.1.placed } in
        keeps-stays size pages mid (firsts_of store.store.base.found) store.store.base.held t each is store.store.base.heap (has-first store.store.base.found t (among t has)) shows.1.is_table
        (others t.first (has-first store.store.base.found t (among t has)) (other-firsts zip.before zip.behind one.stored once t has) is shows.1.is_table)
        (λ page there. (spared page (within page there)).0) keeps

-- the pages of the other tables' indexes
abbrev pub others_of : {size : ℕ} {pages : Pages} {store : IsTableStore size pages} {table : StoredTable} {rows : List Placed} → Waiting size pages store table rows → List ℕ
others_of w = every w.left ++ every w.right

-- the indexes followed, and the store is well-formed
pub followed-store : (size : ℕ) (mid after : Pages) (behind : PlainTables) (is : IsTableStoreOf size mid behind) (table : StoredTable) (old rows : List Placed) (shapes : List Shape) (takes : ℕ) (w : Waiting size mid is.store table old) → Contains is.store.found.tables table → scanned size mid table.first (Ok rows)
    → AllEdited tree size mid after (firsts_of is.store.found) (others_of w) rows table.indexes shapes w.each takes → IsStoreOf size after behind
followed-store size mid after behind is table old rows shapes takes w has scan edited = record {
  store = record {
    base = still.is.store;
    held = w.left ++ edited.behind ∷ w.right;
    indexed = subst (λ (tables : List StoredTable). AllZip (KeepsIndexes size after) tables (w.left ++ edited.behind ∷ w.right)) (sym (ap (λ (c : Catalog). c.tables) still.found_is ∙ w.tables_are))
        (zip-join (KeepsIndexes size after) w.before (table ∷ w.behind) w.left (edited.behind ∷ w.right)
        (all-keep size mid after w.before w.left (λ t each here within keeps. stays t each (inl here) (λ page there. contains-left (every w.left) (every w.right) page (within page there)) keeps) w.lefts)
        (mine, all-keep size mid after w.behind w.right (λ t each here within keeps. stays t each (inr here) (λ page there. Contains-append_right (every w.left) (every w.right) page (within page there)) keeps) w.rights));
    all = still.held_is;
  };
  tables = still.is.tables;
}
  where
    firsts : List ℕ
    firsts = firsts_of is.store.found

    ready : WellFormed size after firsts (every (w.left ++ edited.behind ∷ w.right))
    ready = subst (WellFormed size after firsts) (sym (every-middle w.left edited.behind w.right)) (index_pages_law.reorder size after firsts (all_pages edited.behind ++ (every w.left ++ every w.right)) (every w.left ++ (all_pages edited.behind ++ every w.right)) edited.well (turned-out (all_pages edited.behind) (every w.left) (every w.right)))

    still : HoldsStill size after behind is.store.found (every (w.left ++ edited.behind ∷ w.right))
    still = store-stays size mid after is.store (every (w.left ++ edited.behind ∷ w.right)) behind (λ t told. edited.stay CATALOG (has-catalog is.store.found) t told) ready
        (zip-weaken (ShowsTable size mid) (ShowsTable size after) is.store.found.tables behind.tables (λ s t also shows. shows-stays size mid after s t (λ table told. edited.stay s.first (has-first is.store.found s also) table told) shows) (shown-here size mid behind is).0)
        (shown-here size mid behind is).1

    table_at : (t : StoredTable) → Contains is.store.found.tables t → (h : HeapTable) × IsTable size mid t.first h
    table_at t also =
        let shows = zip-right (ShowsTable size mid) is.store.found.tables behind.tables t (shown-here size mid behind is).0 also in
        (record { next_number = shows.0.next_number; rows = shows.1.placed }, shows.1.is_table)

    mine : KeepsIndexes size after table edited.behind
    mine =
        let it = table_at table has in
        let one : it.0.rows ≡ rows = ok-one (scan-one size mid firsts is.store.held table.first is.store.heap (has-first is.store.found table has) (Ok it.0.rows) (Ok rows) it.1.rows scan) in
        record {
          rows = rows;
          scan = subst (λ (r : List Placed). scanned size after table.first (Ok r)) one (edited.stay table.first (has-first is.store.found table has) it.0 it.1).rows;
          each = of-shapes size after rows table.indexes shapes edited.behind edited.kept;
        }

    among : (t : StoredTable) → Contains w.before t ⊎ Contains w.behind t → Contains is.store.found.tables t
    among t here = subst (λ (l : List StoredTable). Contains l t) (sym w.tables_are) (elim here [
      | inl left ↦ contains-left w.before (table ∷ w.behind) t left
      | inr right ↦ Contains-append_right w.before (table ∷ w.behind) t (contains-cons t table w.behind right)
    ])

    stays : (t : StoredTable) (each : List (List ℕ)) → Contains w.before t ⊎ Contains w.behind t → ((page : ℕ) → Contains (all_pages each) page → Contains (every w.left ++ every w.right) page) → KeepsIndexes size mid t each → KeepsIndexes size after t each
    stays t each here within keeps =
        let it = table_at t (among t here) in
        keeps-stays size mid after firsts is.store.held t each it.0 is.store.heap (has-first is.store.found t (among t here)) it.1 (edited.stay t.first (has-first is.store.found t (among t here)) it.0 it.1)
        (λ page there. (edited.spared page (within page there)).0) keeps

-- what the indexes of a table answer as its rows turn
abbrev pub FollowAnswer : (size : ℕ) (mid : Pages) (behind : PlainTables) (is : IsTableStoreOf size mid behind) (table : StoredTable) (old rows : List Placed) (turns : List Turn) → Waiting size mid is.store table old → Result (Unit {0} × Pages) Refusal → Type 0
FollowAnswer size mid behind is table old rows turns w (Ok y) = IsStoreOf size y.1 behind × AllEdited tree size mid y.1 (firsts_of is.store.found) (others_of w) rows table.indexes (shapes_behind tree turns table.indexes w.shapes) w.each (all_open tree turns table.indexes w.shapes)
FollowAnswer size mid behind is table old rows turns w (Err why) = (why ≡ PagesFull size) × (free_pages size mid < all_open tree turns table.indexes w.shapes)

pub follow-answer : (size : ℕ) (mid : Pages) (behind : PlainTables) (is : IsTableStoreOf size mid behind) (table : StoredTable) (old rows : List Placed) (turns : List Turn) (w : Waiting size mid is.store table old) (answer : Result (Unit {0} × Pages) Refusal) → Contains is.store.found.tables table → scanned size mid table.first (Ok rows)
    → ((place : ℕ) → Fitting tree old turns place) → RowsTurn old turns rows → in_turn (λ (index : StoredIndex). in_turn (turn_work tree size index.root index.place) turns) table.indexes mid answer → FollowAnswer size mid behind is table old rows turns w answer
follow-answer size mid behind is table old rows turns w answer has scan fits turned work = go answer (all-answer tree size turns table.indexes mid (firsts_of is.store.found) (others_of w) old rows w.shapes w.each answer ready w.kept fits turned work)
  where
    ready : WellFormed size mid (firsts_of is.store.found) (all_pages w.each ++ (every w.left ++ every w.right))
    ready = index_pages_law.reorder size mid (firsts_of is.store.found) (every w.left ++ (all_pages w.each ++ every w.right)) (all_pages w.each ++ (every w.left ++ every w.right)) (subst (WellFormed size mid (firsts_of is.store.found)) w.held_are is.store.heap) (turned-out (every w.left) (all_pages w.each) (every w.right))

    go : (answer : Result (Unit {0} × Pages) Refusal) → AllAnswer tree size mid (firsts_of is.store.found) (others_of w) rows table.indexes (shapes_behind tree turns table.indexes w.shapes) w.each (all_open tree turns table.indexes w.shapes) answer → FollowAnswer size mid behind is table old rows turns w answer
    go (Ok y) edited = (followed-store size mid y.1 behind is table old rows (shapes_behind tree turns table.indexes w.shapes) (all_open tree turns table.indexes w.shapes) w has scan edited, edited)
    go (Err why) h = h
