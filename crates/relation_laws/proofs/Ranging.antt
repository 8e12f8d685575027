-- The rows of a table that an index lists from a value to another.
use Rattle.std.proofs.Common.{◌≡◌, ◌∙◌, ◌<◌, ◌≤◌, ◌++◌, ◌&&◌, cond, not, ℕ, zero, suc, Bool, true, false, List, [], ◌∷◌, map, Option, Some, None, Result, Ok, Err, inl, inr, refl, sym, ap, subst, arith, eqb}
use Rattle.std.specs.List.{AllByRecursion, AllZip, Contains, cons_option, filter}
use Rattle.std.specs.List.Sorted.{IsNonDecreasingBy, IsPermutation, IsStrictlySortedBy}
use Rattle.std.specs.Option.{option_map}
use Rattle.std.specs.Ordering.{is_gt, is_lt}
use Rattle.std.specs.Prelude.{slice_get}
use Rattle.std.specs.declared.cmp.Ordering.TheVariants.{Less, Equal}
use Rattle.std.proofs.lemmas.Bool.Decides.{eqb_tells}
use Rattle.std.proofs.lemmas.Cmp.{tied_itself}
use Rattle.std.proofs.lemmas.List.Sorted.{Contains-permutation, IsPermutation-sym, sum_by-IsPermutation}
use Rattle.retro_base.specs.declared.refusal.Refusal.{Refusal}
use Rattle.values.specs.Value.{kind_of, value_cmp}
use Rattle.values.specs.declared.value.Value.{Value}
use Rattle.sql_tree.specs.Rows.{fits}
use Rattle.sql_tree.specs.declared.statement.Column.{Column as TableColumn}
use Rattle.pager.specs.Allows.{◌>>=◌, only}
use Rattle.values.specs.declared.value.Kind.{Kind}
use Rattle.pager.specs.Index.{AreOfKind, IsInOrder, between, found_cmp}
use Rattle.pager.specs.Pages.{Pages}
use Rattle.pager.specs.declared.index.Found.{Found}
use Rattle.tree_index.specs.Work.{ranged}
use Rattle.heap_file.specs.declared.chain.Placed.{Placed}
use Rattle.heap_file.specs.Work.{got}
use Rattle.heap_file.proofs.Ones.{answers_are_one}
use Rattle.heap_laws.specs.Table.{Table}
use Rattle.heap_laws.proofs.Counts.{keyed, keyed-cons, keyed-other, keyed-same, keyed-split}
use Rattle.heap_laws.proofs.Reading.{ok-one, row-got, rows-numbered, scan-one, table-numbered}
use Rattle.relation.specs.Each.{each_some}
use Rattle.relation.specs.Entries.{entry_of}
use Rattle.relation.specs.Sieving.{fitting, passing_found}
use Rattle.relation.specs.Work.{by_number, row_found, rows_at}
use Rattle.relation.specs.declared.catalog.StoredTable.{StoredTable}
use Rattle.relation_laws.specs.Laws.{RangedLaw, lies_between, value_between}
use Rattle.relation_laws.specs.Tables.{AreEntriesOf, KeepsIndex, KeepsIndexes, numbered_row}
use Rattle.relation_laws.proofs.Catalogs.{goes-on}
use Rattle.relation_laws.proofs.ColumnKinds.{entry-kind, kind_in}
use Rattle.relation_laws.proofs.Following.{kind-of-entries}
use Rattle.relation_laws.proofs.Holding.{tree, zip-right}
use Rattle.relation_laws.proofs.KeyTurns.{entry-named, entry_number, filter-keeps, filter-of, made-of, of-made, row_number, some-is}
use Rattle.relation_laws.proofs.Lists.{all-at, contains-cases, contains-cons, contains-head, contains-map, keyed-one}
use Rattle.relation_laws.proofs.Rising.{Rising, rising-filter, rising-once, rising-one, rising-rows}
use Rattle.relation_laws.proofs.Singling.{Single, firsts_of, has-first, named-in, rows-read, single}
use Rattle.relation_laws.proofs.TableStores.{tables_of}
use Rattle.pager.proofs.Orders.{found_total}

-- entries in order, of which two of one number are one, have each number once
once-each : (xs : List Found) → IsInOrder xs → ((x y : Found) → Contains xs x → Contains xs y → x.number ≡ y.number → x ≡ y) → (n : ℕ) → keyed entry_number n xs ≤ 1
unfolding IsStrictlySortedBy
once-each [] up one n = omega arith
once-each (x ∷ xs) up one n = elim (eqb_tells x.number n) [
  | inr apart ↦ omega (arith, keyed-other entry_number n x xs apart.1, once-each xs up.1 (λ a b has also. one a b (contains-cons a x xs has) (contains-cons b x xs also)) n)
  | inl same ↦ elim (eqb_tells (keyed entry_number n xs) 0) [
    | inl none ↦ omega (arith, keyed-same entry_number n x xs same.1, none.1)
    | inr some ↦
        let split = keyed-split entry_number n xs (omega (arith, some.1)) in
        let there : Contains xs split.1 = subst (λ (l : List Found). Contains l split.1) (sym split.3) (middle split.0 split.1 split.2) in
        let equal : x ≡ split.1 = one x split.1 (contains-head x xs) (contains-cons split.1 x xs there) (same.1 ∙ sym split.4) in
        absurd (clash (sym (tied_itself found_total x) ∙ ap (found_cmp x) equal ∙ all-at (λ (y : Found). found_cmp x y ≡ Less) xs split.1 up.0 there))
  ]
]
  where
    clash : Equal ≡ Less → ⊥
    clash e = absurd cc

    middle : (a : List Found) (y : Found) (b : List Found) → Contains (a ++ y ∷ b) y
    middle [] y b = contains-head y b
    middle (z ∷ a) y b = contains-cons y z (a ++ y ∷ b) (middle a y b)

keyed-filter : (n : ℕ) (test : Found → Bool) (xs : List Found) → keyed entry_number n (filter test xs) ≤ keyed entry_number n xs
keyed-filter n test [] = omega arith
keyed-filter n test (x ∷ xs) = go (test x) (keyed-filter n test xs)
  where
    go : (b : Bool) → keyed entry_number n (filter test xs) ≤ keyed entry_number n xs → keyed entry_number n (cond b (x ∷ filter test xs) (filter test xs)) ≤ keyed entry_number n (x ∷ xs)
    go true le = omega (arith, le, keyed-cons entry_number n x (filter test xs), keyed-cons entry_number n x xs)
    go false le = omega (arith, le, keyed-cons entry_number n x xs)

-- the rows of entries
abbrev RowOf : ℕ → List Placed → Found → Placed → Type 0
RowOf place rows entry placed = Contains rows placed × (entry_of place placed ≡ Some entry)

-- an entry tells its row's number, page and value
abbrev entry_made : Placed → Option Value → Option Found
entry_made placed value = option_map (λ (value : Value). record { value = value; number = placed.number; page = placed.page }) value

pub record Made (place : ℕ) (placed : Placed) (entry : Found) : Type 0 where
  number : entry.number ≡ placed.number
  page : entry.page ≡ placed.page
  value : slice_get placed.row place ≡ Some entry.value

made-entry : (place : ℕ) (placed : Placed) (entry : Found) → entry_of place placed ≡ Some entry → Made place placed entry
made-entry place placed entry e = go (slice_get placed.row place) refl e
  where
    go : (o : Option Value) → slice_get placed.row place ≡ o → entry_made placed o ≡ Some entry → Made place placed entry
    go None is h = absurd cc
    go (Some value) is h =
        let same = some-is h in
        record { number = ap (λ (f : Found). f.number) (sym same); page = ap (λ (f : Found). f.page) (sym same); value = is ∙ ap (λ (f : Found). Some f.value) same }

-- each entry's row is found
module _ (size : ℕ) (pages : Pages) (columns : List TableColumn) (place : ℕ) (rows : List Placed) (there : (p : Placed) → Contains rows p → got size pages p.page p.number (Ok (Some p.row))) (fit : (p : Placed) → Contains rows p → fits columns p.row ≡ true) where
  one-found : (e : Found) (p : Placed) → RowOf place rows e p → (a : Result (Option Placed) Refusal) → row_found (fitting columns (λ placed. Ok true)) size pages e a → a ≡ Ok (Some p)
  one-found e p is a h =
      let made = made-entry place p e is.1 in
      sym (goes-on (got size pages e.page e.number) (λ row. only (passing_found (fitting columns (λ placed. Ok true)) e row)) (Some p.row)
      (λ b told. answers_are_one.get size pages e.page e.number b (Ok (Some p.row)) told (subst (λ (n : ℕ). got size pages e.page n (Ok (Some p.row))) (sym made.number) (subst (λ (q : ℕ). got size pages q p.number (Ok (Some p.row))) (sym made.page) (there p is.0)))) a h)
      ∙ (rw (fit p is.0) (λ i. Ok (Some (record { number = made.number i; page = made.page i; row = p.row }))))

  pub record AllFound (entries : List Found) (answer : Result (List Placed) Refusal) : Type 0 where
    found : List Placed
    is : answer ≡ Ok found
    zipped : AllZip (RowOf place rows) entries found

  all-found : (entries : List Found) → ((e : Found) → Contains entries e → (p : Placed) × RowOf place rows e p) → (answer : Result (List Placed) Refusal) → each_some (row_found (fitting columns (λ placed. Ok true)) size pages) entries answer → AllFound entries answer
  all-found [] of answer h = record { found = []; is = sym h; zipped = tt }
  all-found (e ∷ entries) of (Ok y) (o, step, (rest, more, joined)) =
      let row = of e (contains-head e entries) in
      let first : o ≡ Some row.0 = ok-one (one-found e row.0 row.1 (Ok o) step) in
      let follow = all-found entries (λ x has. of x (contains-cons x e entries has)) (Ok rest) more in
      let behind : rest ≡ follow.found = ok-one follow.is in
      record { found = row.0 ∷ follow.found; is = sym joined ∙ ap (λ (p : Option Placed). Ok (cons_option p rest)) first ∙ ap (λ (l : List Placed). Ok (row.0 ∷ l)) behind; zipped = (row.1, follow.zipped) }
  all-found (e ∷ entries) of (Err why) (inl step) =
      let row = of e (contains-head e entries) in
      absurd (clash (one-found e row.0 row.1 (Err why) step))
    where
      clash : {x : Option Placed} → Err why ≡ Ok x → ⊥
      clash c = absurd cc
  all-found (e ∷ entries) of (Err why) (inr (o, step, inl more)) =
      let follow = all-found entries (λ x has. of x (contains-cons x e entries has)) (Err why) more in
      absurd (clash follow.is)
    where
      clash : {x : List Placed} → Err why ≡ Ok x → ⊥
      clash c = absurd cc
  all-found (e ∷ entries) of (Err why) (inr (o, step, inr (rest, more, joined))) = absurd cc

-- the rows beside rising entries rise
rising-beside : (place : ℕ) (rows : List Placed) (entries : List Found) (found : List Placed) → AllZip (RowOf place rows) entries found → Rising entry_number entries → Rising row_number found
rising-beside place rows [] [] zipped up = tt
rising-beside place rows [] (p ∷ found) zipped up = absurd zipped
rising-beside place rows (e ∷ entries) [] zipped up = absurd zipped
rising-beside place rows (e ∷ entries) (p ∷ found) zipped up = (all entries found zipped.1 up.0, rising-beside place rows entries found zipped.1 up.1)
  where
    all : (es : List Found) (ps : List Placed) → AllZip (RowOf place rows) es ps → AllByRecursion (λ (y : Found). e.number < y.number) es → AllByRecursion (λ (y : Placed). p.number < y.number) ps
    all [] [] z a = tt
    all [] (q ∷ ps) z a = absurd z
    all (x ∷ es) [] z a = absurd z
    all (x ∷ es) (q ∷ ps) z a = (omega (arith, a.0, entry-named place p e zipped.0.1, entry-named place q x z.0.1), all es ps z.1 a.1)

-- what stands beside an item of the second list
zip-back : {A B : Type 0} (R : A → B → Type 0) (xs : List A) (ys : List B) (y : B) → AllZip R xs ys → Contains ys y → (x : A) × Contains xs x × R x y
zip-back R xs [] y all has = absurd (omega (arith, has.1))
zip-back R [] (z ∷ ys) y all has = absurd all
zip-back R (x ∷ xs) (z ∷ ys) y all has =
    contains-cases z y ys has
    (λ here. (x, contains-head x xs, subst (R x) here all.0))
    (λ there. let rest = zip-back R xs ys y all.1 there in (rest.0, contains-cons rest.0 x xs rest.1, rest.2))

zip-on : {A B : Type 0} (R : A → B → Type 0) (xs : List A) (ys : List B) (x : A) → AllZip R xs ys → Contains xs x → (y : B) × Contains ys y × R x y
zip-on R [] ys x all has = absurd (omega (arith, has.1))
zip-on R (z ∷ xs) [] x all has = absurd all
zip-on R (z ∷ xs) (y ∷ ys) x all has =
    contains-cases z x xs has
    (λ here. (y, contains-head y ys, subst (λ w. R w y) here all.0))
    (λ there. let rest = zip-on R xs ys x all.1 there in (rest.0, contains-cons rest.0 y ys rest.1, rest.2))

kind-at : (columns : List TableColumn) (place : ℕ) (column : TableColumn) → slice_get columns place ≡ Some column → kind_in columns place ≡ column.kind
kind-at [] place column e = absurd cc
kind-at (c ∷ columns) zero column e = ap (λ (k : TableColumn). k.kind) (some-is e)
kind-at (c ∷ columns) (suc place) column e = kind-at columns place column e

-- an entry that lies between is one of a row that does
lies-as : (place : ℕ) (low high : Value) (p : Placed) (e : Found) → entry_of place p ≡ Some e → lies_between place low high p ≡ not (is_lt (value_cmp e.value low)) && not (is_gt (value_cmp e.value high))
lies-as place low high p e is = ap (value_between low high) (made-entry place p e is).value

-- a row that lies between has an entry
lies-entry : (place : ℕ) (low high : Value) (p : Placed) → lies_between place low high p ≡ true → (e : Found) × (entry_of place p ≡ Some e)
lies-entry place low high p is = go (slice_get p.row place) is
  where
    go : (o : Option Value) → value_between low high o ≡ true → (e : Found) × (entry_made p o ≡ Some e)
    go None h = absurd cc
    go (Some value) h = (record { value = value; number = p.number; page = p.page }, refl)

-- entries in rising number
abbrev SortedOf : List Found → List Found → Type 0
SortedOf found sorted = IsPermutation found sorted × IsNonDecreasingBy entry_number sorted

pub ranged_law : RangedLaw
ranged_law size pages all table stored index column low high rows answer store has named among at kind_low kind_high read work = by answer listed_work
  where
    one : Single size pages all table (tables_of size pages all store)
    one = single size pages all table (tables_of size pages all store) has

    before : Table
    before = record { next_number = table.next_number; rows = one.shows.placed }

    same : stored ≡ one.stored
    same = ok-one (named-in size pages all table (tables_of size pages all store) one (Ok stored) named)

    shown : rows ≡ one.shows.placed
    shown = ok-one (rows-read size pages all table (tables_of size pages all store) one (Ok rows) (subst (λ (t : StoredTable). rows_at size pages t (Ok rows)) same read))

    first : List ℕ
    first = firsts_of store.store.base.found

    table-has : Contains first one.stored.first
    table-has = has-first store.store.base.found one.stored one.has

    keeps : (each : List (List ℕ)) × KeepsIndexes size pages one.stored each
    keeps = zip-right (KeepsIndexes size pages) store.store.base.found.tables store.store.held one.stored store.store.indexed one.has

    kept : (held : List ℕ) × KeepsIndex size pages keeps.1.rows index held
    kept = zip-right (KeepsIndex size pages keeps.1.rows) one.stored.indexes keeps.0 index keeps.1.each (subst (λ (t : StoredTable). Contains t.indexes index) same among)

    rows_same : keeps.1.rows ≡ rows
    rows_same = ok-one (scan-one size pages first store.store.base.held one.stored.first store.store.base.heap table-has (Ok keeps.1.rows) (Ok one.shows.placed) keeps.1.scan one.shows.is_table.rows) ∙ sym shown

    entries : List Found
    entries = tree.entries kept.1.shape

    are : AreEntriesOf index.place rows entries
    are = subst (λ (r : List Placed). AreEntriesOf index.place r entries) rows_same kept.1.entries

    fit : (p : Placed) → Contains rows p → fits stored.columns p.row ≡ true
    fit p here =
        let in_rows : Contains one.shows.placed p = subst (λ (r : List Placed). Contains r p) shown here in
        let told : AllByRecursion (λ (row : ℕ × List Value). fits one.stored.columns row.1 ≡ true) (map numbered_row one.shows.placed) =
        subst (λ (l : List (ℕ × List Value)). AllByRecursion (λ (row : ℕ × List Value). fits one.stored.columns row.1 ≡ true) l) one.shows.rows
        (subst (λ (columns : List TableColumn). AllByRecursion (λ (row : ℕ × List Value). fits columns row.1 ≡ true) table.rows) one.shows.columns one.shows.fitting) in
        subst (λ (t : StoredTable). fits t.columns p.row ≡ true) (sym same) (all-at (λ (row : ℕ × List Value). fits one.stored.columns row.1 ≡ true) (map numbered_row one.shows.placed) (numbered_row p) told (contains-map numbered_row one.shows.placed p in_rows))

    there : (p : Placed) → Contains rows p → got size pages p.page p.number (Ok (Some p.row))
    there p here = row-got size pages first store.store.base.held one.stored.first before p store.store.base.heap table-has one.shows.is_table (subst (λ (r : List Placed). Contains r p) shown here)

    kinds : AreOfKind (kind_of low) entries
    kinds =
        let is : kind_in stored.columns index.place ≡ kind_of low = kind-at stored.columns index.place column at ∙ sym kind_low in
        subst (λ (k : Kind). AreOfKind k entries) is (kind-of-entries (kind_in stored.columns index.place) index.place rows entries are (λ p here. entry-kind stored.columns index.place p (fit p here)))

    listed_is : (a : Result (List Found) Refusal) → ranged size index.root low high pages a → a ≡ Ok (between low high entries)
    listed_is a h = tree.indexing.range size index.root low high pages kept.1.shape kept.0 a kept.1.lists kinds (kind_high ∙ sym kind_low) h

    listed_work : (by_number (between low high entries) >>= each_some (row_found (fitting stored.columns (λ placed. Ok true)) size pages)) answer
    listed_work = goes-on (ranged size index.root low high pages) (λ found. by_number found >>= each_some (row_found (fitting stored.columns (λ placed. Ok true)) size pages)) (between low high entries) listed_is answer work

    unique-rows : (x y : Placed) → Contains rows x → Contains rows y → x.number ≡ y.number → x ≡ y
    unique-rows x y in_ also e =
        keyed-one row_number x.number one.shows.placed x y (rows-numbered size pages first store.store.base.held one.stored.first before store.store.base.heap table-has one.shows.is_table x.number).0
        (subst (λ (r : List Placed). Contains r x) shown in_) (subst (λ (r : List Placed). Contains r y) shown also) refl (sym e)

    unique-entries : (x y : Found) → Contains entries x → Contains entries y → x.number ≡ y.number → x ≡ y
    unique-entries x y in_ also e =
        let p = made-of (entry_of index.place) rows x (are.told x in_) in
        let q = made-of (entry_of index.place) rows y (are.told y also) in
        let row : p.0 ≡ q.0 = unique-rows p.0 q.0 p.1 q.1 (sym (entry-named index.place p.0 x p.2) ∙ e ∙ entry-named index.place q.0 y q.2) in
        some-is (sym p.2 ∙ ap (entry_of index.place) row ∙ q.2)

    test : Found → Bool
    test found = not (is_lt (value_cmp found.value low)) && not (is_gt (value_cmp found.value high))

    row-of : (sorted : List Found) → SortedOf (between low high entries) sorted → (e : Found) → Contains sorted e → (p : Placed) × RowOf index.place rows e p
    row-of sorted is e in_ =
        let back = Contains-permutation sorted (between low high entries) e (IsPermutation-sym (between low high entries) sorted is.0) in_ in
        let row = made-of (entry_of index.place) rows e (are.told e (filter-of test entries e back).0) in
        (row.0, (row.1, row.2))

    finish : (sorted : List Found) → SortedOf (between low high entries) sorted → (answer : Result (List Placed) Refusal) → AllFound size pages stored.columns index.place rows there fit sorted answer → answer ≡ Ok (filter (lies_between index.place low high) rows)
    finish sorted is answer found = found.is ∙ ap (λ (l : List Placed). Ok l) (rising-one row_number found.found (filter (lies_between index.place low high) rows) up also left right)
      where
        once : (n : ℕ) → keyed entry_number n sorted ≤ 1
        once n = omega (arith, sum_by-IsPermutation (λ (y : Found). cond (eqb (entry_number y) n) 1 0) (between low high entries) sorted is.0, keyed-filter n test entries, once-each entries (tree.shaped.in_order kept.1.shape (tree.listed.shape size index.root pages kept.1.shape kept.0 kept.1.lists)) unique-entries n)

        up : Rising row_number found.found
        up = rising-beside index.place rows sorted found.found found.zipped (rising-once sorted is.1 once)

        rows_up : Rising row_number rows
        rows_up = subst (Rising row_number) (sym shown) (rising-rows one.shows.placed (table-numbered size pages first store.store.base.held one.stored.first before store.store.base.heap table-has one.shows.is_table).rise)

        also : Rising row_number (filter (lies_between index.place low high) rows)
        also = rising-filter row_number (lies_between index.place low high) rows rows_up

        left : (p : Placed) → Contains found.found p → Contains (filter (lies_between index.place low high) rows) p
        left p in_ =
            let e = zip-back (RowOf index.place rows) sorted found.found p found.zipped in_ in
            let back = Contains-permutation sorted (between low high entries) e.0 (IsPermutation-sym (between low high entries) sorted is.0) e.1 in
            filter-keeps (lies_between index.place low high) rows p e.2.0 (lies-as index.place low high p e.0 e.2.1 ∙ (filter-of test entries e.0 back).1)

        right : (p : Placed) → Contains (filter (lies_between index.place low high) rows) p → Contains found.found p
        right p in_ =
            let it = filter-of (lies_between index.place low high) rows p in_ in
            let e = lies-entry index.place low high p it.1 in
            let in_entries = are.listed e.0 (of-made (entry_of index.place) rows p e.0 it.0 e.1) in
            let in_between = filter-keeps test entries e.0 in_entries (sym (lies-as index.place low high p e.0 e.1) ∙ it.1) in
            let q = zip-on (RowOf index.place rows) sorted found.found e.0 found.zipped (Contains-permutation (between low high entries) sorted e.0 is.0 in_between) in
            let row : q.0 ≡ p = unique-rows q.0 p q.2.0 it.0 (sym (entry-named index.place q.0 e.0 q.2.1) ∙ entry-named index.place p e.0 e.1) in
            subst (Contains found.found) row q.1

    by : (answer : Result (List Placed) Refusal) → (by_number (between low high entries) >>= each_some (row_found (fitting stored.columns (λ placed. Ok true)) size pages)) answer → answer ≡ Ok (filter (lies_between index.place low high) rows)
    by (Ok y) (sorted, is, found) = finish sorted is (Ok y) (all-found size pages stored.columns index.place rows there fit sorted (row-of sorted is) (Ok y) found)
    by (Err why) (inl refused) = absurd refused
    by (Err why) (inr (sorted, is, found)) = finish sorted is (Err why) (all-found size pages stored.columns index.place rows there fit sorted (row-of sorted is) (Err why) found)
