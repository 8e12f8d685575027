-- How many pages a tree with one more entry has: proofs.
use Rattle.std.proofs.Common.{◌≡◌, ◌<◌, ◌≤◌, ◌+◌, ◌*◌, ◌++◌, ◌∙◌, ℕ, zero, suc, Bool, true, false, cond}
use Rattle.std.proofs.Common.{leb, List, [], ◌∷◌, length, map, take, drop, refl, sym, ap, arith}
use Rattle.std.specs.List.{flat_map, drop-map, AllByRecursion}
use Rattle.std.specs.Ordering.{is_lt}
use Rattle.std.specs.declared.cmp.Ordering.{Ordering}
use Rattle.std.specs.declared.cmp.Ordering.TheVariants.{Less, Equal, Greater}
use Rattle.std.proofs.lemmas.Bool.{leb-false}
use Rattle.std.proofs.lemmas.List.{append-nil, length-append, map-append, take-append-drop}
use Rattle.pager.specs.Index.{IsFound, found_cmp}
use Rattle.pager.specs.declared.index.Found.{Found}
use Rattle.index_page.specs.Entries.{entry_inserted}
use Rattle.index_page.specs.IndexPage.{AreOneMore, entry_code, have_room, half, more_for_half, width}
use Rattle.index_page.proofs.Halving.{halves_fit}
use Rattle.index_page.proofs.Packing.{length-entry, width-cons}
use Rattle.tree_index.specs.Climbing.{bare-behind, picked}
use Rattle.tree_index.specs.Shaping.{count-append}
use Rattle.tree_index.specs.Tree.{Body, Key, Row, Tree, bare, changed, count_behind, grown, inners, key_of, leaves}
use Rattle.tree_index.specs.Tree.{named, next_inner, next_leaf, nodes, page_count, rooted, row_keys, row_nodes}

abbrev pub row-count : (n : ℕ) → Row (Tree n) → ℕ
row-count n row = page_count n row.0 + count_behind (page_count n) row.1

-- the entries behind the middle of what has no room on a page
pub back-some : (es : List Found) → AllByRecursion IsFound es → AreOneMore es → have_room es ≡ false →
    0 < length (drop (half es) es)
back-some es all most full = step (drop (half es) es) refl
  where
    step : (l : List Found) → drop (half es) es ≡ l → 0 < length l
    step [] e =
        let front = take (half es) es in
        let whole : width front ≡ width es =
        ap width (sym (append-nil front) ∙ ap (λ (l : List Found). front ++ l) (sym e) ∙
        take-append-drop (half es) es) in
        absurd (omega (arith, whole, (halves_fit es all most).0, leb-false (width es) 1016 full))
    step (m ∷ back) e = omega arith

-- the rows of pages that were opened
next_inner-count : {X : Type 0} (count : X → ℕ) (l : List (Key × X)) →
    count_behind (λ (r : Row X). 1 + (count r.0 + count_behind count r.1)) (next_inner l)
    ≡ count_behind count l + length (row_keys (next_inner l))
next_inner-count count [] = omega arith
next_inner-count count (b ∷ back) = omega arith

pub inners-count : (n : ℕ) (row : Row (Tree n)) →
    row-count (suc n) (inners row) ≡ 1 + (row-count n row + length (row_keys (inners row).1))
inners-count n row = step (have_room (row_keys row.1))
  where
    total : Row (Row (Tree n)) → ℕ
    total r = row-count (suc n) r

    step : (t : Bool) →
        total (cond t (row, [])
        ((row.0, take (half (row_keys row.1)) row.1), next_inner (drop (half (row_keys row.1)) row.1)))
        ≡ 1 + (row-count n row + length
        (row_keys
        ((λ (r : Row (Row (Tree n))). r.1)
        (cond t (row, [])
        ((row.0, take (half (row_keys row.1)) row.1), next_inner (drop (half (row_keys row.1)) row.1))))))
    step true = omega arith
    step false =
        omega (
          arith,
          next_inner-count (page_count n) (drop (half (row_keys row.1)) row.1),
          count-append (page_count n) (take (half (row_keys row.1)) row.1) (drop (half (row_keys row.1)) row.1),
          ap (count_behind (page_count n)) (take-append-drop (half (row_keys row.1)) row.1),
        )

next_leaf-count : (l : List Found) → count_behind (page_count 0) (next_leaf l) ≡ length (row_keys (next_leaf l))
next_leaf-count [] = refl
next_leaf-count (m ∷ back) = refl

pub leaves-count : (es : List Found) → row-count 0 (leaves es) ≡ 1 + length (row_keys (leaves es).1)
leaves-count es = step (have_room es)
  where
    total : Row (List Found) → ℕ
    total r = row-count 0 r

    behind : Row (List Found) → ℕ
    behind r = length (row_keys r.1)

    step : (t : Bool) → total (cond t (es, []) (take (half es) es, next_leaf (drop (half es) es)))
        ≡ 1 + behind (cond t (es, []) (take (half es) es, next_leaf (drop (half es) es)))
    step true = omega arith
    step false = omega (arith, next_leaf-count (drop (half es) es))

-- at most one is opened on a level
few-leaves : (l : List Found) → length (row_keys (next_leaf l)) ≤ 1
few-leaves [] = omega arith
few-leaves (m ∷ back) = omega arith

few-inners : {X : Type 0} (l : List (Key × X)) → length (row_keys (next_inner l)) ≤ 1
few-inners [] = omega arith
few-inners (b ∷ back) = omega arith

leaves-few : (es : List Found) → length (row_keys (leaves es).1) ≤ 1
leaves-few es = step (have_room es)
  where
    behind : Row (List Found) → ℕ
    behind r = length (row_keys r.1)

    step : (t : Bool) → behind (cond t (es, []) (take (half es) es, next_leaf (drop (half es) es))) ≤ 1
    step true = omega arith
    step false = few-leaves (drop (half es) es)

inners-few : {X : Type 0} (row : Row X) → length (row_keys (inners row).1) ≤ 1
inners-few {X} row = step (have_room (row_keys row.1))
  where
    behind : Row (Row X) → ℕ
    behind r = length (row_keys r.1)

    step : (t : Bool) →
        behind (cond t (row, [])
        ((row.0, take (half (row_keys row.1)) row.1), next_inner (drop (half (row_keys row.1)) row.1))) ≤ 1
    step true = omega arith
    step false = few-inners (drop (half (row_keys row.1)) row.1)

-- what a row grows by is what the child grows by that is changed
pub changed-counts : {X : Type 0} (count : X → ℕ) (change : X → Row X) (e : Found) (first : X) (rest : List (Key × X)) →
    count (changed change e first rest).0 + count_behind count (changed change e first rest).1 + count
    (picked e first rest)
    ≡ count first + count_behind count rest
    + (count (change (picked e first rest)).0 + count_behind count (change (picked e first rest)).1)
changed-counts count change e first [] = omega arith
changed-counts {X} count change e first (b ∷ rest) =
    step (is_lt (found_cmp e (named b.0 0))) (changed-counts count change e b.1 rest)
  where
    total : Row X → ℕ
    total r = count r.0 + count_behind count r.1

    step : (t : Bool) →
        total (changed change e b.1 rest) + count (picked e b.1 rest) ≡ count b.1 + count_behind count rest + total
        (change (picked e b.1 rest)) →
        total (cond t ((change first).0, (change first).1 ++ b ∷ rest)
        (first, (b.0, (changed change e b.1 rest).0) ∷ (changed change e b.1 rest).1)) + count
        (cond t first (picked e b.1 rest)) ≡ count first + count_behind count (b ∷ rest) + total
        (change (cond t first (picked e b.1 rest)))
    step true more = omega (arith, count-append count (change first).1 (b ∷ rest))
    step false more = omega (arith, more)

-- a tree with numbers has as many pages
behind-count : (n : ℕ) → ((t : ℕ × Body n) → page_count n (bare n t.1) ≡ length (nodes n t)) →
    (rest : List (Key × (ℕ × Body n))) →
    count_behind (page_count n) (bare-behind n rest) ≡ length (flat_map (λ (b : Key × (ℕ × Body n)). nodes n b.1) rest)
behind-count n each [] = refl
behind-count n each (b ∷ rest) =
    omega (
      arith,
      each b.1,
      behind-count n each rest,
      length-append (nodes n b.1) (flat_map (λ (c : Key × (ℕ × Body n)). nodes n c.1) rest),
    )

pub nodes-count : (n : ℕ) (t : ℕ × Body n) → page_count n (bare n t.1) ≡ length (nodes n t)
nodes-count zero t = refl
nodes-count (suc n) t =
    omega (
      arith,
      nodes-count n t.1.0,
      behind-count n (nodes-count n) t.1.1,
      length-append (nodes n t.1.0) (flat_map (λ (c : Key × (ℕ × Body n)). nodes n c.1) t.1.1),
    )

pub row-nodes-count : (n : ℕ) (row : Row (ℕ × Body n)) →
    row-count n (bare n row.0.1, bare-behind n row.1) ≡ length (row_nodes (nodes n) row)
row-nodes-count n row =
    omega (
      arith,
      nodes-count n row.0,
      behind-count n (nodes-count n) row.1,
      length-append (nodes n row.0) (flat_map (λ (c : Key × (ℕ × Body n)). nodes n c.1) row.1),
    )

-- how many more there are does not depend on the page of the entry
pub pageless-width : (es : List Found) → width es ≡ width (map (λ (f : Found). named (key_of f) 0) es)
pageless-width [] = refl
pageless-width (f ∷ es) =
    omega (
      arith,
      width-cons f es,
      width-cons (named (key_of f) 0) (map (λ (g : Found). named (key_of g) 0) es),
      length-entry f,
      length-entry (named (key_of f) 0),
      pageless-width es,
    )

pageless-more : (total filled : ℕ) (es : List Found) →
    more_for_half total filled es ≡ more_for_half total filled (map (λ (f : Found). named (key_of f) 0) es)
pageless-more total filled [] = refl
pageless-more total filled (f ∷ es) =
    ap (λ (k : ℕ). cond (leb total (2 * filled)) 0 (suc k))
    (pageless-more total (filled + length (entry_code f)) es ∙
    ap (λ (w : ℕ). more_for_half total (filled + w) (map (λ (g : Found). named (key_of g) 0) es))
    (length-entry f ∙ sym (length-entry (named (key_of f) 0))))

pageless-half : (es : List Found) → half es ≡ half (map (λ (f : Found). named (key_of f) 0) es)
pageless-half es =
    pageless-more (width es) 0 es ∙ ap (λ (w : ℕ). more_for_half w 0 (map (λ (f : Found). named (key_of f) 0) es))
    (pageless-width es)

first-of : List Found → List Found
first-of [] = []
first-of (f ∷ rest) = f ∷ []

next_leaf-keys : (l : List Found) → row_keys (next_leaf l) ≡ first-of (map (λ (f : Found). named (key_of f) 0) l)
unfolding first-of
next_leaf-keys [] = refl
next_leaf-keys (f ∷ rest) = refl

next_inner-keys : {X : Type 0} (l : List (Key × X)) → row_keys (next_inner l) ≡ first-of (row_keys l)
unfolding first-of
next_inner-keys [] = refl
next_inner-keys (b ∷ rest) = refl

-- the keys that go on up, told by the keys alone
up-keys : List Found → List Found
up-keys ks = cond (have_room ks) [] (first-of (drop (half ks) ks))

leaves-keys : (es : List Found) → row_keys (leaves es).1 ≡ up-keys (map (λ (f : Found). named (key_of f) 0) es)
unfolding up-keys
leaves-keys es = step (have_room es) (ap (λ (w : ℕ). leb w 1016) (pageless-width es))
  where
    keys : Row (List Found) → List Found
    keys r = row_keys r.1

    step : (t : Bool) → t ≡ have_room (map (λ (f : Found). named (key_of f) 0) es) →
        keys (cond t (es, []) (take (half es) es, next_leaf (drop (half es) es)))
        ≡ cond (have_room (map (λ (f : Found). named (key_of f) 0) es)) []
        (first-of
        (drop (half (map (λ (f : Found). named (key_of f) 0) es)) (map (λ (f : Found). named (key_of f) 0) es)))
    step true q =
        ap (λ (t : Bool). cond t []
        (first-of
        (drop (half (map (λ (f : Found). named (key_of f) 0) es)) (map (λ (f : Found). named (key_of f) 0) es)))) q
    step false q =
        next_leaf-keys (drop (half es) es) ∙
        ap first-of
        (sym (drop-map (λ (f : Found). named (key_of f) 0) (half es) es) ∙
        ap (λ (k : ℕ). drop k (map (λ (f : Found). named (key_of f) 0) es)) (pageless-half es))
        ∙ ap (λ (t : Bool). cond t []
        (first-of
        (drop (half (map (λ (f : Found). named (key_of f) 0) es)) (map (λ (f : Found). named (key_of f) 0) es)))) q

inners-keys : {X : Type 0} (row : Row X) → row_keys (inners row).1 ≡ up-keys (row_keys row.1)
unfolding up-keys
inners-keys {X} row = step (have_room (row_keys row.1))
  where
    keys : Row (Row X) → List Found
    keys r = row_keys r.1

    step : (t : Bool) →
        keys (cond t (row, [])
        ((row.0, take (half (row_keys row.1)) row.1), next_inner (drop (half (row_keys row.1)) row.1)))
        ≡ cond t [] (first-of (drop (half (row_keys row.1)) (row_keys row.1)))
    step true = refl
    step false =
        next_inner-keys (drop (half (row_keys row.1)) row.1) ∙
        ap first-of (sym (drop-map (λ (b : Key × X). named b.0 0) (half (row_keys row.1)) row.1))

same-inserted : (e : Found) (page : ℕ) (es : List Found) →
    map (λ (f : Found). named (key_of f) 0) (entry_inserted (named (key_of e) page) es)
    ≡ map (λ (f : Found). named (key_of f) 0) (entry_inserted e es)
same-inserted e page [] = refl
same-inserted e page (f ∷ es) = step (found_cmp f e) refl (same-inserted e page es)
  where
    step : (o : Ordering) → found_cmp f e ≡ o →
        map (λ (g : Found). named (key_of g) 0) (entry_inserted (named (key_of e) page) es)
        ≡ map (λ (g : Found). named (key_of g) 0) (entry_inserted e es) →
        map (λ (g : Found). named (key_of g) 0) (entry_inserted (named (key_of e) page) (f ∷ es))
        ≡ map (λ (g : Found). named (key_of g) 0) (entry_inserted e (f ∷ es))
    step Less q more = rw q (ap (λ (l : List Found). named (key_of f) 0 ∷ l) more)
    step Equal q more = rw q refl
    step Greater q more = rw q refl

changed-same : {X : Type 0} (one two : X → Row X) (e : Found) (page : ℕ)
    (same : (x : X) → row_keys (one x).1 ≡ row_keys (two x).1) (first : X) (rest : List (Key × X)) →
    row_keys (changed one (named (key_of e) page) first rest).1 ≡ row_keys (changed two e first rest).1
changed-same one two e page same first [] = same first
changed-same {X} one two e page same first (b ∷ rest) =
    step (is_lt (found_cmp e (named b.0 0))) (changed-same one two e page same b.1 rest)
  where
    keys : Row X → List Found
    keys r = row_keys r.1

    step : (t : Bool) →
        row_keys (changed one (named (key_of e) page) b.1 rest).1 ≡ row_keys (changed two e b.1 rest).1 →
        keys (cond t ((one first).0, (one first).1 ++ b ∷ rest) (
          first,
          (b.0, (changed one (named (key_of e) page) b.1 rest).0)
              ∷ (changed one (named (key_of e) page) b.1 rest).1,
        ))
        ≡ keys (cond t ((two first).0, (two first).1 ++ b ∷ rest)
        (first, (b.0, (changed two e b.1 rest).0) ∷ (changed two e b.1 rest).1))
    step true more = map-append (λ (c : Key × X). named c.0 0) (one first).1 (b ∷ rest) ∙
        ap (λ (l : List Found). l ++ row_keys (b ∷ rest)) (same first) ∙
        sym (map-append (λ (c : Key × X). named c.0 0) (two first).1 (b ∷ rest))
    step false more = ap (λ (l : List Found). named b.0 0 ∷ l) more

pub grown-keys : (e : Found) (page n : ℕ) (tree : Tree n) →
    row_keys (grown (named (key_of e) page) n tree).1 ≡ row_keys (grown e n tree).1
grown-keys e page zero es =
    leaves-keys (entry_inserted (named (key_of e) page) es) ∙ ap up-keys (same-inserted e page es) ∙
    sym (leaves-keys (entry_inserted e es))
grown-keys e page (suc n) row =
    inners-keys (changed (grown (named (key_of e) page) n) (named (key_of e) page) row.0 row.1)
    ∙ ap up-keys (changed-same (grown (named (key_of e) page) n) (grown e n) e page (grown-keys e page n) row.0 row.1)
    ∙ sym (inners-keys (changed (grown e n) e row.0 row.1))

same-picked : {X : Type 0} (e : Found) (page : ℕ) (first : X) (rest : List (Key × X)) →
    picked (named (key_of e) page) first rest ≡ picked e first rest
same-picked e page first [] = refl
same-picked e page first (b ∷ rest) =
    ap (λ x. cond (is_lt (found_cmp e (named b.0 0))) first x) (same-picked e page b.1 rest)

pub grown-count : (e : Found) (page n : ℕ) (tree : Tree n) →
    row-count n (grown (named (key_of e) page) n tree) ≡ row-count n (grown e n tree)
grown-count e page zero es =
    omega (
      arith,
      leaves-count (entry_inserted (named (key_of e) page) es),
      leaves-count (entry_inserted e es),
      ap length (grown-keys e page 0 es),
    )
grown-count e page (suc n) row =
    let low = named (key_of e) page in
    let at = picked e row.0 row.1 in
    let moved : row-count n (grown low n (picked low row.0 row.1)) ≡ row-count n (grown low n at) =
    ap (λ (t : Tree n). row-count n (grown low n t)) (same-picked e page row.0 row.1) in
    let counted : page_count n (picked low row.0 row.1) ≡ page_count n at =
    ap (page_count n) (same-picked e page row.0 row.1) in
    omega (
      arith,
      inners-count n (changed (grown low n) low row.0 row.1),
      inners-count n (changed (grown e n) e row.0 row.1),
      ap length (grown-keys e page (suc n) row),
      changed-counts (page_count n) (grown low n) low row.0 row.1,
      changed-counts (page_count n) (grown e n) e row.0 row.1,
      grown-count e page n at,
      moved,
      counted,
    )

-- at most one a level is opened
pub grown-most : (e : Found) (n : ℕ) (tree : Tree n) → row-count n (grown e n tree) ≤ page_count n tree + suc n
grown-most e zero es = omega (arith, leaves-count (entry_inserted e es), leaves-few (entry_inserted e es))
grown-most e (suc n) row =
    omega (
      arith,
      inners-count n (changed (grown e n) e row.0 row.1),
      inners-few (changed (grown e n) e row.0 row.1),
      changed-counts (page_count n) (grown e n) e row.0 row.1,
      grown-most e n (picked e row.0 row.1),
    )

-- a tree under its root page
pub rooted-count : (n : ℕ) (first : Tree n) (behind : List (Key × Tree n)) →
    page_count (rooted n first behind).levels (rooted n first behind).tree ≡ row-count n (first, behind) + cond
    (leb 1 (length (row_keys behind))) 1 0
rooted-count n first [] = omega arith
rooted-count n first (b ∷ rest) = step (leb 1 (length (row_keys (b ∷ rest)))) refl
  where
    step : (t : Bool) → leb 1 (length (row_keys (b ∷ rest))) ≡ t →
        1 + (page_count n first + count_behind (page_count n) (b ∷ rest)) ≡ row-count n (first, b ∷ rest) + cond t 1 0
    step true q = omega arith
    step false q = absurd (omega (arith, leb-false 1 (length (row_keys (b ∷ rest))) q))
