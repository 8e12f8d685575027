-- The laws of a tree: proofs.
use Rattle.std.proofs.Common.{◌⊎◌, ◌≡◌, ◌<◌, ◌+◌, ◌-◌, ◌^◌, ◌++◌, ◌∙◌, not, ℕ, zero, suc}
use Rattle.std.proofs.Common.{Bool, true, false, cond, eqb, leb, ltb, List, [], ◌∷◌, length}
use Rattle.std.proofs.Common.{None, Result, Ok, Err, refl, sym, ap, subst, inl, inr, arith}
use Rattle.std.specs.Prelude.{nat_eq}
use Rattle.std.specs.List.{flat_map, AllByRecursion, IsDistinct}
use Rattle.std.specs.Ordering.{is_gt, is_lt, nat_cmp, ordering_reverse, ordering_then}
use Rattle.std.specs.declared.cmp.Ordering.{Ordering}
use Rattle.std.specs.declared.cmp.Ordering.TheVariants.{Less, Equal, Greater}
use Rattle.std.proofs.lemmas.Bool.{and_left, and_right, ltb-true}
use Rattle.std.proofs.lemmas.Bool.Decides.{eqb_tells}
use Rattle.std.proofs.lemmas.List.{append-nil, length-append, length-map}
use Rattle.std.proofs.lemmas.List.Elements.{filter-append}
use Rattle.std.proofs.lemmas.List.Sorted.{length_permutation}
use Rattle.retro_base.specs.declared.refusal.Refusal.{Refusal}
use Rattle.values.proofs.Orders.{value_total}
use Rattle.values.specs.Value.{kind_of, value_cmp}
use Rattle.values.specs.declared.value.Value.{Value}
use Rattle.pager.specs.Index.{AddsFound, AreOfKind, EditsOnly, IsApart, IsFound}
use Rattle.pager.specs.Index.{IsIndexing, MakesIndex, RemovesFound, between, found_cmp}
use Rattle.pager.specs.Pages.{Pages, with_bytes}
use Rattle.pager.specs.declared.index.Found.{Found}
use Rattle.index_page.specs.IndexPage.{AreWritable, page_bytes}
use Rattle.index_page.specs.declared.page.Form.TheVariants as form
use Rattle.index_page.specs.declared.page.IndexPage.{IndexPage}
use Rattle.index_page.proofs.Taking.{at-own, no-refusal, taken-is, unmarked-other, written-other}
use Rattle.tree_index.specs.declared.walk.Met.{Met}
use Rattle.tree_index.specs.Adding.{only-is}
use Rattle.tree_index.specs.Climbing.{picked}
use Rattle.tree_index.specs.Counting.{changed-counts, grown-count, grown-keys, nodes-count, rooted-count}
use Rattle.tree_index.specs.Descending.{IsView, Subtree, body-marks, root-numbers}
use Rattle.tree_index.specs.Marking.{under, lt-from}
use Rattle.tree_index.specs.Placing.{below}
use Rattle.tree_index.specs.Removing.{Shrinks, shrink-climbs}
use Rattle.tree_index.specs.RootPage.{RootWhole, from-climbs, root-climbs, root-fails}
use Rattle.tree_index.specs.Rooting.{path}
use Rattle.tree_index.specs.Shaped.{empty-shape, put-in, without-in}
use Rattle.tree_index.specs.Taking.{refused}
use Rattle.tree_index.specs.Tree.{Body, Fits, IsRising, Key, Lists, Row, Shape, Tree, bare, empty}
use Rattle.tree_index.specs.Tree.{entries_in, entries_of, grown, key_of, marks, named, nodes, numbers}
use Rattle.tree_index.specs.Tree.{opens, page_count, put, rooted, row_keys, row_nodes, shrunk, without}
use Rattle.tree_index.specs.Walk.{walked}
use Rattle.tree_index.specs.Work.{added, all_written, along, climbed, cut, made, ranged, removed}
use Rattle.tree_index.specs.Standing.{counted, edits-only, good-of, lists-after, moves}
use Rattle.tree_index.specs.Standing.{never-refused, none-sees, path-is, walk-leaves}
use Rattle.tree_index.specs.Writing.{flip-false}

-- the page is made
makes : (size : ℕ) (pages : Pages) (answer : Result (ℕ × Pages) Refusal) → made size pages answer →
    MakesIndex (λ size pages root shape held. Lists size pages root shape held) empty size pages answer
unfolding IsDistinct
makes size pages (Ok answer) m =
    let next = m.0 in
    let leaf : IndexPage = record { form = form.Leaf; link = 0; entries = [] } in
    let bytes = page_bytes leaf in
    let after : Pages = with_bytes next.1 next.0 bytes in
    let given : ℕ × Pages = (next.0, after) in
    let same : given ≡ answer = only-is given answer m.2 in
    let facts = taken-is size pages next.0 next.1 m.1.0 in
    let writable : AreWritable [] = record { lawful = tt; fits = omega arith } in
    let lists : Lists size after next.0 empty (next.0 ∷ []) = record {
      is_shape = empty-shape;
      body = [];
      bare_is = refl;
      held_is = refl;
      at = (at-own size next.1 next.0 leaf facts.low facts.there (omega arith) writable, tt);
      narrow = (m.1.1, tt);
      distinct = (tt, tt);
    } in
    let edits : EditsOnly (next.0 ∷ []) next.1 after = λ page. elim (eqb_tells page next.0) [
      | inl is ↦ inl (0, omega arith, sym is.1)
      | inr differ ↦ inr
          (written-other next.1 next.0 page bytes differ.0, unmarked-other next.1 next.0 page bytes differ.0)
    ] in
    let all : MakesIndex (λ size pages root shape held. Lists size pages root shape held) empty size pages (Ok given) =
    (next.1, m.1.0, edits, lists) in
    subst (λ (a : ℕ × Pages). MakesIndex (λ size pages root shape held. Lists size pages root shape held) empty size
    pages (Ok a)) same all
makes size pages (Err why) m = elim m [
  | inl none ↦ none.0
  | inr more ↦ no-refusal _ why more.2
]

-- the root page and those below it
below-held : (size root : ℕ) (pages : Pages) (shape : Shape) (held : List ℕ) (is : Lists size pages root shape held) →
    AllByRecursion (λ page. (page < 2 ^ 32) × (eqb page root ≡ false)) (numbers (below shape.levels is.body))
unfolding IsDistinct
below-held size root pages shape held is =
    go shape.levels is.body (subst (AllByRecursion (λ page. page < 2 ^ 32)) (sym is.held_is) is.narrow)
    (subst (IsDistinct nat_eq) (sym is.held_is) is.distinct)
  where
    both : (xs : List ℕ) → AllByRecursion (λ page. page < 2 ^ 32) xs → AllByRecursion (λ y. eqb root y ≡ false) xs →
        AllByRecursion (λ page. (page < 2 ^ 32) × (eqb page root ≡ false)) xs
    both [] one two = tt
    both (x ∷ xs) one two = ((one.0, flip-false root x two.0), both xs one.1 two.1)

    go : (n : ℕ) (body : Body n) → AllByRecursion (λ page. page < 2 ^ 32) (numbers (nodes n (root, body))) →
        IsDistinct nat_eq (numbers (nodes n (root, body))) →
        AllByRecursion (λ page. (page < 2 ^ 32) × (eqb page root ≡ false)) (numbers (below n body))
    go zero body narrow distinct = tt
    go (suc n) body narrow distinct = both (numbers (row_nodes (nodes n) body)) narrow.1 distinct.0

module _ (size root : ℕ) (e : Found) (pages : Pages) (shape : Shape) (held : List ℕ)
    (is : Lists size pages root shape held) (kinds : AreOfKind (kind_of e.value) (entries_of shape)) where
  way-is : (way : List Met) → walked e e (kind_of e.value) size pages root (Ok way) →
      way ≡ path e shape.levels (root, is.body)
  way-is way w = path-is size pages (kind_of e.value) e shape.levels (root, is.body) is.at (root ∷ []) refl way w.0

  no-way : (why : Refusal) → walked e e (kind_of e.value) size pages root (Err why) → ⊥
  no-way why w =
      never-refused size root pages (kind_of e.value) shape held is kinds e e (λ es. []) (none-sees e e) why w

  root-whole : (found : IsFound e) → RootWhole size pages (kind_of e.value) e found shape.levels (root, is.body)
  root-whole found = record {
    good = good-of size root pages (kind_of e.value) shape held is kinds;
    fits = subst (Fits shape.levels) (sym is.bare_is) is.is_shape.fits;
    other = below-held size root pages shape held is;
  }

  -- the count does not depend on the page of the entry
  opens-of : (after : ℕ) →
      page_count (put e shape).levels (put e shape).tree ≡ page_count shape.levels shape.tree + after →
      opens e.value e.number shape ≡ after
  opens-of after counts =
      let n = shape.levels in
      let low = named (key_of e) 0 in
      let one = rooted-count n (grown low n shape.tree).0 (grown low n shape.tree).1 in
      let two = rooted-count n (grown e n shape.tree).0 (grown e n shape.tree).1 in
      let rows = grown-count e 0 n shape.tree in
      let keys : cond {A = ℕ} (leb 1 (length (row_keys (grown low n shape.tree).1))) 1 0
      ≡ cond {A = ℕ} (leb 1 (length (row_keys (grown e n shape.tree).1))) 1 0 =
      ap (λ (l : List Found). cond {A = ℕ} (leb 1 (length l)) 1 0) (grown-keys e 0 n shape.tree) in
      omega (arith, one, two, rows, keys, counts)

  put-is : {tree : Tree shape.levels} → tree ≡ shape.tree →
      rooted shape.levels (grown e shape.levels tree).0 (grown e shape.levels tree).1 ≡ put e shape
  put-is q = ap (λ (t : Tree shape.levels). rooted shape.levels (grown e shape.levels t).0 (grown e shape.levels t).1) q

  adds : IsApart size pages held → IsFound e → (answer : Result (Unit {0} × Pages) Refusal) →
      added size root e pages answer →
      AddsFound (λ after behind. Lists size after root (put e shape) behind) size
      (opens e.value e.number shape) held pages answer
  adds apart found (Ok answer) (way, w, (edits, (state, climb, k), last)) =
      let at = way-is way w in
      let roots =
      root-climbs size pages (kind_of e.value) e found shape.levels (root, is.body) (root-whole found) state
      (subst (λ (l : List Met). climbed size root e pages l (Ok state)) at climb) in
      let distinct = apart (length roots.opened) roots.opened state.1 roots.taken_is.took in
      let shape_is = roots.shape_is ∙ put-is is.bare_is in
      let after = all_written state.1 state.0.edits in
      let lists =
      lists-after size root pages shape held is
      (grown e shape.levels (bare shape.levels is.body)) state.0.edits state.1 roots distinct (put e shape) shape_is
      (put-in e shape is.is_shape found).0 in
      let count =
      opens-of (length roots.opened)
      (counted size root pages shape held is
      (grown e shape.levels (bare shape.levels is.body)) state.0.edits state.1 roots distinct
      (put e shape) shape_is) in
      let all : AddsFound (λ after behind. Lists size after root (put e shape) behind) size
      (length roots.opened) held pages (Ok (tt, after)) = (
        roots.opened,
        state.1,
        roots.taken_is.took,
        edits-only size root pages shape held is
            (grown e shape.levels (bare shape.levels is.body)) state.0.edits state.1 roots distinct,
        numbers (nodes roots.levels (root, roots.body)),
        moves size root pages shape held is (grown e shape.levels (bare shape.levels is.body)) state.0.edits state.1
            roots distinct,
        lists,
      ) in
      let first : List Met × Pages = (state.0.edits, state.1) in
      let given : Unit {0} × Pages = (tt, after) in
      let moved : given ≡ (tt, all_written edits.1 edits.0) =
      ap (λ (x : List Met × Pages). (tt, all_written x.1 x.0)) (only-is first edits k) in
      let second : Unit {0} × Pages = (tt, all_written edits.1 edits.0) in
      subst (λ (c : ℕ). AddsFound (λ after behind. Lists size after root (put e shape) behind) size c held pages
      (Ok answer)) (sym count)
      (subst (λ (x : Unit {0} × Pages). AddsFound (λ after behind. Lists size after root (put e shape) behind) size
      (length roots.opened) held pages (Ok x)) (moved ∙ only-is second answer last) all)
  adds apart found (Err why) (inl w) = absurd (no-way why w)
  adds apart found (Err why) (inr (way, w, inr (edits, k, last))) = no-refusal _ why last
  adds apart found (Err why) (inr (way, w, inl (inr (state, k, last)))) = no-refusal _ why last
  adds apart found (Err why) (inr (way, w, inl (inl climb))) =
      let at = way-is way w in
      let fails =
      root-fails size pages (kind_of e.value) e found shape.levels (root, is.body) (root-whole found) why
      (subst (λ (l : List Met). climbed size root e pages l (Err why)) at climb) in
      let n = shape.levels in
      let same : page_count (rooted n (grown e n (bare n is.body)).0 (grown e n (bare n is.body)).1).levels
      (rooted n (grown e n (bare n is.body)).0 (grown e n (bare n is.body)).1).tree
      ≡ page_count (put e shape).levels (put e shape).tree =
      ap (λ (s : Shape). page_count s.levels s.tree) (put-is is.bare_is) in
      let before : page_count n (bare n is.body) ≡ page_count n shape.tree = ap (page_count n) is.bare_is in
      let count =
      opens-of (page_count (put e shape).levels (put e shape).tree - page_count n shape.tree)
      (omega (arith, same, before, fails.more)) in
      refused size fails.opened (opens e.value e.number shape) pages fails.mid fails.list why
      (omega (arith, count, same, before, fails.more)) fails.took fails.none

  -- an entry is taken out
  shrunk-count : (n : ℕ) (tree : Tree n) → page_count n (shrunk e n tree) ≡ page_count n tree
  shrunk-count zero tree = refl
  shrunk-count (suc n) row =
      omega (
        arith,
        changed-counts (page_count n) (λ x. (shrunk e n x, [])) e row.0 row.1,
        shrunk-count n (picked e row.0 row.1),
      )

  nothing-opened : (list : List ℕ) → length list ≡ 0 → list ≡ []
  nothing-opened [] q = refl
  nothing-opened (x ∷ list) q = absurd (omega (arith, q))

  without-is : {tree : Tree shape.levels} → tree ≡ shape.tree →
      rooted shape.levels (shrunk e shape.levels tree) [] ≡ without e shape
  without-is q = ap (λ (t : Tree shape.levels). rooted shape.levels (shrunk e shape.levels t) []) q

  removes : (answer : Result (Unit {0} × Pages) Refusal) → removed size root e pages answer →
      RemovesFound (λ after. Lists size after root (without e shape) held) held pages answer
  removes (Ok answer) (way, w, last) =
      let n = shape.levels in
      let back : (P : Tree n → Type 0) → P shape.tree → P (bare n is.body) = λ P p. subst P (sym is.bare_is) p in
      let made_is : Row (Tree n) = (shrunk e n (bare n is.body), []) in
      let edits = cut e (path e n (root, is.body)) in
      let shrinks : Shrinks size pages e n (root, is.body) =
      record {
        there = is.at;
        rises = back (λ t. IsRising (marks n t)) is.is_shape.rises;
        fits = back (Fits n) is.is_shape.fits;
      } in
      let roots =
      from-climbs size pages n made_is (root, is.body) (record { edits = edits; up = None }) pages refl
      (shrink-climbs size pages e n (root, is.body) shrinks) in
      let shape_is = roots.shape_is ∙ without-is is.bare_is in
      let lengths =
      length_permutation (numbers (nodes n (root, is.body)) ++ roots.opened)
      (numbers (nodes roots.levels (root, roots.body))) roots.numbers_are in
      let after_count : page_count roots.levels (bare roots.levels roots.body)
      ≡ page_count n (shrunk e n (bare n is.body)) =
      ap (λ (s : Shape). page_count s.levels s.tree) roots.shape_is in
      let none : length roots.opened ≡ 0 =
      omega (
        arith,
        lengths,
        after_count,
        shrunk-count n (bare n is.body),
        nodes-count roots.levels (root, roots.body),
        nodes-count n (root, is.body),
        length-append (numbers (nodes n (root, is.body))) roots.opened,
        length-map (nodes n (root, is.body)) (λ (met : Met). met.page),
        length-map (nodes roots.levels (root, roots.body)) (λ (met : Met). met.page),
      ) in
      let opened = nothing-opened roots.opened none in
      let whole : held ++ roots.opened ≡ held = ap (λ (l : List ℕ). held ++ l) opened ∙ append-nil held in
      let distinct : IsDistinct nat_eq (held ++ roots.opened) = subst (IsDistinct nat_eq) (sym whole) is.distinct in
      let place : numbers (nodes roots.levels (root, roots.body)) ≡ held = roots.in_place opened ∙ is.held_is in
      let after = all_written pages edits in
      let lists =
      subst (Lists size after root (without e shape)) place
      (lists-after size root pages shape held is made_is edits pages roots distinct (without e shape) shape_is
      (without-in e shape is.is_shape).0) in
      let only_held : EditsOnly held pages after =
      subst (λ (l : List ℕ). EditsOnly l pages after) whole
      (edits-only size root pages shape held is made_is edits pages roots distinct) in
      let given : Unit {0} × Pages = (tt, all_written pages (cut e way)) in
      let moved : (tt, after) ≡ answer = ap (λ (l : List Met). (tt, all_written pages (cut e l))) (sym (way-is way w)) ∙
      only-is given answer last in
      subst (λ (x : Unit {0} × Pages). RemovesFound (λ after. Lists size after root (without e shape) held) held pages
      (Ok x)) moved (only_held, lists)
  removes (Err why) (inl w) = absurd (no-way why w)
  removes (Err why) (inr (way, w, last)) = no-refusal _ why last

-- entries between two values
nat-less : (a b : ℕ) → nat_cmp a b ≡ Less → a < b
nat-less a b h = step-less (ltb a b) refl h
  where
    step-less : (t : Bool) → ltb a b ≡ t → cond t Less (cond (eqb a b) Equal Greater) ≡ Less → a < b
    step-less true q k = ltb-true a b q
    step-less false q k = absurd (other (eqb a b) k)
      where
        other : (u : Bool) → cond u Equal Greater ≡ Less → ⊥
        other true e = absurd cc
        other false e = absurd cc

between-none : (low high : Value) (es : List Found) →
    AllByRecursion (λ (f : Found). (value_cmp f.value low ≡ Less) ⊎ (value_cmp f.value high ≡ Greater)) es →
    between low high es ≡ []
between-none low high [] all = refl
between-none low high (f ∷ es) (inl less, all) =
    rw (and_left (not (is_lt (value_cmp f.value low))) (not (is_gt (value_cmp f.value high)))
    (ap (λ (o : Ordering). not (is_lt o)) less)) (between-none low high es all)
between-none low high (f ∷ es) (inr more, all) =
    rw (and_right (not (is_lt (value_cmp f.value low))) (not (is_gt (value_cmp f.value high)))
    (ap (λ (o : Ordering). not (is_gt o)) more)) (between-none low high es all)

between-sees : (low high : Value) →
    IsView (record { value = low; number = 0; page = 0 })
    (record { value = high; number = 18446744073709551615; page = 0 }) (between low high)
between-sees low high = record {
  none = refl;
  joins = λ a b. filter-append _ a b;
  skips = λ k es q all. between-none low high es (below k es q all);
  stops = λ k es q lawful all. between-none low high es (above k es q lawful all);
}
  where
    least : Found
    least = record { value = low; number = 0; page = 0 }

    most : Found
    most = record { value = high; number = 18446744073709551615; page = 0 }

    first : (f : Found) → (o : Ordering) → value_cmp f.value low ≡ o → ordering_then o (nat_cmp f.number 0) ≡ Less →
        (value_cmp f.value low ≡ Less) ⊎ (value_cmp f.value high ≡ Greater)
    first f Less q h = inl q
    first f Equal q h = absurd (omega (arith, nat-less f.number 0 h))
    first f Greater q h = absurd cc

    last : (f : Found) → IsFound f → (o : Ordering) → value_cmp high f.value ≡ o →
        ordering_then o (nat_cmp 18446744073709551615 f.number) ≡ Less → (value_cmp f.value low ≡ Less)
        ⊎ (value_cmp f.value high ≡ Greater)
    last f is Less q h = inr (value_total.antisymm f.value high ∙ ap ordering_reverse q)
    last f is Equal q h = absurd (omega (arith, nat-less 18446744073709551615 f.number h, is.number))
    last f is Greater q h = absurd cc

    below : (k : Key) (es : List Found) → is_lt (found_cmp (record { value = low; number = 0; page = 0 }) (named k 0))
        ≡ false → AllByRecursion (λ (f : Found). found_cmp f (named k 0) ≡ Less) es →
        AllByRecursion (λ (f : Found). (value_cmp f.value low ≡ Less) ⊎ (value_cmp f.value high ≡ Greater)) es
    below k [] q all = tt
    below k (f ∷ es) q all = (
      first f (value_cmp f.value low) refl
          (under f (named k 0) (record { value = low; number = 0; page = 0 }) all.0 q),
      below k es q all.1,
    )

    above : (k : Key) (es : List Found) →
        is_lt (found_cmp (record { value = high; number = 18446744073709551615; page = 0 }) (named k 0)) ≡ true →
        AllByRecursion IsFound es → AllByRecursion (λ (f : Found). is_lt (found_cmp f (named k 0)) ≡ false) es →
        AllByRecursion (λ (f : Found). (value_cmp f.value low ≡ Less) ⊎ (value_cmp f.value high ≡ Greater)) es
    above k [] q lawful all = tt
    above k (f ∷ es) q lawful all = (
      last f lawful.0 (value_cmp high f.value) refl
          (under (record { value = high; number = 18446744073709551615; page = 0 }) (named k 0) f
          (lt-from (found_cmp (record { value = high; number = 18446744073709551615; page = 0 }) (named k 0)) q) all.0),
      above k es q lawful.1 all.1,
    )

ranges : (size root : ℕ) (low high : Value) (pages : Pages) (shape : Shape) (held : List ℕ)
    (answer : Result (List Found) Refusal) → Lists size pages root shape held →
    AreOfKind (kind_of low) (entries_of shape) → kind_of high ≡ kind_of low → ranged size root low high pages answer →
    answer ≡ Ok (between low high (entries_of shape))
ranges size root low high pages shape held (Ok list) is kinds kind (way, w, last) =
    let least : Found = record { value = low; number = 0; page = 0 } in
    let most : Found = record { value = high; number = 18446744073709551615; page = 0 } in
    let left =
    walk-leaves size root pages (kind_of low) shape held is kinds least most (between low high)
    (between-sees low high) way [] w.0 in
    let none : left.rest ≡ [] = empty-rest left.rest left.left_is in
    let all : between low high (entries_in (marks shape.levels (bare shape.levels is.body)))
    ≡ along (between low high) way =
    sym (append-nil (between low high (entries_in (marks shape.levels (bare shape.levels is.body))))) ∙ left.shows ∙
    ap (λ (r : List Subtree). along (between low high) way ++ flat_map
    (λ (s : Subtree). between low high (entries_in (body-marks s.levels s.tree))) r) none ∙
    append-nil (along (between low high) way) in
    sym last ∙
    ap (λ (l : List Found). Ok l)
    (sym all ∙ ap (λ (t : Tree shape.levels). between low high (entries_in (marks shape.levels t))) is.bare_is)
  where
    empty-rest : (rest : List Subtree) → [] ≡ root-numbers rest → rest ≡ []
    empty-rest [] q = refl
    empty-rest (s ∷ rest) q = absurd cc
ranges size root low high pages shape held (Err why) is kinds kind (inl w) =
    absurd (never-refused size root pages (kind_of low) shape held is kinds
    (record { value = low; number = 0; page = 0 }) (record { value = high; number = 18446744073709551615; page = 0 })
    (between low high) (between-sees low high) why w)
ranges size root low high pages shape held (Err why) is kinds kind (inr (way, w, last)) = no-refusal _ why last

-- what the calls do
pub indexing : IsIndexing empty entries_of put without opens
    (λ size pages root shape held. Lists size pages root shape held) made added removed ranged
indexing = record {
  make = makes;
  add = λ size root entry pages shape held answer is apart found kinds h.
      adds size root entry pages shape held is kinds apart found answer h;
  remove = λ size root entry pages shape held answer is kinds h.
      removes size root entry pages shape held is kinds answer h;
  range = ranges;
}
