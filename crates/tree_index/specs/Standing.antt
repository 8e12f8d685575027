-- A tree that pages hold, before and after its pages are written: proofs.
use Rattle.std.proofs.Common.{◌≡◌, ◌<◌, ◌≤◌, ◌+◌, ◌^◌, ◌++◌, ◌∙◌, ℕ, zero, suc, Bool, true, false, cond}
use Rattle.std.proofs.Common.{eqb, List, [], ◌∷◌, length, Err, refl, sym, ap, subst, inl, inr, arith}
use Rattle.std.specs.Prelude.{nat_eq}
use Rattle.std.specs.List.{flat_map, AllByRecursion, Contains, IsDistinct, list_any}
use Rattle.std.specs.List.Sorted.{IsPermutation}
use Rattle.std.specs.Ordering.{is_lt}
use Rattle.std.proofs.lemmas.Bool.{both_ways, eqb-true, or_cases}
use Rattle.std.proofs.lemmas.Cmp.{nat_eq_equiv}
use Rattle.std.proofs.lemmas.List.{append-nil, length-append, length-map, map-append}
use Rattle.std.proofs.lemmas.List.Elements.{All-from_recursion, Contains-append_left, recursion_from_All}
use Rattle.std.proofs.lemmas.List.Sorted.{All-permutation, Contains-permutation, IsPermutation-map}
use Rattle.std.proofs.lemmas.List.Sorted.{IsPermutation-sym, length_permutation}
use Rattle.std.proofs.lemmas.Map.Keys.{IsDistinct-IsPermutation}
use Rattle.std.proofs.lemmas.Map.Steps.{length-le_from_distinct_below}
use Rattle.retro_base.specs.declared.refusal.Refusal.{Refusal}
use Rattle.values.specs.declared.value.Kind.{Kind}
use Rattle.pager.specs.Index.{AreOfKind, EditsOnly, IsFound, found_cmp}
use Rattle.pager.specs.Pages.{Pages}
use Rattle.pager.specs.declared.index.Found.{Found}
use Rattle.index_page.specs.declared.page.IndexPage.{IndexPage}
use Rattle.tree_index.specs.declared.walk.Met.{Met}
use Rattle.tree_index.specs.Climbing.{picked, row-founds}
use Rattle.tree_index.specs.Counting.{nodes-count}
use Rattle.tree_index.specs.Descending.{IsGood, IsView, Left, Subtree, forest-nodes, root-numbers, step, walk-left}
use Rattle.tree_index.specs.Listing.{IsThere, all-inside, at-one, at-same, first-there}
use Rattle.tree_index.specs.Marking.{all-join, all-left, all-more, all-right, entries-append, entries-map}
use Rattle.tree_index.specs.RootPage.{Roots}
use Rattle.tree_index.specs.Rooting.{path, picked-all}
use Rattle.tree_index.specs.Taking.{taken-same}
use Rattle.tree_index.specs.Tree.{Body, Fits, IsRising, IsShape, Key, Lists, Row, Shape, Tree, bare, content}
use Rattle.tree_index.specs.Tree.{entries_in, entries_of, marks, named, nodes, numbers, page_count, row_marks}
use Rattle.tree_index.specs.Walk.{IsTree, Meets, children, chosen, walked}
use Rattle.tree_index.specs.Work.{all_written}
use Rattle.tree_index.specs.Writing.{all-there, distinct-apart, distinct-left, member, other-stays}

-- the entries of pages that can be written are lawful
row-lawful : (n : ℕ) (rest : List (Key × Tree n)) →
    AllByRecursion (λ (b : Key × Tree n). AllByRecursion IsFound (entries_in (marks n b.1))) rest → (first : Tree n) →
    AllByRecursion IsFound (entries_in (marks n first)) →
    AllByRecursion IsFound (entries_in (row_marks (marks n) (first, rest)))
row-lawful n [] all first is = subst (λ m. AllByRecursion IsFound (entries_in m)) (sym (append-nil (marks n first))) is
row-lawful n (b ∷ rest) all first is =
    subst (AllByRecursion IsFound) (sym (entries-append (marks n first) _))
    (all-join IsFound (entries_in (marks n first)) (entries_in (row_marks (marks n) (b.1, rest))) is
    (row-lawful n rest all.1 b.1 all.0))

fits-lawful : (n : ℕ) (tree : Tree n) → Fits n tree → AllByRecursion IsFound (entries_in (marks n tree))
fits-lawful zero es fits = subst (AllByRecursion IsFound) (sym (entries-map es)) fits.lawful
fits-lawful (suc n) row fits =
    row-lawful n row.1
    (all-more (λ (b : Key × Tree n). Fits n b.1)
    (λ (b : Key × Tree n). AllByRecursion IsFound (entries_in (marks n b.1))) row.1
    (λ b fit. fits-lawful n b.1 fit) fits.2) row.0 (fits-lawful n row.0 fits.1)

-- a tree that pages hold, at its root page
pub good-of : (size root : ℕ) (pages : Pages) (kind : Kind) (shape : Shape) (held : List ℕ)
    (is : Lists size pages root shape held) → AreOfKind kind (entries_of shape) →
    IsGood size pages kind shape.levels (root, is.body)
good-of size root pages kind shape held is kinds =
    let back : (P : Tree shape.levels → Type 0) → P shape.tree → P (bare shape.levels is.body) =
    λ P p. subst P (sym is.bare_is) p in
    record {
      there = is.at;
      rises = back (λ t. IsRising (marks shape.levels t)) is.is_shape.rises;
      lawful = back (λ t. AllByRecursion IsFound (entries_in (marks shape.levels t)))
          (fits-lawful shape.levels shape.tree is.is_shape.fits);
      kinds = back (λ t. AreOfKind kind (entries_in (marks shape.levels t))) kinds;
    }

pub few-held : (size root : ℕ) (pages : Pages) (shape : Shape) (held : List ℕ) (is : Lists size pages root shape held) →
    length (nodes shape.levels (root, is.body)) ≤ size
few-held size root pages shape held is =
    let ms = nodes shape.levels (root, is.body) in
    let few : length held ≤ size =
    length-le_from_distinct_below held size is.distinct
    (within held
    (subst (AllByRecursion (λ (page : ℕ). (2 ≤ page) × (page < size))) is.held_is
    (all-inside size pages ms is.at))) in
    omega (arith, few, ap length is.held_is, length-map ms (λ (met : Met). met.page))
  where
    within : (xs : List ℕ) → AllByRecursion (λ (page : ℕ). (2 ≤ page) × (page < size)) xs → (q : ℕ) →
        list_any (eqb q) xs ≡ true → q < size
    within [] all q there = absurd (both_ways false refl there)
    within (x ∷ xs) all q there =
        elim (or_cases (eqb q x) (list_any (eqb q) xs) there) [
          | inl here ↦ omega (arith, eqb-true q x here, all.0.1)
          | inr more ↦ within xs all.1 q more
        ]

-- a walk over a tree that pages hold
module _ (size root : ℕ) (pages : Pages) (kind : Kind) (shape : Shape) (held : List ℕ)
    (is : Lists size pages root shape held) (kinds : AreOfKind kind (entries_of shape)) (low high : Found)
    (view : List Found → List Found) (sees : IsView low high view) where
  pub walk-leaves : (way : List Met) (left : List ℕ) → Meets low high kind size pages (root ∷ []) way left →
      Left size pages kind low high view sees (record { levels = shape.levels; tree = (root, is.body) } ∷ []) way left
  walk-leaves way left meets =
      walk-left size pages kind low high view sees way (record { levels = shape.levels; tree = (root, is.body) } ∷ [])
      (root ∷ []) left refl (good-of size root pages kind shape held is kinds, tt) meets

  pub never-refused : (why : Refusal) → walked low high kind size pages root (Err why) → ⊥
  never-refused why (way, page, behind, meets, is_why, long) = go (walk-leaves way (page ∷ behind) meets)
    where
      least : (s : Subtree) → 1 ≤ length (nodes s.levels s.tree)
      least s = some s.levels s.tree
        where
          some : (n : ℕ) (t : ℕ × Body n) → 1 ≤ length (nodes n t)
          some zero t = omega arith
          some (suc n) t = omega arith

      go : Left size pages kind low high view sees (record { levels = shape.levels; tree = (root, is.body) } ∷ []) way
          (page ∷ behind) → ⊥
      go left = rest left.rest left.left_is left.good left.fewer
        where
          rest : (rest : List Subtree) → page ∷ behind ≡ root-numbers rest →
              AllByRecursion (λ (s : Subtree). IsGood size pages kind s.levels s.tree) rest →
              length way + length (forest-nodes rest)
              ≤ length (forest-nodes (record { levels = shape.levels; tree = (root, is.body) } ∷ [])) → ⊥
          rest [] e good fewer = absurd cc
          rest (s ∷ more) e good fewer =
              elim long [
                | inl all ↦ omega (
                  arith,
                  all,
                  fewer,
                  few-held size root pages shape held is,
                  least s,
                  length-append (nodes s.levels s.tree) (forest-nodes more),
                  length-append (nodes shape.levels (root, is.body)) [],
                )
                | inr none ↦ none (content s.levels s.tree.1)
                    (subst (λ p. IsTree kind size pages p (content s.levels s.tree.1)) (sym (head e)) (
                      first-there size pages s.levels s.tree good.0.there,
                      (step size pages kind low high view sees s.levels s.tree good.0).tree,
                    ))
              ]
            where
              head : page ∷ behind ≡ s.tree.0 ∷ root-numbers more → page ≡ s.tree.0
              head q = cc

-- the way to one entry
chosen-one : (n : ℕ) (e : Found) (first : ℕ × Body n) (rest : List (Key × (ℕ × Body n))) →
    chosen e e first.0 (row-founds n rest) ≡ (picked e first rest).0 ∷ []
chosen-one n e first [] = refl
chosen-one n e first (b ∷ rest) = step-one (is_lt (found_cmp e (named b.0 0))) (chosen-one n e b.1 rest)
  where
    step-one : (t : Bool) → chosen e e b.1.0 (row-founds n rest) ≡ (picked e b.1 rest).0 ∷ [] →
        cond t (first.0 ∷ []) [] ++ cond t [] (chosen e e b.1.0 (row-founds n rest))
        ≡ (λ (x : ℕ × Body n). x.0) (cond t first (picked e b.1 rest)) ∷ []
    step-one true more = refl
    step-one false more = more

row-there : (size : ℕ) (pages : Pages) (n : ℕ) (rest : List (Key × (ℕ × Body n))) →
    AllByRecursion (IsThere size pages) (flat_map (λ (b : Key × (ℕ × Body n)). nodes n b.1) rest) →
    AllByRecursion (λ (b : Key × (ℕ × Body n)). AllByRecursion (IsThere size pages) (nodes n b.1)) rest
row-there size pages n [] all = tt
row-there size pages n (b ∷ rest) all = (
  all-left (IsThere size pages) (nodes n b.1) _ all,
  row-there size pages n rest (all-right (IsThere size pages) (nodes n b.1) _ all),
)

pub path-is : (size : ℕ) (pages : Pages) (kind : Kind) (e : Found) (n : ℕ) (t : ℕ × Body n) →
    AllByRecursion (IsThere size pages) (nodes n t) → (todo : List ℕ) → todo ≡ t.0 ∷ [] → (way : List Met) →
    Meets e e kind size pages todo way [] → way ≡ path e n t
path-is size pages kind e n t there todo at [] meets = absurd (none (sym meets ∙ at))
  where
    none : [] ≡ t.0 ∷ [] → ⊥
    none q = absurd cc
path-is size pages kind e zero t there todo at (met ∷ way) meets =
    let p = sym at ∙ meets.1 in
    let held : content 0 t.1 ≡ met.held =
    at-one size pages met.page (content 0 t.1) met.held
    (subst (λ page. IsThere size pages (record { page = page; held = content 0 t.1 })) (head p) there.0)
    meets.2.0 in
    let left : children e e met.held ++ meets.0 ≡ [] =
    ap (λ (h : IndexPage). children e e h ++ meets.0) (sym held) ∙ sym (tail p) in
    let end = ended way (subst (λ (l : List ℕ). Meets e e kind size pages l way []) left meets.3) in
    let same : met ≡ record { page = t.0; held = content 0 t.1 } =
    λ i. record { page = (sym (head p)) i; held = (sym held) i } in
    cc (same, end)
  where
    head : t.0 ∷ [] ≡ met.page ∷ meets.0 → t.0 ≡ met.page
    head q = cc

    tail : t.0 ∷ [] ≡ met.page ∷ meets.0 → [] ≡ meets.0
    tail q = cc

    ended : (rest : List Met) → Meets e e kind size pages [] rest [] → rest ≡ []
    ended [] m = refl
    ended (x ∷ rest) m = absurd (none m.1)
      where
        none : [] ≡ x.page ∷ m.0 → ⊥
        none q = absurd cc
path-is size pages kind e (suc n) t there todo at (met ∷ way) meets =
    let p = sym at ∙ meets.1 in
    let held : content (suc n) t.1 ≡ met.held =
    at-one size pages met.page (content (suc n) t.1) met.held
    (subst (λ page. IsThere size pages (record { page = page; held = content (suc n) t.1 })) (head p) there.0)
    meets.2.0 in
    let child = picked e t.1.0 t.1.1 in
    let next : children e e met.held ++ meets.0 ≡ child.0 ∷ [] =
    ap (λ (h : IndexPage). children e e h ++ meets.0) (sym held) ∙
    ap (λ (l : List ℕ). chosen e e t.1.0.0 (row-founds n t.1.1) ++ l) (sym (tail p)) ∙
    append-nil (chosen e e t.1.0.0 (row-founds n t.1.1)) ∙ chosen-one n e t.1.0 t.1.1 in
    let child-there =
    picked-all (λ (x : ℕ × Body n). AllByRecursion (IsThere size pages) (nodes n x)) e t.1.0 t.1.1
    (all-left (IsThere size pages) (nodes n t.1.0) _ there.1)
    (row-there size pages n t.1.1 (all-right (IsThere size pages) (nodes n t.1.0) _ there.1)) in
    let more = path-is size pages kind e n child child-there (children e e met.held ++ meets.0) next way meets.3 in
    let same : met ≡ record { page = t.0; held = content (suc n) t.1 } =
    λ i. record { page = (sym (head p)) i; held = (sym held) i } in
    cc (same, more)
  where
    head : t.0 ∷ [] ≡ met.page ∷ meets.0 → t.0 ≡ met.page
    head q = cc

    tail : t.0 ∷ [] ≡ met.page ∷ meets.0 → [] ≡ meets.0
    tail q = cc

pub none-sees : (low high : Found) → IsView low high (λ es. [])
none-sees low high =
    record { none = refl; joins = λ a b. refl; skips = λ k es q all. refl; stops = λ k es q lawful all. refl }

-- a tree under its root page, after pages are written
module _ (size root : ℕ) (pages : Pages) (shape : Shape) (held : List ℕ) (is : Lists size pages root shape held) where
  module _ (made_is : Row (Tree shape.levels)) (edits : List Met) (mid : Pages)
      (roots : Roots size pages shape.levels made_is (root, is.body) edits mid)
      (distinct : IsDistinct nat_eq (held ++ roots.opened)) where
    pub moves : IsPermutation (held ++ roots.opened) (numbers (nodes roots.levels (root, roots.body)))
    moves = subst (λ (l : List ℕ). IsPermutation (l ++ roots.opened) (numbers (nodes roots.levels (root, roots.body))))
        is.held_is roots.numbers_are

    named-all : IsPermutation (numbers (edits ++ roots.others)) (numbers (nodes roots.levels (root, roots.body)))
    named-all =
        IsPermutation-map (λ (met : Met). met.page) (edits ++ roots.others)
        (nodes roots.levels (root, roots.body)) roots.nodes_are

    behind-distinct : IsDistinct nat_eq (numbers (nodes roots.levels (root, roots.body)))
    behind-distinct =
        IsDistinct-IsPermutation nat_eq (λ x y. nat_eq_equiv.symm x y) (held ++ roots.opened)
        (numbers (nodes roots.levels (root, roots.body))) moves distinct

    parts-distinct : IsDistinct nat_eq (numbers edits ++ numbers roots.others)
    parts-distinct =
        subst (IsDistinct nat_eq) (map-append (λ (met : Met). met.page) edits roots.others)
        (IsDistinct-IsPermutation nat_eq (λ x y. nat_eq_equiv.symm x y)
        (numbers (nodes roots.levels (root, roots.body))) (numbers (edits ++ roots.others))
        (IsPermutation-sym (numbers (edits ++ roots.others))
        (numbers (nodes roots.levels (root, roots.body))) named-all) behind-distinct)

    others-there : (ms : List Met) → AllByRecursion (IsThere size pages) ms →
        AllByRecursion (λ q. AllByRecursion (λ p. eqb q p ≡ false) (numbers edits)) (numbers ms) →
        AllByRecursion (IsThere size (all_written mid edits)) ms
    others-there [] there apart = tt
    others-there (met ∷ ms) there apart = (
      at-same size pages (all_written mid edits) met.page met.held
          ((other-stays edits mid met.page apart.0).0 ∙
          taken-same size (length roots.opened) pages mid roots.opened roots.taken_is.took met.page there.0.low)
          there.0,
      others-there ms there.1 apart.1,
    )

    pub all-after : AllByRecursion (IsThere size (all_written mid edits)) (nodes roots.levels (root, roots.body))
    all-after =
        let own =
        all-there size edits mid (distinct-left (numbers edits) (numbers roots.others) parts-distinct)
        roots.ready in
        let kept =
        others-there roots.others (roots.kept (IsThere size pages) is.at)
        (distinct-apart (numbers edits) (numbers roots.others) parts-distinct) in
        let both = all-join (IsThere size (all_written mid edits)) edits roots.others own kept in
        recursion_from_All (IsThere size (all_written mid edits)) (nodes roots.levels (root, roots.body))
        (All-permutation (IsThere size (all_written mid edits)) (edits ++ roots.others)
        (nodes roots.levels (root, roots.body)) roots.nodes_are
        (All-from_recursion (IsThere size (all_written mid edits)) (edits ++ roots.others) both))

    narrow-after : AllByRecursion (λ page. page < 2 ^ 32) (numbers (nodes roots.levels (root, roots.body)))
    narrow-after =
        recursion_from_All (λ page. page < 2 ^ 32) (numbers (nodes roots.levels (root, roots.body)))
        (All-permutation (λ page. page < 2 ^ 32) (held ++ roots.opened)
        (numbers (nodes roots.levels (root, roots.body))) moves
        (All-from_recursion (λ page. page < 2 ^ 32) (held ++ roots.opened)
        (all-join (λ page. page < 2 ^ 32) held roots.opened is.narrow roots.taken_is.small)))

    pub lists-after : (after : Shape) → record { levels = roots.levels; tree = bare roots.levels roots.body } ≡ after →
        IsShape after → Lists size (all_written mid edits) root after (numbers (nodes roots.levels (root, roots.body)))
    lists-after after e shaped =
        let first : Shape = record { levels = roots.levels; tree = bare roots.levels roots.body } in
        let there : Lists size (all_written mid edits) root first (numbers (nodes roots.levels (root, roots.body))) =
        record {
          is_shape = subst IsShape (sym e) shaped;
          body = roots.body;
          bare_is = refl;
          held_is = refl;
          at = all-after;
          narrow = narrow-after;
          distinct = behind-distinct;
        } in
        subst (λ (s : Shape). Lists size (all_written mid edits) root s
        (numbers (nodes roots.levels (root, roots.body)))) e there

    pub edits-only : EditsOnly (held ++ roots.opened) mid (all_written mid edits)
    edits-only = λ page. elim (member (numbers edits) page) [
      | inl there ↦ inl
          (Contains-permutation (numbers (nodes roots.levels (root, roots.body))) (held ++ roots.opened) page
          (IsPermutation-sym (held ++ roots.opened) (numbers (nodes roots.levels (root, roots.body))) moves)
          (Contains-permutation (numbers (edits ++ roots.others))
          (numbers (nodes roots.levels (root, roots.body))) page named-all
          (subst (λ (l : List ℕ). Contains l page) (sym (map-append (λ (met : Met). met.page) edits roots.others))
          (Contains-append_left (numbers edits) (numbers roots.others) page there))))
      | inr none ↦ inr (other-stays edits mid page none)
    ]

    -- how many pages were opened
    pub counted : (after : Shape) → record { levels = roots.levels; tree = bare roots.levels roots.body } ≡ after →
        page_count after.levels after.tree ≡ page_count shape.levels shape.tree + length roots.opened
    counted after e =
        let one : page_count roots.levels (bare roots.levels roots.body) ≡ page_count after.levels after.tree =
        ap (λ (s : Shape). page_count s.levels s.tree) e in
        let two : page_count shape.levels (bare shape.levels is.body) ≡ page_count shape.levels shape.tree =
        ap (page_count shape.levels) is.bare_is in
        omega (
          arith,
          one,
          two,
          nodes-count roots.levels (root, roots.body),
          nodes-count shape.levels (root, is.body),
          length_permutation (numbers (nodes shape.levels (root, is.body)) ++ roots.opened)
              (numbers (nodes roots.levels (root, roots.body))) roots.numbers_are,
          length-append (numbers (nodes shape.levels (root, is.body))) roots.opened,
          length-map (nodes shape.levels (root, is.body)) (λ (met : Met). met.page),
          length-map (nodes roots.levels (root, roots.body)) (λ (met : Met). met.page),
        )
