-- The pages of a tree: proofs.
use Rattle.std.proofs.Common.{◌≡◌, ◌<◌, ◌≤◌, ◌∙◌, ℕ, zero, suc, List, [], ◌∷◌, map, refl, sym, ap, subst, arith}
use Rattle.std.specs.List.{flat_map, AllByRecursion, Contains}
use Rattle.pager.specs.Index.{IsListed}
use Rattle.pager.specs.Pages.{Pages}
use Rattle.pager.specs.declared.index.Found.{Found}
use Rattle.index_page.specs.IndexPage.{HoldsIndex}
use Rattle.index_page.specs.Paging.{IsIndexAt}
use Rattle.index_page.specs.declared.page.Form.TheVariants as form
use Rattle.index_page.specs.declared.page.IndexPage.{IndexPage}
use Rattle.index_page.proofs.Packing.{holds_one}
use Rattle.tree_index.specs.declared.walk.Met.{Met}
use Rattle.tree_index.specs.Marking.{all-left, all-right}
use Rattle.tree_index.specs.Tree.{Body, IsShape, Key, Lists, Shape, Tree, bare, content, named, nodes, numbers}

-- a page holds one thing
pub at-one : (size : ℕ) (pages : Pages) (page : ℕ) (p q : IndexPage) → IsIndexAt size pages page p →
    IsIndexAt size pages page q → p ≡ q
at-one size pages page p q is also = holds_one (pages.at page) p q is.holds also.holds

-- a page whose bytes are as before holds what it held
pub at-same : (size : ℕ) (pages after : Pages) (page : ℕ) (held : IndexPage) → after.at page ≡ pages.at page →
    IsIndexAt size pages page held → IsIndexAt size after page held
at-same size pages after page held same is =
    record {
      low = is.low;
      there = is.there;
      holds = subst (λ (bytes : List ℕ). HoldsIndex bytes held)
          (sym same) is.holds;
    }

abbrev pub IsThere : ℕ → Pages → Met → Type 0
IsThere size pages met = IsIndexAt size pages met.page met.held

-- a tree begins with its first page
pub first-there : (size : ℕ) (pages : Pages) (n : ℕ) (tree : ℕ × Body n) →
    AllByRecursion (IsThere size pages) (nodes n tree) → IsIndexAt size pages tree.0 (content n tree.1)
first-there size pages zero tree all = all.0
first-there size pages (suc n) tree all = all.0

leaf-inner : form.Leaf ≡ form.Inner → ⊥
leaf-inner e = absurd cc

pub pair-same : {A B : Type 0} (p q : A × B) → p.0 ≡ q.0 → p.1 ≡ q.1 → p ≡ q
pair-same p q e f = λ i. (e i, f i)

module _ (size : ℕ) (pages : Pages) where
  same-content : (m n : ℕ) (p : ℕ × Body m) (q : ℕ × Body n) → p.0 ≡ q.0 →
      AllByRecursion (IsThere size pages) (nodes m p) → AllByRecursion (IsThere size pages) (nodes n q) →
      content m p.1 ≡ content n q.1
  same-content m n p q e one two =
      at-one size pages p.0 (content m p.1) (content n q.1) (first-there size pages m p one)
      (subst (λ (page : ℕ). IsIndexAt size pages page (content n q.1)) (sym e) (first-there size pages n q two))

  -- trees under one page are of the same height
  same-levels : (m n : ℕ) (p : ℕ × Body m) (q : ℕ × Body n) → p.0 ≡ q.0 →
      AllByRecursion (IsThere size pages) (nodes m p) → AllByRecursion (IsThere size pages) (nodes n q) → m ≡ n
  same-levels zero zero p q e one two = refl
  same-levels zero (suc n) p q e one two =
      absurd (leaf-inner (ap (λ (page : IndexPage). page.form) (same-content zero (suc n) p q e one two)))
  same-levels (suc m) zero p q e one two =
      absurd (leaf-inner (sym (ap (λ (page : IndexPage). page.form) (same-content (suc m) zero p q e one two))))
  same-levels (suc m) (suc n) p q e one two =
      ap suc (same-levels m n p.1.0 q.1.0
      (ap (λ (page : IndexPage). page.link) (same-content (suc m) (suc n) p q e one two))
      (all-left (IsThere size pages) (nodes m p.1.0) _ one.1) (all-left (IsThere size pages) (nodes n q.1.0) _ two.1))

  same-row : (n : ℕ) →
      ((p q : ℕ × Body n) → p.0 ≡ q.0 → AllByRecursion (IsThere size pages) (nodes n p) →
      AllByRecursion (IsThere size pages) (nodes n q) → p ≡ q) → (r s : List (Key × (ℕ × Body n))) →
      map (λ (b : Key × (ℕ × Body n)). named b.0 b.1.0) r ≡ map (λ (b : Key × (ℕ × Body n)). named b.0 b.1.0) s →
      AllByRecursion (IsThere size pages) (flat_map (λ (b : Key × (ℕ × Body n)). nodes n b.1) r) →
      AllByRecursion (IsThere size pages) (flat_map (λ (b : Key × (ℕ × Body n)). nodes n b.1) s) → r ≡ s
  same-row n same [] [] e one two = refl
  same-row n same [] (c ∷ s) e one two = absurd cc
  same-row n same (b ∷ r) [] e one two = absurd cc
  same-row n same (b ∷ r) (c ∷ s) e one two =
      let h = head e in
      let key : b.0 ≡ c.0 = λ i. record { value = (h i).value; number = (h i).number } in
      let child : b.1 ≡ c.1 =
      same b.1 c.1 (ap (λ (f : Found). f.page) h) (all-left (IsThere size pages) (nodes n b.1) _ one)
      (all-left (IsThere size pages) (nodes n c.1) _ two) in
      let rest =
      same-row n same r s (tail e) (all-right (IsThere size pages) (nodes n b.1) _ one)
      (all-right (IsThere size pages) (nodes n c.1) _ two) in
      cc (pair-same b c key child, rest)
    where
      head : map (λ (b : Key × (ℕ × Body n)). named b.0 b.1.0) (b ∷ r)
          ≡ map (λ (b : Key × (ℕ × Body n)). named b.0 b.1.0) (c ∷ s) → named b.0 b.1.0 ≡ named c.0 c.1.0
      head p = cc

      tail : map (λ (b : Key × (ℕ × Body n)). named b.0 b.1.0) (b ∷ r)
          ≡ map (λ (b : Key × (ℕ × Body n)). named b.0 b.1.0) (c ∷ s) →
          map (λ (b : Key × (ℕ × Body n)). named b.0 b.1.0) r ≡ map (λ (b : Key × (ℕ × Body n)). named b.0 b.1.0) s
      tail p = cc

  -- and hold the same
  same-tree : (n : ℕ) (p q : ℕ × Body n) → p.0 ≡ q.0 → AllByRecursion (IsThere size pages) (nodes n p) →
      AllByRecursion (IsThere size pages) (nodes n q) → p ≡ q
  same-tree zero p q e one two =
      pair-same p q e (ap (λ (page : IndexPage). page.entries) (same-content zero zero p q e one two))
  same-tree (suc n) p q e one two =
      let same = same-content (suc n) (suc n) p q e one two in
      let first =
      same-tree n p.1.0 q.1.0 (ap (λ (page : IndexPage). page.link) same)
      (all-left (IsThere size pages) (nodes n p.1.0) _ one.1)
      (all-left (IsThere size pages) (nodes n q.1.0) _ two.1) in
      let rest =
      same-row n (same-tree n) p.1.1 q.1.1 (ap (λ (page : IndexPage). page.entries) same)
      (all-right (IsThere size pages) (nodes n p.1.0) _ one.1)
      (all-right (IsThere size pages) (nodes n q.1.0) _ two.1) in
      pair-same p q e (pair-same p.1 q.1 first rest)

  abbrev shape-of : (n : ℕ) → Body n → Shape
  shape-of n body = record { levels = n; tree = bare n body }

  same-shape : (root m n : ℕ) (b : Body m) (c : Body n) → AllByRecursion (IsThere size pages) (nodes m (root, b)) →
      AllByRecursion (IsThere size pages) (nodes n (root, c)) → (shape-of m b ≡ shape-of n c)
      × (numbers (nodes m (root, b)) ≡ numbers (nodes n (root, c)))
  same-shape root m n b c one two = subst Goal (same-levels m n (root, b) (root, c) refl one two) base c two
    where
      Goal : ℕ → Type 0
      Goal k = (d : Body k) → AllByRecursion (IsThere size pages) (nodes k (root, d)) → (shape-of m b ≡ shape-of k d)
          × (numbers (nodes m (root, b)) ≡ numbers (nodes k (root, d)))

      base : Goal m
      base d there =
          let same : b ≡ d = ap (λ (t : ℕ × Body m). t.1) (same-tree m (root, b) (root, d) refl one there) in
          (ap (λ (x : Body m). shape-of m x) same, ap (λ (x : Body m). numbers (nodes m (root, x))) same)

shape-is : (shape : Shape) (tree : Tree shape.levels) → tree ≡ shape.tree →
    record { levels = shape.levels; tree = tree } ≡ shape
shape-is shape tree e = λ i. record { levels = shape.levels; tree = e i }

one-shape : (size root : ℕ) (pages : Pages) (shape other : Shape) (held others : List ℕ) →
    Lists size pages root shape held → Lists size pages root other others → (shape ≡ other) × (held ≡ others)
one-shape size root pages shape other held others is also =
    let same = same-shape size pages root shape.levels other.levels is.body also.body is.at also.at in (
      sym (shape-is shape (bare shape.levels is.body) is.bare_is) ∙ same.0 ∙
          shape-is other (bare other.levels also.body) also.bare_is,
      sym is.held_is ∙ same.1 ∙ also.held_is,
    )

pub all-framed : (size : ℕ) (pages after : Pages) (ms : List Met) →
    ((page : ℕ) → Contains (numbers ms) page → after.at page ≡ pages.at page) → AllByRecursion (IsThere size pages) ms →
    AllByRecursion (IsThere size after) ms
all-framed size pages after [] same all = tt
all-framed size pages after (met ∷ ms) same all = (
  at-same size pages after met.page met.held (same met.page (0, omega arith, refl)) all.0,
  all-framed size pages after ms (λ page there. same page (suc there.0, omega (arith, there.1), there.2)) all.1,
)

pub all-inside : (size : ℕ) (pages : Pages) (ms : List Met) → AllByRecursion (IsThere size pages) ms →
    AllByRecursion (λ (page : ℕ). (2 ≤ page) × (page < size)) (numbers ms)
all-inside size pages [] all = tt
all-inside size pages (met ∷ ms) all = ((all.0.low, all.0.there), all-inside size pages ms all.1)

root-held : (n root : ℕ) (body : Body n) → Contains (numbers (nodes n (root, body))) root
root-held zero root body = (0, omega arith, refl)
root-held (suc n) root body = (0, omega arith, refl)

-- what it is that pages hold a tree
pub listed : IsListed (λ shape. IsShape shape) (λ size pages root shape held. Lists size pages root shape held)
listed = record {
  shape = λ size root pages shape held is. is.is_shape;
  one = λ size root pages shape other held others is also. one-shape size root pages shape other held others is also;
  rooted = λ size root pages shape held is. subst (λ (l : List ℕ). Contains l root) is.held_is
      (root-held shape.levels root is.body);
  inside = λ size root pages shape held is. subst (AllByRecursion (λ (page : ℕ). (2 ≤ page) × (page < size))) is.held_is
      (all-inside size pages (nodes shape.levels (root, is.body)) is.at);
  distinct = λ size root pages shape held is. is.distinct;
  frame = λ size root pages after shape held is same. record {
    is_shape = is.is_shape;
    body = is.body;
    bare_is = is.bare_is;
    held_is = is.held_is;
    at = all-framed size pages after (nodes shape.levels (root, is.body))
        (λ page there. same page (subst (λ (l : List ℕ). Contains l page) is.held_is there)) is.at;
    narrow = is.narrow;
    distinct = is.distinct;
  };
}
