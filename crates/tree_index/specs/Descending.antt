-- The way down a tree that pages hold: proofs.
use Rattle.std.proofs.Common.{◌≡◌, ◌≤◌, ◌+◌, ◌++◌, ◌∙◌, ℕ, zero, suc, Bool, true, false, cond, List}
use Rattle.std.proofs.Common.{[], ◌∷◌, length, map, refl, sym, ap, subst, arith, append_assoc}
use Rattle.std.specs.List.{flat_map, AllByRecursion}
use Rattle.std.specs.Ordering.{is_lt}
use Rattle.std.specs.declared.cmp.Ordering.TheVariants.{Less}
use Rattle.std.proofs.lemmas.List.{append-nil, length-append, map-append}
use Rattle.std.proofs.lemmas.List.Concat.{flat_map-append}
use Rattle.values.specs.Value.{kind_of}
use Rattle.values.specs.declared.value.Kind.{Kind}
use Rattle.pager.specs.Index.{AreOfKind, IsFound, found_cmp}
use Rattle.pager.specs.Pages.{Pages}
use Rattle.pager.specs.declared.index.Found.{Found}
use Rattle.index_page.specs.Paging.{IsIndexAt}
use Rattle.index_page.specs.declared.page.IndexPage.{IndexPage}
use Rattle.tree_index.specs.declared.walk.Met.{Met}
use Rattle.tree_index.specs.Listing.{IsThere, at-one, first-there}
use Rattle.tree_index.specs.Marking.{all-join, all-left, all-right, entries-all, entries-append}
use Rattle.tree_index.specs.Marking.{entries-map, rising-before, rising-behind, rising-left, rising-right}
use Rattle.tree_index.specs.Shaping.{row-one}
use Rattle.tree_index.specs.Tree.{Body, IsRising, Key, Mark, Precedes, Row, Tree, at_key, bare}
use Rattle.tree_index.specs.Tree.{content, entries_in, marks, named, nodes, row_marks, row_nodes}
use Rattle.tree_index.specs.Walk.{IsOfTree, Meets, children, chosen}
use Rattle.tree_index.specs.Work.{along, on_leaf}

-- of children, those in which entries belong

abbrev pub picks : {X : Type 0} → Found → Found → X → List (Key × X) → List X
picks low high first [] = first ∷ []
picks low high first (b ∷ rest) =
    cond (is_lt (found_cmp low (named b.0 0))) (first ∷ []) [] ++ cond (is_lt (found_cmp high (named b.0 0))) []
    (picks low high b.1 rest)

map-cond : {X Y : Type 0} (f : X → Y) (t : Bool) (a b : List X) → map f (cond t a b) ≡ cond t (map f a) (map f b)
map-cond f true a b = refl
map-cond f false a b = refl

chosen-picks : (n : ℕ) (low high : Found) (first : ℕ × Body n) (rest : List (Key × (ℕ × Body n))) →
    chosen low high first.0 (map (λ (b : Key × (ℕ × Body n)). named b.0 b.1.0) rest)
    ≡ map (λ (t : ℕ × Body n). t.0) (picks low high first rest)
chosen-picks n low high first [] = refl
chosen-picks n low high first (b ∷ rest) =
    let number : (ℕ × Body n) → ℕ = λ (t : ℕ × Body n). t.0 in
    let one : List (ℕ × Body n) = cond (is_lt (found_cmp low (named b.0 0))) (first ∷ []) [] in
    let two : List (ℕ × Body n) = cond (is_lt (found_cmp high (named b.0 0))) [] (picks low high b.1 rest) in
    let more =
    ap (λ (l : List ℕ). cond (is_lt (found_cmp low (named b.0 0))) (first.0 ∷ []) [] ++ cond
    (is_lt (found_cmp high (named b.0 0))) [] l) (chosen-picks n low high b.1 rest) in
    let back : map number (one ++ two) ≡ cond (is_lt (found_cmp low (named b.0 0))) (first.0 ∷ []) [] ++ cond
    (is_lt (found_cmp high (named b.0 0))) [] (map number (picks low high b.1 rest)) =
    map-append number one two ∙
    ap (λ (l : List ℕ). l ++ map number two) (map-cond number (is_lt (found_cmp low (named b.0 0))) (first ∷ []) [])
    ∙ ap (λ (l : List ℕ). cond (is_lt (found_cmp low (named b.0 0))) (first.0 ∷ []) [] ++ l)
    (map-cond number (is_lt (found_cmp high (named b.0 0))) [] (picks low high b.1 rest)) in
    more ∙ sym back

cond-all : {X : Type 0} (P : X → Type 0) (t : Bool) (a b : List X) → AllByRecursion P a → AllByRecursion P b →
    AllByRecursion P (cond t a b)
cond-all P true a b one two = one
cond-all P false a b one two = two

picks-all : {X : Type 0} (P : X → Type 0) (low high : Found) (first : X) (rest : List (Key × X)) → P first →
    AllByRecursion (λ (b : Key × X). P b.1) rest → AllByRecursion P (picks low high first rest)
picks-all P low high first [] is all = (is, tt)
picks-all P low high first (b ∷ rest) is all =
    all-join P (cond (is_lt (found_cmp low (named b.0 0))) (first ∷ []) [])
    (cond (is_lt (found_cmp high (named b.0 0))) [] (picks low high b.1 rest))
    (cond-all P (is_lt (found_cmp low (named b.0 0))) (first ∷ []) [] (is, tt) tt)
    (cond-all P (is_lt (found_cmp high (named b.0 0))) [] (picks low high b.1 rest) tt
    (picks-all P low high b.1 rest all.0 all.1))

cond-least : {X Y : Type 0} (f : X → List Y) (t : Bool) (a : List X) →
    length (flat_map f (cond t a [])) ≤ length (flat_map f a)
cond-least f true a = omega arith
cond-least f false a = omega arith

cond-most : {X Y : Type 0} (f : X → List Y) (t : Bool) (a : List X) →
    length (flat_map f (cond t [] a)) ≤ length (flat_map f a)
cond-most f true a = omega arith
cond-most f false a = omega arith

picks-few : {X Y : Type 0} (f : X → List Y) (low high : Found) (first : X) (rest : List (Key × X)) →
    length (flat_map f (picks low high first rest)) ≤ length (f first ++ flat_map (λ (b : Key × X). f b.1) rest)
picks-few f low high first [] = omega arith
picks-few {X} f low high first (b ∷ rest) =
    let one : List X = cond (is_lt (found_cmp low (named b.0 0))) (first ∷ []) [] in
    let two : List X = cond (is_lt (found_cmp high (named b.0 0))) [] (picks low high b.1 rest) in
    let behind : length (f b.1 ++ flat_map (λ (c : Key × X). f c.1) rest)
    ≡ length (flat_map (λ (c : Key × X). f c.1) (b ∷ rest)) = refl in
    omega (
      arith,
      ap length (flat_map-append f one two),
      length-append (flat_map f one) (flat_map f two),
      cond-least f (is_lt (found_cmp low (named b.0 0))) (first ∷ []),
      cond-most f (is_lt (found_cmp high (named b.0 0))) (picks low high b.1 rest),
      ap length (append-nil (f first)),
      picks-few f low high b.1 rest,
      behind,
      length-append (f first) (flat_map (λ (c : Key × X). f c.1) (b ∷ rest)),
    )

-- A view of entries that shows none below the low end, and none above the high one.
pub record IsView (low high : Found) (view : List Found → List Found) : Type 0 where
  pub none : view [] ≡ []
  pub joins : (a b : List Found) → view (a ++ b) ≡ view a ++ view b
  pub skips : (k : Key) (es : List Found) → is_lt (found_cmp low (named k 0)) ≡ false →
      AllByRecursion (λ (f : Found). found_cmp f (named k 0) ≡ Less) es → view es ≡ []
  pub stops : (k : Key) (es : List Found) → is_lt (found_cmp high (named k 0)) ≡ true → AllByRecursion IsFound es →
      AllByRecursion (λ (f : Found). is_lt (found_cmp f (named k 0)) ≡ false) es → view es ≡ []

module _ {X : Type 0} (mark : X → List Mark) (low high : Found) (view : List Found → List Found)
    (is : IsView low high view) where
  pub picks-seen : (first : X) (rest : List (Key × X)) → IsRising (row_marks mark (first, rest)) →
      AllByRecursion IsFound (entries_in (row_marks mark (first, rest))) →
      flat_map (λ (x : X). view (entries_in (mark x))) (picks low high first rest)
      ≡ view (entries_in (row_marks mark (first, rest)))
  picks-seen first [] h lawful =
      append-nil (view (entries_in (mark first))) ∙
      ap (λ (m : List Mark). view (entries_in m)) (sym (row-one mark first))
  picks-seen first (b ∷ rest) h lawful =
      flat_map-append look (cond (is_lt (found_cmp low (named b.0 0))) (first ∷ []) [])
      (cond (is_lt (found_cmp high (named b.0 0))) [] (picks low high b.1 rest))
      ∙ ap (λ (l : List Found). l ++ flat_map look
      (cond (is_lt (found_cmp high (named b.0 0))) [] (picks low high b.1 rest)))
      (front (is_lt (found_cmp low (named b.0 0))) refl)
      ∙ ap (λ (l : List Found). look first ++ l)
      (back (is_lt (found_cmp high (named b.0 0))) refl
      (picks-seen b.1 rest (rising-right (mark first) tail h).1 lawful-tail))
      ∙ sym (ap view (entries-append (mark first) tail) ∙ is.joins (entries_in (mark first)) (entries_in tail))
    where
      look : X → List Found
      look x = view (entries_in (mark x))

      tail : List Mark
      tail = at_key b.0 ∷ row_marks mark (b.1, rest)

      lawful-tail : AllByRecursion IsFound (entries_in (row_marks mark (b.1, rest)))
      lawful-tail =
          all-right IsFound (entries_in (mark first)) (entries_in (row_marks mark (b.1, rest)))
          (subst (AllByRecursion IsFound) (entries-append (mark first) tail) lawful)

      front : (t : Bool) → is_lt (found_cmp low (named b.0 0)) ≡ t → flat_map look (cond t (first ∷ []) []) ≡ look first
      front true q = append-nil (look first)
      front false q =
          sym (is.skips b.0 (entries_in (mark first)) q
          (entries-all (λ m. Precedes m (at_key b.0)) (λ (f : Found). found_cmp f (named b.0 0) ≡ Less) (mark first)
          (λ f p. p) (rising-before (mark first) (row_marks mark (b.1, rest)) (at_key b.0) h)))

      back : (t : Bool) → is_lt (found_cmp high (named b.0 0)) ≡ t →
          flat_map look (picks low high b.1 rest) ≡ view (entries_in (row_marks mark (b.1, rest))) →
          flat_map look (cond t [] (picks low high b.1 rest)) ≡ view (entries_in (row_marks mark (b.1, rest)))
      back true q more =
          sym (is.stops b.0 (entries_in (row_marks mark (b.1, rest))) q lawful-tail
          (entries-all (Precedes (at_key b.0)) (λ (f : Found). is_lt (found_cmp f (named b.0 0)) ≡ false)
          (row_marks mark (b.1, rest)) (λ f p. p)
          (rising-behind (mark first) (row_marks mark (b.1, rest)) (at_key b.0) h)))
      back false q more = more

-- the marks of a tree with numbers
abbrev pub body-marks : (n : ℕ) → ℕ × Body n → List Mark
body-marks n t = marks n (bare n t.1)

pub bare-marks : (n : ℕ) (row : Row (ℕ × Body n)) → marks (suc n) (bare (suc n) row) ≡ row_marks (body-marks n) row
bare-marks n row = ap (λ (l : List Mark). body-marks n row.0 ++ l) (rest-is row.1)
  where
    rest-is : (rest : List (Key × (ℕ × Body n))) →
        flat_map (λ (b : Key × Tree n). at_key b.0 ∷ marks n b.1)
        (map (λ (b : Key × (ℕ × Body n)). (b.0, bare n b.1.1)) rest)
        ≡ flat_map (λ (b : Key × (ℕ × Body n)). at_key b.0 ∷ body-marks n b.1) rest
    rest-is [] = refl
    rest-is (b ∷ rest) = ap (λ (l : List Mark). (at_key b.0 ∷ body-marks n b.1) ++ l) (rest-is rest)

-- a tree that pages hold
pub record IsGood (size : ℕ) (pages : Pages) (kind : Kind) (n : ℕ) (t : ℕ × Body n) : Type 0 where
  pub there : AllByRecursion (IsThere size pages) (nodes n t)
  pub rises : IsRising (body-marks n t)
  pub lawful : AllByRecursion IsFound (entries_in (body-marks n t))
  pub kinds : AreOfKind kind (entries_in (body-marks n t))

pub record Subtree : Type 0 where
  pub levels : ℕ
  pub tree : ℕ × Body levels

abbrev pub root-numbers : List Subtree → List ℕ
root-numbers = map (λ (s : Subtree). s.tree.0)

abbrev pub forest-nodes : List Subtree → List Met
forest-nodes = flat_map (λ (s : Subtree). nodes s.levels s.tree)

module _ (size : ℕ) (pages : Pages) (kind : Kind) where
  abbrev pub Good : Subtree → Type 0
  Good s = IsGood size pages kind s.levels s.tree

  pub row-good : (n : ℕ) (first : ℕ × Body n) (rest : List (Key × (ℕ × Body n))) →
      AllByRecursion (IsThere size pages) (row_nodes (nodes n) (first, rest)) →
      IsRising (row_marks (body-marks n) (first, rest)) →
      AllByRecursion IsFound (entries_in (row_marks (body-marks n) (first, rest))) →
      AreOfKind kind (entries_in (row_marks (body-marks n) (first, rest))) → IsGood size pages kind n first
      × AllByRecursion (λ (b : Key × (ℕ × Body n)). IsGood size pages kind n b.1) rest
  row-good n first [] there h lawful kinds = (
    record {
      there = all-left (IsThere size pages) (nodes n first) [] there;
      rises = rising-left (body-marks n first) [] h;
      lawful = subst (λ (m : List Mark). AllByRecursion IsFound (entries_in m)) (row-one (body-marks n) first) lawful;
      kinds = subst (λ (m : List Mark). AreOfKind kind (entries_in m)) (row-one (body-marks n) first) kinds;
    },
    tt,
  )
  row-good n first (b ∷ rest) there h lawful kinds =
      let tail : List Mark = at_key b.0 ∷ row_marks (body-marks n) (b.1, rest) in
      let e = entries-append (body-marks n first) tail in
      let found = subst (AllByRecursion IsFound) e lawful in
      let same = subst (AreOfKind kind) e kinds in
      let more =
      row-good n b.1 rest (all-right (IsThere size pages) (nodes n first) _ there)
      (rising-right (body-marks n first) tail h).1
      (all-right IsFound (entries_in (body-marks n first)) (entries_in tail) found)
      (all-right (λ (f : Found). kind_of f.value ≡ kind) (entries_in (body-marks n first))
      (entries_in tail) same) in (
        record {
          there = all-left (IsThere size pages) (nodes n first) _ there;
          rises = rising-left (body-marks n first) tail h;
          lawful = all-left IsFound (entries_in (body-marks n first)) (entries_in tail) found;
          kinds = all-left (λ (f : Found). kind_of f.value ≡ kind) (entries_in (body-marks n first))
              (entries_in tail) same;
        },
        more,
      )

  subtrees-good : (n : ℕ) (ts : List (ℕ × Body n)) → AllByRecursion (IsGood size pages kind n) ts →
      AllByRecursion Good (map (λ (t : ℕ × Body n). record { levels = n; tree = t }) ts)
  subtrees-good n [] all = tt
  subtrees-good n (t ∷ ts) all = (all.0, subtrees-good n ts all.1)

  subtrees-numbers : (n : ℕ) (ts : List (ℕ × Body n)) →
      map (λ (t : ℕ × Body n). t.0) ts ≡ root-numbers (map (λ (t : ℕ × Body n). record { levels = n; tree = t }) ts)
  subtrees-numbers n [] = refl
  subtrees-numbers n (t ∷ ts) = ap (λ (l : List ℕ). t.0 ∷ l) (subtrees-numbers n ts)

  subtrees-flat : {Y : Type 0} (n : ℕ) (f : Subtree → List Y) (ts : List (ℕ × Body n)) →
      flat_map f (map (λ (t : ℕ × Body n). record { levels = n; tree = t }) ts)
      ≡ flat_map (λ (t : ℕ × Body n). f (record { levels = n; tree = t })) ts
  subtrees-flat n f [] = refl
  subtrees-flat n f (t ∷ ts) = ap (λ l. f (record { levels = n; tree = t }) ++ l) (subtrees-flat n f ts)

  module _ (low high : Found) (view : List Found → List Found) (is : IsView low high view) where
    abbrev pub look : Subtree → List Found
    look s = view (entries_in (body-marks s.levels s.tree))

    -- what is met below a page, and what is seen there
    pub record Step (n : ℕ) (t : ℕ × Body n) : Type 0 where
      pub below : List Subtree
      pub named_is : children low high (content n t.1) ≡ root-numbers below
      pub good : AllByRecursion Good below
      pub fewer : 1 + length (forest-nodes below) ≤ length (nodes n t)
      pub shows : view (entries_in (body-marks n t)) ≡ on_leaf view (content n t.1).form (content n t.1).entries
          ++ flat_map look below
      pub tree : IsOfTree kind (content n t.1).form (content n t.1).entries

    pub step : (n : ℕ) (t : ℕ × Body n) → IsGood size pages kind n t → Step n t
    step zero t good = record {
      below = [];
      named_is = refl;
      good = tt;
      fewer = omega arith;
      shows = ap view (entries-map t.1) ∙ sym (append-nil (view t.1));
      tree = subst (AreOfKind kind) (entries-map t.1) good.kinds;
    }
    step (suc n) t good =
        let row = t.1 in
        let e = bare-marks n row in
        let h = subst IsRising e good.rises in
        let lawful = subst (λ (m : List Mark). AllByRecursion IsFound (entries_in m)) e good.lawful in
        let children-good =
        row-good n row.0 row.1 good.there.1 h lawful
        (subst (λ (m : List Mark). AreOfKind kind (entries_in m)) e good.kinds) in
        let ts = picks low high row.0 row.1 in
        record {
          below = map (λ (t : ℕ × Body n). record { levels = n; tree = t }) ts;
          named_is = chosen-picks n low high row.0 row.1 ∙ subtrees-numbers n ts;
          good = subtrees-good n ts
              (picks-all (IsGood size pages kind n) low high row.0 row.1 children-good.0 children-good.1);
          fewer = omega (
            arith,
            ap length (subtrees-flat n (λ (s : Subtree). nodes s.levels s.tree) ts),
            picks-few (nodes n) low high row.0 row.1,
          );
          shows = ap (λ (m : List Mark). view (entries_in m)) e ∙
              sym (picks-seen (body-marks n) low high view is row.0 row.1 h lawful) ∙ sym (subtrees-flat n look ts);
          tree = tt;
        }

    -- what is left of a way
    pub record Left (forest : List Subtree) (way : List Met) (left : List ℕ) : Type 0 where
      pub rest : List Subtree
      pub left_is : left ≡ root-numbers rest
      pub good : AllByRecursion Good rest
      pub fewer : length way + length (forest-nodes rest) ≤ length (forest-nodes forest)
      pub shows : flat_map look forest ≡ along view way ++ flat_map look rest

    pub walk-left : (way : List Met) (forest : List Subtree) (todo left : List ℕ) → todo ≡ root-numbers forest →
        AllByRecursion Good forest → Meets low high kind size pages todo way left → Left forest way left
    walk-left [] forest todo left names good meets =
        record { rest = forest; left_is = sym meets ∙ names; good = good; fewer = omega arith; shows = refl }
    walk-left (met ∷ way) [] todo left names good meets = absurd (none (sym names ∙ meets.1))
      where
        none : [] ≡ met.page ∷ meets.0 → ⊥
        none e = absurd cc
    walk-left (met ∷ way) (s ∷ forest) todo left names good meets =
        let p : s.tree.0 ∷ root-numbers forest ≡ met.page ∷ meets.0 = sym names ∙ meets.1 in
        let held : content s.levels s.tree.1 ≡ met.held =
        at-one size pages met.page (content s.levels s.tree.1) met.held
        (subst (λ (page : ℕ). IsIndexAt size pages page (content s.levels s.tree.1)) (first p)
        (first-there size pages s.levels s.tree good.0.there)) meets.2.0 in
        let here = step s.levels s.tree good.0 in
        let more : children low high met.held ++ meets.0 ≡ root-numbers (here.below ++ forest) =
        ap (λ (h : IndexPage). children low high h ++ meets.0) (sym held) ∙
        ap (λ (l : List ℕ). l ++ meets.0) here.named_is ∙
        ap (λ (l : List ℕ). root-numbers here.below ++ l) (sym (second p)) ∙
        sym (map-append (λ (s : Subtree). s.tree.0) here.below forest) in
        let on = walk-left way (here.below ++ forest) (children low high met.held ++ meets.0) left more
        (all-join Good here.below forest here.good good.1) meets.3 in
        record {
          rest = on.rest;
          left_is = on.left_is;
          good = on.good;
          fewer = omega (
            arith,
            on.fewer,
            here.fewer,
            ap length (flat_map-append (λ (s : Subtree). nodes s.levels s.tree) here.below forest),
            length-append (forest-nodes here.below) (forest-nodes forest),
            length-append (nodes s.levels s.tree) (forest-nodes forest),
          );
          shows = shown s.levels s.tree (content s.levels s.tree.1) met.held held here.below here.shows on.rest
              on.shows;
        }
      where
        first : s.tree.0 ∷ root-numbers forest ≡ met.page ∷ meets.0 → s.tree.0 ≡ met.page
        first e = cc

        second : s.tree.0 ∷ root-numbers forest ≡ met.page ∷ meets.0 → root-numbers forest ≡ meets.0
        second e = cc

        shown : (n : ℕ) (t : ℕ × Body n) (c h : IndexPage) → c ≡ h → (below : List Subtree) →
            view (entries_in (body-marks n t)) ≡ on_leaf view c.form c.entries ++ flat_map look below →
            (rest : List Subtree) → flat_map look (below ++ forest) ≡ along view way ++ flat_map look rest →
            view (entries_in (body-marks n t)) ++ flat_map look forest
            ≡ (on_leaf view h.form h.entries ++ along view way) ++ flat_map look rest
        shown n t c h e below one rest two =
            ap (λ (l : List Found). l ++ flat_map look forest) one ∙
            append_assoc (on_leaf view c.form c.entries) (flat_map look below) (flat_map look forest)
            ∙ ap (λ (l : List Found). on_leaf view c.form c.entries ++ l)
            (sym (flat_map-append look below forest) ∙ two)
            ∙ sym (append_assoc (on_leaf view c.form c.entries) (along view way) (flat_map look rest))
            ∙ ap (λ (p : IndexPage). (on_leaf view p.form p.entries ++ along view way) ++ flat_map look rest) e
