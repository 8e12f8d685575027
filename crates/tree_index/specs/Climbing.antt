-- The way back up a tree that pages hold: proofs.
use Rattle.std.proofs.Common.{◌≡◌, ◌<◌, ◌≤◌, ◌^◌, ◌++◌, ◌∙◌, ℕ, Bool, true, false, cond, List, [], ◌∷◌}
use Rattle.std.proofs.Common.{length, map, Option, Some, None, Ok, refl, sym, ap, subst, append_assoc}
use Rattle.std.specs.List.{flat_map, AllByRecursion}
use Rattle.std.specs.List.Sorted.{IsPermutation}
use Rattle.std.specs.Ordering.{is_lt, ordering_reverse}
use Rattle.std.specs.declared.cmp.Ordering.TheVariants.{Less, Greater}
use Rattle.std.proofs.lemmas.List.{append-nil, map-append}
use Rattle.std.proofs.lemmas.List.Concat.{flat_map-append}
use Rattle.std.proofs.lemmas.List.Sorted.{IsPermutation-append_comm, IsPermutation-append_left}
use Rattle.std.proofs.lemmas.List.Sorted.{IsPermutation-append_right, IsPermutation-refl, IsPermutation-trans}
use Rattle.pager.specs.Index.{found_cmp}
use Rattle.pager.specs.Pages.{Pages}
use Rattle.pager.specs.Root.{all_taken}
use Rattle.pager.specs.declared.index.Found.{Found}
use Rattle.index_page.specs.Entries.{entry_inserted}
use Rattle.index_page.specs.IndexPage.{AreWritable}
use Rattle.index_page.proofs.Ordered.{inserted-one}
use Rattle.tree_index.specs.declared.walk.Met.{Met}
use Rattle.tree_index.specs.Marking.{all-join, all-left, all-right, rising-behind, rising-right}
use Rattle.tree_index.specs.Tree.{Body, IsRising, Key, Mark, Precedes, Row, Tree, at_key, bare}
use Rattle.tree_index.specs.Tree.{changed, marks, named, nodes, numbers, row_marks, row_nodes}
use Rattle.tree_index.specs.declared.climb.Climb.{Climb}
use Rattle.pager.proofs.Orders.{found_total}

-- lists in other orders
pub perm-eq : {X : Type 0} (a b : List X) → a ≡ b → IsPermutation a b
perm-eq a b e = subst (IsPermutation a) e (IsPermutation-refl a)

pub perm-swap : {X : Type 0} (a b c : List X) → IsPermutation (a ++ (b ++ c)) (b ++ (a ++ c))
perm-swap a b c =
    IsPermutation-trans (a ++ (b ++ c)) ((a ++ b) ++ c) (b ++ (a ++ c)) (perm-eq _ _ (sym (append_assoc a b c)))
    (IsPermutation-trans ((a ++ b) ++ c) ((b ++ a) ++ c) (b ++ (a ++ c))
    (IsPermutation-append_left c (a ++ b) (b ++ a) (IsPermutation-append_comm a b)) (perm-eq _ _ (append_assoc b a c)))

pub perm-back : {X : Type 0} (a b c : List X) → IsPermutation ((a ++ b) ++ c) ((a ++ c) ++ b)
perm-back a b c =
    IsPermutation-trans ((a ++ b) ++ c) (a ++ (b ++ c)) ((a ++ c) ++ b) (perm-eq _ _ (append_assoc a b c))
    (IsPermutation-trans (a ++ (b ++ c)) (a ++ (c ++ b)) ((a ++ c) ++ b)
    (IsPermutation-append_right a (b ++ c) (c ++ b) (IsPermutation-append_comm b c))
    (perm-eq _ _ (sym (append_assoc a c b))))

-- a page that can be written
pub record IsReady (size : ℕ) (met : Met) : Type 0 where
  pub low : 2 ≤ met.page
  pub there : met.page < size
  pub link : met.held.link < 2 ^ 32
  pub writable : AreWritable met.held.entries

-- pages that were taken
pub record IsTaken (size : ℕ) (pages : Pages) (opened : List ℕ) (after : Pages) : Type 0 where
  pub took : all_taken size (length opened) pages ≡ Ok (opened, after)
  pub small : AllByRecursion (λ page. page < 2 ^ 32) opened
  pub within : AllByRecursion (λ page. (2 ≤ page) × (page < size)) opened

-- the key that goes on up names the tree behind the first, if there is one
abbrev pub UpIs : (n : ℕ) → Option Found → List (Key × (ℕ × Body n)) → Type 0
UpIs n None behind = behind ≡ []
UpIs n (Some key) behind = (b : Key × (ℕ × Body n)) × (behind ≡ b ∷ []) × (key ≡ named b.0 b.1.0)

abbrev pub with_up : Option Found → List Found → List Found
with_up None keys = keys
with_up (Some key) keys = entry_inserted key keys

abbrev pub row-founds : (n : ℕ) → List (Key × (ℕ × Body n)) → List Found
row-founds n = map (λ (b : Key × (ℕ × Body n)). named b.0 b.1.0)

abbrev pub bare-behind : (n : ℕ) → List (Key × (ℕ × Body n)) → List (Key × Tree n)
bare-behind n = map (λ (b : Key × (ℕ × Body n)). (b.0, bare n b.1.1))

-- What a change makes of a tree that pages hold: it stands on the pages that are written, on others that stay, and on
-- those that were opened.
pub record Climbs (size : ℕ) (pages : Pages) (n : ℕ) (made_is : Row (Tree n)) (t : ℕ × Body n) (state : Climb)
    (after : Pages) : Type 1 where
  pub row : Row (ℕ × Body n)
  pub first_bare : bare n row.0.1 ≡ made_is.0
  pub rest_bare : bare-behind n row.1 ≡ made_is.1
  pub first_is : row.0.0 ≡ t.0
  pub up_is : UpIs n state.up row.1
  pub opened : List ℕ
  pub taken_is : IsTaken size pages opened after
  pub others : List Met
  pub kept : (P : Met → Type 0) → AllByRecursion P (nodes n t) → AllByRecursion P others
  pub nodes_are : IsPermutation (state.edits ++ others) (row_nodes (nodes n) row)
  pub numbers_are : IsPermutation (numbers (nodes n t) ++ opened) (numbers (row_nodes (nodes n) row))
  pub in_place : opened ≡ [] → numbers (row_nodes (nodes n) row) ≡ numbers (nodes n t)
  pub ready : AllByRecursion (IsReady size) state.edits

-- the same of a row, before the keys are found to have room or not
pub record RowClimbs (size : ℕ) (pages : Pages) (n : ℕ) (changed_is : Row (Tree n)) (first : ℕ × Body n)
    (rest : List (Key × (ℕ × Body n))) (state : Climb) (after : Pages) : Type 1 where
  pub row : Row (ℕ × Body n)
  pub first_bare : bare n row.0.1 ≡ changed_is.0
  pub rest_bare : bare-behind n row.1 ≡ changed_is.1
  pub first_is : row.0.0 ≡ first.0
  pub keys_are : row-founds n row.1 ≡ with_up state.up (row-founds n rest)
  pub opened : List ℕ
  pub taken_is : IsTaken size pages opened after
  pub others : List Met
  pub kept : (P : Met → Type 0) → AllByRecursion P (row_nodes (nodes n) (first, rest)) → AllByRecursion P others
  pub nodes_are : IsPermutation (state.edits ++ others) (row_nodes (nodes n) row)
  pub numbers_are : IsPermutation (numbers (row_nodes (nodes n) (first, rest)) ++ opened)
      (numbers (row_nodes (nodes n) row))
  pub in_place : opened ≡ [] → numbers (row_nodes (nodes n) row) ≡ numbers (row_nodes (nodes n) (first, rest))
  pub ready : AllByRecursion (IsReady size) state.edits

-- the child in which an entry belongs
abbrev pub picked : {X : Type 0} → Found → X → List (Key × X) → X
picked e first [] = first
picked e first (b ∷ rest) = cond (is_lt (found_cmp e (named b.0 0))) first (picked e b.1 rest)

row-nodes-more : (n : ℕ) (row : Row (ℕ × Body n)) (more : List (Key × (ℕ × Body n))) →
    row_nodes (nodes n) (row.0, row.1 ++ more) ≡ row_nodes (nodes n) row ++ flat_map
    (λ (b : Key × (ℕ × Body n)). nodes n b.1) more
row-nodes-more n row more =
    ap (λ (l : List Met). nodes n row.0 ++ l) (flat_map-append (λ (b : Key × (ℕ × Body n)). nodes n b.1) row.1 more) ∙
    sym (append_assoc (nodes n row.0) _ _)

numbers-append : (a b : List Met) → numbers (a ++ b) ≡ numbers a ++ numbers b
numbers-append a b = map-append (λ (met : Met). met.page) a b

-- a key that rises above another goes behind it
inserted-behind : (key f : Found) (keys : List Found) → found_cmp f key ≡ Less →
    entry_inserted key (f ∷ keys) ≡ f ∷ entry_inserted key keys
inserted-behind key f keys less = rw less refl

inserted-before : (key f : Found) (keys : List Found) → found_cmp key f ≡ Less →
    entry_inserted key (f ∷ keys) ≡ key ∷ f ∷ keys
inserted-before key f keys less =
    let above : found_cmp f key ≡ Greater = found_total.antisymm f key ∙ ap ordering_reverse less in
    rw above refl

keys-all : {X : Type 0} (mark : X → List Mark) (P : Mark → Type 0) (Q : Key → Type 0) (rest : List (Key × X)) →
    ((k : Key) → P (at_key k) → Q k) → AllByRecursion P (flat_map (λ (b : Key × X). at_key b.0 ∷ mark b.1) rest) →
    AllByRecursion (λ (b : Key × X). Q b.0) rest
keys-all mark P Q [] go all = tt
keys-all mark P Q (b ∷ rest) go all = (go b.0 all.0, keys-all mark P Q rest go (all-right P (mark b.1) _ all.1))

founds-all : (n : ℕ) (k : Key) (rest : List (Key × (ℕ × Body n))) →
    AllByRecursion (λ (b : Key × Tree n). found_cmp (named k 0) (named b.0 0) ≡ Less) (bare-behind n rest) →
    AllByRecursion (λ (f : Found). found_cmp (named k 0) f ≡ Less) (row-founds n rest)
founds-all n k [] all = tt
founds-all n k (b ∷ rest) all = (all.0, founds-all n k rest all.1)

-- the child behind the last key that is not above the entry is changed, and the row with it
pub row-climbs : (size : ℕ) (pages : Pages) (n : ℕ) (change : Tree n → Row (Tree n)) (e : Found) (first : ℕ × Body n)
    (rest : List (Key × (ℕ × Body n))) (state : Climb) (after : Pages) →
    IsRising (row_marks (marks n) (changed change e (bare n first.1) (bare-behind n rest))) →
    Climbs size pages n (change (bare n (picked e first rest).1)) (picked e first rest) state after →
    RowClimbs size pages n (changed change e (bare n first.1) (bare-behind n rest)) first rest state after
row-climbs size pages n change e first [] state after rises climbs = record {
  row = climbs.row;
  first_bare = climbs.first_bare;
  rest_bare = climbs.rest_bare;
  first_is = climbs.first_is;
  keys_are = keys state.up climbs.row.1 climbs.up_is;
  opened = climbs.opened;
  taken_is = climbs.taken_is;
  others = climbs.others;
  kept = λ P all. climbs.kept P (subst (AllByRecursion P) (append-nil (nodes n first)) all);
  nodes_are = climbs.nodes_are;
  numbers_are =
      subst (λ (l : List Met). IsPermutation (numbers l ++ climbs.opened) (numbers (row_nodes (nodes n) climbs.row)))
      (sym (append-nil (nodes n first))) climbs.numbers_are;
  in_place = λ none. climbs.in_place none ∙ ap numbers (sym (append-nil (nodes n first)));
  ready = climbs.ready;
}
  where
    keys : (up : Option Found) (behind : List (Key × (ℕ × Body n))) → UpIs n up behind →
        row-founds n behind ≡ with_up up []
    keys None behind is = ap (row-founds n) is
    keys (Some key) behind is = ap (row-founds n) is.1 ∙ ap (λ (f : Found). f ∷ []) (sym is.2)
row-climbs size pages n change e first (b ∷ rest) state after rises climbs =
    step (is_lt (found_cmp e (named b.0 0))) rises climbs (row-climbs size pages n change e b.1 rest state after)
  where
    S : List Met
    S = flat_map (λ (c : Key × (ℕ × Body n)). nodes n c.1) (b ∷ rest)

    made : Row (Tree n)
    made = changed change e (bare n b.1.1) (bare-behind n rest)

    tail : List (Key × Tree n)
    tail = (b.0, bare n b.1.1) ∷ bare-behind n rest

    before : (up : Option Found) (behind : List (Key × (ℕ × Body n))) (g : Tree n) → UpIs n up behind →
        IsRising (row_marks (marks n) (g, bare-behind n behind ++ (b.0, bare n b.1.1) ∷ bare-behind n rest)) →
        row-founds n (behind ++ b ∷ rest) ≡ with_up up (row-founds n (b ∷ rest))
    before None behind g is h = ap (λ (l : List (Key × (ℕ × Body n))). row-founds n (l ++ b ∷ rest)) is
    before (Some key) behind g is h =
        let c = is.0 in
        let whole : IsRising
        (row_marks (marks n) (g, (c.0, bare n c.1.1) ∷ ((b.0, bare n b.1.1) ∷ bare-behind n rest))) =
        subst (λ (l : List (Key × (ℕ × Body n))). IsRising
        (row_marks (marks n) (g, bare-behind n l ++ (b.0, bare n b.1.1) ∷ bare-behind n rest))) is.1 h in
        let above =
        rising-behind (marks n g) (row_marks (marks n) (bare n c.1.1, (b.0, bare n b.1.1) ∷ bare-behind n rest))
        (at_key c.0) whole in
        let less : found_cmp (named c.0 0) (named b.0 0) ≡ Less =
        (all-right (Precedes (at_key c.0)) (marks n (bare n c.1.1)) _ above).0 in
        ap (λ (l : List (Key × (ℕ × Body n))). row-founds n (l ++ b ∷ rest)) is.1 ∙
        sym (inserted-before (named c.0 c.1.0) (named b.0 b.1.0) (row-founds n rest) less) ∙
        ap (λ (f : Found). entry_inserted f (row-founds n (b ∷ rest))) (sym is.2)

    behind : (up : Option Found) (row : Row (ℕ × Body n)) → row.0.0 ≡ b.1.0 →
        row-founds n row.1 ≡ with_up up (row-founds n rest) →
        AllByRecursion (λ (f : Found). found_cmp (named b.0 0) f ≡ Less) (row-founds n row.1) →
        named b.0 row.0.0 ∷ row-founds n row.1 ≡ with_up up (named b.0 b.1.0 ∷ row-founds n rest)
    behind None row at keys less =
        ap (λ (p : ℕ). named b.0 p ∷ row-founds n row.1) at ∙ ap (λ (l : List Found). named b.0 b.1.0 ∷ l) keys
    behind (Some key) row at keys less =
        let under =
        inserted-one (λ (f : Found). found_cmp (named b.0 0) f ≡ Less) key (row-founds n rest)
        (subst (AllByRecursion (λ (f : Found). found_cmp (named b.0 0) f ≡ Less)) keys less) in
        ap (λ (p : ℕ). named b.0 p ∷ row-founds n row.1) at ∙ ap (λ (l : List Found). named b.0 b.1.0 ∷ l) keys ∙
        sym (inserted-behind key (named b.0 b.1.0) (row-founds n rest) under)

    step : (t : Bool) →
        IsRising (row_marks (marks n)
        (cond t ((change (bare n first.1)).0, (change (bare n first.1)).1 ++ tail)
        (bare n first.1, (b.0, made.0) ∷ made.1))) →
        Climbs size pages n (change (bare n (cond t first (picked e b.1 rest)).1))
        (cond t first (picked e b.1 rest)) state after →
        (IsRising (row_marks (marks n) made) →
        Climbs size pages n (change (bare n (picked e b.1 rest).1)) (picked e b.1 rest) state after →
        RowClimbs size pages n made b.1 rest state after) →
        RowClimbs size pages n
        (cond t ((change (bare n first.1)).0, (change (bare n first.1)).1 ++ tail)
        (bare n first.1, (b.0, made.0) ∷ made.1)) first (b ∷ rest) state after
    step true h climbs go = record {
      row = (climbs.row.0, climbs.row.1 ++ b ∷ rest);
      first_bare = climbs.first_bare;
      rest_bare = map-append (λ (c : Key × (ℕ × Body n)). (c.0, bare n c.1.1)) climbs.row.1 (b ∷ rest) ∙
          ap (λ (l : List (Key × Tree n)). l ++ tail) climbs.rest_bare;
      first_is = climbs.first_is;
      keys_are =
          before state.up climbs.row.1 (change (bare n first.1)).0 climbs.up_is
          (subst (λ (l : List (Key × Tree n)). IsRising (row_marks (marks n) ((change (bare n first.1)).0, l ++ tail)))
          (sym climbs.rest_bare) h);
      opened = climbs.opened;
      taken_is = climbs.taken_is;
      others = climbs.others ++ S;
      kept = λ P all. all-join P climbs.others S (climbs.kept P (all-left P (nodes n first) S all))
          (all-right P (nodes n first) S all);
      nodes_are =
          subst (IsPermutation (state.edits ++ (climbs.others ++ S))) (sym (row-nodes-more n climbs.row (b ∷ rest)))
          (subst (λ (l : List Met). IsPermutation l (row_nodes (nodes n) climbs.row ++ S))
          (append_assoc state.edits climbs.others S)
          (IsPermutation-append_left S (state.edits ++ climbs.others)
          (row_nodes (nodes n) climbs.row) climbs.nodes_are));
      numbers_are =
          let F = numbers (nodes n first) in
          let from : numbers (nodes n first ++ S) ++ climbs.opened ≡ (F ++ numbers S) ++ climbs.opened =
          ap (λ (l : List ℕ). l ++ climbs.opened) (numbers-append (nodes n first) S) in
          let to : numbers (row_nodes (nodes n) climbs.row) ++ numbers S
          ≡ numbers (row_nodes (nodes n) (climbs.row.0, climbs.row.1 ++ b ∷ rest)) =
          sym (ap numbers (row-nodes-more n climbs.row (b ∷ rest)) ∙
          numbers-append (row_nodes (nodes n) climbs.row) S) in
          subst (λ (l : List ℕ). IsPermutation l
          (numbers (row_nodes (nodes n) (climbs.row.0, climbs.row.1 ++ b ∷ rest)))) (sym from)
          (subst (IsPermutation ((F ++ numbers S) ++ climbs.opened)) to
          (IsPermutation-trans ((F ++ numbers S) ++ climbs.opened) ((F ++ climbs.opened) ++ numbers S)
          (numbers (row_nodes (nodes n) climbs.row) ++ numbers S) (perm-back F (numbers S) climbs.opened)
          (IsPermutation-append_left (numbers S) (F ++ climbs.opened)
          (numbers (row_nodes (nodes n) climbs.row)) climbs.numbers_are)));
      in_place = λ none.
          ap numbers (row-nodes-more n climbs.row (b ∷ rest)) ∙ numbers-append (row_nodes (nodes n) climbs.row) S ∙
          ap (λ (l : List ℕ). l ++ numbers S) (climbs.in_place none) ∙ sym (numbers-append (nodes n first) S);
      ready = climbs.ready;
    }
    step false h climbs go =
        let more = go (rising-right (marks n (bare n first.1)) (at_key b.0 ∷ row_marks (marks n) made) h).1 climbs in
        let above = rising-behind (marks n (bare n first.1)) (row_marks (marks n) made) (at_key b.0) h in
        let keys =
        keys-all (marks n) (Precedes (at_key b.0)) (λ k. found_cmp (named b.0 0) (named k 0) ≡ Less) made.1
        (λ k p. p) (all-right (Precedes (at_key b.0)) (marks n made.0) _ above) in
        let less =
        founds-all n b.0 more.row.1
        (subst (AllByRecursion (λ (c : Key × Tree n). found_cmp (named b.0 0) (named c.0 0) ≡ Less))
        (sym more.rest_bare) keys) in
        let G = row_nodes (nodes n) (b.1, rest) in
        record {
          row = (first, (b.0, more.row.0) ∷ more.row.1);
          first_bare = refl;
          rest_bare = ap (λ (t : Tree n). (b.0, t) ∷ bare-behind n more.row.1) more.first_bare ∙
              ap (λ (l : List (Key × Tree n)). (b.0, made.0) ∷ l) more.rest_bare;
          first_is = refl;
          keys_are = behind state.up more.row more.first_is more.keys_are less;
          opened = more.opened;
          taken_is = more.taken_is;
          others = nodes n first ++ more.others;
          kept = λ P all. all-join P (nodes n first) more.others (all-left P (nodes n first) S all)
              (more.kept P (all-right P (nodes n first) S all));
          nodes_are =
              IsPermutation-trans (state.edits ++ (nodes n first ++ more.others))
              (nodes n first ++ (state.edits ++ more.others)) (nodes n first ++ row_nodes (nodes n) more.row)
              (perm-swap state.edits (nodes n first) more.others)
              (IsPermutation-append_right (nodes n first) (state.edits ++ more.others)
              (row_nodes (nodes n) more.row) more.nodes_are);
          numbers_are =
              let F = numbers (nodes n first) in
              let from : numbers (nodes n first ++ G) ++ more.opened ≡ F ++ (numbers G ++ more.opened) =
              ap (λ (l : List ℕ). l ++ more.opened) (numbers-append (nodes n first) G) ∙
              append_assoc F (numbers G) more.opened in
              let to : F ++ numbers (row_nodes (nodes n) more.row)
              ≡ numbers (nodes n first ++ row_nodes (nodes n) more.row) =
              sym (numbers-append (nodes n first) (row_nodes (nodes n) more.row)) in
              subst (λ (l : List ℕ). IsPermutation l (numbers (nodes n first ++ row_nodes (nodes n) more.row)))
              (sym from)
              (subst (IsPermutation (F ++ (numbers G ++ more.opened))) to
              (IsPermutation-append_right F (numbers G ++ more.opened)
              (numbers (row_nodes (nodes n) more.row)) more.numbers_are));
          in_place = λ none.
              numbers-append (nodes n first) (row_nodes (nodes n) more.row) ∙
              ap (λ (l : List ℕ). numbers (nodes n first) ++ l) (more.in_place none) ∙
              sym (numbers-append (nodes n first) G);
          ready = more.ready;
        }
