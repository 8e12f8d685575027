-- An entry that is added under a root page: proofs.
use Rattle.std.proofs.Common.{◌≡◌, ◌<◌, ◌≤◌, ◌+◌, ◌^◌, ◌++◌, ◌∙◌, ℕ, zero, suc, Bool, true}
use Rattle.std.proofs.Common.{false, cond, eqb, List, [], ◌∷◌, length, take, drop, Option, Some}
use Rattle.std.proofs.Common.{None, Result, Ok, Err, refl, sym, ap, subst, inl, inr, arith}
use Rattle.std.specs.List.{flat_map, drop-map, AllByRecursion}
use Rattle.std.specs.Ordering.{is_lt}
use Rattle.std.proofs.lemmas.Bool.{le-leb}
use Rattle.std.proofs.lemmas.List.{append-nil, length-append, length-map, map-append}
use Rattle.std.proofs.lemmas.List.Sorted.{length_permutation}
use Rattle.retro_base.specs.declared.refusal.Refusal.{Refusal}
use Rattle.values.specs.declared.value.Kind.{Kind}
use Rattle.pager.specs.Allows.{either, only}
use Rattle.pager.specs.Index.{AreOfKind, IsFound, found_cmp}
use Rattle.pager.specs.Pages.{Pages}
use Rattle.pager.specs.Root.{all_taken, taken}
use Rattle.pager.specs.declared.index.Found.{Found}
use Rattle.index_page.specs.Entries.{entry_inserted}
use Rattle.index_page.specs.IndexPage.{AreOneMore, half, have_room, width}
use Rattle.index_page.specs.declared.page.Form.TheVariants as form
use Rattle.index_page.specs.declared.page.IndexPage.{IndexPage}
use Rattle.index_page.proofs.Ordered.{inserted-all}
use Rattle.index_page.proofs.Packing.{entry-short}
use Rattle.index_page.proofs.Placing.{inserted-width}
use Rattle.index_page.proofs.Taking.{no-refusal}
use Rattle.tree_index.specs.declared.walk.Met.{Met}
use Rattle.tree_index.specs.Adding.{IsPlace, inner-climbs, leaf-climbs, node-of, only-is}
use Rattle.tree_index.specs.Climbing.{Climbs, RowClimbs, bare-behind, picked, row-climbs, row-founds, with_up}
use Rattle.tree_index.specs.Counting.{back-some, changed-counts, inners-count, leaves-count, row-count, row-nodes-count}
use Rattle.tree_index.specs.Descending.{IsGood, bare-marks, row-good}
use Rattle.tree_index.specs.Growing.{grown-fits, grown-rises}
use Rattle.tree_index.specs.Marking.{all-left, all-more, all-right}
use Rattle.tree_index.specs.Placing.{any-room, below}
use Rattle.tree_index.specs.Shaping.{changed-keys, changed-rises}
use Rattle.tree_index.specs.Tree.{entries_in, Body, Fits, IsRising, Key, Row, Tree, bare, changed}
use Rattle.tree_index.specs.Tree.{count_behind, grown, inners, leaves, marks, named, next_inner, next_leaf}
use Rattle.tree_index.specs.Tree.{nodes, numbers, page_count, row_keys, row_marks, row_nodes}
use Rattle.tree_index.specs.declared.climb.Climb.{Climb}
use Rattle.tree_index.specs.Work.{climbed, placed, split}

-- the way down to the leaf in which an entry belongs
abbrev pub path : Found → (n : ℕ) → ℕ × Body n → List Met
path e zero t = node-of 0 t ∷ []
path e (suc n) t = node-of (suc n) t ∷ path e n (picked e t.1.0 t.1.1)

pub picked-all : {X : Type 0} (P : X → Type 0) (e : Found) (first : X) (rest : List (Key × X)) → P first →
    AllByRecursion (λ (b : Key × X). P b.1) rest → P (picked e first rest)
picked-all P e first [] is all = is
picked-all P e first (b ∷ rest) is all = step (is_lt (found_cmp e (named b.0 0))) (picked-all P e b.1 rest all.0 all.1)
  where
    step : (t : Bool) → P (picked e b.1 rest) → P (cond t first (picked e b.1 rest))
    step true more = is
    step false more = more

pub picked-bare : (n : ℕ) (e : Found) (first : ℕ × Body n) (rest : List (Key × (ℕ × Body n))) →
    picked e (bare n first.1) (bare-behind n rest) ≡ bare n (picked e first rest).1
picked-bare n e first [] = refl
picked-bare n e first (b ∷ rest) = step (is_lt (found_cmp e (named b.0 0))) (picked-bare n e b.1 rest)
  where
    step : (t : Bool) → picked e (bare n b.1.1) (bare-behind n rest) ≡ bare n (picked e b.1 rest).1 →
        cond t (bare n first.1) (picked e (bare n b.1.1) (bare-behind n rest))
        ≡ bare n ((λ (x : ℕ × Body n). x.1) (cond t first (picked e b.1 rest)))
    step true more = refl
    step false more = more

-- a page that is full opens one
pub leaves-opened : (es : List Found) → AllByRecursion IsFound es → AreOneMore es → have_room es ≡ false →
    length (row_keys (leaves es).1) ≡ 1
leaves-opened es all most full =
    ap (λ (t : Bool). length
    (row_keys (cond {A = Row (List Found)} t (es, []) (take (half es) es, next_leaf (drop (half es) es))).1)) full ∙
    step (drop (half es) es) (back-some es all most full)
  where
    step : (l : List Found) → 0 < length l → length (row_keys (next_leaf l)) ≡ 1
    step [] some = absurd (omega arith)
    step (m ∷ back) some = refl

pub inners-opened : {X : Type 0} (row : Row X) → AllByRecursion IsFound (row_keys row.1) → AreOneMore (row_keys row.1) →
    have_room (row_keys row.1) ≡ false → length (row_keys (inners row).1) ≡ 1
inners-opened {X} row all most full =
    ap (λ (t : Bool). length
    (row_keys
    (cond {A = Row (Row X)} t (row, [])
    ((row.0, take (half (row_keys row.1)) row.1), next_inner (drop (half (row_keys row.1)) row.1))).1)) full
    ∙ step (drop (half (row_keys row.1)) row.1)
    (subst (λ (l : List Found). 0 < length l) (drop-map (λ (b : Key × X). named b.0 0) (half (row_keys row.1)) row.1)
    (back-some (row_keys row.1) all most full))
  where
    step : (l : List (Key × X)) → 0 < length (row_keys l) → length (row_keys (next_inner l)) ≡ 1
    step [] some = absurd (omega arith)
    step (b ∷ back) some = refl

module _ (size root : ℕ) (pages : Pages) (kind : Kind) (e : Found) (found : IsFound e) where
  abbrev pub IsOther : ℕ → Type 0
  IsOther page = (page < 2 ^ 32) × (eqb page root ≡ false)

  -- a tree that pages hold below the root
  pub record Whole (n : ℕ) (t : ℕ × Body n) : Type 0 where
    pub good : IsGood size pages kind n t
    pub fits : Fits n (bare n t.1)
    pub other : AllByRecursion IsOther (numbers (nodes n t))

  wholes : (n : ℕ) (rest : List (Key × (ℕ × Body n))) →
      AllByRecursion (λ (b : Key × (ℕ × Body n)). IsGood size pages kind n b.1) rest →
      AllByRecursion (λ (b : Key × Tree n). Fits n b.1) (bare-behind n rest) →
      AllByRecursion IsOther (numbers (flat_map (λ (b : Key × (ℕ × Body n)). nodes n b.1) rest)) →
      AllByRecursion (λ (b : Key × (ℕ × Body n)). Whole n b.1) rest
  wholes n [] goods fits others = tt
  wholes n (b ∷ rest) goods fits others =
      let two =
      subst (AllByRecursion IsOther)
      (map-append (λ (met : Met). met.page) (nodes n b.1) (flat_map (λ (c : Key × (ℕ × Body n)). nodes n c.1) rest))
      others in (
        record { good = goods.0; fits = fits.0; other = all-left IsOther (numbers (nodes n b.1)) _ two },
        wholes n rest goods.1 fits.1 (all-right IsOther (numbers (nodes n b.1)) _ two),
      )

  -- what is under an inner page
  pub record Under (n : ℕ) (t : ℕ × Body (suc n)) : Type 0 where
    pub good : IsGood size pages kind (suc n) t
    pub fits : Fits (suc n) (bare (suc n) t.1)
    pub other : AllByRecursion IsOther (numbers (row_nodes (nodes n) t.1))

  pub child-whole : (n : ℕ) (t : ℕ × Body (suc n)) → Under n t → Whole n (picked e t.1.0 t.1.1)
  child-whole n t is =
      let row = t.1 in
      let m = bare-marks n row in
      let goods =
      row-good size pages kind n row.0 row.1 is.good.there.1 (subst IsRising m is.good.rises)
      (subst (λ l. AllByRecursion IsFound (entries_in l)) m is.good.lawful)
      (subst (λ l. AreOfKind kind (entries_in l)) m is.good.kinds) in
      let two =
      subst (AllByRecursion IsOther)
      (map-append (λ (met : Met). met.page) (nodes n row.0)
      (flat_map (λ (c : Key × (ℕ × Body n)). nodes n c.1) row.1)) is.other in
      picked-all (Whole n) e row.0 row.1
      (record { good = goods.0; fits = is.fits.1; other = all-left IsOther (numbers (nodes n row.0)) _ two })
      (wholes n row.1 goods.1 is.fits.2 (all-right IsOther (numbers (nodes n row.0)) _ two))

  abbrev pub made-row : (n : ℕ) → ℕ × Body (suc n) → Row (Tree n)
  made-row n t = changed (grown e n) e (bare n t.1.0.1) (bare-behind n t.1.1)

  pub made-rises : (n : ℕ) (t : ℕ × Body (suc n)) → Under n t → IsRising (row_marks (marks n) (made-row n t))
  made-rises n t is =
      let bares = bare (suc n) t.1 in
      subst IsRising (append-nil (row_marks (marks n) (made-row n t)))
      (changed-rises (marks n) (grown e n) e (Fits n)
      (λ x c d fit g l k. grown-rises e n x c d fit g l k) bares.0 bares.1 is.fits.1 is.fits.2 [] []
      (subst IsRising (sym (append-nil (marks (suc n) bares))) is.good.rises) tt tt)

  pub made-keys : (n : ℕ) (t : ℕ × Body (suc n)) → Under n t → AllByRecursion IsFound (row_keys (made-row n t).1)
      × AreOneMore (row_keys (made-row n t).1)
  made-keys n t is =
      let bares = bare (suc n) t.1 in
      let keys =
      changed-keys (marks n) (grown e n) e (Fits n)
      (λ x fit. let g = grown-fits e found n x fit in (g.keys, g.short)) bares.0 bares.1 is.fits.1 is.fits.2
      is.fits.0.lawful in
      (keys.0, omega (arith, keys.1, is.fits.0.fits))

  pub under-room : (n : ℕ) (t : ℕ × Body (suc n)) → Under n t → have_room (row-founds n t.1.1) ≡ true
  under-room n t is = any-room n t.1.1 ∙ le-leb (width (row_keys (bare-behind n t.1.1))) 1016 is.fits.0.fits

  pub under-narrow : (n : ℕ) (t : ℕ × Body (suc n)) → Under n t →
      AllByRecursion (λ page. page < 2 ^ 32) (numbers (row_nodes (nodes n) t.1))
  under-narrow n t is =
      all-more IsOther (λ page. page < 2 ^ 32) (numbers (row_nodes (nodes n) t.1)) (λ p h. h.0) is.other

  whole-under : (n : ℕ) (t : ℕ × Body (suc n)) → Whole (suc n) t → Under n t
  whole-under n t is = record { good = is.good; fits = is.fits; other = is.other.1 }

  place-of : (n : ℕ) (t : ℕ × Body n) → Whole n t → IsPlace size root pages n t
  place-of zero t is = record { low = is.good.there.0.low; there = is.good.there.0.there; other = is.other.0.1 }
  place-of (suc n) t is = record { low = is.good.there.0.low; there = is.good.there.0.there; other = is.other.0.1 }

  -- the first step
  pub leaf-step : (n : ℕ) (t : ℕ × Body n) (s : Climb × Pages) →
      only {A = Climb × Pages} (Ok (record { edits = []; up = Some e }, pages)) (Ok s) →
      (answer : Result (Climb × Pages) Refusal) → placed size root (node-of n t) s.0.edits s.0.up s.1 answer →
      placed size root (node-of n t) [] (Some e) pages answer
  leaf-step n t s k answer h =
      let given : Climb × Pages = (record { edits = []; up = Some e }, pages) in
      subst (λ (x : Climb × Pages). placed size root (node-of n t) x.0.edits x.0.up x.1 answer)
      (sym (only-is given s k)) h

  pub row-from : (n : ℕ) (t : ℕ × Body (suc n)) → Under n t → (s : Climb × Pages) →
      Climbs size pages n (grown e n (bare n (picked e t.1.0 t.1.1).1)) (picked e t.1.0 t.1.1) s.0 s.1 →
      RowClimbs size pages n (made-row n t) t.1.0 t.1.1 s.0 s.1
  row-from n t is s climbs = row-climbs size pages n (grown e n) e t.1.0 t.1.1 s.0 s.1 (made-rises n t is) climbs

  pub climb-tree : (n : ℕ) (t : ℕ × Body n) → Whole n t → (answer : Climb × Pages) →
      climbed size root e pages (path e n t) (Ok answer) →
      Climbs size pages n (grown e n (bare n t.1)) t answer.0 answer.1
  climb-tree zero t is answer k =
      leaf-climbs size root pages e t (place-of zero t is) found is.fits answer
      (leaf-step zero t k.0 k.1 (Ok answer) k.2)
  climb-tree (suc n) t is answer k =
      let inside = whole-under n t is in
      let rc = row-from n t inside k.0 (climb-tree n (picked e t.1.0 t.1.1) (child-whole n t inside) k.0 k.1) in
      let keys = made-keys n t inside in
      inner-climbs size root pages n (made-row n t) t k.0.0 k.0.1 rc (place-of (suc n) t is) (under-narrow n t inside)
      (under-room n t inside) keys.0 keys.1 answer k.2

  -- no page is left for one that is opened
  pub record Fails (n : ℕ) (t : ℕ × Body n) (why : Refusal) : Type 0 where
    pub opened : ℕ
    pub list : List ℕ
    pub mid : Pages
    pub took : all_taken size opened pages ≡ Ok (list, mid)
    pub none : taken size mid ≡ Err why
    pub more : page_count n (bare n t.1) + suc opened ≤ row-count n (grown e n (bare n t.1))

  split-fails : (n : ℕ) (t : ℕ × Body n) (whole : IndexPage) (edits : List Met) (mid : Pages) (why : Refusal) →
      eqb t.0 root ≡ false → split size root t.0 whole edits mid (Err why) → taken size mid ≡ Err why
  split-fails n t whole edits mid why other (inl none) = none.0
  split-fails n t whole edits mid why other (inr (next, took, inl none)) = absurd none
  split-fails n t whole edits mid why other (inr (next, took, inr (parts, p, k))) = no-refusal _ why (rw other at k)

  -- what a row has grown by
  pub row-grows : (n : ℕ) (t : ℕ × Body (suc n)) (s : Climb × Pages)
      (rc : RowClimbs size pages n (made-row n t) t.1.0 t.1.1 s.0 s.1) →
      row-count n (made-row n t) ≡ page_count n (bare n t.1.0.1) + count_behind (page_count n)
      (bare-behind n t.1.1) + length rc.opened
  row-grows n t s rc =
      let same : row-count n (made-row n t) ≡ length (row_nodes (nodes n) rc.row) =
      ap (λ (r : Row (Tree n)). row-count n r) (λ i. ((sym rc.first_bare) i, (sym rc.rest_bare) i)) ∙
      row-nodes-count n rc.row in
      omega (
        arith,
        same,
        row-nodes-count n t.1,
        length_permutation (numbers (row_nodes (nodes n) t.1) ++ rc.opened)
            (numbers (row_nodes (nodes n) rc.row)) rc.numbers_are,
        length-append (numbers (row_nodes (nodes n) t.1)) rc.opened,
        length-map (row_nodes (nodes n) t.1) (λ (met : Met). met.page),
        length-map (row_nodes (nodes n) rc.row) (λ (met : Met). met.page),
      )

  leaf-fails : (t : ℕ × Body 0) → Whole 0 t → (why : Refusal) →
      placed size root (node-of 0 t) [] (Some e) pages (Err why) → Fails 0 t why
  leaf-fails t is why k = step (have_room (entry_inserted e t.1)) refl k
    where
      whole : IndexPage
      whole = record { form = form.Leaf; link = 0; entries = entry_inserted e t.1 }

      step : (b : Bool) → have_room (entry_inserted e t.1) ≡ b →
          either {A = Climb × Pages} b
          (only (Ok (record { edits = [] ++ record { page = t.0; held = whole } ∷ []; up = None }, pages)))
          (split size root t.0 whole [] pages) (Err why) → Fails 0 t why
      step true room m = no-refusal _ why m
      step false full m =
          let opened =
          leaves-opened (entry_inserted e t.1) (inserted-all IsFound e t.1 found is.fits.lawful)
          (omega (arith, inserted-width e t.1, entry-short e found, is.fits.fits)) full in
          record {
            opened = 0;
            list = [];
            mid = pages;
            took = refl;
            none = split-fails 0 t whole [] pages why is.other.0.1 m;
            more = omega (arith, leaves-count (entry_inserted e t.1), opened);
          }

  -- a key that finds no room
  pub inner-full : (n : ℕ) (t : ℕ × Body (suc n)) → Under n t →
      (s : Climb × Pages) (rc : RowClimbs size pages n (made-row n t) t.1.0 t.1.1 s.0 s.1) →
      have_room (row-founds n rc.row.1) ≡ false →
      row-count (suc n) (inners (made-row n t)) ≡ page_count (suc n) (bare (suc n) t.1) + suc (length rc.opened)
  inner-full n t is s rc full =
      let keys = made-keys n t is in
      let no_room : have_room (row_keys (made-row n t).1) ≡ false =
      ap (λ (l : List (Key × Tree n)). have_room (row_keys l)) (sym rc.rest_bare) ∙ sym (any-room n rc.row.1) ∙
      full in
      omega (
        arith,
        inners-count n (made-row n t),
        inners-opened (made-row n t) keys.0 keys.1 no_room,
        row-grows n t s rc,
      )

  inner-fails : (n : ℕ) (t : ℕ × Body (suc n)) → Whole (suc n) t →
      (why : Refusal) (s : Climb × Pages) (rc : RowClimbs size pages n (made-row n t) t.1.0 t.1.1 s.0 s.1) →
      placed size root (node-of (suc n) t) s.0.edits s.0.up s.1 (Err why) → Fails (suc n) t why
  inner-fails n t is why s rc k = go s.0.up refl k
    where
      go : (up : Option Found) → s.0.up ≡ up → placed size root (node-of (suc n) t) s.0.edits up s.1 (Err why) →
          Fails (suc n) t why
      go None q m = no-refusal _ why m
      go (Some key) q m =
          let same : entry_inserted key (row-founds n t.1.1) ≡ row-founds n rc.row.1 =
          sym (rc.keys_are ∙ ap (λ (u : Option Found). with_up u (row-founds n t.1.1)) q) in
          step (have_room (entry_inserted key (row-founds n t.1.1))) refl same m
        where
          whole : IndexPage
          whole = record { form = form.Inner; link = t.1.0.0; entries = entry_inserted key (row-founds n t.1.1) }

          step : (b : Bool) → have_room (entry_inserted key (row-founds n t.1.1)) ≡ b →
              entry_inserted key (row-founds n t.1.1) ≡ row-founds n rc.row.1 →
              either {A = Climb × Pages} b
              (only (Ok (record { edits = s.0.edits ++ record { page = t.0; held = whole } ∷ []; up = None }, s.1)))
              (split size root t.0 whole s.0.edits s.1) (Err why) → Fails (suc n) t why
          step true room same h = no-refusal _ why h
          step false full same h =
              record {
                opened = length rc.opened;
                list = rc.opened;
                mid = s.1;
                took = rc.taken_is.took;
                none = split-fails (suc n) t whole s.0.edits s.1 why is.other.0.1 h;
                more = omega (arith, inner-full n t (whole-under n t is) s rc (ap have_room (sym same) ∙ full));
              }

  pub climb-fails : (n : ℕ) (t : ℕ × Body n) → Whole n t → (why : Refusal) →
      climbed size root e pages (path e n t) (Err why) → Fails n t why
  climb-fails zero t is why (inl none) = no-refusal _ why none
  climb-fails zero t is why (inr (s, k, h)) = leaf-fails t is why (leaf-step zero t s k (Err why) h)
  climb-fails (suc n) t is why (inl below) =
      let inside = whole-under n t is in
      let child = picked e t.1.0 t.1.1 in
      let fails = climb-fails n child (child-whole n t inside) why below in
      let counts = changed-counts (page_count n) (grown e n) e (bare n t.1.0.1) (bare-behind n t.1.1) in
      let one : page_count n (picked e (bare n t.1.0.1) (bare-behind n t.1.1)) ≡ page_count n (bare n child.1) =
      ap (page_count n) (picked-bare n e t.1.0 t.1.1) in
      let two : row-count n (grown e n (picked e (bare n t.1.0.1) (bare-behind n t.1.1)))
      ≡ row-count n (grown e n (bare n child.1)) =
      ap (λ (x : Tree n). row-count n (grown e n x)) (picked-bare n e t.1.0 t.1.1) in
      record {
        opened = fails.opened;
        list = fails.list;
        mid = fails.mid;
        took = fails.took;
        none = fails.none;
        more = omega (arith, inners-count n (made-row n t), counts, one, two, fails.more);
      }
  climb-fails (suc n) t is why (inr (s, k, h)) =
      let inside = whole-under n t is in
      inner-fails n t is why s
      (row-from n t inside s (climb-tree n (picked e t.1.0 t.1.1) (child-whole n t inside) s k)) h
