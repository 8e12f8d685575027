-- The shapes of trees: proofs.
use Rattle.std.proofs.Common.{◌≡◌, ◌<◌, ◌≤◌, ◌+◌, ◌++◌, ◌∙◌, ℕ, zero, suc, Bool, true, false, cond}
use Rattle.std.proofs.Common.{leb, List, [], ◌∷◌, length, refl, sym, ap, subst, arith, append_assoc}
use Rattle.std.specs.List.{AllByRecursion, Contains}
use Rattle.std.specs.List.Sorted.{IsStrictlySortedBy}
use Rattle.std.specs.Ordering.{is_lt}
use Rattle.std.specs.declared.cmp.Ordering.TheVariants.{Less}
use Rattle.std.proofs.lemmas.Bool.{le-leb}
use Rattle.std.proofs.lemmas.List.{append-nil, length-append}
use Rattle.pager.specs.Index.{IsFound, IsInOrder, IsShaped, found_cmp, with_found, without_found}
use Rattle.pager.specs.declared.index.Found.{Found}
use Rattle.index_page.specs.Entries.{entry_inserted, reaches, taken_out}
use Rattle.index_page.specs.IndexPage.{HaveRoom, AreWritable, have_room, width}
use Rattle.index_page.proofs.Halving.{four_fit}
use Rattle.index_page.proofs.Ordered.{inserted-all, inserted-is, inserted-same, inserted-skip}
use Rattle.index_page.proofs.Ordered.{taken_out-all, taken_out-is, taken_out-skip}
use Rattle.index_page.proofs.Placing.{inserted-length, inserted-same_width, taken_out-width}
use Rattle.tree_index.specs.Counting.{grown-most, row-count}
use Rattle.tree_index.specs.Growing.{RowFits, grown-entries, grown-fits, grown-rises, inserted-left, taken_out-left}
use Rattle.tree_index.specs.Marking.{all-more, entries-all, entries-append, entries-map, lt-from, rising-before}
use Rattle.tree_index.specs.Marking.{rising-behind, rising-left, rising-right, stop-key, taken-rises, under}
use Rattle.tree_index.specs.Opens.{OpensFew, in_row, target}
use Rattle.tree_index.specs.Placing.{inners-room, leaves-room}
use Rattle.tree_index.specs.Shaping.{changed-all, changed-entries, changed-rises, none-reach, row-one}
use Rattle.tree_index.specs.Tree.{Fits, IsRising, IsShape, Key, Mark, Precedes, Row, Shape, Tree, at_entry, at_key}
use Rattle.tree_index.specs.Tree.{changed, count_behind, empty, entries_in, entries_of, grown, key_of, marks}
use Rattle.tree_index.specs.Tree.{named, opens, page_count, put, rooted, row_keys, row_marks, shrunk, without}

rising-order : (ms : List Mark) → IsRising ms → IsInOrder (entries_in ms)
unfolding IsStrictlySortedBy
rising-order [] h = tt
rising-order (at_key k ∷ ms) h = rising-order ms h.1
rising-order (at_entry f ∷ ms) h =
    (entries-all (Precedes (at_entry f)) (λ (g : Found). found_cmp f g ≡ Less) ms (λ g p. p) h.0, rising-order ms h.1)

-- a tree without an entry
kept-keys : {X : Type 0} (change : X → X) (e : Found) (first : X) (rest : List (Key × X)) →
    row_keys (changed (λ x. (change x, [])) e first rest).1 ≡ row_keys rest
kept-keys change e first [] = refl
kept-keys {X} change e first (b ∷ rest) = step (is_lt (found_cmp e (named b.0 0))) (kept-keys change e b.1 rest)
  where
    one : X → Row X
    one x = (change x, [])

    keys : Row X → List Found
    keys r = row_keys r.1

    step : (t : Bool) → row_keys (changed (λ x. (change x, [])) e b.1 rest).1 ≡ row_keys rest →
        keys (cond t (change first, b ∷ rest)
        (first, (b.0, (changed (λ x. (change x, [])) e b.1 rest).0) ∷ (changed (λ x. (change x, [])) e b.1 rest).1))
        ≡ row_keys (b ∷ rest)
    step true more = refl
    step false more = ap (λ (l : List Found). named b.0 0 ∷ l) more

pub shrunk-fits : (e : Found) (n : ℕ) (tree : Tree n) → Fits n tree → Fits n (shrunk e n tree)
shrunk-fits e zero es fits =
    record { lawful = taken_out-all IsFound e es fits.lawful; fits = omega (arith, taken_out-width e es, fits.fits) }
shrunk-fits e (suc n) row fits =
    let parts =
    changed-all (marks n) (λ t. (shrunk e n t, [])) e (Fits n)
    (λ x is. (shrunk-fits e n x is, tt)) row.0 row.1 fits.1 fits.2 in
    (subst AreWritable (sym (kept-keys (shrunk e n) e row.0 row.1)) fits.0, parts.0, parts.1)

pub shrunk-rises : (e : Found) (n : ℕ) (tree : Tree n) (a b : List Mark) → IsRising (a ++ (marks n tree ++ b)) →
    AllByRecursion (λ m. Precedes m (at_entry e)) a → AllByRecursion (Precedes (at_entry e)) b →
    IsRising (a ++ (marks n (shrunk e n tree) ++ b))
shrunk-rises e zero es a b h low high = taken-rises e es a b h
shrunk-rises e (suc n) row a b h low high =
    changed-rises (marks n) (λ t. (shrunk e n t, [])) e (λ x. Unit {0})
    (λ x c d is g l k. subst (λ (m : List Mark). IsRising (c ++ (m ++ d))) (sym (row-one (marks n) (shrunk e n x)))
    (shrunk-rises e n x c d g l k)) row.0 row.1 tt (all-units row.1) a b h low high
  where
    all-units : (rest : List (Key × Tree n)) → AllByRecursion (λ (b : Key × Tree n). Unit {0}) rest
    all-units [] = tt
    all-units (b ∷ rest) = (tt, all-units rest)

shrunk-entries : (e : Found) (n : ℕ) (tree : Tree n) → IsRising (marks n tree) →
    entries_in (marks n (shrunk e n tree)) ≡ taken_out e (entries_in (marks n tree))
shrunk-entries e zero es h = entries-map (taken_out e es) ∙ ap (taken_out e) (sym (entries-map es))
shrunk-entries e (suc n) row h =
    changed-entries (marks n) (λ t. (shrunk e n t, [])) e (λ x. Unit {0}) (taken_out e) (taken_out-skip e)
    (taken_out-left e)
    (λ x is g. ap entries_in (row-one (marks n) (shrunk e n x)) ∙ shrunk-entries e n x g) row.0 row.1 tt
    (all-units row.1) h
  where
    all-units : (rest : List (Key × Tree n)) → AllByRecursion (λ (b : Key × Tree n). Unit {0}) rest
    all-units [] = tt
    all-units (b ∷ rest) = (tt, all-units rest)

rooted-shape : (n : ℕ) (first : Tree n) (behind : List (Key × Tree n)) →
    IsRising (row_marks (marks n) (first, behind)) → RowFits n (first, behind) → IsShape (rooted n first behind)
    × (entries_of (rooted n first behind) ≡ entries_in (row_marks (marks n) (first, behind)))
rooted-shape n first [] h fits = (
  record { rises = subst IsRising (row-one (marks n) first) h; fits = fits.first },
  ap entries_in (sym (row-one (marks n) first)),
)
rooted-shape n first (b ∷ rest) h fits = (
  record {
    rises = h;
    fits = (
      record {
        lawful = fits.keys;
        fits = omega (arith, fits.short);
      },
      fits.first,
      fits.rest,
    );
  },
  refl,
)

pub put-in : (e : Found) (shape : Shape) → IsShape shape → IsFound e → IsShape (put e shape)
    × (entries_of (put e shape) ≡ with_found e (entries_of shape))
put-in e shape is found =
    let n = shape.levels in
    let tree = shape.tree in
    let around : IsRising (marks n tree ++ []) = subst IsRising (sym (append-nil (marks n tree))) is.rises in
    let rises : IsRising (row_marks (marks n) (grown e n tree)) =
    subst IsRising (append-nil (row_marks (marks n) (grown e n tree)))
    (grown-rises e n tree [] [] is.fits around tt tt) in
    let made = rooted-shape n (grown e n tree).0 (grown e n tree).1 rises (grown-fits e found n tree is.fits) in (
      made.0,
      made.1 ∙ grown-entries e n tree is.fits is.rises ∙
          inserted-is e (entries_of shape) (rising-order (marks n tree) is.rises),
    )

pub without-in : (e : Found) (shape : Shape) → IsShape shape → IsShape (without e shape)
    × (entries_of (without e shape) ≡ without_found e (entries_of shape))
without-in e shape is =
    let n = shape.levels in
    let tree = shape.tree in
    let around : IsRising (marks n tree ++ []) = subst IsRising (sym (append-nil (marks n tree))) is.rises in
    let rises : IsRising (marks n (shrunk e n tree)) =
    subst IsRising (append-nil (marks n (shrunk e n tree))) (shrunk-rises e n tree [] [] around tt tt) in (
      record { rises = rises; fits = shrunk-fits e n tree is.fits },
      shrunk-entries e n tree is.rises ∙
          taken_out-is e (entries_of shape) (rising-order (marks n tree) is.rises),
    )

-- where the leaf has room, no page is opened
module _ {X : Type 0} (change : X → Row X) (inside : X → List Found) (count : X → ℕ) (e : Found) (P : X → Type 0)
    (each : (x : X) → P x → have_room (entry_inserted e (inside x)) ≡ true → ((change x).1 ≡ [])
    × (count (change x).0 ≡ count x)) where
  changed-stays : (first : X) (rest : List (Key × X)) → P first → AllByRecursion (λ (b : Key × X). P b.1) rest →
      have_room (entry_inserted e (in_row inside e first rest)) ≡ true →
      (row_keys (changed change e first rest).1 ≡ row_keys rest)
      × (count (changed change e first rest).0 + count_behind count (changed change e first rest).1
      ≡ count first + count_behind count rest)
  changed-stays first [] is all room =
      let one = each first is room in
      (ap row_keys one.0, omega (arith, one.1, ap (count_behind count) one.0))
  changed-stays first (b ∷ rest) is all room =
      step (is_lt (found_cmp e (named b.0 0))) room (changed-stays b.1 rest all.0 all.1)
    where
      total : Row X → ℕ
      total r = count r.0 + count_behind count r.1

      keys : Row X → List Found
      keys r = row_keys r.1

      step : (t : Bool) → have_room (entry_inserted e (cond t (inside first) (in_row inside e b.1 rest))) ≡ true →
          (have_room (entry_inserted e (in_row inside e b.1 rest)) ≡ true →
          (row_keys (changed change e b.1 rest).1 ≡ row_keys rest)
          × (count (changed change e b.1 rest).0 + count_behind count (changed change e b.1 rest).1
          ≡ count b.1 + count_behind count rest)) →
          (keys (cond t ((change first).0, (change first).1 ++ b ∷ rest)
          (first, (b.0, (changed change e b.1 rest).0) ∷ (changed change e b.1 rest).1)) ≡ row_keys (b ∷ rest))
          × (total (cond t ((change first).0, (change first).1 ++ b ∷ rest)
          (first, (b.0, (changed change e b.1 rest).0) ∷ (changed change e b.1 rest).1))
          ≡ count first + count_behind count (b ∷ rest))
      step true q go =
          let one = each first is q in (
            ap (λ (l : List (Key × X)). row_keys (l ++ b ∷ rest)) one.0,
            omega (arith, one.1, ap (λ (l : List (Key × X)). count_behind count (l ++ b ∷ rest)) one.0),
          )
      step false q go =
          let more = go q in
          (ap (λ (l : List Found). named b.0 0 ∷ l) more.0, omega (arith, more.1))

grown-stays : (e : Found) (n : ℕ) (tree : Tree n) → Fits n tree →
    have_room (entry_inserted e (target e n tree)) ≡ true → ((grown e n tree).1 ≡ [])
    × (page_count n (grown e n tree).0 ≡ page_count n tree)
grown-stays e zero es fits room = let is = leaves-room (entry_inserted e es) room in
    (ap (λ (r : Row (List Found)). r.1) is, refl)
grown-stays e (suc n) row fits room =
    let made = changed (grown e n) e row.0 row.1 in
    let more =
    changed-stays (grown e n) (target e n) (page_count n) e (Fits n)
    (λ x is q. grown-stays e n x is q) row.0 row.1 fits.1 fits.2 room in
    let is = inners-room made (ap have_room more.0 ∙ le-leb (width (row_keys row.1)) 1016 fits.0.fits) in (
      ap (λ (r : Row (Row (Tree n))). r.1) is,
      ap (λ (r : Row (Row (Tree n))). page_count (suc n) r.0) is ∙
          ap (λ (k : ℕ). 1 + k) more.1,
    )

pub target-fits : (e : Found) (n : ℕ) (tree : Tree n) → Fits n tree → AreWritable (target e n tree)
target-fits e zero es fits = fits
target-fits e (suc n) row fits = inside row.0 row.1 fits.1 fits.2 (target-fits e n)
  where
    inside : (first : Tree n) (rest : List (Key × Tree n)) → Fits n first →
        AllByRecursion (λ (b : Key × Tree n). Fits n b.1) rest →
        ((t : Tree n) → Fits n t → AreWritable (target e n t)) → AreWritable (in_row (target e n) e first rest)
    inside first [] is all each = each first is
    inside first (b ∷ rest) is all each = step (is_lt (found_cmp e (named b.0 0))) (inside b.1 rest all.0 all.1 each)
      where
        step : (t : Bool) → AreWritable (in_row (target e n) e b.1 rest) →
            AreWritable (cond t (target e n first) (in_row (target e n) e b.1 rest))
        step true more = each first is
        step false more = more

opens-of : (e : Found) (shape : Shape) →
    have_room (entry_inserted (named (key_of e) 0) (target (named (key_of e) 0) shape.levels shape.tree)) ≡ true →
    IsShape shape → opens e.value e.number shape ≡ 0
opens-of e shape room is =
    let low = named (key_of e) 0 in
    let n = shape.levels in
    let stays = grown-stays low n shape.tree is.fits room in
    let same : page_count (put low shape).levels (put low shape).tree ≡ page_count n (grown low n shape.tree).0 =
    ap (λ (l : List (Key × Tree n)). page_count (rooted n (grown low n shape.tree).0 l).levels
    (rooted n (grown low n shape.tree).0 l).tree) stays.0 in
    omega (arith, same, stays.1)

-- an entry that is there
cancel-front : (front a b : List Found) → front ++ a ≡ front ++ b → a ≡ b
cancel-front [] a b e = e
cancel-front (x ∷ front) a b e = cancel-front front a b (tail e)
  where
    tail : x ∷ front ++ a ≡ x ∷ front ++ b → front ++ a ≡ front ++ b
    tail p = cc

cancel-back : (a b rest : List Found) → a ++ rest ≡ b ++ rest → a ≡ b
cancel-back [] [] rest e = refl
cancel-back [] (y ∷ b) rest e = absurd (omega (arith, ap length e, length-append (y ∷ b) rest))
cancel-back (x ∷ a) [] rest e = absurd (omega (arith, ap length e, length-append (x ∷ a) rest))
cancel-back (x ∷ a) (y ∷ b) rest e =
    let more = cancel-back a b rest (tail e) in
    cc (head e, more)
  where
    tail : x ∷ a ++ rest ≡ y ∷ b ++ rest → a ++ rest ≡ b ++ rest
    tail p = cc

    head : x ∷ a ++ rest ≡ y ∷ b ++ rest → x ≡ y
    head p = cc

-- the leaf in which an entry belongs among all entries
pub record Among (e : Found) (leaf all : List Found) : Type 0 where
  pub front : List Found
  pub back : List Found
  pub whole : all ≡ front ++ (leaf ++ back)
  pub more : entry_inserted e all ≡ front ++ (entry_inserted e leaf ++ back)

among-front : (e : Found) (leaf all front : List Found) → reaches e front ≡ false → Among e leaf all →
    Among e leaf (front ++ all)
among-front e leaf all front skips is = record {
  front = front ++ is.front;
  back = is.back;
  whole = ap (λ (l : List Found). front ++ l) is.whole ∙ sym (append_assoc front is.front (leaf ++ is.back));
  more = inserted-skip e front all skips ∙ ap (λ (l : List Found). front ++ l) is.more ∙
      sym (append_assoc front is.front (entry_inserted e leaf ++ is.back));
}

among-back : (e : Found) (leaf all back : List Found) → AllByRecursion (λ (f : Found). found_cmp e f ≡ Less) back →
    Among e leaf all → Among e leaf (all ++ back)
among-back e leaf all back above is = record {
  front = is.front;
  back = is.back ++ back;
  whole = ap (λ (l : List Found). l ++ back) is.whole ∙ append_assoc is.front (leaf ++ is.back) back ∙
      ap (λ (l : List Found). is.front ++ l) (append_assoc leaf is.back back);
  more = inserted-left e all back above ∙ ap (λ (l : List Found). l ++ back) is.more ∙
      append_assoc is.front (entry_inserted e leaf ++ is.back) back ∙
      ap (λ (l : List Found). is.front ++ l) (append_assoc (entry_inserted e leaf) is.back back);
}

among : (e : Found) (page n : ℕ) (tree : Tree n) → IsRising (marks n tree) →
    Among e (target (named (key_of e) page) n tree) (entries_in (marks n tree))
among e page zero es h =
    record {
      front = [];
      back = [];
      whole = entries-map es ∙ sym (append-nil es);
      more = ap (entry_inserted e) (entries-map es) ∙ sym (append-nil (entry_inserted e es));
    }
among e page (suc n) row h = inside row.0 row.1 h (among e page n)
  where
    low : Found
    low = named (key_of e) page

    inside : (first : Tree n) (rest : List (Key × Tree n)) → IsRising (row_marks (marks n) (first, rest)) →
        ((t : Tree n) → IsRising (marks n t) → Among e (target (named (key_of e) page) n t) (entries_in (marks n t))) →
        Among e (in_row (target (named (key_of e) page) n) (named (key_of e) page) first rest)
        (entries_in (row_marks (marks n) (first, rest)))
    inside first [] rises each =
        subst (λ (m : List Mark). Among e (target (named (key_of e) page) n first) (entries_in m))
        (sym (row-one (marks n) first)) (each first (rising-left (marks n first) [] rises))
    inside first (b ∷ rest) rises each = step (is_lt (found_cmp e (named b.0 0))) refl (inside b.1 rest)
      where
        tail : List Mark
        tail = at_key b.0 ∷ row_marks (marks n) (b.1, rest)

        step : (t : Bool) → is_lt (found_cmp e (named b.0 0)) ≡ t →
            (IsRising (row_marks (marks n) (b.1, rest)) →
            ((t : Tree n) → IsRising (marks n t) →
            Among e (target (named (key_of e) page) n t) (entries_in (marks n t))) →
            Among e (in_row (target (named (key_of e) page) n) (named (key_of e) page) b.1 rest)
            (entries_in (row_marks (marks n) (b.1, rest)))) →
            Among e (cond t (target (named (key_of e) page) n first)
            (in_row (target (named (key_of e) page) n) (named (key_of e) page) b.1 rest))
            (entries_in (row_marks (marks n) (first, b ∷ rest)))
        step true q go =
            let less = lt-from (found_cmp e (named b.0 0)) q in
            let high : AllByRecursion (Precedes (at_entry e)) tail = (
              less,
              all-more (Precedes (at_key b.0)) (Precedes (at_entry e)) (row_marks (marks n) (b.1, rest))
                  (stop-key e b.0 less)
                  (rising-behind (marks n first) (row_marks (marks n) (b.1, rest)) (at_key b.0) rises),
            ) in
            let above : AllByRecursion (λ (f : Found). found_cmp e f ≡ Less) (entries_in tail) =
            entries-all (Precedes (at_entry e)) (λ (f : Found). found_cmp e f ≡ Less) tail (λ f p. p) high in
            subst (Among e (target (named (key_of e) page) n first)) (sym (entries-append (marks n first) tail))
            (among-back e (target (named (key_of e) page) n first) (entries_in (marks n first)) (entries_in tail) above
            (each first (rising-left (marks n first) tail rises)))
        step false q go =
            let before = rising-before (marks n first) (row_marks (marks n) (b.1, rest)) (at_key b.0) rises in
            let below : AllByRecursion (λ (f : Found). found_cmp f e ≡ Less) (entries_in (marks n first)) =
            entries-all (λ m. Precedes m (at_key b.0)) (λ (f : Found). found_cmp f e ≡ Less) (marks n first)
            (λ f p. under f (named b.0 0) e p q) before in
            subst (Among e (in_row (target (named (key_of e) page) n) (named (key_of e) page) b.1 rest))
            (sym (entries-append (marks n first) tail))
            (among-front e (in_row (target (named (key_of e) page) n) (named (key_of e) page) b.1 rest)
            (entries_in tail) (entries_in (marks n first)) (none-reach e (entries_in (marks n first)) below)
            (go (rising-right (marks n first) tail rises).1 each))

any-page-room : (e : Found) (leaf : List Found) →
    have_room (entry_inserted (named (key_of e) 0) leaf) ≡ have_room (entry_inserted e leaf)
any-page-room e leaf = ap (λ (w : ℕ). leb w 1016) (inserted-same_width e 0 leaf)

opens-none : (e : Found) (shape : Shape) → IsShape shape → Contains (entries_of shape) e →
    opens e.value e.number shape ≡ 0
opens-none e shape is there =
    let low = named (key_of e) 0 in
    let leaf = target low shape.levels shape.tree in
    let at = among e 0 shape.levels shape.tree is.rises in
    let same =
    inserted-same e (entries_of shape) there.0
    (rising-order (marks shape.levels shape.tree) is.rises) there.1 there.2 in
    let one : entry_inserted e leaf ≡ leaf =
    cancel-back (entry_inserted e leaf) leaf at.back
    (cancel-front at.front (entry_inserted e leaf ++ at.back) (leaf ++ at.back) (sym at.more ∙ same ∙ at.whole)) in
    opens-of e shape
    (any-page-room e leaf ∙ ap have_room one ∙
    le-leb (width leaf) 1016 (target-fits low shape.levels shape.tree is.fits).fits) is

same-target : (e : Found) (page n : ℕ) (tree : Tree n) → target (named (key_of e) page) n tree ≡ target e n tree
same-target e page zero es = refl
same-target e page (suc n) row = inside row.0 row.1 (same-target e page n)
  where
    inside : (first : Tree n) (rest : List (Key × Tree n)) →
        ((t : Tree n) → target (named (key_of e) page) n t ≡ target e n t) →
        in_row (target (named (key_of e) page) n) (named (key_of e) page) first rest ≡ in_row (target e n) e first rest
    inside first [] each = each first
    inside first (b ∷ rest) each = step (is_lt (found_cmp e (named b.0 0))) (inside b.1 rest each)
      where
        step : (t : Bool) → in_row (target (named (key_of e) page) n) (named (key_of e) page) b.1 rest
            ≡ in_row (target e n) e b.1 rest →
            cond t (target (named (key_of e) page) n first)
            (in_row (target (named (key_of e) page) n) (named (key_of e) page) b.1 rest)
            ≡ cond t (target e n first) (in_row (target e n) e b.1 rest)
        step true more = each first
        step false more = more

few-rooted : (n : ℕ) (first : Tree n) (behind : List (Key × Tree n)) →
    page_count (rooted n first behind).levels (rooted n first behind).tree ≤ row-count n (first, behind) + 1
few-rooted n first [] = omega arith
few-rooted n first (b ∷ rest) = omega arith

none-of-three : (e : Found) (shape : Shape) → IsShape shape → IsFound e →
    length (target e shape.levels shape.tree) < 4 → opens e.value e.number shape ≡ 0
none-of-three e shape is found few =
    let low = named (key_of e) 0 in
    let leaf = target low shape.levels shape.tree in
    let same = same-target e 0 shape.levels shape.tree in
    let writable = target-fits low shape.levels shape.tree is.fits in
    let room : HaveRoom (entry_inserted e leaf) =
    four_fit (entry_inserted e leaf) (inserted-all IsFound e leaf found writable.lawful)
    (omega (arith, inserted-length e leaf, ap length same, few)) in
    opens-of e shape (any-page-room e leaf ∙ le-leb (width (entry_inserted e leaf)) 1016 room) is

pub opens_few : OpensFew
opens_few = record {
  at_most_levels = λ value number shape.
      let low : Found = record { value = value; number = number; page = 0 } in
      omega (
        arith,
        few-rooted shape.levels (grown low shape.levels shape.tree).0 (grown low shape.levels shape.tree).1,
        grown-most low shape.levels shape.tree,
      );
  none_of_three = none-of-three;
}

pub empty-shape : IsShape empty
empty-shape = record { rises = tt; fits = record { lawful = tt; fits = omega arith } }

-- the shapes of trees
pub shaped : IsShaped (λ shape. IsShape shape) empty entries_of put without opens
shaped = record {
  in_order = λ shape is. rising-order (marks shape.levels shape.tree) is.rises;
  of_none = (empty-shape, refl);
  of_put = λ entry shape is found kinds. put-in entry shape is found;
  of_without = λ entry shape is. without-in entry shape is;
  opens_none = λ entry shape is there. opens-none entry shape is there;
}
