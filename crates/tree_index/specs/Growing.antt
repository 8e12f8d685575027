-- A tree with one more entry, and with one less: proofs.
use Rattle.std.proofs.Common.{◌≡◌, ◌≤◌, ◌+◌, ◌*◌, ◌++◌, ◌∙◌, ℕ, zero, suc, Bool, true, false, cond, eqb}
use Rattle.std.proofs.Common.{leb, List, [], ◌∷◌, length, map, take, drop, refl, sym, ap, subst, arith}
use Rattle.std.specs.List.{drop-map, AllByRecursion}
use Rattle.std.specs.Ordering.{ordering_reverse}
use Rattle.std.specs.declared.cmp.Ordering.{Ordering}
use Rattle.std.specs.declared.cmp.Ordering.TheVariants.{Less, Equal, Greater}
use Rattle.std.proofs.lemmas.Bool.{leb-true, leb-false}
use Rattle.std.proofs.lemmas.List.{append-nil, map-append, take-append-drop, take-map}
use Rattle.std.proofs.lemmas.List.Elements.{All-drop, All-from_recursion, All-take, recursion_from_All}
use Rattle.pager.specs.Index.{IsFound, found_cmp}
use Rattle.pager.specs.declared.index.Found.{Found}
use Rattle.index_page.specs.Entries.{entry_inserted, taken_out}
use Rattle.index_page.specs.IndexPage.{AreOneMore, HaveRoom, AreWritable, entry_code}
use Rattle.index_page.specs.IndexPage.{have_room, half, more_for_half, width}
use Rattle.index_page.proofs.Halving.{halves_fit}
use Rattle.index_page.proofs.Ordered.{inserted-all, inserted-skip}
use Rattle.index_page.proofs.Packing.{entry-short, width-cons}
use Rattle.index_page.proofs.Placing.{inserted-width}
use Rattle.tree_index.specs.Marking.{added-rises, entries-append, entries-map, key-rises}
use Rattle.tree_index.specs.Shaping.{changed-all, changed-entries, changed-keys, changed-rises, row-more, row-one}
use Rattle.tree_index.specs.Tree.{Fits, IsRising, Key, Mark, Precedes, Row, Tree, at_entry}
use Rattle.tree_index.specs.Tree.{at_key, changed, entries_in, grown, inners, key_of, leaves}
use Rattle.tree_index.specs.Tree.{marks, named, next_inner, next_leaf, row_keys, row_marks}
use Rattle.pager.proofs.Orders.{found_total}

pub all-take : {X : Type 0} (P : X → Type 0) (n : ℕ) (xs : List X) → AllByRecursion P xs → AllByRecursion P (take n xs)
all-take P n xs all = recursion_from_All P (take n xs) (All-take P n xs (All-from_recursion P xs all))

pub all-drop : {X : Type 0} (P : X → Type 0) (n : ℕ) (xs : List X) → AllByRecursion P xs → AllByRecursion P (drop n xs)
all-drop P n xs all = recursion_from_All P (drop n xs) (All-drop P n xs (All-from_recursion P xs all))

-- what the pages of a row are, where at most one was opened
pub record RowFits (levels : ℕ) (row : Row (Tree levels)) : Type 0 where
  pub first : Fits levels row.0
  pub rest : AllByRecursion (λ (b : Key × Tree levels). Fits levels b.1) row.1
  pub keys : AllByRecursion IsFound (row_keys row.1)
  pub short : width (row_keys row.1) ≤ 217

-- the first part of what has no room on a page has an entry
half-some : (es : List Found) → have_room es ≡ false → (f : Found) × (fs : List Found) × (take (half es) es ≡ f ∷ fs)
half-some [] h = absurd cc
half-some (f ∷ es) h = step (leb (width (f ∷ es)) (2 * 0)) refl
  where
    step : (b : Bool) → leb (width (f ∷ es)) (2 * 0) ≡ b → (g : Found) × (fs : List Found)
        × (take (cond b 0 (suc (more_for_half (width (f ∷ es)) (0 + length (entry_code f)) es))) (f ∷ es) ≡ g ∷ fs)
    step true q = absurd (omega (arith, leb-true _ _ q, leb-false (width (f ∷ es)) 1016 h))
    step false q = (f, take (more_for_half (width (f ∷ es)) (0 + length (entry_code f)) es) es, refl)

-- leaves
next_leaf-fits : (l : List Found) → AllByRecursion IsFound l → HaveRoom l →
    AllByRecursion (λ (b : Key × List Found). AreWritable b.1) (next_leaf l)
    × AllByRecursion IsFound (row_keys (next_leaf l)) × (width (row_keys (next_leaf l)) ≤ 217)
next_leaf-fits [] all fit = (tt, tt, omega arith)
next_leaf-fits (m ∷ back) all fit =
    let key : IsFound (named (key_of m) 0) =
    record { value = all.0.value; number = all.0.number; page = omega arith } in (
      (record { lawful = all; fits = fit }, tt),
      (key, tt),
      omega (arith, width-cons (named (key_of m) 0) [], entry-short (named (key_of m) 0) key),
    )

leaves-fit : (es : List Found) → AllByRecursion IsFound es → AreOneMore es → RowFits 0 (leaves es)
leaves-fit es all most = step (have_room es) refl
  where
    step : (t : Bool) → have_room es ≡ t →
        RowFits 0 (cond t (es, []) (take (half es) es, next_leaf (drop (half es) es)))
    step true q =
        record {
          first = record { lawful = all; fits = leb-true (width es) 1016 q };
          rest = tt;
          keys = tt;
          short = omega arith;
        }
    step false q =
        let two = next_leaf-fits (drop (half es) es) (all-drop IsFound (half es) es all) (halves_fit es all most).1 in
        record {
          first = record { lawful = all-take IsFound (half es) es all; fits = (halves_fit es all most).0 };
          rest = two.0;
          keys = two.1;
          short = two.2;
        }

split-rises : (front l : List Found) (a b : List Mark) → ((f : Found) × (fs : List Found) × (front ≡ f ∷ fs)) →
    IsRising (a ++ (map at_entry (front ++ l) ++ b)) → IsRising (a ++ (row_marks (marks 0) (front, next_leaf l) ++ b))
split-rises front [] a b some h = subst (λ (m : List Mark). IsRising (a ++ (m ++ b))) (map-append at_entry front []) h
split-rises front (m ∷ back) a b some h =
    let key =
    key-rises some.0 some.1 m back a b
    (subst (λ (g : List Found). IsRising (a ++ (map at_entry (g ++ m ∷ back) ++ b))) some.2 h) in
    subst (λ (g : List Found). IsRising
    (a ++ ((map at_entry g ++ ((at_key (key_of m) ∷ map at_entry (m ∷ back)) ++ [])) ++ b))) (sym some.2)
    (subst (λ (r : List Mark). IsRising (a ++ ((map at_entry (some.0 ∷ some.1) ++ r) ++ b)))
    (sym (append-nil (at_key (key_of m) ∷ map at_entry (m ∷ back)))) key)

leaves-rise : (es : List Found) (a b : List Mark) → IsRising (a ++ (map at_entry es ++ b)) →
    IsRising (a ++ (row_marks (marks 0) (leaves es) ++ b))
leaves-rise es a b h = step (have_room es) refl
  where
    step : (t : Bool) → have_room es ≡ t →
        IsRising (a ++ (row_marks (marks 0) (cond t (es, []) (take (half es) es, next_leaf (drop (half es) es))) ++ b))
    step true q = subst (λ (m : List Mark). IsRising (a ++ (m ++ b))) (sym (row-one (marks 0) es)) h
    step false q =
        split-rises (take (half es) es) (drop (half es) es) a b (half-some es q)
        (subst (λ (l : List Found). IsRising (a ++ (map at_entry l ++ b))) (sym (take-append-drop (half es) es)) h)

split-entries : (front l : List Found) → entries_in (row_marks (marks 0) (front, next_leaf l)) ≡ front ++ l
split-entries front [] = entries-append (map at_entry front) [] ∙ ap (λ (l : List Found). l ++ []) (entries-map front)
split-entries front (m ∷ back) =
    entries-append (map at_entry front) _ ∙
    ap (λ (l : List Found). l ++ entries_in ((at_key (key_of m) ∷ map at_entry (m ∷ back)) ++ [])) (entries-map front)
    ∙ ap (λ (r : List Mark). front ++ entries_in r) (append-nil (at_key (key_of m) ∷ map at_entry (m ∷ back))) ∙
    ap (λ (l : List Found). front ++ l) (entries-map (m ∷ back))

leaves-entries : (es : List Found) → entries_in (row_marks (marks 0) (leaves es)) ≡ es
leaves-entries es = step (have_room es)
  where
    step : (t : Bool) →
        entries_in (row_marks (marks 0) (cond t (es, []) (take (half es) es, next_leaf (drop (half es) es)))) ≡ es
    step true = ap entries_in (row-one (marks 0) es) ∙ entries-map es
    step false = split-entries (take (half es) es) (drop (half es) es) ∙ take-append-drop (half es) es

-- inner pages
next_inner-fits : (n : ℕ) (l : List (Key × Tree n)) → AllByRecursion (λ (b : Key × Tree n). Fits n b.1) l →
    AllByRecursion IsFound (row_keys l) → HaveRoom (row_keys l) →
    AllByRecursion (λ (b : Key × Row (Tree n)). Fits (suc n) b.1) (next_inner l)
    × AllByRecursion IsFound (row_keys (next_inner l)) × (width (row_keys (next_inner l)) ≤ 217)
next_inner-fits n [] all keys fit = (tt, tt, omega arith)
next_inner-fits n (b ∷ back) all keys fit = (
  (
    ((record { lawful = keys.1; fits = omega (arith, width-cons (named b.0 0) (row_keys back), fit) }, all.0, all.1)),
    tt,
  ),
  (keys.0, tt),
  omega (arith, width-cons (named b.0 0) [], entry-short (named b.0 0) keys.0),
)

inners-fit : (n : ℕ) (row : Row (Tree n)) → Fits n row.0 → AllByRecursion (λ (b : Key × Tree n). Fits n b.1) row.1 →
    AllByRecursion IsFound (row_keys row.1) → AreOneMore (row_keys row.1) → RowFits (suc n) (inners row)
inners-fit n row first all keys most = step (have_room (row_keys row.1)) refl
  where
    step : (t : Bool) → have_room (row_keys row.1) ≡ t →
        RowFits (suc n)
        (cond t (row, [])
        ((row.0, take (half (row_keys row.1)) row.1), next_inner (drop (half (row_keys row.1)) row.1)))
    step true q =
        record {
          first = (record { lawful = keys; fits = leb-true (width (row_keys row.1)) 1016 q }, first, all);
          rest = tt;
          keys = tt;
          short = omega arith;
        }
    step false q =
        let fit = halves_fit (row_keys row.1) keys most in
        let front = take-map (λ (b : Key × Tree n). named b.0 0) (half (row_keys row.1)) row.1 in
        let back = drop-map (λ (b : Key × Tree n). named b.0 0) (half (row_keys row.1)) row.1 in
        let two =
        next_inner-fits n (drop (half (row_keys row.1)) row.1)
        (all-drop (λ (b : Key × Tree n). Fits n b.1) (half (row_keys row.1)) row.1 all)
        (subst (AllByRecursion IsFound) back (all-drop IsFound (half (row_keys row.1)) (row_keys row.1) keys))
        (subst HaveRoom back fit.1) in
        record {
          first = (
            record {
              lawful = subst (AllByRecursion IsFound) front
                  (all-take IsFound (half (row_keys row.1)) (row_keys row.1) keys);
              fits = subst HaveRoom front fit.0;
            },
            first,
            all-take (λ (b : Key × Tree n). Fits n b.1) (half (row_keys row.1)) row.1 all,
          );
          rest = two.0;
          keys = two.1;
          short = two.2;
        }

split-marks : {X : Type 0} (mark : X → List Mark) (first : X) (front l : List (Key × X)) →
    row_marks (row_marks mark) ((first, front), next_inner l) ≡ row_marks mark (first, front ++ l)
split-marks {X} mark first front [] =
    row-one (row_marks mark) (first, front) ∙
    ap (λ (m : List (Key × X)). row_marks mark (first, m)) (sym (append-nil front))
split-marks mark first front (b ∷ back) =
    ap (λ (m : List Mark). row_marks mark (first, front) ++ m) (append-nil (at_key b.0 ∷ row_marks mark (b.1, back))) ∙
    sym (row-more mark (first, front) (b ∷ back))

inners-marks : {X : Type 0} (mark : X → List Mark) (row : Row X) →
    row_marks (row_marks mark) (inners row) ≡ row_marks mark row
inners-marks {X} mark row = step (have_room (row_keys row.1))
  where
    step : (t : Bool) →
        row_marks (row_marks mark)
        (cond t (row, [])
        ((row.0, take (half (row_keys row.1)) row.1), next_inner (drop (half (row_keys row.1)) row.1)))
        ≡ row_marks mark row
    step true = row-one (row_marks mark) row
    step false = split-marks mark row.0 (take (half (row_keys row.1)) row.1) (drop (half (row_keys row.1)) row.1) ∙
        ap (λ (m : List (Key × X)). row_marks mark (row.0, m)) (take-append-drop (half (row_keys row.1)) row.1)

-- a tree with one more entry
pub grown-fits : (e : Found) → IsFound e → (n : ℕ) (tree : Tree n) → Fits n tree → RowFits n (grown e n tree)
grown-fits e found zero es fits =
    leaves-fit (entry_inserted e es) (inserted-all IsFound e es found fits.lawful)
    (omega (arith, inserted-width e es, entry-short e found, fits.fits))
grown-fits e found (suc n) row fits =
    let parts =
    changed-all (marks n) (grown e n) e (Fits n)
    (λ x is. let g = grown-fits e found n x is in (g.first, g.rest)) row.0 row.1 fits.1 fits.2 in
    let keys =
    changed-keys (marks n) (grown e n) e (Fits n)
    (λ x is. let g = grown-fits e found n x is in (g.keys, g.short)) row.0 row.1 fits.1 fits.2 fits.0.lawful in
    inners-fit n (changed (grown e n) e row.0 row.1) parts.0 parts.1 keys.0 (omega (arith, keys.1, fits.0.fits))

pub grown-rises : (e : Found) (n : ℕ) (tree : Tree n) (a b : List Mark) → Fits n tree →
    IsRising (a ++ (marks n tree ++ b)) → AllByRecursion (λ m. Precedes m (at_entry e)) a →
    AllByRecursion (Precedes (at_entry e)) b → IsRising (a ++ (row_marks (marks n) (grown e n tree) ++ b))
grown-rises e zero es a b fits h low high = leaves-rise (entry_inserted e es) a b (added-rises e es a b h low high)
grown-rises e (suc n) row a b fits h low high =
    subst (λ (m : List Mark). IsRising (a ++ (m ++ b)))
    (sym (inners-marks (marks n) (changed (grown e n) e row.0 row.1)))
    (changed-rises (marks n) (grown e n) e (Fits n)
    (λ x c d is g l k. grown-rises e n x c d is g l k) row.0 row.1 fits.1 fits.2 a b h low high)

pub inserted-left : (e : Found) (mid rest : List Found) → AllByRecursion (λ (f : Found). found_cmp e f ≡ Less) rest →
    entry_inserted e (mid ++ rest) ≡ entry_inserted e mid ++ rest
inserted-left e [] [] all = refl
inserted-left e [] (r ∷ rest) all =
    let above : found_cmp r e ≡ Greater = found_total.antisymm r e ∙ ap ordering_reverse all.0 in
    rw above refl
inserted-left e (f ∷ mid) rest all = step (found_cmp f e) refl (inserted-left e mid rest all)
  where
    step : (o : Ordering) → found_cmp f e ≡ o → entry_inserted e (mid ++ rest) ≡ entry_inserted e mid ++ rest →
        entry_inserted e (f ∷ mid ++ rest) ≡ entry_inserted e (f ∷ mid) ++ rest
    step Less q more = rw q (ap (λ (l : List Found). f ∷ l) more)
    step Equal q more = rw q refl
    step Greater q more = rw q refl

pub taken_out-left : (e : Found) (mid rest : List Found) → AllByRecursion (λ (f : Found). found_cmp e f ≡ Less) rest →
    taken_out e (mid ++ rest) ≡ taken_out e mid ++ rest
taken_out-left e [] [] all = refl
taken_out-left e [] (r ∷ rest) all =
    let above : found_cmp r e ≡ Greater = found_total.antisymm r e ∙ ap ordering_reverse all.0 in
    rw above refl
taken_out-left e (f ∷ mid) rest all = step (found_cmp f e) refl (taken_out-left e mid rest all)
  where
    chosen : (t : Bool) → cond t (mid ++ rest) (f ∷ mid ++ rest) ≡ cond t mid (f ∷ mid) ++ rest
    chosen true = refl
    chosen false = refl

    step : (o : Ordering) → found_cmp f e ≡ o → taken_out e (mid ++ rest) ≡ taken_out e mid ++ rest →
        taken_out e (f ∷ mid ++ rest) ≡ taken_out e (f ∷ mid) ++ rest
    step Less q more = rw q (ap (λ (l : List Found). f ∷ l) more)
    step Equal q more = rw q (chosen (eqb f.page e.page))
    step Greater q more = rw q refl

pub grown-entries : (e : Found) (n : ℕ) (tree : Tree n) → Fits n tree → IsRising (marks n tree) →
    entries_in (row_marks (marks n) (grown e n tree)) ≡ entry_inserted e (entries_in (marks n tree))
grown-entries e zero es fits h = leaves-entries (entry_inserted e es) ∙ ap (entry_inserted e) (sym (entries-map es))
grown-entries e (suc n) row fits h =
    ap entries_in (inners-marks (marks n) (changed (grown e n) e row.0 row.1))
    ∙ changed-entries (marks n) (grown e n) e (Fits n) (entry_inserted e) (inserted-skip e) (inserted-left e)
    (λ x is g. grown-entries e n x is g) row.0 row.1 fits.1 fits.2 h
