-- What adding and taking out make of a tree: proofs.
use Rattle.std.proofs.Common.{◌≡◌, ◌≤◌, ◌+◌, ◌++◌, ◌∙◌, not, ℕ, Bool, true, false, cond}
use Rattle.std.proofs.Common.{List, [], ◌∷◌, refl, sym, ap, subst, arith, append_assoc}
use Rattle.std.specs.List.{flat_map, AllByRecursion}
use Rattle.std.specs.Ordering.{is_lt}
use Rattle.std.specs.declared.cmp.Ordering.{Ordering}
use Rattle.std.specs.declared.cmp.Ordering.TheVariants.{Less}
use Rattle.std.proofs.lemmas.Bool.{or_from}
use Rattle.std.proofs.lemmas.List.{append-nil, map-append}
use Rattle.std.proofs.lemmas.List.Concat.{flat_map-append}
use Rattle.pager.specs.Index.{IsFound, found_cmp}
use Rattle.pager.specs.declared.index.Found.{Found}
use Rattle.index_page.specs.Entries.{is_behind, reaches}
use Rattle.index_page.specs.IndexPage.{width}
use Rattle.index_page.proofs.Packing.{width-append, width-cons}
use Rattle.tree_index.specs.Marking.{all-join, all-more, all-right, entries-all, entries-append}
use Rattle.tree_index.specs.Marking.{lt-from, pass-key, rising-before, rising-behind}
use Rattle.tree_index.specs.Marking.{rising-left, rising-right, shift, shift-one, stop-key, under}
use Rattle.tree_index.specs.Tree.{IsRising, Key, Mark, Precedes, Row, at_entry, at_key, changed}
use Rattle.tree_index.specs.Tree.{count_behind, entries_in, named, row_keys, row_marks}

-- a row that goes on
pub row-more : {X : Type 0} (mark : X → List Mark) (row : Row X) (more : List (Key × X)) →
    row_marks mark (row.0, row.1 ++ more) ≡ row_marks mark row ++ flat_map (λ (b : Key × X). at_key b.0 ∷ mark b.1) more
row-more {X} mark row more =
    ap (λ (l : List Mark). mark row.0 ++ l) (flat_map-append (λ (b : Key × X). at_key b.0 ∷ mark b.1) row.1 more) ∙
    sym (append_assoc (mark row.0) _ _)

pub row-one : {X : Type 0} (mark : X → List Mark) (first : X) → row_marks mark (first, []) ≡ mark first
row-one mark first = append-nil (mark first)

pub none-reach : (e : Found) (fs : List Found) → AllByRecursion (λ (f : Found). found_cmp f e ≡ Less) fs →
    reaches e fs ≡ false
none-reach e [] all = refl
none-reach e (f ∷ fs) all =
    or_from (is_behind e f) (reaches e fs) (ap (λ (o : Ordering). not (is_lt o)) all.0) (none-reach e fs all.1)

pub count-append : {X : Type 0} (count : X → ℕ) (a b : List (Key × X)) →
    count_behind count (a ++ b) ≡ count_behind count a + count_behind count b
count-append count [] b = omega arith
count-append count (x ∷ a) b = omega (arith, count-append count a b)

-- what is done to one child, done to a row
module _ {X : Type 0} (mark : X → List Mark) (change : X → Row X) (e : Found) (P : X → Type 0) where
  pub behind-key : (a b : List Mark) (first : X) (c : Key × X) (rest : List (Key × X)) →
      IsRising (a ++ (row_marks mark (first, c ∷ rest) ++ b)) →
      AllByRecursion (Precedes (at_key c.0)) (row_marks mark (c.1, rest) ++ b)
  behind-key a b first c rest h =
      rising-behind (a ++ mark first) (row_marks mark (c.1, rest) ++ b) (at_key c.0)
      (subst IsRising (shift-one a (mark first) (row_marks mark (c.1, rest)) b (at_key c.0)) h)

  pub before-key : (a b : List Mark) (first : X) (c : Key × X) (rest : List (Key × X)) →
      IsRising (a ++ (row_marks mark (first, c ∷ rest) ++ b)) →
      AllByRecursion (λ m. Precedes m (at_key c.0)) (mark first)
  before-key a b first c rest h =
      all-right (λ m. Precedes m (at_key c.0)) a (mark first)
      (rising-before (a ++ mark first) (row_marks mark (c.1, rest) ++ b) (at_key c.0)
      (subst IsRising (shift-one a (mark first) (row_marks mark (c.1, rest)) b (at_key c.0)) h))

  pub changed-rises : (each : (x : X) (a b : List Mark) → P x → IsRising (a ++ (mark x ++ b)) →
      AllByRecursion (λ m. Precedes m (at_entry e)) a → AllByRecursion (Precedes (at_entry e)) b →
      IsRising (a ++ (row_marks mark (change x) ++ b))) (first : X) (rest : List (Key × X)) → P first →
      AllByRecursion (λ (b : Key × X). P b.1) rest → (a b : List Mark) →
      IsRising (a ++ (row_marks mark (first, rest) ++ b)) → AllByRecursion (λ m. Precedes m (at_entry e)) a →
      AllByRecursion (Precedes (at_entry e)) b → IsRising (a ++ (row_marks mark (changed change e first rest) ++ b))
  changed-rises each first [] is all a b h low high =
      each first a b is (subst (λ (l : List Mark). IsRising (a ++ (l ++ b))) (row-one mark first) h) low high
  changed-rises each first (c ∷ rest) is all a b h low high =
      step (is_lt (found_cmp e (named c.0 0))) refl (changed-rises each c.1 rest all.0 all.1)
    where
      step : (t : Bool) → is_lt (found_cmp e (named c.0 0)) ≡ t →
          ((d g : List Mark) → IsRising (d ++ (row_marks mark (c.1, rest) ++ g)) →
          AllByRecursion (λ m. Precedes m (at_entry e)) d → AllByRecursion (Precedes (at_entry e)) g →
          IsRising (d ++ (row_marks mark (changed change e c.1 rest) ++ g))) →
          IsRising (a
          ++ (row_marks mark
          (cond t ((change first).0, (change first).1 ++ c ∷ rest)
          (first, (c.0, (changed change e c.1 rest).0) ∷ (changed change e c.1 rest).1)) ++ b))
      step true q go =
          let less = lt-from (found_cmp e (named c.0 0)) q in
          let tail : List Mark = at_key c.0 ∷ row_marks mark (c.1, rest) in
          let h1 : IsRising (a ++ (mark first ++ (tail ++ b))) =
          subst (λ (l : List Mark). IsRising (a ++ l)) (append_assoc (mark first) tail b) h in
          let high1 : AllByRecursion (Precedes (at_entry e)) (tail ++ b) = (
            less,
            all-more (Precedes (at_key c.0)) (Precedes (at_entry e)) (row_marks mark (c.1, rest) ++ b)
                (stop-key e c.0 less) (behind-key a b first c rest h),
          ) in
          let same : row_marks mark ((change first).0, (change first).1 ++ c ∷ rest) ++ b
          ≡ row_marks mark (change first) ++ (tail ++ b) =
          ap (λ (l : List Mark). l ++ b) (row-more mark (change first) (c ∷ rest)) ∙
          append_assoc (row_marks mark (change first)) tail b in
          subst (λ (l : List Mark). IsRising (a ++ l)) (sym same) (each first a (tail ++ b) is h1 low high1)
      step false q go =
          let front : List Mark = mark first ++ at_key c.0 ∷ [] in
          let h1 : IsRising ((a ++ front) ++ (row_marks mark (c.1, rest) ++ b)) =
          subst IsRising (shift a (mark first) (row_marks mark (c.1, rest)) b (at_key c.0)) h in
          let low1 : AllByRecursion (λ m. Precedes m (at_entry e)) (a ++ front) =
          all-join (λ m. Precedes m (at_entry e)) a front low
          (all-join (λ m. Precedes m (at_entry e)) (mark first) (at_key c.0 ∷ [])
          (all-more (λ m. Precedes m (at_key c.0)) (λ m. Precedes m (at_entry e)) (mark first) (pass-key e c.0 q)
          (before-key a b first c rest h)) (q, tt)) in
          subst IsRising (sym (shift a (mark first) (row_marks mark (changed change e c.1 rest)) b (at_key c.0)))
          (go (a ++ front) b h1 low1 high)

  -- what is made of the entries
  pub changed-entries : (op : List Found → List Found)
      (skip : (front rest : List Found) → reaches e front ≡ false → op (front ++ rest) ≡ front ++ op rest)
      (stop : (mid rest : List Found) → AllByRecursion (λ (f : Found). found_cmp e f ≡ Less) rest →
      op (mid ++ rest) ≡ op mid ++ rest)
      (each : (x : X) → P x → IsRising (mark x) → entries_in (row_marks mark (change x)) ≡ op (entries_in (mark x)))
      (first : X) (rest : List (Key × X)) → P first → AllByRecursion (λ (b : Key × X). P b.1) rest →
      IsRising (row_marks mark (first, rest)) →
      entries_in (row_marks mark (changed change e first rest)) ≡ op (entries_in (row_marks mark (first, rest)))
  changed-entries op skip stop each first [] is all h =
      each first is (rising-left (mark first) [] h) ∙
      ap (λ (l : List Mark). op (entries_in l)) (sym (row-one mark first))
  changed-entries op skip stop each first (c ∷ rest) is all h =
      step (is_lt (found_cmp e (named c.0 0))) refl (changed-entries op skip stop each c.1 rest all.0 all.1)
    where
      step : (t : Bool) → is_lt (found_cmp e (named c.0 0)) ≡ t →
          (IsRising (row_marks mark (c.1, rest)) →
          entries_in (row_marks mark (changed change e c.1 rest)) ≡ op (entries_in (row_marks mark (c.1, rest)))) →
          entries_in
          (row_marks mark
          (cond t ((change first).0, (change first).1 ++ c ∷ rest)
          (first, (c.0, (changed change e c.1 rest).0) ∷ (changed change e c.1 rest).1)))
          ≡ op (entries_in (row_marks mark (first, c ∷ rest)))
      step true q go =
          let less = lt-from (found_cmp e (named c.0 0)) q in
          let tail : List Mark = at_key c.0 ∷ row_marks mark (c.1, rest) in
          let high : AllByRecursion (Precedes (at_entry e)) tail = (
            less,
            all-more (Precedes (at_key c.0)) (Precedes (at_entry e)) (row_marks mark (c.1, rest))
                (stop-key e c.0 less) (rising-behind (mark first) (row_marks mark (c.1, rest)) (at_key c.0) h),
          ) in
          let above : AllByRecursion (λ (f : Found). found_cmp e f ≡ Less) (entries_in tail) =
          entries-all (Precedes (at_entry e)) (λ (f : Found). found_cmp e f ≡ Less) tail (λ f p. p) high in
          ap entries_in (row-more mark (change first) (c ∷ rest)) ∙ entries-append (row_marks mark (change first)) tail
          ∙ ap (λ (l : List Found). l ++ entries_in tail) (each first is (rising-left (mark first) tail h))
          ∙ sym (stop (entries_in (mark first)) (entries_in tail) above) ∙
          ap op (sym (entries-append (mark first) tail))
      step false q go =
          let tail : List Mark = at_key c.0 ∷ row_marks mark (c.1, rest) in
          let more : List Mark = at_key c.0 ∷ row_marks mark (changed change e c.1 rest) in
          let low = rising-before (mark first) (row_marks mark (c.1, rest)) (at_key c.0) h in
          let below : AllByRecursion (λ (f : Found). found_cmp f e ≡ Less) (entries_in (mark first)) =
          entries-all (λ m. Precedes m (at_key c.0)) (λ (f : Found). found_cmp f e ≡ Less) (mark first)
          (λ f p. under f (named c.0 0) e p q) low in
          entries-append (mark first) more ∙
          ap (λ (l : List Found). entries_in (mark first) ++ l) (go (rising-right (mark first) tail h).1)
          ∙ sym (skip (entries_in (mark first)) (entries_in tail) (none-reach e (entries_in (mark first)) below)) ∙
          ap op (sym (entries-append (mark first) tail))

  -- what holds of each child
  pub changed-all : (each : (x : X) → P x → P (change x).0 × AllByRecursion (λ (b : Key × X). P b.1) (change x).1)
      (first : X) (rest : List (Key × X)) → P first → AllByRecursion (λ (b : Key × X). P b.1) rest →
      P (changed change e first rest).0 × AllByRecursion (λ (b : Key × X). P b.1) (changed change e first rest).1
  changed-all each first [] is all = each first is
  changed-all each first (c ∷ rest) is all =
      step (is_lt (found_cmp e (named c.0 0))) (changed-all each c.1 rest all.0 all.1)
    where
      Whole : Row X → Type 0
      Whole row = P row.0 × AllByRecursion (λ (b : Key × X). P b.1) row.1

      step : (t : Bool) → P (changed change e c.1 rest).0
          × AllByRecursion (λ (b : Key × X). P b.1) (changed change e c.1 rest).1 →
          Whole (cond t ((change first).0, (change first).1 ++ c ∷ rest)
          (first, (c.0, (changed change e c.1 rest).0) ∷ (changed change e c.1 rest).1))
      step true go =
          ((each first is).0, all-join (λ (b : Key × X). P b.1) (change first).1 (c ∷ rest) (each first is).1 all)
      step false go = (is, go)

  -- the keys
  pub changed-keys : (each : (x : X) → P x → AllByRecursion IsFound (row_keys (change x).1)
      × (width (row_keys (change x).1) ≤ 217)) (first : X) (rest : List (Key × X)) → P first →
      AllByRecursion (λ (b : Key × X). P b.1) rest → AllByRecursion IsFound (row_keys rest) →
      AllByRecursion IsFound (row_keys (changed change e first rest).1)
      × (width (row_keys (changed change e first rest).1) ≤ width (row_keys rest) + 217)
  changed-keys each first [] is all keys = ((each first is).0, omega (arith, (each first is).1))
  changed-keys each first (c ∷ rest) is all keys =
      step (is_lt (found_cmp e (named c.0 0))) (changed-keys each c.1 rest all.0 all.1 keys.1)
    where
      Whole : Row X → Type 0
      Whole row = AllByRecursion IsFound (row_keys row.1) × (width (row_keys row.1) ≤ width (row_keys (c ∷ rest)) + 217)

      step : (t : Bool) → AllByRecursion IsFound (row_keys (changed change e c.1 rest).1)
          × (width (row_keys (changed change e c.1 rest).1) ≤ width (row_keys rest) + 217) →
          Whole (cond t ((change first).0, (change first).1 ++ c ∷ rest)
          (first, (c.0, (changed change e c.1 rest).0) ∷ (changed change e c.1 rest).1))
      step true go =
          let two = map-append (λ (b : Key × X). named b.0 0) (change first).1 (c ∷ rest) in (
            subst (AllByRecursion IsFound) (sym two)
                (all-join IsFound (row_keys (change first).1) (row_keys (c ∷ rest)) (each first is).0 keys),
            omega (
              arith,
              ap width two,
              width-append (row_keys (change first).1) (row_keys (c ∷ rest)),
              (each first is).1,
            ),
          )
      step false go = (
        (keys.0, go.0),
        omega (
          arith,
          width-cons (named c.0 0) (row_keys rest),
          width-cons (named c.0 0) (row_keys (changed change e c.1 rest).1),
          go.1,
        ),
      )
