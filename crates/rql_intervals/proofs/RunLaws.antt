-- The runs over answers are the intervals of their rows.
use Rattle.std.proofs.Common.{◌≡◌, ◌∙◌, ◌⊎◌, ◌+◌, ◌-◌, ◌<◌, ◌≤◌, inl, inr, ℕ, zero, suc, Bool, true, false, not, ◌||◌, List, [], ◌∷◌, ◌++◌, ap, arith, drop, get_or, length, map, refl, subst, sym, true≢false}
use Rattle.std.specs.Cmp.{IsEquivalence}
use Rattle.std.proofs.lemmas.Bool.{false≢true}
use Rattle.std.specs.List.{AllPairs, Contains, filter, flat_map, position_or_len, prefix_len, range_with_len}
use Rattle.std.proofs.lemmas.List.{get_or-drop, get_or_past, length-drop, length-map}
use Rattle.std.proofs.lemmas.List.Sums.{prefix_len-le-length, prefix_len_is, prefix_len_passes, prefix_len_stops}
use Rattle.values.specs.declared.value.Value.{Value}
use Rattle.sql_select.specs.Groups.{firsts}
use Rattle.sql_select.specs.Same.{same_row}
use Rattle.sql_select.specs.Sameness.{same_row-Decides, same_row_equiv}
use Rattle.sql_select.proofs.Firsts.{any_firsts, filter_no, filter_yes}
use Rattle.rql_intervals.specs.Intervals.{GoesBefore, IsInterval, RunsAreIntervals, StandsAt, appearance, has_row, run_end, runs, runs_at, set_of, stands_before}
use Rattle.rql_intervals.specs.declared.runs_so_far.Run.{Run}
use Rattle.rql_intervals.proofs.RunFolds.{run_of}

-- ---- members of lists

abbrev pub Among : {X : Type 0} → X → List X → Type 0
Among x [] = ⊥
Among x (y ∷ ys) = (x ≡ y) ⊎ Among x ys

among_left : {X : Type 0} (x : X) (xs ys : List X) → Among x xs → Among x (xs ++ ys)
among_left x [] ys h = absurd h
among_left x (y ∷ xs) ys (inl e) = inl e
among_left x (y ∷ xs) ys (inr h) = inr (among_left x xs ys h)

among_right : {X : Type 0} (x : X) (xs ys : List X) → Among x ys → Among x (xs ++ ys)
among_right x [] ys h = h
among_right x (y ∷ xs) ys h = inr (among_right x xs ys h)

among_either : {X : Type 0} (x : X) (xs ys : List X) → Among x (xs ++ ys) → Among x xs ⊎ Among x ys
among_either x [] ys h = inr h
among_either x (y ∷ xs) ys (inl e) = inl (inl e)
among_either x (y ∷ xs) ys (inr h) = elim (among_either x xs ys h) [ inl left ↦ inl (inr left) | inr right ↦ inr right ]

among_get : {X : Type 0} (xs : List X) (i : ℕ) (d : X) → i < length xs → Among (get_or xs i d) xs
among_get [] i d lt = absurd (omega arith)
among_get (x ∷ xs) zero d lt = inl refl
among_get (x ∷ xs) (suc i) d lt = inr (among_get xs i d (omega arith))

contains : {X : Type 0} (x : X) (xs : List X) → Among x xs → Contains xs x
contains x [] h = absurd h
contains x (y ∷ xs) (inl e) = (0, omega arith, sym e)
contains x (y ∷ xs) (inr h) = let found = contains x xs h in (suc found.0, omega arith, found.2)

among_at : {X : Type 0} (x : X) (xs : List X) (i : ℕ) → i < length xs → get_or xs i x ≡ x → Among x xs
among_at x [] i lt e = absurd (omega arith)
among_at x (y ∷ xs) zero lt e = inl (sym e)
among_at x (y ∷ xs) (suc i) lt e = inr (among_at x xs i (omega arith) e)

among : {X : Type 0} (x : X) (xs : List X) → Contains xs x → Among x xs
among x xs h = among_at x xs h.0 h.1 h.2

among_map : {X Y : Type 0} (f : X → Y) (x : X) (xs : List X) → Among x xs → Among (f x) (map f xs)
among_map f x [] h = absurd h
among_map f x (y ∷ xs) (inl e) = inl (ap f e)
among_map f x (y ∷ xs) (inr h) = inr (among_map f x xs h)

from_map : {X Y : Type 0} (f : X → Y) (y : Y) (xs : List X) → Among y (map f xs) → (x : X) × Among x xs × (y ≡ f x)
from_map f y [] h = absurd h
from_map f y (x ∷ xs) (inl e) = (x, inl refl, e)
from_map f y (x ∷ xs) (inr h) = let found = from_map f y xs h in (found.0, inr found.1, found.2)

module _ {X : Type 0} (p : X → Bool) where
  among_filter-cons : (x y : X) (xs : List X) (b : Bool) → p y ≡ b → p x ≡ true → Among x (y ∷ xs) → (Among x xs → Among x (filter p xs)) → Among x (filter p (y ∷ xs))
  among_filter-cons x y xs true e passes (inl is) ih = subst (λ l. Among x l) (sym (filter_yes p y xs e)) (inl is)
  among_filter-cons x y xs true e passes (inr h) ih = subst (λ l. Among x l) (sym (filter_yes p y xs e)) (inr (ih h))
  among_filter-cons x y xs false e passes (inl is) ih = absurd (true≢false (sym passes ∙ ap p is ∙ e))
  among_filter-cons x y xs false e passes (inr h) ih = subst (λ l. Among x l) (sym (filter_no p y xs e)) (ih h)

  among_filter : (x : X) (xs : List X) → p x ≡ true → Among x xs → Among x (filter p xs)
  among_filter x [] passes h = h
  among_filter x (y ∷ xs) passes h = among_filter-cons x y xs (p y) refl passes h (among_filter x xs passes)

  from_filter-cons : (x y : X) (xs : List X) (b : Bool) → p y ≡ b → (Among x (filter p xs) → Among x xs × (p x ≡ true)) → Among x (filter p (y ∷ xs)) → Among x (y ∷ xs) × (p x ≡ true)
  from_filter-cons x y xs true e ih h =
      let cases : (x ≡ y) ⊎ Among x (filter p xs) = subst (λ l. Among x l) (filter_yes p y xs e) h in
      elim cases [ inl is ↦ (inl is, ap p is ∙ e) | inr rest ↦ let found = ih rest in (inr found.0, found.1) ]
  from_filter-cons x y xs false e ih h = let found = ih (subst (λ l. Among x l) (filter_no p y xs e) h) in (inr found.0, found.1)

  from_filter : (x : X) (xs : List X) → Among x (filter p xs) → Among x xs × (p x ≡ true)
  from_filter x [] h = absurd h
  from_filter x (y ∷ xs) h = from_filter-cons x y xs (p y) refl (from_filter x xs) h

module _ {X : Type 0} (f : ℕ → List X) where
  -- an item of what a function gives of one of the numbers
  among_range : (x : X) (a n k : ℕ) → a ≤ k → k < a + n → Among x (f k) → Among x (flat_map f (range_with_len a n))
  among_range x a zero k low high h = absurd (omega arith)
  among_range x a (suc n) k low high h = elim (first_or_later a k low) [
    | inl e ↦ among_left x (f a) (flat_map f (range_with_len (a + 1) n)) (subst (λ m. Among x (f m)) (sym e) h)
    | inr later ↦ among_right x (f a) (flat_map f (range_with_len (a + 1) n)) (among_range x (a + 1) n k later (omega arith) h)
  ]
    where
      first_or_later : (a k : ℕ) → a ≤ k → (a ≡ k) ⊎ (a + 1 ≤ k)
      first_or_later zero zero low = inl refl
      first_or_later zero (suc k) low = inr (omega arith)
      first_or_later (suc a) zero low = absurd (omega arith)
      first_or_later (suc a) (suc k) low = elim (first_or_later a k (omega arith)) [ inl e ↦ inl (ap suc e) | inr later ↦ inr (omega arith) ]

  from_range : (x : X) (a n : ℕ) → Among x (flat_map f (range_with_len a n)) → (k : ℕ) × (a ≤ k) × (k < a + n) × Among x (f k)
  from_range x a zero h = absurd h
  from_range x a (suc n) h = elim (among_either x (f a) (flat_map f (range_with_len (a + 1) n)) h) [
    | inl here ↦ (a, omega arith, omega arith, here)
    | inr later ↦ let found = from_range x (a + 1) n later in (found.0, omega arith, omega arith, found.3)
  ]

-- ---- pairs of items

abbrev Pairs : {X : Type 0} → (X → X → Type 0) → List X → Type 0
Pairs R [] = Unit {0}
Pairs {X} R (x ∷ xs) = ((y : X) → Among y xs → R x y) × Pairs R xs

all_pairs : {X : Type 0} (R : X → X → Type 0) (xs : List X) → Pairs R xs → AllPairs R xs
all_pairs R [] pairs i j d lt inside = absurd (omega arith)
all_pairs R (x ∷ xs) pairs zero zero d lt inside = absurd (omega arith)
all_pairs R (x ∷ xs) pairs zero (suc j) d lt inside = pairs.0 (get_or xs j d) (among_get xs j d (omega arith))
all_pairs R (x ∷ xs) pairs (suc i) zero d lt inside = absurd (omega arith)
all_pairs R (x ∷ xs) pairs (suc i) (suc j) d lt inside = all_pairs R xs pairs.1 i j d (omega arith) (omega arith)

pairs_append : {X : Type 0} (R : X → X → Type 0) (xs ys : List X) → Pairs R xs → Pairs R ys → ((x y : X) → Among x xs → Among y ys → R x y) → Pairs R (xs ++ ys)
pairs_append R [] ys left right cross = right
pairs_append R (x ∷ xs) ys left right cross = (
  λ y h. elim (among_either y xs ys h) [ inl there ↦ left.0 y there | inr behind ↦ cross x y (inl refl) behind ],
  pairs_append R xs ys left.1 right (λ a b h k. cross a b (inr h) k),
)

pairs_map : {X Y : Type 0} (R : X → X → Type 0) (Q : Y → Y → Type 0) (f : X → Y) → ((a b : X) → R a b → Q (f a) (f b)) → (xs : List X) → Pairs R xs → Pairs Q (map f xs)
pairs_map R Q f step [] pairs = tt
pairs_map {X} {Y} R Q f step (x ∷ xs) pairs = (
  λ y h. let found = from_map f y xs h in subst (λ z. Q (f x) z) (sym found.2) (step x found.0 (pairs.0 found.0 found.1)),
  pairs_map R Q f step xs pairs.1,
)

module _ {X : Type 0} (R Q : X → X → Type 0) (p : X → Bool) (step : (a b : X) → p a ≡ true → p b ≡ true → R a b → Q a b) where
  pairs_filter-cons : (x : X) (xs : List X) (b : Bool) → p x ≡ b → Pairs R (x ∷ xs) → Pairs Q (filter p xs) → Pairs Q (filter p (x ∷ xs))
  pairs_filter-cons x xs true e pairs rest =
      subst (λ l. Pairs Q l) (sym (filter_yes p x xs e)) (
        λ y h. let found = from_filter p y xs h in step x y e found.1 (pairs.0 y found.0),
        rest,
      )
  pairs_filter-cons x xs false e pairs rest = subst (λ l. Pairs Q l) (sym (filter_no p x xs e)) rest

  pairs_filter : (xs : List X) → Pairs R xs → Pairs Q (filter p xs)
  pairs_filter [] pairs = tt
  pairs_filter (x ∷ xs) pairs = pairs_filter-cons x xs (p x) refl pairs (pairs_filter xs pairs.1)

-- ---- first appearances

module _ {X : Type 0} (same : X → X → Bool) (o : IsEquivalence same) where
  abbrev first_place : List X → X → ℕ
  first_place xs x = position_or_len (same x) xs

  abbrev differs : X → X → Bool
  differs x y = not (same y x)

  behind_first : (x y : X) (xs : List X) → differs x y ≡ true → first_place (x ∷ xs) y ≡ 1 + first_place xs y
  behind_first x y xs e = rw e refl

  at_first : (x : X) (xs : List X) → first_place (x ∷ xs) x ≡ 0
  at_first x xs = rw (o.refl x) refl

  -- the items at their first appearances stand in the order of these
  earlier_firsts : (xs : List X) → Pairs (λ a b. first_place xs a < first_place xs b) (firsts same xs)
  earlier_firsts [] = tt
  earlier_firsts (x ∷ xs) = (
    λ y h. let found = from_filter (differs x) y (firsts same xs) h in omega (arith, at_first x xs, behind_first x y xs found.1),
    pairs_filter (λ a b. first_place xs a < first_place xs b) (λ a b. first_place (x ∷ xs) a < first_place (x ∷ xs) b) (differs x)
        (λ a b da db lt. omega (arith, behind_first x a xs da, behind_first x b xs db)) (firsts same xs) (earlier_firsts xs),
  )

-- ---- rows in answers

has_if : (row other : List Value) (rows : List (List Value)) (b : Bool) → same_row row other ≡ b → has_row row (other ∷ rows) ≡ true → (has_row row rows ≡ true → Among row rows) → Among row (other ∷ rows)
has_if row other rows true e h ih = inl ((same_row-Decides row other).0 e)
has_if row other rows false e h ih = inr (ih (sym (ap (λ b. b || has_row row rows) e) ∙ h))

has_among : (row : List Value) (rows : List (List Value)) → has_row row rows ≡ true → Among row rows
has_among row [] h = absurd (false≢true h)
has_among row (other ∷ rows) h = has_if row other rows (same_row row other) refl h (has_among row rows)

among_has : (row : List Value) (rows : List (List Value)) → Among row rows → has_row row rows ≡ true
among_has row [] h = absurd h
among_has row (other ∷ rows) (inl e) = ap (λ b. b || has_row row rows) ((same_row-Decides row other).1 e)
among_has row (other ∷ rows) (inr h) = ap (λ b. same_row row other || b) (among_has row rows h) ∙ or_true (same_row row other)
  where
    or_true : (b : Bool) → (b || true) ≡ true
    or_true true = refl
    or_true false = refl

not_true : (b : Bool) → (b ≡ true → ⊥) → b ≡ false
not_true true h = absurd (h refl)
not_true false h = refl

get_set : (answers : List (List (List Value))) (place : ℕ) → get_or (map set_of answers) place [] ≡ set_of (get_or answers place [])
get_set [] place = refl
get_set (answer ∷ answers) zero = refl
get_set (answer ∷ answers) (suc place) = get_set answers place

module _ (answers : List (List (List Value))) where
  abbrev sets : List (List (List Value))
  sets = map set_of answers

  has_at : (row : List Value) (place : ℕ) → has_row row (get_or sets place []) ≡ has_row row (get_or answers place [])
  has_at row place = ap (has_row row) (get_set answers place) ∙ any_firsts same_row same_row_equiv row (get_or answers place [])

  stands : (row : List Value) (place : ℕ) → has_row row (get_or sets place []) ≡ true → StandsAt answers place row
  stands row place h = contains row (get_or answers place []) (has_among row (get_or answers place []) (sym (has_at row place) ∙ h))

  has : (row : List Value) (place : ℕ) → StandsAt answers place row → has_row row (get_or sets place []) ≡ true
  has row place h = has_at row place ∙ among_has row (get_or answers place []) (among row (get_or answers place []) h)

  stands_not : (row : List Value) (place : ℕ) → has_row row (get_or sets place []) ≡ false → StandsAt answers place row → ⊥
  stands_not row place h there = true≢false (sym (has row place there) ∙ h)

  has_not : (row : List Value) (place : ℕ) → (StandsAt answers place row → ⊥) → has_row row (get_or sets place []) ≡ false
  has_not row place h = not_true (has_row row (get_or sets place [])) (λ e. h (stands row place e))

  many : length sets ≡ length answers
  many = length-map answers set_of

  -- how many answers behind a place have the row
  abbrev more : ℕ → List Value → ℕ
  more start row = prefix_len (has_row row) (drop (start + 1) sets)

  before_not : (row : List Value) (start : ℕ) → stands_before sets start row ≡ false → (place : ℕ) → place + 1 ≡ start → StandsAt answers place row → ⊥
  before_not row zero new place e = absurd (omega arith)
  before_not row (suc start) new place e =
      let same : start ≡ place = omega arith in
      stands_not row place (subst (λ n. has_row row (get_or sets n []) ≡ false) same new)

  not_before : (row : List Value) (start : ℕ) → ((place : ℕ) → place + 1 ≡ start → StandsAt answers place row → ⊥) → stands_before sets start row ≡ false
  not_before row zero h = refl
  not_before row (suc start) h = has_not row start (h start (omega arith))

  passes : (row : List Value) (start k place : ℕ) → k < more start row → place ≡ (start + 1) + k → has_row row (get_or sets place []) ≡ true
  passes row start k place lt e =
      ap (λ n. has_row row (get_or sets n [])) e ∙ sym (ap (has_row row) (get_or-drop (start + 1) sets k [])) ∙ prefix_len_passes (has_row row) (drop (start + 1) sets) k [] lt

  stops : (row : List Value) (start : ℕ) → more start row < length (drop (start + 1) sets) → has_row row (get_or sets ((start + 1) + more start row) []) ≡ false
  stops row start lt =
      sym (ap (has_row row) (get_or-drop (start + 1) sets (more start row) [])) ∙ prefix_len_stops (has_row row) (drop (start + 1) sets) [] lt

  -- a run is an interval
  module _ (row : List Value) (start : ℕ) (inside : start < length answers) (there : has_row row (get_or sets start []) ≡ true) (new : stands_before sets start row ≡ false) where
    short : more start row ≤ length answers - (start + 1)
    short = omega (arith, prefix_len-le-length (has_row row) (drop (start + 1) sets), length-drop (start + 1) sets, many)

    stands_throughout : (place : ℕ) → start ≤ place → place ≤ start + more start row → (place ≡ start) ⊎ (start + 1 ≤ place) → StandsAt answers place row
    stands_throughout place low high (inl e) = stands row place (ap (λ n. has_row row (get_or sets n [])) e ∙ there)
    stands_throughout place low high (inr later) = stands row place (passes row start (place - (start + 1)) place (omega arith) (omega arith))

    stands_behind : (more start row < length (drop (start + 1) sets)) ⊎ (length (drop (start + 1) sets) ≤ more start row) → StandsAt answers (run_end sets start row + 1) row → ⊥
    stands_behind (inl lt) h =
        let place : (start + 1) + more start row ≡ run_end sets start row + 1 = omega arith in
        stands_not row (run_end sets start row + 1) (subst (λ n. has_row row (get_or sets n []) ≡ false) place (stops row start lt)) h
    stands_behind (inr le) h =
        let past : length answers ≤ run_end sets start row + 1 = omega (arith, length-drop (start + 1) sets, many) in
        let none : Contains [] row = subst (λ l. Contains l row) (get_or_past answers (run_end sets start row + 1) [] past) h in
        absurd (omega (arith, none.1))

    is_interval : IsInterval answers (run_of sets start row)
    is_interval = record {
      forward = omega arith;
      within = omega (arith, short);
      throughout = λ place low high. stands_throughout place low high (same_or_later start place low);
      not_before = before_not row start new;
      not_behind = stands_behind (below_or_not (more start row) (length (drop (start + 1) sets)));
    }
      where
        same_or_later : (start place : ℕ) → start ≤ place → (place ≡ start) ⊎ (start + 1 ≤ place)
        same_or_later zero zero low = inl refl
        same_or_later zero (suc place) low = inr (omega arith)
        same_or_later (suc start) zero low = absurd (omega arith)
        same_or_later (suc start) (suc place) low = elim (same_or_later start place (omega arith)) [ inl e ↦ inl (ap suc e) | inr later ↦ inr (omega arith) ]

        below_or_not : (a b : ℕ) → (a < b) ⊎ (b ≤ a)
        below_or_not a zero = inr (omega arith)
        below_or_not zero (suc b) = inl (omega arith)
        below_or_not (suc a) (suc b) = elim (below_or_not a b) [ inl lt ↦ inl (omega arith) | inr le ↦ inr (omega arith) ]

  not_true_is : (b : Bool) → not b ≡ true → b ≡ false
  not_true_is true e = absurd (false≢true e)
  not_true_is false e = refl

  each_is : (run : Run) → Among run (runs sets) → IsInterval answers run
  each_is run h =
      let place = from_range (runs_at sets) run 0 (length sets) h in
      let row = from_map (run_of sets place.0) run (filter (λ row. not (stands_before sets place.0 row)) (get_or sets place.0 [])) place.3 in
      let passed = from_filter (λ row. not (stands_before sets place.0 row)) row.0 (get_or sets place.0 []) row.1 in
      subst (λ r. IsInterval answers r) (sym row.2)
      (is_interval row.0 place.0 (omega (arith, many)) (among_has row.0 (get_or sets place.0 []) passed.0) (not_true_is (stands_before sets place.0 row.0) passed.1))

  -- an interval is a run
  same_end : (run : Run) → IsInterval answers run → run_end sets run.start run.row ≡ run.end
  same_end run is =
      let counted : more run.start run.row ≡ run.end - run.start =
      prefix_len_is (has_row run.row) (drop (run.start + 1) sets) (run.end - run.start) [] (omega (arith, is.forward, is.within, length-drop (run.start + 1) sets, many))
      (λ k lt. ap (has_row run.row) (get_or-drop (run.start + 1) sets k []) ∙ has run.row ((run.start + 1) + k) (is.throughout ((run.start + 1) + k) (omega arith) (omega (arith, is.forward))))
      (λ lt. ap (has_row run.row) (get_or-drop (run.start + 1) sets (run.end - run.start) []) ∙ has_not run.row ((run.start + 1) + (run.end - run.start))
      (let place : run.end + 1 ≡ (run.start + 1) + (run.end - run.start) = omega (arith, is.forward) in subst (λ n. StandsAt answers n run.row → ⊥) place is.not_behind)) in
      omega (arith, counted, is.forward)

  is_run : (run : Run) → IsInterval answers run → Among run (runs sets)
  is_run run is =
      let new = not_before run.row run.start is.not_before in
      let there = has run.row run.start (is.throughout run.start (omega arith) is.forward) in
      among_range (runs_at sets) run 0 (length sets) run.start (omega arith) (omega (arith, is.forward, is.within, many))
      (subst (λ r. Among r (runs_at sets run.start)) (λ i. record { row = run.row; start = run.start; end = same_end run is i })
      (among_map (run_of sets run.start) run.row (filter (λ row. not (stands_before sets run.start row)) (get_or sets run.start []))
      (among_filter (λ row. not (stands_before sets run.start row)) run.row (get_or sets run.start []) (ap not new) (has_among run.row (get_or sets run.start []) there))))

  -- the order of runs
  start_is : (run : Run) (start : ℕ) → Among run (runs_at sets start) → run.start ≡ start
  start_is run start h = ap (λ (r : Run). r.start) (from_map (run_of sets start) run (filter (λ row. not (stands_before sets start row)) (get_or sets start [])) h).2

  abbrev earlier : ℕ → List Value → List Value → Type 0
  earlier start a b = position_or_len (same_row a) (get_or answers start []) < position_or_len (same_row b) (get_or answers start [])

  ordered_at : (start : ℕ) → Pairs (GoesBefore answers) (runs_at sets start)
  ordered_at start =
      pairs_map (earlier start) (GoesBefore answers) (run_of sets start) (λ a b lt. inr (refl, lt)) (filter (λ row. not (stands_before sets start row)) (get_or sets start []))
      (pairs_filter (earlier start) (earlier start) (λ row. not (stands_before sets start row)) (λ a b pa pb lt. lt) (get_or sets start [])
      (subst (λ l. Pairs (earlier start) l) (sym (get_set answers start)) (earlier_firsts same_row same_row_equiv (get_or answers start []))))

  ordered : (a n : ℕ) → Pairs (GoesBefore answers) (flat_map (runs_at sets) (range_with_len a n))
  ordered a zero = tt
  ordered a (suc n) =
      pairs_append (GoesBefore answers) (runs_at sets a) (flat_map (runs_at sets) (range_with_len (a + 1) n)) (ordered_at a) (ordered (a + 1) n)
      (λ x y h k. let place = from_range (runs_at sets) y (a + 1) n k in inl (omega (arith, start_is x a h, start_is y place.0 place.3)))

goes_apart : (answers : List (List (List Value))) (a b : Run) → GoesBefore answers a b → a ≡ b → ⊥
goes_apart answers a b (inl lt) e = omega (arith, ap (λ (r : Run). r.start) e)
goes_apart answers a b (inr h) e = omega (arith, h.1, ap (appearance answers) e)

pub runs_are_intervals : RunsAreIntervals
runs_are_intervals answers =
    let in_order = all_pairs (GoesBefore answers) (runs (map set_of answers)) (ordered answers 0 (length (map set_of answers))) in
    record {
      intervals = λ place run inside. each_is answers (get_or (runs (map set_of answers)) place run) (among_get (runs (map set_of answers)) place run inside);
      all = λ run is. contains run (runs (map set_of answers)) (is_run answers run is);
      once = λ i j d lt inside. goes_apart answers (get_or (runs (map set_of answers)) i d) (get_or (runs (map set_of answers)) j d) (in_order i j d lt inside);
      in_order = in_order;
    }
