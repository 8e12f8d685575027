-- Rows that pass a test, as they are met, and in rising number.
use Rattle.std.proofs.Common.{◌≡◌, ◌∙◌, ◌<◌, ◌≤◌, ◌++◌, ℕ, zero, suc, Bool, true, false, cond, List, [], ◌∷◌, length, get_or, Result, Ok, Err, refl, sym, ap, subst, arith, ltb}
use Rattle.std.specs.List.{AllByRecursion}
use Rattle.std.specs.List.Sorted.{IsNonDecreasingBy, IsPermutation}
use Rattle.std.proofs.lemmas.Bool.{ltb-false, ltb-true}
use Rattle.std.proofs.lemmas.List.{append-nil, append_assoc}
use Rattle.std.proofs.lemmas.List.Elements.{All-from_recursion, recursion_from_All}
use Rattle.std.proofs.lemmas.List.Sorted.{All-permutation, IsPermutation-append_left, IsPermutation-cons, IsPermutation-middle, IsPermutation-refl, IsPermutation-sym, IsPermutation-trans}
use Rattle.retro_base.specs.Gives.{◌>>=◌}
use Rattle.retro_base.specs.declared.refusal.Refusal.{Refusal}
use Rattle.heap_file.specs.declared.chain.Placed.{Placed}
use Rattle.heap_file.specs.Chain.{InOrder}
use Rattle.heap_file.specs.Sieving.{onto, passing}

-- a test of rows
abbrev pub Test : Type 0
Test = Placed → Result Bool Refusal

-- what passes of one row more, and of rows before which the test of one is refused
pub passing-by : (passes : Test) (row : Placed) (rows : List Placed) (stays : Bool) → passes row ≡ Ok stays → passing passes (row ∷ rows) ≡ (passing passes rows >>= (λ (others : List Placed). Ok (cond stays (row ∷ others) others)))
passing-by passes row rows stays e = ap (λ (r : Result Bool Refusal). r >>= (λ (b : Bool). passing passes rows >>= (λ (others : List Placed). Ok (cond b (row ∷ others) others)))) e

pub passing-not : (passes : Test) (row : Placed) (rows : List Placed) (why : Refusal) → passes row ≡ Err why → passing passes (row ∷ rows) ≡ Err why
passing-not passes row rows why e = ap (λ (r : Result Bool Refusal). r >>= (λ (b : Bool). passing passes rows >>= (λ (others : List Placed). Ok (cond b (row ∷ others) others)))) e

pub passes-false : (passes : Test) (row : Placed) (rows : List Placed) → passes row ≡ Ok false → passing passes (row ∷ rows) ≡ passing passes rows
passes-false passes row rows e = passing-by passes row rows false e ∙ go (passing passes rows)
  where
    go : (r : Result (List Placed) Refusal) → (r >>= (λ (others : List Placed). Ok (cond false (row ∷ others) others))) ≡ r
    go (Ok others) = refl
    go (Err why) = refl

-- ---- rows that are met one after the other

onto-more : (front : List Placed) (row : Placed) (r : Result (List Placed) Refusal) → onto front (r >>= (λ (others : List Placed). Ok (row ∷ others))) ≡ onto (front ++ row ∷ []) r
onto-more front row (Ok others) = ap (λ (l : List Placed). Ok l) (let same : front ++ row ∷ others ≡ (front ++ row ∷ []) ++ others = rw append_assoc refl in same)
onto-more front row (Err why) = refl

pub onto-kept : (passes : Test) (front : List Placed) (row : Placed) (rows : List Placed) → passes row ≡ Ok true → onto front (passing passes (row ∷ rows)) ≡ onto (front ++ row ∷ []) (passing passes rows)
onto-kept passes front row rows e = ap (onto front) (passing-by passes row rows true e) ∙ onto-more front row (passing passes rows)

pub onto-dropped : (passes : Test) (front : List Placed) (row : Placed) (rows : List Placed) → passes row ≡ Ok false → onto front (passing passes (row ∷ rows)) ≡ onto front (passing passes rows)
onto-dropped passes front row rows e = ap (onto front) (passes-false passes row rows e)

pub onto-not : (passes : Test) (front : List Placed) (row : Placed) (rows : List Placed) (why : Refusal) → passes row ≡ Err why → onto front (passing passes (row ∷ rows)) ≡ Err why
onto-not passes front row rows why e = ap (onto front) (passing-not passes row rows why e)

-- ---- rows of one page behind those of others

onto-by : (front : List Placed) (row : Placed) (stays : Bool) (r : Result (List Placed) Refusal) → (onto front r >>= (λ (others : List Placed). Ok (cond stays (row ∷ others) others))) ≡ onto (cond stays (row ∷ front) front) r
onto-by front row true (Ok others) = refl
onto-by front row false (Ok others) = refl
onto-by front row stays (Err why) = refl

pub passing-append : (passes : Test) (xs ys kept : List Placed) → passing passes xs ≡ Ok kept → passing passes (xs ++ ys) ≡ onto kept (passing passes ys)
passing-append passes [] ys kept e = nothing (passing passes ys) ∙ ap (λ (l : List Placed). onto l (passing passes ys)) (let none : [] ≡ kept = cc in none)
  where
    nothing : (r : Result (List Placed) Refusal) → r ≡ onto [] r
    nothing (Ok rows) = refl
    nothing (Err why) = refl
passing-append passes (x ∷ xs) ys kept e = by (passes x) refl (passing passes xs) refl (λ front s. passing-append passes xs ys front s)
  where
    by : (t : Result Bool Refusal) → passes x ≡ t → (r : Result (List Placed) Refusal) → passing passes xs ≡ r → ((front : List Placed) → passing passes xs ≡ Ok front → passing passes (xs ++ ys) ≡ onto front (passing passes ys)) → passing passes (x ∷ xs ++ ys) ≡ onto kept (passing passes ys)
    by (Err why) t r s rest = let no : Ok kept ≡ Err why = sym e ∙ passing-not passes x xs why t in absurd (cc no)
    by (Ok stays) t (Err why) s rest = let no : Ok kept ≡ Err why = sym e ∙ passing-by passes x xs stays t ∙ ap (λ (r : Result (List Placed) Refusal). r >>= (λ (others : List Placed). Ok (cond stays (x ∷ others) others))) s in absurd (cc no)
    by (Ok stays) t (Ok front) s rest =
        let is : Ok (cond stays (x ∷ front) front) ≡ Ok kept = sym (ap (λ (r : Result (List Placed) Refusal). r >>= (λ (others : List Placed). Ok (cond stays (x ∷ others) others))) s) ∙ sym (passing-by passes x xs stays t) ∙ e in
        let same : cond stays (x ∷ front) front ≡ kept = cc is in
        passing-by passes x (xs ++ ys) stays t
        ∙ ap (λ (r : Result (List Placed) Refusal). r >>= (λ (others : List Placed). Ok (cond stays (x ∷ others) others))) (rest front s)
        ∙ onto-by front x stays (passing passes ys)
        ∙ ap (λ (l : List Placed). onto l (passing passes ys)) same

-- ---- rows all of which pass

pub all-pass : (passes : Test) (rows : List Placed) → AllByRecursion (λ (row : Placed). passes row ≡ Ok true) rows → passing passes rows ≡ Ok rows
all-pass passes [] all = refl
all-pass passes (row ∷ rows) all =
    passing-by passes row rows true all.0 ∙ ap (λ (r : Result (List Placed) Refusal). r >>= (λ (others : List Placed). Ok (row ∷ others))) (all-pass passes rows all.1)

pub everything : (rows : List Placed) → passing (λ row. Ok true) rows ≡ Ok rows
everything [] = refl
everything (row ∷ rows) = ap (λ (r : Result (List Placed) Refusal). r >>= (λ (others : List Placed). Ok (row ∷ others))) (everything rows)

-- ---- in rising number: the rows that do not pass are put between those that do

-- the rows that pass, and those that do not
pub record Parted (passes : Test) (rows kept : List Placed) : Type 0 where
  pub others : List Placed
  pub same : IsPermutation rows (kept ++ others)
  pub pass : AllByRecursion (λ (row : Placed). passes row ≡ Ok true) kept
  pub fail : AllByRecursion (λ (row : Placed). passes row ≡ Ok false) others

parted : (passes : Test) (rows kept : List Placed) → passing passes rows ≡ Ok kept → Parted passes rows kept
parted passes [] kept e =
    let none : [] ≡ kept = cc in
    subst (λ (l : List Placed). Parted passes [] l) none (record { others = []; same = IsPermutation-refl []; pass = tt; fail = tt })
parted passes (row ∷ rows) kept e = by (passes row) refl (passing passes rows) refl (λ front s. parted passes rows front s)
  where
    by : (t : Result Bool Refusal) → passes row ≡ t → (r : Result (List Placed) Refusal) → passing passes rows ≡ r → ((front : List Placed) → passing passes rows ≡ Ok front → Parted passes rows front) → Parted passes (row ∷ rows) kept
    by (Err why) t r s part = let no : Ok kept ≡ Err why = sym e ∙ passing-not passes row rows why t in absurd (cc no)
    by (Ok stays) t (Err why) s part = let no : Ok kept ≡ Err why = sym e ∙ passing-by passes row rows stays t ∙ ap (λ (r : Result (List Placed) Refusal). r >>= (λ (others : List Placed). Ok (cond stays (row ∷ others) others))) s in absurd (cc no)
    by (Ok true) t (Ok front) s part =
        let is : Ok (row ∷ front) ≡ Ok kept = sym (ap (λ (r : Result (List Placed) Refusal). r >>= (λ (others : List Placed). Ok (row ∷ others))) s) ∙ sym (passing-by passes row rows true t) ∙ e in
        let same : row ∷ front ≡ kept = cc is in
        let rest = part front s in
        subst (λ (l : List Placed). Parted passes (row ∷ rows) l) same (record {
          others = rest.others;
          same = IsPermutation-cons row rows (front ++ rest.others) rest.same;
          pass = (t, rest.pass);
          fail = rest.fail;
        })
    by (Ok false) t (Ok front) s part =
        let is : Ok front ≡ Ok kept = sym s ∙ sym (passes-false passes row rows t) ∙ e in
        let same : front ≡ kept = cc is in
        let rest = part front s in
        subst (λ (l : List Placed). Parted passes (row ∷ rows) l) same (record {
          others = row ∷ rest.others;
          same = IsPermutation-trans (row ∷ rows) (row ∷ (front ++ rest.others)) (front ++ row ∷ rest.others)
              (IsPermutation-cons row rows (front ++ rest.others) rest.same)
              (IsPermutation-sym (front ++ row ∷ rest.others) (row ∷ (front ++ rest.others)) (IsPermutation-middle front row rest.others));
          pass = rest.pass;
          fail = (t, rest.fail);
        })

abbrev number_of : Placed → ℕ
number_of placed = placed.number

-- numbers that rise, row by row
abbrev Rises : List Placed → Type 0
Rises [] = Unit {0}
Rises (row ∷ rows) = AllByRecursion (λ (other : Placed). row.number ≤ other.number) rows × Rises rows

above : (n : ℕ) (rows : List Placed) → ((j : ℕ) (d : Placed) → j < length rows → n ≤ (get_or rows j d).number) → AllByRecursion (λ (other : Placed). n ≤ other.number) rows
above n [] h = tt
above n (row ∷ rows) h = (h 0 row (omega arith), above n rows (λ j d lt. h (suc j) d (omega (arith, lt))))

above-at : (n : ℕ) (rows : List Placed) → AllByRecursion (λ (other : Placed). n ≤ other.number) rows → (j : ℕ) (d : Placed) → j < length rows → n ≤ (get_or rows j d).number
above-at n [] all j d lt = absurd (omega (arith, lt))
above-at n (row ∷ rows) all zero d lt = all.0
above-at n (row ∷ rows) all (suc j) d lt = above-at n rows all.1 j d (omega (arith, lt))

rises : (rows : List Placed) → IsNonDecreasingBy number_of rows → Rises rows
rises [] up = tt
rises (row ∷ rows) up =
    (above row.number rows (λ j d lt. up 0 (suc j) d (omega arith) (omega (arith, lt))), rises rows (λ i j d le lt. up (suc i) (suc j) d (omega (arith, le)) (omega (arith, lt))))

up-of : (rows : List Placed) → Rises rows → IsNonDecreasingBy number_of rows
up-of [] all i j d le lt = absurd (omega (arith, lt))
up-of (row ∷ rows) all zero zero d le lt = omega arith
up-of (row ∷ rows) all zero (suc j) d le lt = above-at row.number rows all.0 j d (omega (arith, lt))
up-of (row ∷ rows) all (suc i) zero d le lt = absurd (omega (arith, le))
up-of (row ∷ rows) all (suc i) (suc j) d le lt = up-of rows all.1 i j d (omega (arith, le)) (omega (arith, lt))

-- a row put where its number belongs
put : Placed → List Placed → List Placed
put row [] = row ∷ []
put row (x ∷ xs) = cond (ltb x.number row.number) (x ∷ put row xs) (row ∷ x ∷ xs)

put-same : (row : Placed) (xs : List Placed) → IsPermutation (row ∷ xs) (put row xs)
unfolding put
put-same row [] = IsPermutation-refl (row ∷ [])
put-same row (x ∷ xs) = go (ltb x.number row.number) (put-same row xs)
  where
    go : (b : Bool) → IsPermutation (row ∷ xs) (put row xs) → IsPermutation (row ∷ x ∷ xs) (cond b (x ∷ put row xs) (row ∷ x ∷ xs))
    go true rest = IsPermutation-trans (row ∷ x ∷ xs) (x ∷ row ∷ xs) (x ∷ put row xs)
        (IsPermutation-sym (x ∷ row ∷ xs) (row ∷ x ∷ xs) (IsPermutation-middle (x ∷ []) row xs))
        (IsPermutation-cons x (row ∷ xs) (put row xs) rest)
    go false rest = IsPermutation-refl (row ∷ x ∷ xs)

put-above : (n : ℕ) (row : Placed) (xs : List Placed) → n ≤ row.number → AllByRecursion (λ (other : Placed). n ≤ other.number) xs → AllByRecursion (λ (other : Placed). n ≤ other.number) (put row xs)
unfolding put
put-above n row [] le all = (le, tt)
put-above n row (x ∷ xs) le all = go (ltb x.number row.number) (put-above n row xs le all.1)
  where
    go : (b : Bool) → AllByRecursion (λ (other : Placed). n ≤ other.number) (put row xs) → AllByRecursion (λ (other : Placed). n ≤ other.number) (cond b (x ∷ put row xs) (row ∷ x ∷ xs))
    go true rest = (all.0, rest)
    go false rest = (le, all)

weaker : (m n : ℕ) (xs : List Placed) → m ≤ n → AllByRecursion (λ (other : Placed). n ≤ other.number) xs → AllByRecursion (λ (other : Placed). m ≤ other.number) xs
weaker m n [] le all = tt
weaker m n (x ∷ xs) le all = (omega (arith, le, all.0), weaker m n xs le all.1)

put-rises : (row : Placed) (xs : List Placed) → Rises xs → Rises (put row xs)
unfolding put
put-rises row [] all = (tt, tt)
put-rises row (x ∷ xs) all = go (ltb x.number row.number) refl (put-rises row xs all.1)
  where
    go : (b : Bool) → ltb x.number row.number ≡ b → Rises (put row xs) → Rises (cond b (x ∷ put row xs) (row ∷ x ∷ xs))
    go true e rest = let less = ltb-true x.number row.number e in (put-above x.number row xs (omega (arith, less)) all.0, rest)
    go false e rest = let least = ltb-false x.number row.number e in ((omega (arith, least), weaker row.number x.number xs (omega (arith, least)) all.0), all)

put-passes : (passes : Test) (row : Placed) (xs : List Placed) → passes row ≡ Ok false → passing passes (put row xs) ≡ passing passes xs
unfolding put
put-passes passes row [] e = passes-false passes row [] e
put-passes passes row (x ∷ xs) e = go (ltb x.number row.number) (put-passes passes row xs e)
  where
    go : (b : Bool) → passing passes (put row xs) ≡ passing passes xs → passing passes (cond b (x ∷ put row xs) (row ∷ x ∷ xs)) ≡ passing passes (x ∷ xs)
    go true rest = ap (λ (r : Result (List Placed) Refusal). passes x >>= (λ (stays : Bool). r >>= (λ (others : List Placed). Ok (cond stays (x ∷ others) others)))) rest
    go false rest = passes-false passes row (x ∷ xs) e

-- all rows in rising number, those that pass among them
pub record Whole (passes : Test) (rows sorted : List Placed) : Type 0 where
  pub all : List Placed
  pub order : InOrder rows all
  pub pass : passing passes all ≡ Ok sorted

put-all : (passes : Test) (sorted others : List Placed) → Rises sorted → passing passes sorted ≡ Ok sorted → AllByRecursion (λ (row : Placed). passes row ≡ Ok false) others → (all : List Placed) × IsPermutation (sorted ++ others) all × Rises all × (passing passes all ≡ Ok sorted)
put-all passes sorted [] up pass fail = (sorted, subst (λ (l : List Placed). IsPermutation l sorted) (sym (append-nil sorted)) (IsPermutation-refl sorted), up, pass)
put-all passes sorted (row ∷ others) up pass fail =
    let rest = put-all passes sorted others up pass fail.1 in (
      put row rest.0,
      IsPermutation-trans (sorted ++ row ∷ others) (row ∷ (sorted ++ others)) (put row rest.0) (IsPermutation-middle sorted row others)
          (IsPermutation-trans (row ∷ (sorted ++ others)) (row ∷ rest.0) (put row rest.0) (IsPermutation-cons row (sorted ++ others) rest.0 rest.1) (put-same row rest.0)),
      put-rises row rest.0 rest.2,
      put-passes passes row rest.0 fail.0 ∙ rest.3,
    )

-- the rows that pass, sorted, are those that pass of all rows, sorted
pub whole : (passes : Test) (rows kept sorted : List Placed) → passing passes rows ≡ Ok kept → InOrder kept sorted → Whole passes rows sorted
whole passes rows kept sorted e order =
    let parts = parted passes rows kept e in
    let true_of : Placed → Type 0 = λ row. passes row ≡ Ok true in
    let pass = recursion_from_All true_of sorted (All-permutation true_of kept sorted order.0 (All-from_recursion true_of kept parts.pass)) in
    let found = put-all passes sorted parts.others (rises sorted order.1) (all-pass passes sorted pass) parts.fail in
    record {
      all = found.0;
      order = (
        IsPermutation-trans rows (kept ++ parts.others) found.0 parts.same
            (IsPermutation-trans (kept ++ parts.others) (sorted ++ parts.others) found.0 (IsPermutation-append_left parts.others kept sorted order.0) found.1),
        up-of found.0 found.2,
      );
      pass = found.3;
    }
