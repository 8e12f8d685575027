-- The first few of a list in order.
use Rattle.std.proofs.Common.{inl, inr, ◌≡◌, ◌∙◌, ◌++◌, ◌+◌, cond, ℕ, zero, suc, Bool, true, false, Some, List, [], ◌∷◌, ◌≤◌, ◌-◌, take, length, get_or, refl, sym, ap, arith}
use Rattle.std.specs.Prelude.{if◌then◌else◌}
use Rattle.std.specs.List.{insert, slice_get}
use Rattle.std.specs.List.Sorted.{IsSortedBy}
use Rattle.std.specs.Cmp.{IsStrictWeakOrder}
use Rattle.std.proofs.lemmas.List.Sorted.{sorted_far}
use Rattle.std.proofs.lemmas.List.Sums.{prefix_len_is}
use Rattle.std.proofs.lemmas.Option.{get_or_from_slice_get, slice_get_within}
use Rattle.sql_select.specs.Order.{first_place, ordered, placed}
use Rattle.sql_select.proofs.Sorting.{Among, Rises}

-- a list with items put in before it, from the last on
abbrev pub onto : {X : Type 0} → (X → X → Bool) → List X → List X → List X
onto before [] list = list
onto before (x ∷ xs) list = placed before x (onto before xs list)

take-more : {X : Type 0} (count : ℕ) (xs : List X) → take count xs ≡ take count (take (suc count) xs)
take-more zero xs = refl
take-more (suc count) [] = refl
take-more (suc count) (x ∷ xs) = ap (λ l. x ∷ l) (take-more count xs)

pub take-twice : {X : Type 0} (count : ℕ) (xs : List X) → take count (take count xs) ≡ take count xs
take-twice zero xs = refl
take-twice (suc count) [] = refl
take-twice (suc count) (x ∷ xs) = ap (λ l. x ∷ l) (take-twice count xs)

pub take-nothing : {X : Type 0} (count : ℕ) → take {A = X} count [] ≡ []
take-nothing zero = refl
take-nothing (suc count) = refl

few-behind : {X : Type 0} (count : ℕ) (x : X) (xs : List X) → take count (x ∷ xs) ≡ take count (x ∷ take count xs)
few-behind zero x xs = refl
few-behind (suc count) x xs = ap (λ l. x ∷ l) (take-more count xs)

module _ {X : Type 0} (before : X → X → Bool) where
  pub onto-nothing : (xs : List X) → onto before xs [] ≡ ordered before xs
  onto-nothing [] = refl
  onto-nothing (x ∷ xs) = ap (placed before x) (onto-nothing xs)

  pub onto-last : (xs : List X) (x : X) (list : List X) → onto before (xs ++ x ∷ []) list ≡ onto before xs (placed before x list)
  onto-last [] x list = refl
  onto-last (y ∷ ys) x list = ap (placed before y) (onto-last ys x list)

  few-by : (count : ℕ) (x y : X) (ys : List X) (b : Bool) → take count (placed before x ys) ≡ take count (placed before x (take count ys))
      → take (suc count) (if b then (y ∷ placed before x ys) else (x ∷ y ∷ ys)) ≡ take (suc count) (if b then (y ∷ placed before x (take count ys)) else (x ∷ y ∷ take count ys))
  few-by count x y ys true e = ap (λ l. y ∷ l) e
  few-by count x y ys false e = ap (λ l. x ∷ l) (few-behind count y ys)

  -- an item that is put in pushes out what stands behind, and no more
  few-placed : (count : ℕ) (x : X) (list : List X) → take count (placed before x list) ≡ take count (placed before x (take count list))
  few-placed zero x list = refl
  few-placed (suc count) x [] = refl
  few-placed (suc count) x (y ∷ ys) = few-by count x y ys (before y x) (few-placed count x ys)

  pub few-onto : (count : ℕ) (xs list : List X) → take count (onto before xs list) ≡ take count (onto before xs (take count list))
  few-onto count [] list = sym (take-twice count list)
  few-onto count (x ∷ xs) list =
      few-placed count x (onto before xs list)
      ∙ ap (λ l. take count (placed before x l)) (few-onto count xs list)
      ∙ sym (few-placed count x (onto before xs (take count list)))

  -- the place where an item is put in
  at-by : (x y : X) (ys : List X) (b : Bool) → placed before x ys ≡ insert ys (first_place before x ys) x
      → (if b then (y ∷ placed before x ys) else (x ∷ y ∷ ys)) ≡ insert (y ∷ ys) (cond b (1 + first_place before x ys) 0) x
  at-by x y ys true e =
      let up : suc (first_place before x ys) ≡ 1 + first_place before x ys = omega arith in
      ap (λ l. y ∷ l) e ∙ ap (λ n. insert (y ∷ ys) n x) up
  at-by x y ys false e = refl

  pub placed-at : (x : X) (list : List X) → placed before x list ≡ insert list (first_place before x list) x
  placed-at x [] = refl
  placed-at x (y ∷ ys) = at-by x y ys (before y x) (placed-at x ys)

-- an item put in behind the first few leaves them
pub few-before : {X : Type 0} (count place : ℕ) (x : X) (list : List X) → count ≤ place → place ≤ length list → length list ≤ count → take count (insert list place x) ≡ list
few-before zero place x [] low within few = refl
few-before zero place x (y ∷ ys) low within few = absurd (omega arith)
few-before (suc count) zero x list low within few = absurd (omega arith)
few-before (suc count) (suc place) x [] low within few = absurd (omega arith)
few-before (suc count) (suc place) x (y ∷ ys) low within few = ap (λ l. y ∷ l) (few-before count place x ys (omega arith) (omega arith) (omega arith))

among-few : {X : Type 0} (count : ℕ) (x : X) (list : List X) → Among x (take count list) → Among x list
among-few zero x list h = absurd h
among-few (suc count) x [] h = absurd h
among-few (suc count) x (y ∷ ys) (inl e) = inl e
among-few (suc count) x (y ∷ ys) (inr h) = inr (among-few count x ys h)

pub few-rise : {X : Type 0} (before : X → X → Bool) (count : ℕ) (list : List X) → Rises before list → Rises before (take count list)
few-rise before zero list r = tt
few-rise before (suc count) [] r = tt
few-rise before (suc count) (x ∷ xs) r = ((λ y h. r.0 y (among-few count y xs h)), few-rise before count xs r.1)

module _ {X : Type 0} (before : X → X → Bool) (o : IsStrictWeakOrder before) where
  clash : (x y z : X) → before y x ≡ true → before y z ≡ false → before z x ≡ false → ⊥
  clash x y z last e f = let g : true ≡ false = sym last ∙ o.chain y z x e f in cc

  by-last : (x y z : X) (b : Bool) → before y x ≡ true → before y z ≡ false → before z x ≡ b → before z x ≡ true
  by-last x y z true last e f = f
  by-last x y z false last e f = absurd (clash x y z last e f)

  -- an item behind the last of a sorted list is behind all
  pub behind-last : (list : List X) (x y : X) → IsSortedBy before list → slice_get list (length list - 1) ≡ Some y → before y x ≡ true → first_place before x list ≡ length list
  behind-last list x y up last e =
      let some = slice_get_within list (length list - 1) y last in
      let at = get_or_from_slice_get list (length list - 1) y y last in
      prefix_len_is (λ z. before z x) list (length list) y (omega arith)
      (λ k low.
      by-last x y (get_or list k y) (before (get_or list k y) x) e
      (ap (λ v. before v (get_or list k y)) (sym at) ∙ sorted_far before o list up k (length list - 1) y (omega (arith, low)) (omega (arith, some)))
      refl)
      (λ low. absurd (omega (arith, low)))
