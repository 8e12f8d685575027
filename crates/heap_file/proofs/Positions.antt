-- The first place that passes a test, as std's `position` tells it.
use Rattle.std.proofs.Common.{◌≡◌, ◌<◌, ◌≤◌, ℕ, zero, suc, Bool, true, false, List, [], ◌∷◌, length, get_or, cond, Option, Some, None, refl, arith, ltb}
use Rattle.std.specs.List.{find, position, position_or_len}
use Rattle.std.proofs.lemmas.Bool.{le-ltb, lt-ltb, ltb-false}
use Rattle.std.proofs.lemmas.List.Quantifiers.{position-Some}
use Rattle.std.proofs.lemmas.List.Sums.{fails_before_first, position_or_len_is}

pub position-at : {X : Type 0} (p : X → Bool) (xs : List X) (i : ℕ) (d : X) → i < length xs → p (get_or xs i d) ≡ true → ((k : ℕ) → k < i → p (get_or xs k d) ≡ false) → position p xs ≡ Some i
position-at p xs i d lt is before =
    let here : position_or_len p xs ≡ i = position_or_len_is p xs i d (omega (arith, lt)) before (λ below. is) in
    rw (here, lt-ltb i (length xs) lt) refl

pub position-none : {X : Type 0} (p : X → Bool) (xs : List X) → ((k : ℕ) (d : X) → k < length xs → p (get_or xs k d) ≡ false) → position p xs ≡ None
position-none p [] none = refl
position-none p (x ∷ xs) none =
    let long = length (x ∷ xs) in
    let past : position_or_len p (x ∷ xs) ≡ long = position_or_len_is p (x ∷ xs) long x (omega arith) (λ k lt. none k x lt) (λ lt. absurd (omega (arith, lt))) in
    rw (past, le-ltb long long (omega arith)) refl

-- where there is no place, every item fails the test
pub none-at : {X : Type 0} (p : X → Bool) (xs : List X) → position p xs ≡ None → (k : ℕ) (d : X) → k < length xs → p (get_or xs k d) ≡ false
none-at p xs none k d lt = fails_before_first p xs k d (omega (arith, lt, past (ltb (position_or_len p xs) (length xs)) refl none))
  where
    past : (b : Bool) → ltb (position_or_len p xs) (length xs) ≡ b → cond b (Some (position_or_len p xs)) None ≡ None → length xs ≤ position_or_len p xs
    past true e some = absurd cc
    past false e some = ltb-false (position_or_len p xs) (length xs) e

find-there : {X : Type 0} (p : X → Bool) (xs : List X) (i : ℕ) (d : X) → i < length xs → p (get_or xs i d) ≡ true → ((k : ℕ) → k < i → p (get_or xs k d) ≡ false) → find p xs ≡ Some (get_or xs i d)
find-there p [] i d lt is before = absurd (omega (arith, lt))
find-there p (x ∷ xs) zero d lt is before = rw is refl
find-there p (x ∷ xs) (suc i) d lt is before =
    rw (before 0 (omega arith)) (find-there p xs i d (omega (arith, lt)) is (λ k below. before (suc k) (omega (arith, below))))

find-nowhere : {X : Type 0} (p : X → Bool) (xs : List X) → ((k : ℕ) (d : X) → k < length xs → p (get_or xs k d) ≡ false) → find p xs ≡ None
find-nowhere p [] none = refl
find-nowhere p (x ∷ xs) none = rw (none 0 x (omega arith)) (find-nowhere p xs (λ k d lt. none (suc k) d (omega (arith, lt))))

-- what is found stands at the place
pub find-at : {X : Type 0} (p : X → Bool) (xs : List X) (i : ℕ) (d : X) → position p xs ≡ Some i → find p xs ≡ Some (get_or xs i d)
find-at p xs i d at = let it = position-Some p xs i d at in find-there p xs i d it.0 it.1 it.2

pub find-none : {X : Type 0} (p : X → Bool) (xs : List X) → position p xs ≡ None → find p xs ≡ None
find-none p xs none = find-nowhere p xs (none-at p xs none)

-- there is one place, or none
pub some-is : (o : Option ℕ) (i j : ℕ) → o ≡ Some i → o ≡ Some j → i ≡ j
some-is o i j p q = cc (p, q)

pub some-none : {A : Type 0} (o : Option ℕ) (i : ℕ) → o ≡ Some i → o ≡ None → A
some-none o i p q = absurd cc
