-- Places in lists: of the first item that passes a test, and of what is set or added.
use Rattle.std.proofs.Common.{◌≡◌, ◌∙◌, ℕ, ◌+◌, ◌<◌, zero, suc, Bool, true, false, ◌||◌, not, Some, None, List, [], ◌∷◌, ◌++◌, length, refl, ap, sym, subst, cond, arith}
use Rattle.std.specs.Prelude.{nat_lt, position, slice_get, slice_set}
use Rattle.std.specs.List.{AllZip, list_any, position_or_len, prefix_len}
use Rattle.std.proofs.lemmas.Bool.{lt-ltb, ltb-true}
use Rattle.std.proofs.lemmas.List.{length-append}

some_same : {X : Type 0} (a b : X) → Some a ≡ Some b → a ≡ b
some_same a b e = cc

pub get-set_same : {X : Type 0} (xs : List X) (i : ℕ) (x y : X) → slice_get xs i ≡ Some x → slice_get (slice_set xs i y) i ≡ Some y
get-set_same [] i x y e = let no : ⊥ = cc in absurd no
get-set_same (z ∷ xs) zero x y e = refl
get-set_same (z ∷ xs) (suc i) x y e = get-set_same xs i x y e

pub get-set_other : {X : Type 0} (xs : List X) (i j : ℕ) (y : X) → (i ≡ j → ⊥) → slice_get (slice_set xs i y) j ≡ slice_get xs j
get-set_other [] i j y apart = refl
get-set_other (z ∷ xs) zero zero y apart = absurd (apart refl)
get-set_other (z ∷ xs) zero (suc j) y apart = refl
get-set_other (z ∷ xs) (suc i) zero y apart = refl
get-set_other (z ∷ xs) (suc i) (suc j) y apart = get-set_other xs i j y (λ e. apart (ap suc e))

pub get-append : {X : Type 0} (xs ys : List X) (i : ℕ) (x : X) → slice_get xs i ≡ Some x → slice_get (xs ++ ys) i ≡ Some x
get-append [] ys i x e = let no : ⊥ = cc in absurd no
get-append (z ∷ xs) ys zero x e = e
get-append (z ∷ xs) ys (suc i) x e = get-append xs ys i x e

pub get-append_end : {X : Type 0} (xs : List X) (y : X) → slice_get (xs ++ y ∷ []) (length xs) ≡ Some y
get-append_end [] y = refl
get-append_end (x ∷ xs) y = get-append_end xs y

-- the place of the first item that passes
found_by : (b : Bool) (n i : ℕ) → cond b (Some n) None ≡ Some i → (b ≡ true) × (n ≡ i)
found_by true n i e = (refl, some_same n i e)
found_by false n i e = let no : ⊥ = cc in absurd no

found_at : {X : Type 0} (test : X → Bool) (xs : List X) (i : ℕ) → position test xs ≡ Some i → (position_or_len test xs ≡ i) × (position_or_len test xs < length xs)
found_at test xs i e =
    let found = found_by (nat_lt (position_or_len test xs) (length xs)) (position_or_len test xs) i e in
    (found.1, ltb-true (position_or_len test xs) (length xs) found.0)

position_is : {X : Type 0} (test : X → Bool) (xs : List X) (i : ℕ) → position_or_len test xs ≡ i → position_or_len test xs < length xs → position test xs ≡ Some i
position_is test xs i is below = rw (lt-ltb (position_or_len test xs) (length xs) below) (ap (λ (n : ℕ). Some n) is)

prefix_by : {X : Type 0} (passes : X → Bool) (b : Bool) (m n k : ℕ) → cond b (1 + m) 0 < suc k → (m < k → n ≡ m) → cond b (1 + n) 0 ≡ cond b (1 + m) 0
prefix_by passes true m n k below rest = ap (λ (p : ℕ). 1 + p) (rest (omega arith))
prefix_by passes false m n k below rest = refl

prefix_len-append : {X : Type 0} (passes : X → Bool) (xs ys : List X) → prefix_len passes xs < length xs → prefix_len passes (xs ++ ys) ≡ prefix_len passes xs
prefix_len-append passes [] ys below = let no : ⊥ = omega arith in absurd no
prefix_len-append passes (x ∷ xs) ys below = prefix_by passes (passes x) (prefix_len passes xs) (prefix_len passes (xs ++ ys)) (length xs) below (prefix_len-append passes xs ys)

pub position-append : {X : Type 0} (test : X → Bool) (xs ys : List X) (i : ℕ) → position test xs ≡ Some i → position test (xs ++ ys) ≡ Some i
position-append {X = X} test xs ys i e =
    let found = found_at test xs i e in
    let same : position_or_len test (xs ++ ys) ≡ position_or_len test xs = prefix_len-append (λ (x : X). not (test x)) xs ys found.1 in
    let long : length (xs ++ ys) ≡ length xs + length ys = length-append xs ys in
    position_is test (xs ++ ys) i (same ∙ found.0) (omega (arith, same, long, found.1))

or_none : (a b : Bool) → a || b ≡ false → (a ≡ false) × (b ≡ false)
or_none true b e = let no : ⊥ = cc in absurd no
or_none false b e = (refl, e)

none_before : {X : Type 0} (test : X → Bool) (xs : List X) (t : X) → list_any test xs ≡ false → test t ≡ true → position_or_len test (xs ++ t ∷ []) ≡ length xs
none_before test [] t none passes = rw passes refl
none_before test (x ∷ xs) t none passes =
    let parts = or_none (test x) (list_any test xs) none in
    rw parts.0 (let e = none_before test xs t parts.1 passes in omega (arith, e))

-- the first item that passes is the last one, where no other does
pub position-append_end : {X : Type 0} (test : X → Bool) (xs : List X) (t : X) → list_any test xs ≡ false → test t ≡ true → position test (xs ++ t ∷ []) ≡ Some (length xs)
position-append_end test xs t none passes =
    let is = none_before test xs t none passes in
    let long : length (xs ++ t ∷ []) ≡ length xs + length (t ∷ []) = length-append xs (t ∷ []) in
    position_is test (xs ++ t ∷ []) (length xs) is (omega (arith, is, long))

-- items at the same places of two lists
module _ {A B : Type 0} (R : A → B → Type 0) where
  pub zip_at : (xs : List A) (ys : List B) (i : ℕ) (x : A) (y : B) → AllZip R xs ys → slice_get xs i ≡ Some x → slice_get ys i ≡ Some y → R x y
  zip_at [] ys i x y h p q = let no : ⊥ = cc in absurd no
  zip_at (a ∷ xs) [] i x y h p q = absurd h
  zip_at (a ∷ xs) (b ∷ ys) zero x y h p q = subst (λ (w : A). R w y) (some_same a x p) (subst (R a) (some_same b y q) h.0)
  zip_at (a ∷ xs) (b ∷ ys) (suc i) x y h p q = zip_at xs ys i x y h.1 p q

  pub zip_set : (xs : List A) (ys : List B) (i : ℕ) (x : A) (y : B) → AllZip R xs ys → slice_get xs i ≡ Some x → R x y → AllZip R xs (slice_set ys i y)
  zip_set [] [] i x y h p r = tt
  zip_set [] (b ∷ ys) i x y h p r = absurd h
  zip_set (a ∷ xs) [] i x y h p r = absurd h
  zip_set (a ∷ xs) (b ∷ ys) zero x y h p r = (subst (λ (w : A). R w y) (sym (some_same a x p)) r, h.1)
  zip_set (a ∷ xs) (b ∷ ys) (suc i) x y h p r = (h.0, zip_set xs ys i x y h.1 p r)

  pub zip_append : (xs : List A) (ys : List B) (x : A) (y : B) → AllZip R xs ys → R x y → AllZip R (xs ++ x ∷ []) (ys ++ y ∷ [])
  zip_append [] [] x y h r = (r, tt)
  zip_append [] (b ∷ ys) x y h r = absurd h
  zip_append (a ∷ xs) [] x y h r = absurd h
  zip_append (a ∷ xs) (b ∷ ys) x y h r = (h.0, zip_append xs ys x y h.1 r)

  pub zip_length : (xs : List A) (ys : List B) → AllZip R xs ys → length xs ≡ length ys
  zip_length [] [] h = refl
  zip_length [] (b ∷ ys) h = absurd h
  zip_length (a ∷ xs) [] h = absurd h
  zip_length (a ∷ xs) (b ∷ ys) h = ap suc (zip_length xs ys h.1)
