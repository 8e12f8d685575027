-- Rows in rising number.
use Rattle.std.proofs.Common.{◌≡◌, ◌<◌, ◌≤◌, ◌∙◌, ℕ, zero, suc, Bool, true, false, not, cond, eqb, List, [], ◌∷◌, length, filter, get_or, set, swap, refl, sym, arith, subst}
use Rattle.std.specs.List.{Contains}
use Rattle.std.specs.List.Sorted.{IsPermutation, IsNonDecreasingBy}
use Rattle.std.proofs.lemmas.List.Kept.{IsNonDecreasingBy-filter}
use Rattle.std.proofs.lemmas.List.Sorted.{Contains-permutation, IsPermutation-cons, IsPermutation-keeps, IsPermutation-middle, IsPermutation-refl, IsPermutation-sym, IsPermutation-trans, length_permutation}
use Rattle.heap_file.specs.declared.chain.Placed.{Placed}
use Rattle.heap_file.specs.Chain.{InOrder}
use Rattle.heap_laws.specs.Store.{times_numbered}
use Rattle.heap_laws.proofs.Counts.{keyed, keyed-more, keyed-same, others, others-none, others-same}
use Rattle.heap_laws.proofs.Rows.{keyed-contains, numbered-permutation}

-- what a filter keeps of a list, where two lists are alike but for their order
abbrev Kept : {X : Type 0} → (X → Bool) → List X → List X → Type 0
Kept p xs ys = IsPermutation (filter p xs) (filter p ys)

kept-skip : {X : Type 0} (p : X → Bool) (x : X) (xs ys : List X) → Kept p xs ys → Kept p (x ∷ xs) (x ∷ ys)
kept-skip p x xs ys perm = go (p x)
  where
    go : (b : Bool) → IsPermutation (cond b (x ∷ filter p xs) (filter p xs)) (cond b (x ∷ filter p ys) (filter p ys))
    go true = IsPermutation-cons x (filter p xs) (filter p ys) perm
    go false = perm

kept-turn : {X : Type 0} (p : X → Bool) (x y : X) (xs : List X) → Kept p (x ∷ y ∷ xs) (y ∷ x ∷ xs)
kept-turn p x y xs = go (p x) (p y)
  where
    go : (a b : Bool) → IsPermutation (cond a (x ∷ cond b (y ∷ filter p xs) (filter p xs)) (cond b (y ∷ filter p xs) (filter p xs))) (cond b (y ∷ cond a (x ∷ filter p xs) (filter p xs)) (cond a (x ∷ filter p xs) (filter p xs)))
    go true true = IsPermutation-middle (x ∷ []) y (filter p xs)
    go true false = IsPermutation-refl (x ∷ filter p xs)
    go false true = IsPermutation-refl (y ∷ filter p xs)
    go false false = IsPermutation-refl (filter p xs)

kept-trans : {X : Type 0} (p : X → Bool) (xs ys zs : List X) → Kept p xs ys → Kept p ys zs → Kept p xs zs
kept-trans p xs ys zs one two = IsPermutation-trans (filter p xs) (filter p ys) (filter p zs) one two

kept-front : {X : Type 0} (p : X → Bool) (l : List X) (j : ℕ) (x d : X) → j < length l → Kept p (x ∷ l) (get_or l j d ∷ set l j x)
kept-front p [] j x d lt = absurd (omega (arith, lt))
kept-front p (y ∷ l) zero x d lt = kept-turn p x y l
kept-front p (y ∷ l) (suc j) x d lt =
    let z = get_or l j d in
    let r = set l j x in
    kept-trans p (x ∷ y ∷ l) (y ∷ x ∷ l) (z ∷ y ∷ r) (kept-turn p x y l) (kept-trans p (y ∷ x ∷ l) (y ∷ z ∷ r) (z ∷ y ∷ r) (kept-skip p y (x ∷ l) (z ∷ r) (kept-front p l j x d (omega (arith, lt)))) (kept-turn p y z r))

kept-swap : {X : Type 0} (p : X → Bool) (l : List X) (i j : ℕ) (d : X) → i < length l → j < length l → Kept p l (set (set l i (get_or l j d)) j (get_or l i d))
kept-swap p [] i j d a b = absurd (omega (arith, a))
kept-swap p (x ∷ l) zero zero d a b = IsPermutation-refl (filter p (x ∷ l))
kept-swap p (x ∷ l) zero (suc j) d a b = kept-front p l j x d (omega (arith, b))
kept-swap p (x ∷ l) (suc i) zero d a b = kept-front p l i x d (omega (arith, a))
kept-swap p (x ∷ l) (suc i) (suc j) d a b = kept-skip p x l (set (set l i (get_or l j d)) j (get_or l i d)) (kept-swap p l i j d (omega (arith, a)) (omega (arith, b)))

kept-swapped : {X : Type 0} (p : X → Bool) (l : List X) (i j : ℕ) → i < length l → j < length l → Kept p l (swap l i j)
kept-swapped p [] i j a b = IsPermutation-refl []
kept-swapped p (x ∷ l) i j a b = kept-swap p (x ∷ l) i j x a b

pub filter-permutation : {X : Type 0} (p : X → Bool) (xs ys : List X) → IsPermutation xs ys → IsPermutation (filter p xs) (filter p ys)
filter-permutation p xs ys perm = IsPermutation-keeps xs (Kept p xs) (IsPermutation-refl (filter p xs)) (λ l i j a b kept. kept-trans p xs l (swap l i j) kept (kept-swapped p l i j a b)) ys perm

-- the number of a row
abbrev pub number_of : Placed → ℕ
number_of placed = placed.number

-- rows in order without those of a number
pub order-others : (rows sorted : List Placed) (number : ℕ) → InOrder rows sorted → InOrder (others number_of number rows) (others number_of number sorted)
order-others rows sorted number order =
    (filter-permutation (λ placed. not (eqb (number_of placed) number)) rows sorted order.0, IsNonDecreasingBy-filter number_of (λ placed. not (eqb (number_of placed) number)) sorted order.1)

-- a list without its first element
sorted-tail : (placed : Placed) (rows : List Placed) → IsNonDecreasingBy number_of (placed ∷ rows) → IsNonDecreasingBy number_of rows
sorted-tail placed rows sorted i j d le lt = sorted (suc i) (suc j) d (omega (arith, le)) (omega (arith, lt))

-- the first of rows in rising number is no more than any of them
sorted-first : (placed : Placed) (rows : List Placed) (other : Placed) → IsNonDecreasingBy number_of (placed ∷ rows) → Contains (placed ∷ rows) other → placed.number ≤ other.number
sorted-first placed rows other sorted (k, lt, is) = subst (λ (p : Placed). placed.number ≤ p.number) is (sorted 0 k other (omega arith) lt)

-- the only row of its number
only-row : (placed : Placed) (rows : List Placed) (other : Placed) → times_numbered placed.number (placed ∷ rows) ≤ 1 → Contains (placed ∷ rows) other → placed.number ≡ other.number → placed ≡ other
only-row placed rows other once (zero, lt, is) same = is
only-row placed rows other once (suc k, lt, is) same =
    absurd (omega (arith, once, keyed-same number_of placed.number placed rows refl, subst (λ (n : ℕ). 0 < times_numbered n rows) (sym same) (keyed-contains number_of rows other (k, omega (arith, lt), is))))

-- rows of different numbers have one order
pub sorted-one : (xs ys : List Placed) → IsPermutation xs ys → ((n : ℕ) → times_numbered n xs ≤ 1) → IsNonDecreasingBy number_of xs → IsNonDecreasingBy number_of ys → xs ≡ ys
sorted-one [] [] perm once up also = refl
sorted-one [] (y ∷ ys) perm once up also = absurd (omega (arith, length_permutation [] (y ∷ ys) perm))
sorted-one (x ∷ xs) [] perm once up also = absurd (omega (arith, length_permutation (x ∷ xs) [] perm))
sorted-one (x ∷ xs) (y ∷ ys) perm once up also =
    let back = IsPermutation-sym (x ∷ xs) (y ∷ ys) perm in
    let x_there = Contains-permutation (x ∷ xs) (y ∷ ys) x perm (0, omega arith, refl) in
    let y_there = Contains-permutation (y ∷ ys) (x ∷ xs) y back (0, omega arith, refl) in
    let number : x.number ≡ y.number = omega (arith, sorted-first y ys x also x_there, sorted-first x xs y up y_there) in
    let same : x ≡ y = only-row x xs y (once x.number) y_there number in
    let none : keyed number_of x.number xs ≡ 0 = omega (arith, once x.number, keyed-same number_of x.number x xs refl) in
    let none_other : keyed number_of x.number ys ≡ 0 = omega (arith, once x.number, numbered-permutation x.number (x ∷ xs) (y ∷ ys) perm, keyed-same number_of x.number y ys (sym number)) in
    let left : others number_of x.number (x ∷ xs) ≡ xs = others-same number_of x.number x xs refl ∙ others-none number_of x.number xs none in
    let right : others number_of x.number (y ∷ ys) ≡ ys = others-same number_of x.number y ys (sym number) ∙ others-none number_of x.number ys none_other in
    let rest : IsPermutation xs ys = subst (λ (l : List Placed). IsPermutation l ys) left (subst (IsPermutation (others number_of x.number (x ∷ xs))) right (filter-permutation (λ placed. not (eqb placed.number x.number)) (x ∷ xs) (y ∷ ys) perm)) in
    both same (sorted-one xs ys rest (λ n. omega (arith, once n, keyed-more number_of n x xs)) (sorted-tail x xs up) (sorted-tail y ys also))
  where
    both : x ≡ y → xs ≡ ys → x ∷ xs ≡ y ∷ ys
    both p q = λ i. p i ∷ q i
