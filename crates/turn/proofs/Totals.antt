-- Sums over lists that are read by `get_elem?`.
use Rattle.std.proofs.Common.{◌≡◌, ◌≢◌, ℕ, zero, suc, ◌+◌, ◌<◌, ◌≤◌, List, [], ◌∷◌, ◌++◌, map, set, refl, ap, sym, arith}
use mathlib.Core.Option.{some, some-injective, some-ne-none}
use mathlib.Core.Logic.{dite}
use native.Mathlib.Decide.{dec_lt}
use lib.ListN.{get_elem?}
use Rattle.turn.specs.Queue.{total}

module _ {X : Type 0} (f : X → ℕ) where
  pub total_set : (xs : List X) (i : ℕ) (v w : X) → get_elem? xs i ≡ some v → total f (set xs i w) + f v ≡ total f xs + f w
  total_set [] i v w e = absurd (some-ne-none v (sym e))
  total_set (x ∷ xs) zero v w e = let s : f x ≡ f v = ap f (some-injective x v e) in omega arith
  total_set (x ∷ xs) (suc i) v w e = let r = total_set xs i v w e in omega arith

  pub total_append : (xs ys : List X) → total f (xs ++ ys) ≡ total f xs + total f ys
  total_append [] ys = omega arith
  total_append (x ∷ xs) ys = let r = total_append xs ys in omega arith

  pub total_at : (xs : List X) (i : ℕ) (v : X) → get_elem? xs i ≡ some v → f v ≤ total f xs
  total_at [] i v e = absurd (some-ne-none v (sym e))
  total_at (x ∷ xs) zero v e = let s : f x ≡ f v = ap f (some-injective x v e) in omega arith
  total_at (x ∷ xs) (suc i) v e = let r = total_at xs i v e in omega arith

  -- two elements at different places
  pub total_two : (xs : List X) (i j : ℕ) (v w : X) → i ≢ j → get_elem? xs i ≡ some v → get_elem? xs j ≡ some w → f v + f w ≤ total f xs
  total_two [] i j v w n e d = absurd (some-ne-none v (sym e))
  total_two (x ∷ xs) zero zero v w n e d = absurd (n refl)
  total_two (x ∷ xs) zero (suc j) v w n e d = let s : f x ≡ f v = ap f (some-injective x v e) in let r = total_at xs j w d in omega arith
  total_two (x ∷ xs) (suc i) zero v w n e d = let s : f x ≡ f w = ap f (some-injective x w d) in let r = total_at xs i v e in omega arith
  total_two (x ∷ xs) (suc i) (suc j) v w n e d = let r = total_two xs i j v w (λ p. n (ap suc p)) e d in omega arith

  -- where the sum is above 0, so is some element
  pub total_some : (xs : List X) → 0 < total f xs → (i : ℕ) × (x : X) × (get_elem? xs i ≡ some x) × (0 < f x)
  total_some [] h = absurd (omega arith)
  total_some (x ∷ xs) h = dite (dec_lt 0 (f x)) (λ p. (zero, x, refl, p)) (λ n. let r = total_some xs (omega arith) in (suc r.0, r.1, r.2, r.3))

  pub total_le : (g : X → ℕ) (xs : List X) → ((i : ℕ) (x : X) → get_elem? xs i ≡ some x → f x ≤ g x) → total f xs ≤ total g xs
  total_le g [] h = omega arith
  total_le g (x ∷ xs) h = let r = total_le g xs (λ i y e. h (suc i) y e) in let s = h zero x refl in omega arith

-- where all of one quantity is at one element, so is all of another that is found only with it
pub total_none : {X : Type 0} (f g : X → ℕ) (xs : List X) → total g xs ≡ 0 → ((i : ℕ) (x : X) → get_elem? xs i ≡ some x → 0 < f x → 0 < g x) → total f xs ≡ 0
total_none f g [] none only = refl
total_none f g (x ∷ xs) none only =
    let r = total_none f g xs (omega arith) (λ i y e. only (suc i) y e) in
    dite (dec_lt 0 (f x)) (λ p. let q = only zero x refl p in absurd (omega arith)) (λ p. omega arith)

pub total_alone : {X : Type 0} (f g : X → ℕ) (xs : List X) (id : ℕ) (v : X) → get_elem? xs id ≡ some v → total g xs ≡ g v → ((i : ℕ) (x : X) → get_elem? xs i ≡ some x → 0 < f x → 0 < g x) → total f xs ≡ f v
total_alone f g [] id v e all only = absurd (some-ne-none v (sym e))
total_alone f g (x ∷ xs) zero v e all only =
    let s : f x ≡ f v = ap f (some-injective x v e) in let t : g x ≡ g v = ap g (some-injective x v e) in
    let r = total_none f g xs (omega arith) (λ i y at. only (suc i) y at) in omega arith
total_alone f g (x ∷ xs) (suc id) v e all only =
    let most = total_at g xs id v e in
    let r = total_alone f g xs id v e (omega arith) (λ i y at. only (suc i) y at) in
    dite (dec_lt 0 (f x)) (λ p. let q = only zero x refl p in absurd (omega arith)) (λ p. omega arith)

pub total_map : {X Y : Type 0} (f : Y → ℕ) (g : X → Y) (xs : List X) → total f (map g xs) ≡ total (λ x. f (g x)) xs
total_map f g [] = refl
total_map f g (x ∷ xs) = ap (λ n. f (g x) + n) (total_map f g xs)
