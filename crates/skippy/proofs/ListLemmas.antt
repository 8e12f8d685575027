-- Places of lists, and what holds of all entries of a range.
use Rattle.std.proofs.Common.{◌≡◌, ◌+◌, ◌-◌, ◌*◌, ◌/◌, ◌^◌, ◌≤◌, ◌<◌, ◌++◌, ◌∷◌, [], ◌⊎◌, ℕ, zero, suc, List, Bool, true, false, cond, not, Option, Some, None, is_none, filter, nat_eq, min, max, take, drop, map, length, get_or, slice_get, refl, sym, ap, ◌∙◌, arith, true≢false, inl, inr, append_assoc, append-nil, ◌&&◌, eq-eqb, All}
use Rattle.std.proofs.lemmas.List.{length-take}
use Rattle.std.proofs.lemmas.List.Elements.{All-nil, All-cons, All-weaker, All-filter}
use Rattle.std.specs.Option.{option_map}
use Rattle.skippy.specs.Mappings.{Mappings, pages_in, numbered, first_in, first_mappings}

pub slice_get-left : {X : Type 0} (xs ys : List X) (k : ℕ) → k < length xs → slice_get (xs ++ ys) k ≡ slice_get xs k
slice_get-left [] ys k within = absurd (omega arith)
slice_get-left (x ∷ xs) ys zero within = refl
slice_get-left (x ∷ xs) ys (suc k) within = slice_get-left xs ys k (omega arith)

pub slice_get-end : {X : Type 0} (xs : List X) (x : X) → slice_get (xs ++ x ∷ []) (length xs) ≡ Some x
slice_get-end [] x = refl
slice_get-end (y ∷ xs) x = slice_get-end xs x

pub slice_get-take : {X : Type 0} (xs : List X) (n k : ℕ) → k < n → slice_get (take n xs) k ≡ slice_get xs k
slice_get-take xs zero k within = absurd (omega arith)
slice_get-take [] (suc n) k within = refl
slice_get-take (x ∷ xs) (suc n) zero within = refl
slice_get-take (x ∷ xs) (suc n) (suc k) within = slice_get-take xs n k (omega arith)

pub slice_get-drop : {X : Type 0} (xs : List X) (n k : ℕ) → slice_get (drop n xs) k ≡ slice_get xs (n + k)
slice_get-drop xs zero k = let e : k ≡ zero + k = omega arith in ap (slice_get xs) e
slice_get-drop [] (suc n) k = refl
slice_get-drop (x ∷ xs) (suc n) k = let e : suc (n + k) ≡ suc n + k = omega arith in slice_get-drop xs n k ∙ ap (slice_get (x ∷ xs)) e

pub mapped-within : {X Y : Type 0} (f : X → Y) (xs : List X) (k : ℕ) (y : Y) → option_map f (slice_get xs k) ≡ Some y → k < length xs
mapped-within f [] k y is = absurd cc
mapped-within f (x ∷ xs) zero y is = omega arith
mapped-within f (x ∷ xs) (suc k) y is = omega (arith, mapped-within f xs k y is)

-- the numbers of a list's mappings lie from the first one's on
numbered-within : (first count : ℕ) (pages : List ℕ) → length pages ≤ count → All (λ e. (first ≤ e.1) × (e.1 < first + count)) (numbered first pages)
numbered-within first count [] few = All-nil (λ e. (first ≤ e.1) × (e.1 < first + count))
numbered-within first zero (page ∷ pages) few = absurd (omega arith)
numbered-within first (suc count) (page ∷ pages) few =
    All-cons (λ e. (first ≤ e.1) × (e.1 < first + suc count)) (page, first) (numbered (first + 1) pages) (omega arith, omega arith)
    (All-weaker (λ e. (first + 1 ≤ e.1) × (e.1 < first + 1 + count)) (λ e. (first ≤ e.1) × (e.1 < first + suc count))
    (λ e within. (omega (arith, within.0), omega (arith, within.1))) (numbered (first + 1) pages)
    (numbered-within (first + 1) count pages (omega arith)))

-- the first mappings of a range have their numbers in it
pub first_mappings-within : (m : Mappings) (from to count : ℕ) → to - from ≤ count → All (λ e. (from ≤ e.1) × (e.1 < from + count)) (first_mappings m from to)
first_mappings-within m from to count few =
    All-filter (λ e. is_none (first_in m from e.1 e.0)) (λ e. (from ≤ e.1) × (e.1 < from + count)) (numbered from (pages_in m from to))
    (numbered-within from count (pages_in m from to) (omega (arith, length-take (to - from) (drop (from - m.low) m.pages))))
