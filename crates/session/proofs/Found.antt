-- A number that a binary search finds, and one that it does not.
use Rattle.std.proofs.Common.{◌≡◌, ◌<◌, ◌≤◌, ◌==◌, ◌⊎◌, ℕ, Bool, true, false, cond, List, [], ◌∷◌, length, get_or, Result, Ok, Err, refl, sym, inl, inr, arith}
use Rattle.std.specs.Prelude.{nat_lt}
use Rattle.std.specs.List.{list_any}
use Rattle.std.specs.List.Sorted.{IsBinarySearchResult, IsPartitionPoint, IsSearchInRange, IsSortedByKey}
use Rattle.std.specs.Ordering.{nat_cmp}
use Rattle.std.specs.declared.cmp.Ordering.TheVariants.{Less, Equal, Greater}
use Rattle.std.specs.Result.{is_ok}
use Rattle.std.proofs.lemmas.Bool.{cases_lt, eqb-true, ltb-true}
use Rattle.std.proofs.lemmas.Cmp.{nat_cmp_total}
use Rattle.std.proofs.lemmas.List.Folds.{list_any_at, list_any_none}
use Rattle.std.proofs.lemmas.List.Sorted.{searchable_from_sorted}

equal_is : (a n : ℕ) → nat_cmp a n ≡ Equal → (a == n) ≡ true
equal_is a n e = by_tests (nat_lt a n) (a == n) e
  where
    by_tests : (less same : Bool) → cond less Less (cond same Equal Greater) ≡ Equal → same ≡ true
    by_tests true same e = cc
    by_tests false true e = refl
    by_tests false false e = cc

less_is : (a n : ℕ) → nat_cmp a n ≡ Less → (a == n) ≡ false
less_is a n e = by_tests (nat_lt a n) (a == n) refl refl e
  where
    by_tests : (less same : Bool) → nat_lt a n ≡ less → (a == n) ≡ same → cond less Less (cond same Equal Greater) ≡ Less → same ≡ false
    by_tests true true f g e = absurd (omega (arith, ltb-true a n f, eqb-true a n g))
    by_tests true false f g e = refl
    by_tests false true f g e = cc
    by_tests false false f g e = refl

more_is : (a n : ℕ) → nat_cmp a n ≡ Greater → (a == n) ≡ false
more_is a n e = by_tests (nat_lt a n) (a == n) e
  where
    by_tests : (less same : Bool) → cond less Less (cond same Equal Greater) ≡ Greater → same ≡ false
    by_tests true same e = cc
    by_tests false true e = cc
    by_tests false false e = refl

module _ {X : Type 0} (key : X → ℕ) (n : ℕ) where
  abbrev has : List X → Bool
  has xs = list_any (λ (x : X). key x == n) xs

  found : (xs : List X) (place : ℕ) → place < length xs → ((d : X) → nat_cmp (key (get_or xs place d)) n ≡ Equal)
      → has xs ≡ true
  found [] place inside at = absurd (omega (arith, inside))
  found (x ∷ xs) place inside at =
      list_any_at (λ (y : X). key y == n) (x ∷ xs) place x inside (equal_is (key (get_or (x ∷ xs) place x)) n (at x))

  pub search_is : (xs : List X) (r : Result ℕ ℕ) → IsSearchInRange r (length xs)
      → IsBinarySearchResult (λ (y : X). nat_cmp (key y) n) xs r → IsSortedByKey key nat_cmp xs → is_ok r ≡ has xs
  search_is xs (Ok place) inside is sorted = sym (found xs place inside is)
  search_is xs (Err place) inside is sorted =
      sym (list_any_none (λ (y : X). key y == n) xs (λ k d within. by_place k d within (cases_lt k place)))
    where
      parts : IsPartitionPoint (λ (y : X). nat_cmp (key y) n ≡ Less) (λ (y : X). nat_cmp (key y) n ≡ Greater) xs place
      parts = is (searchable_from_sorted nat_cmp_total key xs n sorted)

      by_place : (k : ℕ) (d : X) → k < length xs → (k < place) ⊎ (place ≤ k) → (key (get_or xs k d) == n) ≡ false
      by_place k d within (inl before) = less_is (key (get_or xs k d)) n (parts.0 k d (omega arith) before)
      by_place k d within (inr behind) = more_is (key (get_or xs k d)) n (parts.1 k d behind within)
