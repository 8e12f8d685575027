-- Captures on their way to the archive, and where those of a page stand.
use Rattle.std.specs.Prelude.{◌≡◌, ◌+◌, ◌≤◌, ◌<◌, ◌==◌, ◌&&◌, ◌||◌, ℕ, Bool, true}
use Rattle.std.specs.Prelude.{false, Option, Some, None, List, [], ◌∷◌, length}
use Rattle.std.specs.declared.cmp.Ordering.{Ordering}
use Rattle.std.specs.Ordering.{nat_cmp, ordering_then}
use Rattle.std.specs.BTreeSet.{BTreeSet, contains}
use Rattle.retro_base.specs.declared.limits.TheConstants.{MAX_CAPTURES}
use Rattle.history.specs.declared.writes.PageImage.{PageImage}
use Rattle.history.specs.Writes.{pages_of}

-- captures with consecutive numbers
pub record Pending : Type 0 where
  pub first : ℕ
  pub images : List PageImage

-- by page, and then by number
abbrev pub in_turn : ℕ × ℕ → ℕ × ℕ → Ordering
in_turn this other = ordering_then (nat_cmp this.0 other.0) (nat_cmp this.1 other.1)

-- whether the one with this number is of the page, where they are numbered from `first`
abbrev pub is_at : ℕ → List ℕ → ℕ → ℕ → Bool
is_at first [] page number = false
is_at first (other ∷ pages) page number = (first == number && other == page) || is_at (first + 1) pages page number

-- the set has the page and the number of each capture, and no others
pub record IsIndex (first : ℕ) (images : List PageImage) (places : BTreeSet (ℕ × ℕ)) : Type 0 where
  pub has : (page number : ℕ) → contains in_turn places (page, number) ≡ is_at first (pages_of images) page number
  pub fits : first + length images ≤ MAX_CAPTURES

-- the set has no number of the page from there on up to that one
abbrev pub HasNone : BTreeSet (ℕ × ℕ) → ℕ → ℕ → ℕ → Type 0
HasNone places page from to = (number : ℕ) → from ≤ number → number < to →
    contains in_turn places (page, number) ≡ false

-- the least number of the page that the set has from there on
abbrev pub IsFirstPast : BTreeSet (ℕ × ℕ) → ℕ → ℕ → Option ℕ → Type 0
IsFirstPast places page from None = (to : ℕ) → HasNone places page from to
IsFirstPast places page from (Some number) = (from ≤ number) × (contains in_turn places (page, number) ≡ true)
    × HasNone places page from number
