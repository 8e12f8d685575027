-- Clean pages in memory that may go at any time.
use Rattle.std.specs.Prelude.{◌≡◌, ◌⊎◌, ℕ, List, Option, IsSome, Contains}
use Rattle.page_pool.specs.declared.frames.Frame.{Frame}

-- each page that is kept has these bytes
abbrev pub HoldsClean : List (ℕ × List ℕ) → (ℕ → List ℕ) → Type 0
HoldsClean entries pages = (entry : ℕ × List ℕ) → Contains entries entry → entry.1 ≡ pages entry.0

-- no page has a frame and is kept besides
abbrev pub AreApart : (ℕ → Option Frame) → List (ℕ × List ℕ) → Type 0
AreApart frame entries = (entry : ℕ × List ℕ) → Contains entries entry → IsSome (frame entry.0) → ⊥

-- what is kept was kept, or is that one
abbrev pub KeepsBeside : List (ℕ × List ℕ) → ℕ × List ℕ → List (ℕ × List ℕ) → Type 0
KeepsBeside old one new = (entry : ℕ × List ℕ) → Contains new entry → Contains old entry ⊎ (entry ≡ one)

-- what is kept was kept
abbrev pub KeepsNoMore : List (ℕ × List ℕ) → List (ℕ × List ℕ) → Type 0
KeepsNoMore old new = (entry : ℕ × List ℕ) → Contains new entry → Contains old entry
