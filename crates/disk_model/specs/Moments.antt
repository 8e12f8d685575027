-- What a crash may have left at some moment of a run of calls.
use Rattle.std.specs.Prelude.{◌⊎◌, ℕ, ◌≤◌, List}

-- the present moment, as a number that does not fall, and what a crash at some moment from a given one on might have
-- left
pub record Clock : Type 1 where
  pub moment : ℕ
  pub left_since : ℕ → List ℕ → Type 0

-- Time goes on over a call after which a crash may leave an image: a crash since t left what it might have left
-- before, or an image. Where the device remembers, what a crash might have left before is still counted.
pub record Elapses (remembers : Type 0) (before now : Clock) (IsImage : List ℕ → Type 0) : Type 0 where
  pub later : before.moment ≤ now.moment
  pub nothing_else : (t : ℕ) (image : List ℕ) → t ≤ before.moment → now.left_since t image
      → before.left_since t image ⊎ IsImage image
  pub kept : remembers → (t : ℕ) (image : List ℕ) → t ≤ before.moment → before.left_since t image
      → now.left_since t image

-- A crash at any moment from old to new leaves an image that has P. Where the device remembers, what a crash might have
-- left before is still counted.
pub record LeavesOnly (remembers : Type 0) (old new : Clock) (P : List ℕ → Type 0) : Type 0 where
  pub later : old.moment ≤ new.moment
  pub each : (image : List ℕ) → new.left_since old.moment image → P image
  -- for a run that began earlier
  pub before : (t : ℕ) (image : List ℕ) → t ≤ old.moment → new.left_since t image → old.left_since t image ⊎ P image
  pub kept : remembers → (t : ℕ) (image : List ℕ) → t ≤ old.moment → old.left_since t image → new.left_since t image
