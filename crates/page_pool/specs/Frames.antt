-- Pages in memory that are dirty or held.
use Rattle.std.specs.Prelude.{◌≡◌, ◌+◌, ◌<◌, ◌≤◌, ℕ, List, zero, suc, Bool, true}
use Rattle.std.specs.Prelude.{false, Option, Some, None, IsSome, if◌then◌else◌}
use Rattle.std.specs.Ordering.{nat_cmp}
use Rattle.std.specs.BTreeMap.{BTreeMap, is_at}
use Rattle.std.specs.Map.{lookup}
use Rattle.page_pool.specs.declared.frames.Frame.{Frame}

-- whether the page of a frame was changed since it was read or written
abbrev pub is_dirty_in : Option Frame → Bool
is_dirty_in None = false
is_dirty_in (Some frame) = frame.is_dirty

-- whether it stays in memory though it is clean
abbrev pub is_held_in : Option Frame → Bool
is_held_in None = false
is_held_in (Some frame) = frame.is_held

-- how many of that many pages pass
abbrev pub count_below : (ℕ → Bool) → ℕ → ℕ
count_below test zero = 0
count_below test (suc pages) = count_below test pages + (if test pages then 1 else 0)

-- the frame of a page among these
abbrev pub frame_at : List (ℕ × Frame) → ℕ → Option Frame
frame_at entries page = lookup (is_at (nat_cmp page)) entries

abbrev pub frame_in : BTreeMap ℕ Frame → ℕ → Option Frame
frame_in frames page = frame_at frames.entries page

-- the frame of one page is that now, and each other as before
pub record SetsFrame (old new : ℕ → Option Frame) (page : ℕ) (frame : Option Frame) : Type 0 where
  pub here : new page ≡ frame
  pub others : (other : ℕ) → (other ≡ page → ⊥) → new other ≡ old other

-- those frames are of pages of the store, and so many are dirty
pub record AreFrames (frame : ℕ → Option Frame) (pages count : ℕ) : Type 0 where
  pub within : (page : ℕ) → IsSome (frame page) → page < pages
  pub counted : count ≡ count_below (λ page. is_dirty_in (frame page)) pages

-- the least page with a frame from there on, and whether it is dirty
abbrev pub IsLeastFrame : (ℕ → Option Frame) → ℕ → Option (ℕ × Bool) → Type 0
IsLeastFrame frame from None = (page : ℕ) → from ≤ page → frame page ≡ None
IsLeastFrame frame from (Some found) = (from ≤ found.0) × IsSome (frame found.0)
    × (is_dirty_in (frame found.0) ≡ found.1) × ((page : ℕ) → from ≤ page → page < found.0 → frame page ≡ None)

-- the least dirty page from there on
abbrev pub IsLeastDirty : (ℕ → Bool) → ℕ → Option ℕ → Type 0
IsLeastDirty dirty from None = (page : ℕ) → from ≤ page → dirty page ≡ false
IsLeastDirty dirty from (Some found) = (from ≤ found) × (dirty found ≡ true)
    × ((page : ℕ) → from ≤ page → page < found → dirty page ≡ false)
