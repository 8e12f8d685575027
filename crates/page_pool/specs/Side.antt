-- The pages' device with the pages in memory, and when they are those of plain data.
use Rattle.std.specs.Prelude.{◌≡◌, ◌==◌, ◌||◌, ◌*◌, ◌<◌, ◌^◌, length, ℕ, Bool, true, false}
use Rattle.std.specs.Prelude.{List, Option, Contains, IfSome, IsSome, if◌then◌else◌}
use Rattle.disk_model.specs.Disk.{State}
use Rattle.block_file.specs.Blocks.{block_at, File, IsSettled}
use Rattle.history.specs.declared.writes.PageImage.{PageImage}
use Rattle.history.specs.Writes.{pages_of, is_among}
use Rattle.page_pool.specs.declared.frames.Frame.{Frame}
use Rattle.lru.specs.LruCache.{LruCache}
use Rattle.retro_base.specs.declared.limits.TheConstants.{CLEAN_FRAMES, PAGE_BYTES}
use Rattle.page_pool.specs.Clean.{AreApart, HoldsClean}
use Rattle.page_pool.specs.Frames.{AreFrames, frame_at, is_dirty_in, is_held_in}

-- the device, the frames of pages, the clean pages that may go, and whether a page was written since the device was
-- settled
pub record Pool (D : Type 0) : Type 0 where
  pub file : File D
  pub frames : List (ℕ × Frame)
  pub clean : List (ℕ × List ℕ)
  pub is_unsettled : Bool

-- The frames are of the store's pages, and so many are dirty. The clean pages have no frame, and are as many as may be
-- kept.
pub record IsPool (frame : ℕ → Option Frame) (clean : LruCache ℕ (List ℕ)) (pages count : ℕ) : Type 0 where
  pub frames : AreFrames frame pages count
  pub apart : AreApart frame clean.entries
  pub room : clean.cap ≡ CLEAN_FRAMES
  pub few : pages < 2 ^ 32

-- whether the page differs from the device
abbrev pub soiled : {D : Type 0} → Pool D → ℕ → Bool
soiled pool page = is_dirty_in (frame_at pool.frames page)

-- whether the page stays in memory until it is released
abbrev pub held : {D : Type 0} → Pool D → ℕ → Bool
held pool page = is_held_in (frame_at pool.frames page)

-- the same pages are held
abbrev pub HoldsSame : {D : Type 0} → Pool D → Pool D → Type 0
HoldsSame old new = (page : ℕ) → held new page ≡ held old page

-- the page is held or not, as told, and each other as before
abbrev pub HoldsBut : {D : Type 0} → ℕ → Bool → Pool D → Pool D → Type 0
HoldsBut page is_held old new =
    (held new page ≡ is_held) × ((other : ℕ) → (other ≡ page → ⊥) → held new other ≡ held old other)

-- no call of the device where the page is in memory, in a frame or among the clean ones
pub record IsNear {D : Type 0} (old new : Pool D) (page : ℕ) : Type 0 where
  pub framed : IsSome (frame_at old.frames page) → new.file ≡ old.file
  pub cached : (bytes : List ℕ) → Contains old.clean (page, bytes) → new.file ≡ old.file

-- the function with that value at the page
abbrev pub with_page : {X : Type 0} → (ℕ → X) → ℕ → X → ℕ → X
with_page pages page x other = if other == page then x else pages other

-- dirty behind these writes
abbrev pub dirty_behind : (ℕ → Bool) → List PageImage → ℕ → Bool
dirty_behind dirty writes page = dirty page || is_among page (pages_of writes)

-- A device of so many blocks reads as these pages, and those that are not loose are settled; what is read of it is as
-- long as the blocks.
pub record ReadsAs (state : State) (blocks : ℕ) (device : ℕ → List ℕ) (loose : ℕ → Bool) : Type 0 where
  pub reads : (page : ℕ) → block_at state.seen page ≡ device page
  pub sure : (page : ℕ) → loose page ≡ false → IsSettled state page
  pub whole : length state.seen ≡ PAGE_BYTES * blocks

-- these bytes of a device have each page that is not loose
abbrev pub HoldsSure : (ℕ → List ℕ) → (ℕ → Bool) → List ℕ → Type 0
HoldsSure device loose bytes = (page : ℕ) → loose page ≡ false → block_at bytes page ≡ device page

-- what is in memory is of these pages
pub record ShowsPages {D : Type 0} (pool : Pool D) (now : ℕ → List ℕ) : Type 0 where
  pub frames : (page : ℕ) → IfSome (frame_at pool.frames page) (λ frame. frame.bytes ≡ now page)
  pub clean : HoldsClean pool.clean now

-- The store's pages are `now`, the device has `device`, of which those written since it was settled are loose, and
-- those that differ are dirty. The marks stand for every device, the bytes for an honest one.
pub record IsPageSide {D : Type 0} (is_honest : D → Type 0) (state : D → State) (pool : Pool D)
    (now device : ℕ → List ℕ) (loose dirty : ℕ → Bool) : Type 0 where
  pub marks : (page : ℕ) → soiled pool page ≡ dirty page
  pub settled : pool.is_unsettled ≡ false → (page : ℕ) → loose page ≡ false
  pub unsettled : pool.is_unsettled ≡ true → (page : ℕ) × (loose page ≡ true)
  pub shows : is_honest pool.file.disk → ShowsPages pool now
  pub reads : is_honest pool.file.disk → ReadsAs (state pool.file.disk) pool.file.blocks device loose
  pub same : is_honest pool.file.disk → (page : ℕ) → dirty page ≡ false → device page ≡ now page
