-- What a store was opened with, as sessions see it.
use Rattle.std.specs.Prelude.{◌-◌, ◌%◌, ◌==◌, ℕ, List, [], ◌∷◌, drop, map, Option, Some, None, if◌then◌else◌}
use Rattle.disk_model.specs.Disk.{State}
use Rattle.block_file.specs.Blocks.{block_at}
use Rattle.history.specs.declared.entry.Mark.{Mark as MarkOf}
use Rattle.history.specs.declared.writes.PageImage.{PageImage}
use Rattle.journal_law.specs.Lawful.{Ground}
use Rattle.journal_law.specs.Pages.{Pages}
use Rattle.journal_law.specs.World.{World}
use Rattle.page_pool.specs.declared.frames.Frame.{Frame}
use Rattle.page_pool.specs.Frames.{frame_at}
use Rattle.skippy.specs.Mappings.{first_in}
use Rattle.archive.specs.Archive.{Running}
use Rattle.store_core.specs.declared.desk_core.Core.{Core}
use Rattle.store.specs.declared.start.Start.{Start}
use Rattle.store.specs.Start.{opened_base, opened_counts}

-- the bytes of a frame, or these
abbrev pub framed : List ℕ → Option Frame → List ℕ
framed bytes None = bytes
framed bytes (Some frame) = frame.bytes

-- the bytes of the first of these images that is of the page, or these
abbrev pub first_image : ℕ → List ℕ → List PageImage → List ℕ
first_image page bytes [] = bytes
first_image page bytes (image ∷ images) = if image.page == page then image.bytes else first_image page bytes images

module _ {D : Type 0} (state : D → State) where
  -- the pages of a core: those in memory, and the others of its device
  abbrev pub pages_of_core : Core D → Pages
  pages_of_core core page =
      framed (block_at (state core.desk.pool.file.disk).seen page) (frame_at core.desk.pool.frames page)

  -- a slot of an archive, or these bytes
  abbrev pub slot_or : Running D → List ℕ → Option ℕ → List ℕ
  slot_or archive bytes None = bytes
  slot_or archive bytes (Some number) = block_at (state archive.pagelog.disk).seen (number % archive.pagelog.blocks)

  -- the pages as of a snapshot that starts there: of the first capture in the archive, or else of the first that is
  -- pending, or else the page as it is
  abbrev pub past_of : Core D → Running D → ℕ → Pages
  past_of core archive start page =
      slot_or archive
      (first_image page (pages_of_core core page) (drop (start - core.desk.queue.first) core.desk.queue.images))
      (first_in archive.side.levels start core.desk.queue.first page)

  -- the pages now and at each retained snapshot
  abbrev pub world_of : Core D → Running D → World Pages
  world_of core archive = record {
    current = pages_of_core core;
    marks =
        map
        (λ (mark : MarkOf). record {
          number = mark.number;
          label = mark.label;
          held = past_of core archive mark.start;
        })
        core.desk.base.marks;
  }

  abbrev pub ground_of : (D → ℕ) → Start D → Ground
  ground_of faults start = record {
    base = opened_base start;
    pages = world_of start.core.value start.archive.value;
    faults = opened_counts faults start;
  }

-- that of no store
abbrev pub no_ground : Ground
no_ground = record {
  base = record { page_count = 0; capacity = 0; changes = 0; captures = 0; marks = []; captured = [] };
  pages = record { current = λ page. []; marks = [] };
  faults = λ device. 0;
}
