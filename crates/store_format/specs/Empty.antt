-- The store that was just made.
use Rattle.std.specs.Prelude.{◌≡◌, ◌≤◌, ℕ, List, [], replicate}
use Rattle.disk_model.specs.Disk.{IsDurable, State}
use Rattle.disk_model.specs.Runs.{SameDevice}
use Rattle.disk_model.specs.declared.four.Four.{Four}
use Rattle.disk_model.specs.declared.four.Sizes.{Sizes}
use Rattle.retro_base.specs.declared.limits.TheConstants.{MAX_CAPACITY, MAX_PAGES, MIN_CAPACITY, MIN_PAGES, PAGE_BYTES}
use Rattle.history.specs.declared.entry.Base.{Base}
use Rattle.history.specs.declared.log.Version.{Version}
use Rattle.map_log.specs.Log.{ListsMappings, none_yet}
use Rattle.opening.specs.Opening.{DevicesOpen, Hold}
use Rattle.redo_log.specs.Redo.{base_alone, ListsLog}
use Rattle.replay.specs.Opened.{Contents, contents_of}
use Rattle.replay.specs.declared.opened.Opened.{Opened}

-- sizes in their ranges
pub record AreInRange (sizes : Sizes) : Type 0 where
  pub pages : (MIN_PAGES ≤ sizes.pages) × (sizes.pages ≤ MAX_PAGES)
  pub capacity : (MIN_CAPACITY ≤ sizes.capacity) × (sizes.capacity ≤ MAX_CAPACITY)

-- what its log says: no change was made, no snapshot is retained, no page is captured
abbrev pub empty_base : Sizes → Base
empty_base sizes = record {
  page_count = sizes.pages;
  capacity = sizes.capacity;
  changes = 0;
  captures = 0;
  marks = [];
  captured = [];
}

-- so many pages of zeros
abbrev pub zero_pages : ℕ → List (List ℕ)
zero_pages count = replicate count (replicate PAGE_BYTES 0)

-- its log lists a base alone, its Maplog no mapping, and its pages and slots are zero
abbrev pub empty_contents : Version → Sizes → Contents
empty_contents version sizes =
    contents_of (base_alone version (empty_base sizes)) (zero_pages sizes.pages) none_yet (zero_pages sizes.capacity)

-- the store that is read of it
abbrev pub empty_store : Sizes → Opened
empty_store sizes = record {
  base = empty_base sizes;
  pages = zero_pages sizes.pages;
  low = 0;
  held = 0;
  captures = [];
}

-- the bytes of four devices hold it, and open to it
pub record IsEmptyStore (version : Version) (sizes : Sizes) (devices : Four (List ℕ)) : Type 0 where
  pub hold : Hold version devices (empty_contents version sizes)
  pub opens : DevicesOpen version devices (empty_store sizes)

-- the four have the sizes that they had, and are as honest
pub record AreSame {D : Type 0} (extent : D → ℕ) (is_honest : D → Type 0) (old new : Four D) : Type 0 where
  pub log : SameDevice extent is_honest old.log new.log
  pub pages : SameDevice extent is_honest old.pages new.pages
  pub pagelog : SameDevice extent is_honest old.pagelog new.pagelog
  pub maplog : SameDevice extent is_honest old.maplog new.maplog

-- a device of zeros, none of them loose
pub record IsSettledZero (size : ℕ) (state : State) : Type 0 where
  pub zeros : state.seen ≡ replicate size 0
  pub durable : IsDurable state

-- both logs are listed, pages and slots are zero, and nothing is loose
pub record AreFilled {D : Type 0} (extent : D → ℕ) (state : D → State) (version : Version) (sizes : Sizes)
    (disks : Four D) : Type 0 where
  pub log : ListsLog (base_alone version (empty_base sizes)) (state disks.log).seen
  pub log_durable : IsDurable (state disks.log)
  pub pages : IsSettledZero (extent disks.pages) (state disks.pages)
  pub pagelog : IsSettledZero (extent disks.pagelog) (state disks.pagelog)
  pub maplog : ListsMappings version sizes.pages sizes.capacity none_yet (state disks.maplog).seen
  pub maplog_durable : IsDurable (state disks.maplog)
