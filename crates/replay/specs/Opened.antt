-- What the contents of the four devices stand for: a history.
use Rattle.std.specs.Prelude.{◌≡◌, ◌+◌, ◌%◌, ◌++◌, ℕ, List, [], ◌∷◌, drop, replicate}
use Rattle.history.specs.declared.writes.PageImage.{PageImage}
use Rattle.history.specs.History.{History, now, captures}
use Rattle.history.specs.Replayed.{page_in}
use Rattle.skippy.specs.Mappings.{Mappings, end_of}
use Rattle.history.specs.declared.log.Log.{Log}
use Rattle.replay.specs.declared.opened.Opened.{Opened}

-- what the log lists, the pages as their device has them, the mappings that the Maplog keeps, and the slots of the page
-- images
pub record Contents : Type 0 where
  pub log : Log
  pub pages : ℕ → List ℕ
  pub mappings : Mappings
  pub slots : ℕ → List ℕ

-- the captures with these pages, numbered from this number on; each has the bytes in its slot, which is its number
-- modulo the capacity
abbrev pub slot_images : (ℕ → List ℕ) → ℕ → ℕ → List ℕ → List PageImage
slot_images slots capacity number [] = []
slot_images slots capacity number (page ∷ pages) =
    record { page = page; bytes = slots (number % capacity) } ∷ slot_images slots capacity (number + 1) pages

-- a capture that the archive no longer holds; no page as of a retained snapshot is looked for there
abbrev pub forgotten : PageImage
forgotten = record { page = 0; bytes = [] }

-- The log's changes, over the pages as their device has them. The archive has the captures that the mappings tell, the
-- changes those behind.
abbrev pub opened : Contents → History
opened contents = record {
  origin = record { base = contents.log.base; pages = contents.pages };
  held = replicate contents.mappings.low forgotten
      ++ slot_images contents.slots contents.log.base.capacity contents.mappings.low contents.mappings.pages;
  changes = contents.log.changes;
}

-- the contents, with the pages and the slots as lists of pages
abbrev pub contents_of : Log → List (List ℕ) → Mappings → List (List ℕ) → Contents
contents_of log pages mappings slots =
    record { log = log; pages = page_in pages; mappings = mappings; slots = page_in slots }

-- The contents open to this store: what the log says and the pages behind its last record, and the captures from the
-- lowest mapping on.
pub record Opens (contents : Contents) (store : Opened) : Type 0 where
  pub base : store.base ≡ (now (opened contents)).base
  pub pages : (page : ℕ) → page_in store.pages page ≡ (now (opened contents)).pages page
  pub low : store.low ≡ contents.mappings.low
  pub held : store.held ≡ end_of contents.mappings
  pub captures : store.captures ≡ drop contents.mappings.low (captures (opened contents))
