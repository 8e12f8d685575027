-- What holds of a desk and of a vault between their steps.
use Rattle.std.specs.Prelude.{◌≡◌, ◌⊎◌, ◌+◌, ◌%◌, ◌<◌, ◌≤◌, ◌-◌, ◌++◌, ℕ, true}
use Rattle.std.specs.Prelude.{false, IsTrue, List, length, drop, get_or, Contains}
use Rattle.std.specs.List.{AllByRecursion}
use Rattle.history.specs.declared.entry.Change.{Change}
use Rattle.history.specs.declared.writes.PageImage.{PageImage}
use Rattle.history.specs.Marks.{oldest_start}
use Rattle.history.specs.Writes.{pages_of}
use Rattle.history.specs.History.{State, History, now, captures, captures_of}
use Rattle.history.specs.Laws.{IsConsistent}
use Rattle.history.specs.Right.{IsBase, AreRight, WritesRise, MayFollow}
use Rattle.skippy.specs.Mappings.{Mappings, end_of}
use Rattle.replay.specs.Joined.{differ, are_among, mapped_since}
use Rattle.replay.specs.Laws.{AreRightContents}
use Rattle.replay.specs.Opened.{Contents, forgotten}
use Rattle.race_model.specs.Desk.{Doubt, Sure, OneMore, NewBase, Desk, behind, captured, capacity_of, is_written}
use Rattle.race_model.specs.Vault.{Maplog, Vault, Batch, batch_end}

-- the mappings of the captures from the floor on
abbrev pub all_mappings : History → ℕ → Mappings
all_mappings history floor = record { low = floor; pages = drop floor (pages_of (captures history)) }

-- the mappings behind the base are those of the captures that the changes make
abbrev pub MapsAsItCaptures : State → Mappings → List Change → Type 0
MapsAsItCaptures start mappings rest =
    drop (start.base.captures - mappings.low) mappings.pages
    ≡ drop (mappings.low - start.base.captures) (pages_of (captures_of start rest))

-- A log's changes behind its base are right, and it tells all mappings: since the base's newest snapshot they are of
-- different pages, which the base tells as captured, and from the base on they are those that the changes capture.
pub record LogFitsFrom (start : State) (mappings : Mappings) (rest : List Change) : Type 0 where
  pub base : IsBase start.base
  pub right : AreRight start.base rest
  pub rises : AllByRecursion WritesRise rest
  pub different : IsTrue (differ (mapped_since start.base mappings))
  pub listed : IsTrue (are_among (mapped_since start.base mappings) start.base.captured)
  pub same : MapsAsItCaptures start mappings rest

-- so it is of the log that lists the changes of a history behind its base
pub record LogFits (history : History) (floor : ℕ) (past rest : List Change) : Type 0 where
  pub split : past ++ rest ≡ history.changes
  pub fits : LogFitsFrom (behind history past) (all_mappings history floor) rest

-- A page was sent to its device behind some of the log's changes, which write it, and each capture that they make of it
-- is below `need`.
pub record WasSent (start : State) (rest : List Change) (need page : ℕ) : Type 0 where
  pub early : List Change
  pub late : List Change
  pub split : early ++ late ≡ rest
  pub written : is_written page early ≡ true
  pub below : (place : ℕ) → place < length (captures_of start early)
      → (get_or (captures_of start early) place forgotten).page ≡ page → start.base.captures + place < need

-- on its device a page is surely as at the base, or it was sent
abbrev pub PageFits : Desk → ℕ → Type 0
PageFits desk page =
    ((desk.loose page ≡ false) × (desk.pages page ≡ (behind desk.history desk.past).pages page))
    ⊎ WasSent (behind desk.history desk.past) desk.rest desk.need page

-- a log in doubt is one that would fit, of a desk that has stopped
abbrev pub DoubtFits : Desk → Doubt → Type 0
DoubtFits desk Sure = Unit {0}
DoubtFits desk (OneMore change) = MayFollow (now desk.history).base change × (desk.stopped ≡ true)
DoubtFits desk (NewBase version) =
    ((page : ℕ) → (desk.loose page ≡ false) × (desk.pages page ≡ (now desk.history).pages page))
    × ((now desk.history).base.captures ≤ desk.need) × (desk.stopped ≡ true)

-- what holds of a history that is kept from a floor on
pub record HistoryFits (history : History) (floor : ℕ) : Type 0 where
  pub consistent : IsConsistent history
  pub right : IsBase (now history).base
  pub floor_low : floor ≤ oldest_start (now history).base.marks

pub record DeskFits (desk : Desk) : Type 0 where
  pub history : HistoryFits desk.history desk.floor
  pub log : LogFits desk.history desk.floor desk.past desk.rest
  pub known : length desk.history.held ≤ desk.need
  pub based : (behind desk.history desk.past).base.captures ≤ desk.need
  pub pages : (page : ℕ) → PageFits desk page
  pub clean : (page : ℕ) → desk.dirty page ≡ false → desk.pages page ≡ (now desk.history).pages page
  pub soiled : (page : ℕ) → desk.dirty page ≡ true → is_written page desk.rest ≡ true
  pub needed : desk.need ≤ desk.acked
  pub pending : desk.acked ≤ (now desk.history).base.captures
  pub doubt : DoubtFits desk desk.doubt

-- mappings are those of the captures from a number on that no retained snapshot is above, and no more than there are
-- slots
pub record MappingsFit (history : History) (floor : ℕ) (mappings : Mappings) : Type 0 where
  pub above : floor ≤ mappings.low
  pub needed : mappings.low ≤ oldest_start (now history).base.marks
  pub later : List ℕ
  pub same : drop mappings.low (pages_of (captures history)) ≡ mappings.pages ++ later
  pub room : length mappings.pages ≤ capacity_of history

pub record VaultFits (history : History) (floor : ℕ) (vault : Vault) : Type 0 where
  pub mappings : MappingsFit history floor vault.mappings
  pub others : (other : Maplog) → Contains vault.others other
      → MappingsFit history floor other.mappings × (end_of vault.mappings ≤ end_of other.mappings)
      × (end_of other.mappings ≤ vault.laid) × (vault.stopped ≡ true)
  pub held : end_of vault.mappings ≤ vault.laid
  pub laid : vault.laid ≤ (now history).base.captures
  pub room : vault.laid ≤ end_of vault.mappings + capacity_of history
  pub slots : (number : ℕ) → oldest_start (now history).base.marks ≤ number → number < vault.laid →
      (vault.loose (number % capacity_of history) ≡ false)
      × (vault.slots (number % capacity_of history) ≡ (captured history number).bytes)

-- a batch is a part of the captures, of pages of the store
pub record BatchFits (history : History) (batch : Batch) : Type 0 where
  pub low : batch.low ≤ oldest_start (now history).base.marks
  pub above : batch.low ≤ batch.first
  pub later : List PageImage
  pub same : drop batch.first (captures history) ≡ batch.images ++ later
  pub within : batch_end batch ≤ (now history).base.captures
  pub room : batch_end batch ≤ batch.low + capacity_of history
  pub pages : AllByRecursion (λ page. page < (now history).base.page_count) (pages_of batch.images)

-- what opens to a store: a right log, whose commits write in rising page, and mappings that belong to it
pub record AreOfStore (contents : Contents) : Type 0 where
  pub right : AreRightContents contents
  pub rises : AllByRecursion WritesRise contents.log.changes
