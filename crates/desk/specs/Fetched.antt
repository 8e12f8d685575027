-- What the desk's devices open to, beside the mappings of a Maplog.
use Rattle.std.specs.Prelude.{◌≡◌, ◌*◌, ◌-◌, ℕ, false, List, drop}
use Rattle.disk_model.specs.Disk.{State}
use Rattle.retro_base.specs.Cause.{IsFault}
use Rattle.retro_base.specs.declared.device.Device.TheVariants as kinds
use Rattle.retro_base.specs.declared.limits.TheConstants.{LOG_REGION_BYTES, PAGE_BYTES}
use Rattle.retro_base.specs.declared.refusal.Refusal.{Refusal}
use Rattle.retro_base.specs.declared.refusal.Refusal.TheVariants.{NotAStore, OutOfMemory}
use Rattle.area_log.specs.Listed.{DeviceStandsFor, IsRefused, WrongSize}
use Rattle.gate_log.specs.Cause.{IsReadRefusal}
use Rattle.block_file.specs.Blocks.{block_at}
use Rattle.copy_queue.specs.Pending.{Pending}
use Rattle.history.specs.declared.entry.Base.{Base}
use Rattle.history.specs.declared.entry.Change.{Change}
use Rattle.history.specs.declared.log.Log.{Log}
use Rattle.history.specs.declared.log.Version.{Version}
use Rattle.history.specs.History.{State as Place, captures_of, now, run}
use Rattle.history.specs.Writes.{pages_of}
use Rattle.page_pool.specs.Side.{IsPageSide, Pool, held}
use Rattle.race_model.specs.Desk.{is_written}
use Rattle.race_model.specs.Fits.{DeskFits}
use Rattle.race_model.specs.Reopened.{opened_desk}
use Rattle.records.specs.Log.{IsLog}
use Rattle.replay.specs.Joined.{AreJoined}
use Rattle.replay.specs.Opened.{Contents, opened}
use Rattle.skippy.specs.Mappings.{Mappings, end_of}
use Rattle.desk.specs.declared.desk.RunningDesk.{RunningDesk}
use Rattle.desk.specs.declared.fetch.Redone.{Redone}
use Rattle.desk.specs.declared.fetch.Unopened.{Unopened}
use Rattle.desk.specs.Desk.{IsDesk, pending_of}

-- a log over the pages of a device's bytes, with the mappings of an archive and its slots
abbrev pub contents_of : Log → List ℕ → Mappings → (ℕ → List ℕ) → Contents
contents_of log bytes mappings slots = record { log = log; pages = block_at bytes; mappings = mappings; slots = slots }

-- Changes were done over pages as their device has them: memory has what the log says behind them and the pages that
-- they write, which are dirty, the pages of what they capture, and of the captures those from a number on.
pub record IsRedone {D : Type 0} (is_honest : D → Type 0) (state : D → State) (redone : Redone) (pool : Pool D)
    (origin : Place) (number : ℕ) (changes : List Change) : Type 0 where
  pub base : redone.base ≡ (run origin changes).base
  pub side : IsPageSide is_honest state pool (run origin changes).pages origin.pages (λ page. false)
      (λ page. is_written page changes)
  pub captured : redone.captured.items ≡ pages_of (captures_of origin changes)
  pub pending : pages_of redone.pending.items
      ≡ pages_of (drop (number - origin.base.captures) (captures_of origin changes))
  pub bytes : is_honest pool.file.disk
      → redone.pending.items ≡ drop (number - origin.base.captures) (captures_of origin changes)

-- bodies stand for the log
pub record IsReadable (log : Log) : Type 0 where
  pub bodies : List (List ℕ)
  pub stands : IsLog log.version bodies log

-- the pages are as some bytes of their device have them, settled, and none is dirty
pub record ReadsBytes {D : Type 0} (is_honest : D → Type 0) (state : D → State) (pool : Pool D) : Type 0 where
  pub bytes : List ℕ
  pub side : IsPageSide is_honest state pool (block_at bytes) (block_at bytes) (λ page. false) (λ page. false)

-- the contents belong together, and memory is that of the desk that they open to, with no page held
pub record IsMemoryOf {D : Type 0} (is_honest : D → Type 0) (state : D → State) (contents : Contents) (pool : Pool D)
    (place : Base) (queue : Pending) : Type 0 where
  pub joined : AreJoined contents
  pub side : IsPageSide is_honest state pool (now (opened contents)).pages contents.pages (λ page. false)
      (λ page. is_written page contents.log.changes)
  pub whole : pool.file.blocks ≡ (now (opened contents)).base.page_count
  pub base : place ≡ (now (opened contents)).base
  pub first : queue.first ≡ end_of contents.mappings
  pub pending : pages_of queue.images ≡ pages_of (pending_of (opened_desk contents))
  pub bytes : is_honest pool.file.disk → queue.images ≡ pending_of (opened_desk contents)
  pub free : (page : ℕ) → held pool page ≡ false

-- The log's device lists a log, to which the mappings belong, and the running desk is the one that the devices open to
-- beside them, whatever the slots have.
pub record FetchesDesk {D : Type 0} (is_honest : D → Type 0) (state : D → State) (version : Version) (log pages : D)
    (mappings : Mappings) (running : RunningDesk D) : Type 0 where
  pub list : Log
  pub lists : is_honest log → DeviceStandsFor LOG_REGION_BYTES (IsLog version) (state log).seen list
  pub joined : (slots : ℕ → List ℕ) → AreJoined (contents_of list (state pages).seen mappings slots)
  pub is : (slots : ℕ → List ℕ)
      → IsDesk is_honest state running (opened_desk (contents_of list (state pages).seen mappings slots))
  pub fits : (slots : ℕ → List ℕ) → DeskFits (opened_desk (contents_of list (state pages).seen mappings slots))
  pub free : (page : ℕ) → held running.pool page ≡ false

-- refused pages of so many: memory ran out, they have another size, or a call of their device failed
abbrev pub IsSizeRefusal : ℕ → ℕ → ℕ → ℕ → Refusal → Type 0
IsSizeRefusal count extent before now OutOfMemory = now ≡ before
IsSizeRefusal count extent before now (NotAStore kinds.Pages place) =
    WrongSize (PAGE_BYTES * count) extent place × (now ≡ before)
IsSizeRefusal count extent before now e = IsFault kinds.Pages before now e

-- refused pages beside a log: so, or the mappings of the Maplog whose closed gate stands there do not belong to the log
abbrev pub IsPagesRefusal : Log → ℕ → List ℕ → Mappings → ℕ → ℕ → ℕ → Refusal → Type 0
IsPagesRefusal list extent bytes mappings end before now OutOfMemory = now ≡ before
IsPagesRefusal list extent bytes mappings end before now (NotAStore kinds.Pages place) =
    WrongSize (PAGE_BYTES * list.base.page_count) extent place × (now ≡ before)
IsPagesRefusal list extent bytes mappings end before now (NotAStore kinds.Maplog place) =
    (place ≡ end) × ((slots : ℕ → List ℕ) → AreJoined (contents_of list bytes mappings slots) → ⊥) × (now ≡ before)
IsPagesRefusal list extent bytes mappings end before now e = IsFault kinds.Pages before now e

-- the log was refused, and the pages were left alone
abbrev pub IsLogUnread : {D : Type 0} → (D → Type 0) → (D → ℕ) → (D → ℕ) → (D → State) → Version → D → D → Unopened D
    → Type 0
IsLogUnread is_honest extent faults state version log pages e =
    IsReadRefusal (IsRefused LOG_REGION_BYTES (IsLog version) (is_honest log) (extent log) (state log).seen) kinds.Log
    (faults log) (faults e.log) e.why
    × (e.pages ≡ pages)

-- the log was read, and the pages were refused beside it
pub record ArePagesUnread {D : Type 0} (is_honest : D → Type 0) (extent faults : D → ℕ) (state : D → State)
    (version : Version) (log pages : D) (mappings : Mappings) (end : ℕ) (e : Unopened D) : Type 0 where
  pub steady : faults e.log ≡ faults log
  pub list : Log
  pub lists : is_honest log → DeviceStandsFor LOG_REGION_BYTES (IsLog version) (state log).seen list
  pub refused : IsPagesRefusal list (extent pages) (state pages).seen mappings end (faults pages) (faults e.pages) e.why
