-- What the calls of a running desk do.
use Rattle.std.specs.Prelude.{◌≡◌, ◌<◌, ℕ, true, false, min, List, [], Option, None, take}
use Rattle.std.specs.List.{AllByRecursion}
use Rattle.disk_model.specs.Disk.{State}
use Rattle.retro_base.specs.declared.limits.TheConstants.{BATCH}
use Rattle.history.specs.declared.entry.Base.{Base}
use Rattle.history.specs.declared.entry.Change.{Change}
use Rattle.history.specs.declared.entry.Change.TheVariants.{Commit, Drop}
use Rattle.history.specs.declared.writes.PageImage.{PageImage}
use Rattle.history.specs.History.{base_after, now}
use Rattle.history.specs.Marks.{oldest_start}
use Rattle.history.specs.Right.{IsRight, MayFollow}
use Rattle.history.specs.Writes.{pages_of, is_among}
use Rattle.records.specs.declared.entry.Entry.{Entry}
use Rattle.records.specs.declared.entry.Entry.TheVariants as entries
use Rattle.copy_queue.specs.Pending.{Pending}
use Rattle.page_pool.specs.Side.{Pool, held}
use Rattle.race_model.specs.Desk.{Desk, writes_of}
use Rattle.race_model.specs.Fits.{DeskFits}
use Rattle.race_model.specs.Vault.{Batch}
use Rattle.desk.specs.declared.desk.RunningDesk.{RunningDesk}
use Rattle.desk.specs.Desk.{IsDesk, pending_of}

-- a change that is right behind what the log says
abbrev pub IsRightChange : Base → Entry → Type 0
IsRightChange base (entries.Base other) = ⊥
IsRightChange base (entries.Change change) = IsRight base change

-- what the log says behind an entry
abbrev pub base_behind : Base → Entry → Base
base_behind base (entries.Base other) = other
base_behind base (entries.Change change) = base_after base change

-- what an entry writes
abbrev pub writes_in : Entry → List PageImage
writes_in (entries.Base base) = []
writes_in (entries.Change change) = writes_of change

-- the label that a change declares
abbrev pub label_in : Change → Option (List ℕ)
label_in (Commit label writes) = label
label_in (Drop below) = None

-- the page of each of these writes is held
abbrev pub AreHeld : {D : Type 0} → Pool D → List PageImage → Type 0
AreHeld pool writes = AllByRecursion (λ write. held pool write.page ≡ true) writes

-- only what memory has of the pages, and their device, may have changed
abbrev pub SameButPages : {D : Type 0} → RunningDesk D → RunningDesk D → Type 0
SameButPages old new = new ≡ record old { pool = new.pool }

-- the entry is a change that may follow on a desk that goes on
pub record IsChangeOf {D : Type 0} (is_honest : D → Type 0) (state : D → State) (running : RunningDesk D)
    (entry : Entry) (desk : Desk) (change : Change) : Type 0 where
  pub is : IsDesk is_honest state running desk
  pub fits : DeskFits desk
  pub goes : desk.stopped ≡ false
  pub spells : entry ≡ entries.Change change
  pub follows : MayFollow (now desk.history).base change

-- the least dirty page that no capture is of that is not yet acknowledged
pub record IsLeastWritable (desk : Desk) (page : ℕ) : Type 0 where
  pub soiled : desk.dirty page ≡ true
  pub copied : is_among page (pages_of (pending_of desk)) ≡ false
  pub least : (other : ℕ) → other < page → desk.dirty other ≡ true → is_among other (pages_of (pending_of desk)) ≡ true

-- every dirty page waits for one of its captures to be acknowledged
abbrev pub NoneWritable : Desk → Type 0
NoneWritable desk = (page : ℕ) → desk.dirty page ≡ true → is_among page (pages_of (pending_of desk)) ≡ true

-- the first 64 of the pending captures; what is below the oldest start, and acknowledged, may be forgotten
abbrev pub next_of : Base → Pending → Batch
next_of base queue = record {
  first = queue.first;
  low = min (oldest_start base.marks) queue.first;
  images = take BATCH queue.images;
}
