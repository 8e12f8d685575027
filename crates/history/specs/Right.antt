-- Which records are right at their place.
use Rattle.std.specs.Prelude.{◌≡◌, ◌≤◌, ◌<◌, ◌-◌, ◌^◌, ℕ, IsTrue, List, [], ◌∷◌, length, Option, None}
use Rattle.std.specs.List.{AllByRecursion}
use Rattle.retro_base.specs.declared.limits.TheConstants.{MIN_PAGES, MAX_PAGES, MIN_CAPACITY, MAX_CAPACITY}
use Rattle.retro_base.specs.declared.limits.TheConstants.{MAX_CAPTURES, RETAINED_SNAPSHOTS}
use Rattle.history.specs.declared.entry.Base.{Base}
use Rattle.history.specs.declared.entry.Mark.{Mark}
use Rattle.history.specs.declared.entry.Change.{Change}
use Rattle.history.specs.declared.entry.Change.TheVariants.{Commit, Drop}
use Rattle.history.specs.declared.writes.PageImage.{PageImage}
use Rattle.history.specs.Marks.{oldest, newest, oldest_start, newest_start, AreMarks}
use Rattle.history.specs.Writes.{pages_of, rises}
use Rattle.history.specs.History.{base_after}

-- the limits that hold at each place of a log, of these captures and marks
pub record IsWithinLimits (capacity captures : ℕ) (marks : List Mark) : Type 0 where
  pub total : captures ≤ MAX_CAPTURES
  pub room : captures - oldest_start marks ≤ capacity
  pub retained : length marks ≤ RETAINED_SNAPSHOTS
  pub newest : newest marks < 2 ^ 32

-- A right base: sizes in their ranges, within the limits, snapshots in order, with no capture before the first, and as
-- many captured pages as captures since the newest.
pub record IsBase (base : Base) : Type 0 where
  pub pages : (MIN_PAGES ≤ base.page_count) × (base.page_count ≤ MAX_PAGES)
  pub capacity : (MIN_CAPACITY ≤ base.capacity) × (base.capacity ≤ MAX_CAPACITY)
  pub limits : IsWithinLimits base.capacity base.captures base.marks
  pub marks : AreMarks base.captures base.marks
  pub undeclared : base.marks ≡ [] → base.captures ≡ 0
  pub rising : IsTrue (rises 0 base.captured)
  pub in_store : AllByRecursion (λ page. page < base.page_count) base.captured
  pub captured : length base.captured ≡ base.captures - newest_start base.marks

-- a commit writes or declares
abbrev pub DoesSomething : Option (List ℕ) → List PageImage → Type 0
DoesSomething None [] = ⊥
DoesSomething label writes = Unit {0}

-- A right change behind what the log says: a commit that writes pages of the store, or declares, and keeps the limits;
-- a drop of some snapshots, but not of the newest.
abbrev pub IsRight : Base → Change → Type 0
IsRight base (Commit label writes) =
    let after : Base = base_after base (Commit label writes) in
    AllByRecursion (λ write. write.page < base.page_count) writes × DoesSomething label writes
    × IsWithinLimits after.capacity after.captures after.marks
IsRight base (Drop below) = (oldest base.marks < below) × (below ≤ newest base.marks)

-- each change is right behind those before it
abbrev pub AreRight : Base → List Change → Type 0
AreRight base [] = Unit {0}
AreRight base (change ∷ changes) = IsRight base change × AreRight (base_after base change) changes

-- the writes of a commit rise, as the type of writes keeps them
abbrev pub WritesRise : Change → Type 0
WritesRise (Commit label writes) = IsTrue (rises 0 (pages_of writes))
WritesRise (Drop below) = Unit {0}

-- a change that may follow what the log says
pub record MayFollow (base : Base) (change : Change) : Type 0 where
  pub right : IsRight base change
  pub rises : WritesRise change

-- each change may follow what the log says behind those before it
abbrev pub AllMayFollow : Base → List Change → Type 0
AllMayFollow base [] = Unit {0}
AllMayFollow base (change ∷ changes) = MayFollow base change × AllMayFollow (base_after base change) changes
