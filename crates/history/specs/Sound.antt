-- Sound journals: each commit, drop and look keeps the rules at its place.
use Rattle.std.specs.Prelude.{◌≡◌, ◌≤◌, ◌<◌, ◌==◌, ◌&&◌, ℕ, Bool, true, not, IsTrue}
use Rattle.std.specs.Prelude.{List, [], ◌∷◌, ◌++◌, length, map, filter, Option}
use Rattle.std.specs.List.{AllByRecursion}
use Rattle.retro_base.specs.declared.limits.TheConstants.{JOURNAL_LINES}
use Rattle.retro_base.specs.declared.who.Who.{Who}
use Rattle.history.specs.declared.entry.Base.{Base}
use Rattle.history.specs.declared.journal.Line.{Line}
use Rattle.history.specs.declared.journal.What.{What}
use Rattle.history.specs.declared.journal.What.TheVariants.{Done, Looked, LookedAll, Unlooked, Dropped, Refused, Fault}
use Rattle.history.specs.declared.entry.Change.TheVariants.{Commit}
use Rattle.history.specs.declared.writes.PageImage.{PageImage}
use Rattle.history.specs.History.{base_after}
use Rattle.history.specs.Marks.{newest, is_retained}
use Rattle.history.specs.Right.{IsBase, IsWithinLimits}
use Rattle.history.specs.Writes.{pages_of, rises}
use Rattle.history.specs.Journal.{base_behind}

-- a snapshot that an open look keeps from being dropped
pub record Pin : Type 0 where
  pub who : Who
  pub snapshot : ℕ

abbrev pub same_item : Who → Who → Bool
same_item who other = (who.phase == other.phase) && (who.session == other.session) && (who.item == other.item)

-- the pins without those of this item
abbrev pub unpinned : Who → List Pin → List Pin
unpinned who pins = filter (λ pin. not (same_item pin.who who)) pins

-- the pins of the open looks behind a line
abbrev pub pins_behind : Base → List Pin → Who → What → List Pin
pins_behind base pins who (Looked snapshot) = record { who = who; snapshot = snapshot } ∷ pins
pins_behind base pins who LookedAll = map (λ mark. record { who = who; snapshot = mark.number }) base.marks ++ pins
pins_behind base pins who Unlooked = unpinned who pins
pins_behind base pins who (Refused why) = unpinned who pins
pins_behind base pins who (Fault device count call) = unpinned who pins
pins_behind base pins who _ = pins

-- A commit writes pages of the store, in rising number, and behind it the limits hold.
pub record MayCommit (base : Base) (label : Option (List ℕ)) (writes : List PageImage) : Type 0 where
  pub rises : IsTrue (rises 0 (pages_of writes))
  pub in_store : AllByRecursion (λ write. write.page < base.page_count) writes
  pub limits : IsWithinLimits base.capacity (base_after base (Commit label writes)).captures
      (base_after base (Commit label writes)).marks

-- What a line may say there, with these pins: a commit that may be, a look at a retained snapshot, a drop that leaves
-- the newest snapshot and each that is pinned.
abbrev pub KeepsRules : Base → List Pin → What → Type 0
KeepsRules base pins (Done label writes) = MayCommit base label writes
KeepsRules base pins (Looked snapshot) = is_retained snapshot base.marks ≡ true
KeepsRules base pins (Dropped below) = (1 ≤ below) × (below ≤ newest base.marks)
    × AllByRecursion (λ pin. below ≤ pin.snapshot) pins
KeepsRules base pins _ = Unit {0}

abbrev pub AllKeepRules : Base → List Pin → List Line → Type 0
AllKeepRules base pins [] = Unit {0}
AllKeepRules base pins (line ∷ lines) =
    KeepsRules base pins line.what
    × AllKeepRules (base_behind base line) (pins_behind base pins line.who line.what) lines

-- the pins of the looks that are open behind a journal
abbrev pub pins_of : Base → List Pin → List Line → List Pin
pins_of base pins [] = pins
pins_of base pins (line ∷ lines) = pins_of (base_behind base line) (pins_behind base pins line.who line.what) lines

-- A sound journal of a run whose log says this at the opening: each line keeps the rules at its place.
pub record IsSound (base : Base) (lines : List Line) : Type 0 where
  pub short : length lines ≤ JOURNAL_LINES
  pub right : IsBase base
  pub keeps : AllKeepRules base [] lines
