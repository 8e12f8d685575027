-- What stands now and at each retained snapshot, of pages or of tables, and what a line of the journal makes of it.
use Rattle.std.specs.Prelude.{◌+◌, ◌++◌, ◌==◌, ◌||◌, ℕ, List, [], ◌∷◌, map, Option, Some}
use Rattle.std.specs.Prelude.{None, Result, Ok, Err, nat_lt, nat_le, if◌then◌else◌}
use Rattle.retro_base.specs.declared.refusal.Refusal.{Refusal}
use Rattle.retro_base.specs.declared.refusal.Refusal.TheVariants.{NoSuchSnapshot, Dropped}
use Rattle.retro_base.specs.declared.who.Who.{Who}
use Rattle.history.specs.declared.journal.What.{What}
use Rattle.history.specs.declared.journal.What.TheVariants as whats
use Rattle.history.specs.Sound.{Pin, unpinned}

-- a retained snapshot, and what stood when it was declared
pub record Mark (X : Type 0) : Type 0 where
  pub number : ℕ
  pub label : List ℕ
  pub held : X

-- what stands now, and the retained snapshots in rising number
pub record World (X : Type 0) : Type 0 where
  pub current : X
  pub marks : List (Mark X)

-- the number of the last of these snapshots, or this one where there is none
abbrev pub newest_behind : {X : Type 0} → ℕ → List (Mark X) → ℕ
newest_behind number [] = number
newest_behind number (mark ∷ marks) = newest_behind mark.number marks

-- the number of the latest snapshot, 0 where there is none
abbrev pub newest : {X : Type 0} → World X → ℕ
newest world = newest_behind 0 world.marks

-- the number of the first of these snapshots, 1 where there is none
abbrev pub oldest_of : {X : Type 0} → List (Mark X) → ℕ
oldest_of [] = 1
oldest_of (mark ∷ marks) = mark.number

-- the snapshot of this number
abbrev pub mark_of : {X : Type 0} → ℕ → List (Mark X) → Option (Mark X)
mark_of number [] = None
mark_of number (mark ∷ marks) = if mark.number == number then Some mark else mark_of number marks

abbrev pub held_by : {X : Type 0} → ℕ → ℕ → Option (Mark X) → Result X Refusal
held_by asked oldest None = Err (Dropped asked oldest)
held_by asked oldest (Some mark) = Ok mark.held

-- what stood at a snapshot: refused where the number is 0 or greater than the newest, and where that snapshot is
-- dropped
abbrev pub as_of : {X : Type 0} → ℕ → World X → Result X Refusal
as_of asked world =
    if (asked == 0) || nat_lt (newest world) asked then Err (NoSuchSnapshot asked (newest world))
    else held_by asked (oldest_of world.marks) (mark_of asked world.marks)

-- what stands now becomes a snapshot, where there is a label
abbrev pub declared : {X : Type 0} → Option (List ℕ) → World X → World X
declared None world = world
declared (Some label) world = record world {
  marks = world.marks ++ record { number = newest world + 1; label = label; held = world.current } ∷ [];
}

-- the snapshots from the first that is not below a number
abbrev pub kept : {X : Type 0} → ℕ → List (Mark X) → List (Mark X)
kept below [] = []
kept below (mark ∷ marks) = if nat_le below mark.number then mark ∷ marks else kept below marks

-- the world behind a line, which leaves this where it is a commit
abbrev pub behind : {X : Type 0} → X → What → World X → World X
behind after (whats.Done label writes) world = declared label (record world { current = after })
behind after (whats.Dropped below) world = record world { marks = kept below world.marks }
behind after what world = world

-- the snapshots that open looks keep from being dropped, behind a line in this world
abbrev pub pins_behind : {X : Type 0} → World X → List Pin → Who → What → List Pin
pins_behind world pins who (whats.Looked snapshot) = record { who = who; snapshot = snapshot } ∷ pins
pins_behind world pins who whats.LookedAll =
    map (λ mark. record { who = who; snapshot = mark.number }) world.marks ++ pins
pins_behind world pins who whats.Unlooked = unpinned who pins
pins_behind world pins who (whats.Refused why) = unpinned who pins
pins_behind world pins who (whats.Fault device count call) = unpinned who pins
pins_behind world pins who what = pins
