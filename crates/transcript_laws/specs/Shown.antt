-- What a transcript prints of the lines of a journal.
use Rattle.std.specs.Prelude.{◌==◌, ◌||◌, ◌++◌, ℕ, Bool, true, false, not, is_some, List, [], ◌∷◌, Option, Some, None}
use Rattle.retro_base.specs.Refusal.{number_of}
use Rattle.retro_base.specs.declared.device.Device.{Device}
use Rattle.retro_base.specs.declared.who.Who.{Who}
use Rattle.history.specs.declared.journal.Line.{Line}
use Rattle.history.specs.declared.journal.What.{What}
use Rattle.history.specs.declared.journal.What.TheVariants as line

-- What is printed of a line: of a commit whether it declared a snapshot, of a refusal its number, of a fault no call.
pub data Shown : Type 0 where
  Done : Bool → Shown
  RolledBack : Shown
  Looked : ℕ → Shown
  LookedAll : Shown
  Unlooked : Shown
  DroppedBelow : ℕ → Shown
  RefusedBy : ℕ → Shown
  Faulted : Device → ℕ → Shown

-- an attempt's begin is not printed, nor its overlap
abbrev pub shown : What → Option Shown
shown line.Began = None
shown (line.Overlapped session item) = None
shown (line.Done label writes) = Some (Done (is_some label))
shown line.RolledBack = Some RolledBack
shown (line.Looked snapshot) = Some (Looked snapshot)
shown line.LookedAll = Some LookedAll
shown line.Unlooked = Some Unlooked
shown (line.Dropped below) = Some (DroppedBelow below)
shown (line.Refused why) = Some (RefusedBy (number_of why))
shown (line.Fault device count call) = Some (Faulted device count)

abbrev pub shown_of : Who → Option Shown → List (Who × Shown)
shown_of who None = []
shown_of who (Some said) = (who, said) ∷ []

-- the visible lines, each with whose it is
abbrev pub shown_lines : List Line → List (Who × Shown)
shown_lines [] = []
shown_lines (l ∷ lines) = shown_of l.who (shown l.what) ++ shown_lines lines

-- ArchiveFull, Stopped and SnapshotsFull have values that no visible line tells
abbrev pub hides_values : ℕ → Bool
hides_values number = (number == 12) || (number == 16) || (number == 18)

-- a visible line that tells the reply of its item, of which it is then the last
abbrev pub tells_reply : Shown → Bool
tells_reply (Done declares) = true
tells_reply Unlooked = true
tells_reply (DroppedBelow below) = true
tells_reply (RefusedBy number) = not (hides_values number)
tells_reply (Faulted device count) = true
tells_reply said = false
