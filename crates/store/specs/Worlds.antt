-- The pages now and at each retained snapshot, as what the log says tells them, and as a history has them.
use Rattle.std.specs.Prelude.{◌≡◌, ℕ, true, List, [], ◌∷◌, Some, Ok, Err}
use Rattle.retro_base.specs.declared.refusal.Refusal.{Refusal}
use Rattle.history.specs.declared.entry.Base.{Base}
use Rattle.history.specs.declared.entry.Mark.{Mark as MarkOf}
use Rattle.history.specs.declared.journal.Line.{Line}
use Rattle.history.specs.History.{History, now, pages_as_of}
use Rattle.history.specs.Journal.{after_journal}
use Rattle.history.specs.Laws.{IsConsistent}
use Rattle.history.specs.Lines.{base_of}
use Rattle.history.specs.Marks as marks
use Rattle.history.specs.Marks.{AreMarks, is_retained}
use Rattle.history.specs.Sound as sound
use Rattle.history.specs.Sound.{IsSound}
use Rattle.journal_law.specs.Pages.{Pages, page_world, pins_of}
use Rattle.journal_law.specs.Seats.{names_in, names_of}
use Rattle.journal_law.specs.World.{Mark, World, as_of, newest}
use Rattle.txn_set.specs.Refused.{look_refused}

-- the same numbers and labels
abbrev pub AreNamed : List MarkOf → List (Mark Pages) → Type 0
AreNamed [] [] = Unit {0}
AreNamed (m ∷ ms) (p ∷ ps) = (p.number ≡ m.number) × (p.label ≡ m.label) × AreNamed ms ps
AreNamed ms ps = ⊥

-- and of each the pages as of it
abbrev pub AreMarksOf : History → List MarkOf → List (Mark Pages) → Type 0
AreMarksOf history [] [] = Unit {0}
AreMarksOf history (m ∷ ms) (p ∷ ps) =
    (p.number ≡ m.number) × (p.label ≡ m.label) × ((page : ℕ) → p.held page ≡ pages_as_of history m.number page)
    × AreMarksOf history ms ps
AreMarksOf history ms ps = ⊥

-- what a reader sees of a history
pub record IsWorldOf (history : History) (world : World Pages) : Type 0 where
  pub current : (page : ℕ) → world.current page ≡ (now history).pages page
  pub marks : AreMarksOf history (now history).base.marks world.marks

-- Behind the lines of a journal the snapshots have the numbers and labels that its log says.
abbrev pub NamesStay : Type 0
NamesStay = (base : Base) (world : World Pages) (lines : List Line) → AreNamed base.marks world.marks
    → AreNamed (base_of base lines).marks (page_world world lines).marks

-- So the open looks pin the same snapshots.
abbrev pub PinsAreSame : Type 0
PinsAreSame = (base : Base) (world : World Pages) (lines : List Line) → AreNamed base.marks world.marks
    → pins_of world lines ≡ sound.pins_of base [] lines

-- the names are the same lists
abbrev pub NamesAreSame : Type 0
NamesAreSame = (base : Base) (world : World Pages) → AreNamed base.marks world.marks
    → (names_of base.marks ≡ names_in world) × (marks.newest base.marks ≡ newest world)

-- a retained snapshot has its pages
abbrev pub RetainedAreHeld : Type 0
RetainedAreHeld = (base : Base) (world : World Pages) (number : ℕ) → AreMarks base.captures base.marks
    → AreNamed base.marks world.marks → is_retained number base.marks ≡ true
    → (held : Pages) × (as_of number world ≡ Ok held)

-- and no other number is a snapshot's
abbrev pub OthersAreRefused : Type 0
OthersAreRefused = (base : Base) (world : World Pages) (number : ℕ) (why : Refusal) → AreMarks base.captures base.marks
    → AreNamed base.marks world.marks
    → look_refused number (marks.oldest base.marks) (marks.newest base.marks) ≡ Some why → as_of number world ≡ Err why

-- Behind a sound journal the pages are those of the history behind it, now and as of each retained snapshot.
abbrev pub WorldIsOfHistory : Type 0
WorldIsOfHistory = (history : History) (world : World Pages) (lines : List Line) → IsConsistent history
    → IsWorldOf history world → IsSound (now history).base lines
    → IsWorldOf (after_journal history lines) (page_world world lines)
