-- What the locks know of the small desk and the small vault.
use Rattle.std.specs.Prelude.{◌≡◌, ◌+◌, ℕ, zero, suc, Bool, true, false, List, []}
use Rattle.std.specs.Prelude.{◌∷◌, ◌++◌, None, Some, slice_index_or, if◌then◌else◌}
use Rattle.std.specs.List.{AllByRecursion}
use Rattle.retro_base.specs.declared.device.Device.{Device}
use Rattle.retro_base.specs.declared.device.Device.TheVariants.{Log, Pagelog}
use Rattle.history.specs.Lines.{horizon_of, same_device}
use Rattle.history.specs.declared.entry.Base.{Base}
use Rattle.history.specs.declared.journal.FailedCall.TheVariants.{Read}
use Rattle.history.specs.declared.journal.Line.{Line}
use Rattle.history.specs.declared.journal.What.{What}
use Rattle.history.specs.declared.journal.What.TheVariants.{Began, Done, Fault, RolledBack}
use Rattle.turn.specs.Meanings.{OpeningMeaning, DeskMeaning, VaultMeaning}
use Rattle.turn_tests.specs.declared.small.Book.{Book}
use Rattle.turn_tests.specs.declared.small.Shelf.{Shelf}
use Rattle.turn_tests.specs.declared.small.Start.{Start}

-- a line that writes no page and drops no snapshot: of a transaction that is rolled back, or declares one, or meets a
-- fault
abbrev pub is_quiet : What → Bool
is_quiet Began = true
is_quiet RolledBack = true
is_quiet (Done (Some label) []) = true
is_quiet (Fault device count Read) = true
is_quiet _ = false

-- the newest snapshot behind a line
abbrev pub newest_behind : ℕ → What → ℕ
newest_behind newest (Done label writes) = newest + 1
newest_behind newest _ = newest

abbrev pub AreQuiet : List Line → Type 0
AreQuiet lines = AllByRecursion (λ (line : Line). is_quiet line.what ≡ true) lines

pub quiet_front : (lines more : List Line) → AreQuiet (lines ++ more) → AreQuiet lines
quiet_front [] more quiet = tt
quiet_front (line ∷ lines) more quiet = (quiet.0, quiet_front lines more quiet.1)

-- a store of that many pages in which nothing was declared
abbrev pub base_at : Start → Base
base_at start =
    record { page_count = start.page_count; capacity = 64; changes = 0; captures = 0; marks = []; captured = [] }

abbrev pub of_start : OpeningMeaning Start
of_start = record { base = base_at; counts = λ start device. 0; Lawful = λ start lines. AreQuiet lines }

-- a desk's journal, and its newest snapshot
pub record IsBook (book : Book) : Type 0 where
  pub quiet : AreQuiet book.lines
  pub horizon : horizon_of (base_at book.start) book.lines ≡ (1, book.newest)

-- the faults of one device
abbrev pub only : Device → ℕ → Device → ℕ
only device count other = if same_device other device then count else 0

abbrev pub of_book : DeskMeaning Start ℕ Book
of_book = record {
  opening = λ book. book.start;
  journal = λ book. book.lines;
  Fits = IsBook;
  work_of = λ book number. slice_index_or book.works number None;
  acked = λ book. book.acked;
  counts = λ book. only Log book.faults;
}

-- there are so many lines, or more
abbrev pub Stands : ℕ → List Line → Type 0
Stands zero lines = Unit {0}
Stands (suc count) [] = ⊥
Stands (suc count) (line ∷ lines) = Stands count lines

pub stands_on : (count : ℕ) (lines more : List Line) → Stands count lines → Stands count (lines ++ more)
stands_on zero lines more stands = tt
stands_on (suc count) [] more stands = absurd stands
stands_on (suc count) (line ∷ lines) more stands = stands_on count lines more stands

-- no more is held than lines stand
abbrev pub of_shelf : VaultMeaning Start Shelf
of_shelf = record {
  Fits = λ shelf start lines. Stands shelf.held lines;
  held = λ shelf. shelf.held;
  counts = λ shelf. only Pagelog shelf.faults;
}
