-- The journal of a run, with the places that are kept for lines to come.
use Rattle.std.specs.Prelude.{◌≡◌, ◌+◌, ◌-◌, ◌≤◌, ◌<◌, ◌++◌, nat_lt, ℕ, Option, Some, None}
use Rattle.std.specs.Prelude.{if◌then◌else◌, List, [], ◌∷◌, length, slice_index, set}
use Rattle.retro_base.specs.declared.limits.TheConstants.{JOURNAL_IMAGES, JOURNAL_LINES, WORKER_LINES}
use Rattle.retro_base.specs.declared.refusal.Refusal.{Refusal}
use Rattle.retro_base.specs.declared.refusal.Refusal.TheVariants.{JournalFull}
use Rattle.history.specs.declared.journal.Line.{Line}
use Rattle.history.specs.declared.journal.What.{What}
use Rattle.history.specs.declared.journal.What.TheVariants.{Done}
use Rattle.history.specs.declared.stop.Stop.{Stop}
use Rattle.history.specs.declared.writes.PageImage.{PageImage}
use Rattle.history.specs.Lines.{images_in, changes_page, first_stop}

-- the pages of the store, the lines so far, how many closing lines are kept for what is open, and how many for faults
-- of the workers
pub record Book : Type 0 where
  pub pages : ℕ
  pub lines : List Line
  pub kept : ℕ
  pub workers : ℕ

-- the lines that sessions may fill
abbrev pub SESSION_LINES : ℕ
SESSION_LINES = JOURNAL_LINES - WORKER_LINES

-- how many lines a call needs that adds so many: those so far, those kept, and its own
abbrev pub lines_needed : Book → ℕ → ℕ
lines_needed book more = length book.lines + book.kept + more

-- the refusal of a call that adds so many lines
abbrev pub lines_refused : Book → ℕ → Option Refusal
lines_refused book more =
    if nat_lt SESSION_LINES (lines_needed book more)
    then Some (JournalFull (lines_needed book more) (images_in book.lines)) else None

-- the book with places for so many lines more
abbrev pub keeping : Book → ℕ → Book
keeping book more = record book { kept = book.kept + more }

-- the book without so many places that were kept
abbrev pub giving_up : Book → ℕ → Book
giving_up book count = record book { kept = book.kept - count }

-- the book with a line in a place that was kept
abbrev pub closing_with : Book → Line → Book
closing_with book line = record book { lines = book.lines ++ line ∷ []; kept = book.kept - 1 }

-- the book with a line in a worker's place
abbrev pub noting : Book → Line → Book
noting book line = record book { lines = book.lines ++ line ∷ []; workers = book.workers - 1 }

-- the page images of a line
abbrev pub writes_of : What → List PageImage
writes_of (Done label writes) = writes
writes_of _ = []

-- how many lines there are up to the last that changes the page; 0 where none does
abbrev pub change_end : ℕ → List Line → ℕ
change_end page [] = 0
change_end page (line ∷ lines) =
    if nat_lt 0 (change_end page lines) then change_end page lines + 1 else if changes_page page line.what then 1 else 0

-- the table of the places behind last changes, by page
abbrev pub AreEnds : List ℕ → List Line → Type 0
AreEnds ends lines = (page : ℕ) → page < length ends → slice_index ends page ≡ change_end page lines

-- the table behind a line that writes these pages
abbrev pub marked : List ℕ → ℕ → List PageImage → List ℕ
marked ends place [] = ends
marked ends place (write ∷ writes) = marked (set ends write.page place) place writes

-- What a book keeps: it counts its images, every line that is kept finds its place in the journal and in memory, and it
-- knows the first stop and the last changes.
pub record IsBook (lines : List Line) (capacity images kept workers : ℕ) (stop : Option Stop)
    (ends : List ℕ) : Type 0 where
  pub counted : images ≡ images_in lines
  pub within : images ≤ JOURNAL_IMAGES
  pub memory : length lines + kept + workers ≤ capacity
  pub places : length lines + kept + workers ≤ JOURNAL_LINES
  pub two_workers : workers ≤ WORKER_LINES
  pub stops : stop ≡ first_stop lines
  pub changes : AreEnds ends lines
