-- Seats of the small desk and the small vault, between two calls.
use Rattle.std.specs.Prelude.{◌≡◌, ◌<◌, ◌≤◌, ℕ, List, [], None, length, slice_index_or}
use Rattle.retro_base.specs.declared.device.Device.{Device}
use Rattle.retro_base.specs.declared.device.Device.TheVariants.{Log, Pagelog}
use Rattle.history.specs.declared.journal.Line.{Line}
use Rattle.history.specs.declared.journal.What.{What}
use Rattle.history.specs.Lines.{FaultsDiffer, lines_of}
use Rattle.turn.specs.Faults.{LAST, fault_lines, fault_times, line_fault}
use Rattle.turn_tests.specs.Meanings.{AreQuiet, Stands}
use Rattle.atomic_table.specs.Seated.{TableId}
use Rattle.turn.specs.declared.seat.SeatOver.{SeatOver}
use Rattle.turn.specs.Seats.{Rests, mine}
use Rattle.turn.specs.Views.{PARTS}
use Rattle.turn_tests.specs.declared.small.Book.{Book}
use Rattle.turn_tests.specs.declared.small.Shelf.{Shelf}
use Rattle.turn_tests.specs.declared.small.Start.{Start}

abbrev pub Sat : Type 0
Sat = SeatOver Start ℕ Book Shelf

-- it rests, with so many lines of its number or more
pub record IsReady (z : TableId) (own : ℕ) (s : Sat) : Type 0 where
  pub rests : Rests z s
  pub lines : own ≤ length (mine s).lines

-- a line of a session, in the one phase
abbrev pub line_by : ℕ → ℕ → What → Line
line_by session item what = record { who = record { phase = 1; session = session; item = item }; what = what }

-- each fault that a line tells is among these
abbrev pub IsTold : What → List (Device × ℕ) → Type 0
IsTold what faults = (d : Device) (c : ℕ) → 0 < line_fault d c what → 0 < fault_times d c faults

-- no line tells a fault of this one, but for the last value of a count
abbrev pub IsNewIn : List Line → What → Type 0
IsNewIn lines what = (d : Device) (c : ℕ) → c < LAST → 0 < line_fault d c what → fault_lines d c lines ≡ 0

-- what two values are where a table with so many seats is closed
pub record AreEnds (seats : ℕ) (book : Book) (shelf : Shelf) : Type 0 where
  pub quiet : AreQuiet book.lines
  pub acked : book.acked ≤ shelf.held
  pub stands : Stands shelf.held book.lines
  pub foreign : (n : ℕ) → seats ≤ n → (lines_of n book.lines ≡ []) × (slice_index_or book.works n None ≡ None)
  pub differ : FaultsDiffer book.lines
  pub below : (c : ℕ) → 0 < fault_lines Log c book.lines → c ≤ book.faults
  pub below_vault : (c : ℕ) → 0 < fault_lines Pagelog c book.lines → c ≤ shelf.faults

-- it has as many parts as before, of the same number
pub record Keeps (old new : Sat) : Type 0 where
  pub number : new.number ≡ old.number
  pub parts : (mine new).parts ≡ (mine old).parts

-- each of these is ready, with all parts of its number
abbrev pub AreReady : TableId → List Sat → Type 0
AreReady z seats = (k : ℕ) (d : Sat) → k < length seats → IsReady z 0 (slice_index_or seats k d)
    × ((mine (slice_index_or seats k d)).parts ≡ PARTS)

-- a helper of that number, with so many lines or more
pub record IsHelper (z : TableId) (session own : ℕ) (s : Sat) : Type 0 where
  pub ready : IsReady z own s
  pub number : s.number ≡ session
  pub part : (mine s).parts ≡ 1

abbrev pub AreHelpers : TableId → ℕ → ℕ → List Sat → Type 0
AreHelpers z number own helpers = (k : ℕ) (d : Sat) → k < length helpers →
    IsHelper z number own (slice_index_or helpers k d)
