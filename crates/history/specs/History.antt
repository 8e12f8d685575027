-- What changes make of the pages of a store and of the list of its captures.
use Rattle.std.specs.Prelude.{◌+◌, ◌-◌, ◌%◌, ◌^◌, ◌==◌, nat_lt, ℕ, Bool, true, false, not}
use Rattle.std.specs.Prelude.{◌&&◌, List, [], ◌∷◌, ◌++◌, length, map, filter, drop, Option}
use Rattle.std.specs.Prelude.{Some, None, slice_get, unwrap_or, option_map, if◌then◌else◌}
use Rattle.retro_base.specs.FirstMet.{first_met}
use Rattle.history.specs.declared.entry.Mark.{Mark}
use Rattle.history.specs.declared.entry.Base.{Base}
use Rattle.history.specs.declared.entry.Change.{Change}
use Rattle.history.specs.declared.entry.Change.TheVariants.{Commit, Drop}
use Rattle.history.specs.declared.writes.PageImage.{PageImage}
use Rattle.history.specs.Marks.{newest, start_of, kept_marks}
use Rattle.history.specs.Writes.{pages_of, is_among}

-- the pages after a write
abbrev pub with_write : (ℕ → List ℕ) → PageImage → ℕ → List ℕ
with_write pages write page = if write.page == page then write.bytes else pages page

-- the pages after writes, in order
abbrev pub written : (ℕ → List ℕ) → List PageImage → ℕ → List ℕ
written pages [] = pages
written pages (write ∷ writes) = written (with_write pages write) writes

-- whether a snapshot was declared; the newest one is never dropped
abbrev pub is_declared : List Mark → Bool
is_declared [] = false
is_declared (mark ∷ marks) = true

-- whether the write of a page captures it: a snapshot was declared, and the page has no capture since the newest one
abbrev pub captures_page : Base → ℕ → Bool
captures_page base page = is_declared base.marks && not (is_among page base.captured)

-- the writes that capture their page
abbrev pub capturing : Base → List PageImage → List PageImage
capturing base writes = filter (λ write. captures_page base write.page) writes

-- a page in its place among pages that rise
abbrev pub with_page : ℕ → List ℕ → List ℕ
with_page page [] = page ∷ []
with_page page (other ∷ pages) = if nat_lt page other then page ∷ other ∷ pages else other ∷ with_page page pages

-- each of these pages in its place
abbrev pub with_pages : List ℕ → List ℕ → List ℕ
with_pages [] pages = pages
with_pages (page ∷ more) pages = with_pages more (with_page page pages)

-- the marks behind a commit that leaves this count of captures
abbrev pub declared : List Mark → ℕ → Option (List ℕ) → List Mark
declared marks captures None = marks
declared marks captures (Some label) =
    marks ++ record { number = newest marks + 1; label = label; start = captures } ∷ []

-- the pages captured since the newest snapshot, behind a commit that captures these: behind a declaration none
abbrev pub captured_behind : List ℕ → Option (List ℕ) → List ℕ → List ℕ
captured_behind captured None pages = with_pages pages captured
captured_behind captured (Some label) pages = []

-- what the log says behind a commit that captures these pages
abbrev pub behind_commit : Base → Option (List ℕ) → List ℕ → Base
behind_commit base label pages =
    let count : ℕ = base.captures + length pages in
    record base {
      changes = (base.changes + 1) % 2 ^ 64;
      captures = count;
      marks = declared base.marks count label;
      captured = captured_behind base.captured label pages;
    }

-- what the log says behind a change
abbrev pub base_after : Base → Change → Base
base_after base (Commit label writes) = behind_commit base label (pages_of (capturing base writes))
base_after base (Drop below) =
    record base { changes = (base.changes + 1) % 2 ^ 64; marks = kept_marks below base.marks }

abbrev pub bases_after : Base → List Change → Base
bases_after base [] = base
bases_after base (change ∷ changes) = bases_after (base_after base change) changes

-- a place in the history of a store: what the log says there, and the pages
pub record State : Type 0 where
  pub base : Base
  pub pages : ℕ → List ℕ

abbrev pub pages_after : (ℕ → List ℕ) → Change → ℕ → List ℕ
pages_after pages (Commit label writes) = written pages writes
pages_after pages (Drop below) = pages

abbrev pub after : State → Change → State
after state change = record { base = base_after state.base change; pages = pages_after state.pages change }

abbrev pub run : State → List Change → State
run state [] = state
run state (change ∷ changes) = run (after state change) changes

-- the bytes that a written page had
abbrev pub before_write : (ℕ → List ℕ) → PageImage → PageImage
before_write pages write = record { page = write.page; bytes = pages write.page }

-- what a change captures, in rising page
abbrev pub captured_by : State → Change → List PageImage
captured_by state (Commit label writes) = map (before_write state.pages) (capturing state.base writes)
captured_by state (Drop below) = []

-- what changes capture, in order
abbrev pub captures_of : State → List Change → List PageImage
captures_of state [] = []
captures_of state (change ∷ changes) = captured_by state change ++ captures_of (after state change) changes

-- A history: the place where the log begins, with the bytes that the pages device had at the opening; the captures that
-- the archive then held, numbered from 0; and the changes.
pub record History : Type 0 where
  pub origin : State
  pub held : List PageImage
  pub changes : List Change

abbrev pub now : History → State
now history = run history.origin history.changes

-- the captures, numbered from 0: those that the archive held, and then those of the changes
abbrev pub captures : History → List PageImage
captures history =
    history.held ++ drop (length history.held - history.origin.base.captures)
    (captures_of history.origin history.changes)

abbrev pub with_change : History → Change → History
with_change history change = record history { changes = history.changes ++ change ∷ [] }

abbrev pub with_changes : History → List Change → History
with_changes history more = record history { changes = history.changes ++ more }

-- the bytes of the capture with this number, or these
abbrev pub bytes_at : List PageImage → List ℕ → Option ℕ → List ℕ
bytes_at images bytes None = bytes
bytes_at images bytes (Some number) = unwrap_or (option_map (λ image. image.bytes) (slice_get images number)) bytes

-- a page as of a retained snapshot: the bytes of its first capture from the snapshot's start on, or the page as it is
abbrev pub pages_as_of : History → ℕ → ℕ → List ℕ
pages_as_of history snapshot page =
    bytes_at (captures history) ((now history).pages page)
    (first_met (pages_of (captures history)) (start_of snapshot (now history).base.marks)
    (length (captures history)) page)
