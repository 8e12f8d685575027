-- A plain store, and what its one seat sees.
use Rattle.std.specs.Prelude.{◌≡◌, ◌≤◌, ◌<◌, ◌+◌, ◌++◌, ℕ, zero, suc, Bool, List, [], ◌∷◌}
use Rattle.std.specs.Prelude.{length, replicate, Option, Some, None, if◌then◌else◌}
use Rattle.std.specs.List.{AllByRecursion}
use Rattle.retro_base.specs.declared.limits.TheConstants.{EDITED_PAGES, PAGE_BYTES, WORKER_LINES}
use Rattle.retro_base.specs.declared.refusal.Refusal.{Refusal}
use Rattle.retro_base.specs.declared.refusal.Refusal.TheVariants.{TooManyPages}
use Rattle.retro_base.specs.declared.who.Who.{Who}
use Rattle.history.specs.declared.entry.Base.{Base}
use Rattle.history.specs.declared.journal.Line.{Line}
use Rattle.history.specs.declared.journal.What.{What}
use Rattle.history.specs.declared.journal.What.TheVariants.{Began, Looked, LookedAll}
use Rattle.history.specs.declared.writes.PageImage.{PageImage}
use Rattle.history.specs.Lines.{base_of, first_stop}
use Rattle.history.specs.Right.{IsBase}
use Rattle.history.specs.Sound.{Pin, unpinned}
use Rattle.journal_book.specs.Book.{Book}
use Rattle.journal_law.specs.Lawful.{Ground}
use Rattle.journal_law.specs.Pages.{Pages, page_world, pins_of}
use Rattle.journal_law.specs.Seats as seat
use Rattle.journal_law.specs.World.{Mark, World, newest, oldest_of}
use Rattle.plain_store.specs.Page.{IsWithin, PlainPage, bytes_at, bytes_in, page_at}
use Rattle.plain_store.specs.declared.work.Work.{Work}
use Rattle.plain_store.specs.declared.work.Work.TheVariants as work

-- the session whose turn it is, what the log of a store would say, the journal, the pages, and what the session has
-- open
pub record Plain : Type 0 where
  pub session : ℕ
  pub base : Base
  pub book : Book
  pub pages : List PlainPage
  pub work : Work

-- ---- the opening: zero pages, and no snapshot

abbrev pub zeros : World Pages
zeros = record { current = λ page. replicate PAGE_BYTES 0; marks = [] }

abbrev pub empty_base : ℕ → ℕ → Base
empty_base page_count capacity = record {
  page_count = page_count;
  capacity = capacity;
  changes = 0;
  captures = 0;
  marks = [];
  captured = [];
}

abbrev pub zero_ground : ℕ → ℕ → Ground
zero_ground page_count capacity = record { base = empty_base page_count capacity; pages = zeros; faults = λ device. 0 }

abbrev pub ground_of : Plain → Ground
ground_of store = zero_ground store.base.page_count store.base.capacity

-- the pages now and at each retained snapshot
abbrev pub world_of : Plain → World Pages
world_of store = page_world zeros store.book.lines

-- ---- what the seat sees

abbrev pub without_last : List Line → List Line
without_last [] = []
without_last (line ∷ []) = []
without_last (line ∷ next ∷ lines) = line ∷ without_last (next ∷ lines)

-- the pages below a number
abbrev pub pages_below : ℕ → List ℕ
pages_below zero = []
pages_below (suc page) = page ∷ pages_below page

-- No other session changes a page while a transaction is open, so that all pages count as read where one was read.
abbrev pub read_of : ℕ → Bool → List ℕ
read_of page_count has_read = if has_read then pages_below page_count else []

abbrev pub kept_of : Bool → Option Refusal
kept_of too_many = if too_many then Some (TooManyPages (EDITED_PAGES + 1)) else None

-- a work is opened by the last line
abbrev pub work_in : ℕ → List Line → Work → seat.Work
work_in page_count lines work.Idle = seat.Idle
work_in page_count lines (work.Open t) =
    seat.Open (record {
      who = t.who;
      since = without_last lines;
      read = read_of page_count t.has_read;
      edits = t.edits;
      kept = kept_of t.too_many;
    })
work_in page_count lines (work.Looking l) = seat.Looking (record {
  who = l.who;
  since = without_last lines;
  snapshot = l.snapshot;
})

abbrev pub view_of : Plain → seat.View
view_of store = record {
  session = store.session;
  opened = ground_of store;
  front = store.book.lines;
  work = work_in store.base.page_count store.book.lines store.work;
  told = [];
}

-- ---- what a plain store keeps

-- the pages are those of the world, now and at each snapshot
pub record AreHeld (world : World Pages) (pages : List PlainPage) : Type 0 where
  pub current : (page : ℕ) → page < length pages → bytes_in pages page ≡ world.current page
  pub marks : AllByRecursion
      (λ (mark : Mark Pages). (page : ℕ) → page < length pages
      → bytes_at mark.number (page_at pages page).bytes (page_at pages page).past ≡ mark.held page) world.marks
  pub within : (page : ℕ) → IsWithin (newest world) (page_at pages page)

-- the snapshots are numbered one after the other
abbrev pub AreNumbered : ℕ → List (Mark Pages) → Type 0
AreNumbered number [] = Unit {0}
AreNumbered number (mark ∷ marks) = (mark.number ≡ number) × AreNumbered (number + 1) marks

-- what stands where a work was opened by the last line
pub record IsOpened (session : ℕ) (lines : List Line) (who : Who) (what : What) : Type 0 where
  pub mine : who.session ≡ session
  pub last : lines ≡ without_last lines ++ seat.one who what

abbrev pub looked_by : Option ℕ → What
looked_by None = LookedAll
looked_by (Some snapshot) = Looked snapshot

-- a transaction's line is the last, and its edits are of pages of the store; a look's is, and it alone pins something
abbrev pub WorkFits : ℕ → ℕ → List Line → List Pin → Work → Type 0
WorkFits session page_count lines pins work.Idle = pins ≡ []
WorkFits session page_count lines pins (work.Open t) =
    (pins ≡ []) × IsOpened session lines t.who Began
    × AllByRecursion (λ (edit : PageImage). edit.page < page_count) t.edits × (length t.edits ≤ EDITED_PAGES)
WorkFits session page_count lines pins (work.Looking l) =
    (unpinned l.who pins ≡ []) × IsOpened session lines l.who (looked_by l.snapshot)

-- the lines that are kept for what is open
abbrev pub closing_lines : Work → ℕ
closing_lines work.Idle = 0
closing_lines work = 1

pub record IsPlain (store : Plain) : Type 0 where
  pub base : store.base ≡ base_of (empty_base store.base.page_count store.base.capacity) store.book.lines
  pub right : IsBase store.base
  pub long : length store.pages ≡ store.base.page_count
  pub book_pages : store.book.pages ≡ store.base.page_count
  pub workers : store.book.workers ≡ WORKER_LINES
  pub kept : store.book.kept ≡ closing_lines store.work
  pub names : seat.names_in (world_of store) ≡ seat.names_of store.base.marks
  pub numbered : AreNumbered (oldest_of (world_of store).marks) (world_of store).marks
  pub held : AreHeld (world_of store) store.pages
  pub goes : first_stop store.book.lines ≡ None
  pub work : WorkFits store.session store.base.page_count store.book.lines (pins_of zeros store.book.lines) store.work
