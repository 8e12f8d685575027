-- What the calls do to well-formed pages.
use Rattle.std.specs.Prelude.{◌≡◌, ◌<◌, ◌≤◌, ◌+◌, ◌-◌, ◌^◌, ◌++◌, ℕ, List, [], ◌∷◌}
use Rattle.std.specs.Prelude.{length, replicate, slice_index, Some, Result, Ok, Err}
use Rattle.std.specs.List.{Contains}
use Rattle.std.specs.List.Sorted.{IsPermutation}
use Rattle.retro_base.specs.declared.limits.TheConstants.{PAGE_BYTES}
use Rattle.retro_base.specs.declared.refusal.Refusal.{Refusal}
use Rattle.retro_base.specs.declared.refusal.Refusal.TheVariants.{PagesFull}
use Rattle.values.specs.declared.value.Value.{Value}
use Rattle.pager.specs.Index.{EditsOnly, IsApart}
use Rattle.pager.specs.Pages.{Pages}
use Rattle.pager.specs.Root.{all_taken, taken}
use Rattle.heap_file.specs.declared.page.Entry.{Entry}
use Rattle.heap_file.specs.declared.page.HeapPage.{HeapPage}
use Rattle.heap_file.specs.declared.chain.Link.{Link}
use Rattle.heap_file.specs.declared.chain.Placed.{Placed}
use Rattle.heap_file.specs.Chain.{chain, scanned}
use Rattle.heap_file.specs.HeapPage.{HoldsRows}
use Rattle.heap_file.specs.Laws.{IsOne}
use Rattle.heap_file.specs.Work.{added, changed, got, made, next_of, removed}
use Rattle.heap_laws.specs.Store.{IsSized, WellFormed, end_of, free_pages, times_numbered}
use Rattle.heap_laws.specs.Table.{AllStay, EditsExactly, EndsAt, Table, TakesPage, IsNumbered, IsTable, IsStorable}
use Rattle.heap_laws.specs.Table.{AddsRow, AddIsFull, MakesTable, RemovesRow, ChangesRow, ChangeIsFull}

-- an answer with the pages after it is this, and a refusal is want of pages, as this says
abbrev pub DoesOrIsFull : {A : Type 0} → ℕ → (A → Pages → Type 0) → Type 0 → Result (A × Pages) Refusal → Type 0
DoesOrIsFull size done full (Ok answer) = done answer.0 answer.1
DoesOrIsFull size done full (Err why) = (why ≡ PagesFull size) × full

-- a table that stands on well-formed pages, from its first page on
pub record IsTableOf (size : ℕ) (pages : Pages) (firsts indexes : List ℕ) (first : ℕ) (table : Table) : Type 0 where
  pub well : WellFormed size pages firsts indexes
  pub there : Contains firsts first
  pub shows : IsTable size pages first table

-- A table is made on the page that was next to be taken. It is refused exactly where no page is free.
abbrev pub MakeLaw : Type 0
MakeLaw = (size : ℕ) (pages : Pages) (firsts indexes : List ℕ) (answer : Result (ℕ × Pages) Refusal)
    → WellFormed size pages firsts indexes → made size pages answer
    → DoesOrIsFull size (λ first after. MakesTable size pages firsts indexes first after) (free_pages size pages ≡ 0)
    answer

-- A row is added to a table, below the last row number. It is refused exactly where it has no room on the last page and
-- no page is free.
abbrev pub AddLaw : Type 0
AddLaw = (size : ℕ) (pages : Pages) (firsts indexes : List ℕ) (first : ℕ) (table : Table) (row : List Value)
    (answer : Result ((ℕ × ℕ) × Pages) Refusal)
    → IsTableOf size pages firsts indexes first table
    → IsStorable row → table.next_number < 2 ^ 64 - 1 → added size pages first row answer
    → DoesOrIsFull size (λ placed after. AddsRow size pages firsts indexes first table row placed after)
    (AddIsFull size pages first (record { number = table.next_number; row = row })) answer

-- A row of a table is taken out. That is never refused.
abbrev pub RemoveLaw : Type 0
RemoveLaw = (size : ℕ) (pages : Pages) (firsts indexes : List ℕ) (first : ℕ) (table : Table) (placed : Placed)
    (answer : Result (Unit {0} × Pages) Refusal)
    → IsTableOf size pages firsts indexes first table
    → Contains table.rows placed → removed size pages first placed.page placed.number answer
    → DoesOrIsFull size
    (λ u after. RemovesRow size pages firsts indexes first table placed.page placed.number after) ⊥ answer

-- A row of a table is changed. It is refused exactly where it has no room on its page and none on the last page, and no
-- page is free.
abbrev pub ChangeLaw : Type 0
ChangeLaw = (size : ℕ) (pages : Pages) (firsts indexes : List ℕ) (first : ℕ) (table : Table) (placed : Placed)
    (row : List Value) (answer : Result (ℕ × Pages) Refusal)
    → IsTableOf size pages firsts indexes first table
    → Contains table.rows placed → IsStorable row
    → changed size pages first placed.page (record { number = placed.number; row = row }) answer
    → DoesOrIsFull size
    (λ to after. ChangesRow size pages firsts indexes first table placed.page
    (record { number = placed.number; row = row }) to after)
    (ChangeIsFull size pages first placed.page (record { number = placed.number; row = row })) answer

-- Any pages determine what taking out and changing a row answer, and the pages after them: one answer, with one state,
-- is allowed.
pub record ChainAnswersAreOne : Type 0 where
  pub remove : (size : ℕ) (pages : Pages) (first page number : ℕ) → IsOne (removed size pages first page number)
  pub change : (size : ℕ) (pages : Pages) (first page : ℕ) (entry : Entry) → IsOne (changed size pages first page entry)

-- What is read of a table: it is never refused, the rows are one list in rising number, no number twice and each below
-- the next row number, and each is found on the page where it stands. The page that the first page names as the last
-- one is the last of its chain.
pub record ReadsTable (size : ℕ) (pages : Pages) (first : ℕ) : Type 0 where
  pub scan : (why : Refusal) → scanned size pages first (Err why) → ⊥
  pub next_number : (why : Refusal) → next_of size pages first (Err why) → ⊥
  pub numbers : (table : Table) → IsTable size pages first table → (number : ℕ)
      → (times_numbered number table.rows ≤ 1) × (0 < times_numbered number table.rows → number < table.next_number)
  pub numbered : (table : Table) → IsTable size pages first table → IsNumbered table
  pub get : (table : Table) (placed : Placed) → IsTable size pages first table → Contains table.rows placed
      → got size pages placed.page placed.number (Ok (Some placed.row))
  pub rows_one : IsOne (scanned size pages first)
  pub last : (last : ℕ) (tail : HeapPage) → EndsAt size pages first last tail
      → (links : List Link) × chain size pages first (Ok links) × (end_of first links ≡ last) × (tail.next ≡ 0)

-- So is each table of well-formed pages read.
abbrev pub ReadLaw : Type 0
ReadLaw = (size : ℕ) (pages : Pages) (firsts indexes : List ℕ) (first : ℕ)
    → WellFormed size pages firsts indexes → Contains firsts first → ReadsTable size pages first

-- every page of the store is zero, as where it was never written
abbrev pub AreZero : ℕ → Pages → Type 0
AreZero size pages = (page : ℕ) → page < size → pages.at page ≡ replicate PAGE_BYTES 0

-- A store of zero pages is well-formed, without a table and also with the one that begins with page 1, which has no
-- row.
pub record FreshLaw : Type 0 where
  pub none : (size : ℕ) (pages : Pages) → AreZero size pages → 2 ≤ size → size < 2 ^ 32 → WellFormed size pages [] []
  pub catalog : (size : ℕ) (pages : Pages) → AreZero size pages → 2 ≤ size → size < 2 ^ 32
      → WellFormed size pages (1 ∷ []) []
  pub empty : (size : ℕ) (pages : Pages) → AreZero size pages → 2 ≤ size
      → IsTable size pages 1 (record { next_number = 0; rows = [] })

-- A page of bytes holds only what can be written again.
abbrev pub SizedLaw : Type 0
SizedLaw = (bytes : List ℕ) (held : HeapPage) → length bytes ≡ PAGE_BYTES →
    ((place : ℕ) → slice_index bytes place < 256)
    → HoldsRows bytes held → IsSized held

-- a page was taken for an index
pub record TakesForIndex (size : ℕ) (pages : Pages) (firsts indexes : List ℕ) (page : ℕ) (after : Pages) : Type 0 where
  pub takes : TakesPage size pages after page
  pub edits : EditsExactly pages after (0 ∷ [])
  pub stay : AllStay size pages after firsts
  pub well : WellFormed size after firsts (page ∷ indexes)

-- so many pages were taken for indexes, one after the other
pub record TakesForIndexes (size : ℕ) (pages : Pages) (firsts indexes : List ℕ) (count : ℕ) (taken : List ℕ)
    (after : Pages) : Type 0 where
  pub fewer : count + free_pages size after ≡ free_pages size pages
  pub edits : EditsOnly (0 ∷ []) pages after
  pub stay : AllStay size pages after firsts
  pub well : WellFormed size after firsts (taken ++ indexes)

-- The pages of the indexes: one is taken as a table's first page is, and so are many, which is refused exactly where
-- fewer are free. Whatever is written on them, the store stays well-formed and each table as it was. Their order does
-- not count, and none of them is taken again.
pub record IndexPagesLaw : Type 0 where
  pub take : (size : ℕ) (pages : Pages) (firsts indexes : List ℕ) (answer : Result (ℕ × Pages) Refusal)
      → WellFormed size pages firsts indexes → taken size pages ≡ answer
      → DoesOrIsFull size (λ page after. TakesForIndex size pages firsts indexes page after) (free_pages size pages ≡ 0)
      answer
  pub take_many : (size : ℕ) (pages : Pages) (firsts indexes : List ℕ) (count : ℕ)
      (answer : Result (List ℕ × Pages) Refusal)
      → WellFormed size pages firsts indexes → all_taken size count pages ≡ answer
      → DoesOrIsFull size (λ taken after. TakesForIndexes size pages firsts indexes count taken after)
      (free_pages size pages < count) answer
  pub write : (size : ℕ) (pages after : Pages) (firsts indexes : List ℕ)
      → WellFormed size pages firsts indexes → EditsOnly indexes pages after
      → WellFormed size after firsts indexes × AllStay size pages after firsts
  pub reorder : (size : ℕ) (pages : Pages) (firsts indexes others : List ℕ)
      → WellFormed size pages firsts indexes → IsPermutation indexes others → WellFormed size pages firsts others
  pub apart : (size : ℕ) (pages : Pages) (firsts held others : List ℕ)
      → WellFormed size pages firsts (held ++ others) → IsApart size pages held

-- these pages are as before, and not edited
abbrev pub AreSpared : List ℕ → Pages → Pages → Type 0
AreSpared list pages after =
    (page : ℕ) → Contains list page → (after.at page ≡ pages.at page) × (after.edited page ≡ pages.edited page)

-- The calls on tables leave the pages of the indexes alone.
pub record IndexesStayLaw : Type 0 where
  pub make : (size : ℕ) (pages after : Pages) (firsts indexes : List ℕ) (first : ℕ)
      → WellFormed size pages firsts indexes → MakesTable size pages firsts indexes first after
      → AreSpared indexes pages after
  pub add : (size : ℕ) (pages after : Pages) (firsts indexes : List ℕ) (first : ℕ) (table : Table) (row : List Value)
      (placed : ℕ × ℕ)
      → WellFormed size pages firsts indexes → Contains firsts first
      → AddsRow size pages firsts indexes first table row placed after → AreSpared indexes pages after
  pub remove : (size : ℕ) (pages after : Pages) (firsts indexes : List ℕ) (first : ℕ) (table : Table) (page number : ℕ)
      → WellFormed size pages firsts indexes → Contains firsts first
      → RemovesRow size pages firsts indexes first table page number after → AreSpared indexes pages after
  pub change : (size : ℕ) (pages after : Pages) (firsts indexes : List ℕ) (first : ℕ) (table : Table) (page : ℕ)
      (entry : Entry) (to : ℕ)
      → WellFormed size pages firsts indexes → Contains firsts first
      → ChangesRow size pages firsts indexes first table page entry to after → AreSpared indexes pages after
