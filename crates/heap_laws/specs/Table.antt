-- What a call does to a table as a whole, and to the store around it.
use Rattle.std.specs.Prelude.{◌≡◌, ◌<◌, ◌≢◌, ◌+◌, ◌++◌, ◌==◌, ◌||◌, ◌&&◌, not, ℕ, Bool, true, false}
use Rattle.std.specs.Prelude.{List, [], ◌∷◌, length, slice_index_or, map, Some, Ok, if◌then◌else◌}
use Rattle.std.specs.List.{Contains, filter, list_any}
use Rattle.values.specs.declared.value.Value.{Value}
use Rattle.row_codec.specs.RowCode.{row_code, IsEncoded}
use Rattle.pager.specs.Pages.{Pages, with_bytes}
use Rattle.heap_file.specs.declared.page.Entry.{Entry}
use Rattle.heap_file.specs.declared.page.HeapPage.{HeapPage}
use Rattle.heap_file.specs.declared.chain.Placed.{Placed}
use Rattle.heap_file.specs.Chain.{IsAt, last_page, met, scanned}
use Rattle.heap_file.specs.HeapPage.{page_bytes, have_room}
use Rattle.heap_file.specs.Work.{next_of, without, place_of}
use Rattle.heap_laws.specs.Store.{WellFormed, free_pages, next_free, root_at}

-- what a table has: the next row number, and the rows in rising number, each with the page where it stands
pub record Table : Type 0 where
  pub next_number : ℕ
  pub rows : List Placed

-- the table that begins with that page, as its pages tell it
pub record IsTable (size : ℕ) (pages : Pages) (first : ℕ) (table : Table) : Type 0 where
  pub next_number : next_of size pages first (Ok table.next_number)
  pub rows : scanned size pages first (Ok table.rows)

-- the row numbers of a table rise, and lie below the next one
pub record IsNumbered (table : Table) : Type 0 where
  pub rise : (i j : ℕ) (d : Placed) → i < j → j < length table.rows
      → (slice_index_or table.rows i d).number < (slice_index_or table.rows j d).number
  pub below : (i : ℕ) (d : Placed) → i < length table.rows → (slice_index_or table.rows i d).number < table.next_number

-- a row that can be stored, whatever its number
abbrev pub IsStorable : List Value → Type 0
IsStorable row = IsEncoded (row_code 0 row) 0 row

-- a table with one more row, under the next row number
abbrev pub with_row : Table → ℕ → List Value → Table
with_row table page row = record {
  next_number = table.next_number + 1;
  rows = table.rows ++ record { number = table.next_number; page = page; row = row } ∷ [];
}

-- a table without the row of that number
abbrev pub without_row : Table → ℕ → Table
without_row table number = record {
  next_number = table.next_number;
  rows = filter (λ (placed : Placed). not (placed.number == number)) table.rows;
}

-- a table whose row of that number is this one
abbrev pub with_changed : Table → Placed → Table
with_changed table changed = record {
  next_number = table.next_number;
  rows = map (λ (placed : Placed). if placed.number == changed.number then changed else placed) table.rows;
}

-- every table but the one that begins with that page is as it was
abbrev pub OthersStay : ℕ → Pages → Pages → List ℕ → ℕ → Type 0
OthersStay size pages after firsts first =
    (other : ℕ) → Contains firsts other → other ≢ first → (table : Table) → IsTable size pages other table
    → IsTable size after other table

-- every table is as it was
abbrev pub AllStay : ℕ → Pages → Pages → List ℕ → Type 0
AllStay size pages after firsts =
    (first : ℕ) → Contains firsts first → (table : Table) → IsTable size pages first table
    → IsTable size after first table

-- these pages are edited; every other page is as before
pub record EditsExactly (pages after : Pages) (list : List ℕ) : Type 0 where
  pub same : (page : ℕ) → list_any (λ other. page == other) list ≡ false → after.at page ≡ pages.at page
  pub edited : (page : ℕ) → after.edited page ≡ (list_any (λ other. page == other) list || pages.edited page)

-- the page that was next to be taken is taken
pub record TakesPage (size : ℕ) (pages after : Pages) (page : ℕ) : Type 0 where
  pub next : page ≡ next_free pages
  pub one_less : 1 + free_pages size after ≡ free_pages size pages

-- no page is taken, and none is freed
abbrev pub TakesNone : ℕ → Pages → Pages → Type 0
TakesNone size pages after = free_pages size after ≡ free_pages size pages

-- the last page of a chain, as its first page names it, and what it holds
pub record EndsAt (size : ℕ) (pages : Pages) (first last : ℕ) (tail : HeapPage) : Type 0 where
  pub head : HeapPage
  pub at_first : IsAt size pages first head
  pub named : last_page first head ≡ last
  pub at_last : IsAt size pages last tail

-- whether an entry fits on a page behind the entries that stand there
abbrev pub has_room : HeapPage → Entry → Bool
has_room held entry = have_room (held.entries ++ entry ∷ [])

-- an added row goes to the last page where it has room, else to a page that is taken
abbrev pub IsAdded : Bool → ℕ → Pages → Pages → ℕ → ℕ → ℕ → Type 0
IsAdded true size pages after first last page = (page ≡ last) × TakesNone size pages after
    × EditsExactly pages after (first ∷ last ∷ [])
IsAdded false size pages after first last page = TakesPage size pages after page
    × EditsExactly pages after (first ∷ last ∷ page ∷ 0 ∷ [])

-- a row was added to a table: it stands last, under the next row number
pub record AddsRow (size : ℕ) (pages : Pages) (firsts indexes : List ℕ) (first : ℕ) (table : Table) (row : List Value)
    (placed : ℕ × ℕ) (after : Pages) : Type 0 where
  pub number : placed.0 ≡ table.next_number
  pub shows : IsTable size after first (with_row table placed.1 row)
  pub others : OthersStay size pages after firsts first
  pub well : WellFormed size after firsts indexes
  pub last : ℕ
  pub tail : HeapPage
  pub ends : EndsAt size pages first last tail
  pub effect : IsAdded (has_room tail (record { number = table.next_number; row = row })) size pages after first last
      placed.1

-- a row is refused: its last page has no room for it, and no page is free
pub record AddIsFull (size : ℕ) (pages : Pages) (first : ℕ) (entry : Entry) : Type 0 where
  pub last : ℕ
  pub tail : HeapPage
  pub ends : EndsAt size pages first last tail
  pub room : has_room tail entry ≡ false
  pub none : free_pages size pages ≡ 0

-- a table was made: its first page was free, and it has no row
pub record MakesTable (size : ℕ) (pages : Pages) (firsts indexes : List ℕ) (first : ℕ) (after : Pages) : Type 0 where
  pub shows : IsTable size after first (record { next_number = 0; rows = [] })
  pub others : AllStay size pages after firsts
  pub well : WellFormed size after (firsts ++ first ∷ []) indexes
  pub takes : TakesPage size pages after first
  pub edits : EditsExactly pages after (first ∷ 0 ∷ [])

-- the page is now the front of the free list, before those that were there
pub record Frees (size : ℕ) (pages after : Pages) (page : ℕ) : Type 0 where
  pub front : (root_at after).first_free ≡ page
  pub one_more : free_pages size after ≡ 1 + free_pages size pages

-- whether a page leaves its chain with the row that is taken out: it is not the first, and that is its only row
abbrev pub leaves : ℕ → ℕ → HeapPage → Bool
leaves first page held = not (page == first) && (length held.entries == 1)

-- a page that is left without a row is freed: the page before it names the next one, and where there is none, the first
-- page names it as the last
abbrev pub IsRemoved : Bool → ℕ → Pages → Pages → ℕ → ℕ → ℕ → HeapPage → Type 0
IsRemoved false size pages after first previous page held = TakesNone size pages after
    × EditsExactly pages after (page ∷ [])
IsRemoved true size pages after first previous page held =
    Frees size pages after page
    × EditsExactly pages after (previous ∷ page ∷ 0 ∷ (if held.next == 0 then first ∷ [] else []))

-- a row was taken out of a table; the next row number stays
pub record RemovesRow (size : ℕ) (pages : Pages) (firsts indexes : List ℕ) (first : ℕ) (table : Table) (page number : ℕ)
    (after : Pages) : Type 0 where
  pub shows : IsTable size after first (without_row table number)
  pub others : OthersStay size pages after firsts first
  pub well : WellFormed size after firsts indexes
  pub previous : ℕ
  pub held : HeapPage
  pub stood : met size pages first page (Ok (previous, held))
  pub effect : IsRemoved (leaves first page held) size pages after first previous page held

-- where a changed row stands: at its place where its page has room for it there, else at the end of the chain, which
-- the page without it still has
pub record StandsChanged (size : ℕ) (pages : Pages) (first page : ℕ) (entry : Entry) (rest : HeapPage) (last : ℕ)
    (tail : HeapPage) : Type 0 where
  pub previous : ℕ
  pub held : HeapPage
  pub place : ℕ
  pub stood : met size pages first page (Ok (previous, held))
  pub here : place_of entry.number held.entries ≡ Some place
  pub rest_is : rest ≡ without held place
  pub ends : EndsAt size (with_bytes pages page (page_bytes rest)) first last tail

-- a changed row stays on its page where it has room there, else it goes to the last page where it has room there, else
-- to a page that is taken
abbrev pub IsChanged : Bool → Bool → ℕ → Pages → Pages → ℕ → ℕ → ℕ → ℕ → Type 0
IsChanged true room size pages after first page last to = (to ≡ page) × TakesNone size pages after
    × EditsExactly pages after (page ∷ [])
IsChanged false true size pages after first page last to = (to ≡ last) × TakesNone size pages after
    × EditsExactly pages after (page ∷ last ∷ [])
IsChanged false false size pages after first page last to = TakesPage size pages after to
    × EditsExactly pages after (page ∷ first ∷ last ∷ to ∷ 0 ∷ [])

-- a row of a table was changed, and keeps its number
pub record ChangesRow (size : ℕ) (pages : Pages) (firsts indexes : List ℕ) (first : ℕ) (table : Table) (page : ℕ)
    (entry : Entry) (to : ℕ) (after : Pages) : Type 0 where
  pub shows : IsTable size after first
      (with_changed table (record { number = entry.number; page = to; row = entry.row }))
  pub others : OthersStay size pages after firsts first
  pub well : WellFormed size after firsts indexes
  pub rest : HeapPage
  pub last : ℕ
  pub tail : HeapPage
  pub stands : StandsChanged size pages first page entry rest last tail
  pub effect : IsChanged (has_room rest entry) (has_room tail entry) size pages after first page last to

-- a changed row is refused: neither its page nor the last page has room for it, and no page is free
pub record ChangeIsFull (size : ℕ) (pages : Pages) (first page : ℕ) (entry : Entry) : Type 0 where
  pub rest : HeapPage
  pub last : ℕ
  pub tail : HeapPage
  pub stands : StandsChanged size pages first page entry rest last tail
  pub room_here : has_room rest entry ≡ false
  pub room_last : has_room tail entry ≡ false
  pub none : free_pages size pages ≡ 0
