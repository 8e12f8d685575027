-- The pages of a table: a chain of heap pages.
use Rattle.std.specs.Prelude.{◌≡◌, ◌≢◌, ◌<◌, ◌≤◌, ◌⊎◌, ◌-◌, ◌==◌, ℕ, List, [], ◌∷◌, length, map}
use Rattle.std.specs.Prelude.{slice_index_or, Option, Some, None, Result, Ok, Err, if◌then◌else◌, position}
use Rattle.std.specs.List.{flat_map}
use Rattle.std.specs.List.Sorted.{IsPermutation, IsNonDecreasingBy}
use Rattle.retro_base.specs.declared.refusal.Refusal.{Refusal}
use Rattle.pager.specs.Pages.{Pages, broken}
use Rattle.heap_file.specs.declared.page.Entry.{Entry}
use Rattle.heap_file.specs.declared.page.HeapPage.{HeapPage}
use Rattle.heap_file.specs.declared.chain.Link.{Link}
use Rattle.heap_file.specs.declared.chain.Placed.{Placed}
use Rattle.heap_file.specs.HeapPage.{HoldsRows, IsHeapPage}

-- the page of that number is there, and holds this
pub record IsAt (size : ℕ) (pages : Pages) (page : ℕ) (held : HeapPage) : Type 0 where
  pub named : 0 < page
  pub there : page < size
  pub holds : HoldsRows (pages.at page) held

-- the bytes of a page; page 0, and a page outside the store, is broken
abbrev pub page_there : ℕ → Pages → ℕ → Result (List ℕ) Refusal → Type 0
page_there size pages page (Ok bytes) = (0 < page) × (page < size) × (pages.at page ≡ bytes)
page_there size pages page (Err why) = (why ≡ broken page) × ((page ≡ 0) ⊎ (size ≤ page))

-- what a page holds; one that is not there, or whose bytes are no heap page's, is broken
abbrev pub heap_page : ℕ → Pages → ℕ → Result HeapPage Refusal → Type 0
heap_page size pages page (Ok held) = IsAt size pages page held
heap_page size pages page (Err why) = (why ≡ broken page) × ((held : HeapPage) → IsAt size pages page held → ⊥)

-- these are the pages that are met from that one on, each named by the one before, with what they hold, and the last
-- names that one
abbrev pub IsWay : ℕ → Pages → ℕ → List Link → ℕ → Type 0
IsWay size pages from [] to = from ≡ to
IsWay size pages from (link ∷ links) to =
    (link.page ≡ from) × IsAt size pages link.page link.held × IsWay size pages link.held.next links to

-- the way along a chain ends: after as many pages as the store has, or at a page that is broken
abbrev pub Stops : ℕ → Pages → List Link → ℕ → Type 0
Stops size pages links page = (length links ≡ size) ⊎ ((held : HeapPage) → IsAt size pages page held → ⊥)

-- the way along a chain is still open: its first page is yet to be read, or the last page read names a next one
abbrev pub IsOpenWay : List Link → ℕ → Type 0
IsOpenWay [] page = Unit {0}
IsOpenWay (link ∷ links) page = page ≢ 0

-- The chain that begins with a page: each of its pages names the next, and the last names none. A chain with a broken
-- page, or longer than the store, is none, and is told by the page where that shows.
abbrev pub chain : ℕ → Pages → ℕ → Result (List Link) Refusal → Type 0
chain size pages first (Ok links) = (1 ≤ length links) × (length links ≤ size) × IsWay size pages first links 0
chain size pages first (Err why) =
    (links : List Link) × (page : ℕ) × (why ≡ broken page) × IsWay size pages first links page × IsOpenWay links page
    × Stops size pages links page

-- a page that was read can be written again
abbrev pub IsWritable : ℕ → Link → Type 0
IsWritable size link = (link.page < size) × IsHeapPage link.held

-- a page that is known holds this still
abbrev pub HoldsStill : ℕ → Pages → Option Link → Type 0
HoldsStill size pages None = Unit {0}
HoldsStill size pages (Some link) = IsAt size pages link.page link.held

-- a page with what it holds; one that is not there, or whose bytes are no heap page's, is broken
abbrev pub linked : ℕ → Pages → ℕ → Result Link Refusal → Type 0
linked size pages page (Ok link) = (link.page ≡ page) × IsAt size pages link.page link.held
linked size pages page (Err why) = heap_page size pages page (Err why)

-- the place of the first link to a page, or none where no link is to it
abbrev pub link_place : ℕ → List Link → Option ℕ
link_place page links = position (λ (link : Link). link.page == page) links

-- a page stands in a chain, behind the previous one (0 where it is the first), and holds this
pub record StandsIn (links : List Link) (page previous : ℕ) (held : HeapPage) : Type 0 where
  pub place : ℕ
  pub first : link_place page links ≡ Some place
  pub here : (d : Link) → slice_index_or links place d ≡ record { page = page; held = held }
  pub behind : ((place ≡ 0) × (previous ≡ 0))
      ⊎ ((0 < place) × ((d : Link) → (slice_index_or links (place - 1) d).page ≡ previous))

-- the page before a page of a chain, and what the page holds; a page that is not in the chain is broken
abbrev pub met : ℕ → Pages → ℕ → ℕ → Result (ℕ × HeapPage) Refusal → Type 0
met size pages first page (Ok found) = (links : List Link) × chain size pages first (Ok links)
    × StandsIn links page found.0 found.1
met size pages first page (Err why) =
    chain size pages first (Err why)
    ⊎
    ((links : List Link) × chain size pages first (Ok links) × (why ≡ broken page) × (link_place page links ≡ None))

-- the entries of a page as rows of its table
abbrev pub rows_on : Link → List Placed
rows_on link = map (λ (entry : Entry). record { number = entry.number; page = link.page; row = entry.row })
    link.held.entries

-- the rows of a chain, page by page
abbrev pub rows_of : List Link → List Placed
rows_of links = flat_map rows_on links

-- these are those rows in rising number
abbrev pub InOrder : List Placed → List Placed → Type 0
InOrder rows sorted = IsPermutation rows sorted × IsNonDecreasingBy (λ (placed : Placed). placed.number) sorted

-- the rows of the table that begins with a page, in rising number
abbrev pub scanned : ℕ → Pages → ℕ → Result (List Placed) Refusal → Type 0
scanned size pages first (Ok sorted) = (links : List Link) × chain size pages first (Ok links)
    × InOrder (rows_of links) sorted
scanned size pages first (Err why) = chain size pages first (Err why)

-- the last page of a chain, as its first page names it; 0 is the first page itself
abbrev pub last_page : ℕ → HeapPage → ℕ
last_page first head = if head.last == 0 then first else head.last
