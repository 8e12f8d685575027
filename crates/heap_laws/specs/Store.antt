-- A store of tables, whole: the chains of its tables, the pages of its indexes and the free list, no page twice.
use Rattle.std.specs.Prelude.{◌≡◌, ◌<◌, ◌≤◌, ◌+◌, ◌^◌, ◌++◌, ◌==◌, ℕ, List}
use Rattle.std.specs.Prelude.{[], ◌∷◌, length, map, drop, Ok, if◌then◌else◌}
use Rattle.std.specs.List.{flat_map, count_by, AllByRecursion}
use Rattle.pager.specs.Pages.{Pages}
use Rattle.pager.specs.Root.{root_of, root_in, free_count, IsFreeList}
use Rattle.pager.specs.declared.root.Root.{Root}
use Rattle.heap_file.specs.declared.page.HeapPage.{HeapPage}
use Rattle.heap_file.specs.declared.chain.Link.{Link}
use Rattle.heap_file.specs.declared.chain.Placed.{Placed}
use Rattle.heap_file.specs.Chain.{IsAt, IsWay, rows_of, last_page}
use Rattle.heap_file.specs.HeapPage.{IsHeapPage}

-- the chain of a table: its first page, and all its pages in order with what they hold
pub record Chain : Type 0 where
  pub first : ℕ
  pub links : List Link

-- the pages of a chain
abbrev pub pages_of : Chain → List ℕ
pages_of chain = map (λ (link : Link). link.page) chain.links

-- the pages of a chain behind its first
abbrev pub pages_behind : Chain → List ℕ
pages_behind chain = drop 1 (pages_of chain)

-- the last page of a chain that begins with that page
abbrev pub end_of : ℕ → List Link → ℕ
end_of first [] = first
end_of first (link ∷ links) = end_of link.page links

-- how often a page stands among pages
abbrev pub times : ℕ → List ℕ → ℕ
times page pages = count_by (λ other. other == page) pages

-- how often a row number stands among rows
abbrev pub times_numbered : ℕ → List Placed → ℕ
times_numbered number rows = count_by (λ (placed : Placed). placed.number == number) rows

-- what can be written on a page, each field in its width
pub record IsSized (held : HeapPage) : Type 0 where
  pub page : IsHeapPage held
  pub next : held.next < 2 ^ 32
  pub next_number : held.next_number < 2 ^ 64
  pub last : held.last < 2 ^ 32

-- The chain of a table over the pages: the first page names the last one, and the row numbers differ and are less than
-- the next row number.
pub record IsChain (size : ℕ) (pages : Pages) (chain : Chain) : Type 0 where
  pub leads : IsWay size pages chain.first chain.links 0
  pub sized : AllByRecursion (λ (link : Link). IsSized link.held) chain.links
  pub head : HeapPage
  pub at_first : IsAt size pages chain.first head
  pub names_last : last_page chain.first head ≡ end_of chain.first chain.links
  pub differ : (number : ℕ) → times_numbered number (rows_of chain.links) ≤ 1
  pub below : (number : ℕ) → 0 < times_numbered number (rows_of chain.links) → number < head.next_number

-- the root page's fields
abbrev pub root_at : Pages → Root
root_at pages = root_of (pages.at 0)

-- all pages of the chains, of the indexes, and of the free list
abbrev pub pages_held : List Chain → List ℕ → List ℕ → List ℕ
pages_held chains indexes free = flat_map pages_of chains ++ (indexes ++ free)

-- the same without the first pages of the chains
abbrev pub pages_inner : List Chain → List ℕ → List ℕ → List ℕ
pages_inner chains indexes free = flat_map pages_behind chains ++ (indexes ++ free)

-- The pages are a store's, whose tables begin with these first pages, in this order, and whose indexes hold those
-- pages: each page stands once, in a chain, among the indexes' or in the free list. It is one of those handed out,
-- which begin with page 2; but page 1, the catalog's, may be a first page.
pub record WellFormed (size : ℕ) (pages : Pages) (firsts indexes : List ℕ) : Type 0 where
  pub small : size < 2 ^ 32
  pub root : root_in size pages ≡ Ok (root_at pages)
  pub chains : List Chain
  pub free : List ℕ
  pub named : map (λ (chain : Chain). chain.first) chains ≡ firsts
  pub lawful : AllByRecursion (IsChain size pages) chains
  pub listed : IsFreeList pages (root_at pages).first_free free
  pub counted : length free ≡ (root_at pages).free
  pub once : (page : ℕ) → times page (pages_held chains indexes free) ≤ 1
  pub inside : (page : ℕ) → 0 < times page (pages_held chains indexes free) → (1 ≤ page)
      × (page < 2 + (root_at pages).used)
  pub inner : (page : ℕ) → 0 < times page (pages_inner chains indexes free) → 2 ≤ page

-- how many pages can still be taken
abbrev pub free_pages : ℕ → Pages → ℕ
free_pages size pages = free_count size (root_at pages)

-- the page that is taken next: the front of the free list, else the first that was never used
abbrev pub next_free : Pages → ℕ
next_free pages = if (root_at pages).free == 0 then 2 + (root_at pages).used else (root_at pages).first_free
