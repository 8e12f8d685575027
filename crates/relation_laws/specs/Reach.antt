-- The pages that a call may edit.
use Rattle.std.specs.Prelude.{◌≡◌, ◌≢◌, ℕ, List, [], ◌∷◌, length, map, Ok}
use Rattle.std.specs.List.{Contains}
use Rattle.values.specs.declared.value.Value.{Value}
use Rattle.pager.specs.Pages.{Pages}
use Rattle.heap_file.specs.declared.chain.Link.{Link}
use Rattle.heap_file.specs.declared.page.HeapPage.{HeapPage}
use Rattle.heap_file.specs.Chain.{chain}
use Rattle.heap_file.specs.HeapPage.{entry_bytes}
use Rattle.heap_laws.specs.Store.{free_pages}
use Rattle.heap_laws.specs.Table.{EditsExactly, EndsAt}
use Rattle.relation.specs.declared.catalog.Catalog.{Catalog}
use Rattle.tree_index.specs.Tree.{Lists, Shape}
use Rattle.relation.specs.declared.catalog.StoredIndex.{StoredIndex}
use Rattle.relation.specs.declared.catalog.StoredTable.{StoredTable}
use Rattle.relation.specs.declared.catalog.TheConstants.{CATALOG}
use Rattle.relation.specs.Catalog.{catalog}
use Rattle.relation.specs.Work.{table_in}
use Rattle.relation_laws.specs.Needs.{next_pages, pages_opened}

-- a page of the table that begins with a page
abbrev pub IsPageOf : ℕ → Pages → ℕ → ℕ → Type 0
IsPageOf size pages first page = (links : List Link) × chain size pages first (Ok links)
    × Contains (map (λ (link : Link). link.page) links) page

-- a page of an index that the table keeps
abbrev pub IsIndexPage : ℕ → Pages → StoredTable → ℕ → Type 0
IsIndexPage size pages table page = (index : StoredIndex) × Contains table.indexes index × (shape : Shape)
    × (held : List ℕ) × Lists size pages index.root shape held × Contains held page

-- a page that was not edited
abbrev pub IsUntouched : Pages → Pages → ℕ → Type 0
IsUntouched pages after page = (after.at page ≡ pages.at page) × (after.edited page ≡ pages.edited page)

-- What a call on the table of that name leaves alone: the root page, where as many pages are free as before, the pages
-- of the catalog, and those of the other tables and of their indexes.
pub record Reaches (size : ℕ) (pages : Pages) (name : List ℕ) (after : Pages) : Type 0 where
  pub root : free_pages size after ≡ free_pages size pages → IsUntouched pages after 0
  pub in_catalog : (page : ℕ) → IsPageOf size pages CATALOG page → IsUntouched pages after page
  pub in_others : (found : Catalog) (other : StoredTable) (page : ℕ) → catalog size pages (Ok found)
      → Contains found.tables other → other.name ≢ name
      → IsPageOf size pages other.first page → IsUntouched pages after page
  pub in_indexes : (found : Catalog) (other : StoredTable) (page : ℕ) → catalog size pages (Ok found)
      → Contains found.tables other → other.name ≢ name
      → IsIndexPage size pages other page → IsUntouched pages after page

-- pages that are taken, with the root page where there are any
abbrev pub with_root : List ℕ → List ℕ
with_root [] = []
with_root (page ∷ pages) = 0 ∷ page ∷ pages

-- The pages that rows edit that are added to the table of that name, and no other: the first page of the table, the
-- last one, and the pages that the rows open.
pub record EditsEnds (size : ℕ) (pages : Pages) (name : List ℕ) (rows : List (List Value))
    (after : Pages) : Type 0 where
  pub table : StoredTable
  pub named : table_in size pages name (Ok table)
  pub last : ℕ
  pub tail : HeapPage
  pub ends : EndsAt size pages table.first last tail
  pub edits : EditsExactly pages after
      (table.first ∷ last ∷ with_root (next_pages pages (pages_opened (length (entry_bytes tail.entries)) rows)))

-- what making a table or an index leaves alone: the pages of all tables and of their indexes
pub record ReachesCatalog (size : ℕ) (pages : Pages) (after : Pages) : Type 0 where
  pub in_tables : (found : Catalog) (other : StoredTable) (page : ℕ) → catalog size pages (Ok found)
      → Contains found.tables other
      → IsPageOf size pages other.first page → IsUntouched pages after page
  pub in_indexes : (found : Catalog) (other : StoredTable) (page : ℕ) → catalog size pages (Ok found)
      → Contains found.tables other
      → IsIndexPage size pages other page → IsUntouched pages after page
