-- The pages that a call takes.
use Rattle.std.specs.Prelude.{◌≡◌, ◌⊎◌, ◌<◌, ◌+◌, ◌-◌, ◌==◌, not, ℕ, zero, suc, Bool, List, [], ◌∷◌}
use Rattle.std.specs.Prelude.{length, map, nat_le, nat_lt, Some, Result, Ok, Err, if◌then◌else◌}
use Rattle.std.specs.List.{filter, range_with_len, sum_by}
use Rattle.retro_base.specs.Fields.{number_at}
use Rattle.retro_base.specs.declared.refusal.Refusal.{Refusal}
use Rattle.values.specs.declared.value.Value.{Value}
use Rattle.values.specs.Row.{row_bytes}
use Rattle.sql_tree.specs.declared.statement.Column.{Column as TableColumn}
use Rattle.pager.specs.Pages.{Pages}
use Rattle.pager.specs.declared.index.Found.{Found}
use Rattle.heap_file.specs.declared.page.HeapPage.{HeapPage}
use Rattle.heap_file.specs.declared.page.TheConstants.{ENTRY_BYTES}
use Rattle.heap_file.specs.declared.chain.Placed.{Placed}
use Rattle.heap_file.specs.HeapPage.{entry_bytes}
use Rattle.heap_laws.specs.Store.{free_pages, root_at}
use Rattle.heap_laws.specs.Table.{EndsAt}
use Rattle.tree_index.specs.Tree.{Lists, Shape, empty, opens, put, without}
use Rattle.relation.specs.declared.catalog.StoredIndex.{StoredIndex}
use Rattle.relation.specs.declared.catalog.StoredTable.{StoredTable}
use Rattle.relation.specs.declared.catalog.TheConstants.{CATALOG}
use Rattle.relation.specs.CatalogRow.{row_values}
use Rattle.relation.specs.declared.drafting.RowChange.{RowChange}
use Rattle.relation.specs.declared.listing.Moved.{Moved}
use Rattle.relation.specs.Each.{each}
use Rattle.relation.specs.Work.{all_changed, all_placed, change_of, entries_at}
use Rattle.relation.specs.Work.{row_of_index, rows_at, rows_of_table, table_in}
use Rattle.sql_tree.specs.Scope.{column_place}
use Rattle.relation_laws.specs.Turns.{Turn, comes, entries_open, moves, turns_open}

-- the bytes of a row's entry on a page: its length in two bytes, and its encoding
abbrev pub entry_size : List Value → ℕ
entry_size row = 2 + row_bytes row

-- How many pages rows open at the end of a table whose last page has so many bytes of rows: each stands on the last
-- page where it has room there, else on a new one.
abbrev pub pages_opened : ℕ → List (List Value) → ℕ
pages_opened taken [] = 0
pages_opened taken (row ∷ rows) =
    if nat_le (taken + entry_size row) ENTRY_BYTES then pages_opened (taken + entry_size row) rows
    else 1 + pages_opened (entry_size row) rows

-- the page so many places behind a page of the free list
abbrev pub free_behind : Pages → ℕ → ℕ → ℕ
free_behind pages page zero = page
free_behind pages page (suc places) = free_behind pages (number_at 4 (pages.at page) 4) places

-- the page that is taken after so many others: those of the free list in its order, and then those that were never used
abbrev pub taken_after : Pages → ℕ → ℕ
taken_after pages others =
    if nat_lt others (root_at pages).free then free_behind pages (root_at pages).first_free others
    else 2 + (root_at pages).used + (others - (root_at pages).free)

-- so many pages that are taken next
abbrev pub next_pages : Pages → ℕ → List ℕ
next_pages pages count = map (taken_after pages) (range_with_len 0 count)

-- how many pages rows need that are added to the table that begins with that page
abbrev pub RowsNeed : ℕ → Pages → ℕ → List (List Value) → ℕ → Type 0
RowsNeed size pages first rows needs =
    (last : ℕ) × (tail : HeapPage) × EndsAt size pages first last tail
    × (needs ≡ pages_opened (length (entry_bytes tail.entries)) rows)

-- how many pages indexes open as rows turn, one index after the other, each along what it holds
abbrev pub IndexesNeed : ℕ → Pages → List StoredIndex → List Turn → ℕ → Type 0
IndexesNeed size pages [] turns needs = needs ≡ 0
IndexesNeed size pages (index ∷ indexes) turns needs =
    (shape : Shape) × (held : List ℕ) × Lists size pages index.root shape held × (more : ℕ)
    × IndexesNeed size pages indexes turns more × (needs ≡ turns_open put without opens index.place turns shape + more)

-- How many pages a change of a table needs whose rows need so many: where fewer are free, it ends there; else its
-- indexes need more as the rows turn.
abbrev pub NeedsThen : ℕ → Pages → StoredTable → ℕ → (List Turn → Type 0) → ℕ → Type 0
NeedsThen size pages table rows turned needs =
    ((free_pages size pages < rows) × (needs ≡ rows))
    ⊎ ((turns : List Turn) × turned turns × (more : ℕ) × IndexesNeed size pages table.indexes turns more
    × (needs ≡ rows + more))

-- rows come to a table and stand somewhere
abbrev pub TurnInserted : ℕ → Pages → StoredTable → List (List Value) → List Turn → Type 0
TurnInserted size pages table rows turns =
    (placed : List Placed) × (after : Pages) × all_placed size table.first rows pages (Ok (placed, after))
    × (turns ≡ map comes placed)

-- how many pages an insert into the table of that name needs
abbrev pub InsertNeeds : ℕ → Pages → List ℕ → List (List Value) → ℕ → Type 0
InsertNeeds size pages name rows needs = (table : StoredTable) × table_in size pages name (Ok table)
    × (first : ℕ) × RowsNeed size pages table.first rows first
    × NeedsThen size pages table first (TurnInserted size pages table rows) needs

-- how many pages a new table needs: its first page, and those that its rows open in the catalog, which are as long
-- whatever that page is
abbrev pub CreateNeeds : ℕ → Pages → List ℕ → List TableColumn → ℕ → Type 0
CreateNeeds size pages name columns needs = (behind : ℕ)
    × RowsNeed size pages CATALOG (map row_values (rows_of_table name 0 columns)) behind × (needs ≡ 1 + behind)

-- How many pages an index over a column of a table needs: its root page, those that its row opens in the catalog, which
-- is as long whatever the column's place and the root page are, and those that the entries of the table's rows open in
-- it, in order.
abbrev pub IndexNeeds : ℕ → Pages → List ℕ → List ℕ → List ℕ → ℕ → Type 0
IndexNeeds size pages name table column needs =
    (found : StoredTable) × table_in size pages table (Ok found)
    × (place : ℕ) × (column_place column found.columns ≡ Some place)
    × (entries : List Found) × entries_at size pages found place (Ok entries)
    × (behind : ℕ) × RowsNeed size pages CATALOG (row_values (row_of_index name table 0 0) ∷ []) behind
    × (needs ≡ 1 + (behind + entries_open put opens entries empty))

-- a call that needs so many pages takes them, and is refused exactly where fewer are free
abbrev pub TakesNeeded : {A : Type 0} → ℕ → Pages → ℕ → Result (A × Pages) Refusal → Type 0
TakesNeeded size pages needs (Ok answer) = needs + free_pages size answer.1 ≡ free_pages size pages
TakesNeeded size pages needs (Err why) = free_pages size pages < needs

-- the bytes that the rows on a page take
abbrev pub bytes_on : ℕ → List Placed → ℕ
bytes_on page rows = sum_by (λ (placed : Placed). if placed.page == page then entry_size placed.row else 0) rows

-- whether a page has room for a changed row, once its old row is taken out
abbrev pub has_room_for : ℕ × List Value → ℕ → List Placed → Bool
has_room_for change page rows =
    nat_le (bytes_on page (filter (λ (placed : Placed). not (placed.number == change.0)) rows) + entry_size change.1)
    ENTRY_BYTES

-- the page of the row of that number
abbrev pub page_under : ℕ → List Placed → ℕ
page_under number [] = 0
page_under number (placed ∷ rows) = if placed.number == number then placed.page else page_under number rows

-- the rows, of which that of the change's number is now this one, on that page
abbrev pub moved_to : ℕ × List Value → ℕ → List Placed → List Placed
moved_to change page rows =
    map
    (λ (placed : Placed). if placed.number == change.0
    then record { number = change.0; page = page; row = change.1 } else placed) rows

-- The pages that changes open, one after the other, in a table with these rows and that last page: a changed row stays
-- on its page where that has room, else it goes to the last page where that has room, else to a new one, which is the
-- last then. The pages that are taken next are those.
abbrev pub changes_open : (ℕ → ℕ) → ℕ → List Placed → List (ℕ × List Value) → ℕ
changes_open next last rows [] = 0
changes_open next last rows (change ∷ changes) =
    if has_room_for change (page_under change.0 rows) rows
    then changes_open next last (moved_to change (page_under change.0 rows) rows) changes
    else (if has_room_for change last rows then changes_open next last (moved_to change last rows) changes
    else 1 + changes_open (λ place. next (1 + place)) (next 0) (moved_to change (next 0) rows) changes)

-- rows of a table change, each under its number, and stand somewhere then
abbrev pub TurnUpdated : ℕ → Pages → StoredTable → List Placed → List (ℕ × List Value) → List Turn → Type 0
TurnUpdated size pages table rows changes turns =
    (told : List RowChange) × each (change_of table.first rows) changes (Ok told)
    × (moved : List Moved) × (after : Pages) × all_changed size table.first told pages (Ok (moved, after))
    × (turns ≡ map moves moved)

-- how many pages an update of the table of that name needs
abbrev pub UpdateNeeds : ℕ → Pages → List ℕ → List (ℕ × List Value) → ℕ → Type 0
UpdateNeeds size pages name changes needs =
    (table : StoredTable) × table_in size pages name (Ok table) × (rows : List Placed)
    × rows_at size pages table (Ok rows)
    × (last : ℕ) × (tail : HeapPage) × EndsAt size pages table.first last tail
    × NeedsThen size pages table (changes_open (taken_after pages) last rows changes)
    (TurnUpdated size pages table rows changes) needs
