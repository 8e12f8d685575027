-- The entries that a table's rows have in its indexes, and what becomes of them. An index over pages is known here by
-- how one entry is added to it and taken out of it.
use Rattle.std.specs.Prelude.{◌==◌, ◌&&◌, ℕ, Bool, false, List, Option, Some}
use Rattle.std.specs.Prelude.{None, Result, Ok, Err, slice_get, if◌then◌else◌}
use Rattle.std.specs.List.{filter_map}
use Rattle.std.specs.List.Sorted.{IsPermutation, IsSorted}
use Rattle.std.specs.Option.{option_map}
use Rattle.std.specs.Ordering.{is_eq}
use Rattle.retro_base.specs.declared.refusal.Refusal.{Refusal}
use Rattle.values.specs.Value.{value_cmp}
use Rattle.values.specs.declared.value.Value.{Value}
use Rattle.pager.specs.Allows.{◌>>=◌, in_turn, only}
use Rattle.pager.specs.Index.{found_cmp}
use Rattle.pager.specs.Pages.{Pages}
use Rattle.pager.specs.declared.index.Found.{Found}
use Rattle.heap_file.specs.declared.chain.Placed.{Placed}
use Rattle.relation.specs.declared.catalog.StoredIndex.{StoredIndex}
use Rattle.relation.specs.declared.listing.EntryEdit.{EntryEdit}
use Rattle.relation.specs.declared.listing.EntryEdit.TheVariants.{Add, Remove}
use Rattle.relation.specs.declared.listing.Moved.{Moved}

-- what an edit of the index with a root page by an entry does to the pages of a store
abbrev pub EditsIndex : Type 1
EditsIndex = ℕ → ℕ → Found → Pages → Result (Unit {0} × Pages) Refusal → Type 0

-- an entry is added, or taken out
abbrev pub edit_of : EditsIndex → EditsIndex → EntryEdit → EditsIndex
edit_of add remove Add = add
edit_of add remove Remove = remove

-- the entry of a row in an index over the column at that place: its value there; none where it has no such column
abbrev pub entry_of : ℕ → Placed → Option Found
entry_of place placed = option_map
    (λ (value : Value). record { value = value; number = placed.number; page = placed.page })
    (slice_get placed.row place)

-- the entries of rows, in order
abbrev pub entries_of : ℕ → List Placed → List Found
entries_of place rows = filter_map (entry_of place) rows

-- these entries in order of value and then of row number
abbrev pub in_order : List Found → Result (List Found) Refusal → Type 0
in_order entries (Ok sorted) = IsPermutation entries sorted × IsSorted found_cmp sorted
in_order entries (Err why) = ⊥

-- an index is edited by each of these entries, in order
abbrev pub entries_edited : EditsIndex → ℕ → ℕ → List Found → Pages → Result (Unit {0} × Pages) Refusal → Type 0
entries_edited edit size root = in_turn (edit size root)

-- each of these indexes is edited by the entries of these rows, in order
abbrev pub rows_listed : EditsIndex → ℕ → List StoredIndex → List Placed → Pages → Result (Unit {0} × Pages) Refusal
    → Type 0
rows_listed edit size indexes rows = in_turn
    (λ (index : StoredIndex). entries_edited edit size index.root (entries_of index.place rows)) indexes

-- an index is edited by an entry, where there is one
abbrev pub entry_edited : EditsIndex → ℕ → ℕ → Option Found → Pages → Result (Unit {0} × Pages) Refusal → Type 0
entry_edited edit size root None pages = only (Ok (tt, pages))
entry_edited edit size root (Some entry) pages = edit size root entry pages

-- two values are there and are one
abbrev pub is_one_value : Option Value → Option Value → Bool
is_one_value (Some a) (Some b) = is_eq (value_cmp a b)
is_one_value (Some a) None = false
is_one_value None b = false

-- a row has the value still that it had in the column at that place
abbrev pub value_stays : ℕ → Moved → Bool
value_stays place moved = is_one_value (slice_get moved.was.row place) (slice_get moved.becomes.row place)

-- the entry of a row that is taken out as the row moves: none where the value stays
abbrev pub entry_out : ℕ → Moved → Option Found
entry_out place moved = if value_stays place moved then None else entry_of place moved.was

-- The entry that is added then: none where the value stays and the page too. Where the page alone differs, the entry
-- takes the place of the one before.
abbrev pub entry_in : ℕ → Moved → Option Found
entry_in place moved =
    if value_stays place moved && (moved.was.page == moved.becomes.page) then None else entry_of place moved.becomes

-- an index follows what became of a row
abbrev pub row_moved : EditsIndex → EditsIndex → ℕ → StoredIndex → Moved → Pages → Result (Unit {0} × Pages) Refusal
    → Type 0
row_moved add remove size index moved pages = do
  without ← entry_edited remove size index.root (entry_out index.place moved) pages
  entry_edited add size index.root (entry_in index.place moved) without.1

-- each of these indexes follows what became of these rows, in order
abbrev pub rows_moved : EditsIndex → EditsIndex → ℕ → List StoredIndex → List Moved → Pages
    → Result (Unit {0} × Pages) Refusal → Type 0
rows_moved add remove size indexes moves = in_turn
    (λ (index : StoredIndex). in_turn (row_moved add remove size index) moves) indexes
