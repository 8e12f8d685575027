-- What the calls do to the pages, page by page.
use Rattle.std.specs.Option.{option_map}
use Rattle.std.specs.Prelude.{◌≡◌, ◌+◌, ◌-◌, ◌^◌, ◌++◌, ◌==◌, ◌&&◌, not, ℕ, List, [], ◌∷◌, length}
use Rattle.std.specs.Prelude.{Option, Some, None, Result, Ok, Err, if◌then◌else◌, position}
use Rattle.std.specs.List.{remove, insert, find}
use Rattle.retro_base.specs.declared.refusal.Refusal.{Refusal}
use Rattle.values.specs.declared.value.Value.{Value}
use Rattle.pager.specs.Pages.{Pages, with_bytes, broken}
use Rattle.pager.specs.Root.{taken, freed}
use Rattle.heap_file.specs.declared.page.Entry.{Entry}
use Rattle.heap_file.specs.declared.page.HeapPage.{HeapPage}
use Rattle.pager.specs.Allows.{◌>>=◌, only, either}
use Rattle.heap_file.specs.declared.chain.Link.{Link}
use Rattle.heap_file.specs.declared.chain.Placed.{Placed}
use Rattle.heap_file.specs.Chain.{IsAt, HoldsStill, heap_page, last_page, met, scanned}
use Rattle.heap_file.specs.HeapPage.{empty_page, have_room, page_bytes}

-- a page is taken for a table without rows
abbrev pub made : ℕ → Pages → Result (ℕ × Pages) Refusal → Type 0
made size pages = do
  next ← only (taken size pages)
  only (Ok (next.0, with_bytes next.1 next.0 (page_bytes empty_page)))

-- the next row number of a table
abbrev pub next_of : ℕ → Pages → ℕ → Result ℕ Refusal → Type 0
next_of size pages first = do
  head ← heap_page size pages first
  only (Ok head.next_number)

-- the rows of a table, in rising number, and its next row number
abbrev pub scanned_with_next : ℕ → Pages → ℕ → Result (List Placed × ℕ) Refusal → Type 0
scanned_with_next size pages first = do
  rows ← scanned size pages first
  next ← next_of size pages first
  only (Ok (rows, next))

-- the place of the first entry of that number, or none where no entry has it
abbrev pub place_of : ℕ → List Entry → Option ℕ
place_of number entries = position (λ (entry : Entry). entry.number == number) entries

-- the row of that number among entries
abbrev pub row_numbered : ℕ → List Entry → Option (List Value)
row_numbered number entries =
    option_map (λ (entry : Entry). entry.row) (find (λ (entry : Entry). entry.number == number) entries)

-- the row of that number on a page
abbrev pub got : ℕ → Pages → ℕ → ℕ → Result (Option (List Value)) Refusal → Type 0
got size pages page number = do
  held ← heap_page size pages page
  only (Ok (row_numbered number held.entries))

-- a page with one entry, the last of its chain
abbrev pub page_with : Entry → HeapPage
page_with entry = record { next = 0; next_number = 0; last = 0; entries = entry ∷ [] }

-- a new last page for an entry, behind the last page so far; the first page names it
abbrev pub lengthened : ℕ → Pages → ℕ → ℕ → HeapPage → Entry → Result (ℕ × Pages) Refusal → Type 0
lengthened size pages first last tail entry = do
  next ← only (taken size pages)
  let linked = with_bytes (with_bytes next.1 next.0 (page_bytes (page_with entry))) last
      (page_bytes (record tail { next = next.0 }))
  head ← heap_page size linked first
  only (Ok (next.0, with_bytes linked first (page_bytes (record head { last = next.0 }))))

-- the answer of a step on a chain whose first page holds this, with what the first page holds after it
abbrev pub with_head : ℕ → ℕ → (Result (ℕ × Pages) Refusal → Type 0) → Result ((ℕ × HeapPage) × Pages) Refusal → Type 0
with_head size first allows (Ok answer) = allows (Ok (answer.0.0, answer.1)) × IsAt size answer.1 first answer.0.1
with_head size first allows (Err why) = allows (Err why)

abbrev pub leaving_head : ℕ → Pages → Link → (Result (ℕ × Pages) Refusal → Type 0)
    → Result ((ℕ × HeapPage) × Pages) Refusal → Type 0
leaving_head size pages head allows answer =
    IsAt size pages head.page head.held → with_head size head.page allows answer

-- an entry goes to the end of the last page where it fits, else to a new last page
abbrev pub appended : ℕ → Pages → ℕ → Entry → Result (ℕ × Pages) Refusal → Type 0
appended size pages first entry = do
  head ← heap_page size pages first
  let last = last_page first head
  tail ← heap_page size pages last
  either (0 == tail.next)
      (either (have_room (tail.entries ++ entry ∷ []))
      (only (Ok (last, with_bytes pages last (page_bytes (record tail { entries = tail.entries ++ entry ∷ [] })))))
      (lengthened size pages first last tail entry))
      (only (Err (broken last)))

-- a row is added under the next row number, which is one more after it
abbrev pub added : ℕ → Pages → ℕ → List Value → Result ((ℕ × ℕ) × Pages) Refusal → Type 0
added size pages first row = do
  head ← heap_page size pages first
  either (head.next_number == 2 ^ 64 - 1)
      (only (Err (broken first)))
      (do
        placed ← appended size pages first (record { number = head.next_number; row = row })
        after ← heap_page size placed.1 first
        only
            (Ok (
              (head.next_number, placed.0),
              with_bytes placed.1 first
                  (page_bytes (record after { next_number = head.next_number + 1 })),
            )))

-- the place of a row on a page; a page that has no row of that number is broken
abbrev pub place_in : ℕ → ℕ → List Entry → Result ℕ Refusal → Type 0
place_in page number entries (Ok place) = place_of number entries ≡ Some place
place_in page number entries (Err why) = (why ≡ broken page) × (place_of number entries ≡ None)

-- a page without the entry at that place
abbrev pub without : HeapPage → ℕ → HeapPage
without held place = record held { entries = remove held.entries place }

-- how the first page names the last one: by 0 where that is itself
abbrev pub last_field : ℕ → ℕ → ℕ
last_field first last = if first == last then 0 else last

-- the first page names another last page; where that is itself, it names none
abbrev pub renamed : ℕ → Pages → ℕ → ℕ → ℕ → Result (Unit {0} × Pages) Refusal → Type 0
renamed size pages first last next =
    either (next == 0)
    (do
      head ← heap_page size pages first
      only (Ok (tt, with_bytes pages first (page_bytes (record head { last = last_field first last })))))
    (only (Ok (tt, pages)))

-- a page is taken out of its chain, and freed: the previous page names the next one
abbrev pub unlinked : ℕ → Pages → ℕ → ℕ → ℕ → ℕ → Result (Unit {0} × Pages) Refusal → Type 0
unlinked size pages first previous page next = do
  before ← heap_page size pages previous
  named ← renamed size (with_bytes pages previous (page_bytes (record before { next = next }))) first previous next
  only (freed size named.1 page)

-- a row is taken out of its page; a page that is then empty is taken out of the chain, unless it is the first
abbrev pub removed : ℕ → Pages → ℕ → ℕ → ℕ → Result (Unit {0} × Pages) Refusal → Type 0
removed size pages first page number = do
  held ← heap_page size pages page
  place ← place_in page number held.entries
  let rest = without held place
  either (not (page == first) && (length rest.entries == 0))
      (do
        found ← met size pages first page
        unlinked size pages first found.0 page rest.next)
      (only (Ok (tt, with_bytes pages page (page_bytes rest))))

-- the answer of a step on a page that holds this, with what is known of the page after it
abbrev pub with_known : ℕ → (Result (ℕ × Pages) Refusal → Type 0) → Result ((ℕ × Option Link) × Pages) Refusal → Type 0
with_known size allows (Ok answer) = allows (Ok (answer.0.0, answer.1)) × HoldsStill size answer.1 answer.0.1
with_known size allows (Err why) = allows (Err why)

abbrev pub on_link : ℕ → Pages → Link → (Result (ℕ × Pages) Refusal → Type 0)
    → Result ((ℕ × Option Link) × Pages) Refusal → Type 0
on_link size pages link allows answer = IsAt size pages link.page link.held → with_known size allows answer

-- a row stays at its place where its page then fits, else it is taken out and goes to the end of the chain, under its
-- number
abbrev pub changed : ℕ → Pages → ℕ → ℕ → Entry → Result (ℕ × Pages) Refusal → Type 0
changed size pages first page entry = do
  held ← heap_page size pages page
  place ← place_in page entry.number held.entries
  let rest = without held place
  either (have_room (rest.entries ++ entry ∷ []))
      (only (Ok (page, with_bytes pages page (page_bytes (record rest { entries = insert rest.entries place entry })))))
      (appended size (with_bytes pages page (page_bytes rest)) first entry)

-- rows are added in order, under the next row numbers; answers the number and the page of each
abbrev pub all_placed : ℕ → ℕ → List (List Value) → Pages → Result (List (ℕ × ℕ) × Pages) Refusal → Type 0
all_placed size first [] pages = only (Ok ([], pages))
all_placed size first (row ∷ rows) pages = do
  here ← added size pages first row
  others ← all_placed size first rows here.1
  only (Ok (here.0 ∷ others.0, others.1))
