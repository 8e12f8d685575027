-- Rows that the last page of a table has room for.
use Rattle.std.specs.Prelude.{◌≡◌, ◌<◌, ◌≤◌, ◌+◌, ◌^◌, ◌++◌, ◌⊎◌, ℕ, zero, suc}
use Rattle.std.specs.Prelude.{List, [], ◌∷◌, length, take, Result, Ok, Err}
use Rattle.retro_base.specs.declared.refusal.Refusal.{Refusal}
use Rattle.retro_base.specs.declared.refusal.Refusal.TheVariants.{OutOfMemory}
use Rattle.values.specs.declared.value.Value.{Value}
use Rattle.pager.specs.Pages.{Pages}
use Rattle.heap_file.specs.declared.page.Entry.{Entry}
use Rattle.heap_file.specs.declared.page.HeapPage.{HeapPage}
use Rattle.heap_file.specs.declared.filling.Filled.{Filled}
use Rattle.heap_file.specs.HeapPage.{IsHeapPage}
use Rattle.heap_file.specs.Work.{all_placed}

-- rows under the numbers from that one on
abbrev pub entries_from : ℕ → List (List Value) → List Entry
entries_from number [] = []
entries_from number (row ∷ rows) = record { number = number; row = row } ∷ entries_from (number + 1) rows

-- a page with so many of these rows behind its entries, under the numbers from that one on
pub record IsFilled (held : HeapPage) (number : ℕ) (rows : List (List Value))
    (filled : HeapPage × ℕ) : Type 0 where
  pub count : filled.1 ≤ length rows
  pub page : filled.0 ≡ record held { entries = held.entries ++ entries_from number (take filled.1 rows) }
  pub lawful : IsHeapPage filled.0
  pub numbers : number + filled.1 < 2 ^ 64

-- so many rows on one page, under the numbers from that one on
abbrev pub placed_from : ℕ → ℕ → ℕ → List (ℕ × ℕ)
placed_from number page zero = []
placed_from number page (suc count) = (number, page) ∷ placed_from (number + 1) page count

-- the first of these rows are added, all on one page; a refusal is that of adding them all
abbrev pub front_placed : ℕ → ℕ → List (List Value) → Pages → Result (Filled × Pages) Refusal → Type 0
front_placed size first rows pages (Ok answer) = (answer.0.count ≤ length rows)
    × all_placed size first (take answer.0.count rows) pages
    (Ok (placed_from answer.0.number answer.0.page answer.0.count, answer.1))
front_placed size first rows pages (Err why) = all_placed size first rows pages (Err why)

-- what adding them made of these pages, and a refusal, unless memory ran out
abbrev pub TellsFront : ℕ → ℕ → List (List Value) → Pages → Pages → Result Filled Refusal → Type 0
TellsFront size first rows before after (Ok filled) = front_placed size first rows before (Ok (filled, after))
TellsFront size first rows before after (Err why) =
    (why ≡ OutOfMemory) ⊎ front_placed size first rows before (Err why)

-- the first of these rows are added, one at least, and told behind those told before; a refusal is that of adding them
-- all
abbrev pub some_placed : ℕ → ℕ → List (List Value) → List (ℕ × ℕ) → Pages
    → Result (List (ℕ × ℕ) × Pages) Refusal → Type 0
some_placed size first rows before pages (Ok answer) = (more : List (ℕ × ℕ)) × (answer.0 ≡ before ++ more)
    × (1 ≤ length more) × (length more ≤ length rows)
    × all_placed size first (take (length more) rows) pages (Ok (more, answer.1))
some_placed size first rows before pages (Err why) = all_placed size first rows pages (Err why)
