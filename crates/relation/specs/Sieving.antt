-- Tests of a table's rows.
use Rattle.std.specs.List.{AllByRecursion}
use Rattle.std.specs.Prelude.{◌≡◌, true, Bool, List, Option, Some, None, Result, Ok, Err, if◌then◌else◌}
use Rattle.retro_base.specs.Gives.{◌>>=◌}
use Rattle.retro_base.specs.declared.refusal.Refusal.{Refusal}
use Rattle.values.specs.declared.value.Value.{Value}
use Rattle.sql_tree.specs.declared.statement.Column.{Column as TableColumn}
use Rattle.sql_tree.specs.Rows.{fits}
use Rattle.pager.specs.Pages.{broken}
use Rattle.pager.specs.declared.index.Found.{Found}
use Rattle.heap_file.specs.declared.chain.Placed.{Placed}

-- a test after another: whether a row fits the columns; one that does not breaks its page
abbrev pub fitting : List TableColumn → (Placed → Result Bool Refusal) → Placed → Result Bool Refusal
fitting columns passes placed = if fits columns placed.row then passes placed else Err (broken placed.page)

-- rows that were tested so far fit the columns, and these are the same still
abbrev pub fitted : List TableColumn → List Placed → List TableColumn → Type 0
fitted columns rows now = (now ≡ columns) × AllByRecursion (λ (placed : Placed). fits columns placed.row ≡ true) rows

-- the row of an entry, where it is there and passes
abbrev pub passing_found : (Placed → Result Bool Refusal) → Found → Option (List Value) → Result (Option Placed) Refusal
passing_found passes entry None = Ok None
passing_found passes entry (Some row) = do
  stays ← passes (record { number = entry.number; page = entry.page; row = row })
  Ok (if stays then Some (record { number = entry.number; page = entry.page; row = row }) else None)
