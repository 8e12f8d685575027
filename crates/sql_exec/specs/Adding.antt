-- Aggregates that are added up while rows are read.
use Rattle.std.specs.Prelude.{◌≡◌, ◌++◌, ◌∷◌, ◌⊎◌, ◌||◌, ⊤, ℕ, Bool, true, false, nat_lt, is_err, is_some, List, [], map}
use Rattle.std.specs.Prelude.{Option, Some, None, Result, Ok, Err}
use Rattle.std.specs.List.Sorted.{IsNonDecreasingBy}
use Rattle.retro_base.specs.declared.refusal.Refusal.{Refusal}
use Rattle.sql_tree.specs.declared.schema.TableSchema.{TableSchema}
use Rattle.sql_tree.specs.declared.select.Select.{Select as SelectRecord}
use Rattle.sql_totals.specs.Totals.{AreOf, is_summable, tally_with}
use Rattle.sql_totals.specs.declared.totals.Totals.{Totals}
use Rattle.sql_select.specs.declared.answer.Answer.{Answer}
use Rattle.pager.specs.Pages.{Pages}
use Rattle.heap_file.specs.Sieving.{meets}
use Rattle.heap_file.specs.declared.chain.Placed.{Placed}
use Rattle.relation.specs.Catalog.{table_named}
use Rattle.relation.specs.declared.catalog.Catalog.{Catalog}
use Rattle.relation.specs.declared.catalog.StoredTable.{StoredTable}
use Rattle.sql_exec.specs.declared.adding.Adding.{Adding}
use Rattle.sql_exec.specs.Asking.{answered}
use Rattle.sql_exec.specs.Ranges.{plan_of}
use Rattle.sql_exec.specs.Reading.{schema_at}

-- the number of the last of some rows
abbrev pub last_number : List Placed → Option ℕ
last_number [] = None
last_number (row ∷ []) = Some row.number
last_number (row ∷ next ∷ rows) = last_number (next ∷ rows)

-- whether a row has a number below the last
abbrev pub comes_before : Placed → Option ℕ → Bool
comes_before placed None = false
comes_before placed (Some last) = nat_lt placed.number last

-- whether a row is not added to totals: it has a number below the last, or it is refused
abbrev pub is_left_out : Placed → Option ℕ → Totals → Bool
is_left_out placed last totals = comes_before placed last || is_err (tally_with placed.row totals)

-- these are the totals of a select over rows
abbrev pub AreOver : SelectRecord → List TableSchema → Option ℕ → List Placed → Totals → Type 0
AreOver select scope snapshot rows totals =
    AreOf select scope snapshot (map (λ (placed : Placed). placed.row) rows) totals

-- these are the totals at the start with rows added, whatever select those are of
abbrev pub AreAdded : Totals → List Placed → Totals → Type 0
AreAdded start rows totals = (select : SelectRecord) (scope : List TableSchema) (snapshot : Option ℕ) →
    AreOver select scope snapshot [] start → AreOver select scope snapshot rows totals

-- these rows came in rising number, and were added to what stood at the start
pub record GoesOn (start : Adding) (rows : List Placed) (now : Adding) : Type 0 where
  pub rising : IsNonDecreasingBy (λ (placed : Placed). placed.number) rows
  pub last : now.last ≡ last_number rows
  pub totals : AreAdded start.totals rows now.totals

-- of rows that are added to totals in order, one is left out
pub record Stops (are : List Placed → Totals → Type 0) (rows : List Placed) : Type 0 where
  pub front : List Placed
  pub next : Placed
  pub rest : List Placed
  pub parts : rows ≡ front ++ next ∷ rest
  pub totals : Totals
  pub so_far : are front totals
  pub left_out : is_left_out next (last_number front) totals ≡ true

-- all of these rows were added to what stood at the start, or one was left out
abbrev pub added_or_not : Bool → Adding → List Placed → Adding → Type 0
added_or_not true start rows now = GoesOn start rows now
added_or_not false start rows now = Stops (AreAdded start.totals) rows

abbrev pub Added : Adding → List Placed → Adding → Type 0
Added start rows now = added_or_not now.useful start rows now

-- what keeps a select from being added up over a table: an index has bounds for its rows, or one of them is left out
abbrev pub NotSummedOver : ℕ → SelectRecord → Option ℕ → Pages → Option StoredTable → Type 0
NotSummedOver size select snapshot pages None = ⊤
NotSummedOver size select snapshot pages (Some table) =
    (is_some (plan_of (schema_at table) table.indexes select.condition) ≡ true)
    ⊎ meets (Stops (AreOver select (schema_at table ∷ []) snapshot)) size pages table.first []

-- what keeps a select from being added up, if it is of aggregates over one table
abbrev pub NotSummed : ℕ → Catalog → SelectRecord → Option ℕ → Pages → Type 0
NotSummed size catalog select snapshot pages =
    (is_summable select ≡ false) ⊎ NotSummedOver size select snapshot pages (table_named select.table catalog.tables)

-- what is answered is the answer of the select; none, only where something keeps it from being added up
abbrev pub summed : ℕ → Catalog → SelectRecord → Option ℕ → Pages → Result (Option Answer) Refusal → Type 0
summed size catalog select snapshot pages (Ok None) = NotSummed size catalog select snapshot pages
summed size catalog select snapshot pages (Ok (Some answer)) = answered size catalog select snapshot pages (Ok answer)
summed size catalog select snapshot pages (Err why) = answered size catalog select snapshot pages (Err why)
