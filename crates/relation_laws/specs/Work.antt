-- Pieces of work on tables by name: what each does, how many pages it takes, and which pages it may edit.
use Rattle.std.specs.Prelude.{◌≡◌, ◌⊎◌, ◌<◌, ◌≤◌, ◌+◌, ◌^◌, ℕ, List, [], ◌∷◌}
use Rattle.std.specs.Prelude.{length, map, Result, Ok, Err, if◌then◌else◌}
use Rattle.std.specs.List.{AllByRecursion, Contains}
use Rattle.retro_base.specs.declared.refusal.Refusal.{Refusal}
use Rattle.retro_base.specs.declared.refusal.Refusal.TheVariants.{PagesFull}
use Rattle.values.specs.declared.value.Value.{Value}
use Rattle.sql_tree.specs.declared.statement.Column.{Column as TableColumn}
use Rattle.pager.specs.Pages.{Pages}
use Rattle.tree_index.specs.Work.{added, made, removed}
use Rattle.heap_laws.specs.Store.{free_pages}
use Rattle.relation.specs.declared.catalog.StoredTable.{StoredTable}
use Rattle.relation.specs.declared.catalog.TheConstants.{CATALOG}
use Rattle.values.specs.Name.{same_name}
use Rattle.relation.specs.Work.{created, deleted, indexed, inserted, table_in, updated}
use Rattle.relation_laws.specs.Laws.{AreChangesOf, AreNumbersOf, AreTableColumns, HasColumn}
use Rattle.relation_laws.specs.Laws.{IsNewName, IsRowFor, IsStoreOf, empty_table, with_changes}
use Rattle.relation_laws.specs.Laws.{with_index, with_new, with_rows, without_rows}
use Rattle.relation_laws.specs.Needs.{CreateNeeds, IndexNeeds, InsertNeeds, UpdateNeeds, next_pages}
use Rattle.relation_laws.specs.Reach.{IsIndexPage, IsPageOf, IsUntouched, with_root}
use Rattle.relation_laws.specs.Tables.{PlainTable, PlainTables}
use Rattle.pager.specs.Allows.{in_turn}

-- a table is made; an index of that name is made over a table's column; rows are inserted; rows are changed, each under
-- its number; the rows of these numbers are taken out
pub data Work : Type 0 where
  Creates : List ℕ → List TableColumn → Work
  Indexes : List ℕ → List ℕ → List ℕ → Work
  Inserts : List ℕ → List (List Value) → Work
  Changes : List ℕ → List (ℕ × List Value) → Work
  Removes : List ℕ → List ℕ → Work

-- what a piece of work does to the pages
abbrev pub worked : ℕ → Work → Pages → Result (Unit {0} × Pages) Refusal → Type 0
worked size (Creates name columns) pages = created size pages name columns
worked size (Indexes name table column) pages = indexed made added size pages name table column
worked size (Inserts name rows) pages = inserted added size pages name rows
worked size (Changes name changes) pages = updated added removed size pages name changes
worked size (Removes name numbers) pages = deleted removed size pages name numbers

-- what pieces of work do one after the other
abbrev pub all_worked : ℕ → List Work → Pages → Result (Unit {0} × Pages) Refusal → Type 0
all_worked size = in_turn (worked size)

-- a table of that name is there, and this holds of it
abbrev pub OfTable : PlainTables → List ℕ → (PlainTable → Type 0) → Type 0
OfTable all name holds = (table : PlainTable) × Contains all.tables table × (table.name ≡ name) × holds table

-- a piece of work that these tables allow
abbrev pub IsAllowed : PlainTables → Work → Type 0
IsAllowed all (Creates name columns) = IsNewName all name × AreTableColumns columns
IsAllowed all (Indexes name table column) = IsNewName all name × OfTable all table (HasColumn column)
IsAllowed all (Inserts name rows) = OfTable all name
    (λ table. AllByRecursion (IsRowFor table) rows × (table.next_number + length rows < 2 ^ 64))
IsAllowed all (Changes name changes) = OfTable all name (λ table. AreChangesOf table changes)
IsAllowed all (Removes name numbers) = OfTable all name (λ table. AreNumbersOf table numbers)

-- the tables, of which that of the name becomes this
abbrev pub where_named : List ℕ → (PlainTable → PlainTable) → PlainTables → PlainTables
where_named name becomes all = record all
    { tables = map (λ (table : PlainTable). if same_name table.name name then becomes table else table) all.tables }

-- the tables behind a piece of work
abbrev pub tables_behind : Work → PlainTables → PlainTables
tables_behind (Creates name columns) all = with_new (empty_table name columns) all
tables_behind (Indexes name table column) all =
    with_index (record { name = name; table = table; column = column }) all
tables_behind (Inserts name rows) all = where_named name (with_rows rows) all
tables_behind (Changes name changes) all = where_named name (with_changes changes) all
tables_behind (Removes name numbers) all = where_named name (without_rows numbers) all

-- pieces of work that the tables allow one after the other
abbrev pub AreAllowed : PlainTables → List Work → Type 0
AreAllowed all [] = Unit {0}
AreAllowed all (work ∷ works) = IsAllowed all work × AreAllowed (tables_behind work all) works

abbrev pub tables_behind_all : List Work → PlainTables → PlainTables
tables_behind_all [] all = all
tables_behind_all (work ∷ works) all = tables_behind_all works (tables_behind work all)

-- how many pages a piece of work takes
abbrev pub Needs : ℕ → Pages → Work → ℕ → Type 0
Needs size pages (Creates name columns) needs = CreateNeeds size pages name columns needs
Needs size pages (Indexes name table column) needs = IndexNeeds size pages name table column needs
Needs size pages (Inserts name rows) needs = InsertNeeds size pages name rows needs
Needs size pages (Changes name changes) needs = UpdateNeeds size pages name changes needs
Needs size pages (Removes name numbers) needs = needs ≡ 0

-- how many pages can be taken before it and after it; only taking rows out gives pages back
abbrev pub LeavesFree : Work → ℕ → ℕ → ℕ → Type 0
LeavesFree (Creates name columns) needs before after = needs + after ≡ before
LeavesFree (Indexes name table column) needs before after = needs + after ≡ before
LeavesFree (Inserts name rows) needs before after = needs + after ≡ before
LeavesFree (Changes name changes) needs before after = needs + after ≡ before
LeavesFree (Removes name numbers) needs before after = before ≤ after

-- a page of the table of that name, or of one of its indexes
abbrev pub IsOfTable : ℕ → Pages → List ℕ → ℕ → Type 0
IsOfTable size pages name page = (table : StoredTable) × table_in size pages name (Ok table)
    × (IsPageOf size pages table.first page ⊎ IsIndexPage size pages table page)

-- a page that is in use already and that a piece of work may edit: the catalog's for a new table or index, else those
-- of the table that it names and of its indexes, and the root page where rows are taken out, since pages may be freed
abbrev pub IsInUse : ℕ → Pages → Work → ℕ → Type 0
IsInUse size pages (Creates name columns) page = IsPageOf size pages CATALOG page
IsInUse size pages (Indexes name table column) page = IsPageOf size pages CATALOG page
IsInUse size pages (Inserts name rows) page = IsOfTable size pages name page
IsInUse size pages (Changes name changes) page = IsOfTable size pages name page
IsInUse size pages (Removes name numbers) page = (page ≡ 0) ⊎ IsOfTable size pages name page

-- a page that a piece of work may edit: one of those, or one of those that it takes, and with them the root page
abbrev pub IsInReach : ℕ → Pages → Work → ℕ → Type 0
IsInReach size pages work page = IsInUse size pages work page
    ⊎ ((needs : ℕ) × Needs size pages work needs × Contains (with_root (next_pages pages needs)) page)

-- a page that pieces of work may edit one after the other
abbrev pub IsInReachOf : ℕ → Pages → List Work → ℕ → Type 0
IsInReachOf size pages [] page = ⊥
IsInReachOf size pages (work ∷ works) page =
    IsInReach size pages work page ⊎
    ((after : Pages) × worked size work pages (Ok (tt, after)) × IsInReachOf size after works page)

-- each page that is edited is one of these
abbrev pub EditsWithin : Pages → Pages → (ℕ → Type 0) → Type 0
EditsWithin pages after reach = (page : ℕ) → IsUntouched pages after page ⊎ reach page

-- one of the pieces of work needs more pages than can be taken where its turn comes
abbrev pub IsFullAtOne : ℕ → Pages → List Work → Type 0
IsFullAtOne size pages [] = ⊥
IsFullAtOne size pages (work ∷ works) =
    ((needs : ℕ) × Needs size pages work needs × (free_pages size pages < needs))
    ⊎ ((after : Pages) × worked size work pages (Ok (tt, after)) × IsFullAtOne size after works)

-- what a piece of work leaves: the tables behind it, on pages of which it edited only those of its reach, and took as
-- many as it needs
pub record LeavesWorked (size : ℕ) (pages : Pages) (all : PlainTables) (work : Work) (after : Pages) : Type 0 where
  pub store : IsStoreOf size after (tables_behind work all)
  pub needs : ℕ
  pub are_needed : Needs size pages work needs
  pub takes : LeavesFree work needs (free_pages size pages) (free_pages size after)
  pub within : EditsWithin pages after (IsInReach size pages work)

-- a piece of work leaves that, and is refused exactly where it needs more pages than can be taken
abbrev pub IsWorked : ℕ → Pages → PlainTables → Work → Result (Unit {0} × Pages) Refusal → Type 0
IsWorked size pages all work (Ok answer) = LeavesWorked size pages all work answer.1
IsWorked size pages all work (Err why) = (why ≡ PagesFull size)
    × ((needs : ℕ) × Needs size pages work needs × (free_pages size pages < needs))

-- the same of pieces of work one after the other
abbrev pub AreWorked : ℕ → Pages → PlainTables → List Work → Result (Unit {0} × Pages) Refusal → Type 0
AreWorked size pages all works (Ok answer) = IsStoreOf size answer.1 (tables_behind_all works all)
    × EditsWithin pages answer.1 (IsInReachOf size pages works)
AreWorked size pages all works (Err why) = (why ≡ PagesFull size) × IsFullAtOne size pages works

-- What pieces of work do to well-formed pages: each takes one number of pages, leaves the tables behind it, and edits
-- only pages of its reach.
pub record WorkLaw : Type 0 where
  pub one_need : (size : ℕ) (pages : Pages) (all : PlainTables) (work : Work) (needs other : ℕ)
      → IsStoreOf size pages all → IsAllowed all work → Needs size pages work needs → Needs size pages work other
      → needs ≡ other
  pub single : (size : ℕ) (pages : Pages) (all : PlainTables) (work : Work) (answer : Result (Unit {0} × Pages) Refusal)
      → IsStoreOf size pages all → IsAllowed all work → worked size work pages answer
      → IsWorked size pages all work answer
  pub several : (size : ℕ) (pages : Pages) (all : PlainTables) (works : List Work)
      (answer : Result (Unit {0} × Pages) Refusal)
      → IsStoreOf size pages all → AreAllowed all works → all_worked size works pages answer
      → AreWorked size pages all works answer
