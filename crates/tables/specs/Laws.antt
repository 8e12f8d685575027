-- What follows from the meaning of statements, in the words of those who write them.
use Rattle.std.specs.Prelude.{◌≡◌, ◌≢◌, ◌<◌, ◌++◌, ◌==◌, ℕ, Bool, false, Option, None, Some, List, [], Ok, map}
use Rattle.std.specs.List.{list_any}
use Rattle.values.specs.declared.value.Value.{Value}
use Rattle.sql_tree.specs.declared.select.Select.{Select as SelectRecord}
use Rattle.sql_tree.specs.declared.select.SelectList.TheVariants.{All}
use Rattle.sql_tree.specs.declared.statement.Column.{Column}
use Rattle.sql_tree.specs.declared.statement.Statement.{Statement}
use Rattle.sql_tree.specs.declared.statement.Statement.TheVariants.{CreateTable, CreateIndex, Insert}
use Rattle.sql_tree.specs.declared.statement.Statement.TheVariants.{Update, Delete, Select}
use Rattle.sql_tree.specs.declared.statement.Update.{Update as UpdateRecord}
use Rattle.sql_tree.specs.Statement.{IsStatement}
use Rattle.tables.specs.declared.contents.NumberedRow.{NumberedRow}
use Rattle.tables.specs.declared.reply.Reply.{Reply}
use Rattle.tables.specs.declared.reply.Reply.TheVariants.{Plain, Count, Rows}
use Rattle.tables.specs.Meaning.{does}
use Rattle.sql_tree.specs.Rows.{AllFit}
use Rattle.tables.specs.Tables.{Found, IsTables, Tables, table_named}

-- the name of the table that a statement is about, or of the first one of a select
abbrev pub table_of : Statement → List ℕ
table_of (CreateTable create) = create.table
table_of (CreateIndex create) = create.table
table_of (Insert insert) = insert.table
table_of (Update update) = update.table
table_of (Delete delete) = delete.table
table_of (Select select) = select.table

-- SELECT * FROM name
abbrev pub star_of : List ℕ → SelectRecord
star_of name =
    record {
      distinct = false;
      list = All;
      table = name;
      second = None;
      condition = None;
      group_by = [];
      order_by = [];
      limit = None;
    }

-- SELECT * FROM name gives these columns and rows, and changes nothing
abbrev pub Shows : Tables → List ℕ → List Column → List (List Value) → Type 0
Shows tables name columns rows =
    does (Select (star_of name)) None tables ≡ Ok (tables, Rows (record { columns = columns; rows = rows }))

-- a table that was just made is shown with its columns, and without rows
abbrev pub CreatedIsEmpty : Type 0
CreatedIsEmpty = (tables after : Tables) (name : List ℕ) (columns : List Column) (snapshot : Option ℕ) (reply : Reply) →
    IsTables tables →
    does (CreateTable (record { table = name; columns = columns })) snapshot tables ≡ Ok (after, reply) →
    Shows after name columns []

-- the rows of an insert are shown last, in their order, after those that were shown before it
abbrev pub InsertedAreLast : Type 0
InsertedAreLast =
    (tables after : Tables) (name : List ℕ) (columns : List Column) (rows tuples : List (List Value))
    (snapshot : Option ℕ) (reply : Reply) →
    Shows tables name columns rows →
    does (Insert (record { table = name; tuples = tuples })) snapshot tables ≡ Ok (after, reply) →
    Shows after name columns (rows ++ tuples)

-- what is shown of a table is left alone by statements about other tables
abbrev pub OthersStay : Type 0
OthersStay =
    (tables after : Tables) (name : List ℕ) (columns : List Column) (rows : List (List Value)) (statement : Statement)
    (snapshot : Option ℕ) (reply : Reply) →
    table_of statement ≢ name → Shows tables name columns rows →
    does statement snapshot tables ≡ Ok (after, reply) → Shows after name columns rows

-- each row of an answer has one value of each column's kind
abbrev pub IsReply : Reply → Type 0
IsReply Plain = Unit {0}
IsReply (Count count) = Unit {0}
IsReply (Rows answer) = AllFit answer.columns answer.rows

-- a statement leaves tables as tables are, and each row of its answer has one value of each column's kind
abbrev pub TablesStaySound : Type 0
TablesStaySound = (tables after : Tables) (statement : Statement) (snapshot : Option ℕ) (reply : Reply) →
    IsStatement statement → IsTables tables → does statement snapshot tables ≡ Ok (after, reply) → IsTables after
    × IsReply reply

abbrev pub numbers_of : List NumberedRow → List ℕ
numbers_of rows = map (λ (row : NumberedRow). row.number) rows

-- an UPDATE leaves each row its number and its place
abbrev pub UpdatedKeepPlaces : Type 0
UpdatedKeepPlaces =
    (tables after : Tables) (update : UpdateRecord) (snapshot : Option ℕ) (reply : Reply) (before now : Found) →
    does (Update update) snapshot tables ≡ Ok (after, reply) →
    table_named update.table tables ≡ Some before → table_named update.table after ≡ Some now →
    numbers_of now.contents.rows ≡ numbers_of before.contents.rows

abbrev pub has_number : ℕ → List NumberedRow → Bool
has_number number rows = list_any (λ (row : NumberedRow). row.number == number) rows

-- a number that was given and that no row has any more is never given again
abbrev pub GoneStaysGone : Type 0
GoneStaysGone =
    (tables after : Tables) (name : List ℕ) (statement : Statement) (snapshot : Option ℕ) (reply : Reply)
    (before now : Found) (number : ℕ) →
    does statement snapshot tables ≡ Ok (after, reply) →
    table_named name tables ≡ Some before → table_named name after ≡ Some now →
    number < before.contents.next → has_number number before.contents.rows ≡ false →
    (number < now.contents.next) × (has_number number now.contents.rows ≡ false)
