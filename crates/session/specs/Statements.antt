-- The statement lines of a transaction, one after the other.
use Rattle.std.specs.Prelude.{Bool, true, false, List, [], ◌∷◌, None, Result, Ok, Err}
use Rattle.std.specs.List.{list_any}
use Rattle.retro_base.specs.declared.refusal.Refusal.{Refusal}
use Rattle.retro_base.specs.declared.refusal.Refusal.TheVariants as refusal
use Rattle.script.specs.declared.structure.Reading.{Reading}
use Rattle.script.specs.declared.structure.Reading.TheVariants.{Read, Syntax}
use Rattle.sql_tree.specs.declared.statement.Statement.{Statement}
use Rattle.sql_tree.specs.declared.statement.Statement.TheVariants.{Select}
use Rattle.tables.specs.Meaning.{does}
use Rattle.tables.specs.Tables.{Tables}
use Rattle.tables.specs.declared.reply.Reply.{Reply}

abbrev pub Lines : Type 0
Lines = List (Reading Statement)

-- a statement that is refused leaves the tables
abbrev pub outcome : Tables → Result (Tables × Reply) Refusal → Tables × Result Reply Refusal
outcome before (Ok (after, reply)) = (after, Ok reply)
outcome before (Err refusal) = (before, Err refusal)

-- what a statement line does to the tables, and its reply
abbrev pub does_line : Reading Statement → Tables → Tables × Result Reply Refusal
does_line (Read statement) tables = outcome tables (does statement None tables)
does_line (Syntax place) tables = (tables, Err (refusal.Syntax place))

-- the tables behind the statement lines of a transaction
abbrev pub transaction : Lines → Tables → Tables
transaction [] tables = tables
transaction (line ∷ lines) tables = transaction lines (does_line line tables).0

-- the replies to the statement lines of a transaction
abbrev pub replies : Lines → Tables → List (Result Reply Refusal)
replies [] tables = []
replies (line ∷ lines) tables = (does_line line tables).1 ∷ replies lines (does_line line tables).0

-- a line that is more than a select: a statement of another kind; a line that the grammar refuses is none
abbrev pub changes_line : Reading Statement → Bool
changes_line (Read (Select query)) = false
changes_line (Read statement) = true
changes_line (Syntax place) = false

abbrev pub changes : Lines → Bool
changes lines = list_any changes_line lines
