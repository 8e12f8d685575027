-- The limits of what a script holds.
use Rattle.std.specs.Prelude.{◌≤◌, ℕ, List, Option, Some, None, length}
use Rattle.std.specs.List.{AllByRecursion}
use Rattle.retro_base.specs.declared.limits.TheConstants.{ITEMS, LABEL_BYTES, PHASES, SESSIONS}
use Rattle.sql_tree.specs.Statement.{IsStatement}
use Rattle.sql_tree.specs.declared.statement.Statement.{Statement as StatementOf}
use Rattle.script.specs.declared.line.Line.{Line}
use Rattle.script.specs.declared.line.Line.TheVariants.{Ends, Statement}
use Rattle.script.specs.declared.structure.End.{End}
use Rattle.script.specs.declared.structure.End.TheVariants as ending
use Rattle.script.specs.declared.structure.Item.{Item}
use Rattle.script.specs.declared.structure.Item.TheVariants as item
use Rattle.script.specs.declared.structure.Phase.{Phase}
use Rattle.script.specs.declared.structure.Reading.{Reading}
use Rattle.script.specs.declared.structure.Reading.TheVariants.{Read, Syntax}
use Rattle.script.specs.declared.structure.Script.{Script}
use Rattle.script.specs.declared.structure.Session.{Session}

-- a statement that was read is one
abbrev pub StatementFits : Reading StatementOf → Type 0
StatementFits (Read statement) = IsStatement statement
StatementFits (Syntax place) = Unit {0}

-- a label has at most LABEL_BYTES bytes
abbrev pub LabelFits : Option (List ℕ) → Type 0
LabelFits (Some label) = length label ≤ LABEL_BYTES
LabelFits None = Unit {0}

-- the label of an end is within the limit
abbrev pub EndFits : End → Type 0
EndFits (ending.Commit label) = LabelFits label
EndFits ending.Rollback = Unit {0}

-- the statements and the label of an item are within the limits
abbrev pub ItemFits : Item → Type 0
ItemFits (item.Transaction t) = AllByRecursion StatementFits t.statements × EndFits t.end
ItemFits (item.Single single) = Unit {0}

-- a session has at most ITEMS items, within the limits
abbrev pub SessionFits : Session → Type 0
SessionFits session = (length session.items ≤ ITEMS) × AllByRecursion ItemFits session.items

-- a phase has at most SESSIONS sessions, within the limits
abbrev pub PhaseFits : Phase → Type 0
PhaseFits phase = (length phase.sessions ≤ SESSIONS) × AllByRecursion SessionFits phase.sessions

-- a script has at most PHASES phases, within the limits
abbrev pub ScriptFits : Script → Type 0
ScriptFits script = (length script.phases ≤ PHASES) × AllByRecursion PhaseFits script.phases

-- the limits of one line
abbrev pub LineFits : Line → Type 0
LineFits (Statement reading) = StatementFits reading
LineFits (Ends end) = EndFits end
LineFits line = Unit {0}
