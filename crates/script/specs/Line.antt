-- What a line of a script is.
use Rattle.std.specs.Prelude.{◌≡◌, ◌⊎◌, ℕ, Bool, true, false, List, Option, Some}
use Rattle.std.specs.Prelude.{None, MatchBool, filter, map, if◌then◌else◌}
use Rattle.sql_lexer.specs.Lexes.{Lexes}
use Rattle.sql_lexer.specs.declared.token.Ending.{Ending}
use Rattle.sql_lexer.specs.declared.token.Placed.{Placed}
use Rattle.sql_lexer.specs.declared.token.Token.{Token}
use Rattle.sql_lexer.specs.declared.token.Token.TheVariants as token
use Rattle.sql_text.specs.Line.{Spells, SyntaxAt}
use Rattle.sql_parts.specs.declared.parsed.Parsed.{Parsed}
use Rattle.sql_parts.specs.declared.parsed.Parsed.TheVariants as parsed
use Rattle.sql_tree.specs.declared.select.Select.{Select}
use Rattle.sql_tree.specs.declared.statement.Statement.{Statement as StatementOf}
use Rattle.sql_tree.specs.declared.statement.Statement.TheVariants as statement
use Rattle.script.specs.Class.{class_of, is_result_name, is_snap_ids}
use Rattle.script.specs.Name.{IsSessionName}
use Rattle.script.specs.Text.{text_of, is_skipped, is_phase, is_session, session_name}
use Rattle.script.specs.declared.class.Class.{Class}
use Rattle.script.specs.declared.class.Class.TheVariants as class
use Rattle.script.specs.declared.line.Line.{Line}
use Rattle.script.specs.declared.line.Line.TheVariants.{Skipped, Phase, Session, Ends, Single, Statement, Bad}
use Rattle.script.specs.declared.structure.End.TheVariants as ending
use Rattle.script.specs.declared.structure.Reading.TheVariants.{Read, Syntax}
use Rattle.script.specs.declared.structure.Single.TheVariants as single

-- a text between quotes
abbrev pub is_text : Token → Bool
is_text (token.Text text) = true
is_text (token.LongText text) = true
is_text other = false

-- the places of the texts of a line: in a call, of its arguments' opening quotes
abbrev pub text_places : List Placed → List ℕ
text_places tokens = map (λ t. t.place) (filter (λ t. is_text t.token) tokens)

-- a select of the table of snapshots or of a result table is an item of its own, any other a statement
abbrev pub query_line : Select → Line
query_line query =
    if is_snap_ids query.table then Single (single.SnapIds query)
    else (if is_result_name query.table then Single (single.Results query)
    else Statement (Read (statement.Select query)))

abbrev pub plain_line : StatementOf → Line
plain_line (statement.Select query) = query_line query
plain_line other = Statement (Read other)

-- the line that says this, with texts at these places
abbrev pub parsed_line : List ℕ → Parsed → Line
parsed_line places (parsed.Plain statement) = plain_line statement
parsed_line places (parsed.AsOf query) = Single (single.AsOf query)
parsed_line places (parsed.Commit label) = Ends (ending.Commit label)
parsed_line places parsed.Rollback = Ends ending.Rollback
parsed_line places (parsed.DropBelow below) = Single (single.DropBelow below)
parsed_line places (parsed.Rql call) = Single (single.Call call places)

-- the line of this class that the grammar refuses at this place
abbrev pub refused_line : Class → ℕ → Line
refused_line class.Statement place = Statement (Syntax place)
refused_line class.End place = Bad
refused_line class.Single place = Single (single.Syntax place)

-- a line that the grammar has is what its tree says
abbrev pub IsRead : List Placed → List ℕ → Line → Type 0
IsRead tokens text line = (p : Parsed) × Spells text p × (line ≡ parsed_line (text_places tokens) p)

-- one that it refuses is what its first tokens say
abbrev pub IsRefused : List Placed → List ℕ → Line → Type 0
IsRefused tokens text line = (place : ℕ) × SyntaxAt text place × (line ≡ refused_line (class_of text tokens) place)

-- what a statement line is
abbrev pub IsStatementLine : List ℕ → Line → Type 0
IsStatementLine text line = (tokens : List Placed) × (end : Ending) × Lexes 0 text tokens end
    × (IsRead tokens text line ⊎ IsRefused tokens text line)

-- what a SESSION line with this name is
abbrev pub IsSessionLine : List ℕ → Line → Type 0
IsSessionLine name line = (IsSessionName name × (line ≡ Session name)) ⊎ (¬ IsSessionName name × (line ≡ Bad))

-- what a line is by its text: the first of these that fits
abbrev pub IsTextLine : List ℕ → Line → Type 0
IsTextLine text line =
    MatchBool (is_skipped text) (line ≡ Skipped)
    (MatchBool (is_phase text) (line ≡ Phase)
    (MatchBool (is_session text) (IsSessionLine (session_name text) line)
    (IsStatementLine text line)))

-- what a line is, none being one that is too long
abbrev pub IsLine : Option (List ℕ) → Line → Type 0
IsLine None line = line ≡ Bad
IsLine (Some bytes) line = IsTextLine (text_of bytes) line

-- a line is what it is said to be, and nothing else
abbrev pub IsOnly : (Line → Type 0) → Line → Type 0
IsOnly Says line = (other : Line) → Says other → other ≡ line
