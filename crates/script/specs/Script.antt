-- The script that lines tell.
use Rattle.std.specs.Prelude.{◌≡◌, ◌+◌, ◌++◌, ◌==◌, ◌||◌, ℕ, Bool, true, not, List, [], ◌∷◌, Option}
use Rattle.std.specs.Prelude.{Some, None, Result, Ok, Err, length, nat_le, take, if◌then◌else◌}
use Rattle.std.specs.List.{AllZip, list_any}
use Rattle.std.specs.Option.{option_map, option_map_or}
use Rattle.std.specs.Str.{bytes_eq}
use Rattle.retro_base.specs.declared.limits.TheConstants.{ITEMS, PHASES, SESSIONS}
use Rattle.sql_tree.specs.declared.statement.Statement.{Statement as StatementOf}
use Rattle.script.specs.Line.{IsLine}
use Rattle.script.specs.Text.{script_lines}
use Rattle.script.specs.declared.draft.ScriptSoFar.{ScriptSoFar}
use Rattle.script.specs.declared.draft.ScriptSoFar.TheVariants as draft
use Rattle.script.specs.declared.draft.OpenPhase.{OpenPhase}
use Rattle.script.specs.declared.draft.OpenSession.{OpenSession}
use Rattle.script.specs.declared.line.Line.{Line}
use Rattle.script.specs.declared.line.Line.TheVariants.{Skipped, Phase, Session, Ends, Single, Statement, Bad}
use Rattle.script.specs.declared.structure.End.{End}
use Rattle.script.specs.declared.structure.Item.TheVariants as item
use Rattle.script.specs.declared.structure.Phase.{Phase as PhaseOf}
use Rattle.script.specs.declared.structure.Reading.{Reading}
use Rattle.script.specs.declared.structure.Script.{Script}
use Rattle.script.specs.declared.structure.Session.{Session as SessionOf}
use Rattle.script.specs.declared.structure.Single.{Single as SingleOf}

-- a session that has no item yet, behind these of its phase
abbrev pub new_session : List SessionOf → List ℕ → OpenSession
new_session before name = record { before = before; name = name; items = []; statements = [] }

-- the sessions of a phase, the open one the last
abbrev pub sessions_of : Option OpenSession → List SessionOf
sessions_of None = []
sessions_of (Some s) = s.before ++ record { name = s.name; items = s.items } ∷ []

-- all phases, the open one the last
abbrev pub phases_of : OpenPhase → List PhaseOf
phases_of p = p.phases ++ record { sessions = sessions_of p.session } ∷ []

-- no transaction is open
abbrev pub is_closed : Option OpenSession → Bool
is_closed None = true
is_closed (Some s) = length s.statements == 0

-- one of the sessions has this name
abbrev pub has_name : List ℕ → List SessionOf → Bool
has_name name sessions = list_any (λ session. bytes_eq session.name name) sessions

-- behind a PHASE line
abbrev pub phase_step : OpenPhase → Option OpenPhase
phase_step p =
    if not (is_closed p.session) || nat_le PHASES (length p.phases + 1) then None
    else Some (record { phases = phases_of p; items = p.items; session = None })

-- behind a SESSION line
abbrev pub session_step : List ℕ → OpenPhase → Option OpenPhase
session_step name p =
    if not (is_closed p.session)
    || (nat_le SESSIONS (length (sessions_of p.session)) || has_name name (sessions_of p.session)) then None
    else Some (record p { session = Some (new_session (sessions_of p.session) name) })

-- the number of items behind a line that opens one unless a transaction is open: none, where that is one too many
abbrev pub opened : ℕ → OpenSession → Option ℕ
opened items s = if length s.statements == 0 then (if nat_le ITEMS items then None else Some (items + 1))
    else Some items

-- a phase behind a line of its session
abbrev pub goes_on : OpenPhase → OpenSession → ℕ → OpenPhase
goes_on p s items = record { phases = p.phases; items = items; session = Some s }

abbrev pub statement_step : OpenPhase → Reading StatementOf → Option OpenSession → Option OpenPhase
statement_step p reading None = None
statement_step p reading (Some s) =
    option_map (goes_on p (record s { statements = s.statements ++ reading ∷ [] })) (opened p.items s)

abbrev pub end_step : OpenPhase → End → Option OpenSession → Option OpenPhase
end_step p end None = None
end_step p end (Some s) =
    let transaction = item.Transaction (record { statements = s.statements; end = end }) in
    option_map (goes_on p (record s { items = s.items ++ transaction ∷ []; statements = [] })) (opened p.items s)

abbrev pub single_step : OpenPhase → SingleOf → Option OpenSession → Option OpenPhase
single_step p single None = None
single_step p single (Some s) =
    if not (length s.statements == 0) || nat_le ITEMS p.items then None
    else Some (goes_on p (record s { items = s.items ++ item.Single single ∷ [] }) (p.items + 1))

-- an open phase behind one line more, if the line may stand there
abbrev pub open_step : OpenPhase → Line → Option OpenPhase
open_step p Skipped = Some p
open_step p Phase = phase_step p
open_step p (Session name) = session_step name p
open_step p (Statement reading) = statement_step p reading p.session
open_step p (Ends end) = end_step p end p.session
open_step p (Single single) = single_step p single p.session
open_step p Bad = None

-- what was read behind one line more, if the line may stand there; a SESSION line opens the first phase too
abbrev pub step : ScriptSoFar → Line → Option ScriptSoFar
step draft.Empty Skipped = Some draft.Empty
step draft.Empty Phase = Some (draft.Open (record { phases = []; items = 0; session = None }))
step draft.Empty (Session name) =
    Some (draft.Open (record { phases = []; items = 0; session = Some (new_session [] name) }))
step draft.Empty line = None
step (draft.Open p) line = option_map draft.Open (open_step p line)

-- the script, where the lines end before the line of this number: no transaction may be open
abbrev pub finished : ℕ → ScriptSoFar → Result Script ℕ
finished number draft.Empty = Ok (record { phases = [] })
finished number (draft.Open p) = if is_closed p.session then Ok (record { phases = phases_of p }) else Err number

-- the script that these lines tell, the first having this number, behind what was read; or the number of the first bad
-- line
abbrev pub script_from : ℕ → ScriptSoFar → List Line → Result Script ℕ
script_from number state [] = finished number state
script_from number state (line ∷ lines) =
    option_map_or (λ next. script_from (number + 1) next lines) (step state line) (Err number)

-- the script that lines tell, or the number of the first bad one, from 1
abbrev pub script_of : List Line → Result Script ℕ
script_of lines = script_from 1 draft.Empty lines

-- the bytes are a script, and say this
unfoldable pub IsScript : List ℕ → Script → Type 0
IsScript bytes script = (lines : List Line) × AllZip IsLine (script_lines bytes) lines × (script_of lines ≡ Ok script)

-- The bytes are no script, and this is the number of the first bad line: the lines up to it say so. It is one more
-- than the number of lines where a transaction is open behind the last.
unfoldable pub IsBadAt : List ℕ → ℕ → Type 0
IsBadAt bytes number = (lines : List Line) × AllZip IsLine (take number (script_lines bytes)) lines
    × (script_of lines ≡ Err number)

-- what bytes are: a script, or bad at a line
abbrev pub ReadsAs : List ℕ → Result Script ℕ → Type 0
ReadsAs bytes (Ok script) = IsScript bytes script
ReadsAs bytes (Err number) = IsBadAt bytes number

-- they are nothing else
abbrev pub IsOnlyReading : List ℕ → Result Script ℕ → Type 0
IsOnlyReading bytes answer = (other : Result Script ℕ) → ReadsAs bytes other → other ≡ answer
