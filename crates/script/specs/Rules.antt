-- The rules of a script, line by line, its lines written back, and what bytes are by both.
use Rattle.std.specs.Prelude.{◌≡◌, ◌+◌, ◌++◌, ◌<◌, ◌==◌, ◌&&◌, ◌||◌, ◌↔◌, ℕ, Bool, true, false, not, List, [], ◌∷◌}
use Rattle.std.specs.Prelude.{Result, Ok, Err, length, nat_le, take, map, filter, slice_get, flat_map, if◌then◌else◌}
use Rattle.std.specs.List.{AllZip, list_any}
use Rattle.std.specs.Option.{option_map_or}
use Rattle.std.specs.Str.{bytes_eq}
use Rattle.retro_base.specs.declared.limits.TheConstants.{ITEMS, PHASES, SESSIONS}
use Rattle.retro_base.specs.declared.refusal.Refusal.{Refusal}
use Rattle.retro_base.specs.declared.refusal.Refusal.TheVariants as refusal
use Rattle.script.specs.Line.{IsLine}
use Rattle.script.specs.Script.{script_of, IsBadAt, ReadsAs, IsOnlyReading}
use Rattle.script.specs.Text.{script_lines}
use Rattle.script.specs.declared.limits.TheConstants.{SCRIPT_BYTES}
use Rattle.script.specs.declared.line.Line.{Line}
use Rattle.script.specs.declared.line.Line.TheVariants.{Skipped, Phase, Session, Ends, Single, Statement, Bad}
use Rattle.script.specs.declared.structure.Item.{Item}
use Rattle.script.specs.declared.structure.Item.TheVariants as item
use Rattle.script.specs.declared.structure.Phase.{Phase as PhaseOf}
use Rattle.script.specs.declared.structure.Session.{Session as SessionOf}
use Rattle.script.specs.declared.structure.Script.{Script}

-- What the lines before a line say: how many phases and items they opened, which names the sessions of the last phase
-- have, and whether a transaction is open behind them.
pub record Standing : Type 0 where
  pub phases : ℕ
  pub names : List (List ℕ)
  pub items : ℕ
  pub is_open : Bool

-- before the first line
abbrev pub nothing : Standing
nothing = record { phases = 0; names = []; items = 0; is_open = false }

-- one item more, unless a transaction is open
abbrev pub items_on : Standing → ℕ
items_on s = if s.is_open then s.items else s.items + 1

-- behind one line more; a SESSION line opens the first phase too
abbrev pub behind : Standing → Line → Standing
behind s Phase = record s { phases = s.phases + 1; names = [] }
behind s (Session name) = record s { phases = if s.phases == 0 then 1 else s.phases; names = s.names ++ name ∷ [] }
behind s (Statement reading) = record s { items = items_on s; is_open = true }
behind s (Ends end) = record s { items = items_on s; is_open = false }
behind s (Single single) = record s { items = s.items + 1 }
behind s line = s

-- behind these lines, from there on
abbrev pub behind_all : Standing → List Line → Standing
behind_all s [] = s
behind_all s (line ∷ lines) = behind_all (behind s line) lines

-- what these lines say
abbrev pub standing : List Line → Standing
standing lines = behind_all nothing lines

-- no session is open, or a line that belongs to an item opens one too many
abbrev pub has_no_room : Standing → Bool
has_no_room s = (length s.names == 0) || (not s.is_open && nat_le ITEMS s.items)

-- whether a line breaks a rule, behind lines that say this
abbrev pub breaks : Standing → Line → Bool
breaks s Skipped = false
breaks s Phase = s.is_open || nat_le PHASES s.phases
breaks s (Session name) =
    s.is_open || (nat_le SESSIONS (length s.names) || list_any (λ other. bytes_eq other name) s.names)
breaks s (Ends end) = has_no_room s
breaks s (Statement reading) = has_no_room s
breaks s (Single single) = s.is_open || has_no_room s
breaks s Bad = true

-- whether the line at this place, from 0, breaks a rule; or at the end, that a transaction is open there
abbrev pub breaks_at : List Line → ℕ → Bool
breaks_at lines place =
    option_map_or (breaks (standing (take place lines))) (slice_get lines place)
    ((place == length lines) && (standing lines).is_open)

-- the number, from 1, of the first line that breaks a rule
abbrev pub IsFirstBreak : List Line → ℕ → Type 0
IsFirstBreak lines number =
    (place : ℕ) × (number ≡ place + 1) × (breaks_at lines place ≡ true)
    × ((earlier : ℕ) → earlier < place → breaks_at lines earlier ≡ false)

-- no line breaks a rule, and no transaction is open at the end
abbrev pub KeepsRules : List Line → Type 0
KeepsRules lines = (place : ℕ) → breaks_at lines place ≡ false

-- the lines of an item
abbrev pub item_lines : Item → List Line
item_lines (item.Transaction t) = map Statement t.statements ++ Ends t.end ∷ []
item_lines (item.Single single) = Single single ∷ []

-- the lines of a session
abbrev pub session_lines : SessionOf → List Line
session_lines session = Session session.name ∷ flat_map item_lines session.items

-- the lines of a phase
abbrev pub phase_lines : PhaseOf → List Line
phase_lines phase = Phase ∷ flat_map session_lines phase.sessions

-- all lines but the skipped ones count
abbrev pub counts : Line → Bool
counts Skipped = false
counts line = true

-- the lines that count
abbrev pub counted : List Line → List Line
counted lines = filter counts lines

-- the lines, behind a PHASE line where they begin with a session
abbrev pub in_phase : List Line → List Line
in_phase (Session name ∷ lines) = Phase ∷ Session name ∷ lines
in_phase lines = lines

-- the lines that count are those of the script, in order; the first PHASE line may be left out
abbrev pub Tells : List Line → Script → Type 0
Tells lines script = in_phase (counted lines) ≡ flat_map phase_lines script.phases

-- the lines of the bytes keep the rules, and tell this script
unfoldable pub IsToldBy : List ℕ → Script → Type 0
IsToldBy bytes script =
    (lines : List Line) × AllZip IsLine (script_lines bytes) lines × KeepsRules lines × Tells lines script

-- of the lines of the bytes, the one of this number is the first that breaks a rule: the lines up to it say so
unfoldable pub IsFirstBad : List ℕ → ℕ → Type 0
IsFirstBad bytes number =
    (lines : List Line) × AllZip IsLine (take number (script_lines bytes)) lines × IsFirstBreak lines number

-- what bytes may be refused for
abbrev pub IsRefused : List ℕ → Refusal → Type 0
IsRefused bytes refusal.OutOfMemory = Unit {0}
IsRefused bytes (refusal.BadScript number) =
    IsBadAt bytes number × IsOnlyReading bytes (Err number) × IsFirstBad bytes number
IsRefused bytes other = ⊥

-- The law of `script_of`: a bad line is the first that breaks a rule, and a script is what its lines tell.
pub record ReadsByTheRules : Type 0 where
  pub bad : (lines : List Line) (number : ℕ) → (script_of lines ≡ Err number) ↔ IsFirstBreak lines number
  pub good : (lines : List Line) (script : Script) → script_of lines ≡ Ok script → Tells lines script

-- The law of the bytes that are read: the first SCRIPT_BYTES + 1 decide what they read as, and what their lines tell.
pub record FrontDecides : Type 0 where
  pub reads : (bytes : List ℕ) (answer : Result Script ℕ) → ReadsAs (take (SCRIPT_BYTES + 1) bytes) answer →
      ReadsAs bytes answer
  pub only : (bytes : List ℕ) (answer : Result Script ℕ) → IsOnlyReading (take (SCRIPT_BYTES + 1) bytes) answer →
      IsOnlyReading bytes answer
  pub told : (bytes : List ℕ) (script : Script) → IsToldBy (take (SCRIPT_BYTES + 1) bytes) script
      → IsToldBy bytes script
  pub first_bad : (bytes : List ℕ) (n : ℕ) → IsFirstBad (take (SCRIPT_BYTES + 1) bytes) n → IsFirstBad bytes n
