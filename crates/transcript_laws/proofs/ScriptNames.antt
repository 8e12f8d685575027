-- The names of a script's sessions are told apart.
use Rattle.std.proofs.Common.{◌≡◌, ◌+◌, ◌++◌, ◌<◌, ◌||◌, inl, inr, ◌⊎◌, ℕ, Bool, true, false, not, List, [], ◌∷◌, Option, Some, None, Ok, Err, length, length-append, map, nat_le, refl, ap, sym, subst, ◌∙◌, MatchOption, if◌then◌else◌, arith}
use Rattle.std.specs.Prelude.{MatchBool, slice_get, suc, zero}
use Rattle.std.specs.List.{AllByRecursion, AllZip}
use Rattle.std.specs.Option.{option_map, option_map_or}
use Rattle.std.specs.Str.{bytes_eq}
use Rattle.std.proofs.lemmas.Bool.Decides.{nat_tests}
use Rattle.std.proofs.lemmas.List.{length-map}
use Rattle.std.proofs.lemmas.Slice.Eq.{bytes_eq-Decides}
use Rattle.retro_base.specs.declared.limits.TheConstants.{PHASES, SESSIONS}
use Rattle.sql_parts.specs.declared.parsed.Parsed.{Parsed}
use Rattle.sql_parts.specs.declared.parsed.Parsed.TheVariants as parsed
use Rattle.sql_tree.specs.declared.statement.Statement.{Statement as StatementOf}
use Rattle.sql_tree.specs.declared.statement.Statement.TheVariants as statement
use Rattle.script.specs.Class.{is_result_name, is_snap_ids}
use Rattle.script.specs.Line.{IsLine, IsSessionLine, IsStatementLine, IsTextLine, parsed_line, plain_line, refused_line}
use Rattle.script.specs.Name.{IsSessionName}
use Rattle.script.specs.Script.{IsScript, end_step, finished, goes_on, has_name, is_closed, open_step, opened, phases_of, script_from, sessions_of, single_step, statement_step, step}
use Rattle.script.specs.Text.{is_phase, is_session, is_skipped, script_lines, session_name, text_of}
use Rattle.script.specs.declared.class.Class.{Class}
use Rattle.script.specs.declared.class.Class.TheVariants as class
use Rattle.script.specs.declared.draft.ScriptSoFar.{ScriptSoFar}
use Rattle.script.specs.declared.draft.ScriptSoFar.TheVariants as draft
use Rattle.script.specs.declared.draft.OpenPhase.{OpenPhase}
use Rattle.script.specs.declared.draft.OpenSession.{OpenSession}
use Rattle.script.specs.declared.line.Line.{Line}
use Rattle.script.specs.declared.line.Line.TheVariants as line
use Rattle.script.specs.declared.structure.Phase.{Phase}
use Rattle.script.specs.declared.structure.Reading.{Reading}
use Rattle.script.specs.declared.structure.Reading.TheVariants.{Read}
use Rattle.script.specs.declared.structure.Script.{Script}
use Rattle.script.specs.declared.structure.Session.{Session}
use Rattle.script.specs.declared.structure.Single.{Single}
use Rattle.script.specs.declared.structure.Single.TheVariants as single
use Rattle.session.specs.Plan.{AreSessions, ArePhases, Plan, names_of}
use Rattle.session.specs.declared.plan.SessionPlan.{SessionPlan}
use Rattle.transcript_laws.specs.Apart.{AreNames, HasNames}
use Rattle.transcript_laws.specs.Laws.{ScriptsHaveNames}

-- ---- one name more

all_push : {A : Type 0} (P : A → Type 0) (xs : List A) (x : A) → AllByRecursion P xs → P x → AllByRecursion P (xs ++ x ∷ [])
all_push P [] x all one = (one, tt)
all_push P (y ∷ xs) x all one = (all.0, all_push P xs x all.1 one)

push_get : (xs : List (List ℕ)) (x : List ℕ) (place : ℕ) (y : List ℕ) → slice_get (xs ++ x ∷ []) place ≡ Some y
    → (slice_get xs place ≡ Some y) ⊎ ((place ≡ length xs) × (x ≡ y))
push_get [] x zero y e =
    let is : x ≡ y = cc in
    inr (refl, is)
push_get [] x (suc place) y e = cc
push_get (z ∷ xs) x zero y e = inl e
push_get (z ∷ xs) x (suc place) y e = by_rest (push_get xs x place y e)
  where
    by_rest : (slice_get xs place ≡ Some y) ⊎ ((place ≡ length xs) × (x ≡ y))
        → (slice_get xs place ≡ Some y) ⊎ ((suc place ≡ length (z ∷ xs)) × (x ≡ y))
    by_rest (inl at) = inl at
    by_rest (inr (at, is)) = inr (omega (arith, at), is)

abbrev Lacks : List ℕ → List (List ℕ) → Type 0
Lacks name names = (place : ℕ) → slice_get names place ≡ Some name → ⊥

names_push : (names : List (List ℕ)) (name : List ℕ) → IsSessionName name → length names < SESSIONS → Lacks name names
    → AreNames names → AreNames (names ++ name ∷ [])
names_push names name is room lacks are = record {
  each = all_push IsSessionName names name are.each is;
  few = omega (arith, room, length-append names (name ∷ []));
  differ =
      λ one other x a b. by_places one other x a b (push_get names name one x a) (push_get names name other x b);
}
  where
    by_places : (one other : ℕ) (x : List ℕ) → slice_get (names ++ name ∷ []) one ≡ Some x
        → slice_get (names ++ name ∷ []) other ≡ Some x
        → (slice_get names one ≡ Some x) ⊎ ((one ≡ length names) × (name ≡ x))
        → (slice_get names other ≡ Some x) ⊎ ((other ≡ length names) × (name ≡ x)) → one ≡ other
    by_places one other x a b (inl c) (inl d) = are.differ one other x c d
    by_places one other x a b (inl c) (inr (d, e)) = absurd (lacks one (c ∙ ap (λ (n : List ℕ). Some n) (sym e)))
    by_places one other x a b (inr (c, e)) (inl d) = absurd (lacks other (d ∙ ap (λ (n : List ℕ). Some n) (sym e)))
    by_places one other x a b (inr (c, e)) (inr (d, f)) = c ∙ sym d

-- ---- names of sessions

abbrev session_names : List Session → List (List ℕ)
session_names sessions = map (λ (session : Session). session.name) sessions

abbrev open_names : Option OpenSession → List (List ℕ)
open_names None = []
open_names (Some s) = session_names s.before ++ s.name ∷ []

names_append : (before : List Session) (one : Session) → session_names (before ++ one ∷ [])
    ≡ session_names before ++ one.name ∷ []
names_append [] one = refl
names_append (s ∷ before) one = ap (λ (more : List (List ℕ)). s.name ∷ more) (names_append before one)

names_open : (session : Option OpenSession) → session_names (sessions_of session) ≡ open_names session
names_open None = refl
names_open (Some s) = names_append s.before (record { name = s.name; items = s.items })

lacks_name : (sessions : List Session) (name : List ℕ) → has_name name sessions ≡ false
    → Lacks name (session_names sessions)
lacks_name [] name lacking place e = cc
lacks_name (s ∷ sessions) name lacking place e =
    by_test (bytes_eq s.name name) refl lacking place e (λ lacking place e. lacks_name sessions name lacking place e)
  where
    by_test : (same : Bool) → bytes_eq s.name name ≡ same → (same || has_name name sessions) ≡ false → (place : ℕ)
        → slice_get (s.name ∷ session_names sessions) place ≡ Some name
        → (has_name name sessions ≡ false → (place : ℕ) → slice_get (session_names sessions) place ≡ Some name → ⊥) → ⊥
    by_test true is lacking place e rest = cc
    by_test false is lacking zero e rest =
        let same : s.name ≡ name = cc in
        let yes : bytes_eq s.name name ≡ true = (bytes_eq-Decides s.name name).1 same in
        cc
    by_test false is lacking (suc place) e rest = rest lacking place e

no_names : AreNames []
no_names = record { each = tt; few = omega arith; differ = λ one other name e f. cc }

-- ---- lines

-- a name that a line gives to a session is one
abbrev LineNamed : Line → Type 0
LineNamed (line.Session name) = IsSessionName name
LineNamed other = Unit {0}

plain_named : (s : StatementOf) → LineNamed (plain_line s)
plain_named (statement.Select query) =
    by_tests (is_snap_ids query.table) (is_result_name query.table) (single.SnapIds query) (single.Results query)
    (Read (statement.Select query))
  where
    by_tests : (ids results : Bool) (one other : Single) (reading : Reading StatementOf)
        → LineNamed (if ids then line.Single one else (if results then line.Single other else line.Statement reading))
    by_tests true results one other reading = tt
    by_tests false true one other reading = tt
    by_tests false false one other reading = tt
plain_named other = tt

parsed_named : (places : List ℕ) (p : Parsed) → LineNamed (parsed_line places p)
parsed_named places (parsed.Plain s) = plain_named s
parsed_named places p = tt

refused_named : (kind : Class) (place : ℕ) → LineNamed (refused_line kind place)
refused_named class.Statement place = tt
refused_named class.End place = tt
refused_named class.Single place = tt

statement_named : (text : List ℕ) (one : Line) → IsStatementLine text one → LineNamed one
statement_named text one (tokens, end, lexes, inl (p, spells, e)) = subst LineNamed (sym e) (parsed_named _ p)
statement_named text one (tokens, end, lexes, inr (place, at, e)) = subst LineNamed (sym e) (refused_named _ place)

session_named : (name : List ℕ) (one : Line) → IsSessionLine name one → LineNamed one
session_named name one (inl (is, e)) = subst LineNamed (sym e) is
session_named name one (inr (bad, e)) = subst LineNamed (sym e) tt

text_named : (text : List ℕ) (one : Line) → IsTextLine text one → LineNamed one
text_named text one is = by_tests (is_skipped text) (is_phase text) (is_session text) is
  where
    by_tests : (skipped phase session : Bool) → MatchBool skipped (one ≡ line.Skipped) (MatchBool phase (one ≡ line.Phase)
        (MatchBool session (IsSessionLine (session_name text) one) (IsStatementLine text one))) → LineNamed one
    by_tests true phase session e = subst LineNamed (sym e) tt
    by_tests false true session e = subst LineNamed (sym e) tt
    by_tests false false true e = session_named (session_name text) one e
    by_tests false false false e = statement_named text one e

line_named : (bytes : Option (List ℕ)) (one : Line) → IsLine bytes one → LineNamed one
line_named None one e = subst LineNamed (sym e) tt
line_named (Some bytes) one is = text_named (text_of bytes) one is

-- ---- what was read

abbrev PhaseNamed : Phase → Type 0
PhaseNamed phase = AreNames (session_names phase.sessions)

record PhasesNamed (p : OpenPhase) : Type 0 where
  phases : AllByRecursion PhaseNamed p.phases
  session : AreNames (open_names p.session)

abbrev DraftNamed : ScriptSoFar → Type 0
DraftNamed draft.Empty = Unit {0}
DraftNamed (draft.Open p) = PhasesNamed p

abbrev Keeps : Option OpenPhase → Type 0
Keeps next = MatchOption next (Unit {0}) PhasesNamed

phases_named : (p : OpenPhase) → PhasesNamed p → AllByRecursion PhaseNamed (phases_of p)
phases_named p h =
    all_push PhaseNamed p.phases (record { sessions = sessions_of p.session }) h.phases
    (subst AreNames (sym (names_open p.session)) h.session)

phase_keeps : (p : OpenPhase) (stop : Bool) → PhasesNamed p
    → Keeps (if stop then None else Some (record { phases = phases_of p; items = p.items; session = None }))
phase_keeps p true h = tt
phase_keeps p false h = record { phases = phases_named p h; session = no_names }

session_keeps : (p : OpenPhase) (name : List ℕ) (stop full twice : Bool)
    → nat_le SESSIONS (length (sessions_of p.session)) ≡ full → has_name name (sessions_of p.session) ≡ twice
    → PhasesNamed p → IsSessionName name
    → Keeps (if (stop || (full || twice)) then None else Some (record p { session = Some (record { before = sessions_of p.session; name = name; items = []; statements = [] }) }))
session_keeps p name true full twice e f h is = tt
session_keeps p name false true twice e f h is = tt
session_keeps p name false false true e f h is = tt
session_keeps p name false false false e f h is =
    let names = session_names (sessions_of p.session) in
    let small : length (sessions_of p.session) < SESSIONS = grind (arith, nat_tests, e) in
    let room : length names < SESSIONS =
    omega (arith, small, length-map (sessions_of p.session) (λ (s : Session). s.name)) in
    record {
      phases = h.phases;
      session =
          names_push names name is room (lacks_name (sessions_of p.session) name f)
          (subst AreNames (sym (names_open p.session)) h.session);
    }

goes_named : (p : OpenPhase) (s : OpenSession) (o : Option ℕ) → PhasesNamed p → AreNames (open_names (Some s))
    → Keeps (option_map (goes_on p s) o)
goes_named p s None h are = tt
goes_named p s (Some items) h are = record { phases = h.phases; session = are }

in_statement : (p : OpenPhase) (reading : _) (session : Option OpenSession) → PhasesNamed p
    → AreNames (open_names session) → Keeps (statement_step p reading session)
in_statement p reading None h are = tt
in_statement p reading (Some s) h are =
    goes_named p (record s { statements = s.statements ++ reading ∷ [] }) (opened p.items s) h are

in_end : (p : OpenPhase) (end : _) (session : Option OpenSession) → PhasesNamed p → AreNames (open_names session)
    → Keeps (end_step p end session)
in_end p end None h are = tt
in_end p end (Some s) h are = goes_named p _ (opened p.items s) h are

single_keeps : (p : OpenPhase) (s : OpenSession) (stop : Bool) → PhasesNamed p → AreNames (open_names (Some s))
    → Keeps (if stop then None else Some (goes_on p s (p.items + 1)))
single_keeps p s true h are = tt
single_keeps p s false h are = record { phases = h.phases; session = are }

in_single : (p : OpenPhase) (single : _) (session : Option OpenSession) → PhasesNamed p → AreNames (open_names session)
    → Keeps (single_step p single session)
in_single p single None h are = tt
in_single p single (Some s) h are = single_keeps p _ _ h are

open_keeps : (p : OpenPhase) (one : Line) → PhasesNamed p → LineNamed one → Keeps (open_step p one)
open_keeps p line.Skipped h is = h
open_keeps p line.Phase h is = phase_keeps p (not (is_closed p.session) || nat_le PHASES (length p.phases + 1)) h
open_keeps p (line.Session name) h is =
    session_keeps p name (not (is_closed p.session)) (nat_le SESSIONS (length (sessions_of p.session)))
    (has_name name (sessions_of p.session)) refl refl h is
open_keeps p (line.Statement reading) h is = in_statement p reading p.session h h.session
open_keeps p (line.Ends end) h is = in_end p end p.session h h.session
open_keeps p (line.Single single) h is = in_single p single p.session h h.session
open_keeps p line.Bad h is = tt

opened_next : (next : Option OpenPhase) → Keeps next
    → MatchOption (option_map draft.Open next) (Unit {0}) DraftNamed
opened_next None keeps = tt
opened_next (Some p) keeps = keeps

one_name : (name : List ℕ) → IsSessionName name → AreNames (name ∷ [])
one_name name is = names_push [] name is (omega arith) (λ place e. cc) no_names

step_named : (state : ScriptSoFar) (one : Line) → DraftNamed state → LineNamed one
    → MatchOption (step state one) (Unit {0}) DraftNamed
step_named draft.Empty line.Skipped h is = tt
step_named draft.Empty line.Phase h is = record { phases = tt; session = no_names }
step_named draft.Empty (line.Session name) h is = record { phases = tt; session = one_name name is }
step_named draft.Empty one h is = tt
step_named (draft.Open p) one h is = opened_next (open_step p one) (open_keeps p one h is)

abbrev ScriptNamed : Script → Type 0
ScriptNamed script = AllByRecursion PhaseNamed script.phases

closed_named : (p : OpenPhase) (number : ℕ) (script : Script) (closed : Bool) → PhasesNamed p
    → (if closed then Ok (record { phases = phases_of p }) else Err number) ≡ Ok script → ScriptNamed script
closed_named p number script true h e =
    let is : record { phases = phases_of p } ≡ script = cc in
    subst ScriptNamed is (phases_named p h)
closed_named p number script false h e = cc

finished_named : (number : ℕ) (state : ScriptSoFar) (script : Script) → DraftNamed state
    → finished number state ≡ Ok script → ScriptNamed script
finished_named number draft.Empty script h e =
    let empty : Script = record { phases = [] } in
    let is : empty ≡ script = cc in
    subst ScriptNamed is tt
finished_named number (draft.Open p) script h e = closed_named p number script (is_closed p.session) h e

from_named : (number : ℕ) (state : ScriptSoFar) (texts : List (Option (List ℕ))) (lines : List Line) (script : Script)
    → DraftNamed state → AllZip IsLine texts lines → script_from number state lines ≡ Ok script → ScriptNamed script
from_named number state [] [] script h all e = finished_named number state script h e
from_named number state [] (l ∷ lines) script h all e = absurd all
from_named number state (t ∷ texts) [] script h all e = absurd all
from_named number state (t ∷ texts) (l ∷ lines) script h all e =
    by_next (step state l) (step_named state l h (line_named t l all.0)) e
    (λ next named e. from_named (number + 1) next texts lines script named all.1 e)
  where
    by_next : (next : Option ScriptSoFar) → MatchOption next (Unit {0}) DraftNamed
        → option_map_or (λ next. script_from (number + 1) next lines) next (Err number) ≡ Ok script
        → ((next : ScriptSoFar) → DraftNamed next → script_from (number + 1) next lines ≡ Ok script
        → ScriptNamed script)
        → ScriptNamed script
    by_next None named e rest = cc
    by_next (Some next) named e rest = rest next named e

script_named : (bytes : List ℕ) (script : Script) → IsScript bytes script → ScriptNamed script
unfolding IsScript
script_named bytes script (lines, all, e) = from_named 1 draft.Empty (script_lines bytes) lines script tt all e

-- ---- the plan

plan_names : (sessions : List Session) (plans : List SessionPlan) → AreSessions sessions plans
    → names_of plans ≡ session_names sessions
plan_names [] [] are = refl
plan_names (s ∷ sessions) (p ∷ plans) are =
    let rest = plan_names sessions plans are.2 in
    λ i. are.0 i ∷ rest i
plan_names sessions plans are = absurd are

plan_named : (phases : List Phase) (plan : Plan) → ArePhases phases plan → AllByRecursion PhaseNamed phases → HasNames plan
plan_named [] [] are all = tt
plan_named (phase ∷ phases) (sessions ∷ plan) are all =
    (subst AreNames (sym (plan_names phase.sessions sessions are.0)) all.0, plan_named phases plan are.1 all.1)
plan_named phases plan are all = absurd are

pub have_names : ScriptsHaveNames
have_names bytes script plan is asks = plan_named script.phases plan asks (script_named bytes script is)
