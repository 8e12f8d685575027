-- What was read keeps the limits.
use Rattle.std.proofs.Common.{◌≡◌, ◌+◌, ◌≤◌, ◌++◌, ◌==◌, ◌||◌, ℕ, Bool, true, false, not, cond, List, [], ◌∷◌, Option, Some, None, Result, Ok, Err, length, length-append, nat_le, refl, MatchOption, if◌then◌else◌, arith}
use Rattle.std.proofs.lemmas.Bool.Decides.{nat_tests}
use Rattle.std.specs.List.{AllByRecursion}
use Rattle.std.specs.Option.{option_map}
use Rattle.retro_base.specs.declared.limits.TheConstants.{ITEMS, PHASES, SESSIONS}
use Rattle.script.specs.Limits.{EndFits, StatementFits, ItemFits, PhaseFits, ScriptFits, SessionFits, LineFits}
use Rattle.script.specs.Script.{end_step, finished, goes_on, has_name, is_closed, open_step, opened, phases_of, sessions_of, single_step, statement_step, step}
use Rattle.script.specs.declared.draft.ScriptSoFar.{ScriptSoFar}
use Rattle.script.specs.declared.draft.ScriptSoFar.TheVariants as draft
use Rattle.script.specs.declared.draft.OpenPhase.{OpenPhase}
use Rattle.script.specs.declared.draft.OpenSession.{OpenSession}
use Rattle.script.specs.declared.line.Line.{Line}
use Rattle.script.specs.declared.line.Line.TheVariants as line
use Rattle.script.specs.declared.structure.Item.{Item}
use Rattle.script.specs.declared.structure.Item.TheVariants as item
use Rattle.script.specs.declared.structure.Script.{Script}
use Rattle.script.specs.declared.structure.Session.{Session}

-- the items of a session, the open one with them, are among those that were opened
abbrev pub SessionKeeps : ℕ → Option OpenSession → Type 0
SessionKeeps items None = Unit {0}
SessionKeeps items (Some s) =
    (length s.before + 1 ≤ SESSIONS) × AllByRecursion SessionFits s.before × (length s.items + cond (length s.statements == 0) 0 1 ≤ items) × AllByRecursion ItemFits s.items × AllByRecursion StatementFits s.statements

-- what was read keeps the limits
abbrev pub PhaseKeeps : OpenPhase → Type 0
PhaseKeeps p = (length p.phases + 1 ≤ PHASES) × AllByRecursion PhaseFits p.phases × (p.items ≤ ITEMS) × SessionKeeps p.items p.session

abbrev pub DraftFits : ScriptSoFar → Type 0
DraftFits draft.Empty = Unit {0}
DraftFits (draft.Open p) = PhaseKeeps p

fit_push : {X : Type 0} (P : X → Type 0) (xs : List X) (y : X) → AllByRecursion P xs → P y → AllByRecursion P (xs ++ y ∷ [])
fit_push P [] y all one = (one, tt)
fit_push P (x ∷ xs) y all one = (all.0, fit_push P xs y all.1 one)

few_items : (a n : ℕ) (b : Bool) → a + cond b 0 1 ≤ n → n ≤ ITEMS → a ≤ ITEMS
few_items a n true h l = omega (arith, h, l)
few_items a n false h l = omega (arith, h, l)

closed_fits : (items : ℕ) (s : OpenSession) → items ≤ ITEMS → SessionKeeps items (Some s) → SessionFits (record { name = s.name; items = s.items })
closed_fits items s l h = (few_items (length s.items) items (length s.statements == 0) h.2 l, h.3)

-- the sessions of the open phase
sessions_fit : (items : ℕ) (session : Option OpenSession) → items ≤ ITEMS → SessionKeeps items session → (length (sessions_of session) ≤ SESSIONS) × AllByRecursion SessionFits (sessions_of session)
sessions_fit items None l h = (omega arith, tt)
sessions_fit items (Some s) l h =
    let done : Session = record { name = s.name; items = s.items } in
    (omega (arith, h.0, length-append s.before (done ∷ [])), fit_push SessionFits s.before done h.1 (closed_fits items s l h))

phases_fit : (p : OpenPhase) → PhaseKeeps p → AllByRecursion PhaseFits (phases_of p)
phases_fit p h = fit_push PhaseFits p.phases (record { sessions = sessions_of p.session }) h.1 (sessions_fit p.items p.session h.2 h.3)

abbrev Keeps : Option OpenPhase → Type 0
Keeps next = MatchOption next (Unit {0}) PhaseKeeps

phase_keeps : (p : OpenPhase) (stop full : Bool) → nat_le PHASES (length p.phases + 1) ≡ full → PhaseKeeps p
    → Keeps (if (stop || full) then None else Some (record { phases = phases_of p; items = p.items; session = None }))
phase_keeps p true full e h = tt
phase_keeps p false true e h = tt
phase_keeps p false false e h =
    (grind (arith, nat_tests, e, length-append p.phases (record { sessions = sessions_of p.session } ∷ [])), phases_fit p h, h.2, tt)

session_keeps : (p : OpenPhase) (name : List ℕ) (stop full twice : Bool) → nat_le SESSIONS (length (sessions_of p.session)) ≡ full → PhaseKeeps p
    → Keeps (if (stop || (full || twice)) then None else Some (record p { session = Some (record { before = sessions_of p.session; name = name; items = []; statements = [] }) }))
session_keeps p name true full twice e h = tt
session_keeps p name false true twice e h = tt
session_keeps p name false false true e h = tt
session_keeps p name false false false e h =
    let fit = sessions_fit p.items p.session h.2 h.3 in
    (h.0, h.1, h.2, (grind (arith, nat_tests, e), fit.1, omega arith, tt, tt))

-- a line that opens an item, or goes on with one, leaves the session's items among those that were opened
opened_fits : (items a : ℕ) (empty full : Bool) → nat_le ITEMS items ≡ full → items ≤ ITEMS → a + cond empty 0 1 ≤ items
    → MatchOption (if empty then (if full then None else Some (items + 1)) else Some items) (Unit {0}) (λ n. (n ≤ ITEMS) × (a + 1 ≤ n))
opened_fits items a true true e l h = tt
opened_fits items a true false e l h = (grind (arith, nat_tests, e), omega (arith, h))
opened_fits items a false full e l h = (l, h)

still : (a n : ℕ) (b : Bool) → a + 1 ≤ n → a + cond b 0 1 ≤ n
still a n true h = omega (arith, h)
still a n false h = h

abbrev Room : OpenSession → Option ℕ → Type 0
Room s o = MatchOption o (Unit {0}) (λ n. (n ≤ ITEMS) × (length s.items + 1 ≤ n))

room : (p : OpenPhase) (s : OpenSession) → PhaseKeeps p → SessionKeeps p.items (Some s) → Room s (opened p.items s)
room p s h k = opened_fits p.items (length s.items) (length s.statements == 0) (nat_le ITEMS p.items) refl h.2 k.2

statement_keeps : (p : OpenPhase) (s : OpenSession) (reading : _) (o : Option ℕ) → PhaseKeeps p → SessionKeeps p.items (Some s) → StatementFits reading → Room s o
    → Keeps (option_map (goes_on p (record s { statements = s.statements ++ reading ∷ [] })) o)
statement_keeps p s reading None h k f r = tt
statement_keeps p s reading (Some n) h k f r =
    (h.0, h.1, r.0, (k.0, k.1, still (length s.items) n (length (s.statements ++ reading ∷ []) == 0) r.1, k.3, fit_push StatementFits s.statements reading k.4 f))

end_keeps : (p : OpenPhase) (s : OpenSession) (done : Item) (o : Option ℕ) → PhaseKeeps p → SessionKeeps p.items (Some s) → ItemFits done → Room s o
    → Keeps (option_map (goes_on p (record s { items = s.items ++ done ∷ []; statements = [] })) o)
end_keeps p s done None h k f r = tt
end_keeps p s done (Some n) h k f r = (h.0, h.1, r.0, (k.0, k.1, omega (arith, r.1, length-append s.items (done ∷ [])), fit_push ItemFits s.items done k.3 f, tt))

one_more : (a b c n : ℕ) → b ≡ a + 1 → a + c ≤ n → b + c ≤ n + 1
one_more a b c n e h = omega (arith, e, h)

single_keeps : (p : OpenPhase) (s : OpenSession) (done : Item) (stop full : Bool) → nat_le ITEMS p.items ≡ full → PhaseKeeps p → SessionKeeps p.items (Some s) → ItemFits done
    → Keeps (if (stop || full) then None else Some (goes_on p (record s { items = s.items ++ done ∷ [] }) (p.items + 1)))
single_keeps p s done true full e h k f = tt
single_keeps p s done false true e h k f = tt
single_keeps p s done false false e h k f = (
  h.0,
  h.1,
  grind (arith, nat_tests, e),
  (k.0, k.1, one_more (length s.items) (length (s.items ++ done ∷ [])) (cond (length s.statements == 0) 0 1) p.items (length-append s.items (done ∷ [])) k.2, fit_push ItemFits s.items done k.3 f, k.4),
)

in_statement : (p : OpenPhase) (reading : _) (session : Option OpenSession) → PhaseKeeps p → SessionKeeps p.items session → StatementFits reading → Keeps (statement_step p reading session)
in_statement p reading None h k f = tt
in_statement p reading (Some s) h k f = statement_keeps p s reading (opened p.items s) h k f (room p s h k)

in_end : (p : OpenPhase) (end : _) (session : Option OpenSession) → PhaseKeeps p → SessionKeeps p.items session → EndFits end → Keeps (end_step p end session)
in_end p end None h k f = tt
in_end p end (Some s) h k f = end_keeps p s (item.Transaction (record { statements = s.statements; end = end })) (opened p.items s) h k (k.4, f) (room p s h k)

in_single : (p : OpenPhase) (single : _) (session : Option OpenSession) → PhaseKeeps p → SessionKeeps p.items session → Keeps (single_step p single session)
in_single p single None h k = tt
in_single p single (Some s) h k = single_keeps p s (item.Single single) (not (length s.statements == 0)) (nat_le ITEMS p.items) refl h k tt

open_keeps : (p : OpenPhase) (one : Line) → PhaseKeeps p → LineFits one → Keeps (open_step p one)
open_keeps p line.Skipped h f = h
open_keeps p line.Phase h f = phase_keeps p (not (is_closed p.session)) (nat_le PHASES (length p.phases + 1)) refl h
open_keeps p (line.Session name) h f = session_keeps p name (not (is_closed p.session)) (nat_le SESSIONS (length (sessions_of p.session))) (has_name name (sessions_of p.session)) refl h
open_keeps p (line.Statement reading) h f = in_statement p reading p.session h h.3 f
open_keeps p (line.Ends end) h f = in_end p end p.session h h.3 f
open_keeps p (line.Single single) h f = in_single p single p.session h h.3
open_keeps p line.Bad h f = tt

abbrev NextFits : Option ScriptSoFar → Type 0
NextFits next = MatchOption next (Unit {0}) DraftFits

opened_next : (next : Option OpenPhase) → Keeps next → NextFits (option_map draft.Open next)
opened_next None k = tt
opened_next (Some p) k = k

pub step_fits : (state : ScriptSoFar) (one : Line) → DraftFits state → LineFits one → NextFits (step state one)
step_fits draft.Empty line.Skipped fits new = tt
step_fits draft.Empty line.Phase fits new = (omega arith, tt, omega arith, tt)
step_fits draft.Empty (line.Session name) fits new = (omega arith, tt, omega arith, (omega arith, tt, omega arith, tt, tt))
step_fits draft.Empty one fits new = tt
step_fits (draft.Open p) one fits new = opened_next (open_step p one) (open_keeps p one fits new)

abbrev AnswerFits : Result Script ℕ → Type 0
AnswerFits (Ok script) = ScriptFits script
AnswerFits (Err number) = Unit {0}

open_answer : (number : ℕ) (p : OpenPhase) (closed : Bool) → PhaseKeeps p → AnswerFits (if closed then Ok (record { phases = phases_of p }) else Err number)
open_answer number p true h = (omega (arith, h.0, length-append p.phases (record { sessions = sessions_of p.session } ∷ [])), phases_fit p h)
open_answer number p false h = tt

finished_answer : (number : ℕ) (state : ScriptSoFar) → DraftFits state → AnswerFits (finished number state)
finished_answer number draft.Empty fits = (omega arith, tt)
finished_answer number (draft.Open p) fits = open_answer number p (is_closed p.session) fits

pub finished_fits : (number : ℕ) (state : ScriptSoFar) (script : Script) → DraftFits state → finished number state ≡ Ok script → ScriptFits script
finished_fits number state script fits e = rw e at (finished_answer number state fits)
