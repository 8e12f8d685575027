-- The laws of the script that lines tell.
use Rattle.std.proofs.Common.{◌≡◌, ◌+◌, ◌<◌, ◌≤◌, ◌++◌, ◌==◌, ◌&&◌, ◌||◌, ◌⊎◌, ◌↔◌, ℕ, Bool, true, false, not, cond, List, [], ◌∷◌, Option, Some, None, Result, Ok, Err, length, nat_le, map, sym, ap, subst, refl, ◌∙◌, inl, inr, arith, append_assoc, append-nil, length-append, MatchOption, if◌then◌else◌}
use Rattle.std.specs.List.{list_any, slice_get, flat_map}
use Rattle.std.specs.Option.{option_map, option_map_or}
use Rattle.std.specs.Str.{bytes_eq}
use Rattle.std.proofs.lemmas.Bool.{cases_lt, false≢true}
use Rattle.std.proofs.lemmas.Bool.Decides.{nat_tests}
use Rattle.std.proofs.lemmas.Grind.{flat_map-append}
use Rattle.std.proofs.lemmas.List.{take_at, map-append}
use Rattle.std.proofs.lemmas.List.Elements.{filter-append}
use Rattle.std.proofs.lemmas.Option.{slice_get_past}
use Rattle.retro_base.specs.declared.limits.TheConstants.{ITEMS, PHASES, SESSIONS}
use Rattle.script.specs.Rules.{Standing, behind, behind_all, breaks, breaks_at, counted, counts, has_no_room, in_phase, IsFirstBreak, KeepsRules, item_lines, items_on, nothing, phase_lines, session_lines, standing, Tells}
use Rattle.script.specs.Script.{end_step, finished, goes_on, has_name, is_closed, new_session, open_step, opened, phases_of, script_from, script_of, sessions_of, single_step, statement_step, step}
use Rattle.script.specs.declared.draft.ScriptSoFar.{ScriptSoFar}
use Rattle.script.specs.declared.draft.ScriptSoFar.TheVariants as draft
use Rattle.script.specs.declared.draft.OpenPhase.{OpenPhase}
use Rattle.script.specs.declared.draft.OpenSession.{OpenSession}
use Rattle.script.specs.declared.line.Line.{Line}
use Rattle.script.specs.declared.line.Line.TheVariants.{Skipped, Phase, Session, Ends, Single, Statement, Bad}
use Rattle.script.specs.declared.structure.Item.{Item}
use Rattle.script.specs.declared.structure.Item.TheVariants as item
use Rattle.script.specs.declared.structure.Phase.{Phase as PhaseOf}
use Rattle.script.specs.declared.structure.Script.{Script}
use Rattle.script.specs.declared.structure.Session.{Session as SessionOf}

-- what the lines say of which this was read
abbrev names_of : Option OpenSession → List (List ℕ)
names_of session = map (λ s. s.name) (sessions_of session)

abbrev stands_open : OpenPhase → Standing
stands_open p = record { phases = length p.phases + 1; names = names_of p.session; items = p.items; is_open = not (is_closed p.session) }

abbrev stands : ScriptSoFar → Standing
stands draft.Empty = nothing
stands (draft.Open p) = stands_open p

behind-push : (s : Standing) (xs : List Line) (y : Line) → behind_all s (xs ++ y ∷ []) ≡ behind (behind_all s xs) y
behind-push s [] y = refl
behind-push s (x ∷ xs) y = behind-push (behind s x) xs y

eqb_same : (n : ℕ) → (n == n) ≡ true
eqb_same n = grind (arith, nat_tests)

eqb_above : (m n : ℕ) → n < m → (m == n) ≡ false
eqb_above m n h = grind (arith, nat_tests)

nonempty-push : {X : Type 0} (xs : List X) (y : X) → (length (xs ++ y ∷ []) == 0) ≡ false
nonempty-push xs y = eqb_above (length (xs ++ y ∷ [])) 0 (omega (arith, length-append xs (y ∷ [])))

length-map : {X Y : Type 0} (f : X → Y) (xs : List X) → length (map f xs) ≡ length xs
length-map f [] = refl
length-map f (x ∷ xs) = let ih = length-map f xs in omega (arith, ih)

any_name : (name : List ℕ) (sessions : List SessionOf) → list_any (λ other. bytes_eq other name) (map (λ s. s.name) sessions) ≡ has_name name sessions
any_name name [] = refl
any_name name (s ∷ sessions) = ap (λ b. bytes_eq s.name name || b) (any_name name sessions)

same_standing : (a b c d : ℕ) (m n : List (List ℕ)) (x y : Bool) → a ≡ b → m ≡ n → c ≡ d → x ≡ y
    → (let one : Standing = record { phases = a; names = m; items = c; is_open = x } in one) ≡ record { phases = b; names = n; items = d; is_open = y }
same_standing a b c d m n x y e f g h = cc

-- What a step says: a line that may not stand there breaks a rule, and one that may breaks none.
abbrev Moves : Standing → Line → Option OpenPhase → Type 0
Moves s line next = MatchOption next (breaks s line ≡ true) (λ p. (breaks s line ≡ false) × (behind s line ≡ stands_open p))

new_names : (session : Option OpenSession) (name : List ℕ) → map (λ (s : SessionOf). s.name) (sessions_of session ++ record { name = name; items = [] } ∷ []) ≡ names_of session ++ name ∷ []
new_names session name = map-append (λ (s : SessionOf). s.name) (sessions_of session) (record { name = name; items = [] } ∷ [])

phase_moves : (p : OpenPhase) (stop full : Bool) → not (is_closed p.session) ≡ stop → nat_le PHASES (length p.phases + 1) ≡ full
    → Moves (stands_open p) Phase (if (stop || full) then None else Some (record { phases = phases_of p; items = p.items; session = None }))
phase_moves p true full e f = ap (λ b. b || nat_le PHASES (length p.phases + 1)) e
phase_moves p false true e f = rw (e, f) refl
phase_moves p false false e f =
    (rw (e, f) refl, same_standing _ _ _ _ _ _ _ _ (omega (arith, length-append p.phases (record { sessions = sessions_of p.session } ∷ []))) refl refl e)

session_moves : (p : OpenPhase) (name : List ℕ) (stop full twice : Bool) → not (is_closed p.session) ≡ stop → nat_le SESSIONS (length (sessions_of p.session)) ≡ full → has_name name (sessions_of p.session) ≡ twice
    → Moves (stands_open p) (Session name)
    (if (stop || (full || twice)) then None else Some (record p { session = Some (record { before = sessions_of p.session; name = name; items = []; statements = [] }) }))
session_moves p name true full twice e f g = ap (λ b. b || (nat_le SESSIONS (length (names_of p.session)) || list_any (λ other. bytes_eq other name) (names_of p.session))) e
session_moves p name false true twice e f g = rw (e, length-map (λ (s : SessionOf). s.name) (sessions_of p.session), f) refl
session_moves p name false false true e f g = rw (e, length-map (λ (s : SessionOf). s.name) (sessions_of p.session), f, any_name name (sessions_of p.session), g) refl
session_moves p name false false false e f g = (
  rw (e, length-map (λ (s : SessionOf). s.name) (sessions_of p.session), f, any_name name (sessions_of p.session), g) refl,
  same_standing _ _ _ _ _ _ _ _ (ap (λ b. cond b 1 (length p.phases + 1)) (eqb_above (length p.phases + 1) 0 (omega arith))) (sym (new_names p.session name)) refl e,
)

-- a session is open, so that it has a name
some_name : (s : OpenSession) → (length (names_of (Some s)) == 0) ≡ false
some_name s =
    ap (λ xs. length xs == 0) (map-append (λ (t : SessionOf). t.name) s.before (record { name = s.name; items = s.items } ∷ [])) ∙ nonempty-push (map (λ (t : SessionOf). t.name) s.before) s.name

same_names : (s : OpenSession) (items : List Item) → map (λ (t : SessionOf). t.name) (s.before ++ record { name = s.name; items = items } ∷ []) ≡ names_of (Some s)
same_names s items =
    map-append (λ (t : SessionOf). t.name) s.before (record { name = s.name; items = items } ∷ []) ∙ sym (map-append (λ (t : SessionOf). t.name) s.before (record { name = s.name; items = s.items } ∷ []))

-- how many items a line that opens one unless a transaction is open leaves
abbrev at_open : OpenPhase → OpenSession → Standing
at_open p s = record { phases = length p.phases + 1; names = names_of (Some s); items = p.items; is_open = not (length s.statements == 0) }

Opens : OpenPhase → OpenSession → Option ℕ → Type 0
Opens p s o = MatchOption o (has_no_room (at_open p s) ≡ true) (λ n. (has_no_room (at_open p s) ≡ false) × (items_on (at_open p s) ≡ n))

opens_by : (p : OpenPhase) (s : OpenSession) (none empty full : Bool) → (length (names_of (Some s)) == 0) ≡ none → none ≡ false → (length s.statements == 0) ≡ empty → nat_le ITEMS p.items ≡ full
    → Opens p s (if empty then (if full then None else Some (p.items + 1)) else Some p.items)
unfolding Opens
opens_by p s none true true d z e f = rw (d, z, e, f) refl
opens_by p s none true false d z e f = (rw (d, z, e, f) refl, rw e refl)
opens_by p s none false full d z e f = (rw (d, z, e) refl, rw e refl)

opens : (p : OpenPhase) (s : OpenSession) → Opens p s (opened p.items s)
opens p s = opens_by p s (length (names_of (Some s)) == 0) (length s.statements == 0) (nat_le ITEMS p.items) refl (some_name s) refl refl

statement_moves : (p : OpenPhase) (s : OpenSession) (reading : _) (o : Option ℕ) → Opens p s o
    → Moves (at_open p s) (Statement reading) (option_map (goes_on p (record s { statements = s.statements ++ reading ∷ [] })) o)
unfolding Opens
statement_moves p s reading None h = h
statement_moves p s reading (Some n) h = (h.0, same_standing _ _ _ _ _ _ _ _ refl refl h.1 (sym (ap not (nonempty-push s.statements reading))))

end_moves : (p : OpenPhase) (s : OpenSession) (end : _) (done : Item) (o : Option ℕ) → Opens p s o
    → Moves (at_open p s) (Ends end) (option_map (goes_on p (record s { items = s.items ++ done ∷ []; statements = [] })) o)
unfolding Opens
end_moves p s end done None h = h
end_moves p s end done (Some n) h = (h.0, same_standing _ _ _ _ _ _ _ _ refl (sym (same_names s (s.items ++ done ∷ []))) h.1 refl)

single_moves : (p : OpenPhase) (s : OpenSession) (one : _) (stop full none : Bool) → not (length s.statements == 0) ≡ stop → nat_le ITEMS p.items ≡ full → (length (names_of (Some s)) == 0) ≡ none → none ≡ false
    → Moves (at_open p s) (Single one) (if (stop || full) then None else Some (goes_on p (record s { items = s.items ++ item.Single one ∷ [] }) (p.items + 1)))
single_moves p s one true full none e f d z = ap (λ b. b || has_no_room (at_open p s)) e
single_moves p s one false true none e f d z = rw (e, f, d, z) refl
single_moves p s one false false none e f d z = (rw (e, f, d, z) refl, same_standing _ _ _ _ _ _ _ _ refl (sym (same_names s (s.items ++ item.Single one ∷ []))) refl refl)

-- no session is open: no line of an item may stand there
in_statement : (p : OpenPhase) (reading : _) (session : Option OpenSession)
    → Moves (record { phases = length p.phases + 1; names = names_of session; items = p.items; is_open = not (is_closed session) }) (Statement reading) (statement_step p reading session)
in_statement p reading None = refl
in_statement p reading (Some s) = statement_moves p s reading (opened p.items s) (opens p s)

in_end : (p : OpenPhase) (end : _) (session : Option OpenSession)
    → Moves (record { phases = length p.phases + 1; names = names_of session; items = p.items; is_open = not (is_closed session) }) (Ends end) (end_step p end session)
in_end p end None = refl
in_end p end (Some s) = end_moves p s end (item.Transaction (record { statements = s.statements; end = end })) (opened p.items s) (opens p s)

in_single : (p : OpenPhase) (one : _) (session : Option OpenSession)
    → Moves (record { phases = length p.phases + 1; names = names_of session; items = p.items; is_open = not (is_closed session) }) (Single one) (single_step p one session)
in_single p one None = refl
in_single p one (Some s) = single_moves p s one (not (length s.statements == 0)) (nat_le ITEMS p.items) (length (names_of (Some s)) == 0) refl refl refl (some_name s)

open_moves : (p : OpenPhase) (line : Line) → Moves (stands_open p) line (open_step p line)
open_moves p Skipped = (refl, refl)
open_moves p Phase = phase_moves p (not (is_closed p.session)) (nat_le PHASES (length p.phases + 1)) refl refl
open_moves p (Session name) =
    session_moves p name (not (is_closed p.session)) (nat_le SESSIONS (length (sessions_of p.session))) (has_name name (sessions_of p.session)) refl refl refl
open_moves p (Statement reading) = in_statement p reading p.session
open_moves p (Ends end) = in_end p end p.session
open_moves p (Single one) = in_single p one p.session
open_moves p Bad = refl

-- the lines before say what stands behind them
abbrev Tracks : List Line → ScriptSoFar → Type 0
Tracks before state = standing before ≡ stands state

abbrev Goes : List Line → Line → Option ScriptSoFar → Type 0
Goes before line next = MatchOption next (breaks (standing before) line ≡ true) (λ state. (breaks (standing before) line ≡ false) × Tracks (before ++ line ∷ []) state)

abbrev Steps : Standing → Line → Option ScriptSoFar → Type 0
Steps s line next = MatchOption next (breaks s line ≡ true) (λ state. (breaks s line ≡ false) × (behind s line ≡ stands state))

opened_steps : (p : OpenPhase) (line : Line) (next : Option OpenPhase) → Moves (stands_open p) line next → Steps (stands_open p) line (option_map draft.Open next)
opened_steps p line None h = h
opened_steps p line (Some q) h = h

steps : (state : ScriptSoFar) (line : Line) → Steps (stands state) line (step state line)
steps draft.Empty Skipped = (refl, refl)
steps draft.Empty Phase = (refl, refl)
steps draft.Empty (Session name) = (refl, refl)
steps draft.Empty (Ends end) = refl
steps draft.Empty (Single one) = refl
steps draft.Empty (Statement reading) = refl
steps draft.Empty Bad = refl
steps (draft.Open p) line = opened_steps p line (open_step p line) (open_moves p line)

goes_by : (before : List Line) (line : Line) (s : Standing) (next : Option ScriptSoFar) → standing before ≡ s → Steps s line next → Goes before line next
goes_by before line s None e h = ap (λ x. breaks x line) e ∙ h
goes_by before line s (Some state) e h = (ap (λ x. breaks x line) e ∙ h.0, behind-push nothing before line ∙ ap (λ x. behind x line) e ∙ h.1)

goes : (before : List Line) (state : ScriptSoFar) (line : Line) → Tracks before state → Goes before line (step state line)
goes before state line t = goes_by before line (stands state) (step state line) t (steps state line)

-- what stands at a place of joined lists
slice_get-here : {X : Type 0} (xs : List X) (y : X) (ys : List X) → slice_get (xs ++ y ∷ ys) (length xs) ≡ Some y
slice_get-here [] y ys = refl
slice_get-here (x ∷ xs) y ys = slice_get-here xs y ys

breaks_at-here : (before : List Line) (line : Line) (lines : List Line) → breaks_at (before ++ line ∷ lines) (length before) ≡ breaks (standing before) line
breaks_at-here before line lines = rw (slice_get-here before line lines, take_at before (line ∷ lines) (length before) refl) refl

breaks_at-past : (lines : List Line) (place : ℕ) → length lines ≤ place → breaks_at lines place ≡ ((place == length lines) && (standing lines).is_open)
breaks_at-past lines place h = rw (slice_get_past lines place h) refl

-- the first break from the lines before on
abbrev FirstFrom : List Line → List Line → ℕ → Type 0
FirstFrom before lines number =
    (place : ℕ) × (number ≡ place + 1) × (length before ≤ place) × (breaks_at (before ++ lines) place ≡ true)
    × ((earlier : ℕ) → length before ≤ earlier → earlier < place → breaks_at (before ++ lines) earlier ≡ false)

-- no break from the lines before on
abbrev NoneFrom : List Line → List Line → Type 0
NoneFrom before lines = (place : ℕ) → length before ≤ place → breaks_at (before ++ lines) place ≡ false

-- what an answer says of breaks
abbrev Says : List Line → List Line → Result Script ℕ → Type 0
Says before lines (Ok script) = NoneFrom before lines
Says before lines (Err number) = FirstFrom before lines number

none_at_end : (before : List Line) → (standing before).is_open ≡ false → NoneFrom before []
none_at_end before closed place h =
    rw append-nil (breaks_at-past before place h ∙ ap (λ b. (place == length before) && b) closed ∙ and_false (place == length before))
  where
    and_false : (b : Bool) → (b && false) ≡ false
    and_false true = refl
    and_false false = refl

break_at_end : (before : List Line) (number : ℕ) → number ≡ length before + 1 → (standing before).is_open ≡ true → FirstFrom before [] number
break_at_end before number e opened = (
  length before,
  e,
  omega arith,
  rw append-nil (breaks_at-past before (length before) (omega arith) ∙ rw (eqb_same (length before), opened) refl),
  λ earlier h l. absurd (omega arith),
)

open_end : (before : List Line) (number : ℕ) (p : OpenPhase) (closed : Bool) → is_closed p.session ≡ closed → number ≡ length before + 1 → (standing before).is_open ≡ not (is_closed p.session)
    → Says before [] (if closed then Ok (record { phases = phases_of p }) else Err number)
open_end before number p true e n t = none_at_end before (t ∙ ap not e)
open_end before number p false e n t = break_at_end before number n (t ∙ ap not e)

ends : (before : List Line) (number : ℕ) (state : ScriptSoFar) → number ≡ length before + 1 → Tracks before state → Says before [] (finished number state)
ends before number draft.Empty n t = none_at_end before (ap (λ s. s.is_open) t)
ends before number (draft.Open p) n t = open_end before number p (is_closed p.session) refl n (ap (λ s. s.is_open) t)

break_here : (before : List Line) (line : Line) (lines : List Line) (number : ℕ) → number ≡ length before + 1 → breaks (standing before) line ≡ true → FirstFrom before (line ∷ lines) number
break_here before line lines number n b =
    (length before, n, omega arith, breaks_at-here before line lines ∙ b, λ earlier h l. absurd (omega arith))

-- a place from a length on is that length, or stands behind it
from_here : (m n : ℕ) → m ≤ n → (n ≡ m) ⊎ (m + 1 ≤ n)
from_here m n h = elim (cases_lt m n) [ inl l ↦ inr (omega arith) | inr g ↦ inl (omega arith) ]

fine_here : (before : List Line) (line : Line) (lines : List Line) (place : ℕ) → breaks (standing before) line ≡ false → place ≡ length before → breaks_at (before ++ line ∷ lines) place ≡ false
fine_here before line lines place b e = rw e (breaks_at-here before line lines ∙ b)

later : (before : List Line) (line : Line) (lines : List Line) (answer : Result Script ℕ) → breaks (standing before) line ≡ false → Says (before ++ line ∷ []) lines answer → Says before (line ∷ lines) answer
later before line lines (Ok script) b s = λ place h.
    elim (from_here (length before) place h) [
      | inl e ↦ fine_here before line lines place b e
      | inr l ↦ rw append_assoc at (s place (omega (arith, length-append before (line ∷ []))))
    ]
later before line lines (Err number) b (place, n, h, broken, earlier) = (
  place,
  n,
  omega (arith, length-append before (line ∷ [])),
  rw append_assoc at broken,
  λ place' h' l. elim (from_here (length before) place' h') [
    | inl e ↦ fine_here before line lines place' b e
    | inr l' ↦ rw append_assoc at (earlier place' (omega (arith, length-append before (line ∷ []))) l)
  ],
)

on_next : (before : List Line) (line : Line) (lines : List Line) (number : ℕ) (next : Option ScriptSoFar) → number ≡ length before + 1 → Goes before line next
    → ((state : ScriptSoFar) → Tracks (before ++ line ∷ []) state → Says (before ++ line ∷ []) lines (script_from (number + 1) state lines))
    → Says before (line ∷ lines) (option_map_or (λ state. script_from (number + 1) state lines) next (Err number))
on_next before line lines number None n g go_on = break_here before line lines number n g
on_next before line lines number (Some state) n g go_on = later before line lines (script_from (number + 1) state lines) g.0 (go_on state g.1)

tells_breaks : (lines before : List Line) (number : ℕ) (state : ScriptSoFar) → number ≡ length before + 1 → Tracks before state → Says before lines (script_from number state lines)
tells_breaks [] before number state n t = ends before number state n t
tells_breaks (line ∷ lines) before number state n t =
    on_next before line lines number (step state line) n (goes before state line t)
    (λ state' t'. tells_breaks lines (before ++ line ∷ []) (number + 1) state' (omega (arith, length-append before (line ∷ []))) t')

all_breaks : (lines : List Line) → Says [] lines (script_of lines)
all_breaks lines = tells_breaks lines [] 1 draft.Empty refl refl

-- the first break is one place only
same_first : (lines : List Line) (number number' : ℕ) → IsFirstBreak lines number → IsFirstBreak lines number' → number ≡ number'
same_first lines number number' (m, e, broken, earlier) (n, e', broken', earlier') =
    elim (cases_lt m n) [
      | inl l ↦ absurd (false≢true (sym (earlier' m l) ∙ broken))
      | inr g ↦ elim (from_here n m g) [
        | inl same ↦ omega arith
        | inr l ↦ absurd (false≢true (sym (earlier n (omega arith)) ∙ broken'))
      ]
    ]

from_first : (lines : List Line) (number : ℕ) → FirstFrom [] lines number → IsFirstBreak lines number
from_first lines number (place, e, h, broken, earlier) = (place, e, broken, λ k l. earlier k (omega arith) l)

broken_is : (lines : List Line) (answer : Result Script ℕ) (number : ℕ) → Says [] lines answer → answer ≡ Err number → IsFirstBreak lines number
broken_is lines (Ok script) number s e = cc
broken_is lines (Err m) number s e =
    let same : m ≡ number = cc in
    subst (IsFirstBreak lines) same (from_first lines m s)

is_broken : (lines : List Line) (answer : Result Script ℕ) (number : ℕ) → Says [] lines answer → IsFirstBreak lines number → answer ≡ Err number
is_broken lines (Ok script) number s (place, e, broken, earlier) = absurd (false≢true (sym (s place (omega arith)) ∙ broken))
is_broken lines (Err m) number s first = ap Err (same_first lines m number (from_first lines m s) first)

pub bad_law : (lines : List Line) (number : ℕ) → (script_of lines ≡ Err number) ↔ IsFirstBreak lines number
bad_law lines number = (broken_is lines (script_of lines) number (all_breaks lines), is_broken lines (script_of lines) number (all_breaks lines))

none_broken : (lines : List Line) (answer : Result Script ℕ) (script : Script) → Says [] lines answer
    → answer ≡ Ok script → KeepsRules lines
none_broken lines (Ok found) script s e = λ place. s place (omega arith)
none_broken lines (Err number) script s e = cc

pub kept_law : (lines : List Line) (script : Script) → script_of lines ≡ Ok script → KeepsRules lines
kept_law lines script = none_broken lines (script_of lines) script (all_breaks lines)

-- the lines that count, of what was read
abbrev statements_of : Option OpenSession → List Line
statements_of None = []
statements_of (Some s) = map Statement s.statements

abbrev told_open : OpenPhase → List Line
told_open p = flat_map phase_lines (phases_of p) ++ statements_of p.session

abbrev told : ScriptSoFar → List Line
told draft.Empty = []
told (draft.Open p) = told_open p

in_phase-push : (lines : List Line) (line : Line) → 0 < length lines → in_phase (lines ++ line ∷ []) ≡ in_phase lines ++ line ∷ []
in_phase-push [] line some = absurd (omega (arith, some))
in_phase-push (Session name ∷ lines) line some = refl
in_phase-push (other ∷ lines) line some = refl

counted-push : (before : List Line) (line : Line) → counts line ≡ true → counted (before ++ line ∷ []) ≡ counted before ++ line ∷ []
counted-push before line c = filter-append counts before (line ∷ []) ∙ ap (λ xs. counted before ++ xs) (rw c refl)

counted-skip : (before : List Line) → counted (before ++ Skipped ∷ []) ≡ counted before
counted-skip before = filter-append counts before (Skipped ∷ []) ∙ append-nil (counted before)

-- what was read, and the lines that count
abbrev IsTold : List Line → ScriptSoFar → Type 0
IsTold before draft.Empty = counted before ≡ []
IsTold before (draft.Open p) = (0 < length (counted before)) × (in_phase (counted before) ≡ told_open p)

empty_list : {X : Type 0} (xs : List X) → (length xs == 0) ≡ true → xs ≡ []
empty_list [] e = refl
empty_list (x ∷ xs) e = absurd (false≢true (sym (eqb_above (length (x ∷ xs)) 0 (omega arith)) ∙ e))

none_open : (session : Option OpenSession) → is_closed session ≡ true → statements_of session ≡ []
none_open None e = refl
none_open (Some s) e = ap (map Statement) (empty_list s.statements e)

not_not : (b : Bool) → not b ≡ false → b ≡ true
not_not true e = refl
not_not false e = cc

-- the lines of phases, the last with these sessions, and of sessions, the last with these items
last_phase : (phases : List PhaseOf) (sessions : List SessionOf) → flat_map phase_lines (phases ++ record { sessions = sessions } ∷ []) ≡ flat_map phase_lines phases ++ Phase ∷ flat_map session_lines sessions
last_phase phases sessions =
    flat_map-append phase_lines phases (record { sessions = sessions } ∷ []) ∙ ap (λ xs. flat_map phase_lines phases ++ xs) (append-nil (Phase ∷ flat_map session_lines sessions))

last_session : (before : List SessionOf) (session : SessionOf) → flat_map session_lines (before ++ session ∷ []) ≡ flat_map session_lines before ++ session_lines session
last_session before session = flat_map-append session_lines before (session ∷ []) ∙ ap (λ xs. flat_map session_lines before ++ xs) (append-nil (session_lines session))

last_item : (items : List Item) (one : Item) → flat_map item_lines (items ++ one ∷ []) ≡ flat_map item_lines items ++ item_lines one
last_item items one = flat_map-append item_lines items (one ∷ []) ∙ ap (λ xs. flat_map item_lines items ++ xs) (append-nil (item_lines one))

-- the lines of an open session
abbrev lines_before : List PhaseOf → List SessionOf → List Line
lines_before phases before = flat_map phase_lines phases ++ Phase ∷ flat_map session_lines before

session_told : (phases : List PhaseOf) (before : List SessionOf) (name : List ℕ) (items : List Item)
    → flat_map phase_lines (phases ++ record { sessions = before ++ record { name = name; items = items } ∷ [] } ∷ [])
    ≡ lines_before phases before ++ (Session name ∷ flat_map item_lines items)
session_told phases before name items =
    last_phase phases (before ++ record { name = name; items = items } ∷ [])
    ∙ ap (λ xs. flat_map phase_lines phases ++ (Phase ∷ xs)) (last_session before (record { name = name; items = items }))
    ∙ sym (append_assoc (flat_map phase_lines phases) (Phase ∷ flat_map session_lines before) (Session name ∷ flat_map item_lines items))

-- one line more
abbrev Adds : OpenPhase → Line → Option OpenPhase → Type 0
Adds p line next = MatchOption next (Unit {0}) (λ q. told_open q ≡ told_open p ++ line ∷ [])

closed_told : (p : OpenPhase) → not (is_closed p.session) ≡ false → told_open p ≡ flat_map phase_lines (phases_of p)
closed_told p e = ap (λ xs. flat_map phase_lines (phases_of p) ++ xs) (none_open p.session (not_not (is_closed p.session) e)) ∙ append-nil (flat_map phase_lines (phases_of p))

phase_adds : (p : OpenPhase) (stop full : Bool) → not (is_closed p.session) ≡ stop
    → Adds p Phase (if (stop || full) then None else Some (record { phases = phases_of p; items = p.items; session = None }))
phase_adds p true full e = tt
phase_adds p false true e = tt
phase_adds p false false e =
    append-nil (flat_map phase_lines (phases_of p ++ record { sessions = [] } ∷ [])) ∙ last_phase (phases_of p) [] ∙ ap (λ xs. xs ++ Phase ∷ []) (sym (closed_told p e))

session_adds : (p : OpenPhase) (name : List ℕ) (stop full : Bool) → not (is_closed p.session) ≡ stop
    → Adds p (Session name) (if (stop || full) then None else Some (record p { session = Some (record { before = sessions_of p.session; name = name; items = []; statements = [] }) }))
session_adds p name true full e = tt
session_adds p name false true e = tt
session_adds p name false false e =
    append-nil (flat_map phase_lines (p.phases ++ record { sessions = sessions_of p.session ++ record { name = name; items = [] } ∷ [] } ∷ []))
    ∙ session_told p.phases (sessions_of p.session) name []
    ∙ ap (λ xs. xs ++ Session name ∷ []) (sym (last_phase p.phases (sessions_of p.session)) ∙ sym (closed_told p e))

statement_adds : (p : OpenPhase) (s : OpenSession) (reading : _) (o : Option ℕ)
    → MatchOption (option_map (goes_on p (record s { statements = s.statements ++ reading ∷ [] })) o) (Unit {0})
    (λ q. told_open q ≡ (flat_map phase_lines (p.phases ++ record { sessions = sessions_of (Some s) } ∷ []) ++ map Statement s.statements) ++ Statement reading ∷ [])
statement_adds p s reading None = tt
statement_adds p s reading (Some n) =
    let front = flat_map phase_lines (p.phases ++ record { sessions = sessions_of (Some s) } ∷ []) in
    ap (λ xs. front ++ xs) (map-append Statement s.statements (reading ∷ [])) ∙ sym (append_assoc front (map Statement s.statements) (Statement reading ∷ []))

-- the lines of an item behind those of its session
item_adds : (phases : List PhaseOf) (before : List SessionOf) (name : List ℕ) (items : List Item) (one : Item)
    → flat_map phase_lines (phases ++ record { sessions = before ++ record { name = name; items = items ++ one ∷ [] } ∷ [] } ∷ [])
    ≡ flat_map phase_lines (phases ++ record { sessions = before ++ record { name = name; items = items } ∷ [] } ∷ []) ++ item_lines one
item_adds phases before name items one =
    let front = lines_before phases before in
    session_told phases before name (items ++ one ∷ [])
    ∙ ap (λ xs. front ++ (Session name ∷ xs)) (last_item items one)
    ∙ sym (append_assoc front (Session name ∷ flat_map item_lines items) (item_lines one))
    ∙ ap (λ xs. xs ++ item_lines one) (sym (session_told phases before name items))

end_adds : (p : OpenPhase) (s : OpenSession) (end : _) (o : Option ℕ)
    → MatchOption (option_map (goes_on p (record s { items = s.items ++ item.Transaction (record { statements = s.statements; end = end }) ∷ []; statements = [] })) o) (Unit {0})
    (λ q. told_open q ≡ (flat_map phase_lines (p.phases ++ record { sessions = sessions_of (Some s) } ∷ []) ++ map Statement s.statements) ++ Ends end ∷ [])
end_adds p s end None = tt
end_adds p s end (Some n) =
    let done = item.Transaction (record { statements = s.statements; end = end }) in
    append-nil (flat_map phase_lines (p.phases ++ record { sessions = s.before ++ record { name = s.name; items = s.items ++ done ∷ [] } ∷ [] } ∷ []))
    ∙ item_adds p.phases s.before s.name s.items done
    ∙ sym (append_assoc (flat_map phase_lines (p.phases ++ record { sessions = sessions_of (Some s) } ∷ [])) (map Statement s.statements) (Ends end ∷ []))

single_adds : (p : OpenPhase) (s : OpenSession) (one : _) (stop full : Bool) → not (length s.statements == 0) ≡ stop
    → MatchOption (if (stop || full) then None else Some (goes_on p (record s { items = s.items ++ item.Single one ∷ [] }) (p.items + 1))) (Unit {0})
    (λ q. told_open q ≡ (flat_map phase_lines (p.phases ++ record { sessions = sessions_of (Some s) } ∷ []) ++ map Statement s.statements) ++ Single one ∷ [])
single_adds p s one true full e = tt
single_adds p s one false true e = tt
single_adds p s one false false e =
    let none = none_open (Some s) (not_not (length s.statements == 0) e) in
    let front = flat_map phase_lines (p.phases ++ record { sessions = sessions_of (Some s) } ∷ []) in
    let new = flat_map phase_lines (p.phases ++ record { sessions = s.before ++ record { name = s.name; items = s.items ++ item.Single one ∷ [] } ∷ [] } ∷ []) in
    ap (λ xs. new ++ xs) none ∙ append-nil new ∙ item_adds p.phases s.before s.name s.items (item.Single one)
    ∙ ap (λ xs. xs ++ Single one ∷ []) (sym (append-nil front) ∙ ap (λ xs. front ++ xs) (sym none))

abbrev told_with : OpenPhase → Option OpenSession → List Line
told_with p session = flat_map phase_lines (p.phases ++ record { sessions = sessions_of session } ∷ []) ++ statements_of session

statement_told : (p : OpenPhase) (reading : _) (session : Option OpenSession) → MatchOption (statement_step p reading session) (Unit {0}) (λ q. told_open q ≡ told_with p session ++ Statement reading ∷ [])
statement_told p reading None = tt
statement_told p reading (Some s) = statement_adds p s reading (opened p.items s)

end_told : (p : OpenPhase) (end : _) (session : Option OpenSession) → MatchOption (end_step p end session) (Unit {0}) (λ q. told_open q ≡ told_with p session ++ Ends end ∷ [])
end_told p end None = tt
end_told p end (Some s) = end_adds p s end (opened p.items s)

single_told : (p : OpenPhase) (one : _) (session : Option OpenSession) → MatchOption (single_step p one session) (Unit {0}) (λ q. told_open q ≡ told_with p session ++ Single one ∷ [])
single_told p one None = tt
single_told p one (Some s) = single_adds p s one (not (length s.statements == 0)) (nat_le ITEMS p.items) refl

open_adds : (p : OpenPhase) (line : Line) → counts line ≡ true → Adds p line (open_step p line)
open_adds p Skipped c = cc
open_adds p Phase c = phase_adds p (not (is_closed p.session)) (nat_le PHASES (length p.phases + 1)) refl
open_adds p (Session name) c =
    session_adds p name (not (is_closed p.session)) (nat_le SESSIONS (length (sessions_of p.session)) || has_name name (sessions_of p.session)) refl
open_adds p (Statement reading) c = statement_told p reading p.session
open_adds p (Ends end) c = end_told p end p.session
open_adds p (Single one) c = single_told p one p.session
open_adds p Bad c = tt

abbrev Told : List Line → Option ScriptSoFar → Type 0
Told lines None = Unit {0}
Told lines (Some state) = IsTold lines state

first_told : (before : List Line) (line : Line) (p : OpenPhase) → counts line ≡ true → counted before ≡ [] → in_phase (line ∷ []) ≡ told_open p → IsTold (before ++ line ∷ []) (draft.Open p)
first_told before line p c e t =
    let one : counted (before ++ line ∷ []) ≡ line ∷ [] = counted-push before line c ∙ ap (λ xs. xs ++ line ∷ []) e in
    (omega (arith, ap length one), ap in_phase one ∙ t)

next_told : (before : List Line) (line : Line) (p : OpenPhase) (next : Option OpenPhase) → counts line ≡ true → IsTold before (draft.Open p) → Adds p line next
    → Told (before ++ line ∷ []) (option_map draft.Open next)
next_told before line p None c t a = tt
next_told before line p (Some q) c t a = (
  omega (arith, ap length (counted-push before line c), length-append (counted before) (line ∷ [])),
  ap in_phase (counted-push before line c) ∙ in_phase-push (counted before) line t.0 ∙ ap (λ xs. xs ++ line ∷ []) t.1 ∙ sym a,
)

skipped_told : (before : List Line) (state : ScriptSoFar) → IsTold before state → IsTold (before ++ Skipped ∷ []) state
skipped_told before draft.Empty t = counted-skip before ∙ t
skipped_told before (draft.Open p) t = (omega (arith, t.0, ap length (counted-skip before)), ap in_phase (counted-skip before) ∙ t.1)

told_more : (before : List Line) (state : ScriptSoFar) (line : Line) → IsTold before state → Told (before ++ line ∷ []) (step state line)
told_more before draft.Empty Skipped t = skipped_told before draft.Empty t
told_more before draft.Empty Phase t = first_told before Phase (record { phases = []; items = 0; session = None }) refl t refl
told_more before draft.Empty (Session name) t = first_told before (Session name) (record { phases = []; items = 0; session = Some (new_session [] name) }) refl t refl
told_more before draft.Empty line t = tt
told_more before (draft.Open p) Skipped t = skipped_told before (draft.Open p) t
told_more before (draft.Open p) Phase t = next_told before Phase p (open_step p Phase) refl t (open_adds p Phase refl)
told_more before (draft.Open p) (Session name) t = next_told before (Session name) p (open_step p (Session name)) refl t (open_adds p (Session name) refl)
told_more before (draft.Open p) (Statement reading) t = next_told before (Statement reading) p (open_step p (Statement reading)) refl t (open_adds p (Statement reading) refl)
told_more before (draft.Open p) (Ends end) t = next_told before (Ends end) p (open_step p (Ends end)) refl t (open_adds p (Ends end) refl)
told_more before (draft.Open p) (Single one) t = next_told before (Single one) p (open_step p (Single one)) refl t (open_adds p (Single one) refl)
told_more before (draft.Open p) Bad t = tt

-- what an answer says of its lines
abbrev Answers : List Line → Result Script ℕ → Type 0
Answers lines (Ok script) = Tells lines script
Answers lines (Err number) = Unit {0}

open_answers : (lines : List Line) (number : ℕ) (p : OpenPhase) (closed : Bool) → is_closed p.session ≡ closed → in_phase (counted lines) ≡ told_open p
    → Answers lines (if closed then Ok (record { phases = phases_of p }) else Err number)
open_answers lines number p true e t = t ∙ closed_told p (ap not e)
open_answers lines number p false e t = tt

end_answers : (lines : List Line) (number : ℕ) (state : ScriptSoFar) → IsTold lines state → Answers lines (finished number state)
end_answers lines number draft.Empty t = ap in_phase t
end_answers lines number (draft.Open p) t = open_answers lines number p (is_closed p.session) refl t.1

next_answers : (before : List Line) (line : Line) (lines : List Line) (number : ℕ) (next : Option ScriptSoFar) → Told (before ++ line ∷ []) next
    → ((state : ScriptSoFar) → IsTold (before ++ line ∷ []) state → Answers ((before ++ line ∷ []) ++ lines) (script_from (number + 1) state lines))
    → Answers (before ++ line ∷ lines) (option_map_or (λ state. script_from (number + 1) state lines) next (Err number))
next_answers before line lines number None t go_on = tt
next_answers before line lines number (Some state) t go_on = rw append_assoc at (go_on state t)

answers_from : (lines before : List Line) (number : ℕ) (state : ScriptSoFar) → IsTold before state → Answers (before ++ lines) (script_from number state lines)
answers_from [] before number state t = rw append-nil (end_answers before number state t)
answers_from (line ∷ lines) before number state t =
    next_answers before line lines number (step state line) (told_more before state line t) (λ state' t'. answers_from lines (before ++ line ∷ []) (number + 1) state' t')

answer_tells : (lines : List Line) (answer : Result Script ℕ) (script : Script) → Answers lines answer → answer ≡ Ok script → Tells lines script
answer_tells lines (Ok found) script t e =
    let same : found ≡ script = cc in
    subst (Tells lines) same t
answer_tells lines (Err number) script t e = cc

pub good_law : (lines : List Line) (script : Script) → script_of lines ≡ Ok script → Tells lines script
good_law lines script = answer_tells lines (script_of lines) script (answers_from lines [] 1 draft.Empty refl)
