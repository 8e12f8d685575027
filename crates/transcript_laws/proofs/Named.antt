-- The name on a line tells whose it is.
use Rattle.std.proofs.Common.{◌≡◌, ◌+◌, ◌++◌, ◌<◌, ◌⊎◌, inl, inr, ℕ, Bool, true, false, List, [], ◌∷◌, length, get_or, Option, Some, None, refl, ap, sym, subst, ◌∙◌, arith, append-nil}
use Rattle.std.specs.Prelude.{◌||◌, ◌&&◌, IsTrue, codes, nat_le, not, slice_get, suc, zero}
use Rattle.std.specs.List.{AllByRecursion, list_all}
use Rattle.std.specs.Option.{option_map_or}
use Rattle.std.specs.Str.{bytes_eq}
use Rattle.std.proofs.Math.Dec.{eqb}
use Rattle.std.proofs.lemmas.Bool.{eqb-false, eqb-true, ne_eqb}
use Rattle.std.proofs.lemmas.Bool.Decides.{nat_tests}
use Rattle.std.proofs.lemmas.Option.{slice_get-get_or, slice_get_past}
use Rattle.retro_base.specs.declared.limits.TheConstants.{SESSIONS}
use Rattle.retro_base.specs.declared.who.Who.{Who}
use Rattle.script.specs.Name.{IsSessionName, is_name_byte}
use Rattle.session.specs.Plan.{Plan, names_at, names_of}
use Rattle.session.specs.Visible.{name_of, worker_name}
use Rattle.session.specs.Wording.{session_name}
use Rattle.session.specs.declared.plan.SessionPlan.{SessionPlan}
use Rattle.transcript_laws.specs.Apart.{AreNames, HasNames, IsNamed}
use Rattle.transcript_laws.proofs.Reading.{Above, above_by}

-- ---- names of sessions

byte_above : (byte : ℕ) → is_name_byte byte ≡ true → 32 < byte
byte_above byte is = by_tests (nat_le 97 byte) (nat_le 48 byte) refl refl is
  where
    by_tests : (letter digit : Bool) → nat_le 97 byte ≡ letter → nat_le 48 byte ≡ digit
        → ((letter && nat_le byte 122) || (digit && nat_le byte 57)) ≡ true → 32 < byte
    by_tests true digit a b e = grind (arith, nat_tests, a)
    by_tests false true a b e = grind (arith, nat_tests, b)
    by_tests false false a b e = cc

bytes_above : (bytes : List ℕ) → list_all is_name_byte bytes ≡ true → Above 32 bytes
bytes_above [] is = tt
bytes_above (byte ∷ bytes) is = by_test (is_name_byte byte) refl is (λ more. bytes_above bytes more)
  where
    by_test : (one : Bool) → is_name_byte byte ≡ one → (one && list_all is_name_byte bytes) ≡ true
        → (list_all is_name_byte bytes ≡ true → Above 32 bytes) → (32 < byte) × Above 32 bytes
    by_test true a e rest = (byte_above byte a, rest e)
    by_test false a e rest = cc

parts : (a b c d e : Bool) → IsTrue (a && b && c && d && e) → (c ≡ true) × (d ≡ true) × (e ≡ true)
parts true true true true true is = (refl, refl, refl)
parts a b c d e is = cc

no_word : (name word : List ℕ) → not (bytes_eq name word) ≡ true → bytes_eq word word ≡ true → name ≡ word → ⊥
no_word name word is same e =
    let no : not (bytes_eq word word) ≡ true = subst (λ (n : List ℕ). not (bytes_eq n word) ≡ true) e is in
    cc

record IsOwn (name : List ℕ) : Type 0 where
  above : Above 32 name
  no_copier : name ≡ codes "copier" → ⊥
  no_flusher : name ≡ codes "flusher" → ⊥

own_name : (name : List ℕ) → IsSessionName name → IsOwn name
own_name name is =
    let p = parts (nat_le 1 (length name)) (nat_le (length name) 16) (list_all is_name_byte name)
    (not (bytes_eq name (codes "copier"))) (not (bytes_eq name (codes "flusher"))) is in
    record {
      above = bytes_above name p.0;
      no_copier = no_word name (codes "copier") p.1 refl;
      no_flusher = no_word name (codes "flusher") p.2 refl;
    }

-- ---- names of a phase

pub all_at : {A : Type 0} (P : A → Type 0) (xs : List A) (place : ℕ) (x : A) → AllByRecursion P xs
    → slice_get xs place ≡ Some x → P x
all_at P [] place x all e = cc
all_at P (y ∷ xs) zero x all e =
    let is : y ≡ x = cc in
    subst P is all.0
all_at P (y ∷ xs) (suc place) x all e = all_at P xs place x all.1 e

no_names : AreNames []
no_names = record { each = tt; few = omega arith; differ = λ one other name e f. cc }

names_are : (plan : Plan) (phase : ℕ) → HasNames plan → AreNames (names_at plan phase)
names_are plan zero has = no_names
names_are plan (suc place) has = by_phase (slice_get plan place) refl
  where
    by_phase : (found : Option (List SessionPlan)) → slice_get plan place ≡ found
        → AreNames (option_map_or names_of found [])
    by_phase None e = no_names
    by_phase (Some sessions) e =
        all_at (λ (sessions : List SessionPlan). AreNames (names_of sessions)) plan place sessions has e

-- ---- whose a line is

-- a session at its place, or a worker
abbrev IsWhose : Plan → Who → Type 0
IsWhose plan who =
    ((name : List ℕ) × (slice_get (names_at plan who.phase) who.session ≡ Some name) × (name_of plan who ≡ name))
    ⊎ ((who.session ≡ SESSIONS) × (name_of plan who ≡ codes "copier"))
    ⊎ ((who.session ≡ SESSIONS + 1) × (name_of plan who ≡ codes "flusher"))

no_worker : (session : ℕ) → session < SESSIONS → worker_name session ≡ []
no_worker session small =
    rw (ne_eqb session SESSIONS (omega arith), ne_eqb session (SESSIONS + 1) (omega arith)) refl

whose : (plan : Plan) (who : Who) → AreNames (names_at plan who.phase) → IsNamed plan who → IsWhose plan who
whose plan who are (inl small) = by_name (slice_get (names_at plan who.phase) who.session) refl
  where
    names : List (List ℕ)
    names = names_at plan who.phase

    by_name : (found : Option (List ℕ)) → slice_get names who.session ≡ found → IsWhose plan who
    by_name None e =
        let some : Some (get_or names who.session []) ≡ None = sym (slice_get-get_or names who.session [] small) ∙ e in
        cc
    by_name (Some name) e =
        inl (
          name,
          e,
          ap (λ (o : Option (List ℕ)). option_map_or (λ (n : List ℕ). n) o [] ++ worker_name who.session) e
              ∙ ap (λ (more : List ℕ). name ++ more) (no_worker who.session (omega (arith, small, are.few)))
              ∙ append-nil name,
        )
whose plan who are (inr (low, high)) = by_session (eqb who.session SESSIONS) refl
  where
    names : List (List ℕ)
    names = names_at plan who.phase

    none : session_name names who.session ≡ []
    none = ap (λ (o : Option (List ℕ)). option_map_or (λ (n : List ℕ). n) o [])
        (slice_get_past names who.session (omega (arith, low, are.few)))

    is_worker : (number : ℕ) → who.session ≡ number → name_of plan who ≡ worker_name number
    is_worker number is = ap (λ (n : List ℕ). n ++ worker_name who.session) none ∙ ap worker_name is

    by_session : (first : Bool) → eqb who.session SESSIONS ≡ first → IsWhose plan who
    by_session true e =
        let is : who.session ≡ SESSIONS = eqb-true who.session SESSIONS e in
        inr (inl (is, is_worker SESSIONS is))
    by_session false e =
        let no = eqb-false who.session SESSIONS e in
        let is : who.session ≡ SESSIONS + 1 = omega (arith, low, high, no) in
        inr (inr (is, is_worker (SESSIONS + 1) is))

whose_above : (plan : Plan) (who : Who) → AreNames (names_at plan who.phase) → IsWhose plan who
    → Above 32 (name_of plan who)
whose_above plan who are (inl (name, at, is)) =
    subst (Above 32) (sym is) (own_name name (all_at IsSessionName (names_at plan who.phase) who.session name are.each at)).above
whose_above plan who are (inr (inl (at, is))) = subst (Above 32) (sym is) (above_by 32 (codes "copier") refl)
whose_above plan who are (inr (inr (at, is))) = subst (Above 32) (sym is) (above_by 32 (codes "flusher") refl)

pub name_above : (plan : Plan) (who : Who) → HasNames plan → IsNamed plan who → Above 32 (name_of plan who)
name_above plan who has named =
    let are = names_are plan who.phase has in
    whose_above plan who are (whose plan who are named)

-- in a phase
session_same : (plan : Plan) (one other : Who) → AreNames (names_at plan one.phase) → one.phase ≡ other.phase
    → name_of plan one ≡ name_of plan other → IsWhose plan one → IsWhose plan other → one.session ≡ other.session
session_same plan one other are phase e (inl (name, at, is)) (inl (name', at', is')) =
    let same : name' ≡ name = sym is' ∙ sym e ∙ is in
    are.differ one.session other.session name at
    (ap (λ (p : ℕ). slice_get (names_at plan p) other.session) phase ∙ at' ∙ ap (λ (n : List ℕ). Some n) same)
session_same plan one other are phase e (inl (name, at, is)) (inr (inl (at', is'))) =
    let own = own_name name (all_at IsSessionName (names_at plan one.phase) one.session name are.each at) in
    absurd (own.no_copier (sym is ∙ e ∙ is'))
session_same plan one other are phase e (inl (name, at, is)) (inr (inr (at', is'))) =
    let own = own_name name (all_at IsSessionName (names_at plan one.phase) one.session name are.each at) in
    absurd (own.no_flusher (sym is ∙ e ∙ is'))
session_same plan one other are phase e (inr (inl (at, is))) (inr (inl (at', is'))) = at ∙ sym at'
session_same plan one other are phase e (inr (inr (at, is))) (inr (inr (at', is'))) = at ∙ sym at'
session_same plan one other are phase e (inr (inl (at, is))) (inr (inr (at', is'))) =
    let no : codes "copier" ≡ codes "flusher" = sym is ∙ e ∙ is' in
    cc
session_same plan one other are phase e (inr (inr (at, is))) (inr (inl (at', is'))) =
    let no : codes "flusher" ≡ codes "copier" = sym is ∙ e ∙ is' in
    cc
session_same plan one other are phase e (inr worker) (inl (name, at, is)) =
    let are' : AreNames (names_at plan other.phase) = subst (λ (p : ℕ). AreNames (names_at plan p)) phase are in
    let own = own_name name (all_at IsSessionName (names_at plan other.phase) other.session name are'.each at) in
    by_worker worker own
  where
    by_worker : ((one.session ≡ SESSIONS) × (name_of plan one ≡ codes "copier"))
        ⊎ ((one.session ≡ SESSIONS + 1) × (name_of plan one ≡ codes "flusher")) → IsOwn name
        → one.session ≡ other.session
    by_worker (inl (there, name_is)) own = absurd (own.no_copier (sym is ∙ sym e ∙ name_is))
    by_worker (inr (there, name_is)) own = absurd (own.no_flusher (sym is ∙ sym e ∙ name_is))

pub name_same : (plan : Plan) (one other : Who) → HasNames plan → IsNamed plan one → IsNamed plan other
    → one.phase ≡ other.phase → name_of plan one ≡ name_of plan other → one.session ≡ other.session
name_same plan one other has a b phase e =
    let are = names_are plan one.phase has in
    let are' = names_are plan other.phase has in
    session_same plan one other are phase e (whose plan one are a) (whose plan other are' b)
