-- What the driver does with the seats: a session runs at its seat; a phase runs; two seats meet; all meet.
use Rattle.std.specs.Prelude.{◌≡◌, ◌≢◌, ◌<◌, ◌≤◌, ◌+◌, ◌++◌, ℕ, List, [], ◌∷◌, length}
use Rattle.std.specs.Prelude.{Option, Some, Result, Ok, Err, IfOk, slice_get}
use Rattle.history.specs.declared.journal.Line.{Line}
use Rattle.journal_law.specs.Lawful.{Ground}
use Rattle.journal_law.specs.Seats.{Idle, View, Waits}
use Rattle.session.specs.Plan.{Plan}
use Rattle.session.specs.Replies.{kept_at_place, kept_by_place}
use Rattle.session.specs.Run.{AreKept, IsReady, IsSessionOf, RunsSession, SessionLeft}
use Rattle.session.specs.declared.kept.Kept.{Kept}
use Rattle.session.specs.declared.plan.SessionPlan.{SessionPlan}
use Rattle.session.specs.declared.plan.Task.{Task}
use Rattle.retro.specs.Meeting.{HaveMet}
use Rattle.retro.specs.Phases.{AllMet, HasComeTo, StandTogether}
use Rattle.retro.specs.Slots.{answered_at, seat_at}
use Rattle.retro.specs.declared.slots.Slot.{Slot}

-- A session of a phase has run at the seat that was there.
pub record RanAt {S E : Type 0} (view : S → View) (goes : S → S → Type 0) (is_honest : S → Type 0) (phase number : ℕ)
    (names : List (List ℕ)) (tasks : List Task)
    (old new : Option S) (answered : Result (List Kept) E) : Type 0 where
  pub before : S
  pub behind : S
  pub was : old ≡ Some before
  pub is : new ≡ Some behind
  pub number_is : (view behind).session ≡ number
  pub idle : (view behind).work ≡ Idle
  pub stays : goes before behind
  pub ran : is_honest before → (plan : Plan) → IsSessionOf plan phase number names tasks →
      RunsSession (view before).opened.base.page_count plan phase (view before) (view behind) answered

-- The sessions of a phase have run, each at the seat in its slot, which keeps what it answered.
abbrev pub AllRan : {S : Type 0} → (S → View) → (S → S → Type 0) → (S → Type 0) → ℕ → List (List ℕ) → List SessionPlan →
    List (Slot S) → List (Slot S) → Type 0
AllRan view goes is_honest phase names sessions old new = (number : ℕ) (session : SessionPlan) →
    slice_get sessions number ≡ Some session →
    RanAt view goes is_honest phase number names session.tasks (seat_at old number) (seat_at new number)
    (answered_at new number)

-- So many sessions of a phase have run, each at its seat, from seats that were ready; or one whose replies could not be
-- kept ended it.
pub record RanThrough {E : Type 0} (plan : Plan) (phase seats count : ℕ) (old new : ℕ → View)
    (answered : Result (List (List Kept)) E) : Type 0 where
  pub left : (number : ℕ) → number < seats → IsReady (old number).opened.base.page_count plan phase (old number) →
      SessionLeft (old number).opened.base.page_count plan phase (old number) (new number)
  pub long : IfOk answered (λ kept. length kept ≡ count)
  pub kept : IfOk answered
      (λ kept. (number : ℕ) → number < count → IsReady (old number).opened.base.page_count plan phase (old number) →
      AreKept {E = Unit {0}} (old number).opened.base.page_count plan phase (new number)
      (Ok (kept_at_place kept number)))

-- the first seat and that of a number have met
pub record PairMet (old new : ℕ → View) (number : ℕ) : Type 0 where
  pub met : HaveMet (old 0) (old number) (new 0) (new number)
  pub others : (other : ℕ) → other ≢ 0 → other ≢ number → new other ≡ old other

-- the first lines of these
abbrev pub Begins : List Line → List Line → Type 0
Begins front lines = (more : List Line) × (lines ≡ front ++ more)

-- The first seat has met each other one below a number. It has seen what they had seen; and if it had seen that before,
-- so have they then.
pub record HasMetEach (old new : ℕ → View) (seats below : ℕ) : Type 0 where
  pub waits : (number : ℕ) → number < seats → Waits (old number) (new number) (old number).work
  pub gathered : (number : ℕ) → number < below → Begins (new number).front (new 0).front
  pub first : ((number : ℕ) → number < seats → Begins (old number).front (old 0).front) → (new 0).front ≡ (old 0).front
  pub spread : ((number : ℕ) → number < seats → Begins (old number).front (old 0).front) → (number : ℕ) →
      number < below → (new number).front ≡ (old 0).front

-- all seats have met
abbrev pub MetAll : ℕ → (ℕ → View) → (ℕ → View) → Type 0
MetAll seats old new = (front : List Line) × AllMet seats old new front

-- ---- a phase, and a run

-- A phase has run from seats that stood together, and they stand together behind it. This was kept of it, or memory was
-- wanting for a reply.
abbrev pub PhaseRuns : {E : Type 0} → Plan → (ground : Ground) → ℕ → ℕ → (ℕ → View) → (ℕ → View) →
    Result (List (List Kept)) E → Type 0
PhaseRuns plan ground seats phase old new (Ok kept) = (done : List (List (List Kept))) → length done + 1 ≡ phase →
    HasComeTo ground.base.page_count plan ground seats phase (kept_by_place done) old →
    HasComeTo ground.base.page_count plan ground seats (phase + 1) (kept_by_place (done ++ kept ∷ [])) new
PhaseRuns plan ground seats phase old new (Err why) =
    (front : List Line) → StandTogether ground.base.page_count plan ground seats phase front old →
    (next : List Line) × StandTogether ground.base.page_count plan ground seats (phase + 1) next new

-- All phases have run from seats that stood together, and this was kept of them; or memory was wanting for a reply
-- behind one of them.
abbrev pub RunsPhases : {E : Type 0} → Plan → Ground → ℕ → (ℕ → View) → Result (List (List (List Kept))) E → Type 0
RunsPhases plan ground seats views (Ok kept) =
    HasComeTo ground.base.page_count plan ground seats (length plan + 1) (kept_by_place kept) views
RunsPhases plan ground seats views (Err why) = (phase : ℕ) × (front : List Line) × (phase ≤ length plan + 1)
    × StandTogether ground.base.page_count plan ground seats phase front views
