-- How far a run has come whose sessions run one after the other over one store.
use Rattle.std.specs.Prelude.{◌≡◌, ◌⊎◌, ◌<◌, ◌≤◌, ◌+◌, ◌++◌, ℕ, Bool, List, [], ◌∷◌, length, Some, Ok}
use Rattle.std.specs.List.{AllByRecursion}
use Rattle.retro_base.specs.declared.device.Device.{Device}
use Rattle.retro_base.specs.declared.limits.TheConstants.{MEMORY_CAPACITY, MEMORY_PAGES}
use Rattle.retro_base.specs.declared.who.Who.{Who}
use Rattle.history.specs.declared.journal.Line.{Line}
use Rattle.journal_law.specs.Facts.{OwnFit}
use Rattle.journal_law.specs.Lawful.{Ground, HasRuns, IsFault, Opening, PhasesRise}
use Rattle.journal_law.specs.Seats.{Idle, View}
use Rattle.plain_store.specs.Plain.{Plain, ground_of, view_of, zero_ground}
use Rattle.plain_store.specs.Turns.{OwnTurn}
use Rattle.session.specs.Plan.{EndsAt, IsPhaseOf, Plan, item_of}
use Rattle.session.specs.Replies.{kept_by_place, wanting_by}
use Rattle.session.specs.Run.{AreKept, HasRun, IsBefore, IsReady, RunIsLawful, SessionLeft, WasKept}
use Rattle.session.specs.Sql.{sql}
use Rattle.session.specs.declared.kept.Kept.{Kept}
use Rattle.tables.specs.Tables.{no_tables}

-- the session of a phase that stands before this place
abbrev pub IsDone : ℕ → ℕ → ℕ → ℕ → Type 0
IsDone earlier session phase place = (earlier < phase) ⊎ ((earlier ≡ phase) × (session < place))

-- The sessions before this place of this phase have run: their lines fit and are those of a run, those of the sessions
-- to come are of earlier phases, no line tells a fault, and this was kept of each.
pub record HasCome (size : ℕ) (plan : Plan) (ground : Ground) (journal : List Line) (kept : ℕ → ℕ → List Kept)
    (phase place : ℕ) : Type 0 where
  pub fits : (session : ℕ) → OwnFit (sql size) (item_of plan) ground session [] journal
  pub runs : (session : ℕ) → HasRuns (sql size) (item_of plan) session journal
  pub rise : PhasesRise journal
  pub upto : AllByRecursion (λ (line : Line). line.who.phase ≤ phase) journal
  pub ahead : (session : ℕ) → place ≤ session → AllByRecursion (IsBefore phase session) journal
  pub faultless : AllByRecursion (λ (line : Line). IsFault line.what → ⊥) journal
  pub has_kept : (earlier session : ℕ) → IsDone earlier session phase place →
      WasKept size plan ground journal earlier session (kept earlier session)

-- the same is kept of the sessions that have run
abbrev pub KeepsDone : ℕ → ℕ → (ℕ → ℕ → List Kept) → (ℕ → ℕ → List Kept) → Type 0
KeepsDone phase place old new = (earlier session : ℕ) → IsDone earlier session phase place →
    new earlier session ≡ old earlier session

pub record TurnsMakeRuns (size : ℕ) : Type 0 where
  -- at the beginning
  pub starts : (plan : Plan) (ground : Ground) (kept : ℕ → ℕ → List Kept) → ((session : ℕ) → kept 0 session ≡ []) →
      HasCome size plan ground [] kept 1 0
  -- what is kept of the sessions to come is not looked at
  pub same : (plan : Plan) (ground : Ground) (journal : List Line) (before after : ℕ → ℕ → List Kept)
      (phase place : ℕ) → KeepsDone phase place before after →
      HasCome size plan ground journal before phase place → HasCome size plan ground journal after phase place
  -- the next session is ready
  pub ready : (plan : Plan) (ground : Ground) (kept : ℕ → ℕ → List Kept) (phase place : ℕ) (view : View) →
      view.opened ≡ ground → view.session ≡ place → view.work ≡ Idle →
      HasCome size plan ground view.front kept phase place → IsReady size plan phase view
  -- behind its turn
  pub turns : (plan : Plan) (ground : Ground) (old new : View) (before after : ℕ → ℕ → List Kept) (phase place : ℕ) →
      old.opened ≡ ground → old.session ≡ place →
      HasCome size plan ground old.front before phase place → (left : SessionLeft size plan phase old new) →
      AreKept {E = Unit {0}} size plan phase new (Ok (after phase place)) → AllByRecursion (OwnTurn place) left.more →
      KeepsDone phase place before after →
      HasCome size plan ground new.front after phase (place + 1)
  -- behind the last session of a phase
  pub phases : (plan : Plan) (ground : Ground) (journal : List Line) (kept : ℕ → ℕ → List Kept) (phase place : ℕ) →
      EndsAt plan phase place → ((session : ℕ) → place ≤ session → kept phase session ≡ []) →
      HasCome size plan ground journal kept phase place → HasCome size plan ground journal kept (phase + 1) 0
  -- behind the last phase
  pub ends : (plan : Plan) (ground : Ground) (ending : Device → ℕ) (journal : List Line) (kept : ℕ → ℕ → List Kept)
      (phase : ℕ) → length plan < phase → ((later session : ℕ) → phase ≤ later → kept later session ≡ []) →
      HasCome size plan ground journal kept phase 0 → HasRun size plan (wanting_by kept) ground ending journal kept

-- ---- turns at the plain store

-- The session at a place of a phase has had its turn: it has added lines of its own alone, none tells a fault, nothing
-- is open, and if it was ready, this is kept of its items.
pub record TookTurn (plan : Plan) (phase place : ℕ) (old new : Plain) (kept : List Kept) : Type 0 where
  pub idle : (view_of new).work ≡ Idle
  pub opened : ground_of new ≡ ground_of old
  pub more : List Line
  pub own : AllByRecursion (OwnTurn place) more
  pub whole : new.book.lines ≡ old.book.lines ++ more
  pub ran : IsReady old.base.page_count plan phase (view_of (record old { session = place })) →
      SessionLeft old.base.page_count plan phase (view_of (record old { session = place })) (view_of new)
      × AreKept {E = Unit {0}} old.base.page_count plan phase (view_of new) (Ok kept)

-- the sessions before this place of this phase have run at the plain store, of which this was kept: of earlier phases,
-- and of this one
pub record CameThrough (plan : Plan) (ground : Ground) (store : Plain) (done : List (List (List Kept)))
    (phase place : ℕ) : Type 0 where
  pub idle : (view_of store).work ≡ Idle
  pub opened : ground_of store ≡ ground
  pub come : HasCome ground.base.page_count plan ground store.book.lines (kept_by_place done) phase place

-- a phase has run, of whose sessions this is kept
abbrev pub PhaseRan : Plan → ℕ → Plain → Plain → List (List Kept) → Type 0
PhaseRan plan phase old new kept = (ground : Ground) (done : List (List (List Kept))) → length done + 1 ≡ phase →
    CameThrough plan ground old done phase 0 → CameThrough plan ground new (done ++ kept ∷ []) (phase + 1) 0

-- an empty store in memory, as each run begins
abbrev pub empty_store : (size : ℕ) → Opening (sql size)
empty_store size =
    record { opened = zero_ground size MEMORY_CAPACITY; tables = record { current = no_tables; marks = [] } }

-- the journal is one that a run of the plan over an empty store may leave, and the text is its transcript
pub record RanPlainly (plan : Plan) (journal : List Line) (text : List ℕ) : Type 0 where
  pub wanting : Who → Bool
  pub lawful : RunIsLawful MEMORY_PAGES plan wanting (empty_store MEMORY_PAGES) (λ (device : Device). 0) journal text
