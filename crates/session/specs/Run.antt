-- What the sessions of a run leave, what its driver owes, and what follows of both.
use Rattle.std.specs.Prelude.{◌≡◌, ◌<◌, ◌++◌, ℕ, Bool, List, Result, Ok, Err}
use Rattle.std.specs.List.{AllByRecursion}
use Rattle.retro_base.specs.declared.device.Device.{Device}
use Rattle.retro_base.specs.declared.who.Who.{Who}
use Rattle.tables.specs.Tables.{Tables}
use Rattle.history.specs.declared.journal.Line.{Line}
use Rattle.journal_law.specs.Facts.{AllFit}
use Rattle.journal_law.specs.Laws.{IsClosed}
use Rattle.journal_law.specs.Lawful.{Ground, HasRuns, Lawful, Opening}
use Rattle.journal_law.specs.Seating.{Sane}
use Rattle.journal_law.specs.Seats.{Idle, View}
use Rattle.journal_law.specs.Shows.{Shows, ShowsAlong}
use Rattle.journal_law.specs.World.{World, newest}
use Rattle.session.specs.Plan.{Plan, item_of, names_at, tasks_at}
use Rattle.session.specs.Replies.{SaysWanting, kept_in, known_by, printed, transcript}
use Rattle.session.specs.Sql.{sql}
use Rattle.session.specs.declared.kept.Kept.{Kept}
use Rattle.session.specs.declared.plan.Task.{Task}

-- ---- a session in a phase

-- the session's lines among these are of this phase; of earlier ones; of later ones
abbrev pub OfPhase : ℕ → ℕ → Line → Type 0
OfPhase phase session line = line.who.session ≡ session → line.who.phase ≡ phase

abbrev pub IsBefore : ℕ → ℕ → Line → Type 0
IsBefore phase session line = line.who.session ≡ session → line.who.phase < phase

abbrev pub IsBehind : ℕ → ℕ → Line → Type 0
IsBehind phase session line = line.who.session ≡ session → phase < line.who.phase

-- A seat that stands before a phase: nothing is open, and its lines, all of earlier phases, fit and are those of a run.
pub record IsReady (size : ℕ) (plan : Plan) (phase : ℕ) (view : View) : Type 0 where
  pub idle : view.work ≡ Idle
  pub fits : Sane (sql size) (item_of plan) view
  pub runs : HasRuns (sql size) (item_of plan) view.session view.front
  pub earlier : AllByRecursion (IsBefore phase view.session) view.front

-- Over whatever tables the pages held along these lines, that is what is kept of the session's items of the phase.
abbrev pub IsKept : ℕ → Plan → (Who → Bool) → Ground → ℕ → ℕ → List Line → List Kept → Type 0
IsKept size plan wanting ground phase session front kept =
    (tables : World Tables) → ShowsAlong (sql size) (item_of plan) ground.pages tables front →
    kept ≡ kept_in size (known_by size plan wanting tables front) plan phase session

-- A session has run in a phase: its seat has only added lines of that phase, they fit and are those of a run, and
-- nothing is open.
pub record SessionLeft (size : ℕ) (plan : Plan) (phase : ℕ) (old new : View) : Type 0 where
  pub session : new.session ≡ old.session
  pub opened : new.opened ≡ old.opened
  pub more : List Line
  pub front : new.front ≡ old.front ++ more
  pub of_phase : AllByRecursion (OfPhase phase old.session) more
  pub idle : new.work ≡ Idle
  pub fits : Sane (sql size) (item_of plan) new
  pub runs : HasRuns (sql size) (item_of plan) new.session new.front

-- what a session answers: what is kept of each of its items, from which also follows for which of those without a line
-- memory was wanting; or memory was wanting to keep it
abbrev pub AreKept : {E : Type 0} → ℕ → Plan → ℕ → View → Result (List Kept) E → Type 0
AreKept size plan phase view (Ok kept) = (wanting : Who → Bool) → SaysWanting wanting phase view.session kept →
    IsKept size plan wanting view.opened phase view.session view.front kept
AreKept size plan phase view (Err why) = Unit {0}

-- The contract of a session: from a seat that is ready it runs its items, whatever the store answers.
abbrev pub RunsSession : {E : Type 0} → ℕ → Plan → ℕ → View → View → Result (List Kept) E → Type 0
RunsSession size plan phase old new answered = IsReady size plan phase old → SessionLeft size plan phase old new
    × AreKept size plan phase new answered

-- these names and tasks are those of the session at a place of a phase
pub record IsSessionOf (plan : Plan) (phase place : ℕ) (names : List (List ℕ)) (tasks : List Task) : Type 0 where
  pub names_are : names_at plan phase ≡ names
  pub tasks_are : tasks_at plan phase place ≡ tasks

-- ---- the whole run

-- what was kept of a session's items of a phase was kept behind a front of the journal, and the session's lines behind
-- that are of later phases
pub record HasKept (size : ℕ) (plan : Plan) (wanting : Who → Bool) (ground : Ground) (journal : List Line)
    (phase session : ℕ) (kept : List Kept) : Type 0 where
  pub front : List Line
  pub rest : List Line
  pub whole : journal ≡ front ++ rest
  pub later : AllByRecursion (IsBehind phase session) rest
  pub is_kept : IsKept size plan wanting ground phase session front kept

-- what was kept of a session in a phase, which says for which of its items memory was wanting
abbrev pub WasKept : ℕ → Plan → Ground → List Line → ℕ → ℕ → List Kept → Type 0
WasKept size plan ground journal phase session kept = (wanting : Who → Bool) → SaysWanting wanting phase session kept →
    HasKept size plan wanting ground journal phase session kept

-- A run has ended with this journal: what each session knows of its lines, what the store and the driver tell of the
-- whole, and what was kept of each session of each phase.
pub record HasRun (size : ℕ) (plan : Plan) (wanting : Who → Bool) (ground : Ground) (ending : Device → ℕ)
    (journal : List Line) (kept : ℕ → ℕ → List Kept) : Type 0 where
  pub fit : AllFit (sql size) (item_of plan) ground journal
  pub closed : IsClosed ending journal
  pub has_kept : (phase session : ℕ) → HasKept size plan wanting ground journal phase session (kept phase session)

-- From pages that hold tables, a run leaves a lawful journal, at each place of it the pages hold the tables of its
-- lines, and what it prints is the journal's transcript.
pub record RunIsLawful (size : ℕ) (plan : Plan) (wanting : Who → Bool) (o : Opening (sql size)) (ending : Device → ℕ)
    (journal : List Line) (text : List ℕ) : Type 0 where
  pub shows : ShowsAlong (sql size) (item_of plan) o.opened.pages o.tables journal
  pub lawful : Lawful (sql size) (item_of plan) o ending journal
  pub is_text : text ≡ transcript size plan wanting o.tables journal

abbrev pub LawOfRuns : ℕ → Type 0
LawOfRuns size =
    (plan : Plan) (wanting : Who → Bool) (o : Opening (sql size)) (ending : Device → ℕ) (journal : List Line)
    (kept : ℕ → ℕ → List Kept) →
    Shows (sql size) o.opened.pages o.tables → HasRun size plan wanting o.opened ending journal kept →
    RunIsLawful size plan wanting o ending journal (printed plan kept (newest o.tables) journal)
