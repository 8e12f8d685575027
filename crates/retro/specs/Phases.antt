-- How a run comes on whose sessions have seats of their own at one store: in a phase each session runs at its seat, at
-- once with the others or one after the other, and behind it all seats meet. The seats have the numbers from 0 on, each
-- that of its session.
use Rattle.std.specs.Prelude.{◌≡◌, ◌++◌, ◌⊎◌, ◌<◌, ◌≤◌, ◌+◌, ℕ, Bool, List, [], length, Ok}
use Rattle.std.specs.List.{AllByRecursion}
use Rattle.retro_base.specs.declared.device.Device.{Device}
use Rattle.retro_base.specs.declared.who.Who.{Who}
use Rattle.history.specs.declared.journal.Line.{Line}
use Rattle.history.specs.Lines.{FaultsDiffer, lines_of}
use Rattle.journal_law.specs.Facts.{AllFit, HasSeen}
use Rattle.journal_law.specs.Laws.{IsClosed}
use Rattle.journal_law.specs.Lawful.{Ground, IsCounted, Lawful, Opening, PhasesRise}
use Rattle.journal_law.specs.Seats.{Idle, View, Waits}
use Rattle.journal_law.specs.Shows.{Shows, ShowsAlong}
use Rattle.journal_law.specs.World.{newest}
use Rattle.session.specs.Plan.{Plan, item_of, tasks_at}
use Rattle.session.specs.Replies.{kept_in, known_by, printed, wanting_by}
use Rattle.session.specs.Run.{AreKept, HasRun, IsReady, RunIsLawful, SessionLeft, WasKept}
use Rattle.session.specs.Sql.{sql}
use Rattle.session.specs.declared.kept.Kept.{Kept}
use Rattle.session.specs.declared.plan.SessionPlan.{SessionPlan}

-- ---- before a phase

-- A seat of this number stands before a phase of a run over this ground, and has seen these lines.
pub record StandsBefore (size : ℕ) (plan : Plan) (ground : Ground) (phase number : ℕ) (front : List Line)
    (view : View) : Type 0 where
  pub number_is : view.session ≡ number
  pub ground_is : view.opened ≡ ground
  pub front_is : view.front ≡ front
  pub ready : IsReady size plan phase view

-- the line is of one of so many seats
abbrev pub IsOfSeats : ℕ → Line → Type 0
IsOfSeats seats line = line.who.session < seats

-- All seats stand before a phase, and have seen the same lines. Where these are lines of the seats alone, phases came
-- one after the other.
pub record StandTogether (size : ℕ) (plan : Plan) (ground : Ground) (seats phase : ℕ) (front : List Line)
    (views : ℕ → View) : Type 0 where
  pub each : (number : ℕ) → number < seats → StandsBefore size plan ground phase number front (views number)
  pub rise : AllByRecursion (IsOfSeats seats) front → PhasesRise front

-- this was kept of the session of each seat in each phase before
abbrev pub KeptBefore : ℕ → Plan → Ground → ℕ → ℕ → List Line → (ℕ → ℕ → List Kept) → Type 0
KeptBefore size plan ground seats phase front kept = (earlier number : ℕ) → earlier < phase → number < seats →
    WasKept size plan ground front earlier number (kept earlier number)

-- nothing is kept of the phases from this one on, nor of sessions without a seat
abbrev pub KeepsNoMore : ℕ → ℕ → (ℕ → ℕ → List Kept) → Type 0
KeepsNoMore seats phase kept = (later number : ℕ) → (phase ≤ later) ⊎ (seats ≤ number) → kept later number ≡ []

-- The phases before this one have run, of which this was kept, and all seats stand before it.
pub record HasComeTo (size : ℕ) (plan : Plan) (ground : Ground) (seats phase : ℕ) (kept : ℕ → ℕ → List Kept)
    (views : ℕ → View) : Type 0 where
  pub front : List Line
  pub together : StandTogether size plan ground seats phase front views
  pub has_kept : KeptBefore size plan ground seats phase front kept
  pub no_more : KeepsNoMore seats phase kept

-- ---- in a phase and behind it

-- Each session has run at its seat; a seat without one has stayed as it was.
abbrev pub HaveRun : ℕ → Plan → ℕ → ℕ → (ℕ → View) → (ℕ → View) → Type 0
HaveRun size plan seats phase old new =
    (number : ℕ) → number < seats → SessionLeft size plan phase (old number) (new number)

-- this was kept of each in the phase
abbrev pub WereKept : ℕ → Plan → Ground → ℕ → ℕ → (ℕ → View) → (ℕ → List Kept) → Type 0
WereKept size plan ground seats phase new kept =
    (number : ℕ) → number < seats → WasKept size plan ground (new number).front phase number (kept number)

-- All seats have met, and seen the same lines then; to each have come only lines of others.
abbrev pub AllMet : ℕ → (ℕ → View) → (ℕ → View) → List Line → Type 0
AllMet seats old new front = (number : ℕ) → number < seats → Waits (old number) (new number) (old number).work
    × ((new number).front ≡ front)

-- ---- the end

-- What a store leaves that is closed with its seats: each seat has seen all lines of its number, there are none of
-- other numbers, and the faults have counts of their own, up to these.
pub record LeavesJournal (ending : Device → ℕ) (seats : ℕ) (views : ℕ → View) (journal : List Line) : Type 0 where
  pub each : (number : ℕ) → number < seats → HasSeen number (views number).front journal
  pub foreign : (number : ℕ) → seats ≤ number → lines_of number journal ≡ []
  pub differ : FaultsDiffer journal
  pub counted : AllByRecursion (IsCounted ending) journal

-- each session of the plan has a seat
abbrev pub HaveSeats : Plan → ℕ → Type 0
HaveSeats plan seats = AllByRecursion (λ (sessions : List SessionPlan). length sessions ≤ seats) plan

-- From pages that hold tables a run has left a lawful journal, at each place of which the pages hold its tables, and
-- the text is its transcript.
pub record RanOver (size : ℕ) (plan : Plan) (o : Opening (sql size)) (ending : Device → ℕ) (journal : List Line)
    (text : List ℕ) : Type 0 where
  pub wanting : Who → Bool
  pub shown : Shows (sql size) o.opened.pages o.tables
  pub lawful : RunIsLawful size plan wanting o ending journal text

-- So much it has left also where memory was wanting for a reply.
pub record LeftLawful (size : ℕ) (plan : Plan) (o : Opening (sql size)) (ending : Device → ℕ)
    (journal : List Line) : Type 0 where
  pub shows : ShowsAlong (sql size) (item_of plan) o.opened.pages o.tables journal
  pub lawful : Lawful (sql size) (item_of plan) o ending journal

-- So has one that replied this to each item, which its journal tells.
pub record RepliedOver (size : ℕ) (plan : Plan) (o : Opening (sql size)) (ending : Device → ℕ) (journal : List Line)
    (kept : ℕ → ℕ → List Kept) : Type 0 where
  pub wanting : Who → Bool
  pub shown : Shows (sql size) o.opened.pages o.tables
  pub left : LeftLawful size plan o ending journal
  pub told : (phase session : ℕ) →
      kept phase session ≡ kept_in size (known_by size plan wanting o.tables journal) plan phase session

-- ---- the law

-- no line has been seen, and nothing is open
pub record IsFresh (ground : Ground) (number : ℕ) (view : View) : Type 0 where
  pub number_is : view.session ≡ number
  pub ground_is : view.opened ≡ ground
  pub none : view.front ≡ []
  pub idle : view.work ≡ Idle

pub record PhasesMakeRuns (size : ℕ) : Type 0 where
  -- a store has been opened
  pub starts : (plan : Plan) (ground : Ground) (seats : ℕ) (views : ℕ → View) →
      ((number : ℕ) → number < seats → IsFresh ground number (views number)) →
      StandTogether size plan ground seats 1 [] views
  pub begins : (plan : Plan) (ground : Ground) (seats : ℕ) (front : List Line) (kept : ℕ → ℕ → List Kept)
      (views : ℕ → View) → ((phase session : ℕ) → kept phase session ≡ []) →
      StandTogether size plan ground seats 1 front views → HasComeTo size plan ground seats 1 kept views
  -- a session has run at its seat, and this is kept of it
  pub runs : (plan : Plan) (ground : Ground) (phase number : ℕ) (front : List Line) (old new : View)
      (kept : List Kept) → StandsBefore size plan ground phase number front old →
      SessionLeft size plan phase old new → AreKept {E = Unit {0}} size plan phase new (Ok kept) →
      WasKept size plan ground new.front phase number kept
  -- a seat has no session in a phase
  pub stays : (plan : Plan) (ground : Ground) (phase number : ℕ) (front : List Line) (view : View) →
      StandsBefore size plan ground phase number front view → SessionLeft size plan phase view view
  pub none : (plan : Plan) (ground : Ground) (phase number : ℕ) (front : List Line) → tasks_at plan phase number ≡ [] →
      WasKept size plan ground front phase number []
  -- behind a phase, whatever was kept of it
  pub phases : (plan : Plan) (ground : Ground) (seats phase : ℕ) (front next : List Line) (old new met : ℕ → View) →
      HaveRun size plan seats phase old new → AllMet seats new met next →
      StandTogether size plan ground seats phase front old → StandTogether size plan ground seats (phase + 1) next met
  pub on : (plan : Plan) (ground : Ground) (seats phase : ℕ) (next : List Line) (before after : ℕ → ℕ → List Kept)
      (old new met : ℕ → View) → HaveRun size plan seats phase old new → AllMet seats new met next →
      WereKept size plan ground seats phase new (after phase) →
      ((earlier : ℕ) → earlier < phase → after earlier ≡ before earlier) → KeepsNoMore seats (phase + 1) after →
      HasComeTo size plan ground seats phase before old → HasComeTo size plan ground seats (phase + 1) after met
  -- a seat has seen all lines of its number
  pub seen : (number : ℕ) (front rest journal : List Line) → front ++ rest ≡ journal →
      lines_of number front ≡ lines_of number journal → HasSeen number front journal
  -- the store is closed, after whatever phase
  pub fits : (plan : Plan) (ground : Ground) (ending : Device → ℕ) (seats phase : ℕ) (front journal : List Line)
      (views : ℕ → View) → LeavesJournal ending seats views journal →
      StandTogether size plan ground seats phase front views → AllFit (sql size) (item_of plan) ground journal
      × IsClosed ending journal
  -- and behind the last phase
  pub ends : (plan : Plan) (ground : Ground) (ending : Device → ℕ) (seats phase : ℕ) (journal : List Line)
      (kept : ℕ → ℕ → List Kept) (views : ℕ → View) → length plan < phase → HaveSeats plan seats →
      LeavesJournal ending seats views journal → HasComeTo size plan ground seats phase kept views →
      HasRun size plan (wanting_by kept) ground ending journal kept
  -- from pages that hold tables
  pub left : (plan : Plan) (o : Opening (sql size)) (ending : Device → ℕ) (seats phase : ℕ) (front journal : List Line)
      (views : ℕ → View) → Shows (sql size) o.opened.pages o.tables →
      LeavesJournal ending seats views journal → StandTogether size plan o.opened seats phase front views →
      LeftLawful size plan o ending journal
  pub replies : (plan : Plan) (o : Opening (sql size)) (ending : Device → ℕ) (seats phase : ℕ) (journal : List Line)
      (kept : ℕ → ℕ → List Kept) (views : ℕ → View) → Shows (sql size) o.opened.pages o.tables →
      length plan < phase → HaveSeats plan seats → LeavesJournal ending seats views journal →
      HasComeTo size plan o.opened seats phase kept views → RepliedOver size plan o ending journal kept
  pub prints : (plan : Plan) (o : Opening (sql size)) (ending : Device → ℕ) (journal : List Line)
      (kept : ℕ → ℕ → List Kept) (text : List ℕ) → RepliedOver size plan o ending journal kept →
      text ≡ printed plan kept (newest o.opened.pages) journal → RanOver size plan o ending journal text
