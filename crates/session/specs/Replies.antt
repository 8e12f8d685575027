-- What each item of a plan replies, as a journal says what became of it, and the transcript.
use Rattle.std.specs.Prelude.{◌≡◌, ◌+◌, ◌-◌, ◌*◌, ◌++◌, ◌||◌, ◌&&◌, ℕ, Bool, true, false, List, [], ◌∷◌, codes}
use Rattle.std.specs.Prelude.{length, Option, Some, None, Result, Ok, Err, nat_lt, slice_get, if◌then◌else◌}
use Rattle.std.specs.Fmt.{decimal}
use Rattle.std.specs.Option.{option_map_or}
use Rattle.std.specs.Str.{bytes_eq}
use Rattle.retro_base.specs.declared.limits.TheConstants.{ATTEMPTS, JOURNAL_LINES, WORKER_LINES}
use Rattle.retro_base.specs.declared.refusal.Refusal.{Refusal}
use Rattle.retro_base.specs.declared.refusal.Refusal.TheVariants as refusal
use Rattle.retro_base.specs.declared.who.Who.{Who}
use Rattle.sql_select.specs.declared.answer.Answer.{Answer}
use Rattle.tables.specs.Tables.{Tables}
use Rattle.history.specs.declared.journal.Line.{Line}
use Rattle.history.specs.declared.journal.What.{What}
use Rattle.history.specs.declared.journal.What.TheVariants.{Overlapped, Unlooked}
use Rattle.journal_law.specs.Fates.{Fate, began_at, fate, reply}
use Rattle.journal_law.specs.Language.{Kind}
use Rattle.journal_law.specs.Language as law
use Rattle.journal_law.specs.Own.{own}
use Rattle.journal_law.specs.World.{World, newest}
use Rattle.session.specs.Line.{line}
use Rattle.session.specs.OverSnapshots.{called, results_asked}
use Rattle.session.specs.Plan.{Item, Plan, item_of, names_at, numbered, tasks_at}
use Rattle.session.specs.Sql.{kind_of, sql}
use Rattle.session.specs.Texts.{answer_text}
use Rattle.session.specs.Visible.{visible_text}
use Rattle.session.specs.Wording.{not_run_text, refusal_text}
use Rattle.session.specs.declared.kept.Kept.{Kept}
use Rattle.session.specs.declared.kept.Kept.TheVariants.{Told, CutShort, NotRun}
use Rattle.session.specs.declared.plan.SessionPlan.{SessionPlan}
use Rattle.session.specs.declared.plan.Task.{Task}
use Rattle.session.specs.declared.plan.Task.TheVariants.{Call, Results, Syntax}
use Rattle.session.specs.declared.result_table.ResultTable.{ResultTable}

abbrev pub who_is : ℕ → ℕ → ℕ → Who
who_is phase session number = record { phase = phase; session = session; item = number }

-- ---- items cut short

abbrev pub is_overlap : Option What → Bool
is_overlap (Some (Overlapped session other)) = true
is_overlap what = false

-- the last of these
abbrev pub last : List What → Option What
last [] = None
last (what ∷ []) = Some what
last (what ∷ next ∷ whats) = last (next ∷ whats)

-- it lacks a line that it needs, or its last line is an overlap before the last attempt
abbrev pub is_cut : Kind → List What → Bool
is_cut law.Lineless whats = false
is_cut kind [] = true
is_cut kind (what ∷ whats) = is_overlap (last (what ∷ whats)) && nat_lt (length (what ∷ whats)) (2 * ATTEMPTS)

-- why it was cut short: the journal has no room for two lines more beside those of the workers, or memory was wanting
abbrev pub cause_of_cut : ℕ → Refusal
cause_of_cut lines = if nat_lt (JOURNAL_LINES - WORKER_LINES) (lines + 2) then refusal.JournalFull lines 0
    else refusal.OutOfMemory

-- the reply lines of an item by what is kept of it, where the journal has so many lines at its end
abbrev pub text_of : ℕ → Kept → List ℕ
text_of lines (Told text) = text
text_of lines CutShort = refusal_text [] (cause_of_cut lines)
text_of lines NotRun = not_run_text

-- the reply says that memory was wanting
abbrev pub is_wanting : Kept → Bool
is_wanting (Told text) = bytes_eq text (refusal_text [] refusal.OutOfMemory)
is_wanting kept = false

-- so says the reply of the item of a number
abbrev pub wanting_at : List Kept → ℕ → Bool
wanting_at kept number = option_map_or is_wanting (numbered kept number) false

-- what was kept of a session's items of a phase says for which of those without a line memory was wanting
abbrev pub SaysWanting : (Who → Bool) → ℕ → ℕ → List Kept → Type 0
SaysWanting wanting phase session kept = (number : ℕ) → wanting (who_is phase session number) ≡ wanting_at kept number

-- so does what was kept of a run
abbrev pub wanting_by : (ℕ → ℕ → List Kept) → Who → Bool
wanting_by kept who = wanting_at (kept who.phase who.session) who.item

-- ---- what is kept of a run, by phases and the places of their sessions

-- what was kept of the session at a place of a phase
abbrev pub kept_at_place : List (List Kept) → ℕ → List Kept
kept_at_place kept place = option_map_or (λ (items : List Kept). items) (slice_get kept place) []

-- what was kept of the sessions of the phase of a number
abbrev pub kept_in_phase : List (List (List Kept)) → ℕ → List (List Kept)
kept_in_phase kept phase = option_map_or (λ (sessions : List (List Kept)). sessions) (numbered kept phase) []

-- what was kept of the session at a place of the phase of a number
abbrev pub kept_by_place : List (List (List Kept)) → ℕ → ℕ → List Kept
kept_by_place kept phase = kept_at_place (kept_in_phase kept phase)

-- ---- items of a session, one after the other

-- what stands before an item of a session: an item was cut short, and the result tables that calls left, the last first
pub record Standing : Type 0 where
  pub stopped : Bool
  pub results : List ResultTable

abbrev pub starting : Standing
starting = record { stopped = false; results = [] }

abbrev pub answer_or_refusal : Result Answer Refusal → List ℕ
answer_or_refusal (Ok answer) = answer_text answer
answer_or_refusal (Err why) = refusal_text [] why

-- the reply of an item that needs no line
abbrev pub lineless : List ResultTable → Task → List ℕ
lineless results (Syntax place) = refusal_text [] (refusal.Syntax place)
lineless results (Results query) = answer_or_refusal (results_asked query results)
lineless results task = not_run_text

-- the result table that a call leaves, where its look ended with its answer
abbrev pub left_by : List ℕ → Result Answer Refusal → List ResultTable
left_by name (Ok answer) = record { name = name; answer = answer } ∷ []
left_by name (Err why) = []

abbrev pub left_at : Task → Fate Tables → What → List ResultTable
left_at (Call call) f Unlooked = left_by call.table (called call (began_at f))
left_at task f what = []

abbrev pub left : Task → Option (Fate Tables) → List ResultTable
left task None = []
left task (Some f) = left_at task f f.last

-- what is known of an item of a run: what its lines say, what became of it, and whether memory was wanting for it where
-- it needs no line
pub record Known : Type 0 where
  pub whats : List What
  pub fate : Option (Fate Tables)
  pub wanting : Bool

-- what is kept of an item that is run
abbrev pub kept_of : ℕ → Known → List ResultTable → Item → Kind → Kept
kept_of size known results item law.Lineless =
    Told (if known.wanting then refusal_text item.names refusal.OutOfMemory else lineless results item.task)
kept_of size known results item kind =
    if is_cut kind known.whats then CutShort else Told (reply (sql size) item known.fate)

abbrev pub kept_at : ℕ → Known → Standing → Item → Kept
kept_at size known standing item =
    if standing.stopped then NotRun else kept_of size known standing.results item (kind_of item.task)

-- what stands behind an item
abbrev pub standing_behind : Known → Standing → Task → Standing
standing_behind known standing task = record {
  stopped = standing.stopped || is_cut (kind_of task) known.whats;
  results = left task known.fate ++ standing.results;
}

-- what is kept of the tasks of a session, of which this is known by their numbers, the first having this number
abbrev pub kept_by : ℕ → (ℕ → Known) → List (List ℕ) → Standing → ℕ → List Task → List Kept
kept_by size known names standing number [] = []
kept_by size known names standing number (task ∷ tasks) =
    kept_at size (known number) standing (record { names = names; task = task }) ∷ kept_by size known names
    (standing_behind (known number) standing task) (number + 1) tasks

-- what is kept of the items of the session at a place of a phase
abbrev pub kept_in : ℕ → (Who → Known) → Plan → ℕ → ℕ → List Kept
kept_in size known plan phase place =
    kept_by size (λ (number : ℕ). known (who_is phase place number)) (names_at plan phase) starting 1
    (tasks_at plan phase place)

-- what a journal tells of an item of a plan, from these tables on
abbrev pub known_by : ℕ → Plan → (Who → Bool) → World Tables → List Line → Who → Known
known_by size plan wanting opening journal who = record {
  whats = own who journal;
  fate = fate (sql size) (item_of plan) who opening journal;
  wanting = wanting who;
}

-- ---- the transcript

-- items, the first having this number
abbrev pub items_text : ℕ → ℕ → List Kept → List ℕ
items_text lines number [] = []
items_text lines number (kept ∷ more) =
    line (codes "item " ++ decimal number) ++ text_of lines kept ++ items_text lines (number + 1) more

-- the sessions of a phase, the first standing at this place
abbrev pub sessions_text : ℕ → (ℕ → List Kept) → ℕ → List SessionPlan → List ℕ
sessions_text lines kept place [] = []
sessions_text lines kept place (session ∷ sessions) =
    line (codes "session " ++ session.name) ++ items_text lines 1 (kept place) ++ sessions_text lines kept
    (place + 1) sessions

-- phases, the first having this number
abbrev pub phases_text : ℕ → (ℕ → ℕ → List Kept) → ℕ → Plan → List ℕ
phases_text lines kept number [] = []
phases_text lines kept number (sessions ∷ phases) =
    line (codes "phase " ++ decimal number) ++ sessions_text lines (kept number) 0 sessions ++ phases_text lines kept
    (number + 1) phases

-- What is printed of a plan: what was kept of each session of each phase, and the visible lines of the journal, behind
-- a snapshot of this number.
abbrev pub printed : Plan → (ℕ → ℕ → List Kept) → ℕ → List Line → List ℕ
printed plan kept newest journal =
    phases_text (length journal) kept 1 plan ++ line (codes "journal") ++ visible_text plan newest journal

-- The transcript of a journal, from these tables on. `wanting` are the items without a line for which memory was
-- wanting.
abbrev pub transcript : ℕ → Plan → (Who → Bool) → World Tables → List Line → List ℕ
transcript size plan wanting opening journal =
    printed plan (kept_in size (known_by size plan wanting opening journal) plan) (newest opening) journal
