-- That sessions one after the other make a run.
use Rattle.std.proofs.Common.{◌≡◌, ◌≢◌, ◌⊎◌, ◌<◌, ◌≤◌, ◌+◌, ◌++◌, ℕ, zero, suc, List, [], ◌∷◌, length, Option, Some, None, Ok, inl, inr, refl, ap, sym, subst, ◌∙◌, append-nil, append_assoc, arith, slice_get}
use Rattle.std.specs.List.{AllByRecursion}
use Rattle.retro_base.specs.declared.device.Device.{Device}
use Rattle.retro_base.specs.declared.who.Who.{Who}
use Rattle.tables.specs.Tables.{Tables}
use Rattle.history.specs.declared.journal.Line.{Line}
use Rattle.history.specs.declared.journal.What.{What}
use Rattle.history.specs.declared.journal.What.TheVariants.{Fault}
use Rattle.history.specs.Lines.{AreNewer, fault_of, faults_of}
use Rattle.journal_law.specs.Facts.{AreOthers, HasSeen, OwnFit}
use Rattle.journal_law.specs.Lawful.{Ground, HasRuns, IsCounted, IsCut, IsFault, ItemsRise, IsRun, PhasesRise}
use Rattle.journal_law.specs.Language.{Kind}
use Rattle.journal_law.specs.Language as kinds
use Rattle.journal_law.specs.Own.{own}
use Rattle.journal_law.specs.Seats.{Idle, View}
use Rattle.journal_law.specs.Shows.{ShowsAlong}
use Rattle.journal_law.specs.World.{World}
use Rattle.journal_law.proofs.Journal.{lines_of_seen, own_lines}
use Rattle.journal_law.proofs.Seating.{waits}
use Rattle.plain_store.specs.Turns.{OwnTurn}
use Rattle.session.specs.Plan.{EndsAt, Plan, item_of, names_at, numbered, tasks_at}
use Rattle.session.specs.Replies.{SaysWanting, kept_by, kept_in, known_by, starting, wanting_by, who_is}
use Rattle.session.specs.Run.{AreKept, HasKept, HasRun, IsBefore, IsBehind, IsReady, OfPhase, SessionLeft, WasKept}
use Rattle.session.specs.Sql.{sql}
use Rattle.session.specs.declared.kept.Kept.{Kept}
use Rattle.session.specs.declared.plan.SessionPlan.{SessionPlan}
use Rattle.session.specs.declared.plan.Task.{Task}
use Rattle.plain_run.specs.Turns.{HasCome, IsDone, KeepsDone, TurnsMakeRuns}

-- ---- lists of lines

all_append : (P : Line → Type 0) (xs ys : List Line) → AllByRecursion P xs → AllByRecursion P ys → AllByRecursion P (xs ++ ys)
all_append P [] ys one two = two
all_append P (x ∷ xs) ys one two = (one.0, all_append P xs ys one.1 two)

all_so : (P Q : Line → Type 0) → ((line : Line) → P line → Q line) → (lines : List Line) → AllByRecursion P lines → AllByRecursion Q lines
all_so P Q so [] all = tt
all_so P Q so (line ∷ lines) all = (so line all.0, all_so P Q so lines all.1)

all_both : (P Q : Line → Type 0) (lines : List Line) → AllByRecursion P lines → AllByRecursion Q lines → AllByRecursion (λ line. P line × Q line) lines
all_both P Q [] one two = tt
all_both P Q (line ∷ lines) one two = ((one.0, two.0), all_both P Q lines one.1 two.1)

-- lines of this phase behind lines up to it
rise_append : (phase : ℕ) (xs ys : List Line) → PhasesRise xs → AllByRecursion (λ (line : Line). line.who.phase ≤ phase) xs → AllByRecursion (λ (line : Line). line.who.phase ≡ phase) ys → PhasesRise (xs ++ ys)
rise_append phase [] [] rise upto at = tt
rise_append phase [] (y ∷ ys) rise upto at =
    (all_so (λ (line : Line). line.who.phase ≡ phase) (λ (later : Line). y.who.phase ≤ later.who.phase) (λ line is. omega (arith, is, at.0)) ys at.1, rise_append phase [] ys rise upto at.1)
rise_append phase (x ∷ xs) ys rise upto at = (
  all_append (λ (later : Line). x.who.phase ≤ later.who.phase) xs ys rise.0
      (all_so (λ (line : Line). line.who.phase ≡ phase) (λ (later : Line). x.who.phase ≤ later.who.phase) (λ line is. omega (arith, is, upto.0)) ys at),
  rise_append phase xs ys rise.1 upto.1 at,
)

-- ---- lines without a fault

no_fault_of : (device : Device) (who : Who) (what : What) → (IsFault what → ⊥) → fault_of device who what ≡ []
no_fault_of device who (Fault other count call) none = absurd (none tt)
no_fault_of device who what none = refl

no_faults : (device : Device) (lines : List Line) → AllByRecursion (λ (line : Line). IsFault line.what → ⊥) lines → faults_of device lines ≡ []
no_faults device [] none = refl
no_faults device (line ∷ lines) none = rw (no_fault_of device line.who line.what none.0) (no_faults device lines none.1)

is_counted : (ending : Device → ℕ) (who : Who) (what : What) → (IsFault what → ⊥) → IsCounted ending (record { who = who; what = what })
is_counted ending who (Fault other count call) none = absurd (none tt)
is_counted ending who what none = tt

module _ (size : ℕ) (plan : Plan) (ground : Ground) where
  -- what a session knows of its lines it knows while others add lines
  abbrev seen_by : ℕ → List Line → View
  seen_by session lines = record { session = session; opened = ground; front = lines; work = Idle; told = [] }

  fit_on : (session : ℕ) (lines more : List Line) → OwnFit (sql size) (item_of plan) ground session [] lines → AreOthers session more → OwnFit (sql size) (item_of plan) ground session [] (lines ++ more)
  fit_on session lines more fits others = waits (sql size) (item_of plan) (seen_by session lines) (seen_by session (lines ++ more))
      (record { session = refl; opened = refl; others = more; apart = others; front = sym (append-nil (lines ++ more)) }) fits

  runs_on : (session : ℕ) (lines more : List Line) → HasRuns (sql size) (item_of plan) session lines → AreOthers session more → HasRuns (sql size) (item_of plan) session (lines ++ more)
  runs_on session lines more runs others =
      let seen : HasSeen session lines (lines ++ more) = record { rest = more; whole = refl; others = others } in
      let same : (who : Who) → who.session ≡ session → own who (lines ++ more) ≡ own who lines =
      λ who mine. own_lines (lines ++ more) lines who (subst (λ (s : ℕ). HasSeen s lines (lines ++ more)) (sym mine) seen) in
      record {
        order = subst ItemsRise (sym (lines_of_seen session (lines ++ more) lines seen)) runs.order;
        runs = λ who item mine is. subst (IsRun ((sql size).kind item)) (sym (same who mine)) (runs.runs who item mine is);
        cut = λ who later item mine is cut phase of_session behind.
            same later of_session ∙ runs.cut who later item mine is (subst (IsCut ((sql size).kind item)) (same who mine) cut) phase of_session behind;
      }

  -- nothing is kept of a session that is not there
  kept_none : (phase session : ℕ) (lines : List Line) (kept : List Kept) → tasks_at plan phase session ≡ [] → kept ≡ [] → WasKept size plan ground lines phase session kept
  kept_none phase session lines kept none is wanting says = record {
    front = lines;
    rest = [];
    whole = sym (append-nil lines);
    later = tt;
    is_kept = λ tables along. is ∙ sym (ap (λ (tasks : List Task). kept_by size (λ (number : ℕ). known_by size plan wanting tables lines (who_is phase session number)) (names_at plan phase) starting 1 tasks) none);
  }

  kept_on : (phase session : ℕ) (lines more : List Line) (kept : List Kept) → AllByRecursion (IsBehind phase session) more → WasKept size plan ground lines phase session kept
      → WasKept size plan ground (lines ++ more) phase session kept
  kept_on phase session lines more kept later was wanting says =
      let has : HasKept size plan wanting ground lines phase session kept = was wanting says in
      record {
        front = has.front;
        rest = has.rest ++ more;
        whole = ap (λ (ls : List Line). ls ++ more) has.whole ∙ append_assoc has.front has.rest more;
        later = all_append (IsBehind phase session) has.rest more has.later later;
        is_kept = has.is_kept;
      }

run_none : (kind : Kind) → IsRun kind []
run_none (kinds.Transaction end) = (tt, omega arith)
run_none kind = tt

no_tasks_at_zero : (plan : Plan) (session : ℕ) → tasks_at plan 0 session ≡ []
no_tasks_at_zero plan session = refl

pub starts : (size : ℕ) (plan : Plan) (ground : Ground) (kept : ℕ → ℕ → List Kept) → ((session : ℕ) → kept 0 session ≡ []) → HasCome size plan ground [] kept 1 0
starts size plan ground kept none = record {
  fits = λ session. tt;
  runs = λ session. record { order = tt; runs = λ who item mine is. run_none ((sql size).kind item); cut = λ who later item mine is cut phase of_session behind. refl };
  rise = tt;
  upto = tt;
  ahead = λ session below. tt;
  faultless = tt;
  has_kept = first;
}
  where
    first : (earlier session : ℕ) → IsDone earlier session 1 0 → WasKept size plan ground [] earlier session (kept earlier session)
    first zero session done = kept_none size plan ground 0 session [] (kept 0 session) (no_tasks_at_zero plan session) (none session)
    first (suc earlier) session (inl less) = absurd (omega (arith, less))
    first (suc earlier) session (inr at) = absurd (omega (arith, at.1))

pub ready : (size : ℕ) (plan : Plan) (ground : Ground) (kept : ℕ → ℕ → List Kept) (phase place : ℕ) (view : View) → view.opened ≡ ground → view.session ≡ place → view.work ≡ Idle →
    HasCome size plan ground view.front kept phase place → IsReady size plan phase view
ready size plan ground kept phase place view opened session idle come = record {
  idle = idle;
  fits = rw (opened, session) (come.fits place);
  runs = come.runs view.session;
  earlier = come.ahead view.session (omega (arith, session));
}

same_or_not : (a b : ℕ) → (a ≡ b) ⊎ (a ≢ b)
same_or_not zero zero = inl refl
same_or_not zero (suc b) = inr (λ e. absurd (omega (arith, e)))
same_or_not (suc a) zero = inr (λ e. absurd (omega (arith, e)))
same_or_not (suc a) (suc b) = by_rest (same_or_not a b)
  where
    by_rest : (a ≡ b) ⊎ (a ≢ b) → (suc a ≡ suc b) ⊎ (suc a ≢ suc b)
    by_rest (inl is) = inl (ap suc is)
    by_rest (inr other) = inr (λ e. other (omega (arith, e)))

-- lines of a session are none of another one
of_others : (session place : ℕ) (lines : List Line) → session ≢ place → AllByRecursion (OwnTurn place) lines → AreOthers session lines
of_others session place [] other own_lines = tt
of_others session place (line ∷ lines) other own_lines = (λ mine. other (sym mine ∙ own_lines.0.0), of_others session place lines other own_lines.1)

module _ (size : ℕ) (plan : Plan) (ground : Ground) (old new : View) (before after : ℕ → ℕ → List Kept) (phase place : ℕ) (opened : old.opened ≡ ground) (seated : old.session ≡ place)
    (come : HasCome size plan ground old.front before phase place) (ran : SessionLeft size plan phase old new) (replies : AreKept {E = Unit {0}} size plan phase new (Ok (after phase place))) (turn : AllByRecursion (OwnTurn place) ran.more)
    (keeps : KeepsDone phase place before after) where
  abbrev lines : List Line
  lines = old.front ++ ran.more

  -- its lines are of the phase
  here : AllByRecursion (λ (line : Line). line.who.phase ≡ phase) ran.more
  here = all_so (λ line. OwnTurn place line × OfPhase phase old.session line) (λ (line : Line). line.who.phase ≡ phase) (λ line is. is.1 (is.0.0 ∙ sym seated)) ran.more
      (all_both (OwnTurn place) (OfPhase phase old.session) ran.more turn ran.of_phase)

  fits : (session : ℕ) → OwnFit (sql size) (item_of plan) ground session [] lines
  fits session = by_test (same_or_not session place)
    where
      by_test : (session ≡ place) ⊎ (session ≢ place) → OwnFit (sql size) (item_of plan) ground session [] lines
      by_test (inl same) =
          let seat : new.session ≡ session = ran.session ∙ seated ∙ sym same in
          let store : new.opened ≡ ground = ran.opened ∙ opened in
          rw (sym seat, sym store, sym ran.front) ran.fits
      by_test (inr other) = fit_on size plan ground session old.front ran.more (come.fits session) (of_others session place ran.more other turn)

  runs : (session : ℕ) → HasRuns (sql size) (item_of plan) session lines
  runs session = by_test (same_or_not session place)
    where
      by_test : (session ≡ place) ⊎ (session ≢ place) → HasRuns (sql size) (item_of plan) session lines
      by_test (inl same) =
          let seat : new.session ≡ session = ran.session ∙ seated ∙ sym same in
          rw (sym seat, sym ran.front) ran.runs
      by_test (inr other) = runs_on size plan ground session old.front ran.more (come.runs session) (of_others session place ran.more other turn)

  ahead : (session : ℕ) → place + 1 ≤ session → AllByRecursion (IsBefore phase session) lines
  ahead session behind = all_append (IsBefore phase session) old.front ran.more (come.ahead session (omega (arith, behind)))
      (all_so (OwnTurn place) (IsBefore phase session) (λ line is mine. absurd (omega (arith, behind, mine, is.0))) ran.more turn)

  later : (earlier session : ℕ) → IsDone earlier session phase place → AllByRecursion (IsBehind earlier session) ran.more
  later earlier session done = all_so (λ line. OwnTurn place line × (line.who.phase ≡ phase)) (IsBehind earlier session) (behind done) ran.more
      (all_both (OwnTurn place) (λ (line : Line). line.who.phase ≡ phase) ran.more turn here)
    where
      behind : IsDone earlier session phase place → (line : Line) → OwnTurn place line × (line.who.phase ≡ phase) → IsBehind earlier session line
      behind (inl less) line is mine = omega (arith, less, is.1)
      behind (inr at) line is mine = absurd (omega (arith, at.1, mine, is.0.0))

  of_turn : WasKept size plan ground lines phase place (after phase place)
  of_turn wanting says = record {
    front = lines;
    rest = [];
    whole = sym (append-nil lines);
    later = tt;
    is_kept = λ tables along.
        let seat : new.session ≡ place = ran.session ∙ seated in
        let store : new.opened ≡ ground = ran.opened ∙ opened in
        kept_there tables (sym seat) (sym store) (sym ran.front) along;
  }
    where
      kept_there : (tables : World Tables) → place ≡ new.session → ground ≡ new.opened → lines ≡ new.front → ShowsAlong (sql size) (item_of plan) ground.pages tables lines
          → after phase place ≡ kept_in size (known_by size plan wanting tables lines) plan phase place
      kept_there tables seat store front along =
          replies wanting (subst (λ (s : ℕ). SaysWanting wanting phase s (after phase place)) seat says) tables
          (subst (λ (g : Ground). ShowsAlong (sql size) (item_of plan) g.pages tables new.front) store (subst (λ (ls : List Line). ShowsAlong (sql size) (item_of plan) ground.pages tables ls) front along))
          ∙ ap (λ (s : ℕ). kept_in size (known_by size plan wanting tables new.front) plan phase s) (sym seat)
          ∙ ap (λ (ls : List Line). kept_in size (known_by size plan wanting tables ls) plan phase place) (sym front)

  has_kept : (earlier session : ℕ) → IsDone earlier session phase (place + 1) → WasKept size plan ground lines earlier session (after earlier session)
  has_kept earlier session done = by_done done (same_or_not session place)
    where
      stays : IsDone earlier session phase place → WasKept size plan ground lines earlier session (after earlier session)
      stays was = subst (λ (kept : List Kept). WasKept size plan ground lines earlier session kept) (sym (keeps earlier session was))
          (kept_on size plan ground earlier session old.front ran.more (before earlier session) (later earlier session was) (come.has_kept earlier session was))

      by_done : IsDone earlier session phase (place + 1) → (session ≡ place) ⊎ (session ≢ place) → WasKept size plan ground lines earlier session (after earlier session)
      by_done (inl less) test = stays (inl less)
      by_done (inr at) (inr other) = stays (inr (at.0, omega (arith, at.1, other)))
      by_done (inr at) (inl same) = subst (λ (s : ℕ). WasKept size plan ground lines earlier s (after earlier s)) (sym same)
          (subst (λ (p : ℕ). WasKept size plan ground lines p place (after p place)) (sym at.0) of_turn)

  pub turns : HasCome size plan ground new.front after phase (place + 1)
  turns = subst (λ (ls : List Line). HasCome size plan ground ls after phase (place + 1)) (sym ran.front) (record {
    fits = fits;
    runs = runs;
    rise = rise_append phase old.front ran.more come.rise come.upto here;
    upto = all_append (λ (line : Line). line.who.phase ≤ phase) old.front ran.more come.upto
        (all_so (λ (line : Line). line.who.phase ≡ phase) (λ (line : Line). line.who.phase ≤ phase) (λ line is. omega (arith, is)) ran.more here);
    ahead = ahead;
    faultless = all_append (λ (line : Line). IsFault line.what → ⊥) old.front ran.more come.faultless (all_so (OwnTurn place) (λ (line : Line). IsFault line.what → ⊥) (λ line is. is.1) ran.more turn);
    has_kept = has_kept;
  })

less_or_not : (a b : ℕ) → (a < b) ⊎ (b ≤ a)
less_or_not a zero = inr (omega arith)
less_or_not zero (suc b) = inl (omega arith)
less_or_not (suc a) (suc b) = by_rest (less_or_not a b)
  where
    by_rest : (a < b) ⊎ (b ≤ a) → (suc a < suc b) ⊎ (suc b ≤ suc a)
    by_rest (inl less) = inl (omega (arith, less))
    by_rest (inr more) = inr (omega (arith, more))

-- no session stands at that place
pub none_at : {A : Type 0} (xs : List A) (place : ℕ) → length xs ≤ place → slice_get xs place ≡ None
none_at [] place short = refl
none_at (x ∷ xs) zero short = absurd (omega (arith, short))
none_at (x ∷ xs) (suc place) short = none_at xs place (omega (arith, short))

no_tasks : (plan : Plan) (phase place session : ℕ) → EndsAt plan phase place → place ≤ session → tasks_at plan phase session ≡ []
no_tasks plan phase place session ends behind = by_phase (numbered plan phase) refl
  where
    by_phase : (found : Option (List SessionPlan)) → numbered plan phase ≡ found → tasks_at plan phase session ≡ []
    by_phase None e = rw e refl
    by_phase (Some sessions) e = rw (e, none_at sessions session (omega (arith, ends sessions e, behind))) refl

pub phases : (size : ℕ) (plan : Plan) (ground : Ground) (journal : List Line) (kept : ℕ → ℕ → List Kept) (phase place : ℕ) → EndsAt plan phase place → ((session : ℕ) → place ≤ session → kept phase session ≡ []) →
    HasCome size plan ground journal kept phase place → HasCome size plan ground journal kept (phase + 1) 0
phases size plan ground journal kept phase place ends none come = record {
  fits = come.fits;
  runs = come.runs;
  rise = come.rise;
  upto = all_so (λ (line : Line). line.who.phase ≤ phase) (λ (line : Line). line.who.phase ≤ phase + 1) (λ line is. omega (arith, is)) journal come.upto;
  ahead = λ session behind. all_so (λ (line : Line). line.who.phase ≤ phase) (IsBefore (phase + 1) session) (λ line is mine. omega (arith, is)) journal come.upto;
  faultless = come.faultless;
  has_kept = λ earlier session done. by_done earlier session done (same_or_not earlier phase);
}
  where
    by_place : (session : ℕ) → (session < place) ⊎ (place ≤ session) → WasKept size plan ground journal phase session (kept phase session)
    by_place session (inl less) = come.has_kept phase session (inr (refl, less))
    by_place session (inr behind) = kept_none size plan ground phase session journal (kept phase session) (no_tasks plan phase place session ends behind) (none session behind)

    by_done : (earlier session : ℕ) → IsDone earlier session (phase + 1) 0 → (earlier ≡ phase) ⊎ (earlier ≢ phase) → WasKept size plan ground journal earlier session (kept earlier session)
    by_done earlier session (inl less) (inl same) = subst (λ (p : ℕ). WasKept size plan ground journal p session (kept p session)) (sym same) (by_place session (less_or_not session place))
    by_done earlier session (inl less) (inr other) = come.has_kept earlier session (inl (omega (arith, less, other)))
    by_done earlier session (inr at) test = absurd (omega (arith, at.1))

no_phase : (plan : Plan) (phase session : ℕ) → length plan < phase → tasks_at plan phase session ≡ []
no_phase plan zero session past = absurd (omega (arith, past))
no_phase plan (suc phase) session past = rw (none_at plan phase (omega (arith, past))) refl

pub ends : (size : ℕ) (plan : Plan) (ground : Ground) (ending : Device → ℕ) (journal : List Line) (kept : ℕ → ℕ → List Kept) (phase : ℕ) → length plan < phase → ((later session : ℕ) → phase ≤ later → kept later session ≡ []) →
    HasCome size plan ground journal kept phase 0 → HasRun size plan (wanting_by kept) ground ending journal kept
ends size plan ground ending journal kept phase past none come = record {
  fit = λ session. record {
    front = journal;
    seen = record { rest = []; whole = sym (append-nil journal); others = tt };
    fits = come.fits session;
    runs = come.runs session;
  };
  closed = record {
    phases = come.rise;
    differ = λ device. subst AreNewer (sym (no_faults device journal come.faultless)) tt;
    counted = all_so (λ (line : Line). IsFault line.what → ⊥) (IsCounted ending) (λ line is. is_counted ending line.who line.what is) journal come.faultless;
  };
  has_kept = λ earlier session. by_phase earlier session (less_or_not earlier phase) (wanting_by kept) (λ number. refl);
}
  where
    by_phase : (earlier session : ℕ) → (earlier < phase) ⊎ (phase ≤ earlier) → WasKept size plan ground journal earlier session (kept earlier session)
    by_phase earlier session (inl less) = come.has_kept earlier session (inl less)
    by_phase earlier session (inr behind) = kept_none size plan ground earlier session journal (kept earlier session) (no_phase plan earlier session (omega (arith, past, behind))) (none earlier session behind)

pub same : (size : ℕ) (plan : Plan) (ground : Ground) (journal : List Line) (before after : ℕ → ℕ → List Kept) (phase place : ℕ) → KeepsDone phase place before after →
    HasCome size plan ground journal before phase place → HasCome size plan ground journal after phase place
same size plan ground journal before after phase place keeps come = record {
  fits = come.fits;
  runs = come.runs;
  rise = come.rise;
  upto = come.upto;
  ahead = come.ahead;
  faultless = come.faultless;
  has_kept = λ earlier session done. subst (λ (kept : List Kept). WasKept size plan ground journal earlier session kept) (sym (keeps earlier session done)) (come.has_kept earlier session done);
}

pub turns_make_runs : (size : ℕ) → TurnsMakeRuns size
turns_make_runs size = record { starts = starts size; same = same size; ready = ready size; turns = turns size; phases = phases size; ends = ends size }
