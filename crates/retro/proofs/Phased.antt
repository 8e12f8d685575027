-- That phases of sessions at seats of their own make a run.
use Rattle.std.proofs.Common.{◌≡◌, ◌≢◌, ◌⊎◌, ◌<◌, ◌≤◌, ◌+◌, ◌++◌, ◌==◌, ℕ, zero, suc, Bool, true, false, cond, List, [], ◌∷◌, length, Option, Some, None, Ok, inl, inr, refl, ap, sym, subst, ◌∙◌, append-nil, append_assoc, arith}
use Rattle.std.proofs.Math.Path.{fun_ext}
use Rattle.std.proofs.lemmas.Bool.Decides.{nat_tests}
use Rattle.std.proofs.lemmas.List.{append_cancel_left}
use Rattle.std.proofs.lemmas.List.Elements.{filter-append}
use Rattle.std.proofs.lemmas.Option.{slice_get_past}
use Rattle.std.specs.List.{AllByRecursion}
use Rattle.retro_base.specs.declared.device.Device.{Device}
use Rattle.retro_base.specs.declared.who.Who.{Who}
use Rattle.history.specs.declared.journal.Line.{Line}
use Rattle.history.specs.Lines.{lines_of}
use Rattle.journal_law.specs.Facts.{AllFit, AreOthers, HasSeen, OwnFit, SessionFits}
use Rattle.journal_law.specs.Language.{Kind, Language}
use Rattle.journal_law.specs.Language as kinds
use Rattle.journal_law.specs.Laws.{IsClosed}
use Rattle.journal_law.specs.Lawful.{Ground, HasRuns, IsCut, IsRun, ItemsRise, Opening, PhasesRise}
use Rattle.journal_law.specs.Own.{own}
use Rattle.journal_law.specs.Pages.{Pages}
use Rattle.journal_law.specs.Seats.{View, Waits}
use Rattle.journal_law.specs.Shows.{MarksShow, Shows, ShowsAlong}
use Rattle.journal_law.specs.World.{Mark, World, newest, newest_behind}
use Rattle.journal_law.proofs.Journal.{along_front, law, lines_of_seen, own_lines}
use Rattle.journal_law.proofs.Seating.{waits}
use Rattle.session.specs.Plan.{EndsAt, Plan, item_of, names_at, numbered, tasks_at}
use Rattle.session.specs.Replies.{SaysWanting, kept_by, kept_by_place, kept_in, known_by, printed, starting, wanting_by, who_is}
use Rattle.session.specs.Run.{AreKept, HasKept, HasRun, IsBefore, IsBehind, OfPhase, RunIsLawful, SessionLeft, WasKept}
use Rattle.session.specs.Sql.{sql}
use Rattle.session.specs.declared.kept.Kept.{Kept}
use Rattle.session.specs.declared.plan.SessionPlan.{SessionPlan}
use Rattle.session.specs.declared.plan.Task.{Task}
use Rattle.session.proofs.Runs.{law_of_runs}
use Rattle.store.proofs.WorkerEnds.{all_append}
use Rattle.retro.specs.Phases.{AllMet, HasComeTo, HaveRun, HaveSeats, IsFresh, IsOfSeats, KeepsNoMore, KeptBefore, LeavesJournal, LeftLawful, PhasesMakeRuns, RanOver, RepliedOver, StandTogether, StandsBefore, WereKept}
use Rattle.retro.proofs.Replied.{journal_tells}

-- ---- lists of lines

all_front : (P : Line → Type 0) (xs ys : List Line) → AllByRecursion P (xs ++ ys) → AllByRecursion P xs
all_front P [] ys all = tt
all_front P (x ∷ xs) ys all = (all.0, all_front P xs ys all.1)

all_rest : (P : Line → Type 0) (xs ys : List Line) → AllByRecursion P (xs ++ ys) → AllByRecursion P ys
all_rest P [] ys all = all
all_rest P (x ∷ xs) ys all = all_rest P xs ys all.1

pub all_so : (P Q : Line → Type 0) → ((line : Line) → P line → Q line) → (lines : List Line) → AllByRecursion P lines → AllByRecursion Q lines
all_so P Q so [] all = tt
all_so P Q so (line ∷ lines) all = (so line all.0, all_so P Q so lines all.1)

-- lines of this phase behind lines of this one and earlier ones
rise_append : (phase : ℕ) (xs ys : List Line) → PhasesRise xs → AllByRecursion (λ (line : Line). line.who.phase < phase + 1) xs → AllByRecursion (λ (line : Line). line.who.phase ≡ phase) ys → PhasesRise (xs ++ ys)
rise_append phase [] [] rise before at = tt
rise_append phase [] (y ∷ ys) rise before at =
    (all_so (λ (line : Line). line.who.phase ≡ phase) (λ (later : Line). y.who.phase ≤ later.who.phase) (λ line is. omega (arith, is, at.0)) ys at.1, rise_append phase [] ys rise before at.1)
rise_append phase (x ∷ xs) ys rise before at = (
  all_append (λ (later : Line). x.who.phase ≤ later.who.phase) xs ys rise.0
      (all_so (λ (line : Line). line.who.phase ≡ phase) (λ (later : Line). x.who.phase ≤ later.who.phase) (λ line is. omega (arith, is, before.0)) ys at),
  rise_append phase xs ys rise.1 before.1 at,
)

-- of lines of the seats alone, what is so of the lines of each seat
of_seats : (seats : ℕ) (P : Line → Type 0) (lines : List Line) → AllByRecursion (IsOfSeats seats) lines → ((number : ℕ) → number < seats → AllByRecursion (λ (line : Line). line.who.session ≡ number → P line) lines)
    → AllByRecursion P lines
of_seats seats P [] of each = tt
of_seats seats P (line ∷ lines) of each = ((each line.who.session of.0).0 refl, of_seats seats P lines of.1 (λ number less. (each number less).1))

pub less_or_not : (a b : ℕ) → (a < b) ⊎ (b ≤ a)
less_or_not a zero = inr (omega arith)
less_or_not zero (suc b) = inl (omega arith)
less_or_not (suc a) (suc b) = by_rest (less_or_not a b)
  where
    by_rest : (a < b) ⊎ (b ≤ a) → (suc a < suc b) ⊎ (suc b ≤ suc a)
    by_rest (inl less) = inl (omega (arith, less))
    by_rest (inr more) = inr (omega (arith, more))

pub none_of : (number : ℕ) (lines : List Line) → lines_of number lines ≡ [] → AreOthers number lines
none_of number [] none = tt
none_of number (line ∷ lines) none = by_test (line.who.session == number) refl (λ rest. none_of number lines rest)
  where
    some_line : line ∷ lines_of number lines ≡ [] → ⊥
    some_line e = cc

    by_test : (is : Bool) → (line.who.session == number) ≡ is → (lines_of number lines ≡ [] → AreOthers number lines) → AreOthers number (line ∷ lines)
    by_test true e on = absurd (some_line (subst (λ (b : Bool). cond b (line ∷ lines_of number lines) (lines_of number lines) ≡ []) e none))
    by_test false e on = (λ mine. grind (arith, nat_tests, e, mine), on (subst (λ (b : Bool). cond b (line ∷ lines_of number lines) (lines_of number lines) ≡ []) e none))

-- lines with no more of its number
pub seen : (number : ℕ) (front rest journal : List Line) → front ++ rest ≡ journal → lines_of number front ≡ lines_of number journal → HasSeen number front journal
seen number front rest journal whole same = record {
  rest = rest;
  whole = sym whole;
  others = none_of number rest (append_cancel_left (lines_of number front) (lines_of number rest) []
      (sym (filter-append (λ line. line.who.session == number) front rest) ∙ ap (lines_of number) whole ∙ sym same ∙ sym (append-nil (lines_of number front))));
}

-- each line has the number of a seat
of_some : (seats : ℕ) (lines : List Line) → ((number : ℕ) → seats ≤ number → AreOthers number lines) → AllByRecursion (IsOfSeats seats) lines
of_some seats [] none = tt
of_some seats (line ∷ lines) none = (by_number (less_or_not line.who.session seats), of_some seats lines (λ number more. (none number more).1))
  where
    by_number : (line.who.session < seats) ⊎ (seats ≤ line.who.session) → line.who.session < seats
    by_number (inl less) = less
    by_number (inr more) = absurd ((none line.who.session more).0 refl)

-- lines of nobody
none_at_all : (lines : List Line) → ((number : ℕ) → AreOthers number lines) → lines ≡ []
none_at_all [] none = refl
none_at_all (line ∷ lines) none = absurd ((none line.who.session).0 refl)

-- ---- what a session knows of its lines it knows while others add lines

module _ (size : ℕ) (plan : Plan) where
  runs_on : (session : ℕ) (lines more : List Line) → HasRuns (sql size) (item_of plan) session lines → AreOthers session more → HasRuns (sql size) (item_of plan) session (lines ++ more)
  runs_on session lines more runs others =
      let seen : HasSeen session lines (lines ++ more) = record { rest = more; whole = refl; others = others } in
      let same : (who : Who) → who.session ≡ session → own who (lines ++ more) ≡ own who lines =
      λ who mine. own_lines (lines ++ more) lines who (subst (λ (s : ℕ). HasSeen s lines (lines ++ more)) (sym mine) seen) in
      record {
        order = subst ItemsRise (sym (lines_of_seen session (lines ++ more) lines seen)) runs.order;
        runs = λ who item mine is. subst (IsRun ((sql size).kind item)) (sym (same who mine)) (runs.runs who item mine is);
        cut = λ who later item mine is cut phase of_session behind.
            same later of_session ∙ runs.cut who later item mine is (subst (IsCut ((sql size).kind item)) (same who mine) cut) phase of_session behind;
      }

  pub run_none : (kind : Kind) → IsRun kind []
  run_none (kinds.Transaction end) = (tt, omega arith)
  run_none kind = tt

  no_runs : (session : ℕ) → HasRuns (sql size) (item_of plan) session []
  no_runs session = record { order = tt; runs = λ who item mine is. run_none ((sql size).kind item); cut = λ who later item mine is cut phase of_session behind. refl }

  -- to a seat that has run its session come lines of others
  pub left_on : (phase : ℕ) (old new met : View) → SessionLeft size plan phase old new → Waits new met new.work → SessionLeft size plan phase old met
  left_on phase old new met left waits_there =
      let moves = waits_there.moves in
      let front : met.front ≡ new.front ++ moves.others = moves.front ∙ append-nil (new.front ++ moves.others) in
      record {
        session = moves.session ∙ left.session;
        opened = moves.opened ∙ left.opened;
        more = left.more ++ moves.others;
        front = front ∙ ap (λ (ls : List Line). ls ++ moves.others) left.front ∙ append_assoc old.front left.more moves.others;
        of_phase = all_append (OfPhase phase old.session) left.more moves.others left.of_phase
            (all_so (λ (line : Line). line.who.session ≢ new.session) (OfPhase phase old.session) (λ line other mine. absurd (other (mine ∙ sym left.session))) moves.others moves.apart);
        idle = waits_there.work_is ∙ left.idle;
        fits = waits (sql size) (item_of plan) new met moves left.fits;
        runs = rw (moves.session, front) (runs_on new.session new.front moves.others left.runs moves.apart);
      }

  module _ (ground : Ground) where
    -- nothing is kept of a session that is not there
    pub kept_none : (phase session : ℕ) (lines : List Line) (kept : List Kept) → tasks_at plan phase session ≡ [] → kept ≡ [] → WasKept size plan ground lines phase session kept
    kept_none phase session lines kept none is wanting says = record {
      front = lines;
      rest = [];
      whole = sym (append-nil lines);
      later = tt;
      is_kept = λ tables along. is ∙ sym (ap (λ (tasks : List Task). kept_by size (λ (number : ℕ). known_by size plan wanting tables lines (who_is phase session number)) (names_at plan phase) starting 1 tasks) none);
    }

    pub kept_on : (phase session : ℕ) (lines more : List Line) (kept : List Kept) → AllByRecursion (IsBehind phase session) more → WasKept size plan ground lines phase session kept
        → WasKept size plan ground (lines ++ more) phase session kept
    kept_on phase session lines more kept later was wanting says =
        let has : HasKept size plan wanting ground lines phase session kept = was wanting says in
        record {
          front = has.front;
          rest = has.rest ++ more;
          whole = ap (λ (ls : List Line). ls ++ more) has.whole ∙ append_assoc has.front has.rest more;
          later = all_append (IsBehind phase session) has.rest more has.later later;
          is_kept = has.is_kept;
        }

    -- and of a session that is not there, whatever lines come
    pub kept_idle : (phase session : ℕ) (lines more : List Line) (kept : List Kept) → tasks_at plan phase session ≡ [] → WasKept size plan ground lines phase session kept
        → WasKept size plan ground (lines ++ more) phase session kept
    kept_idle phase session lines more kept none was wanting says =
        let has : HasKept size plan wanting ground lines phase session kept = was wanting says in
        let whole : lines ++ more ≡ has.front ++ (has.rest ++ more) = ap (λ (ls : List Line). ls ++ more) has.whole ∙ append_assoc has.front has.rest more in
        record {
          front = lines ++ more;
          rest = [];
          whole = sym (append-nil (lines ++ more));
          later = tt;
          is_kept = λ tables along.
              has.is_kept tables (along_front (sql size) (item_of plan) ground.pages tables has.front (has.rest ++ more) (subst (ShowsAlong (sql size) (item_of plan) ground.pages tables) whole along))
              ∙ nothing tables has.front ∙ sym (nothing tables (lines ++ more));
        }
      where
        nothing : (tables : World (sql size).Tables) (front : List Line) → kept_in size (known_by size plan wanting tables front) plan phase session ≡ []
        nothing tables front = ap (λ (tasks : List Task). kept_by size (λ (number : ℕ). known_by size plan wanting tables front (who_is phase session number)) (names_at plan phase) starting 1 tasks) none

    pub others_behind : (phase session : ℕ) (lines : List Line) → AreOthers session lines → AllByRecursion (IsBehind phase session) lines
    others_behind phase session lines others = all_so (λ (line : Line). line.who.session ≢ session) (IsBehind phase session) (λ line other mine. absurd (other mine)) lines others

    -- ---- a session at its seat

    pub runs : (phase number : ℕ) (front : List Line) (old new : View) (kept : List Kept) → StandsBefore size plan ground phase number front old → SessionLeft size plan phase old new
        → AreKept {E = Unit {0}} size plan phase new (Ok kept) → WasKept size plan ground new.front phase number kept
    runs phase number front old new kept stands left replies wanting says = record {
      front = new.front;
      rest = [];
      whole = sym (append-nil new.front);
      later = tt;
      is_kept = λ tables along. kept_there tables (sym (left.session ∙ stands.number_is)) (sym (left.opened ∙ stands.ground_is)) along;
    }
      where
        kept_there : (tables : World (sql size).Tables) → number ≡ new.session → ground ≡ new.opened → ShowsAlong (sql size) (item_of plan) ground.pages tables new.front
            → kept ≡ kept_in size (known_by size plan wanting tables new.front) plan phase number
        kept_there tables seat store along =
            replies wanting (subst (λ (s : ℕ). SaysWanting wanting phase s kept) seat says) tables (subst (λ (g : Ground). ShowsAlong (sql size) (item_of plan) g.pages tables new.front) store along)
            ∙ ap (λ (s : ℕ). kept_in size (known_by size plan wanting tables new.front) plan phase s) (sym seat)

    pub stays : (phase number : ℕ) (front : List Line) (view : View) → StandsBefore size plan ground phase number front view → SessionLeft size plan phase view view
    stays phase number front view stands = record {
      session = refl;
      opened = refl;
      more = [];
      front = sym (append-nil view.front);
      of_phase = tt;
      idle = stands.ready.idle;
      fits = stands.ready.fits;
      runs = stands.ready.runs;
    }

    -- ---- the beginning

    pub starts : (seats : ℕ) (views : ℕ → View) → ((number : ℕ) → number < seats → IsFresh ground number (views number)) → StandTogether size plan ground seats 1 [] views
    starts seats views fresh = record {
      each = λ number less.
          let is = fresh number less in
          record {
            number_is = is.number_is;
            ground_is = is.ground_is;
            front_is = is.none;
            ready = record {
              idle = is.idle;
              fits = rw is.none tt;
              runs = rw is.none (no_runs (views number).session);
              earlier = rw is.none tt;
            };
          };
      rise = λ of. tt;
    }

    pub begins : (seats : ℕ) (front : List Line) (kept : ℕ → ℕ → List Kept) (views : ℕ → View) → ((phase session : ℕ) → kept phase session ≡ []) → StandTogether size plan ground seats 1 front views
        → HasComeTo size plan ground seats 1 kept views
    begins seats front kept views none together = record {
      front = front;
      together = together;
      has_kept = first;
      no_more = λ later number past. none later number;
    }
      where
        first : KeptBefore size plan ground seats 1 front kept
        first zero number less seated = kept_none 0 number front (kept 0 number) refl (none 0 number)
        first (suc earlier) number less seated = absurd (omega (arith, less))

    -- ---- a phase

    -- who stands before a phase stands before later ones
    pub later : (seats phase behind : ℕ) (front : List Line) (views : ℕ → View) → phase ≤ behind → StandTogether size plan ground seats phase front views → StandTogether size plan ground seats behind front views
    later seats phase behind front views le together = record {
      each = λ number less.
          let was = together.each number less in
          record {
            number_is = was.number_is;
            ground_is = was.ground_is;
            front_is = was.front_is;
            ready = record {
              idle = was.ready.idle;
              fits = was.ready.fits;
              runs = was.ready.runs;
              earlier = all_so (IsBefore phase (views number).session) (IsBefore behind (views number).session) (λ line before mine. let b = before mine in omega (arith, b, le)) (views number).front was.ready.earlier;
            };
          };
      rise = together.rise;
    }

    module _ (seats phase : ℕ) (front next : List Line) (old new met : ℕ → View) (ran : HaveRun size plan seats phase old new) (all_met : AllMet seats new met next) (together : StandTogether size plan ground seats (phase + 1) front old) where
      left : (number : ℕ) → number < seats → SessionLeft size plan phase (old number) (met number)
      left number less = left_on phase (old number) (new number) (met number) (ran number less) (all_met number less).0

      -- the lines that have come in the phase
      since : (number : ℕ) (less : number < seats) → next ≡ front ++ (left number less).more
      since number less = sym (all_met number less).1 ∙ (left number less).front ∙ ap (λ (ls : List Line). ls ++ (left number less).more) (together.each number less).front_is

      of_phase : (number : ℕ) (less : number < seats) → AllByRecursion (OfPhase phase number) (left number less).more
      of_phase number less = subst (λ (s : ℕ). AllByRecursion (OfPhase phase s) (left number less).more) (together.each number less).number_is (left number less).of_phase

      stands : (number : ℕ) → number < seats → StandsBefore size plan ground (phase + 1) number next (met number)
      stands number less =
          let was = together.each number less in
          let here = left number less in
          let is : (met number).session ≡ number = here.session ∙ was.number_is in
          record {
            number_is = is;
            ground_is = here.opened ∙ was.ground_is;
            front_is = (all_met number less).1;
            ready = record {
              idle = here.idle;
              fits = here.fits;
              runs = here.runs;
              earlier = rw (here.session, here.front) (all_append (IsBefore (phase + 1) (old number).session) (old number).front here.more
                  was.ready.earlier
                  (all_so (OfPhase phase (old number).session) (IsBefore (phase + 1) (old number).session) (λ line at mine. omega (arith, at mine)) here.more here.of_phase));
            };
          }

      before_phase : AllByRecursion (IsOfSeats seats) front → AllByRecursion (λ (line : Line). line.who.phase < phase + 1) front
      before_phase of = of_seats seats (λ (line : Line). line.who.phase < phase + 1) front of (λ number less.
          let was = together.each number less in
          subst (λ (s : ℕ). AllByRecursion (IsBefore (phase + 1) s) front) was.number_is (subst (AllByRecursion (IsBefore (phase + 1) (old number).session)) was.front_is was.ready.earlier))

      rise_by : (some : ℕ) → some < seats → AllByRecursion (IsOfSeats seats) next → PhasesRise next
      rise_by some less of =
          let more = (left some less).more in
          let split : AllByRecursion (IsOfSeats seats) (front ++ more) = subst (AllByRecursion (IsOfSeats seats)) (since some less) of in
          let first = all_front (IsOfSeats seats) front more split in
          subst PhasesRise (sym (since some less)) (rise_append phase front more (together.rise first) (before_phase first)
          (of_seats seats (λ (line : Line). line.who.phase ≡ phase) more (all_rest (IsOfSeats seats) front more split)
          (λ number within. subst (AllByRecursion (OfPhase phase number)) (append_cancel_left front (left number within).more more (sym (since number within) ∙ since some less)) (of_phase number within))))

      rise : AllByRecursion (IsOfSeats seats) next → PhasesRise next
      rise of = by_line next refl of
        where
          by_line : (lines : List Line) → next ≡ lines → AllByRecursion (IsOfSeats seats) lines → PhasesRise next
          by_line [] e all = rw e tt
          by_line (line ∷ lines) e all = rise_by line.who.session all.0 of

      pub stand_after : StandTogether size plan ground seats (phase + 1) next met
      stand_after = record { each = stands; rise = rise }

      kept_in_phase : (number : ℕ) (less : number < seats) (kept : List Kept) → WasKept size plan ground (new number).front phase number kept → WasKept size plan ground next phase number kept
      kept_in_phase number less kept was =
          let moves = (all_met number less).0.moves in
          let mine : (new number).session ≡ number = (ran number less).session ∙ (together.each number less).number_is in
          let whole : next ≡ (new number).front ++ moves.others = sym (all_met number less).1 ∙ moves.front ∙ append-nil ((new number).front ++ moves.others) in
          subst (λ (ls : List Line). WasKept size plan ground ls phase number kept) (sym whole)
          (kept_on phase number (new number).front moves.others kept (others_behind phase number moves.others (subst (λ (s : ℕ). AreOthers s moves.others) mine moves.apart)) was)

      kept_before : (earlier number : ℕ) (kept : List Kept) → earlier < phase → (less : number < seats) → WasKept size plan ground front earlier number kept → WasKept size plan ground next earlier number kept
      kept_before earlier number kept before less was =
          subst (λ (ls : List Line). WasKept size plan ground ls earlier number kept) (sym (since number less))
          (kept_on earlier number front (left number less).more kept
          (all_so (OfPhase phase number) (IsBehind earlier number) (λ line at mine. omega (arith, at mine, before)) (left number less).more (of_phase number less)) was)

    pub stand_behind : (seats phase : ℕ) (front next : List Line) (old new met : ℕ → View) → HaveRun size plan seats phase old new → AllMet seats new met next → StandTogether size plan ground seats phase front old
        → StandTogether size plan ground seats (phase + 1) next met
    stand_behind seats phase front next old new met ran all_met together = stand_after seats phase front next old new met ran all_met (later seats phase (phase + 1) front old (omega arith) together)

    pub on : (seats phase : ℕ) (next : List Line) (before after : ℕ → ℕ → List Kept) (old new met : ℕ → View) → HaveRun size plan seats phase old new → AllMet seats new met next →
        WereKept size plan ground seats phase new (after phase) → ((earlier : ℕ) → earlier < phase → after earlier ≡ before earlier) → KeepsNoMore seats (phase + 1) after →
        HasComeTo size plan ground seats phase before old → HasComeTo size plan ground seats (phase + 1) after met
    on seats phase next before after old new met ran all_met were same no_more come = record {
      front = next;
      together = stand_behind seats phase come.front next old new met ran all_met come.together;
      has_kept = λ earlier number less seated. by_phase earlier number seated less (less_or_not earlier phase);
      no_more = no_more;
    }
      where
        together_later : StandTogether size plan ground seats (phase + 1) come.front old
        together_later = later seats phase (phase + 1) come.front old (omega arith) come.together

        by_phase : (earlier number : ℕ) → number < seats → earlier < phase + 1 → (earlier < phase) ⊎ (phase ≤ earlier) → WasKept size plan ground next earlier number (after earlier number)
        by_phase earlier number seated less (inl past) = subst (λ (of : ℕ → List Kept). WasKept size plan ground next earlier number (of number)) (sym (same earlier past))
            (kept_before seats phase come.front next old new met ran all_met together_later earlier number (before earlier number) past seated (come.has_kept earlier number past seated))
        by_phase earlier number seated less (inr now) =
            let is : phase ≡ earlier = omega (arith, less, now) in
            subst (λ (p : ℕ). WasKept size plan ground next p number (after p number)) is
            (kept_in_phase seats phase come.front next old new met ran all_met together_later number seated (after phase number) (were number seated))

    -- ---- the end

    module _ (ending : Device → ℕ) (seats phase : ℕ) (front journal : List Line) (views : ℕ → View) (leaves : LeavesJournal ending seats views journal) (together : StandTogether size plan ground seats phase front views) where
      -- what a seat has not seen is of no session
      nothing_more : (some : ℕ) → some < seats → journal ≡ front
      nothing_more some less =
          let seen = leaves.each some less in
          let whole : journal ≡ front ++ seen.rest = seen.whole ∙ ap (λ (ls : List Line). ls ++ seen.rest) (together.each some less).front_is in
          let of_seat : (number : ℕ) → number < seats → AreOthers number seen.rest = λ number within.
          let theirs = leaves.each number within in
          let also : journal ≡ front ++ theirs.rest = theirs.whole ∙ ap (λ (ls : List Line). ls ++ theirs.rest) (together.each number within).front_is in
          subst (AreOthers number) (append_cancel_left front theirs.rest seen.rest (sym also ∙ whole)) theirs.others in
          let of_none : (number : ℕ) → seats ≤ number → AreOthers number seen.rest = λ number past.
          all_rest (λ (line : Line). line.who.session ≢ number) front seen.rest (subst (AreOthers number) whole (none_of number journal (leaves.foreign number past))) in
          whole ∙ ap (λ (ls : List Line). front ++ ls) (none_at_all seen.rest (λ number. by_number seen.rest number of_seat of_none (less_or_not number seats))) ∙ append-nil front
        where
          by_number : (lines : List Line) (number : ℕ) → ((n : ℕ) → n < seats → AreOthers n lines) → ((n : ℕ) → seats ≤ n → AreOthers n lines) → (number < seats) ⊎ (seats ≤ number) → AreOthers number lines
          by_number lines number of_seat of_none (inl less) = of_seat number less
          by_number lines number of_seat of_none (inr past) = of_none number past

      rises : (lines : List Line) → journal ≡ lines → AllByRecursion (IsOfSeats seats) lines → PhasesRise lines
      rises [] e of = tt
      rises (line ∷ lines) e of =
          let same : line ∷ lines ≡ front = sym e ∙ nothing_more line.who.session of.0 in
          subst PhasesRise (sym same) (together.rise (subst (AllByRecursion (IsOfSeats seats)) same of))

      pub all_fit : AllFit (sql size) (item_of plan) ground journal
      all_fit session = by_number (less_or_not session seats)
        where
          by_number : (session < seats) ⊎ (seats ≤ session) → SessionFits (sql size) (item_of plan) ground session journal
          by_number (inl less) =
              let stands = together.each session less in
              record {
                front = (views session).front;
                seen = leaves.each session less;
                fits = subst (λ (g : Ground). OwnFit (sql size) (item_of plan) g session [] (views session).front) stands.ground_is
                    (subst (λ (s : ℕ). OwnFit (sql size) (item_of plan) (views session).opened s [] (views session).front) stands.number_is stands.ready.fits);
                runs = subst (λ (s : ℕ). HasRuns (sql size) (item_of plan) s (views session).front) stands.number_is stands.ready.runs;
              }
          by_number (inr past) = record {
            front = [];
            seen = record { rest = journal; whole = refl; others = none_of session journal (leaves.foreign session past) };
            fits = tt;
            runs = no_runs session;
          }

      pub closes : IsClosed ending journal
      closes = record {
        phases = rises journal refl (of_some seats journal (λ number past. none_of number journal (leaves.foreign number past)));
        differ = leaves.differ;
        counted = leaves.counted;
      }

pub no_phase : (plan : Plan) (phase session : ℕ) → length plan < phase → tasks_at plan phase session ≡ []
no_phase plan zero session past = absurd (omega (arith, past))
no_phase plan (suc phase) session past = rw (slice_get_past plan phase (omega (arith, past))) refl

-- where all phases have run, later ones have
pub come_later : (size : ℕ) (plan : Plan) (ground : Ground) (seats phase behind : ℕ) (kept : ℕ → ℕ → List Kept) (views : ℕ → View) → length plan < phase → phase ≤ behind
    → HasComeTo size plan ground seats phase kept views → HasComeTo size plan ground seats behind kept views
come_later size plan ground seats phase behind kept views past le come = record {
  front = come.front;
  together = later size plan ground seats phase behind come.front views le come.together;
  has_kept = λ earlier number less seated. by_phase earlier number seated (less_or_not earlier phase);
  no_more = λ number session more. by_more number session more;
}
  where
    by_phase : (earlier number : ℕ) → number < seats → (earlier < phase) ⊎ (phase ≤ earlier) → WasKept size plan ground come.front earlier number (kept earlier number)
    by_phase earlier number seated (inl before) = come.has_kept earlier number before seated
    by_phase earlier number seated (inr now) = kept_none size plan ground earlier number come.front (kept earlier number) (no_phase plan earlier number (omega (arith, past, now))) (come.no_more earlier number (inl now))

    by_more : (number session : ℕ) → (behind ≤ number) ⊎ (seats ≤ session) → kept number session ≡ []
    by_more number session (inl far) = come.no_more number session (inl (omega (arith, le, far)))
    by_more number session (inr none) = come.no_more number session (inr none)

pub no_session : (plan : Plan) (phase place session : ℕ) → EndsAt plan phase place → place ≤ session → tasks_at plan phase session ≡ []
no_session plan phase place session ends behind = by_phase (numbered plan phase) refl
  where
    by_phase : (found : Option (List SessionPlan)) → numbered plan phase ≡ found → tasks_at plan phase session ≡ []
    by_phase None e = rw e refl
    by_phase (Some sessions) e = rw (e, slice_get_past sessions session (omega (arith, ends sessions e, behind))) refl

pub ends_at : (plan : Plan) (seats phase : ℕ) → HaveSeats plan seats → EndsAt plan phase seats
ends_at plan seats zero seated sessions is = absurd (nothing is)
  where
    nothing : None ≡ Some sessions → ⊥
    nothing e = cc
ends_at [] seats (suc phase) seated sessions is = absurd (nothing is)
  where
    nothing : None ≡ Some sessions → ⊥
    nothing e = cc
ends_at (one ∷ plan) seats (suc zero) seated sessions is = subst (λ (found : List SessionPlan). length found ≤ seats) (same is) seated.0
  where
    same : Some one ≡ Some sessions → one ≡ sessions
    same e = cc
ends_at (one ∷ plan) seats (suc (suc phase)) seated sessions is = ends_at plan seats (suc phase) seated.1 sessions is

pub ends : (size : ℕ) (plan : Plan) (ground : Ground) (ending : Device → ℕ) (seats phase : ℕ) (journal : List Line) (kept : ℕ → ℕ → List Kept) (views : ℕ → View) → length plan < phase → HaveSeats plan seats →
    LeavesJournal ending seats views journal → HasComeTo size plan ground seats phase kept views → HasRun size plan (wanting_by kept) ground ending journal kept
ends size plan ground ending seats phase journal kept views past seated leaves come = record {
  fit = all_fit size plan ground ending seats phase come.front journal views leaves come.together;
  closed = closes size plan ground ending seats phase come.front journal views leaves come.together;
  has_kept = λ earlier session. by_place earlier session (less_or_not earlier phase) (less_or_not session seats) (wanting_by kept) (λ number. refl);
}
  where
    by_place : (earlier session : ℕ) → (earlier < phase) ⊎ (phase ≤ earlier) → (session < seats) ⊎ (seats ≤ session) → WasKept size plan ground journal earlier session (kept earlier session)
    by_place earlier session (inl before) (inl less) =
        let seen = leaves.each session less in
        let whole : journal ≡ come.front ++ seen.rest = seen.whole ∙ ap (λ (ls : List Line). ls ++ seen.rest) (come.together.each session less).front_is in
        subst (λ (ls : List Line). WasKept size plan ground ls earlier session (kept earlier session)) (sym whole)
        (kept_on size plan ground earlier session come.front seen.rest (kept earlier session) (others_behind size plan ground earlier session seen.rest seen.others) (come.has_kept earlier session before less))
    by_place earlier session (inr behind) seat = kept_none size plan ground earlier session journal (kept earlier session) (no_phase plan earlier session (omega (arith, past, behind))) (come.no_more earlier session (inl behind))
    by_place earlier session (inl before) (inr none) = kept_none size plan ground earlier session journal (kept earlier session) (no_session plan earlier seats session (ends_at plan seats earlier seated) none) (come.no_more earlier session (inr none))

-- pages that hold tables have the same snapshots
newest_same : (L : Language) (pages : World Pages) (tables : World L.Tables) → Shows L pages tables → newest pages ≡ newest tables
newest_same L pages tables shows = by_marks 0 pages.marks tables.marks shows.marks
  where
    by_marks : (number : ℕ) (ps : List (Mark Pages)) (ts : List (Mark L.Tables)) → MarksShow L ps ts → newest_behind number ps ≡ newest_behind number ts
    by_marks number [] [] shows = refl
    by_marks number [] (t ∷ ts) shows = absurd shows
    by_marks number (p ∷ ps) [] shows = absurd shows
    by_marks number (p ∷ ps) (t ∷ ts) shows = ap (λ (n : ℕ). newest_behind n ps) shows.0 ∙ by_marks t.number ps ts shows.3

pub left_lawful : (size : ℕ) (plan : Plan) (o : Opening (sql size)) (ending : Device → ℕ) (seats phase : ℕ) (front journal : List Line) (views : ℕ → View) → Shows (sql size) o.opened.pages o.tables →
    LeavesJournal ending seats views journal → StandTogether size plan o.opened seats phase front views → LeftLawful size plan o ending journal
left_lawful size plan o ending seats phase front journal views shown leaves together =
    let fit = all_fit size plan o.opened ending seats phase front journal views leaves together in
    record {
      shows = (law (sql size)).shows (item_of plan) o journal shown fit;
      lawful = (law (sql size)).lawful (item_of plan) o ending journal shown fit (closes size plan o.opened ending seats phase front journal views leaves together);
    }

pub replies : (size : ℕ) (plan : Plan) (o : Opening (sql size)) (ending : Device → ℕ) (seats phase : ℕ) (journal : List Line) (kept : ℕ → ℕ → List Kept) (views : ℕ → View) → Shows (sql size) o.opened.pages o.tables →
    length plan < phase → HaveSeats plan seats → LeavesJournal ending seats views journal → HasComeTo size plan o.opened seats phase kept views → RepliedOver size plan o ending journal kept
replies size plan o ending seats phase journal kept views shown past seated leaves come =
    let run = ends size plan o.opened ending seats phase journal kept views past seated leaves come in
    let is = law_of_runs size plan (wanting_by kept) o ending journal kept shown run in
    record {
      wanting = wanting_by kept;
      shown = shown;
      left = record { shows = is.shows; lawful = is.lawful };
      told = journal_tells size plan (wanting_by kept) o ending journal kept shown run;
    }

pub prints : (size : ℕ) (plan : Plan) (o : Opening (sql size)) (ending : Device → ℕ) (journal : List Line) (kept : ℕ → ℕ → List Kept) (text : List ℕ) → RepliedOver size plan o ending journal kept
    → text ≡ printed plan kept (newest o.opened.pages) journal → RanOver size plan o ending journal text
prints size plan o ending journal kept text replied is = record {
  wanting = replied.wanting;
  shown = replied.shown;
  lawful = record {
    shows = replied.left.shows;
    lawful = replied.left.lawful;
    is_text = is ∙ ap (λ (n : ℕ). printed plan kept n journal) (newest_same (sql size) o.opened.pages o.tables replied.shown)
        ∙ ap (λ (all : ℕ → ℕ → List Kept). printed plan all (newest o.tables) journal) (fun_ext (λ phase. fun_ext (replied.told phase)));
  };
}

pub phases_make_runs : (size : ℕ) → PhasesMakeRuns size
phases_make_runs size = record {
  starts = starts size;
  begins = begins size;
  runs = runs size;
  stays = stays size;
  none = λ plan ground phase number front none. kept_none size plan ground phase number front [] none refl;
  phases = λ plan ground seats phase front next old new met ran met_all together. stand_behind size plan ground seats phase front next old new met ran met_all together;
  on = on size;
  seen = seen;
  fits = λ plan ground ending seats phase front journal views leaves together.
      (all_fit size plan ground ending seats phase front journal views leaves together, closes size plan ground ending seats phase front journal views leaves together);
  ends = ends size;
  left = left_lawful size;
  replies = replies size;
  prints = prints size;
}
