-- A session's items, one step after the other.
use Rattle.std.proofs.Common.{◌≡◌, ◌⊎◌, ◌<◌, ◌≤◌, ◌+◌, ◌++◌, ◌==◌, ◌||◌, ℕ, Bool, true, false, List, [], ◌∷◌, length, Option, Some, None, Result, Ok, Err, OnOk, slice_get, get_or, take, refl, ap, sym, subst, ◌∙◌, inl, inr, append-nil, append_assoc, length-append, add-one, zero, suc, arith}
use Rattle.std.specs.List.{AllByRecursion}
use Rattle.std.specs.Result.{is_err}
use Rattle.std.proofs.lemmas.List.{length-take-le, take_more}
use Rattle.std.proofs.lemmas.Option.{slice_get_read}
use Rattle.std.specs.Option.{option_and_then, option_map, option_map_or}
use Rattle.std.proofs.lemmas.Bool.Decides.{nat_tests}
use Rattle.retro_base.specs.declared.who.Who.{Who}
use Rattle.tables.specs.Tables.{Tables}
use Rattle.history.specs.Sound.{same_item}
use Rattle.history.specs.declared.journal.Line.{Line}
use Rattle.history.specs.declared.journal.What.{What}
use Rattle.journal_law.specs.Lawful.{Ground, HasRuns, IsCut, IsRun}
use Rattle.journal_law.specs.Own.{own}
use Rattle.journal_law.specs.Seats.{Idle, View}
use Rattle.journal_law.specs.Shows.{ShowsAlong}
use Rattle.journal_law.specs.World.{World}
use Rattle.journal_law.proofs.Journal.{along_front, own_append}
use Rattle.session.specs.Held.{held}
use Rattle.session.specs.OneItem.{ItemRan, MayRun, OfItem}
use Rattle.session.specs.OneTask.{AnswersItem, IsDone}
use Rattle.session.specs.OverSnapshots.{results_asked}
use Rattle.session.specs.Plan.{Item, Plan, item_in_phase, item_of, names_at, names_of, numbered, tasks_at}
use Rattle.session.specs.Replies.{SaysWanting, is_cut, is_wanting, kept_by, known_by, starting, who_is}
use Rattle.session.specs.Run.{AreKept, IsBefore, IsReady, IsSessionOf, OfPhase, SessionLeft}
use Rattle.session.specs.SoFar.{GoesOn, IsBehind, IsEarlier, IsNew, KeptOf, Says, SoFar, Stepped, StepsOn, cuts, kept_as, with_kept}
use Rattle.session.specs.Sql.{kind_of, sql}
use Rattle.session.specs.declared.item.Done.{Done}
use Rattle.session.specs.declared.item.Done.TheVariants as done
use Rattle.session.specs.declared.kept.Kept.{Kept}
use Rattle.session.specs.declared.kept.Kept.TheVariants as kept
use Rattle.session.specs.declared.passing.Progress.{Progress}
use Rattle.session.specs.declared.plan.SessionPlan.{SessionPlan}
use Rattle.session.specs.declared.plan.Task.{Task}
use Rattle.session.proofs.Keeping.{IsKeptAs, done_kept, kept_not_run, kept_of_same, kept_run, says_all, says_more, told_whole}
use Rattle.session.proofs.Order.{all_append, all_map, cut_is, none_yet, own_apart, runs_on, same_is}
use Rattle.session.proofs.Runs.{known_stays}

-- ---- the start

no_item_zero : (plan : Plan) (who : Who) (item : Item) → item_of plan who ≡ Some item → who.item < 1 → ⊥
no_item_zero plan who item is less =
    let none : who.item ≡ 0 = omega (arith, less) in
    by_phase (numbered plan who.phase) (rw none at is)
  where
    by_phase : (sessions : Option (List SessionPlan)) → option_and_then (item_in_phase (record who { item = 0 })) sessions ≡ Some item → ⊥
    by_phase None e = cc
    by_phase (Some sessions) e = by_session (slice_get sessions who.session) e
      where
        by_session : (session : Option SessionPlan) → option_map {U = Item} (λ (task : Task). record { names = names_of sessions; task = task }) (option_and_then (λ (s : SessionPlan). numbered s.tasks 0) session) ≡ Some item → ⊥
        by_session None e = cc
        by_session (Some s) e = cc

pub starts : (size : ℕ) (plan : Plan) (phase : ℕ) (names : List (List ℕ)) (start : View) → start.opened.base.page_count ≡ size → IsReady size plan phase start
    → (progress : Progress) → IsNew progress → SoFar size plan phase names start start [] progress
starts size plan phase names start sized ready progress new = record {
  sized = sized;
  left = record {
    session = refl;
    opened = refl;
    more = [];
    front = sym (append-nil start.front);
    of_phase = tt;
    idle = ready.idle;
    fits = ready.fits;
    runs = ready.runs;
  };
  goes = λ _. record {
    earlier = all_map (IsBefore phase start.session) (IsEarlier phase start.session (0 + 1)) start.front (λ l before mine. inl (before mine)) ready.earlier;
    whole = λ who item here mine less is cut. no_item_zero plan who item is less;
  };
  counted = ap (λ (ks : List Kept). length ks) new.kept;
  kept = λ wanting says tables along. record {
    kept = new.kept;
    stopped = sym new.stopped;
    results = λ _ query. ap (results_asked query) (sym new.results);
  };
}

-- ---- one step

-- it is kept, or memory was wanting to keep it
pub stepped : {E : Type 0} (size : ℕ) (plan : Plan) (phase : ℕ) (names : List (List ℕ)) (start new : View) (tasks : List Task) (after expected : Progress) (r : Result (Unit {0}) E) → OnOk r (after ≡ expected)
    → SoFar size plan phase names start new tasks expected → SessionLeft size plan phase start new → Stepped size plan phase names start new tasks after r
stepped size plan phase names start new tasks after expected (Ok u) is so left = subst (SoFar size plan phase names start new tasks) (sym is) so
stepped size plan phase names start new tasks after expected (Err e) is so left = left

module _ (size : ℕ) (plan : Plan) (start old : View) (tasks : List Task) (before : Progress) (who : Who) (item : Item) (at : who.item ≡ length tasks + 1) (is : item_of plan who ≡ Some item) (so : SoFar size plan who.phase item.names start old tasks before) where
  counts : length (tasks ++ item.task ∷ []) + 1 ≡ who.item + 1
  counts = simp length-append (omega (arith, at))

  -- an item that is not run, since one was cut short
  pub steps_past : before.stopped ≡ true → SoFar size plan who.phase item.names start old (tasks ++ item.task ∷ []) (with_kept kept.NotRun before)
  steps_past stopped = record {
    sized = so.sized;
    left = so.left;
    goes = λ going. absurd (different (sym stopped ∙ going));
    counted = length-append before.kept (kept.NotRun ∷ []) ∙ ap (λ (n : ℕ). n + 1) so.counted ∙ sym (length-append tasks (item.task ∷ []));
    kept = λ wanting says tables along.
        let parts = says_more wanting who.phase start.session 1 before.kept kept.NotRun (1 + length before.kept) refl says in
        kept_not_run size item.names tasks item.task (λ (number : ℕ). known_by size plan wanting tables old.front (who_is who.phase start.session number)) before stopped (so.kept wanting parts.0 tables along);
  }
    where
      different : true ≡ false → ⊥
      different e = cc

  module _ (mine : who.session ≡ old.session) (going : before.stopped ≡ false) where
    goes_on : GoesOn plan who.phase start.session (length tasks + 1) old.front
    goes_on = so.goes going

    mine_start : who.session ≡ start.session
    mine_start = mine ∙ so.left.session

    earlier : AllByRecursion (IsEarlier who.phase who.session who.item) old.front
    earlier = rw (at, mine_start) goes_on.earlier

    pub may_run : old.work ≡ Idle → MayRun size plan who item old
    may_run idle = record {
      idle = idle;
      fits = so.left.fits;
      mine = mine;
      is = is;
      sized = so.sized;
      fresh = none_yet who.phase who.session who.item who old.front refl refl (omega arith) earlier;
    }

    module _ (new : View) (ran : ItemRan size plan who item old new) where
      run_now : IsRun (kind_of item.task) (own who (old.front ++ ran.more))
      run_now = subst (λ (lines : List Line). IsRun (kind_of item.task) (own who lines)) ran.front ran.is_run

      has : HasRuns (sql size) (item_of plan) who.session (old.front ++ ran.more)
      has = runs_on (sql size) (item_of plan) who item is old.front ran.more ran.of_item
          (subst (λ (s : ℕ). HasRuns (sql size) (item_of plan) s old.front) (sym mine) so.left.runs) earlier
          (λ other one here there less known cut. goes_on.whole other one here (there ∙ mine_start) (omega (arith, less, at)) known cut) run_now

      of_phase : AllByRecursion (OfPhase who.phase start.session) ran.more
      of_phase = all_map (OfItem who) (OfPhase who.phase start.session) ran.more (λ l of there. ap (λ (w : Who). w.phase) (of (there ∙ sym mine_start))) ran.of_item

      pub left_on : SessionLeft size plan who.phase start new
      left_on = record {
        session = ran.session ∙ so.left.session;
        opened = ran.opened ∙ so.left.opened;
        more = so.left.more ++ ran.more;
        front = ran.front ∙ ap (λ (lines : List Line). lines ++ ran.more) so.left.front ∙ append_assoc start.front so.left.more ran.more;
        of_phase = all_append (OfPhase who.phase start.session) so.left.more ran.more so.left.of_phase of_phase;
        idle = ran.idle;
        fits = ran.fits;
        runs = subst (λ (lines : List Line). HasRuns (sql size) (item_of plan) new.session lines) (sym ran.front) (subst (λ (s : ℕ). HasRuns (sql size) (item_of plan) s (old.front ++ ran.more)) (mine ∙ sym ran.session) has);
      }

      -- what is known of the items before it stays
      stays : (wanting : Who → Bool) (tables : World Tables) (number : ℕ) → 1 ≤ number → number < 1 + length tasks
          → known_by size plan wanting tables old.front (who_is who.phase start.session number) ≡ known_by size plan wanting tables new.front (who_is who.phase start.session number)
      stays wanting tables number from to =
          let other = who_is who.phase start.session number in
          let apart : other ≡ who → ⊥ = (λ same. let n : number ≡ who.item = ap (λ (w : Who). w.item) same in omega arith) in
          known_stays size plan wanting tables old.front ran.more other (own_apart who other ran.more (sym mine_start) apart ran.of_item)
          ∙ ap (λ (lines : List Line). known_by size plan wanting tables lines other) (sym ran.front)

      is_itself : who_is who.phase start.session (1 + length tasks) ≡ who
      is_itself =
          let number : 1 + length tasks ≡ who.item = omega (arith, at) in
          rw (number, ← mine_start) refl

      along_old : (tables : World Tables) → ShowsAlong (sql size) (item_of plan) new.opened.pages tables new.front → ShowsAlong (sql size) (item_of plan) old.opened.pages tables old.front
      along_old tables along =
          along_front (sql size) (item_of plan) old.opened.pages tables old.front ran.more
          (subst (λ (lines : List Line). ShowsAlong (sql size) (item_of plan) old.opened.pages tables lines) ran.front (rw ran.opened at along))

      -- it is another item of the session, by its number
      differs : (other : Who) → other.phase ≡ who.phase → other.session ≡ who.session → same_item other who ≡ false → other.item ≡ who.item → ⊥
      differs other here there apart same =
          let p : (other.phase == who.phase) ≡ true = grind (arith, nat_tests) in
          let s : (other.session == who.session) ≡ true = grind (arith, nat_tests) in
          let i : (other.item == who.item) ≡ true = grind (arith, nat_tests) in
          different (sym (rw (p, s, i) refl) ∙ apart)
        where
          different : true ≡ false → ⊥
          different e = cc

      none_cut : is_cut (kind_of item.task) (own who new.front) ≡ false → (other : Who) (one : Item) → other.phase ≡ who.phase → other.session ≡ start.session → other.item < who.item + 1 → item_of plan other ≡ Some one
          → IsCut (kind_of one.task) (own other new.front) → (same : Bool) → same_item other who ≡ same → ⊥
      none_cut whole other one here there less known cut true e =
          let same = same_is other who e in
          let found : item_of plan who ≡ Some one = subst (λ (w : Who). item_of plan w ≡ Some one) same known in
          let it : one ≡ item = cc in
          let mine_cut : IsCut (kind_of item.task) (own who new.front) = subst (λ (i : Item). IsCut (kind_of i.task) (own who new.front)) it (subst (λ (w : Who). IsCut (kind_of one.task) (own w new.front)) same cut) in
          different (sym (cut_is (kind_of item.task) (own who new.front) ran.is_run mine_cut) ∙ whole)
        where
          different : true ≡ false → ⊥
          different f = cc
      none_cut whole other one here there less known cut false e =
          let mine2 : other.session ≡ who.session = there ∙ sym mine_start in
          let apart : other.item ≡ who.item → ⊥ = differs other here mine2 e in
          let same : own other new.front ≡ own other old.front =
          ap (own other) ran.front ∙ own_append other old.front ran.more
          ∙ ap (λ (whats : List What). own other old.front ++ whats) (own_apart who other ran.more mine2 (λ f. apart (ap (λ (w : Who). w.item) f)) ran.of_item) ∙ append-nil (own other old.front) in
          goes_on.whole other one here there (omega (arith, at, less, apart)) known (subst (IsCut (kind_of one.task)) same cut)

      goes_then : (one : Done) → IsDone size plan who item (held before.results) new one → cuts one ≡ false → GoesOn plan who.phase start.session (length (tasks ++ item.task ∷ []) + 1) new.front
      goes_then done.CutShort told still = absurd (different still)
        where
          different : true ≡ false → ⊥
          different e = cc
      goes_then (done.Told text table) told still =
          let whole = told_whole size plan who item (held before.results) new (kind_of item.task) text refl told.0 in
          record {
            earlier = rw (counts, ran.front) (all_append (IsEarlier who.phase start.session (who.item + 1)) old.front ran.more
                (all_map (IsEarlier who.phase start.session (length tasks + 1)) (IsEarlier who.phase start.session (who.item + 1)) old.front further goes_on.earlier)
                (all_map (OfItem who) (IsEarlier who.phase start.session (who.item + 1)) ran.more here ran.of_item));
            whole = λ other one at_phase there less known cut. none_cut whole other one at_phase there (rw counts at less) known cut (same_item other who) refl;
          }
        where
          further : (l : Line) → IsEarlier who.phase start.session (length tasks + 1) l → IsEarlier who.phase start.session (who.item + 1) l
          further l is mine2 = by_case (is mine2)
            where
              by_case : (l.who.phase < who.phase) ⊎ ((l.who.phase ≡ who.phase) × (l.who.item < length tasks + 1)) → (l.who.phase < who.phase) ⊎ ((l.who.phase ≡ who.phase) × (l.who.item < who.item + 1))
              by_case (inl less) = inl less
              by_case (inr (same, less)) = inr (same, omega (arith, at, less))

          here : (l : Line) → OfItem who l → IsEarlier who.phase start.session (who.item + 1) l
          here l of mine2 =
              let same = of (mine2 ∙ sym mine_start) in
              let item_is : l.who.item ≡ who.item = ap (λ (w : Who). w.item) same in
              inr (ap (λ (w : Who). w.phase) same, omega (arith, item_is))

      kept_then : (one : Done) (after : Progress) → IsBehind one before after → IsDone size plan who item (held before.results) new one → (wanting : Who → Bool) → Says wanting who.phase start.session 1 after.kept → (tables : World Tables)
          → ShowsAlong (sql size) (item_of plan) new.opened.pages tables new.front → KeptOf size item.names (tasks ++ item.task ∷ []) (λ (number : ℕ). known_by size plan wanting tables new.front (who_is who.phase start.session number)) after
      kept_then one after behind told wanting says tables along =
          let parts = says_more wanting who.phase start.session 1 before.kept (kept_as one) (1 + length tasks) (ap (λ (n : ℕ). 1 + n) (sym so.counted)) (subst (Says wanting who.phase start.session 1) behind.kept says) in
          let says_one : wanting who ≡ is_wanting (kept_as one) = subst (λ (w : Who). wanting w ≡ is_wanting (kept_as one)) is_itself parts.1 in
          let now = kept_of_same size item.names tasks (λ (number : ℕ). known_by size plan wanting tables old.front (who_is who.phase start.session number))
          (λ (number : ℕ). known_by size plan wanting tables new.front (who_is who.phase start.session number)) before (stays wanting tables) (so.kept wanting parts.0 tables (along_old tables along)) in
          let facts : IsKeptAs size item (held before.results) (known_by size plan wanting tables new.front who) one = done_kept size plan who item (held before.results) new wanting tables one told along says_one in
          kept_run size item.names tasks item.task (λ (number : ℕ). known_by size plan wanting tables new.front (who_is who.phase start.session number)) before after one going now
          (subst (λ (w : Who). IsKeptAs size item (held before.results) (known_by size plan wanting tables new.front w) one) (sym is_itself) facts) behind

      -- an item that is run
      pub steps_on : (one : Done) (after : Progress) → IsBehind one before after → IsDone size plan who item (held before.results) new one → SoFar size plan who.phase item.names start new (tasks ++ item.task ∷ []) after
      steps_on one after behind told = record {
        sized = ap (λ (g : Ground). g.base.page_count) ran.opened ∙ so.sized;
        left = left_on;
        goes = λ still. goes_then one told (sym (behind.stopped ∙ ap (λ (b : Bool). b || cuts one) going) ∙ still);
        counted = ap (λ (ks : List Kept). length ks) behind.kept ∙ length-append before.kept (kept_as one ∷ []) ∙ ap (λ (n : ℕ). n + 1) so.counted ∙ sym (length-append tasks (item.task ∷ []));
        kept = kept_then one after behind told;
      }

      pub run_on : {E F : Type 0} (answered : Result Done E) (one : Done) (after : Progress) (r : Result (Unit {0}) F) → AnswersItem size plan who item (held before.results) new answered → answered ≡ Ok one → OnOk r (IsBehind one before after)
          → Stepped size plan who.phase item.names start new (tasks ++ item.task ∷ []) after r
      run_on {E} answered one after (Ok u) told is behind = steps_on one after behind (subst (λ (a : Result Done E). AnswersItem size plan who item (held before.results) new a) is told)
      run_on answered one after (Err why) told is behind = left_on

-- ---- the end

pub ends : (size : ℕ) (plan : Plan) (phase place : ℕ) (names : List (List ℕ)) (tasks : List Task) (start now : View) (progress : Progress) → place ≡ start.session → IsSessionOf plan phase place names tasks
    → SoFar size plan phase names start now tasks progress → AreKept {E = Unit {0}} size plan phase now (Ok progress.kept)
ends size plan phase place names tasks start now progress mine of so wanting says tables along =
    let says_start : SaysWanting wanting phase start.session progress.kept = subst (λ (s : ℕ). SaysWanting wanting phase s progress.kept) so.left.session says in
    let has = so.kept wanting (says_all wanting phase start.session progress.kept says_start) tables along in
    let there : place ≡ now.session = mine ∙ sym so.left.session in
    has.kept
    ∙ ap (λ (s : ℕ). kept_by size (λ (number : ℕ). known_by size plan wanting tables now.front (who_is phase s number)) names starting 1 tasks) (sym so.left.session)
    ∙ ap (λ (ns : List (List ℕ)). kept_by size (λ (number : ℕ). known_by size plan wanting tables now.front (who_is phase now.session number)) ns starting 1 tasks) (sym of.names_are)
    ∙ ap (kept_by size (λ (number : ℕ). known_by size plan wanting tables now.front (who_is phase now.session number)) (names_at plan phase) starting 1) (sym of.tasks_are ∙ ap (tasks_at plan phase) there)

-- ---- the items of a session

pub item_there : (plan : Plan) (phase place : ℕ) (names : List (List ℕ)) (tasks : List Task) (index : ℕ) (task : Task) → IsSessionOf plan phase place names tasks → slice_get tasks index ≡ Some task
    → item_of plan (who_is phase place (index + 1)) ≡ Some (record { names = names; task = task })
item_there plan phase place names tasks index task of at = rw add-one (by_phase (numbered plan phase) of.names_are of.tasks_are)
  where
    none : tasks ≡ [] → ⊥
    none e =
        let empty : slice_get {X = Task} [] index ≡ Some task = subst (λ (ts : List Task). slice_get ts index ≡ Some task) e at in
        no_item index empty
      where
        no_item : (i : ℕ) → slice_get {X = Task} [] i ≡ Some task → ⊥
        no_item zero f = cc
        no_item (suc i) f = cc

    by_phase : (sessions : Option (List SessionPlan)) → option_map_or names_of sessions [] ≡ names → option_map_or (λ (session : SessionPlan). session.tasks) (option_and_then (λ (ss : List SessionPlan). slice_get ss place) sessions) [] ≡ tasks
        → option_and_then (item_in_phase (who_is phase place (suc index))) sessions ≡ Some (record { names = names; task = task })
    by_phase None named given = absurd (none (sym given))
    by_phase (Some sessions) named given = by_session (slice_get sessions place) given
      where
        by_session : (session : Option SessionPlan) → option_map_or (λ (s : SessionPlan). s.tasks) session [] ≡ tasks
            → option_map {U = Item} (λ (t : Task). record { names = names_of sessions; task = t }) (option_and_then (λ (s : SessionPlan). numbered s.tasks (suc index)) session) ≡ Some (record { names = names; task = task })
        by_session None given = absurd (none (sym given))
        by_session (Some s) given =
            let found : slice_get s.tasks index ≡ Some task = subst (λ (ts : List Task). slice_get ts index ≡ Some task) (sym given) at in
            rw (found, ← named) refl

-- ---- the loop

pub one_more : {E : Type 0} (size : ℕ) (plan : Plan) (start old new : View) (phase place : ℕ) (names : List (List ℕ)) (tasks : List Task) (index : ℕ) (task : Task) (before after : Progress) (r : Result (Unit {0}) E) → IsSessionOf plan phase place names tasks
    → index < length tasks → task ≡ get_or tasks index task → StepsOn (who_is phase place (index + 1)) (record { names = names; task = task }) old new before after r → SoFar size plan phase names start old (take index tasks) before
    → Stepped size plan phase names start new (take (index + 1) tasks) after r
one_more size plan start old new phase place names tasks index task before after r of less is steps so =
    let at : slice_get tasks index ≡ Some task = slice_get_read tasks (length tasks) index task refl less is in
    let count : index + 1 ≡ length (take index tasks) + 1 = omega (arith, length-take-le index tasks (omega arith)) in
    let more : take (index + 1) tasks ≡ take index tasks ++ task ∷ [] = take_more tasks index task less ∙ ap (λ (t : Task). take index tasks ++ t ∷ []) (sym is) in
    subst (λ (ts : List Task). Stepped size plan phase names start new ts after r) (sym more)
    (steps size plan start (take index tasks) count (item_there plan phase place names tasks index task of at) so)

pub left_of : {E : Type 0} (size : ℕ) (plan : Plan) (phase : ℕ) (names : List (List ℕ)) (start new : View) (tasks : List Task) (after : Progress) (r : Result (Unit {0}) E) → true ≡ is_err r → Stepped size plan phase names start new tasks after r
    → SessionLeft size plan phase start new
left_of size plan phase names start new tasks after (Ok u) e is = is.left
left_of size plan phase names start new tasks after (Err why) e is = is

pub done_of : {E : Type 0} (size : ℕ) (plan : Plan) (phase : ℕ) (names : List (List ℕ)) (start new : View) (tasks : List Task) (after : Progress) (r : Result (Unit {0}) E) → false ≡ is_err r → Stepped size plan phase names start new tasks after r
    → SoFar size plan phase names start new tasks after
done_of size plan phase names start new tasks after (Ok u) e is = is
done_of size plan phase names start new tasks after (Err why) e is = cc
