-- That phases and runs over the plain store come as far as they do.
use Rattle.std.proofs.Common.{◌≡◌, ◌<◌, ◌≤◌, ◌+◌, ◌++◌, ℕ, zero, suc, List, [], ◌∷◌, length, Option, Some, Ok, inl, inr, refl, ap, sym, subst, ◌∙◌, arith, slice_get}
use Rattle.std.specs.Option.{option_map_or}
use Rattle.std.specs.List.{AllByRecursion}
use Rattle.retro_base.specs.declared.device.Device.{Device}
use Rattle.retro_base.specs.declared.limits.TheConstants.{MEMORY_CAPACITY, MEMORY_PAGES}
use Rattle.history.specs.declared.journal.Line.{Line}
use Rattle.journal_law.specs.Lawful.{Ground}
use Rattle.journal_law.specs.Seats as seat
use Rattle.journal_law.specs.Shows.{Shows}
use Rattle.plain_store.specs.Plain.{Plain, view_of, work_in, zero_ground}
use Rattle.plain_store.specs.Turns.{GoesOn, OwnTurn}
use Rattle.plain_store.specs.declared.work.Work.{Work}
use Rattle.plain_store.specs.declared.work.Work.TheVariants as work
use Rattle.relation_laws.specs.Laws.{StoreLaw}
use Rattle.session.specs.Plan.{IsPhaseOf, Plan, names_of, numbered}
use Rattle.session.specs.Replies.{kept_at_place, kept_by_place, printed, wanting_by}
use Rattle.session.specs.Run.{AreKept, IsSessionOf, RunIsLawful, RunsSession, SessionLeft}
use Rattle.session.specs.Sql.{sql}
use Rattle.session.specs.declared.kept.Kept.{Kept}
use Rattle.session.specs.declared.plan.SessionPlan.{SessionPlan}
use Rattle.session.proofs.Runs.{law_of_runs}
use Rattle.plain_run.specs.Turns.{CameThrough, HasCome, KeepsDone, RanPlainly, TookTurn, empty_store}
use Rattle.plain_run.proofs.Coming.{ends, none_at, phases, ready, same, starts, turns}

-- ---- lists

get_front : {A : Type 0} (xs ys : List A) (place : ℕ) → place < length xs → slice_get (xs ++ ys) place ≡ slice_get xs place
get_front [] ys place less = absurd (omega (arith, less))
get_front (x ∷ xs) ys zero less = refl
get_front (x ∷ xs) ys (suc place) less = get_front xs ys place (omega (arith, less))

get_last : {A : Type 0} (xs : List A) (y : A) → slice_get (xs ++ y ∷ []) (length xs) ≡ Some y
get_last [] y = refl
get_last (x ∷ xs) y = get_last xs y

cancel : (xs ys zs : List Line) → xs ++ ys ≡ xs ++ zs → ys ≡ zs
cancel [] ys zs e = e
cancel (x ∷ xs) ys zs e = cancel xs ys zs (behind_heads e)
  where
    behind : List Line → List Line
    behind [] = []
    behind (line ∷ lines) = lines

    behind_heads : x ∷ (xs ++ ys) ≡ x ∷ (xs ++ zs) → xs ++ ys ≡ xs ++ zs
    behind_heads e = ap behind e

-- ---- what was kept, by phases and places

of_earlier : (done : List (List (List Kept))) (kept : List (List Kept)) (phase earlier : ℕ) → length done + 1 ≡ phase → earlier < phase → kept_by_place (done ++ kept ∷ []) earlier ≡ kept_by_place done earlier
of_earlier done kept phase zero long less = refl
of_earlier done kept phase (suc earlier) long less =
    ap (λ (found : Option (List (List Kept))). kept_at_place (option_map_or (λ (sessions : List (List Kept)). sessions) found [])) (get_front done (kept ∷ []) earlier (omega (arith, long, less)))

of_phase : (done : List (List (List Kept))) (kept : List (List Kept)) (phase : ℕ) → length done + 1 ≡ phase → kept_by_place (done ++ kept ∷ []) phase ≡ kept_at_place kept
of_phase done kept zero long = absurd (omega (arith, long))
of_phase done kept (suc phase) long =
    let here : length done ≡ phase = omega (arith, long) in
    ap (λ (found : Option (List (List Kept))). kept_at_place (option_map_or (λ (sessions : List (List Kept)). sessions) found []))
    (subst (λ (n : ℕ). slice_get (done ++ kept ∷ []) n ≡ Some kept) here (get_last done kept))

of_place : (kept : List (List Kept)) (one : List Kept) (place : ℕ) → length kept ≡ place → kept_at_place (kept ++ one ∷ []) place ≡ one
of_place kept one place long = ap (λ (found : Option (List Kept)). option_map_or (λ (items : List Kept). items) found []) (subst (λ (n : ℕ). slice_get (kept ++ one ∷ []) n ≡ Some one) long (get_last kept one))

keeps_done : (done : List (List (List Kept))) (kept : List (List Kept)) (one : List Kept) (phase place : ℕ) → length done + 1 ≡ phase → length kept ≡ place
    → KeepsDone phase place (kept_by_place (done ++ kept ∷ [])) (kept_by_place (done ++ (kept ++ one ∷ []) ∷ []))
keeps_done done kept one phase place long sat earlier session (inl less) =
    ap (λ (f : ℕ → List Kept). f session) (of_earlier done (kept ++ one ∷ []) phase earlier long less ∙ sym (of_earlier done kept phase earlier long less))
keeps_done done kept one phase place long sat earlier session (inr at) =
    subst (λ (p : ℕ). kept_by_place (done ++ (kept ++ one ∷ []) ∷ []) p session ≡ kept_by_place (done ++ kept ∷ []) p session) (sym at.0) (
    ap (λ (f : ℕ → List Kept). f session) (of_phase done (kept ++ one ∷ []) phase long)
    ∙ ap (λ (found : Option (List Kept)). option_map_or (λ (items : List Kept). items) found []) (get_front kept (one ∷ []) session (omega (arith, at.1, sat)))
    ∙ sym (ap (λ (f : ℕ → List Kept). f session) (of_phase done kept phase long)))

keeps_first : (done : List (List (List Kept))) (phase : ℕ) → length done + 1 ≡ phase → KeepsDone phase 0 (kept_by_place done) (kept_by_place (done ++ [] ∷ []))
keeps_first done phase long earlier session (inl less) = ap (λ (f : ℕ → List Kept). f session) (of_earlier done [] phase earlier long less)
keeps_first done phase long earlier session (inr at) = absurd (omega (arith, at.1))

-- ---- one turn

pub idle_work : (count : ℕ) (lines : List Line) (w : Work) → work_in count lines w ≡ seat.Idle → w ≡ work.Idle
idle_work count lines work.Idle is = refl
idle_work count lines (work.Open t) is = cc
idle_work count lines (work.Looking l) is = cc

seated : Plain → ℕ → Plain
seated store place = record store { session = place }

pub took : (plan : Plan) (phase place : ℕ) (old turned new : Plain) (kept : List Kept) → turned ≡ record old { session = place } → (view_of new).work ≡ seat.Idle → GoesOn turned new
    → RunsSession {E = Unit {0}} (view_of turned).opened.base.page_count plan phase (view_of turned) (view_of new) (Ok kept) → TookTurn plan phase place old new kept
took plan phase place old turned new kept is idle goes ran =
    by (subst (λ (t : Plain). GoesOn t new) is goes) (subst (λ (t : Plain). RunsSession {E = Unit {0}} (view_of t).opened.base.page_count plan phase (view_of t) (view_of new) (Ok kept)) is ran)
  where
    by : GoesOn (record old { session = place }) new → RunsSession {E = Unit {0}} old.base.page_count plan phase (view_of (record old { session = place })) (view_of new) (Ok kept) → TookTurn plan phase place old new kept
    by goes ran = record { idle = idle; opened = goes.opened; more = goes.more; own = goes.own; whole = goes.whole; ran = ran }

module _ (plan : Plan) (ground : Ground) (store new : Plain) (done : List (List (List Kept))) (kept : List (List Kept)) (one : List Kept) (phase place : ℕ) (long : length done + 1 ≡ phase) (sat : length kept ≡ place)
    (took : TookTurn plan phase place store new one) (came : CameThrough plan ground store (done ++ kept ∷ []) phase place) where
  abbrev size : ℕ
  size = ground.base.page_count

  abbrev old : seat.View
  old = view_of (record store { session = place })

  abbrev before : ℕ → ℕ → List Kept
  before = kept_by_place (done ++ kept ∷ [])

  abbrev after : ℕ → ℕ → List Kept
  after = kept_by_place (done ++ (kept ++ one ∷ []) ∷ [])

  here : after phase place ≡ one
  here = ap (λ (f : ℕ → List Kept). f place) (of_phase done (kept ++ one ∷ []) phase long) ∙ of_place kept one place sat

  sized : store.base.page_count ≡ size
  sized = ap (λ (g : Ground). g.base.page_count) came.opened

  left : SessionLeft size plan phase old (view_of new) × AreKept {E = Unit {0}} size plan phase (view_of new) (Ok one)
  left = subst (λ (n : ℕ). RunsSession {E = Unit {0}} n plan phase old (view_of new) (Ok one)) sized took.ran (ready size plan ground before phase place old came.opened refl came.idle came.come)

  pub turned : CameThrough plan ground new (done ++ (kept ++ one ∷ []) ∷ []) phase (place + 1)
  turned = record {
    idle = took.idle;
    opened = took.opened ∙ came.opened;
    come = turns size plan ground old (view_of new) before after phase place came.opened refl came.come left.0
        (subst (λ (k : List Kept). AreKept {E = Unit {0}} size plan phase (view_of new) (Ok k)) (sym here) left.1)
        (subst (λ (lines : List Line). AllByRecursion (OwnTurn place) lines) (cancel store.book.lines took.more left.0.more (sym took.whole ∙ left.0.front)) took.own)
        (keeps_done done kept one phase place long sat);
  }

-- ---- one phase

pub phase_begins : (plan : Plan) (ground : Ground) (store : Plain) (done : List (List (List Kept))) (phase : ℕ) → length done + 1 ≡ phase → CameThrough plan ground store done phase 0 → CameThrough plan ground store (done ++ [] ∷ []) phase 0
phase_begins plan ground store done phase long came = record {
  idle = came.idle;
  opened = came.opened;
  come = same ground.base.page_count plan ground store.book.lines (kept_by_place done) (kept_by_place (done ++ [] ∷ [])) phase 0 (keeps_first done phase long) came.come;
}

some_same : (a b : List SessionPlan) → Some a ≡ Some b → a ≡ b
some_same a b e = cc

pub phase_ends : (plan : Plan) (ground : Ground) (store : Plain) (done : List (List (List Kept))) (kept : List (List Kept)) (phase : ℕ) (sessions : List SessionPlan) → length done + 1 ≡ phase → IsPhaseOf plan phase sessions
    → length kept ≡ length sessions → CameThrough plan ground store (done ++ kept ∷ []) phase (length sessions) → CameThrough plan ground store (done ++ kept ∷ []) (phase + 1) 0
phase_ends plan ground store done kept phase sessions long is sat came = record {
  idle = came.idle;
  opened = came.opened;
  come = phases ground.base.page_count plan ground store.book.lines (kept_by_place (done ++ kept ∷ [])) phase (length sessions)
      (λ found e. let same_sessions : sessions ≡ found = some_same sessions found (sym is ∙ e) in omega (arith, ap length same_sessions))
      (λ session behind. ap (λ (f : ℕ → List Kept). f session) (of_phase done kept phase long)
      ∙ ap (λ (found : Option (List Kept)). option_map_or (λ (items : List Kept). items) found []) (none_at kept session (omega (arith, behind, sat))))
      came.come;
}

-- ---- a run

pub run_begins : (plan : Plan) (store : Plain) → view_of store ≡ record { session = 0; opened = zero_ground MEMORY_PAGES MEMORY_CAPACITY; front = []; work = seat.Idle; told = [] }
    → CameThrough plan (zero_ground MEMORY_PAGES MEMORY_CAPACITY) store [] 1 0
run_begins plan store is = record {
  idle = ap (λ (v : seat.View). v.work) is;
  opened = ap (λ (v : seat.View). v.opened) is;
  come = subst (λ (lines : List Line). HasCome MEMORY_PAGES plan (zero_ground MEMORY_PAGES MEMORY_CAPACITY) lines (kept_by_place []) 1 0) (sym (ap (λ (v : seat.View). v.front) is))
      (starts MEMORY_PAGES plan (zero_ground MEMORY_PAGES MEMORY_CAPACITY) (kept_by_place []) (λ session. refl));
}

pub run_ends : (plan : Plan) (store : Plain) (kept : List (List (List Kept))) (text : List ℕ) → StoreLaw → length kept ≡ length plan → CameThrough plan (zero_ground MEMORY_PAGES MEMORY_CAPACITY) store kept (length plan + 1) 0
    → text ≡ printed plan (kept_by_place kept) 0 store.book.lines → RanPlainly plan store.book.lines text
run_ends plan store kept text zeros long came is = record {
  wanting = wanting_by (kept_by_place kept);
  lawful = subst (λ (t : List ℕ). RunIsLawful MEMORY_PAGES plan (wanting_by (kept_by_place kept)) (empty_store MEMORY_PAGES) (λ (device : Device). 0) store.book.lines t) (sym is)
      (law_of_runs MEMORY_PAGES plan (wanting_by (kept_by_place kept)) (empty_store MEMORY_PAGES) (λ device. 0) store.book.lines (kept_by_place kept) shown
      (ends MEMORY_PAGES plan (zero_ground MEMORY_PAGES MEMORY_CAPACITY) (λ device. 0) store.book.lines (kept_by_place kept) (length plan + 1) (omega arith) none came.come));
}
  where
    shown : Shows (sql MEMORY_PAGES) (empty_store MEMORY_PAGES).opened.pages (empty_store MEMORY_PAGES).tables
    shown = record { current = record { all = _; store = zeros.fresh MEMORY_PAGES _ (λ page less. refl) (omega arith) (omega arith); same = refl }; marks = tt }

    none : (later session : ℕ) → length plan + 1 ≤ later → kept_by_place kept later session ≡ []
    none zero session behind = refl
    none (suc later) session behind = ap (λ (found : Option (List (List Kept))). kept_at_place (option_map_or (λ (sessions : List (List Kept)). sessions) found []) session)
        (none_at kept later (omega (arith, behind, long)))

-- ---- what a loop over sessions knows

pub session_of : (plan : Plan) (phase place : ℕ) (sessions : List SessionPlan) (session : SessionPlan) (names : List (List ℕ)) → IsPhaseOf plan phase sessions → slice_get sessions place ≡ Some session → names ≡ names_of sessions
    → IsSessionOf plan phase place names session.tasks
session_of plan phase place sessions session names is there named = record { names_are = rw is (sym named); tasks_are = rw (is, there) refl }

pub phase_at : (plan : Plan) (index : ℕ) (sessions : List SessionPlan) → slice_get plan index ≡ Some sessions → IsPhaseOf plan (index + 1) sessions
phase_at plan index sessions at =
    let next : suc index ≡ index + 1 = omega arith in
    subst (λ (n : ℕ). numbered plan n ≡ Some sessions) next at
