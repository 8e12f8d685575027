-- That a phase runs, and a run.
use Rattle.std.proofs.Common.{◌≡◌, ◌⊎◌, ◌<◌, ◌≤◌, ◌+◌, ◌++◌, ℕ, zero, suc, List, [], ◌∷◌, length, length-append, Option, Some, Result, Ok, Err, inl, inr, refl, ap, sym, subst, ◌∙◌, arith, slice_get}
use Rattle.std.specs.Prelude.{IfOk, IsErr}
use Rattle.std.specs.declared.alloc.AllocError.{AllocError}
use Rattle.std.proofs.lemmas.Option.{slice_get_past}
use Rattle.std.specs.Option.{option_map_or}
use Rattle.history.specs.declared.journal.Line.{Line}
use Rattle.journal_law.specs.Lawful.{Ground}
use Rattle.journal_law.specs.Seats.{View}
use Rattle.session.specs.Plan.{IsPhaseOf, Plan, names_of, numbered}
use Rattle.session.specs.Replies.{kept_at_place, kept_by_place}
use Rattle.session.specs.Run.{AreKept, IsReady, IsSessionOf, RunsSession, SessionLeft, WasKept}
use Rattle.session.specs.declared.kept.Kept.{Kept}
use Rattle.session.specs.declared.plan.SessionPlan.{SessionPlan}
use Rattle.retro_base.specs.declared.limits.TheConstants.{SESSIONS}
use Rattle.store.specs.declared.pace.Worker.{Worker}
use Rattle.store.specs.WorkerRounds.{IsFreshOrStopped}
use Rattle.store.proofs.WorkerEnds.{rests_on}
use Rattle.retro.specs.Working.{AreWorkers, MayWorkOn, WorkedAt, WorkedTwice}
use Rattle.retro.specs.Phases.{HasComeTo, HaveRun, KeepsNoMore, StandTogether, WereKept}
use Rattle.retro.specs.Slots.{AllCome, AreAnswers, AreHonest, AreSeated, IsSeated, SitsAt, answered_at, seat_at, seat_in, view_at, view_in}
use Rattle.retro.specs.Steps.{AllRan, MetAll, PhaseRuns, RanAt, RanThrough, RunsPhases}
use Rattle.retro.specs.declared.slots.Slot.{Slot}
use Rattle.retro.proofs.Phased.{begins, kept_none, less_or_not, no_session, on, runs, stand_behind}
use Rattle.retro.proofs.Seated.{one_seat, seat_within, sees}
use Rattle.retro.proofs.Worked.{StayedAt, left_none, stayed_same, stayed_twice}

-- ---- lists

get_front : {A : Type 0} (xs ys : List A) (place : ℕ) → place < length xs → slice_get (xs ++ ys) place ≡ slice_get xs place
get_front [] ys place less = absurd (omega (arith, less))
get_front (x ∷ xs) ys zero less = refl
get_front (x ∷ xs) ys (suc place) less = get_front xs ys place (omega (arith, less))

get_behind : {A : Type 0} (xs ys zs : List A) (place : ℕ) → length xs ≡ length ys → length ys ≤ place → slice_get (xs ++ zs) place ≡ slice_get (ys ++ zs) place
get_behind [] [] zs place same past = refl
get_behind [] (y ∷ ys) zs place same past = absurd (omega (arith, same))
get_behind (x ∷ xs) [] zs place same past = absurd (omega (arith, same))
get_behind (x ∷ xs) (y ∷ ys) zs zero same past = absurd (omega (arith, past))
get_behind (x ∷ xs) (y ∷ ys) zs (suc place) same past = get_behind xs ys zs place (omega (arith, same)) (omega (arith, past))

get_rest : {A : Type 0} (xs ys : List A) (long place : ℕ) → length xs ≡ long → slice_get (xs ++ ys) (long + place) ≡ slice_get ys place
get_rest [] ys zero place same = ap (slice_get ys) (let e : 0 + place ≡ place = omega arith in e)
get_rest [] ys (suc long) place same = absurd (omega (arith, same))
get_rest (x ∷ xs) ys zero place same = absurd (omega (arith, same))
get_rest (x ∷ xs) ys (suc long) place same = ap (slice_get (x ∷ xs ++ ys)) (let e : suc long + place ≡ suc (long + place) = omega arith in e) ∙ get_rest xs ys long place (omega (arith, same))

-- a number past another lies so far behind it
behind_by : (low n : ℕ) → low ≤ n → (k : ℕ) × (n ≡ low + k)
behind_by zero n le = (n, omega arith)
behind_by (suc low) zero le = absurd (omega (arith, le))
behind_by (suc low) (suc n) le = let k = behind_by low n (omega (arith, le)) in let e = k.1 in (k.0, omega (arith, e))

pub there_is : {A : Type 0} (xs : List A) (place : ℕ) → place < length xs → (x : A) × (slice_get xs place ≡ Some x)
there_is [] place less = absurd (omega (arith, less))
there_is (x ∷ xs) zero less = (x, refl)
there_is (x ∷ xs) (suc place) less = there_is xs place (omega (arith, less))

get_last : {A : Type 0} (xs : List A) (y : A) → slice_get (xs ++ y ∷ []) (length xs) ≡ Some y
get_last [] y = refl
get_last (x ∷ xs) y = get_last xs y

of_earlier : (done : List (List (List Kept))) (kept : List (List Kept)) (phase earlier : ℕ) → length done + 1 ≡ phase → earlier < phase → kept_by_place (done ++ kept ∷ []) earlier ≡ kept_by_place done earlier
of_earlier done kept phase zero long less = refl
of_earlier done kept phase (suc earlier) long less =
    ap (λ (found : Option (List (List Kept))). kept_at_place (option_map_or (λ (sessions : List (List Kept)). sessions) found [])) (get_front done (kept ∷ []) earlier (omega (arith, long, less)))

of_phase : (done : List (List (List Kept))) (kept : List (List Kept)) (phase : ℕ) → length done + 1 ≡ phase → kept_by_place (done ++ kept ∷ []) phase ≡ kept_at_place kept
of_phase done kept zero long = absurd (omega (arith, long))
of_phase done kept (suc phase) long =
    let here : length done ≡ phase = omega (arith, long) in
    ap (λ (found : Option (List (List Kept))). kept_at_place (option_map_or (λ (sessions : List (List Kept)). sessions) found []))
    (subst (λ (n : ℕ). slice_get (done ++ kept ∷ []) n ≡ Some kept) here (get_last done kept))

of_later : (done : List (List (List Kept))) (later number : ℕ) → length done < later → kept_by_place done later number ≡ []
of_later done zero number past = refl
of_later done (suc later) number past =
    ap (λ (found : Option (List (List Kept))). kept_at_place (option_map_or (λ (sessions : List (List Kept)). sessions) found []) number) (slice_get_past done later (omega (arith, past)))

of_nobody : (kept : List (List Kept)) (place : ℕ) → length kept ≤ place → kept_at_place kept place ≡ []
of_nobody kept place past = ap (λ (found : Option (List Kept)). option_map_or (λ (items : List Kept). items) found []) (slice_get_past kept place past)

-- ---- sessions of a phase, each at its seat

abbrev pub size_of : View → ℕ
size_of view = view.opened.base.page_count

not_failed : {T : Type 0} (E : Type 0) (t : T) → IsErr {T = T} {E = E} (Ok t) → ⊥
not_failed E t failed = cc

-- no session has run
pub none_ran : {E : Type 0} (plan : Plan) (phase seats count : ℕ) (old : ℕ → View) (answered : Result (List (List Kept)) E) → IsErr answered → RanThrough plan phase seats count old old answered
none_ran {E} plan phase seats count old (Ok kept) failed = absurd (not_failed E kept failed)
none_ran {E} plan phase seats count old (Err why) failed = record { left = λ number less ready. left_none (size_of (old number)) plan phase phase (old number) ready; long = tt; kept = tt }

session_of : (plan : Plan) (phase place : ℕ) (sessions : List SessionPlan) (session : SessionPlan) (names : List (List ℕ)) → IsPhaseOf plan phase sessions → slice_get sessions place ≡ Some session → names ≡ names_of sessions
    → IsSessionOf plan phase place names session.tasks
session_of plan phase place sessions session names is there named = record { names_are = rw is (sym named); tasks_are = rw (is, there) refl }

-- The slots of the sessions are the first ones, and those of the workers the last.
module _ {S : Type 0} (view : S → View) (old front workers first idle : List (Slot S)) (whole : old ≡ front ++ workers) (long : length front ≡ SESSIONS) (split : front ≡ first ++ idle) (seated : AreSeated view old) where
  pub are_seated : AreSeated view first
  are_seated n less =
      let one = ap length whole ∙ length-append front workers in
      let two = ap length split ∙ length-append first idle in
      let was : seat_at old n ≡ seat_at first n = ap (λ (xs : List (Slot S)). seat_at xs n) whole ∙ ap seat_in (get_front front workers n (omega (arith, less, two))) ∙ ap (λ (xs : List (Slot S)). seat_at xs n) split
      ∙ ap seat_in (get_front first idle n less) in
      subst (IsSeated view n) was (seated n (omega (arith, less, one, two)))

  pub are_workers : MayWorkOn view old → AreWorkers view workers
  are_workers rest place less =
      let one = ap length whole ∙ length-append front workers in
      let inside : SESSIONS + place < length old = omega (arith, less, one, long) in
      let was : seat_at old (SESSIONS + place) ≡ seat_at workers place = ap (λ (xs : List (Slot S)). seat_at xs (SESSIONS + place)) whole ∙ ap seat_in (get_rest front workers SESSIONS place long) in (
        subst (IsSeated view (SESSIONS + place)) was (seated (SESSIONS + place) inside),
        subst (λ (o : Option S). IsFreshOrStopped (view_in view o)) was (rest (SESSIONS + place) (omega arith) inside),
      )

-- The sessions have run in their slots, and what they answered was taken out; the workers have run in theirs.
module _ {S : Type 0} (view : S → View) (goes : S → S → Type 0) (stays : (s : S) → goes s s) (goes_on : (s t u : S) → goes s t → goes t u → goes s u) (is_honest : S → Type 0) (phase : ℕ) (sessions : List SessionPlan) (few : length sessions ≤ SESSIONS)
    (old front workers first idle mid last new : List (Slot S)) (whole : old ≡ front ++ workers) (long : length front ≡ SESSIONS) (split : front ≡ first ++ idle) (count : length first ≡ length sessions)
    (mid_count : length mid ≡ length first) (last_count : length last ≡ length mid) (same : (n : ℕ) → seat_at last n ≡ seat_at mid n) (names : List (List ℕ)) (ran : AllRan view goes is_honest phase names sessions first mid)
    {works : ℕ → Worker → S → S → Type 0} (worked : WorkedTwice view goes works phase workers new) (seated : AreSeated view old) where
  abbrev after : List (Slot S)
  after = (last ++ idle) ++ new

  new_count : length new ≡ length workers
  new_count = worked.last_count ∙ worked.count

  front_after : length (last ++ idle) ≡ SESSIONS
  front_after = length-append last idle ∙ ap (λ (n : ℕ). n + length idle) (last_count ∙ mid_count) ∙ sym (length-append first idle) ∙ sym (ap length split) ∙ long

  pub after_count : length after ≡ length old
  after_count = length-append (last ++ idle) new ∙ ap (λ (n : ℕ). n + length new) front_after ∙ ap (λ (n : ℕ). SESSIONS + n) new_count
      ∙ sym (ap (λ (n : ℕ). n + length workers) long) ∙ sym (length-append front workers) ∙ sym (ap length whole)

  was_front : (n : ℕ) → n < SESSIONS → seat_at old n ≡ seat_at front n
  was_front n less = ap (λ (xs : List (Slot S)). seat_at xs n) whole ∙ ap seat_in (get_front front workers n (omega (arith, less, long)))

  is_front : (n : ℕ) → n < SESSIONS → seat_at after n ≡ seat_at (last ++ idle) n
  is_front n less = ap seat_in (get_front (last ++ idle) new n (omega (arith, less, front_after)))

  ran_at : (n : ℕ) (session : SessionPlan) → n < length sessions → slice_get sessions n ≡ Some session → RanAt view goes is_honest phase n names session.tasks (seat_at old n) (seat_at after n) (answered_at mid n)
  ran_at n session less there =
      let within : n < SESSIONS = omega (arith, less, few) in
      let was : seat_at old n ≡ seat_at first n = was_front n within ∙ ap (λ (xs : List (Slot S)). seat_at xs n) split ∙ ap seat_in (get_front first idle n (omega (arith, less, count))) in
      let is : seat_at after n ≡ seat_at mid n = is_front n within ∙ ap seat_in (get_front last idle n (omega (arith, less, count, mid_count, last_count))) ∙ same n in
      subst (λ (seat : Option S). RanAt view goes is_honest phase n names session.tasks seat (seat_at after n) (answered_at mid n)) (sym was)
      (subst (λ (seat : Option S). RanAt view goes is_honest phase n names session.tasks (seat_at first n) seat (answered_at mid n)) (sym is) (ran n session there))

  rests_at : (n : ℕ) → length sessions ≤ n → n < SESSIONS → seat_at after n ≡ seat_at old n
  rests_at n past within = is_front n within ∙ ap seat_in (get_behind last first idle n (last_count ∙ mid_count) (omega (arith, past, count))) ∙ sym (was_front n within ∙ ap (λ (xs : List (Slot S)). seat_at xs n) split)

  stayed_worker : (place : ℕ) → SESSIONS + place < length old → StayedAt view goes phase (SESSIONS + place) (seat_at old (SESSIONS + place)) (seat_at after (SESSIONS + place))
  stayed_worker place less =
      let was : seat_at old (SESSIONS + place) ≡ seat_at workers place = ap (λ (xs : List (Slot S)). seat_at xs (SESSIONS + place)) whole ∙ ap seat_in (get_rest front workers SESSIONS place long) in
      let is : seat_at after (SESSIONS + place) ≡ seat_at new place = ap seat_in (get_rest (last ++ idle) new SESSIONS place front_after) in
      let inside : place < length workers = let l = ap length whole ∙ length-append front workers in omega (arith, less, l, long) in
      let later : place < length worked.between = let c = worked.count in omega (arith, inside, c) in
      subst (λ (o : Option S). StayedAt view goes phase (SESSIONS + place) (seat_at old (SESSIONS + place)) o) (sym is)
      (stayed_twice view goes phase (SESSIONS + place) (seat_at old (SESSIONS + place)) (seated (SESSIONS + place) less) goes_on (omega arith) (seat_at worked.between place) (seat_at new place)
      (subst (λ (o : Option S). WorkedAt view goes works phase (SESSIONS + place) o (seat_at worked.between place)) (sym was) (worked.beside place inside)) (worked.again place later))

  stayed : (n : ℕ) → length sessions ≤ n → n < length old → (n < SESSIONS) ⊎ (SESSIONS ≤ n) → StayedAt view goes phase n (seat_at old n) (seat_at after n)
  stayed n past less (inl within) = stayed_same view goes phase n (seat_at old n) (seated n less) stays (seat_at after n) (rests_at n past within)
  stayed n past less (inr behind) =
      let k = behind_by SESSIONS n behind in
      subst (λ (m : ℕ). StayedAt view goes phase m (seat_at old m) (seat_at after m)) (sym k.1) (stayed_worker k.0 (subst (λ (m : ℕ). m < length old) k.1 less))

  stayed_at : (n : ℕ) → length sessions ≤ n → n < length old → StayedAt view goes phase n (seat_at old n) (seat_at after n)
  stayed_at n past less = stayed n past less (less_or_not n SESSIONS)

  pub all_come : AllCome view goes old after
  all_come = record {
    count = after_count;
    seated = λ n less. seated_at n (subst (λ (k : ℕ). n < k) after_count less) (less_or_not n (length sessions));
    each = λ n s t was is. gone n s t was is (seat_within old n s was) (less_or_not n (length sessions));
  }
    where
      seated_at : (n : ℕ) → n < length old → (n < length sessions) ⊎ (length sessions ≤ n) → IsSeated view n (seat_at after n)
      seated_at n less (inl has) = let one = there_is sessions n has in let at = ran_at n one.0 has one.1 in record { seat = at.behind; sits = at.is; number_is = at.number_is; idle = at.idle }
      seated_at n less (inr past) = let at = stayed_at n past less in record { seat = at.behind; sits = at.is; number_is = at.number_is; idle = at.idle }

      moved : (s t a b : S) (one two : Option S) → one ≡ Some s → two ≡ Some t → one ≡ Some a → two ≡ Some b → goes a b → goes s t
      moved s t a b one two was is sat sits went = subst (λ (x : S). goes x t) (one_seat S a s (sym sat ∙ was)) (subst (goes a) (one_seat S b t (sym sits ∙ is)) went)

      gone : (n : ℕ) (s t : S) → SitsAt old n s → SitsAt after n t → n < length old → (n < length sessions) ⊎ (length sessions ≤ n) → goes s t
      gone n s t was is less (inl has) =
          let one = there_is sessions n has in
          let at = ran_at n one.0 has one.1 in
          moved s t at.before at.behind (seat_at old n) (seat_at after n) was is at.was at.is at.stays
      gone n s t was is less (inr past) = let at = stayed_at n past less in moved s t at.before at.behind (seat_at old n) (seat_at after n) was is at.was at.is at.stays

  -- workers may run there again
  pub all_rest : MayWorkOn view old → MayWorkOn view after
  all_rest rest n behind less =
      let inside : n < length old = subst (λ (k : ℕ). n < k) after_count less in
      let at = stayed_at n (omega (arith, few, behind)) inside in
      subst IsFreshOrStopped (sym (sees S view after n at.behind at.is)) (at.rests (subst IsFreshOrStopped (sees S view old n at.before at.was) (rest n behind inside)))

  module _ (plan : Plan) (is : IsPhaseOf plan phase sessions) (named : names ≡ names_of sessions) (honest : AreHonest is_honest old) where
    runs_at : (n : ℕ) → n < length sessions → RunsSession (size_of (view_at view old n)) plan phase (view_at view old n) (view_at view after n) (answered_at mid n)
    runs_at n less =
        let one = there_is sessions n less in
        let at = ran_at n one.0 less one.1 in
        subst (λ (v : View). RunsSession (size_of v) plan phase v (view_at view after n) (answered_at mid n)) (sym (sees S view old n at.before at.was))
        (subst (λ (v : View). RunsSession (size_of (view at.before)) plan phase (view at.before) v (answered_at mid n)) (sym (sees S view after n at.behind at.is))
        (at.ran (honest n at.before at.was) plan (session_of plan phase n sessions one.0 names is one.1 named)))

    left_at : (n : ℕ) → n < length old → (n < length sessions) ⊎ (length sessions ≤ n) → IsReady (size_of (view_at view old n)) plan phase (view_at view old n)
        → SessionLeft (size_of (view_at view old n)) plan phase (view_at view old n) (view_at view after n)
    left_at n inside (inl less) = λ ready. (runs_at n less ready).0
    left_at n inside (inr past) =
        let at = stayed_at n past inside in
        subst (λ (v : View). IsReady (size_of v) plan phase v → SessionLeft (size_of v) plan phase v (view_at view after n)) (sym (sees S view old n at.before at.was))
        (subst (λ (v : View). IsReady (size_of (view at.before)) plan phase (view at.before) → SessionLeft (size_of (view at.before)) plan phase (view at.before) v) (sym (sees S view after n at.behind at.is))
        (at.left (size_of (view at.before)) plan))

    pub all_ran : (answered : Result (List (List Kept)) AllocError) → IfOk answered (AreAnswers mid) → RanThrough plan phase (length old) (length sessions) (view_at view old) (view_at view after) answered
    all_ran (Ok kept) are = record {
      left = λ n less. left_at n less (less_or_not n (length sessions));
      long = are.0 ∙ mid_count ∙ count;
      kept = λ n less ready.
          subst (AreKept {E = AllocError} (size_of (view_at view old n)) plan phase (view_at view after n)) (are.1 n (omega (arith, less, mid_count, count))) (runs_at n less ready).1;
    }
    all_ran (Err why) are = record { left = λ n less. left_at n less (less_or_not n (length sessions)); long = tt; kept = tt }

-- ---- seats that have met

pub rest_met : {S : Type 0} (view : S → View) (old new : List (Slot S)) → length new ≡ length old → MetAll (length old) (view_at view old) (view_at view new) → MayWorkOn view old → MayWorkOn view new
rest_met view old new count met rest n behind less =
    let inside : n < length old = subst (λ (k : ℕ). n < k) count less in
    rests_on (view_at view old n) (view_at view new n) (met.1 n inside).0.moves (rest n behind inside)

-- ---- a phase

some_same : (a b : List SessionPlan) → Some a ≡ Some b → a ≡ b
some_same a b e = cc

module _ (plan : Plan) (ground : Ground) (seats phase : ℕ) (sessions : List SessionPlan) (is : IsPhaseOf plan phase sessions) (old new met : ℕ → View) where
  abbrev size : ℕ
  size = ground.base.page_count

  have_run : {E : Type 0} (answered : Result (List (List Kept)) E) (front : List Line) → RanThrough plan phase seats (length sessions) old new answered → StandTogether size plan ground seats phase front old → HaveRun size plan seats phase old new
  have_run answered front ran together number less =
      let stands = together.each number less in
      let sized : size_of (old number) ≡ size = ap (λ (g : Ground). g.base.page_count) stands.ground_is in
      subst (λ (n : ℕ). IsReady n plan phase (old number) → SessionLeft n plan phase (old number) (new number)) sized (ran.left number less) stands.ready

  were_kept : {E : Type 0} (kept : List (List Kept)) (front : List Line) → RanThrough {E = E} plan phase seats (length sessions) old new (Ok kept) → StandTogether size plan ground seats phase front old
      → WereKept size plan ground seats phase new (kept_at_place kept)
  were_kept {E} kept front ran together number less = by_place (less_or_not number (length sessions))
    where
      by_place : (number < length sessions) ⊎ (length sessions ≤ number) → WasKept size plan ground (new number).front phase number (kept_at_place kept number)
      by_place (inl within) =
          let stands = together.each number less in
          let sized : size_of (old number) ≡ size = ap (λ (g : Ground). g.base.page_count) stands.ground_is in
          runs size plan ground phase number front (old number) (new number) (kept_at_place kept number) stands (have_run {E = E} (Ok kept) front ran together number less)
          (subst (λ (n : ℕ). IsReady n plan phase (old number) → AreKept {E = Unit {0}} n plan phase (new number) (Ok (kept_at_place kept number))) sized (ran.kept number within) stands.ready)
      by_place (inr past) = kept_none size plan ground phase number (new number).front (kept_at_place kept number)
          (no_session plan phase (length sessions) number (λ found e. let same : sessions ≡ found = some_same sessions found (sym is ∙ e) in omega (arith, ap length same)) past)
          (of_nobody kept number (omega (arith, past, ran.long)))

  phase_ok : {E : Type 0} (kept : List (List Kept)) → length sessions ≤ seats → RanThrough {E = E} plan phase seats (length sessions) old new (Ok kept) → MetAll seats new met → PhaseRuns {E = E} plan ground seats phase old met (Ok kept)
  phase_ok {E} kept room ran all_met done long come =
      on size plan ground seats phase all_met.0 (kept_by_place done) (kept_by_place (done ++ kept ∷ [])) old new met (have_run {E = E} (Ok kept) come.front ran come.together) all_met.1
      (subst (WereKept size plan ground seats phase new) (sym (of_phase done kept phase long)) (were_kept {E = E} kept come.front ran come.together))
      (λ earlier less. of_earlier done kept phase earlier long less) no_more come
    where
      length_last : (xs : List (List (List Kept))) → length (xs ++ kept ∷ []) ≡ length xs + 1
      length_last [] = refl
      length_last (x ∷ xs) = omega (arith, length_last xs)

      beyond : (later number : ℕ) → phase + 1 ≤ later → kept_by_place (done ++ kept ∷ []) later number ≡ []
      beyond later number past = of_later (done ++ kept ∷ []) later number (omega (arith, long, past, length_last done))

      unseated : (later number : ℕ) → seats ≤ number → (later < phase) ⊎ (phase ≤ later) → (phase < later) ⊎ (later ≤ phase) → kept_by_place (done ++ kept ∷ []) later number ≡ []
      unseated later number past (inl before) test = ap (λ (f : ℕ → List Kept). f number) (of_earlier done kept phase later long before) ∙ come.no_more later number (inr past)
      unseated later number past (inr behind) (inl far) = beyond later number (omega (arith, far))
      unseated later number past (inr behind) (inr near) =
          let here : later ≡ phase = omega (arith, behind, near) in
          subst (λ (p : ℕ). kept_by_place (done ++ kept ∷ []) p number ≡ []) (sym here)
          (ap (λ (f : ℕ → List Kept). f number) (of_phase done kept phase long) ∙ of_nobody kept number (omega (arith, past, room, ran.long)))

      no_more : KeepsNoMore seats (phase + 1) (kept_by_place (done ++ kept ∷ []))
      no_more later number (inl past) = beyond later number past
      no_more later number (inr past) = unseated later number past (less_or_not later phase) (less_or_not phase later)

  pub phase_ran : {E : Type 0} (answered : Result (List (List Kept)) E) → length sessions ≤ seats → RanThrough plan phase seats (length sessions) old new answered → MetAll seats new met → PhaseRuns plan ground seats phase old met answered
  phase_ran {E} (Ok kept) room ran all_met = phase_ok {E = E} kept room ran all_met
  phase_ran {E} (Err why) room ran all_met = λ front together.
      (all_met.0, stand_behind size plan ground seats phase front all_met.0 old new met (have_run {E = E} (Err why) front ran together) all_met.1 together)

-- ---- a run

pub phase_at : (plan : Plan) (index : ℕ) (sessions : List SessionPlan) → slice_get plan index ≡ Some sessions → IsPhaseOf plan (index + 1) sessions
phase_at plan index sessions at =
    let next : suc index ≡ index + 1 = omega arith in
    subst (λ (n : ℕ). numbered plan n ≡ Some sessions) next at

pub run_begins : (plan : Plan) (ground : Ground) (seats : ℕ) (front : List Line) (views : ℕ → View) → StandTogether ground.base.page_count plan ground seats 1 front views
    → HasComeTo ground.base.page_count plan ground seats 1 (kept_by_place []) views
run_begins plan ground seats front views together = begins ground.base.page_count plan ground seats front (kept_by_place []) views none together
  where
    none : (phase session : ℕ) → kept_by_place [] phase session ≡ []
    none zero session = refl
    none (suc phase) session = refl

-- a phase behind which memory was wanting
pub phase_failed : {E F : Type 0} (plan : Plan) (ground : Ground) (seats phase : ℕ) (old new : ℕ → View) (kept : List (List (List Kept))) (answered : Result (List (List Kept)) E) (result : Result (List (List (List Kept))) F) → IsErr result →
    length kept + 1 ≡ phase → phase ≤ length plan → HasComeTo ground.base.page_count plan ground seats phase (kept_by_place kept) old → PhaseRuns plan ground seats phase old new answered → RunsPhases plan ground seats new result
phase_failed {E} {F} plan ground seats phase old new kept answered (Ok whole) failed long few come ran = absurd (not_failed F whole failed)
phase_failed {E} {F} plan ground seats phase old new kept (Ok one) (Err why) failed long few come ran =
    let behind = ran kept long come in
    (phase + 1, behind.front, omega (arith, few), behind.together)
phase_failed {E} {F} plan ground seats phase old new kept (Err other) (Err why) failed long few come ran =
    let behind = ran come.front come.together in
    (phase + 1, behind.0, omega (arith, few), behind.1)
