-- That what workers leave fits a run.
use Rattle.std.proofs.Common.{◌≡◌, ◌≢◌, ◌<◌, ◌≤◌, ◌+◌, ◌++◌, ◌∙◌, ◌==◌, ◌^◌, ◌-◌, ℕ, Bool, true, false, cond, List, [], ◌∷◌, length, Option, Some, None, slice_get, inl, inr, refl, ap, sym, subst, arith, append_assoc}
use Rattle.std.specs.Prelude.{is_some}
use Rattle.std.proofs.lemmas.Bool.{eq-eqb}
use Rattle.std.proofs.lemmas.List.Elements.{filter-append}
use Rattle.retro_base.specs.declared.limits.TheConstants.{SESSIONS}
use Rattle.retro_base.specs.declared.who.Who.{Who}
use Rattle.history.specs.declared.journal.FailedCall.TheVariants.{Write}
use Rattle.history.specs.declared.journal.Line.{Line}
use Rattle.history.specs.declared.journal.What.{What}
use Rattle.history.specs.declared.journal.What.TheVariants.{Fault}
use Rattle.std.specs.Option.{option_or}
use Rattle.history.specs.declared.stop.Stop.{Stop}
use Rattle.history.specs.Lines.{first_stop, lines_of, stop_of}
use Rattle.history.specs.Sound.{same_item}
use Rattle.journal_law.specs.Facts.{AreOthers}
use Rattle.journal_law.specs.Lawful.{HasRuns, IsRun, ItemsRise}
use Rattle.journal_law.specs.Own.{is_looked, last_behind, line, own}
use Rattle.journal_law.specs.Seating.{Sane}
use Rattle.journal_law.specs.Seats.{Idle, View, lines_before}
use Rattle.journal_law.proofs.Journal.{lines_of_seen, own_append, own_others}
use Rattle.journal_law.proofs.LineFacts.{lines_fit}
use Rattle.journal_law.proofs.Seating.{adds}
use Rattle.session.specs.Plan.{Item, Plan, item_in_phase, item_of, numbered}
use Rattle.session.specs.Run.{IsReady, OfPhase, SessionLeft}
use Rattle.session.specs.Sql.{sql}
use Rattle.session.specs.declared.plan.SessionPlan.{SessionPlan}
use Rattle.store.specs.declared.pace.Worker.{Worker}
use Rattle.store.specs.WorkerRounds.{IsFreshOrStopped, TellsFirst, WorkerLeaves, worker}
use Rattle.store.proofs.WorkerEnds.{all_append, rests_on}
use Rattle.retro.specs.Slots.{IsSeated, seat_at, view_in}
use Rattle.retro.specs.Working.{AllWorked, AreWorkers, WorkedAt}
use Rattle.retro.specs.declared.slots.Slot.{Slot}
use Rattle.retro.proofs.Phased.{all_so, left_on, none_of, run_none}
use Rattle.retro.proofs.Seated.{one_seat}

module _ (size : ℕ) (plan : Plan) (phase : ℕ) where
  -- a worker has no item
  no_item : (number : ℕ) → item_of plan (worker phase number) ≡ None
  no_item number = by_phase (numbered plan phase) refl
    where
      in_phase : (sessions : List SessionPlan) → item_in_phase (worker phase number) sessions ≡ None
      in_phase sessions = by_session (slice_get sessions number) refl
        where
          by_session : (o : Option SessionPlan) → slice_get sessions number ≡ o → item_in_phase (worker phase number) sessions ≡ None
          by_session None e = rw e refl
          by_session (Some session) e = rw e refl

      by_phase : (o : Option (List SessionPlan)) → numbered plan phase ≡ o → item_of plan (worker phase number) ≡ None
      by_phase None e = rw e refl
      by_phase (Some sessions) e = rw e (in_phase sessions)

  -- the line of a fault is the first of its number
  module _ (old mid new : View) (left : SessionLeft size plan phase old mid) (above : SESSIONS ≤ mid.session) (first : TellsFirst (worker phase mid.session) mid new) where
    abbrev number : ℕ
    number = mid.session

    abbrev who : Who
    who = worker phase number

    abbrev Told : List Line
    Told = line who (Fault first.device first.count Write) ∷ []

    abbrev before : List Line
    before = lines_before mid new first.adds.moves

    none_before : lines_of number before ≡ []
    none_before = lines_of_seen number before mid.front (record { rest = first.adds.moves.others; whole = refl; others = first.adds.moves.apart }) ∙ first.first

    others_before : AreOthers number before
    others_before = none_of number before none_before

    -- of its lines an item has those of the fault, if it is the worker's
    own_told : (asked : Who) → asked.session ≡ number → own asked new.front ≡ own asked Told
    own_told asked mine =
        ap (own asked) first.adds.moves.front ∙ own_append asked before Told
        ∙ ap (λ (whats : List What). whats ++ own asked Told) (own_others asked before (subst (λ (n : ℕ). AreOthers n before) (sym mine) others_before))

    same_who : (asked : Who) → same_item who asked ≡ true → who ≡ asked
    same_who asked e = by_fields e
      where
        by_fields : same_item who asked ≡ true → who ≡ asked
        by_fields e = grind (arith, e)

    own_none : (asked : Who) → (same_item who asked ≡ true → ⊥) → own asked Told ≡ []
    own_none asked apart = by_test (same_item who asked) refl
      where
        by_test : (b : Bool) → same_item who asked ≡ b → own asked Told ≡ []
        by_test true e = absurd (apart e)
        by_test false e = rw e refl

    fits : Sane (sql size) (item_of plan) new
    fits = adds (sql size) (item_of plan) mid new who (Fault first.device first.count Write) first.adds.moves
        ((lines_fit (sql size)).workers (item_of plan) mid.opened before who first.device first.count Write (no_item number) above looks_none is_above tt) left.fits
      where
        looks_none : is_looked (last_behind None (own who before)) ≡ false
        looks_none = ap (λ (whats : List What). is_looked (last_behind None whats)) (own_others who before others_before)

        is_above : first.count < 2 ^ 64 - 1 → mid.opened.faults first.device < first.count
        is_above less = subst (λ g. g.faults first.device < first.count) first.adds.moves.opened (first.is_new less)

    runs : HasRuns (sql size) (item_of plan) number new.front
    runs = record {
      order = subst ItemsRise (sym lines_told) (tt, tt);
      runs = λ asked item mine is. run_at asked item mine is (same_item who asked) refl;
      cut = λ asked later item mine is cut phase_is of_session behind.
          own_told later of_session ∙ own_none later (λ e. let same = same_who later e in absurd (omega (arith, behind, ap (λ (w : Who). w.item) same)));
    }
      where
        lines_told : lines_of number new.front ≡ Told
        lines_told =
            ap (lines_of number) first.adds.moves.front ∙ filter-append (λ (l : Line). l.who.session == number) before Told
            ∙ ap (λ (ls : List Line). ls ++ lines_of number Told) none_before ∙ ap (λ (b : Bool). cond b Told []) (eq-eqb number number refl)

        run_at : (asked : Who) (item : Item) → asked.session ≡ number → item_of plan asked ≡ Some item → (b : Bool) → same_item who asked ≡ b → IsRun ((sql size).kind item) (own asked new.front)
        run_at asked item mine is true e = absurd (none_some item (sym (no_item number) ∙ ap (item_of plan) (same_who asked e) ∙ is))
          where
            none_some : (i : Item) → None ≡ Some i → ⊥
            none_some i e = cc
        run_at asked item mine is false e =
            subst (IsRun ((sql size).kind item)) (sym (own_told asked mine ∙ own_none asked (λ t. absurd (false_true (sym e ∙ t))))) (run_none size plan ((sql size).kind item))
          where
            false_true : false ≡ true → ⊥
            false_true e = cc

    pub left_faulted : SessionLeft size plan phase old new
    left_faulted =
        let moves = first.adds.moves in
        record {
          session = moves.session ∙ left.session;
          opened = moves.opened ∙ left.opened;
          more = (left.more ++ moves.others) ++ Told;
          front = moves.front ∙ ap (λ (ls : List Line). (ls ++ moves.others) ++ Told) left.front
              ∙ ap (λ (ls : List Line). ls ++ Told) (append_assoc old.front left.more moves.others) ∙ append_assoc old.front (left.more ++ moves.others) Told;
          of_phase = all_append (OfPhase phase old.session) (left.more ++ moves.others) Told
              (all_append (OfPhase phase old.session) left.more moves.others left.of_phase
              (all_so (λ (l : Line). l.who.session ≢ mid.session) (OfPhase phase old.session) (λ l other mine. absurd (other (mine ∙ sym left.session))) moves.others moves.apart))
              ((λ mine. refl), tt);
          idle = first.adds.work_is;
          fits = fits;
          runs = subst (λ (n : ℕ). HasRuns (sql size) (item_of plan) n new.front) (sym moves.session) runs;
        }

  -- a worker has run behind what was left
  pub left_worked : (old mid new : View) → SESSIONS ≤ mid.session → SessionLeft size plan phase old mid → WorkerLeaves (worker phase mid.session) mid new → SessionLeft size plan phase old new
  left_worked old mid new above left (inl waits) = left_on size plan phase old mid new left waits
  left_worked old mid new above left (inr first) = left_faulted old mid new left above first

-- behind a fault the store has stopped
fault_stops : (a b : View) (phase : ℕ) → TellsFirst (worker phase a.session) a b → is_some (first_stop b.front) ≡ true
fault_stops a b phase first =
    subst (λ (ls : List Line). is_some (first_stop ls) ≡ true) (sym first.adds.moves.front) (at_end (a.front ++ first.adds.moves.others))
  where
    at_end : (lines : List Line) → is_some (first_stop (lines ++ line (worker phase a.session) (Fault first.device first.count Write) ∷ [])) ≡ true
    at_end [] = refl
    at_end (l ∷ ls) = by_first (stop_of l.what) (at_end ls)
      where
        by_first : (o : Option Stop) → is_some (first_stop (ls ++ line (worker phase a.session) (Fault first.device first.count Write) ∷ [])) ≡ true
            → is_some (option_or o (first_stop (ls ++ line (worker phase a.session) (Fault first.device first.count Write) ∷ []))) ≡ true
        by_first None is = is
        by_first (Some s) is = refl

-- a worker may run where it has run
pub rests_worked : (a b : View) (phase : ℕ) → WorkerLeaves (worker phase a.session) a b → IsFreshOrStopped a → IsFreshOrStopped b
rests_worked a b phase (inl waits) rests = rests_on a b waits.moves rests
rests_worked a b phase (inr first) rests = inr (fault_stops a b phase first)

-- ---- a seat in its slot

-- nobody has run at a seat
pub left_none : (size : ℕ) (plan : Plan) (phase behind : ℕ) (view : View) → IsReady size plan behind view → SessionLeft size plan phase view view
left_none size plan phase behind view ready = record {
  session = refl;
  opened = refl;
  more = [];
  front = nothing view.front;
  of_phase = tt;
  idle = ready.idle;
  fits = ready.fits;
  runs = ready.runs;
}
  where
    nothing : (lines : List Line) → lines ≡ lines ++ []
    nothing [] = refl
    nothing (line ∷ lines) = ap (λ (ls : List Line). line ∷ ls) (nothing lines)

-- What is so of a seat behind those of the sessions, where a phase has run.
pub record StayedAt {S : Type 0} (view : S → View) (goes : S → S → Type 0) (phase number : ℕ) (old new : Option S) : Type 0 where
  pub before : S
  pub behind : S
  pub was : old ≡ Some before
  pub is : new ≡ Some behind
  pub number_is : (view behind).session ≡ number
  pub idle : (view behind).work ≡ Idle
  pub stays : goes before behind
  pub left : (size : ℕ) (plan : Plan) → IsReady size plan phase (view before) → SessionLeft size plan phase (view before) (view behind)
  pub rests : IsFreshOrStopped (view before) → IsFreshOrStopped (view behind)

module _ {S : Type 0} (view : S → View) (goes : S → S → Type 0) (phase number : ℕ) (old : Option S) (seated : IsSeated view number old) where
  -- nobody ran at it
  pub stayed_same : ((s : S) → goes s s) → (new : Option S) → new ≡ old → StayedAt view goes phase number old new
  stayed_same stays new same = record {
    before = seated.seat;
    behind = seated.seat;
    was = seated.sits;
    is = same ∙ seated.sits;
    number_is = seated.number_is;
    idle = seated.idle;
    stays = stays seated.seat;
    left = λ size plan ready. left_none size plan phase phase (view seated.seat) ready;
    rests = λ rests. rests;
  }

  -- a worker ran at it, and once more
  pub stayed_twice : {works : ℕ → Worker → S → S → Type 0} → ((s t u : S) → goes s t → goes t u → goes s u) → SESSIONS ≤ number → (mid new : Option S) → WorkedAt view goes works phase number old mid → WorkedAt view goes works phase number mid new → StayedAt view goes phase number old new
  stayed_twice goes_on above mid new one two =
      let here : seated.seat ≡ one.before = one_seat S seated.seat one.before (sym seated.sits ∙ one.was) in
      let number_before : (view one.before).session ≡ number = subst (λ (s : S). (view s).session ≡ number) here seated.number_is in
      let there : one.behind ≡ two.before = one_seat S one.behind two.before (sym one.is ∙ two.was) in
      let number_mid : (view two.before).session ≡ number = subst (λ (s : S). (view s).session ≡ number) there one.number_is in
      let first : WorkerLeaves (worker phase (view one.before).session) (view one.before) (view two.before) =
      subst (λ (n : ℕ). WorkerLeaves (worker phase n) (view one.before) (view two.before)) (sym number_before)
      (subst (λ (s : S). WorkerLeaves (worker phase number) (view one.before) (view s)) there one.leaves) in
      let last : WorkerLeaves (worker phase (view two.before).session) (view two.before) (view two.behind) =
      subst (λ (n : ℕ). WorkerLeaves (worker phase n) (view two.before) (view two.behind)) (sym number_mid) two.leaves in
      record {
        before = one.before;
        behind = two.behind;
        was = one.was;
        is = two.is;
        number_is = two.number_is;
        idle = two.idle;
        stays = goes_on one.before two.before two.behind (subst (goes one.before) there one.stays) two.stays;
        left = λ size plan ready.
            left_worked size plan phase (view one.before) (view two.before) (view two.behind) (subst (λ (n : ℕ). SESSIONS ≤ n) (sym number_mid) above)
            (left_worked size plan phase (view one.before) (view one.before) (view two.before) (subst (λ (n : ℕ). SESSIONS ≤ n) (sym number_before) above)
            (left_none size plan phase phase (view one.before) ready) first) last;
        rests = λ rests. rests_worked (view two.before) (view two.behind) phase last (rests_worked (view one.before) (view two.before) phase first rests);
      }

  pub worked_rests : {works : ℕ → Worker → S → S → Type 0} → (new : Option S) → WorkedAt view goes works phase number old new → IsFreshOrStopped (view_in view old) → IsFreshOrStopped (view_in view new)
  worked_rests new one rests =
      let here : seated.seat ≡ one.before = one_seat S seated.seat one.before (sym seated.sits ∙ one.was) in
      let number_before : (view one.before).session ≡ number = subst (λ (s : S). (view s).session ≡ number) here seated.number_is in
      subst (λ (o : Option S). IsFreshOrStopped (view_in view o)) (sym one.is)
      (rests_worked (view one.before) (view one.behind) phase (subst (λ (n : ℕ). WorkerLeaves (worker phase n) (view one.before) (view one.behind)) (sym number_before) one.leaves)
      (subst (λ (o : Option S). IsFreshOrStopped (view_in view o)) one.was rests))

module _ {S : Type 0} (view : S → View) (goes : S → S → Type 0) (phase : ℕ) (old mid : List (Slot S)) (count : length mid ≡ length old) where
  -- workers may run again where they have run
  pub still_workers : {works : ℕ → Worker → S → S → Type 0} → AreWorkers view old → AllWorked view goes works phase old mid → AreWorkers view mid
  still_workers are worked place less =
      let inside : place < length old = subst (λ (n : ℕ). place < n) count less in
      let one = worked place inside in (
        record { seat = one.behind; sits = one.is; number_is = one.number_is; idle = one.idle },
        worked_rests view goes phase (SESSIONS + place) (seat_at old place) (are place inside).0 (seat_at mid place) one (are place inside).1,
      )
