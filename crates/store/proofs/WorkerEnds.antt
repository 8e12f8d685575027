-- What a worker leaves that was run unless the store had stopped.
use Rattle.std.proofs.Common.{◌≡◌, ◌≢◌, ◌++◌, ◌∙◌, ℕ, true, false, List, [], ◌∷◌, Option, Some, None, Result, Ok, Err, inl, inr, append-nil, append_assoc, refl, sym, ap, subst}
use Rattle.std.specs.Prelude.{is_some}
use Rattle.std.specs.List.{AllByRecursion}
use Rattle.std.specs.Option.{option_or}
use Rattle.retro_base.specs.declared.refusal.Refusal.{Refusal}
use Rattle.retro_base.specs.declared.refusal.Refusal.TheVariants.{DiskFault}
use Rattle.retro_base.specs.declared.who.Who.{Who}
use Rattle.history.specs.declared.journal.Line.{Line}
use Rattle.history.specs.declared.stop.Stop.{Stop}
use Rattle.history.specs.Lines.{first_stop, lines_of, stop_of}
use Rattle.journal_law.specs.Facts.{AreOthers, HasSeen}
use Rattle.journal_law.specs.Seats.{Idle, Moves, View, Waits}
use Rattle.journal_law.proofs.Journal.{lines_of_seen}
use Rattle.turn.specs.Seats.{mine, seen}
use Rattle.store.specs.declared.pace.Ended.{Ended}
use Rattle.store.specs.declared.pace.Worker.{Worker}
use Rattle.store.specs.declared.pace.Worker.TheVariants.{Copier, Flusher}
use Rattle.store.specs.Seats.{Sat}
use Rattle.store.specs.WorkerRounds.{IsFreshOrStopped, MayWork, WorkerGives, WorkerLeaves, number_of}
use Rattle.store.specs.Workers.{IsWorker, has_fault}

-- ---- lines of others

pub all_append : (P : Line → Type 0) (xs ys : List Line) → AllByRecursion P xs → AllByRecursion P ys → AllByRecursion P (xs ++ ys)
all_append P [] ys one two = two
all_append P (x ∷ xs) ys one two = (one.0, all_append P xs ys one.1 two)

pub waits_none : (v : View) → Waits v v v.work
waits_none v = record {
  moves = record { session = refl; opened = refl; others = []; apart = tt; front = sym (append-nil (v.front ++ []) ∙ append-nil v.front) };
  work_is = refl;
  told_is = refl;
}

-- lines of others alone, and then what comes behind them
pub moves_on : (a b c : View) (own : List Line) → Moves a b [] → Moves b c own → Moves a c own
moves_on a b c own one two = record {
  session = two.session ∙ one.session;
  opened = two.opened ∙ one.opened;
  others = one.others ++ two.others;
  apart = all_append (λ (line : Line). line.who.session ≢ a.session) one.others two.others one.apart (subst (λ (s : ℕ). AreOthers s two.others) one.session two.apart);
  front = two.front ∙ ap (λ (ls : List Line). ls ++ own) (ap (λ (ls : List Line). ls ++ two.others) (one.front ∙ append-nil (a.front ++ one.others)) ∙ append_assoc a.front one.others two.others);
}

pub waits_on : (a b c : View) → Waits a b a.work → Waits b c b.work → Waits a c a.work
waits_on a b c one two = record { moves = moves_on a b c [] one.moves two.moves; work_is = two.work_is ∙ one.work_is; told_is = two.told_is ∙ one.told_is }

-- a seat that recorded no line has recorded none then
pub fresh_on : (a b : View) → Moves a b [] → lines_of a.session a.front ≡ [] → lines_of b.session b.front ≡ []
fresh_on a b moves fresh =
    let has : HasSeen a.session a.front b.front = record { rest = moves.others; whole = moves.front ∙ append-nil (a.front ++ moves.others); others = moves.apart } in
    ap (λ (n : ℕ). lines_of n b.front) moves.session ∙ lines_of_seen a.session b.front a.front has ∙ fresh

-- a store that has stopped has stopped then
pub stop_on : (xs ys : List Line) → is_some (first_stop xs) ≡ true → is_some (first_stop (xs ++ ys)) ≡ true
stop_on [] ys is = absurd (cc is)
stop_on (l ∷ xs) ys is = by_first (stop_of l.what) is (stop_on xs ys)
  where
    by_first : (first : Option Stop) → is_some (option_or first (first_stop xs)) ≡ true → (is_some (first_stop xs) ≡ true → is_some (first_stop (xs ++ ys)) ≡ true) → is_some (option_or first (first_stop (xs ++ ys))) ≡ true
    by_first None is rest = rest is
    by_first (Some s) is rest = refl

pub stopped_on : (a b : View) (own : List Line) → Moves a b own → is_some (first_stop a.front) ≡ true → is_some (first_stop b.front) ≡ true
stopped_on a b own moves is =
    subst (λ (ls : List Line). is_some (first_stop ls) ≡ true) (sym (moves.front ∙ append_assoc a.front moves.others own)) (stop_on a.front (moves.others ++ own) is)

pub rests_on : (a b : View) → Moves a b [] → IsFreshOrStopped a → IsFreshOrStopped b
rests_on a b moves (inl fresh) = inl (fresh_on a b moves fresh)
rests_on a b moves (inr stopped) = inr (stopped_on a b [] moves stopped)

-- ---- a worker that ran

-- where the store has not stopped then, the seat has recorded no line
pub was_fresh : (a b : View) → Moves a b [] → is_some (first_stop b.front) ≡ false → IsFreshOrStopped a → lines_of a.session a.front ≡ []
was_fresh a b moves goes (inl fresh) = fresh
was_fresh a b moves goes (inr stopped) = absurd (no (sym (stopped_on a b [] moves stopped) ∙ goes))
  where
    no : true ≡ false → ⊥
    no e = cc

-- the seat of a worker is one of the two
pub of_worker : (kind : Worker) (number : ℕ) → number ≡ number_of kind → IsWorker number
of_worker Copier number e = inl e
of_worker Flusher number e = inr e

pub may_work : {D : Type 0} (s : Sat D) → IsWorker s.number → (mine s).work ≡ None → lines_of s.number (seen s) ≡ [] → MayWork s
may_work s worker idle fresh = record { idle = idle; fresh = (worker, ap has_fault fresh) }

pub ends : (who : Who) (a b c : View) (result : Result Ended Refusal) → a.work ≡ Idle → Waits a b a.work → lines_of a.session a.front ≡ [] → WorkerGives who b c result → WorkerLeaves who a c
ends who a b c (Err (DiskFault d n)) idle waits fresh gives = inr record {
  first = fresh;
  device = d;
  count = n;
  adds = record { moves = moves_on a b c _ waits.moves gives.0.moves; work_is = gives.0.work_is; told_is = gives.0.told_is };
  is_new = gives.1;
}
ends who a b c (Ok x) idle waits fresh gives = inl (waits_on a b c waits gives)
ends who a b c (Err _) idle waits fresh gives = inl (waits_on a b c waits gives)
