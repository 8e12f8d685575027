-- That the whole journal of a run tells what was kept of each item.
use Rattle.std.proofs.Common.{◌≡◌, ◌<◌, ◌+◌, ◌++◌, ◌==◌, ◌&&◌, ℕ, Bool, true, false, List, [], ◌∷◌, refl, ap, sym, subst, ◌∙◌, arith}
use Rattle.std.specs.List.{AllByRecursion}
use Rattle.std.proofs.lemmas.Bool.Decides.{nat_tests}
use Rattle.retro_base.specs.declared.device.Device.{Device}
use Rattle.retro_base.specs.declared.who.Who.{Who}
use Rattle.tables.specs.Tables.{Tables}
use Rattle.history.specs.declared.journal.Line.{Line}
use Rattle.history.specs.Sound.{same_item}
use Rattle.journal_law.specs.Lawful.{Opening}
use Rattle.journal_law.specs.Own.{own}
use Rattle.journal_law.specs.Shows.{Shows, ShowsAlong}
use Rattle.journal_law.specs.World.{World}
use Rattle.journal_law.proofs.Journal.{along_front}
use Rattle.session.specs.Plan.{Plan, item_of, names_at, tasks_at}
use Rattle.session.specs.Replies.{Known, Standing, kept_at, kept_by, kept_in, known_by, standing_behind, starting, who_is}
use Rattle.session.specs.Run.{HasKept, HasRun, IsBehind}
use Rattle.session.specs.Sql.{sql}
use Rattle.session.specs.declared.kept.Kept.{Kept}
use Rattle.session.specs.declared.plan.Task.{Task}
use Rattle.session.proofs.Runs.{known_stays, law_of_runs}

kept_same : (size : ℕ) (a b : ℕ → Known) (names : List (List ℕ)) → ((n : ℕ) → a n ≡ b n) → (standing : Standing) (number : ℕ) (tasks : List Task)
    → kept_by size a names standing number tasks ≡ kept_by size b names standing number tasks
kept_same size a b names same standing number [] = refl
kept_same size a b names same standing number (task ∷ tasks) =
    ap (λ (k : Known). kept_at size k standing (record { names = names; task = task }) ∷ kept_by size a names (standing_behind k standing task) (number + 1) tasks) (same number)
    ∙ ap (λ (more : List Kept). kept_at size (b number) standing (record { names = names; task = task }) ∷ more)
    (kept_same size a b names same (standing_behind (b number) standing task) (number + 1) tasks)

-- lines of later phases are none of an item's
later_apart : (phase session number : ℕ) (who : Who) → (who.session ≡ session → phase < who.phase) → same_item who (who_is phase session number) ≡ false
later_apart phase session number who behind = by_test (who.phase == phase) (who.session == session) refl refl
  where
    by_test : (here mine : Bool) → (who.phase == phase) ≡ here → (who.session == session) ≡ mine → (here && mine && (who.item == number)) ≡ false
    by_test false mine e f = refl
    by_test true false e f = refl
    by_test true true e f =
        let is : who.phase ≡ phase = grind (arith, nat_tests) in
        let mine : who.session ≡ session = grind (arith, nat_tests) in
        let less : phase < who.phase = behind mine in
        absurd (grind (arith))

none_later : (phase session number : ℕ) (lines : List Line) → AllByRecursion (IsBehind phase session) lines → own (who_is phase session number) lines ≡ []
none_later phase session number [] later = refl
none_later phase session number (l ∷ lines) later = rw (later_apart phase session number l.who later.0) (none_later phase session number lines later.1)

module _ (size : ℕ) (plan : Plan) (wanting : Who → Bool) (o : Opening (sql size)) (ending : Device → ℕ) (journal : List Line) (kept : ℕ → ℕ → List Kept) where
  pub journal_tells : Shows (sql size) o.opened.pages o.tables → HasRun size plan wanting o.opened ending journal kept → (phase session : ℕ)
      → kept phase session ≡ kept_in size (known_by size plan wanting o.tables journal) plan phase session
  journal_tells shows run phase session =
      has.is_kept o.tables front
      ∙ kept_same size (λ (n : ℕ). known_by size plan wanting o.tables has.front (who_is phase session n)) (λ (n : ℕ). known_by size plan wanting o.tables (has.front ++ has.rest) (who_is phase session n)) (names_at plan phase)
      (λ n. known_stays size plan wanting o.tables has.front has.rest (who_is phase session n) (none_later phase session n has.rest has.later)) starting 1 (tasks_at plan phase session)
      ∙ ap (λ (js : List Line). kept_in size (known_by size plan wanting o.tables js) plan phase session) (sym has.whole)
    where
      has : HasKept size plan wanting o.opened journal phase session (kept phase session)
      has = run.has_kept phase session

      along : ShowsAlong (sql size) (item_of plan) o.opened.pages o.tables journal
      along = (law_of_runs size plan wanting o ending journal kept shows run).shows

      front : ShowsAlong (sql size) (item_of plan) o.opened.pages o.tables has.front
      front = along_front (sql size) (item_of plan) o.opened.pages o.tables has.front has.rest (subst (λ (js : List Line). ShowsAlong (sql size) (item_of plan) o.opened.pages o.tables js) has.whole along)
