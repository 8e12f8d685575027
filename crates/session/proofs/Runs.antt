-- That a run is lawful, and prints the transcript of its journal.
use Rattle.std.proofs.Common.{◌≡◌, ◌<◌, ◌+◌, ◌++◌, ◌==◌, ◌&&◌, ℕ, Bool, true, false, List, [], ◌∷◌, codes, length, Option, None, refl, ap, sym, subst, ◌∙◌, append-nil, arith}
use Rattle.std.specs.Fmt.{decimal}
use Rattle.std.specs.List.{AllByRecursion}
use Rattle.std.proofs.lemmas.Bool.Decides.{nat_tests}
use Rattle.retro_base.specs.declared.who.Who.{Who}
use Rattle.tables.specs.Tables.{Tables}
use Rattle.history.specs.declared.journal.Line.{Line}
use Rattle.history.specs.Sound.{same_item}
use Rattle.journal_law.specs.Fates.{fate}
use Rattle.journal_law.specs.Own.{own}
use Rattle.journal_law.specs.Shows.{ShowsAlong, world}
use Rattle.journal_law.specs.World.{World, newest}
use Rattle.journal_law.proofs.Journal.{along_front, fate_append, law, own_append}
use Rattle.journal_law.proofs.Lasts.{no_fate_own}
use Rattle.session.specs.Line.{line}
use Rattle.session.specs.Plan.{Plan, item_of, names_at, tasks_at}
use Rattle.session.specs.Replies.{Known, Standing, items_text, kept_at, kept_by, kept_in, known_by, phases_text, sessions_text, standing_behind, starting, who_is}
use Rattle.session.specs.Run.{IsBehind, LawOfRuns}
use Rattle.session.specs.Sql.{sql}
use Rattle.session.specs.Visible.{visible_text}
use Rattle.session.specs.declared.kept.Kept.{Kept}
use Rattle.session.specs.declared.plan.SessionPlan.{SessionPlan}
use Rattle.session.specs.declared.plan.Task.{Task}

-- ---- what is kept is a matter of what is known of each item

kept_same : (size : ℕ) (a b : ℕ → Known) (names : List (List ℕ)) → ((n : ℕ) → a n ≡ b n) → (standing : Standing) (number : ℕ) (tasks : List Task)
    → kept_by size a names standing number tasks ≡ kept_by size b names standing number tasks
kept_same size a b names same standing number [] = refl
kept_same size a b names same standing number (task ∷ tasks) =
    ap (λ (k : Known). kept_at size k standing (record { names = names; task = task }) ∷ kept_by size a names (standing_behind k standing task) (number + 1) tasks) (same number)
    ∙ ap (λ (more : List Kept). kept_at size (b number) standing (record { names = names; task = task }) ∷ more)
    (kept_same size a b names same (standing_behind (b number) standing task) (number + 1) tasks)

-- ---- what is printed is a matter of what is kept of each session

sessions_same : (lines : ℕ) (a b : ℕ → List Kept) → ((place : ℕ) → a place ≡ b place) → (place : ℕ) (sessions : List SessionPlan) → sessions_text lines a place sessions ≡ sessions_text lines b place sessions
sessions_same lines a b same place [] = refl
sessions_same lines a b same place (session ∷ sessions) =
    ap (λ (kept : List Kept). line (codes "session " ++ session.name) ++ items_text lines 1 kept ++ sessions_text lines a (place + 1) sessions) (same place)
    ∙ ap (λ (text : List ℕ). line (codes "session " ++ session.name) ++ items_text lines 1 (b place) ++ text) (sessions_same lines a b same (place + 1) sessions)

phases_same : (lines : ℕ) (a b : ℕ → ℕ → List Kept) → ((phase place : ℕ) → a phase place ≡ b phase place) → (number : ℕ) (plan : Plan) → phases_text lines a number plan ≡ phases_text lines b number plan
phases_same lines a b same number [] = refl
phases_same lines a b same number (sessions ∷ phases) =
    ap (λ (text : List ℕ). line (codes "phase " ++ decimal number) ++ text ++ phases_text lines a (number + 1) phases) (sessions_same lines (a number) (b number) (same number) 0 sessions)
    ∙ ap (λ (text : List ℕ). line (codes "phase " ++ decimal number) ++ sessions_text lines (b number) 0 sessions ++ text) (phases_same lines a b same (number + 1) phases)

-- ---- lines of later phases leave what is known

later_apart : (phase session number : ℕ) (who : Who) → (who.session ≡ session → phase < who.phase) → same_item who (who_is phase session number) ≡ false
later_apart phase session number who behind = by_test (who.phase == phase) (who.session == session) refl refl
  where
    by_test : (here mine : Bool) → (who.phase == phase) ≡ here → (who.session == session) ≡ mine → (here && mine && (who.item == number)) ≡ false
    by_test false mine e f = refl
    by_test true false e f = refl
    by_test true true e f =
        let is : who.phase ≡ phase = grind (arith, nat_tests) in
        let mine : who.session ≡ session = grind (arith, nat_tests) in
        let less : phase < who.phase = behind mine in
        absurd (grind (arith))

none_later : (phase session number : ℕ) (lines : List Line) → AllByRecursion (IsBehind phase session) lines → own (who_is phase session number) lines ≡ []
none_later phase session number [] later = refl
none_later phase session number (l ∷ lines) later = rw (later_apart phase session number l.who later.0) (none_later phase session number lines later.1)

module _ (size : ℕ) (plan : Plan) (wanting : Who → Bool) (opening : World Tables) where
  pub known_stays : (front rest : List Line) (who : Who) → own who rest ≡ [] → known_by size plan wanting opening front who ≡ known_by size plan wanting opening (front ++ rest) who
  known_stays front rest who none =
      let lines : own who (front ++ rest) ≡ own who front = own_append who front rest ∙ ap (λ w. own who front ++ w) none ∙ append-nil (own who front) in
      let became : fate (sql size) (item_of plan) who opening (front ++ rest) ≡ fate (sql size) (item_of plan) who opening front =
      fate_append (sql size) (item_of plan) who opening None front rest
      ∙ no_fate_own (sql size) (item_of plan) who (world (sql size) (item_of plan) opening front) (fate (sql size) (item_of plan) who opening front) rest none in
      rw (lines, became) refl

  kept_stays : (front rest : List Line) (phase session : ℕ) → AllByRecursion (IsBehind phase session) rest
      → kept_in size (known_by size plan wanting opening front) plan phase session ≡ kept_in size (known_by size plan wanting opening (front ++ rest)) plan phase session
  kept_stays front rest phase session later =
      kept_same size (λ (number : ℕ). known_by size plan wanting opening front (who_is phase session number)) (λ (number : ℕ). known_by size plan wanting opening (front ++ rest) (who_is phase session number))
      (names_at plan phase) (λ n. known_stays front rest (who_is phase session n) (none_later phase session n rest later)) starting 1 (tasks_at plan phase session)

pub law_of_runs : (size : ℕ) → LawOfRuns size
law_of_runs size plan wanting o ending journal kept shows run = record {
  shows = along;
  lawful = (law (sql size)).lawful (item_of plan) o ending journal shows run.fit run.closed;
  is_text = ap (λ (text : List ℕ). text ++ line (codes "journal") ++ visible_text plan (newest o.tables) journal) (phases_same (length journal) kept told each 1 plan);
}
  where
    along : ShowsAlong (sql size) (item_of plan) o.opened.pages o.tables journal
    along = (law (sql size)).shows (item_of plan) o journal shows run.fit

    told : ℕ → ℕ → List Kept
    told = kept_in size (known_by size plan wanting o.tables journal) plan

    each : (phase session : ℕ) → kept phase session ≡ told phase session
    each phase session =
        let has = run.has_kept phase session in
        let front : ShowsAlong (sql size) (item_of plan) o.opened.pages o.tables has.front =
        along_front (sql size) (item_of plan) o.opened.pages o.tables has.front has.rest (subst (λ (js : List Line). ShowsAlong (sql size) (item_of plan) o.opened.pages o.tables js) has.whole along) in
        has.is_kept o.tables front ∙ kept_stays size plan wanting o.tables has.front has.rest phase session has.later
        ∙ ap (λ (js : List Line). kept_in size (known_by size plan wanting o.tables js) plan phase session) (sym has.whole)
