-- What is kept of the items of a session, one after the other.
use Rattle.std.proofs.Common.{◌≡◌, ◌⊎◌, ◌<◌, ◌≤◌, ◌+◌, ◌++◌, ◌||◌, ℕ, Bool, true, false, cond, List, [], ◌∷◌, length, slice_get, suc, refl, ap, sym, subst, ◌∙◌, inl, inr, arith}
use Rattle.std.specs.Prelude.{option_to_list}
use Rattle.std.specs.Option.{option_map_or}
use Rattle.std.specs.Str.{bytes_eq}
use Rattle.std.proofs.lemmas.Slice.Eq.{bytes_eq-Decides}
use Rattle.retro_base.specs.declared.refusal.Refusal.TheVariants as refusal
use Rattle.retro_base.specs.declared.who.Who.{Who}
use Rattle.tables.specs.Tables.{Tables}
use Rattle.journal_law.specs.Language.{Kind}
use Rattle.journal_law.specs.Language as law
use Rattle.journal_law.specs.Own.{own}
use Rattle.journal_law.specs.Seats.{View}
use Rattle.journal_law.specs.Shows.{ShowsAlong}
use Rattle.journal_law.specs.World.{World}
use Rattle.session.specs.OneTask.{IsDone, IsToldBy}
use Rattle.session.specs.Plan.{Item, Plan, item_of}
use Rattle.session.specs.Held.{GiveAlike, held}
use Rattle.session.specs.OverSnapshots.{results_asked}
use Rattle.session.specs.Replies.{Known, SaysWanting, Standing, answer_or_refusal, is_cut, is_wanting, kept_at, kept_by, kept_of, known_by, left, lineless, standing_behind, starting, who_is}
use Rattle.session.specs.SoFar.{IsBehind, KeptOf, Says, cuts, kept_as, standing_after, with_kept}
use Rattle.session.specs.Sql.{kind_of, sql}
use Rattle.session.specs.Wording.{refusal_text}
use Rattle.session.specs.declared.item.Done.{Done}
use Rattle.session.specs.declared.item.Done.TheVariants as done
use Rattle.session.specs.declared.kept.Kept.{Kept}
use Rattle.session.specs.declared.kept.Kept.TheVariants as kept
use Rattle.session.specs.declared.passing.Progress.{Progress}
use Rattle.session.specs.declared.plan.Task.{Task}
use Rattle.session.specs.declared.plan.Task.TheVariants as asking
use Rattle.session.specs.declared.result_table.ResultTable.{ResultTable}
use Rattle.session.proofs.ResultTables.{alike_more}

-- ---- behind one task more

module _ (size : ℕ) (known : ℕ → Known) (names : List (List ℕ)) where
  pub kept_more : (standing : Standing) (number : ℕ) (tasks : List Task) (task : Task) (last : ℕ) → last ≡ number + length tasks
      → kept_by size known names standing number (tasks ++ task ∷ []) ≡ kept_by size known names standing number tasks ++ kept_at size (known last) (standing_after known standing number tasks) (record { names = names; task = task }) ∷ []
  kept_more standing number [] task last e =
      let here : last ≡ number = omega (arith, e) in
      rw here refl
  kept_more standing number (t ∷ tasks) task last e =
      ap (λ (more : List Kept). kept_at size (known number) standing (record { names = names; task = t }) ∷ more) (kept_more (standing_behind (known number) standing t) (number + 1) tasks task last (omega (arith, e)))

pub after_more : (known : ℕ → Known) (standing : Standing) (number : ℕ) (tasks : List Task) (task : Task) (last : ℕ) → last ≡ number + length tasks
    → standing_after known standing number (tasks ++ task ∷ []) ≡ standing_behind (known last) (standing_after known standing number tasks) task
after_more known standing number [] task last e =
    let here : last ≡ number = omega (arith, e) in
    rw here refl
after_more known standing number (t ∷ tasks) task last e = after_more known (standing_behind (known number) standing t) (number + 1) tasks task last (omega (arith, e))

-- ---- what is known of the tasks alone counts

kept_within : (size : ℕ) (a b : ℕ → Known) (names : List (List ℕ)) (standing : Standing) (number : ℕ) (tasks : List Task) → ((n : ℕ) → number ≤ n → n < number + length tasks → a n ≡ b n)
    → kept_by size a names standing number tasks ≡ kept_by size b names standing number tasks
kept_within size a b names standing number [] same = refl
kept_within size a b names standing number (task ∷ tasks) same =
    ap (λ (k : Known). kept_at size k standing (record { names = names; task = task }) ∷ kept_by size a names (standing_behind k standing task) (number + 1) tasks) (same number (omega arith) (omega arith))
    ∙ ap (λ (more : List Kept). kept_at size (b number) standing (record { names = names; task = task }) ∷ more)
    (kept_within size a b names (standing_behind (b number) standing task) (number + 1) tasks (λ n from to. same n (omega arith) (omega arith)))

after_within : (a b : ℕ → Known) (standing : Standing) (number : ℕ) (tasks : List Task) → ((n : ℕ) → number ≤ n → n < number + length tasks → a n ≡ b n)
    → standing_after a standing number tasks ≡ standing_after b standing number tasks
after_within a b standing number [] same = refl
after_within a b standing number (task ∷ tasks) same =
    ap (λ (k : Known). standing_after a (standing_behind k standing task) (number + 1) tasks) (same number (omega arith) (omega arith))
    ∙ after_within a b (standing_behind (b number) standing task) (number + 1) tasks (λ n from to. same n (omega arith) (omega arith))

pub kept_of_same : (size : ℕ) (names : List (List ℕ)) (tasks : List Task) (a b : ℕ → Known) (progress : Progress) → ((n : ℕ) → 1 ≤ n → n < 1 + length tasks → a n ≡ b n) → KeptOf size names tasks a progress → KeptOf size names tasks b progress
kept_of_same size names tasks a b progress same has = record {
  kept = has.kept ∙ kept_within size a b names starting 1 tasks same;
  stopped = ap (λ (s : Standing). s.stopped) (sym (after_within a b starting 1 tasks same)) ∙ has.stopped;
  results = λ going. subst (λ (s : Standing). GiveAlike s.results (held progress.results)) (after_within a b starting 1 tasks same) (has.results going);
}

-- ---- one more that is not run

pub kept_not_run : (size : ℕ) (names : List (List ℕ)) (tasks : List Task) (task : Task) (known : ℕ → Known) (progress : Progress) → progress.stopped ≡ true → KeptOf size names tasks known progress
    → KeptOf size names (tasks ++ task ∷ []) known (with_kept kept.NotRun progress)
kept_not_run size names tasks task known progress is has =
    let before = standing_after known starting 1 tasks in
    let stopped : before.stopped ≡ true = has.stopped ∙ is in
    let one : kept_at size (known (1 + length tasks)) before (record { names = names; task = task }) ≡ kept.NotRun = rw stopped refl in
    let after = after_more known starting 1 tasks task (1 + length tasks) refl in
    let still : (standing_behind (known (1 + length tasks)) before task).stopped ≡ true = rw stopped refl in
    record {
      kept =
          ap (λ (ks : List Kept). ks ++ kept.NotRun ∷ []) has.kept
          ∙ ap (λ (k : Kept). kept_by size known names starting 1 tasks ++ k ∷ []) (sym one)
          ∙ sym (kept_more size known names starting 1 tasks task (1 + length tasks) refl);
      stopped = ap (λ (s : Standing). s.stopped) after ∙ still ∙ sym is;
      results = λ going. absurd (different (sym is ∙ going));
    }
  where
    different : true ≡ false → ⊥
    different e = cc

-- ---- one more that is run

-- the result table that it leaves, where it was not cut short
abbrev pub Leaves : Item → Known → Done → Type 0
Leaves item known (done.Told text table) = option_to_list table ≡ left item.task known.fate
Leaves item known done.CutShort = Unit {0}

-- what the run of an item tells is what is kept of it, by what is known of it
pub record IsKeptAs (size : ℕ) (item : Item) (results : List ResultTable) (known : Known) (one : Done) : Type 0 where
  pub kept : kept_of size known results item (kind_of item.task) ≡ kept_as one
  pub cut : is_cut (kind_of item.task) known.whats ≡ cuts one
  pub leaves : Leaves item known one

same_text : (text other : List ℕ) (b : Bool) → bytes_eq text (refusal_text [] refusal.OutOfMemory) ≡ b → (text ≡ refusal_text [] refusal.OutOfMemory) ⊎ (text ≡ other) → cond b (refusal_text [] refusal.OutOfMemory) other ≡ text
same_text text other true e told = sym ((bytes_eq-Decides text (refusal_text [] refusal.OutOfMemory)).0 e)
same_text text other false e (inl is) =
    let same = (bytes_eq-Decides text (refusal_text [] refusal.OutOfMemory)).1 is in
    absurd (different (sym same ∙ e))
  where
    different : true ≡ false → ⊥
    different f = cc
same_text text other false e (inr is) = sym is

module _ (size : ℕ) (plan : Plan) (who : Who) (item : Item) (results : List ResultTable) (new : View) where
  -- what is told of an item was not cut short
  pub told_whole : (kind : Kind) (text : List ℕ) → kind ≡ kind_of item.task → IsToldBy size plan who item results new kind text → is_cut kind (own who new.front) ≡ false
  told_whole law.Lineless text e told = refl
  told_whole kind text e told = subst (λ (k : Kind). is_cut k (own who new.front) ≡ false) (sym e) told.0

  module _ (wanting : Who → Bool) (tables : World Tables) where
    told_kept : (kind : Kind) (text : List ℕ) → kind ≡ kind_of item.task → IsToldBy size plan who item results new kind text → ShowsAlong (sql size) (item_of plan) new.opened.pages tables new.front
        → wanting who ≡ is_wanting (kept.Told text) → (kept_of size (known_by size plan wanting tables new.front who) results item kind ≡ kept.Told text) × (is_cut kind (own who new.front) ≡ false)
    told_kept law.Lineless text e told along says =
        (ap kept.Told (same_text text (lineless results item.task) (wanting who) (sym says) told), refl)
    told_kept kind text e told along says =
        let whole : is_cut kind (own who new.front) ≡ false = told_whole kind text e told in
        (rw whole (ap kept.Told (sym (told.1 tables along))), whole)

    cut_kept : (kind : Kind) → is_cut kind (own who new.front) ≡ true → kept_of size (known_by size plan wanting tables new.front who) results item kind ≡ kept.CutShort
    cut_kept law.Lineless is = absurd (different is)
      where
        different : false ≡ true → ⊥
        different f = cc
    cut_kept kind is = rw is refl

    pub done_kept : (one : Done) → IsDone size plan who item results new one → ShowsAlong (sql size) (item_of plan) new.opened.pages tables new.front → wanting who ≡ is_wanting (kept_as one)
        → IsKeptAs size item results (known_by size plan wanting tables new.front who) one
    done_kept (done.Told text table) is along says =
        let told = told_kept (kind_of item.task) text refl is.0 along says in
        record { kept = told.0; cut = told.1; leaves = is.1 tables along }
    done_kept done.CutShort is along says = record { kept = cut_kept (kind_of item.task) is; cut = is; leaves = tt }

-- of result tables that give alike an item keeps the same
lineless_alike : (one other : List ResultTable) (task : Task) → GiveAlike one other → lineless one task ≡ lineless other task
lineless_alike one other (asking.Results query) alike = ap answer_or_refusal (alike query)
lineless_alike one other task alike = refl

kept_alike : (size : ℕ) (known : Known) (one other : List ResultTable) (item : Item) (kind : Kind) → GiveAlike one other → kept_of size known one item kind ≡ kept_of size known other item kind
kept_alike size known one other item law.Lineless alike =
    ap (λ (text : List ℕ). kept.Told (cond known.wanting (refusal_text item.names refusal.OutOfMemory) text)) (lineless_alike one other item.task alike)
kept_alike size known one other item kind alike = refl

pub kept_run : (size : ℕ) (names : List (List ℕ)) (tasks : List Task) (task : Task) (known : ℕ → Known) (progress after : Progress) (one : Done) → progress.stopped ≡ false → KeptOf size names tasks known progress
    → IsKeptAs size (record { names = names; task = task }) (held progress.results) (known (1 + length tasks)) one → IsBehind one progress after → KeptOf size names (tasks ++ task ∷ []) known after
kept_run size names tasks task known progress after one going has is behind = by_done one is behind
  where
    before : Standing
    before = standing_after known starting 1 tasks

    still : before.stopped ≡ false
    still = has.stopped ∙ going

    here : GiveAlike before.results (held progress.results)
    here = has.results going

    item : Item
    item = record { names = names; task = task }

    then_is : standing_after known starting 1 (tasks ++ task ∷ []) ≡ standing_behind (known (1 + length tasks)) before task
    then_is = after_more known starting 1 tasks task (1 + length tasks) refl

    kept_then : (k : Kept) → kept_of size (known (1 + length tasks)) (held progress.results) item (kind_of task) ≡ k → progress.kept ++ k ∷ [] ≡ kept_by size known names starting 1 (tasks ++ task ∷ [])
    kept_then k e =
        let same = kept_alike size (known (1 + length tasks)) before.results (held progress.results) item (kind_of task) here in
        let there : kept_at size (known (1 + length tasks)) before item ≡ k = rw still (same ∙ e) in
        ap (λ (ks : List Kept). ks ++ k ∷ []) has.kept
        ∙ ap (λ (one : Kept). kept_by size known names starting 1 tasks ++ one ∷ []) (sym there)
        ∙ sym (kept_more size known names starting 1 tasks task (1 + length tasks) refl)

    by_done : (one : Done) → IsKeptAs size item (held progress.results) (known (1 + length tasks)) one → IsBehind one progress after → KeptOf size names (tasks ++ task ∷ []) known after
    by_done (done.Told text table) is behind =
        let whole : is_cut (kind_of task) (known (1 + length tasks)).whats ≡ false = is.cut in
        let now : (standing_behind (known (1 + length tasks)) before task).stopped ≡ false = rw (still, whole) refl in
        let goes : after.stopped ≡ false = behind.stopped ∙ ap (λ (b : Bool). b || false) going in
        record {
          kept = behind.kept ∙ kept_then (kept.Told text) is.kept;
          stopped = ap (λ (s : Standing). s.stopped) then_is ∙ now ∙ sym goes;
          results = λ _ query.
              ap (λ (s : Standing). results_asked query s.results) then_is
              ∙ ap (λ (rs : List ResultTable). results_asked query (rs ++ before.results)) (sym is.leaves)
              ∙ alike_more (option_to_list table) before.results (held progress.results) here query
              ∙ sym (behind.results query);
        }
    by_done done.CutShort is behind =
        let cut : is_cut (kind_of task) (known (1 + length tasks)).whats ≡ true = is.cut in
        let now : (standing_behind (known (1 + length tasks)) before task).stopped ≡ true = rw (still, cut) refl in
        let stops : after.stopped ≡ true = behind.stopped ∙ ap (λ (b : Bool). b || true) going in
        record {
          kept = behind.kept ∙ kept_then kept.CutShort is.kept;
          stopped = ap (λ (s : Standing). s.stopped) then_is ∙ now ∙ sym stops;
          results = λ f. absurd (different (sym stops ∙ f));
        }
      where
        different : true ≡ false → ⊥
        different f = cc

-- ---- for which items memory was wanting

pub says_more : (wanting : Who → Bool) (phase session number : ℕ) (ks : List Kept) (k : Kept) (last : ℕ) → last ≡ number + length ks → Says wanting phase session number (ks ++ k ∷ [])
    → Says wanting phase session number ks × (wanting (who_is phase session last) ≡ is_wanting k)
says_more wanting phase session number [] k last e says =
    let here : last ≡ number = omega (arith, e) in
    (tt, rw here says.0)
says_more wanting phase session number (x ∷ ks) k last e says =
    let rest = says_more wanting phase session (number + 1) ks k last (omega (arith, e)) says.1 in
    ((says.0, rest.0), rest.1)

says_from : (ks : List Kept) (wanting : Who → Bool) (phase session number : ℕ) → ((n : ℕ) → wanting (who_is phase session (number + n)) ≡ option_map_or is_wanting (slice_get ks n) false) → Says wanting phase session number ks
says_from [] wanting phase session number each = tt
says_from (k ∷ ks) wanting phase session number each =
    let first : number + 0 ≡ number = omega arith in (
      subst (λ (n : ℕ). wanting (who_is phase session n) ≡ is_wanting k) first (each 0),
      says_from ks wanting phase session (number + 1)
          (λ n.
          let next : number + suc n ≡ (number + 1) + n = omega arith in
          subst (λ (m : ℕ). wanting (who_is phase session m) ≡ option_map_or is_wanting (slice_get ks n) false) next (each (suc n))),
    )

pub says_all : (wanting : Who → Bool) (phase session : ℕ) (ks : List Kept) → SaysWanting wanting phase session ks → Says wanting phase session 1 ks
says_all wanting phase session ks says = says_from ks wanting phase session 1
    (λ n.
    let next : suc n ≡ 1 + n = omega arith in
    subst (λ (m : ℕ). wanting (who_is phase session m) ≡ option_map_or is_wanting (slice_get ks n) false) next (says (suc n)))
