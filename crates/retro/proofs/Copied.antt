-- That a last copying behind the phases fits a run.
use Rattle.std.proofs.Common.{◌≡◌, ◌⊎◌, ◌<◌, ◌≤◌, ◌+◌, ◌++◌, ◌∙◌, ℕ, List, [], inl, inr, sym, ap, subst, append-nil}
use Rattle.retro_base.specs.declared.limits.TheConstants.{SESSIONS}
use Rattle.history.specs.declared.journal.Line.{Line}
use Rattle.journal_law.specs.Facts.{AreOthers}
use Rattle.journal_law.specs.Lawful.{Ground}
use Rattle.journal_law.specs.Seats.{View, Waits}
use Rattle.session.specs.Plan.{Plan, tasks_at}
use Rattle.session.specs.Run.{SessionLeft, WasKept}
use Rattle.session.specs.declared.kept.Kept.{Kept}
use Rattle.store.specs.WorkerRounds.{TellsFirst, worker}
use Rattle.store.proofs.WorkerEnds.{waits_on}
use Rattle.retro.specs.Phases.{AllMet, HasComeTo, HaveRun, StandTogether}
use Rattle.retro.proofs.Phased.{kept_idle, kept_on, left_on, others_behind, stand_after}
use Rattle.retro.proofs.Worked.{left_none, left_worked}

-- Lines of others alone have come to each seat; or, to one behind those of the sessions, the line of a fault behind them.
abbrev pub HaveWorked : ℕ → ℕ → (ℕ → View) → (ℕ → View) → Type 0
HaveWorked seats phase old new = (number : ℕ) → number < seats →
    Waits (old number) (new number) (old number).work ⊎ ((SESSIONS ≤ number) × TellsFirst (worker phase number) (old number) (new number))

module _ (size : ℕ) (plan : Plan) (ground : Ground) (seats phase : ℕ) (front next : List Line) (old new met : ℕ → View) (worked : HaveWorked seats phase old new) (all_met : AllMet seats new met next)
    (together : StandTogether size plan ground seats (phase + 1) front old) where
  -- as sessions of that phase would
  ran : HaveRun size plan seats phase old new
  ran number less = by_case (worked number less)
    where
      stays : SessionLeft size plan phase (old number) (old number)
      stays = left_none size plan phase (phase + 1) (old number) (together.each number less).ready

      by_case : Waits (old number) (new number) (old number).work ⊎ ((SESSIONS ≤ number) × TellsFirst (worker phase number) (old number) (new number)) → SessionLeft size plan phase (old number) (new number)
      by_case (inl waits) = left_on size plan phase (old number) (old number) (new number) stays waits
      by_case (inr told) =
          let is : (old number).session ≡ number = (together.each number less).number_is in
          left_worked size plan phase (old number) (old number) (new number) (subst (λ (n : ℕ). SESSIONS ≤ n) (sym is) told.0) stays
          (inr (subst (λ (n : ℕ). TellsFirst (worker phase n) (old number) (new number)) (sym is) told.1))

  -- the seats stand behind that phase again
  pub stand_copied : StandTogether size plan ground seats (phase + 1) next met
  stand_copied = stand_after size plan ground seats phase front next old new met ran all_met together

  module _ (none : (earlier number : ℕ) → SESSIONS ≤ number → tasks_at plan earlier number ≡ []) where
    pub kept_copied : (earlier number : ℕ) → number < seats → (kept : List Kept) → WasKept size plan ground front earlier number kept → WasKept size plan ground next earlier number kept
    kept_copied earlier number less kept was = by_case (worked number less)
      where
        by_case : Waits (old number) (new number) (old number).work ⊎ ((SESSIONS ≤ number) × TellsFirst (worker phase number) (old number) (new number)) → WasKept size plan ground next earlier number kept
        by_case (inl waits) =
            let here = together.each number less in
            let moves = (waits_on (old number) (new number) (met number) waits (all_met number less).0).moves in
            let whole : next ≡ front ++ moves.others =
            sym (all_met number less).1 ∙ moves.front ∙ append-nil ((old number).front ++ moves.others) ∙ ap (λ (ls : List Line). ls ++ moves.others) here.front_is in
            subst (λ (ls : List Line). WasKept size plan ground ls earlier number kept) (sym whole)
            (kept_on size plan ground earlier number front moves.others kept
            (others_behind size plan ground earlier number moves.others (subst (λ (s : ℕ). AreOthers s moves.others) here.number_is moves.apart)) was)
        by_case (inr told) =
            let left = left_on size plan phase (old number) (new number) (met number) (ran number less) (all_met number less).0 in
            let whole : next ≡ front ++ left.more = sym (all_met number less).1 ∙ left.front ∙ ap (λ (ls : List Line). ls ++ left.more) (together.each number less).front_is in
            subst (λ (ls : List Line). WasKept size plan ground ls earlier number kept) (sym whole) (kept_idle size plan ground earlier number front left.more kept (none earlier number told.0) was)

pub come_copied : (size : ℕ) (plan : Plan) (ground : Ground) (seats phase : ℕ) (next : List Line) (old new met : ℕ → View) → HaveWorked seats phase old new → AllMet seats new met next
    → ((earlier number : ℕ) → SESSIONS ≤ number → tasks_at plan earlier number ≡ []) → (kept : ℕ → ℕ → List Kept) → HasComeTo size plan ground seats (phase + 1) kept old → HasComeTo size plan ground seats (phase + 1) kept met
come_copied size plan ground seats phase next old new met worked all_met none kept come = record {
  front = next;
  together = stand_copied size plan ground seats phase come.front next old new met worked all_met come.together;
  has_kept = λ earlier number less seated.
      kept_copied size plan ground seats phase come.front next old new met worked all_met come.together none earlier number seated (kept earlier number) (come.has_kept earlier number less seated);
  no_more = come.no_more;
}
