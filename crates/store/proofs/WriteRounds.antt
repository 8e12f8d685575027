-- What a flusher's rounds leave.
use Rattle.std.proofs.Common.{◌≡◌, ◌<◌, ◌+◌, ℕ, Bool, Result, Ok, IfOk, subst, [], None, refl}
use Rattle.atomic_table.specs.Seated.{TableId}
use Rattle.disk_model.specs.Disk.{State}
use Rattle.disk_model.specs.Moments.{Clock}
use Rattle.retro_base.specs.declared.refusal.Refusal.{Refusal}
use Rattle.store.specs.declared.pace.Ended.{Ended}
use Rattle.store.specs.declared.pace.TheConstants.{IDLE_ROUNDS}
use Rattle.store.specs.Rounds.{Passes, WritesRound}
use Rattle.store.specs.Seats.{Sat}
use Rattle.store.specs.Seen.{view_of}
use Rattle.store.proofs.Reaching.{RoundEnds, ends_after}
use Rattle.store.proofs.Writing.{round_ends}
use Rattle.store.specs.WorkerRounds.{AreAnswered, EndsWith, MayEnd, MayWork, WorkerGives, last_answer, worker}
use Rattle.store.proofs.FaultLeft.{Leaves, leaves}
use Rattle.store.proofs.Viewed.{gives}

module _ {D : Type 0} (is_honest : D → Type 0) (state : D → State) (faults : D → ℕ) (z : TableId) (remembers : Type 0) (clock : D → Clock) (phase n : ℕ) (s0 s1 s2 : Sat D) (passes : Passes z s0 s1) where
  abbrev pub Round : Result Bool Refusal → Sat D → Sat D → Type 0
  Round = WritesRound is_honest state faults z remembers clock (worker phase n)

  ends : (r : Result Bool Refusal) → Round r s1 s2 → RoundEnds is_honest state faults z (worker phase n) r s0 s2
  ends r round = ends_after is_honest state faults z (worker phase n) r s0 s1 s2 passes (round_ends is_honest state faults z remembers clock (worker phase n) r s1 s2 passes.ready round)

  pub passes_more : (more : Bool) → Round (Ok more) s1 s2 → Passes z s0 s2
  passes_more more round = ends (Ok more) round

  module _ (own : n ≡ s0.number) (result : Result Ended Refusal) (round : Round (last_answer result) s1 s2) where
    pub ends_with : (flag idle : ℕ) → idle < IDLE_ROUNDS → AreAnswered Round idle s0 s1 → IfOk result (MayEnd flag (idle + 1)) → EndsWith (WritesRound is_honest state faults z remembers clock (worker phase s0.number)) flag result s0 s2
    ends_with flag idle few answered may_end = subst (λ (k : ℕ). EndsWith (WritesRound is_honest state faults z remembers clock (worker phase k)) flag result s0 s2) own
        (record { middle = s1; idle = idle; few = few; answered = answered; ends = round; may_end = may_end })

    pub left : (may : MayWork s0) → Leaves is_honest state faults z (worker phase s0.number) s0 s2 (λ i. s0.number) may result
    left may = leaves is_honest state faults z (worker phase s0.number) s0 s2 (λ i. s0.number) may result
        (subst (λ (k : ℕ). RoundEnds is_honest state faults z (worker phase k) (last_answer result) s0 s2) own (ends (last_answer result) round))

    pub gives_so : (may : MayWork s0) → WorkerGives (worker phase s0.number) (view_of state faults None [] s0) (view_of state faults None [] s2) result
    gives_so may = gives is_honest state faults z s0 s2 may (worker phase s0.number) refl result
        (subst (λ (k : ℕ). RoundEnds is_honest state faults z (worker phase k) (last_answer result) s0 s2) own (ends (last_answer result) round))
