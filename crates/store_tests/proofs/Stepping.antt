-- What a step leaves at its seat.
use Rattle.std.proofs.Common.{◌≡◌, ◌∙◌, ℕ, Bool, Result, Ok, refl}
use Rattle.atomic_table.specs.Seated.{TableId}
use Rattle.disk_model.specs.Disk.{State}
use Rattle.disk_model.specs.Moments.{Clock}
use Rattle.retro_base.specs.declared.who.Who.{Who}
use Rattle.race_model.specs.Vault.{Batch}
use Rattle.turn.specs.Seats.{IsSame, mine}
use Rattle.store.specs.Rounds.{WritesRound}
use Rattle.store.specs.Seats.{IsOpenIn, IsReady, Sat}
use Rattle.store.specs.WorkerRounds.{Copies, MayWork, worker}
use Rattle.store.proofs.CopyRounds.{passes_more as copy_passes}
use Rattle.store.proofs.FaultLeft.{passes_may}
use Rattle.store.proofs.Passing.{passes_none}
use Rattle.store.proofs.WriteRounds.{passes_more as write_passes}

pub open_stays : {D : Type 0} (s0 s1 : Sat D) (who : Who) → (mine s1).work ≡ (mine s0).work → IsOpenIn s0 who → IsOpenIn s1 who
open_stays s0 s1 who same is = record { transaction = is.transaction; open_there = same ∙ is.open_there; is_of = is.is_of }

pub same_on : {D : Type 0} (s0 s1 s2 : Sat D) → IsSame s0 s1 → IsSame s1 s2 → IsSame s0 s2
same_on s0 s1 s2 one two = record { id = two.id ∙ one.id; number = two.number ∙ one.number; opening = two.opening ∙ one.opening }

module _ {D : Type 0} (is_honest : D → Type 0) (state : D → State) (faults : D → ℕ) (z : TableId) (remembers : Type 0) (clock : D → Clock) (phase n : ℕ) (s0 s1 : Sat D) (ready : IsReady z s0) (may : MayWork s0) (more : Bool) where
  -- behind a round that was answered another may be made
  pub copied_may : (b0 b1 : Batch) → Copies is_honest state faults z remembers clock (worker phase n) (Ok more) (b0, s0) (b1, s1) → MayWork s1
  copied_may b0 b1 round = passes_may z s0 s1 (copy_passes is_honest state faults z remembers clock phase n b0 b0 b1 s0 s0 s1 (passes_none z s0 ready) more round) (worker phase n) may

  pub written_may : WritesRound is_honest state faults z remembers clock (worker phase n) (Ok more) s0 s1 → MayWork s1
  written_may round = passes_may z s0 s1 (write_passes is_honest state faults z remembers clock phase n s0 s0 s1 (passes_none z s0 ready) more round) (worker phase n) may
