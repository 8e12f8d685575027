use Rattle.std.proofs.Common.{◌≡◌, ◌+◌, ◌++◌, ◌∷◌, [], List, length}
use Rattle.journal_law.specs.Lawful.{Ground}
use Rattle.journal_law.specs.Seats as seat
use Rattle.plain_store.specs.Plain.{view_of}
use Rattle.session.specs.Plan.{IsPhaseOf, Plan}
use Rattle.session.specs.declared.kept.Kept.{Kept}
use Rattle.plain_run.specs.Turns.{CameThrough}
use Rattle.plain_run.proofs.driving.run_phase.Given as goal

abbrev pub invariant-loop-place : goal.invariant-loop-place
invariant-loop-place g l = record {
  idle : (view_of l.store).work ≡ seat.Idle;
  long : length l.kept ≡ l.place;
  came : (plan : Plan) → IsPhaseOf plan l.phase l.sessions → (ground : Ground) (done : List (List (List Kept))) → length done + 1 ≡ l.phase → CameThrough plan ground l.initial.store done l.phase 0 →
      CameThrough plan ground l.store (done ++ l.kept ∷ []) l.phase l.place;
}
