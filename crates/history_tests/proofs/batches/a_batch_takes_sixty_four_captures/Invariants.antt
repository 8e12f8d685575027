use Rattle.std.proofs.Common.{◌≡◌, length}
use Rattle.history_tests.proofs.batches.a_batch_takes_sixty_four_captures.Given as goal

abbrev pub invariant-loop-place : goal.invariant-loop-place
invariant-loop-place g l = length l.batch.images ≡ l.place
