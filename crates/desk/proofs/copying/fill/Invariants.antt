use Rattle.std.proofs.Common.{◌≡◌, take}
use Rattle.desk.proofs.copying.fill.Given as goal

abbrev pub invariant-loop-place : goal.invariant-loop-place
invariant-loop-place l = l.batch ≡ record { first = l.fn.batch.first; low = l.fn.batch.low; images = take l.place l.queue.images }
