use Rattle.std.specs.Prelude.{length, replicate}
use Rattle.std.specs.VecDeque.Iter.{deque_iter_rest}
use Rattle.disk_mem.proofs.Taken.{Taking}
use Rattle.disk_mem.proofs.crash.fill_loose.Given as goal

abbrev pub invariant-loop-step : goal.invariant-loop-step
invariant-loop-step l = Taking (replicate (length l.initial.bytes) l.fill) l.steps.items (deque_iter_rest l.step-iterator) l.initial.bytes l.bytes
