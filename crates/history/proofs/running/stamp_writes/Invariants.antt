use Rattle.std.proofs.Common.{◌≡◌, drop}
use Rattle.history.specs.Writes.{pages_of}
use Rattle.history.specs.Running.{with_stamps}
use Rattle.history.proofs.running.stamp_writes.Given as goal

abbrev pub invariant-loop-write : goal.invariant-loop-write
invariant-loop-write l = with_stamps l.number l.stamps (pages_of (drop l.write-index l.writes)) ≡ with_stamps l.number l.fn.stamps (pages_of l.writes)
