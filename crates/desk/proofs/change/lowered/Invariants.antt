use Rattle.std.proofs.Common.{◌≡◌, ◌≤◌, ◌<◌, ℕ, true, take}
use Rattle.history.specs.Writes.{pages_of, is_among}
use Rattle.desk.proofs.change.lowered.Given as goal

abbrev pub invariant-loop-write : goal.invariant-loop-write
invariant-loop-write l = record {
  less : l.least ≤ l.fn.place;
  waits : (page : ℕ) → page < l.least → is_among page (pages_of (take l.write-index l.writes)) ≡ true → is_among page (pages_of l.queue.images) ≡ true;
}
