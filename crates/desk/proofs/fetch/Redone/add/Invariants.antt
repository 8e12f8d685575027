use Rattle.std.proofs.Common.{◌≡◌, ◌++◌, take}
use Rattle.history.specs.Writes.{pages_of}
use Rattle.desk.proofs.fetch.Redone.add.Given as goal

abbrev pub invariant-loop-image : goal.invariant-loop-image
invariant-loop-image l = record {
  base : l.self.base ≡ l.fn.self.base;
  pending : l.self.pending.items ≡ l.fn.self.pending.items;
  captured : l.self.captured.items ≡ l.fn.self.captured.items ++ pages_of (take l.image-index l.images);
}
