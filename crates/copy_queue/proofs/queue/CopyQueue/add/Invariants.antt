use Rattle.std.proofs.Common.{◌≡◌, ◌++◌, take}
use Rattle.copy_queue.proofs.queue.CopyQueue.add.Given as goal

abbrev pub invariant-loop-image : goal.invariant-loop-image
invariant-loop-image l = l.self ≡ record { first = l.initial.self.first; images = l.initial.self.images ++ take l.image-index l.images }
