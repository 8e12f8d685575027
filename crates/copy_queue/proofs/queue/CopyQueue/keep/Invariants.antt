use Rattle.std.proofs.Common.{◌≡◌, ◌-◌, ◌≤◌, ◌<◌, take}
use Rattle.copy_queue.proofs.queue.CopyQueue.keep.Given as goal

abbrev pub invariant-loop : goal.invariant-loop
invariant-loop l = (l.self.first ≡ l.initial.self.first) × (l.count ≤ l.counter) × (l.end < l.count → l.counter ≡ l.count) × (l.self.images ≡ take (l.end - (l.counter - l.count)) l.initial.self.images)
