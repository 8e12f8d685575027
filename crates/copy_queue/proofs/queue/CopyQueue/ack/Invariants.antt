use Rattle.std.proofs.Common.{◌≡◌, ◌-◌, ◌≤◌, drop, max}
use Rattle.copy_queue.proofs.queue.CopyQueue.ack.Given as goal

abbrev pub invariant-loop : goal.invariant-loop
invariant-loop l = (l.self.first ≡ l.counter) × (l.initial.self.first ≤ l.counter) × (l.counter ≤ max l.initial.self.first l.count) × (l.self.images ≡ drop (l.counter - l.initial.self.first) l.initial.self.images)
