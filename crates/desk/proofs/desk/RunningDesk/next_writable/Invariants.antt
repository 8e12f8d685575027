use Rattle.std.proofs.Common.{◌≡◌, ◌<◌, ◌-◌, ℕ, true}
use Rattle.history.specs.Writes.{pages_of, is_among}
use Rattle.page_pool.specs.Side.{soiled}
use Rattle.desk.proofs.desk.RunningDesk.next_writable.Given as goal

abbrev pub invariant-loop-page : goal.invariant-loop-page
invariant-loop-page g l = (page : ℕ) → page < l.from → soiled l.self.pool page ≡ true → is_among page (pages_of l.self.queue.images) ≡ true

abbrev pub decreases-loop-page : goal.decreases-loop-page
decreases-loop-page g l = l.self.pool.file.blocks - l.from
