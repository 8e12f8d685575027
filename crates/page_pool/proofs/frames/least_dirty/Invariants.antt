use Rattle.std.proofs.Common.{◌≡◌, ◌≤◌, ◌<◌, ◌-◌, ◌^◌, ℕ, false}
use Rattle.page_pool.specs.Frames.{frame_in, is_dirty_in}
use Rattle.page_pool.proofs.frames.least_dirty.Given as goal

abbrev pub invariant-loop-page : goal.invariant-loop-page
invariant-loop-page l = (l.fn.from ≤ l.at) × ((page : ℕ) → l.fn.from ≤ page → page < l.at → is_dirty_in (frame_in l.frames page) ≡ false)

abbrev pub decreases-loop-page : goal.decreases-loop-page
decreases-loop-page l = 2 ^ 32 - l.at
