use Rattle.std.proofs.Common.{arith}
use Rattle.page_pool.proofs.pool.PagePool.next_dirty.Goals as goal

pub least_dirty-requires : goal.least_dirty-requires
least_dirty-requires g c = λ page some. omega (arith, c.self.invariant.frames.within page some, c.self.invariant.few)
