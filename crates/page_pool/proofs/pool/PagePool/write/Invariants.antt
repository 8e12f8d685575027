use Rattle.std.proofs.Common.{◌≡◌, ℕ, Bool, List, take}
use Rattle.history.specs.History.{written}
use Rattle.page_pool.specs.Side.{dirty_behind, HoldsSame, IsPageSide}
use Rattle.page_pool.proofs.pool.PagePool.write.Given as goal

abbrev pub invariant-loop-write : goal.invariant-loop-write
invariant-loop-write g l = (l.self.file ≡ l.initial.self.file) × (l.self.is_unsettled ≡ l.initial.self.is_unsettled) × HoldsSame l.initial.self l.self
    × ((now device : ℕ → List ℕ) (loose dirty : ℕ → Bool) → IsPageSide g.D.Disk.is_honest g.D.Disk.state l.initial.self now device loose dirty → IsPageSide g.D.Disk.is_honest g.D.Disk.state l.self (written now (take l.write-index l.writes)) device loose (dirty_behind dirty (take l.write-index l.writes)))
