use Rattle.std.proofs.Common.{◌≡◌, ◌++◌, ℕ, Bool, List, drop, map}
use Rattle.history.specs.Writes.{pages_of}
use Rattle.history.specs.History.{capturing, before_write}
use Rattle.page_pool.specs.Side.{IsPageSide}
use Rattle.desk.proofs.change.pre_states.Given as goal

abbrev pub invariant-loop-write : goal.invariant-loop-write
invariant-loop-write g l = record {
  pages : pages_of l.images.items ++ pages_of (capturing l.base (drop l.write-index l.writes)) ≡ pages_of (capturing l.base l.writes);
  bytes : (pages device : ℕ → List ℕ) (loose dirty : ℕ → Bool) → IsPageSide g.D.Disk.is_honest g.D.Disk.state l.pool pages device loose dirty → g.D.Disk.is_honest l.pool.file.disk →
      l.images.items ++ map (before_write pages) (capturing l.base (drop l.write-index l.writes)) ≡ map (before_write pages) (capturing l.base l.writes);
}
