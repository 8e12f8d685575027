use Rattle.std.proofs.Common.{◌≡◌, ◌&&◌, not, ℕ, Bool, List, take}
use Rattle.history.specs.Writes.{pages_of, is_among}
use Rattle.page_pool.specs.Side.{held, IsPageSide}
use Rattle.desk.proofs.fetch.release_all.Given as goal

abbrev pub invariant-loop-write : goal.invariant-loop-write
invariant-loop-write g l = record {
  file : l.pool.file ≡ l.fn.pool.file;
  holds : (page : ℕ) → held l.pool page ≡ (held l.fn.pool page && not (is_among page (pages_of (take l.write-index l.writes))));
  kept : (pages device : ℕ → List ℕ) (loose dirty : ℕ → Bool) → IsPageSide g.D.Disk.is_honest g.D.Disk.state l.fn.pool pages device loose dirty → IsPageSide g.D.Disk.is_honest g.D.Disk.state l.pool pages device loose dirty;
}
