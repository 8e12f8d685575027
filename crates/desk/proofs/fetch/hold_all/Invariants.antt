use Rattle.std.proofs.Common.{◌≡◌, ◌||◌, ℕ, Bool, List, take}
use Rattle.block_file.specs.Blocks.{SameFile}
use Rattle.disk_model.specs.Runs.{OnlyReads}
use Rattle.history.specs.Writes.{pages_of, is_among}
use Rattle.page_pool.specs.Side.{held, IsPageSide}
use Rattle.desk.proofs.fetch.hold_all.Given as goal

abbrev pub invariant-loop-write : goal.invariant-loop-write
invariant-loop-write g l = record {
  same : SameFile g.D.Disk.is_honest l.fn.pool.file l.pool.file;
  faults : g.D.Disk.faults l.pool.file.disk ≡ g.D.Disk.faults l.fn.pool.file.disk;
  quiet : g.D.Disk.is_honest l.fn.pool.file.disk → OnlyReads g.D.Disk.remembers g.D.Disk.state g.D.Disk.clock l.fn.pool.file.disk l.pool.file.disk;
  holds : (page : ℕ) → held l.pool page ≡ (held l.fn.pool page || is_among page (pages_of (take l.write-index l.writes)));
  kept : (pages device : ℕ → List ℕ) (loose dirty : ℕ → Bool) → IsPageSide g.D.Disk.is_honest g.D.Disk.state l.fn.pool pages device loose dirty → IsPageSide g.D.Disk.is_honest g.D.Disk.state l.pool pages device loose dirty;
}
