use Rattle.std.proofs.Common.{◌≡◌, ℕ, false, [], take, drop}
use Rattle.block_file.specs.Blocks.{SameFile}
use Rattle.disk_model.specs.Runs.{OnlyReads}
use Rattle.history.specs.History.{bases_after, State as Place}
use Rattle.history.specs.Right.{AreRight}
use Rattle.page_pool.specs.Side.{held}
use Rattle.desk.specs.Fetched.{IsRedone}
use Rattle.desk.proofs.fetch.redo_all.Given as goal

abbrev pub invariant-loop-change : goal.invariant-loop-change
invariant-loop-change g l = record {
  same : SameFile g.D.Disk.is_honest l.fn.pool.file l.pool.file;
  faults : g.D.Disk.faults l.pool.file.disk ≡ g.D.Disk.faults l.fn.pool.file.disk;
  quiet : g.D.Disk.is_honest l.fn.pool.file.disk → OnlyReads g.D.Disk.remembers g.D.Disk.state g.D.Disk.clock l.fn.pool.file.disk l.pool.file.disk;
  right : AreRight l.redone.base (drop l.change-index l.changes);
  whole : l.pool.file.blocks ≡ l.redone.base.page_count;
  base : l.redone.base ≡ bases_after l.fn.redone.base (take l.change-index l.changes);
  free : (page : ℕ) → held l.pool page ≡ false;
  redone : (origin : Place) → IsRedone g.D.Disk.is_honest g.D.Disk.state l.fn.redone l.fn.pool origin l.number [] → IsRedone g.D.Disk.is_honest g.D.Disk.state l.redone l.pool origin l.number (take l.change-index l.changes);
}
