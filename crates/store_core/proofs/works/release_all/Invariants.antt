use Rattle.std.proofs.Common.{◌≡◌, ◌&&◌, not, ℕ, drop}
use Rattle.history.specs.Writes.{is_among, pages_of}
use Rattle.page_pool.specs.Side.{held}
use Rattle.race_model.specs.Desk.{Desk}
use Rattle.desk.specs.Desk.{IsDesk, IsWhole}
use Rattle.desk.specs.Steps.{SameButPages}
use Rattle.store_core.proofs.works.release_all.Given as goal

abbrev pub invariant-loop-edit : goal.invariant-loop-edit
invariant-loop-edit g l = record {
  whole : IsWhole g.D.Disk.is_honest g.D.Disk.state l.desk;
  rest : SameButPages l.fn.desk l.desk;
  file : l.desk.pool.file ≡ l.fn.desk.pool.file;
  held : (page : ℕ) → (held l.desk.pool page && not (is_among page (pages_of (drop l.edit-index l.edits)))) ≡ (held l.fn.desk.pool page && not (is_among page (pages_of l.edits)));
  desk : (plain : Desk) → IsDesk g.D.Disk.is_honest g.D.Disk.state l.fn.desk plain → IsDesk g.D.Disk.is_honest g.D.Disk.state l.desk plain;
}
