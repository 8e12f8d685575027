use Rattle.std.proofs.Common.{◌≡◌, ◌+◌, ◌%◌, ◌<◌, ℕ, get_or}
use Rattle.block_file.specs.Blocks.{block_at, SameFile, WritesOnly}
use Rattle.race_model.specs.Vault.{IsSlotOf}
use Rattle.replay.specs.Opened.{forgotten}
use Rattle.archive.proofs.slots.lay_all.Given as goal

abbrev pub invariant-loop-place : goal.invariant-loop-place
invariant-loop-place g l = record {
  same : SameFile g.D.Disk.is_honest l.initial.pagelog l.pagelog;
  steady : g.D.Disk.faults l.pagelog.disk ≡ g.D.Disk.faults l.initial.pagelog.disk;
  laid : g.D.Disk.is_honest l.initial.pagelog.disk → (place : ℕ) → place < l.place → block_at (g.D.Disk.state l.pagelog.disk).seen ((l.batch.first + place) % l.initial.pagelog.blocks) ≡ (get_or l.batch.images place forgotten).bytes;
  alone : g.D.Disk.is_honest l.initial.pagelog.disk → WritesOnly (IsSlotOf l.initial.pagelog.blocks l.batch) g.D.Disk.remembers g.D.Disk.state g.D.Disk.clock l.initial.pagelog.disk l.pagelog.disk;
}
