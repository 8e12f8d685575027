use Rattle.std.proofs.Common.{◌≡◌, ◌*◌}
use Rattle.history_bench.proofs.maplogs.fill.Given as goal

abbrev pub invariant-loop-index : goal.invariant-loop-index
invariant-loop-index g l = g.D.Disk.extent l.disk ≡ 2 * l.log.area.log.size
