use Rattle.std.proofs.Common.{◌≡◌, ◌*◌}
use Rattle.device_tests.proofs.area_logs.append_numbers.Given as goal

abbrev pub invariant-loop-number : goal.invariant-loop-number
invariant-loop-number g l = g.D.Disk.extent l.disk ≡ 2 * l.log.log.size
