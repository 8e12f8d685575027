use Rattle.std.proofs.Common.{rules}
use Rattle.disk_mem.proofs.Room.{over_all}
use Rattle.disk_mem.proofs.mem_disk.MemDisk.holding.Goals as goal

pub invariant_of-result : goal.invariant_of-result
invariant_of-result c = let all = over_all 0 c.args.failing.items in search (rules, all)
