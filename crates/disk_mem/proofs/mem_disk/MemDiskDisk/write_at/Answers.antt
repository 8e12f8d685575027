use Rattle.std.proofs.Common.{arith, rules, subst}
use Rattle.disk_mem.specs.Plan.{IsFate}
use Rattle.disk_mem.specs.declared.schedule.Call.TheVariants.{Write}
use Rattle.disk_mem.proofs.Room.{over_counted, over_listed}
use Rattle.disk_mem.proofs.Steps.{writes_stepped}
use Rattle.disk_mem.proofs.mem_disk.MemDiskDisk.write_at.Goals as goal

pub invariant_of-self : goal.invariant_of-self
invariant_of-self c = omega (arith, c.self.invariant, over_counted _ _ c.turn.ensures.counted c.turn.ensures.later, c.write.ensures.room)

pub invariant_of-self-in-Err : goal.invariant_of-self-in-Err
invariant_of-self-in-Err c = omega (arith, c.self.invariant, over_counted _ _ c.turn.ensures.counted c.turn.ensures.later, c.write.ensures.room)

pub lose-requires-clause-room : goal.lose-requires-clause-room
lose-requires-clause-room c = let listed = over_listed _ _ c.turn.ensures.counted (subst (IsFate c.self.inside.schedule Write) c.in-Fails.is c.turn.ensures.fate).1 in omega (arith, c.self.invariant, listed)

pub invariant_of-self-in-Fails : goal.invariant_of-self-in-Fails
invariant_of-self-in-Fails c = let listed = over_listed _ _ c.turn.ensures.counted (subst (IsFate c.self.inside.schedule Write) c.in-Fails.is c.turn.ensures.fate).1 in omega (arith, c.self.invariant, c.lose.ensures.room, listed)

pub invariant_of-self-in-Stopped : goal.invariant_of-self-in-Stopped
invariant_of-self-in-Stopped c = omega (arith, c.self.invariant, over_counted _ _ c.turn.ensures.counted c.turn.ensures.later)

pub returns-in-Ok-clause-written : goal.returns-in-Ok-clause-written
returns-in-Ok-clause-written c = writes_stepped c.args.self.now.past _ c.args.place c.args.bytes.now c.requires (search rules)
