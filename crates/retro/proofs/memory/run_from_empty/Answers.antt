use Rattle.retro.proofs.FromEmpty.{left_so, unopened_so}
use Rattle.retro.proofs.memory.run_from_empty.Goals as goal

pub returns-in-Ok-clause-cause : goal.returns-in-Ok-clause-cause
returns-in-Ok-clause-cause g c =
    unopened_so g.D.Disk.extent g.D.Disk.faults g.D.Disk.is_honest g.D.Disk.remembers g.D.Disk.state g.D.Disk.clock c.args.sizes c.args.disks c.in-Ok.disks c.run_on.result.0
    c.requires.blank c.in-Ok.ensures.same c.in-Ok.ensures.cause (c.in-Ok.ensures.empty c.requires.blank) c.devices_are_read_one_way.ensures c.args.plan.now c.run_on.result.1 c.run_on.ensures

pub returns-in-Ok-clause-left : goal.returns-in-Ok-clause-left
returns-in-Ok-clause-left g c =
    left_so g.D.Disk.extent g.D.Disk.faults g.D.Disk.is_honest g.D.Disk.remembers g.D.Disk.state g.D.Disk.clock c.args.sizes c.args.disks c.in-Ok.disks c.run_on.result.0
    c.requires.blank c.in-Ok.ensures.same c.in-Ok.ensures.cause (c.in-Ok.ensures.empty c.requires.blank) c.devices_are_read_one_way.ensures (c.store_law.ensures) c.requires.range c.args.plan.now c.run_on.result.1 c.run_on.ensures
