use Rattle.store_format.proofs.Emptiness.{filled, settled_zero}
use Rattle.store_format.proofs.making.fill.Goals as goal

pub returns-clause-filled : goal.returns-clause-filled
returns-clause-filled g c = λ blank.
    let disks = c.args.disks.now in
    let made = c.in_ok-make.ensures.makes blank.maplog.honest (record { zeros = blank.maplog.zeros; durable = blank.maplog.durable }) c.args.sizes.pages in
    filled g.D.Disk.extent g.D.Disk.remembers g.D.Disk.state g.D.Disk.clock c.args.version c.args.sizes disks.log _ c.first_base.result c.make-2.result c.first_base.ensures.base
    (c.make-2.ensures.makes blank.log.honest blank.log.zeros)
    (settled_zero g.D.Disk.extent g.D.Disk.is_honest g.D.Disk.remembers g.D.Disk.state g.D.Disk.clock disks.pages c.settle.new.disk blank.pages c.settle.ensures.same c.settle.ensures.quiet (c.in_ok-settle.ensures.settled blank.pages.honest))
    (settled_zero g.D.Disk.extent g.D.Disk.is_honest g.D.Disk.remembers g.D.Disk.state g.D.Disk.clock disks.pagelog c.settle-2.new.disk blank.pagelog c.settle-2.ensures.same c.settle-2.ensures.quiet (c.in_ok-settle-2.ensures.settled blank.pagelog.honest))
    made.lists made.durable
