use Rattle.disk_model.proofs.Moments.{reads_on}
use Rattle.area_log.proofs.header.find_counting.Goals as goal

pub returns-in-None-clause-reads : goal.returns-in-None-clause-reads
returns-in-None-clause-reads g c = λ honest.
    let first = c.in_ok-first.ensures in
    reads_on g.D.Disk.remembers g.D.Disk.state g.D.Disk.clock c.args.disk.now c.read_header.new.disk c.read_header-2.new.disk
    (first.reads honest) (c.in_ok-second.ensures.reads (first.same.honest.0 honest))
