use Rattle.retro.proofs.Worked.{still_workers}
use Rattle.retro.proofs.phases.run_with_workers.Goals as goal

pub work_all-requires-clause-workers : goal.work_all-requires-clause-workers
work_all-requires-clause-workers g c κs within =
    let e = c.run_beside.ensures in
    still_workers g.S.Seat.view g.S.Seat.goes c.args.phase c.args.workers.now c.run_beside.new.workers e.workers c.requires.workers e.worked

pub returns-clause-worked : goal.returns-clause-worked
returns-clause-worked g c =
    let e = c.run_beside.ensures in
    record { between = c.run_beside.new.workers; count = e.workers; last_count = c.work_all.ensures.count; beside = e.worked; again = c.work_all.ensures.worked }
