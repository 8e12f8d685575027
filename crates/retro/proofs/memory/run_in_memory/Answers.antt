use Rattle.retro.proofs.FromEmpty.{runs_from}
use Rattle.retro.proofs.memory.run_in_memory.Goals as goal

pub returns : goal.returns
returns g c =
    let run = c.run_from_empty-ended in
    runs_from c.in_ok-disks.disks run.result.0 c.args.plan.now run.result.1 run.ensures.left run.ensures.cause
