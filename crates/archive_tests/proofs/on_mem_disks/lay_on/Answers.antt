use Rattle.disk_mem.specs.History.{clock_of}
use Rattle.archive_tests.proofs.Images.{laid_images}
use Rattle.archive_tests.proofs.on_mem_disks.lay_on.Goals as goal

pub returns-clause-laid : goal.returns-clause-laid
returns-clause-laid c = λ vault goes. laid_images c.args.archive.now c.lay_batch.new.self vault c.args.batch.now (λ device. clock_of device.past) c.lay_batch.result (c.lay_batch.ensures.turns vault goes.is goes.going)
