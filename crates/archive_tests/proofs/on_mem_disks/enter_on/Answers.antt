use Rattle.disk_mem.specs.History.{clock_of}
use Rattle.race_model.specs.Machine.{entered, enter_failed}
use Rattle.archive_tests.proofs.Images.{turned_images}
use Rattle.archive_tests.proofs.on_mem_disks.enter_on.Goals as goal

pub returns-clause-listed : goal.returns-clause-listed
returns-clause-listed c = λ vault goes. turned_images c.args.archive.now c.enter_batch.new.self (entered vault c.args.batch.now) (enter_failed vault c.args.batch.now) (λ device. clock_of device.past) c.enter_batch.result (c.enter_batch.ensures.turns vault goes.is goes.going) goes.unfailed
