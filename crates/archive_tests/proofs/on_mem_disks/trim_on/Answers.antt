use Rattle.disk_mem.specs.History.{clock_of}
use Rattle.race_model.specs.Machine.{trimmed, trim_failed}
use Rattle.archive_tests.proofs.Images.{turned_images}
use Rattle.archive_tests.proofs.on_mem_disks.trim_on.Goals as goal

pub returns-clause-listed : goal.returns-clause-listed
returns-clause-listed c = λ vault goes. turned_images c.args.archive.now c.trim.new.self (trimmed vault c.args.low) (trim_failed vault c.args.low) (λ device. clock_of device.past) c.trim.result (c.trim.ensures.turns vault goes.is goes.going) goes.unfailed
