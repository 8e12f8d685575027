use Rattle.retro.proofs.Ends.{statuses_of_format_tell_causes}
use Rattle.retro.proofs.laws.statuses_of_format_tell_causes.Goals as goal

pub returns : goal.returns
returns g c =
    let k = g.C.Cabinet in
    let d = g.C.Device.Disk in
    statuses_of_format_tell_causes k.faults k.is_out k.tells k.store d.extent d.faults d.is_honest d.state
