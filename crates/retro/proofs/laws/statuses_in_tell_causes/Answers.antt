use Rattle.retro.proofs.Ends.{statuses_in_tell_causes}
use Rattle.retro.proofs.laws.statuses_in_tell_causes.Goals as goal

pub returns : goal.returns
returns g c dir source sink old new status =
    let k = g.C.Cabinet in
    let d = g.C.Device.Disk in
    statuses_in_tell_causes k.faults k.is_out k.tells k.store d.extent d.faults d.is_honest d.remembers d.state d.clock dir source sink old new status
