use Rattle.std.proofs.Common.{ap, inl}
use Rattle.retro.specs.Says.{number_of}
use Rattle.retro.proofs.saying.refuse.Goals as goal

pub returns-in-Ok-clause-said : goal.returns-in-Ok-clause-said
returns-in-Ok-clause-said g c =
    let said = rw (c.as_slice.ensures.value, c.in-Ok.ensures) at c.say.ensures.said in
    rw c.in-DiskFault.is (inl (ap number_of c.say.ensures.status, said))

pub returns-in-Ok-device_line-clause-said : goal.returns-in-Ok-device_line-clause-said
returns-in-Ok-device_line-clause-said g c =
    let said = rw (c.as_slice-in-Ok-device_line.ensures.value, c.in-Ok-device_line.ensures) at c.say-in-Ok-device_line.ensures.said in
    rw c.in-NotAStore.is (inl (ap number_of c.say-in-Ok-device_line.ensures.status, said))
