use Rattle.std.proofs.Common.{arith}
use Rattle.race_model.specs.Machine.{acked_to}
use Rattle.desk.proofs.Steps.{counted}
use Rattle.core_trial.proofs.trial.Trial.ack.Goals as goal

pub ack-requires-clause-there : goal.ack-requires-clause-there
ack-requires-clause-there g c =
    let whole = c.self.invariant in
    let count = counted g.D.Disk.is_honest g.D.Disk.state c.self.inside.core.desk whole.plain whole.is.is whole.is.fits in
    omega (arith, count, c.acked.ensures, c.pending.ensures, c.saturating_add-captures.ensures, c.if-count-captures.false, c.of.ensures)

pub invariant_of-self : goal.invariant_of-self
invariant_of-self g c =
    let whole = c.self.invariant in
    record { opening = whole.opening; plain = acked_to whole.plain c.of.result; is = c.ack.ensures.done whole.opening whole.plain whole.is }
