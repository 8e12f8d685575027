use Rattle.std.proofs.Common.{refl, subst}
use Rattle.history.specs.declared.journal.FailedCall.TheVariants.{Write}
use Rattle.race_model.specs.Machine.{settled, stopped}
use Rattle.core_trial.proofs.Wholes.{settle_whole}
use Rattle.txn_set.specs.declared.ledger.Ledger.{Ledger}
use Rattle.store_core.specs.Calls.{MayRecord}
use Rattle.core_trial.proofs.trial.Trial.settle.Goals as goal

pub settle-requires-clause-place : goal.settle-requires-clause-place
settle-requires-clause-place g c = subst (λ (l : Ledger). MayRecord c.args.who l) c.ledger.ensures (c.if-not-may_fault.ensures.place refl, λ device count. c.if-not-may_fault.ensures.closes refl device count Write)

pub invariant_of-self : goal.invariant_of-self
invariant_of-self g c =
    let whole = c.self.invariant in
    settle_whole g.D.Disk.is_honest g.D.Disk.state c.self.inside.core c.settle.new.self whole c.args.who c.settle.result (settled whole.plain) (stopped whole.plain)
    (c.settle.ensures.done whole.opening whole.plain whole.is) (c.settle.ensures.failed whole.opening whole.plain whole.is) c.settle.ensures.ledger c.settle.ensures.untouched
