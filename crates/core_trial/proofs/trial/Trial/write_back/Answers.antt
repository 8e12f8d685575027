use Rattle.std.proofs.Common.{refl, subst}
use Rattle.history.specs.declared.journal.FailedCall.TheVariants.{Write}
use Rattle.race_model.specs.Machine.{write_failed, written_desk}
use Rattle.core_trial.proofs.Wholes.{err_map, ok_and, told_whole}
use Rattle.txn_set.specs.declared.ledger.Ledger.{Ledger}
use Rattle.store_core.specs.Calls.{MayRecord}
use Rattle.core_trial.proofs.trial.Trial.write_back.Goals as goal

pub write_back-requires-clause-place : goal.write_back-requires-clause-place
write_back-requires-clause-place g c = subst (λ (l : Ledger). MayRecord c.args.who l) c.ledger.ensures (c.if-not-may_fault.ensures.place refl, λ device count. c.if-not-may_fault.ensures.closes refl device count Write)

pub invariant_of-self : goal.invariant_of-self
invariant_of-self g c =
    let whole = c.self.invariant in
    told_whole g.D.Disk.is_honest g.D.Disk.state c.self.inside.core c.write_back.new.self whole _ c.args.who c.write_back.result
    (ok_and c.write_back.result (c.write_back.ensures.done whole.opening whole.plain whole.is) (λ told is e. let found = is e in (written_desk whole.plain found.0 whole.plain.acked, found.3 whole.plain.acked found.2)))
    (c.write_back.ensures.none whole.opening whole.plain whole.is)
    (err_map c.write_back.result (c.write_back.ensures.failed whole.opening whole.plain whole.plain.acked whole.is)
    (λ why is fault. let found = is fault in (write_failed whole.plain found.0 whole.plain.acked found.1, found.4 found.3)))
    c.write_back.ensures.ledger c.write_back.ensures.untouched
