use Rattle.std.proofs.Common.{refl, subst}
use Rattle.history.specs.declared.journal.FailedCall.TheVariants.{Write}
use Rattle.race_model.specs.Machine.{cut, cut_failed}
use Rattle.core_trial.proofs.Wholes.{err_map, ok_and, told_whole}
use Rattle.txn_set.specs.declared.ledger.Ledger.{Ledger}
use Rattle.store_core.specs.Calls.{MayRecord}
use Rattle.core_trial.proofs.trial.Trial.cut_log.Goals as goal

pub cut_log-requires-clause-place : goal.cut_log-requires-clause-place
cut_log-requires-clause-place g c = subst (λ (l : Ledger). MayRecord c.args.who l) c.ledger.ensures (c.if-not-may_fault.ensures.place refl, λ device count. c.if-not-may_fault.ensures.closes refl device count Write)

pub invariant_of-self : goal.invariant_of-self
invariant_of-self g c =
    let whole = c.self.invariant in
    told_whole g.D.Disk.is_honest g.D.Disk.state c.self.inside.core c.cut_log.new.self whole _ c.args.who c.cut_log.result
    (ok_and c.cut_log.result (c.cut_log.ensures.done whole.opening whole.plain whole.is) (λ told is e. (cut whole.plain, (is e).1)))
    (c.cut_log.ensures.none whole.opening whole.plain whole.is)
    (err_map c.cut_log.result (c.cut_log.ensures.failed whole.opening whole.plain whole.is) (λ why is fault. (cut_failed whole.plain, (is fault).1)))
    c.cut_log.ensures.ledger c.cut_log.ensures.untouched
