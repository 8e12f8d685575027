use Rattle.std.proofs.Common.{refl, subst}
use Rattle.std.specs.Prelude.{option_copied}
use Rattle.txn_set.specs.declared.ledger.Ledger.{Ledger}
use Rattle.txn_set.specs.Ledger.{IsOpenAs}
use Rattle.core_trial.proofs.Wholes.{commit_whole}
use Rattle.core_trial.proofs.trial.Trial.commit.Goals as goal

pub invariant_of-self : goal.invariant_of-self
invariant_of-self g c =
    commit_whole g.D.Disk.is_honest g.D.Disk.state c.self.inside.core c.commit.new.self c.self.invariant c.args.who (option_copied c.args.mark) c.commit.result
    (subst (λ (l : Ledger). IsOpenAs l.works.slots c.args.who) c.ledger.ensures (c.if-not-is_open.ensures refl)) c.commit.ensures.stays c.commit.ensures.untouched c.commit.ensures.done c.commit.ensures.failed
