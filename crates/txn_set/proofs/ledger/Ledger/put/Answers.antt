use Rattle.std.proofs.Common.{◌∙◌, List, Option, Some, None, ap}
use Rattle.journal_book.specs.declared.work.Transaction.{Transaction}
use Rattle.journal_book.specs.declared.work.Work.{Work}
use Rattle.journal_book.specs.declared.work.Work.TheVariants.{Open}
use Rattle.journal_book.specs.Works.{working}
use Rattle.journal_book.proofs.Slots.{with_work_same, works_of}
use Rattle.txn_set.specs.declared.ledger.Ledger.{Ledger}
use Rattle.txn_set.proofs.LedgerSteps.{ledger}
use Rattle.txn_set.proofs.FitSteps.{with_work_twice}
use Rattle.txn_set.proofs.ledger.Ledger.put.Goals as goal

pub returns-clause-undone : goal.returns-clause-undone
returns-clause-undone c = λ before is was.
    let t : Transaction = c.args.transaction in
    ap (ledger c.args.self.now.book) c.put_back.ensures
    ∙ ap (λ (l : Ledger). ledger l.book (working l.works t.who.session (Some (Open t)))) was
    ∙ ap (λ (slots : List (Option Work)). ledger before.book (works_of before.works.pages slots))
    (with_work_twice before.works.slots t.who.session None (Some (Open t)) ∙ with_work_same before.works.slots t.who.session (Open t) is)
