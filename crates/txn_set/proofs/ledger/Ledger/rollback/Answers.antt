use Rattle.std.proofs.Common.{sym, subst}
use Rattle.history.specs.declared.journal.What.{What}
use Rattle.journal_book.specs.declared.work.Transaction.{Transaction}
use Rattle.journal_book.specs.Works.{work_at}
use Rattle.txn_set.specs.WorksFit.{Closes}
use Rattle.txn_set.proofs.FitSteps.{closing_ends}
use Rattle.txn_set.proofs.ledger.Ledger.rollback.Goals as goal

pub close-requires-clause-closes : goal.close-requires-clause-closes
close-requires-clause-closes c =
    let t : Transaction = c.requires.is_open.transaction in
    subst (λ (w : What). Closes c.args.who w (work_at c.args.self.now.works.slots c.args.who.session)) (sym c.closing.ensures)
    (closing_ends c.args.who c.transaction.result.now.kept c.args.why t (work_at c.args.self.now.works.slots c.args.who.session) c.requires.is_open.open_there c.requires.is_open.is_of)
