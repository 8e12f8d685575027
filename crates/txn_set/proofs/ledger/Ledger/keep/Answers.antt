use Rattle.std.proofs.Common.{◌∙◌, sym, subst}
use Rattle.journal_book.specs.declared.work.Transaction.{Transaction}
use Rattle.journal_book.specs.Works.{Works}
use Rattle.txn_set.specs.WorksFit.{WorksFit}
use Rattle.txn_set.proofs.LedgerSteps.{ledger, not_kept}
use Rattle.txn_set.proofs.FitSteps.{fits_keeping}
use Rattle.txn_set.proofs.ledger.Ledger.keep.Goals as goal

pub returns-then-is_kept-clause-fits : goal.returns-then-is_kept-clause-fits
returns-then-is_kept-clause-fits c =
    let t : Transaction = c.requires.is_open.transaction in
    subst (λ (w : Works). WorksFit (ledger c.args.self.now.book w)) (sym (c.keep.ensures t c.requires.is_open.open_there))
    (fits_keeping c.args.self.now c.args.who t c.args.why c.requires.fits c.requires.is_open.open_there (sym c.is_kept.ensures ∙ c.if-is_kept.true))

pub returns-else-is_kept-clause-done : goal.returns-else-is_kept-clause-done
returns-else-is_kept-clause-done c = λ t is. not_kept c.args.who c.args.self.now c.args.why t (sym c.is_kept.ensures ∙ c.if-is_kept.false) is
