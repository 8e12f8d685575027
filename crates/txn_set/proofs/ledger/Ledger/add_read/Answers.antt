use Rattle.std.proofs.Common.{Some}
use Rattle.journal_book.specs.declared.work.Transaction.{Transaction}
use Rattle.journal_book.specs.declared.work.Work.TheVariants.{Open}
use Rattle.journal_book.specs.Works.{Works, reading, working}
use Rattle.txn_set.specs.WorksFit.{WorksFit}
use Rattle.txn_set.proofs.LedgerSteps.{ledger, works_done}
use Rattle.txn_set.proofs.FitSteps.{by_result, fits_reading}
use Rattle.txn_set.proofs.ledger.Ledger.add_read.Goals as goal

pub returns-clause-done : goal.returns-clause-done
returns-clause-done c = λ t is. works_done c.args.self.now.book c.add_read.result _ _ (c.add_read.ensures.done t is)

pub returns-clause-fits : goal.returns-clause-fits
returns-clause-fits c =
    let t : Transaction = c.requires.is_open.transaction in
    by_result c.add_read.result (λ (w : Works). WorksFit (ledger c.args.self.now.book w)) c.add_read.new.self (working c.args.self.now.works c.args.who.session (Some (Open (reading c.args.page t)))) c.args.self.now.works
    (c.add_read.ensures.done t c.requires.is_open.open_there) c.add_read.ensures.refused (fits_reading c.args.self.now c.args.who t c.args.page c.requires.fits c.requires.is_open.open_there c.requires.page) c.requires.fits
