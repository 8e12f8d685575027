use Rattle.std.proofs.Common.{None, arith}
use Rattle.journal_book.specs.Book.{closing_with}
use Rattle.journal_book.specs.Works.{working}
use Rattle.txn_set.specs.Ledger.{line_of}
use Rattle.txn_set.proofs.LedgerSteps.{some_kept}
use Rattle.txn_set.proofs.FitSteps.{fits_closing, parts_fit}
use Rattle.txn_set.proofs.ledger.Ledger.close.Goals as goal

pub close-requires-clause-kept : goal.close-requires-clause-kept
close-requires-clause-kept c = omega (arith, c.requires.fits.kept, some_kept c.args.self.now.works.slots c.args.who.session c.requires.work)

pub returns-clause-fits : goal.returns-clause-fits
returns-clause-fits c =
    parts_fit c.close.new.self (closing_with c.args.self.now.book (line_of c.args.who c.args.what)) c.clear.new.self (working c.args.self.now.works c.args.who.session None) c.close.ensures c.clear.ensures
    (fits_closing c.args.self.now c.args.who c.args.what c.requires.fits c.requires.work c.requires.nothing c.requires.closes)
