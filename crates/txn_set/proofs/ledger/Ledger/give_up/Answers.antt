use Rattle.std.proofs.Common.{None, arith}
use Rattle.journal_book.specs.Book.{giving_up}
use Rattle.journal_book.specs.Works.{work_at, working}
use Rattle.txn_set.proofs.LedgerSteps.{drop_is_some, some_kept}
use Rattle.txn_set.proofs.FitSteps.{fits_gives_up, parts_fit}
use Rattle.txn_set.proofs.ledger.Ledger.give_up.Goals as goal

pub give_up-requires : goal.give_up-requires
give_up-requires c = omega (arith, c.requires.fits.kept, some_kept c.args.self.now.works.slots c.args.session (drop_is_some (work_at c.args.self.now.works.slots c.args.session) c.requires.drop))

pub returns-clause-fits : goal.returns-clause-fits
returns-clause-fits c =
    parts_fit c.give_up.new.self (giving_up c.args.self.now.book 1) c.clear.new.self (working c.args.self.now.works c.args.session None) c.give_up.ensures c.clear.ensures
    (fits_gives_up c.args.self.now c.args.session c.requires.fits c.requires.drop)
