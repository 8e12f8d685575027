use Rattle.journal_book.specs.declared.work.Work.TheVariants.{Open}
use Rattle.txn_set.proofs.ledger.Ledger.read_refused.Goals as goal

pub read_refused-requires-clause-is_open : goal.read_refused-requires-clause-is_open
read_refused-requires-clause-is_open c = (c.requires.fits.each c.args.who.session (Open c.transaction.result.now) c.transaction.ensures).is_open
