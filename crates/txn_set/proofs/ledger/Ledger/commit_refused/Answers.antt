use Rattle.journal_book.specs.declared.work.Work.TheVariants.{Open}
use Rattle.txn_set.proofs.ledger.Ledger.commit_refused.Goals as goal

pub commit_refused-requires-clause-is_open : goal.commit_refused-requires-clause-is_open
commit_refused-requires-clause-is_open c = (c.requires.fits.each c.args.who.session (Open c.transaction-transaction.result.now) c.transaction-transaction.ensures).is_open

pub commit_refused-requires-clause-pages : goal.commit_refused-requires-clause-pages
commit_refused-requires-clause-pages c = (c.requires.fits.each c.args.who.session (Open c.transaction-transaction.result.now) c.transaction-transaction.ensures).reads_inside
