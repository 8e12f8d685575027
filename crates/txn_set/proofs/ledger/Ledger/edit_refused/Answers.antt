use Rattle.journal_book.specs.declared.work.Work.TheVariants.{Open}
use Rattle.txn_set.proofs.ledger.Ledger.edit_refused.Goals as goal

pub edit_refused-requires-clause-is_open : goal.edit_refused-requires-clause-is_open
edit_refused-requires-clause-is_open c = (c.requires.fits.each c.args.who.session (Open c.transaction-transaction.result.now) c.transaction-transaction.ensures).is_open
