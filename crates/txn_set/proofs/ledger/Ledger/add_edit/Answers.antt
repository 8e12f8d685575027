use Rattle.std.proofs.Common.{Some}
use Rattle.history.specs.declared.writes.PageImage.{PageImage}
use Rattle.journal_book.specs.declared.work.Transaction.{Transaction}
use Rattle.journal_book.specs.declared.work.Work.TheVariants.{Open}
use Rattle.journal_book.specs.Works.{Works, editing, working}
use Rattle.txn_set.specs.WorksFit.{WorksFit}
use Rattle.txn_set.proofs.LedgerSteps.{ledger, works_done}
use Rattle.txn_set.proofs.FitSteps.{by_result, edit_alone, fits_editing}
use Rattle.txn_set.proofs.ledger.Ledger.add_edit.Goals as goal

pub add_edit-requires-clause-latch : goal.add_edit-requires-clause-latch
add_edit-requires-clause-latch c = λ other edits.
    edit_alone c.args.self.now c.args.who c.requires.is_open.transaction c.args.page other c.requires.fits c.requires.is_open.open_there (c.requires.allowed c.requires.is_open.transaction c.requires.is_open.open_there) edits

pub returns-clause-done : goal.returns-clause-done
returns-clause-done c = λ t is. works_done c.args.self.now.book c.add_edit.result _ _ (c.add_edit.ensures.done t is)

pub returns-clause-fits : goal.returns-clause-fits
returns-clause-fits c =
    let t : Transaction = c.requires.is_open.transaction in
    let image : PageImage = record { page = c.args.page; bytes = c.args.bytes.now } in
    by_result c.add_edit.result (λ (w : Works). WorksFit (ledger c.args.self.now.book w)) c.add_edit.new.self (working c.args.self.now.works c.args.who.session (Some (Open (editing image t)))) c.args.self.now.works
    (c.add_edit.ensures.done t c.requires.is_open.open_there) c.add_edit.ensures.refused
    (fits_editing c.args.self.now c.args.who t image c.requires.fits c.requires.is_open.open_there c.requires.page (c.requires.allowed t c.requires.is_open.open_there)) c.requires.fits
