use Rattle.std.proofs.Common.{◌≡◌, ◌∙◌, ◌-◌, None, refl, sym, subst}
use Rattle.history.specs.declared.journal.What.{What}
use Rattle.history.specs.declared.journal.What.TheVariants as whats
use Rattle.journal_book.specs.Book.{Book, noting}
use Rattle.journal_book.specs.Works.{work_at}
use Rattle.txn_set.specs.Ledger.{line_of}
use Rattle.txn_set.specs.WorksFit.{WorksFit}
use Rattle.txn_set.proofs.LedgerSteps.{ledger}
use Rattle.txn_set.proofs.FitSteps.{fits_lone, is_none}
use Rattle.txn_set.proofs.ledger.Ledger.note.Goals as goal

pub returns-else-has_work-clause-fits : goal.returns-else-has_work-clause-fits
returns-else-has_work-clause-fits c =
    let what : What = whats.Fault c.args.device c.args.count c.args.call in
    let none : work_at c.args.self.now.works.slots c.args.who.session ≡ None = is_none (work_at c.args.self.now.works.slots c.args.who.session) (sym c.has_work.ensures ∙ c.if-has_work.false) in
    let lone : WorksFit (ledger (noting c.args.self.now.book (line_of c.args.who what)) c.args.self.now.works) = fits_lone c.args.self.now c.args.who what (c.args.self.now.book.workers - 1) c.requires.fits none refl refl in
    subst (λ (b : Book). WorksFit (ledger b c.args.self.now.works)) (sym c.note.ensures) lone
