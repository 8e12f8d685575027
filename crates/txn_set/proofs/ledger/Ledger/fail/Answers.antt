use Rattle.std.proofs.Common.{◌≡◌, refl, subst, sym}
use Rattle.std.specs.Prelude.{IsSome}
use Rattle.history.specs.declared.journal.FailedCall.TheVariants.{Append}
use Rattle.history.specs.declared.journal.What.{What}
use Rattle.history.specs.declared.journal.What.TheVariants as whats
use Rattle.journal_book.specs.Book.{Book}
use Rattle.txn_set.specs.declared.ledger.Ledger.{Ledger}
use Rattle.txn_set.specs.Ledger.{doubted}
use Rattle.txn_set.specs.WorksFit.{Closes, WorksFit}
use Rattle.txn_set.proofs.FitSteps.{fits_closing}
use Rattle.txn_set.proofs.LedgerSteps.{ledger}
use Rattle.txn_set.proofs.ledger.Ledger.fail.Goals as goal

pub returns-clause-fits : goal.returns-clause-fits
returns-clause-fits c = λ before t fits is own was.
    let what : What = whats.Fault c.args.device c.args.count (Append c.args.change) in
    let now : WorksFit (doubted c.args.who c.args.device c.args.count c.args.change c.args.self.now) =
    subst (λ (l : Ledger). WorksFit (doubted c.args.who c.args.device c.args.count c.args.change l)) (sym was)
    (fits_closing before c.args.who what fits (subst IsSome (sym is) refl) refl (subst (Closes c.args.who what) (sym is) (refl, own))) in
    subst (λ (b : Book). WorksFit (ledger b c.args.self.now.works)) (sym c.close.ensures) now
