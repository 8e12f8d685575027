use Rattle.std.proofs.Common.{◌≡◌, List, Some, sym, subst}
use Rattle.history.specs.declared.writes.PageImage.{PageImage}
use Rattle.retro_base.specs.declared.who.Who.{Who}
use Rattle.journal_book.specs.declared.work.Work.TheVariants.{Open}
use Rattle.journal_book.specs.Book.{Book}
use Rattle.journal_book.specs.Works.{work_at}
use Rattle.txn_set.specs.declared.ledger.Ledger.{Ledger}
use Rattle.txn_set.specs.Ledger.{committed, taken}
use Rattle.txn_set.specs.WorksFit.{WorksFit}
use Rattle.txn_set.proofs.LedgerSteps.{ledger}
use Rattle.txn_set.proofs.FitSteps.{fits_committed}
use Rattle.txn_set.proofs.ledger.Ledger.finish.Goals as goal

pub returns-clause-fits : goal.returns-clause-fits
returns-clause-fits c = λ before t fits is own edits was.
    let there : work_at before.works.slots t.who.session ≡ Some (Open t) = subst (λ (w : Who). work_at before.works.slots w.session ≡ Some (Open t)) (sym own) is in
    let done : WorksFit (committed t.who c.args.label t.edits (taken t.who before)) = fits_committed before t c.args.label fits there in
    let mine : WorksFit (committed c.args.who c.args.label t.edits (taken c.args.who before)) = subst (λ (w : Who). WorksFit (committed w c.args.label t.edits (taken w before))) own done in
    let written : WorksFit (committed c.args.who c.args.label c.args.writes (taken c.args.who before)) =
    subst (λ (l : List PageImage). WorksFit (committed c.args.who c.args.label l (taken c.args.who before))) edits mine in
    let now : WorksFit (committed c.args.who c.args.label c.args.writes c.args.self.now) = subst (λ (l : Ledger). WorksFit (committed c.args.who c.args.label c.args.writes l)) (sym was) written in
    subst (λ (b : Book). WorksFit (ledger b c.args.self.now.works)) (sym c.finish.ensures) now
