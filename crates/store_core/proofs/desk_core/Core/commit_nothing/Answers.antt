use Rattle.std.proofs.Common.{◌≡◌, ◌∙◌, ◌≤◌, ◌<◌, ◌+◌, length, refl, sym, ap, subst, Some}
use Rattle.std.specs.List.{AllByRecursion}
use Rattle.retro_base.specs.declared.limits.TheConstants.{JOURNAL_IMAGES}
use Rattle.history.specs.declared.writes.PageImage.{PageImage}
use Rattle.history.specs.Lines.{images_in}
use Rattle.journal_book.specs.declared.work.Transaction.{Transaction}
use Rattle.journal_book.specs.declared.work.Work.TheVariants.{Open}
use Rattle.journal_book.specs.Works.{work_at}
use Rattle.txn_set.specs.declared.ledger.Ledger.{Ledger}
use Rattle.txn_set.specs.Ledger.{committed, taken}
use Rattle.store_core.proofs.Committed.{allowed_one, core_nothing, fitting, images_room, kept_one, same_open}
use Rattle.store_core.proofs.desk_core.Core.commit_nothing.Goals as goal

pub finish-requires-clause-kept : goal.finish-requires-clause-kept
finish-requires-clause-kept g c =
    subst (λ (l : Ledger). 1 ≤ l.book.kept) (sym c.take-edits.ensures.ledger)
    (kept_one g.D.Disk.is_honest g.D.Disk.state c.requires.core.opening c.args.self.now c.requires.core.plain c.requires.core.is c.args.who c.take-edits.result c.args.label c.take-edits.ensures.transaction)

pub finish-requires-clause-images : goal.finish-requires-clause-images
finish-requires-clause-images g c =
    subst (λ (l : Ledger). images_in l.book.lines + length c.take-edits.result.edits ≤ JOURNAL_IMAGES) (sym c.take-edits.ensures.ledger)
    (images_room g.D.Disk.is_honest g.D.Disk.state c.requires.core.opening c.args.self.now c.requires.core.plain c.requires.core.is c.args.who c.take-edits.result c.args.label c.take-edits.ensures.transaction
    (allowed_one c.args.self.now c.args.who c.args.label c.requires.may.transaction c.take-edits.result c.take-edits.ensures.transaction c.requires.may.allowed).free)

pub finish-requires-clause-pages : goal.finish-requires-clause-pages
finish-requires-clause-pages g c =
    subst (λ (l : Ledger). AllByRecursion (λ (write : PageImage). write.page < l.book.pages) c.take-edits.result.edits) (sym c.take-edits.ensures.ledger)
    (fitting g.D.Disk.is_honest g.D.Disk.state c.requires.core.opening c.args.self.now c.requires.core.plain c.requires.core.is c.args.who c.take-edits.result c.args.label c.take-edits.ensures.transaction).edits_inside

pub returns-clause-ledger : goal.returns-clause-ledger
returns-clause-ledger g c = λ t allowed.
    c.finish.ensures.done ∙ ap (λ (l : Ledger). committed c.args.who c.args.label c.take-edits.result.edits l) c.take-edits.ensures.ledger
    ∙ ap (λ (x : Transaction). committed c.args.who c.args.label x.edits (taken c.args.who c.args.self.now.ledger)) (same_open (work_at c.args.self.now.ledger.works.slots c.args.who.session) c.take-edits.result t c.take-edits.ensures.transaction allowed.is_open)

pub returns-clause-core : goal.returns-clause-core
returns-clause-core g c = λ opening plain is.
    let t0 : Transaction = c.take-edits.result in
    let there : work_at c.args.self.now.ledger.works.slots c.args.who.session ≡ Some (Open t0) = c.take-edits.ensures.transaction in
    core_nothing g.D.Disk.is_honest g.D.Disk.state opening c.args.self.now plain is c.args.who t0 c.args.label there
    (allowed_one c.args.self.now c.args.who c.args.label c.requires.may.transaction t0 there c.requires.may.allowed).free c.finish.new.self
    (c.finish.ensures.done ∙ ap (λ (l : Ledger). committed c.args.who c.args.label t0.edits l) c.take-edits.ensures.ledger)
    (c.finish.ensures.fits c.args.self.now.ledger t0 is.ledger.works there
    (subst (λ (x : Transaction). x.who ≡ c.args.who) (same_open (work_at c.args.self.now.ledger.works.slots c.args.who.session) c.requires.may.transaction t0 c.requires.may.allowed.is_open there) c.requires.may.is_of)
    refl c.take-edits.ensures.ledger) (c.requires.nothing t0 there)
