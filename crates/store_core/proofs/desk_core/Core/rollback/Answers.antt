use Rattle.std.proofs.Common.{◌∙◌, ◌&&◌, not, List, refl, sym, ap, subst}
use Rattle.std.specs.Prelude.{IsSome}
use Rattle.history.specs.declared.writes.PageImage.{PageImage}
use Rattle.history.specs.Writes.{is_among, pages_of}
use Rattle.page_pool.specs.Side.{held}
use Rattle.desk.specs.declared.desk.RunningDesk.{RunningDesk}
use Rattle.journal_book.specs.Works.{work_at}
use Rattle.txn_set.specs.Ledger.{closing, line_of}
use Rattle.txn_set.proofs.FitSteps.{closing_ends}
use Rattle.store_core.proofs.Cores.{doubt_stays}
use Rattle.store_core.proofs.Opened.{closing_stop, closing_work, core_ended, stop_stays}
use Rattle.store_core.proofs.desk_core.Core.rollback.Goals as goal

pub returns-clause-core : goal.returns-clause-core
returns-clause-core g c = λ opening plain is.
    let t = c.requires.is_open.transaction in
    let there = c.requires.is_open.open_there in
    let what = closing t.kept c.args.why in
    core_ended g.D.Disk.is_honest g.D.Disk.state opening c.args.self.now plain is c.release_all.new.desk c.rollback.new.self plain c.args.who what (c.rollback.ensures.done t there) c.rollback.ensures.fits (subst IsSome (sym there) refl)
    (closing_ends c.args.who t.kept c.args.why t (work_at c.args.self.now.ledger.works.slots c.args.who.session) there c.requires.is_open.is_of) (closing_work t.kept c.args.why) (c.release_all.ensures.desk plain is.is) is.fits refl
    (λ page. c.release_all.ensures.held page ∙ ap (λ (l : List PageImage). held c.args.self.now.desk.pool page && not (is_among page (pages_of l))) c.edits_of.ensures)
    (ap (λ (r : RunningDesk g.row.D.Denot). r.stop) c.release_all.ensures.rest ∙ stop_stays c.args.self.now.desk.stop _ (closing_stop t.kept c.args.why)) (ap (λ (r : RunningDesk g.row.D.Denot). r.base) c.release_all.ensures.rest)
    (doubt_stays g.D.Disk.is_honest g.D.Disk.state opening c.args.self.now plain is plain (line_of c.args.who what) refl)
