use Rattle.std.proofs.Common.{◌∙◌, ◌&&◌, not, refl, sym, ap, subst}
use Rattle.std.specs.Prelude.{IsSome}
use Rattle.history.specs.Writes.{is_among, pages_of}
use Rattle.page_pool.specs.Side.{held}
use Rattle.journal_book.specs.declared.work.Work.{Work}
use Rattle.journal_book.specs.Works.{edits_of, work_at}
use Rattle.std.specs.Prelude.{Option}
use Rattle.txn_set.specs.Ledger.{ended, line_of}
use Rattle.txn_set.proofs.FitSteps.{ending_ends}
use Rattle.store_core.proofs.Cores.{doubt_stays}
use Rattle.store_core.proofs.Opened.{and_true, core_ended, ended_ends, ended_stop, stop_stays}
use Rattle.store_core.proofs.desk_core.Core.unlook.Goals as goal

pub returns-clause-core : goal.returns-clause-core
returns-clause-core g c = λ opening plain is.
    let look = c.requires.is_looking.look in
    let there = c.requires.is_looking.open_there in
    core_ended g.D.Disk.is_honest g.D.Disk.state opening c.args.self.now plain is c.args.self.now.desk c.unlook.new.self plain c.args.who (ended c.args.why) c.unlook.ensures.done c.unlook.ensures.fits (subst IsSome (sym there) refl)
    (ending_ends c.args.who c.args.why look (work_at c.args.self.now.ledger.works.slots c.args.who.session) there c.requires.is_looking.is_of) (ended_ends c.args.why) is.is is.fits refl
    (λ page. and_true (held c.args.self.now.desk.pool page) ∙ ap (λ (w : Option Work). held c.args.self.now.desk.pool page && not (is_among page (pages_of (edits_of w)))) (sym there))
    (stop_stays c.args.self.now.desk.stop _ (ended_stop c.args.why)) refl
    (doubt_stays g.D.Disk.is_honest g.D.Disk.state opening c.args.self.now plain is plain (line_of c.args.who (ended c.args.why)) refl)
