use Rattle.std.proofs.Common.{◌≡◌, ◌∙◌, Bool, cond, false, List, refl, sym, ap, subst, Option}
use Rattle.disk_model.specs.Runs.{SameDevice}
use Rattle.history.specs.declared.entry.Change.TheVariants.{Commit}
use Rattle.history.specs.declared.writes.PageImage.{PageImage}
use Rattle.race_model.specs.Machine.{changed}
use Rattle.desk.specs.declared.desk.RunningDesk.{RunningDesk}
use Rattle.journal_book.specs.declared.work.Work.{Work}
use Rattle.journal_book.specs.Works.{edits_of}
use Rattle.txn_set.specs.Refused.{leaves_record}
use Rattle.store_core.specs.Core.{IsCore}
use Rattle.store_core.proofs.desk_core.Core.commit_allowed.Goals as goal

pub returns-then-leaves_record-clause-any_moment : goal.returns-then-leaves_record-clause-any_moment
returns-then-leaves_record-clause-any_moment g c = λ opening plain t is allowed leaves told. c.commit_record.ensures.any_moment opening plain t is allowed told

pub returns-clause-same : goal.returns-clause-same
returns-clause-same g c =
    subst (λ (r : RunningDesk g.row.D.Denot). SameDevice g.D.Disk.extent g.D.Disk.is_honest c.args.self.now.desk.log.disk r.log.disk) (sym c.commit_nothing.ensures.desk) (record { size = refl; honest = (λ told. told, λ told. told) })

pub returns-clause-done : goal.returns-clause-done
returns-clause-done g c = λ opening plain t is allowed.
    let leaves : leaves_record c.args.label t.edits ≡ false =
    sym (ap (λ (w : Option Work). leaves_record c.args.label (edits_of w)) allowed.is_open) ∙ ap (λ (l : List PageImage). leaves_record c.args.label l) (sym c.edits_of.ensures) ∙ sym c.leaves_record.ensures ∙ c.if-leaves_record.false in
    subst (λ (b : Bool). IsCore g.D.Disk.is_honest g.D.Disk.state opening c.commit_nothing.new.self (cond b (changed plain (Commit c.args.label t.edits)) plain)) (sym leaves) (c.commit_nothing.ensures.core opening plain is)
