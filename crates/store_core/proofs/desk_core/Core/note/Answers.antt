use Rattle.std.proofs.Common.{◌≡◌, ◌∙◌, ◌&&◌, not, cond, ℕ, Bool, List, Option, Some, refl, sym, ap, subst}
use Rattle.std.specs.Option.{option_or}
use Rattle.retro_base.specs.declared.device.Device.{Device}
use Rattle.history.specs.Lines.{is_write}
use Rattle.history.specs.declared.stop.Stop.{Stop}
use Rattle.history.specs.declared.writes.PageImage.{PageImage}
use Rattle.history.specs.Writes.{is_among, pages_of}
use Rattle.page_pool.specs.Side.{held}
use Rattle.race_model.specs.Machine.{stopped}
use Rattle.race_model.proofs.DeskKeeps.{stop_keeps}
use Rattle.desk.specs.declared.desk.RunningDesk.{RunningDesk}
use Rattle.desk.specs.Desk.{IsDesk}
use Rattle.history.specs.declared.journal.What.TheVariants as whats
use Rattle.txn_set.specs.Ledger.{line_of}
use Rattle.store_core.proofs.Cores.{doubt_stays}
use Rattle.store_core.proofs.Faulted.{core_faulted, stop_by}
use Rattle.store_core.proofs.desk_core.Core.note.Goals as goal

-- the stop by the test of the call
tested : (stop : Option Stop) (device : Device) (count : ℕ) (a b : Bool) → a ≡ b
    → cond a (option_or stop (Some (record { device = device; count = count }))) stop ≡ cond b (option_or stop (Some (record { device = device; count = count }))) stop
tested stop device count a b is = ap (λ (c : Bool). cond c (option_or stop (Some (record { device = device; count = count }))) stop) is

pub returns-clause-stops : goal.returns-clause-stops
returns-clause-stops g c = λ opening plain is wrote.
    core_faulted g.D.Disk.is_honest g.D.Disk.state opening c.args.self.now plain is c.release_all.new.desk (stopped plain) c.args.who c.args.device c.args.count c.args.call c.note.new.self c.note.ensures.done c.note.ensures.fits c.requires.place c.requires.closes
    (c.release_all.ensures.desk (stopped plain) (c.stop_where.ensures.done plain (c.is_write.ensures ∙ wrote) is.is)) (stop_keeps plain is.fits) refl
    (λ page. c.release_all.ensures.held page
    ∙ ap (λ (r : RunningDesk g.row.D.Denot). held r.pool page && not (is_among page (pages_of c.edits_of.result.now))) c.stop_where.ensures.first
    ∙ ap (λ (l : List PageImage). held c.args.self.now.desk.pool page && not (is_among page (pages_of l))) c.edits_of.ensures)
    (ap (λ (r : RunningDesk g.row.D.Denot). r.stop) c.release_all.ensures.rest ∙ ap (λ (r : RunningDesk g.row.D.Denot). r.stop) c.stop_where.ensures.first ∙ tested c.args.self.now.desk.stop c.args.device c.args.count c.is_write.result (is_write c.args.call) c.is_write.ensures ∙ stop_by c.args.self.now.desk.stop c.args.device c.args.count c.args.call)
    (ap (λ (r : RunningDesk g.row.D.Denot). r.base) c.release_all.ensures.rest ∙ ap (λ (r : RunningDesk g.row.D.Denot). r.base) c.stop_where.ensures.first)
    (doubt_stays g.D.Disk.is_honest g.D.Disk.state opening c.args.self.now plain is (stopped plain) (line_of c.args.who (whats.Fault c.args.device c.args.count c.args.call)) refl)

pub returns-clause-quiet : goal.returns-clause-quiet
returns-clause-quiet g c = λ wrote opening plain is.
    core_faulted g.D.Disk.is_honest g.D.Disk.state opening c.args.self.now plain is c.release_all.new.desk plain c.args.who c.args.device c.args.count c.args.call c.note.new.self c.note.ensures.done c.note.ensures.fits c.requires.place c.requires.closes
    (c.release_all.ensures.desk plain (subst (λ (r : RunningDesk g.row.D.Denot). IsDesk g.D.Disk.is_honest g.D.Disk.state r plain) (sym (c.stop_where.ensures.quiet (c.is_write.ensures ∙ wrote))) is.is)) is.fits refl
    (λ page. c.release_all.ensures.held page
    ∙ ap (λ (r : RunningDesk g.row.D.Denot). held r.pool page && not (is_among page (pages_of c.edits_of.result.now))) c.stop_where.ensures.first
    ∙ ap (λ (l : List PageImage). held c.args.self.now.desk.pool page && not (is_among page (pages_of l))) c.edits_of.ensures)
    (ap (λ (r : RunningDesk g.row.D.Denot). r.stop) c.release_all.ensures.rest ∙ ap (λ (r : RunningDesk g.row.D.Denot). r.stop) c.stop_where.ensures.first ∙ tested c.args.self.now.desk.stop c.args.device c.args.count c.is_write.result (is_write c.args.call) c.is_write.ensures ∙ stop_by c.args.self.now.desk.stop c.args.device c.args.count c.args.call)
    (ap (λ (r : RunningDesk g.row.D.Denot). r.base) c.release_all.ensures.rest ∙ ap (λ (r : RunningDesk g.row.D.Denot). r.base) c.stop_where.ensures.first)
    (doubt_stays g.D.Disk.is_honest g.D.Disk.state opening c.args.self.now plain is plain (line_of c.args.who (whats.Fault c.args.device c.args.count c.args.call)) refl)
