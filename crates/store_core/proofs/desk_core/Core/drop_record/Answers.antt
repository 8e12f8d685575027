use Rattle.std.proofs.Common.{◌∙◌, ℕ, length, refl, sym, ap, subst}
use Rattle.disk_model.specs.Moments.{LeavesOnly}
use Rattle.retro_base.specs.declared.refusal.Refusal.{Refusal}
use Rattle.history.specs.declared.entry.Change.TheVariants.{Drop}
use Rattle.history.specs.declared.journal.What.TheVariants as whats
use Rattle.records.specs.Entries.{change_bytes}
use Rattle.race_model.specs.Machine.{change_failed}
use Rattle.redo_log.specs.Side.{LogSide}
use Rattle.desk.specs.declared.desk.RunningDesk.{RunningDesk}
use Rattle.desk.specs.Cause.{IsChangeRefusal}
use Rattle.desk.specs.Desk.{IsDesk, ListsLogOf}
use Rattle.store_core.specs.Core.{IsCore}
use Rattle.store_core.proofs.Drops.{drop_goes}
use Rattle.store_core.proofs.Dropped.{core_drop_fails, core_dropped_some, drop_may, drop_right}
use Rattle.store_core.proofs.Faulted.{going_refusal}
use Rattle.store_core.proofs.Kept.{closes_drop, kept_some}
use Rattle.store_core.proofs.desk_core.Core.drop_record.Goals as goal

pub send_drop-requires-clause-right : goal.send_drop-requires-clause-right
send_drop-requires-clause-right g c =
    drop_right g.D.Disk.is_honest g.D.Disk.state c.requires.core.opening c.args.self.now c.requires.core.plain c.requires.core.is c.args.who c.args.below c.requires.kept c.requires.free c.requires.above

pub close-requires-clause-work : goal.close-requires-clause-work
close-requires-clause-work g c = kept_some _ c.requires.kept

pub close-requires-clause-closes : goal.close-requires-clause-closes
close-requires-clause-closes g c = closes_drop c.args.who (whats.Dropped c.args.below) _ c.requires.kept refl

pub returns-in-Ok-clause-done : goal.returns-in-Ok-clause-done
returns-in-Ok-clause-done g c = λ opening plain is.
    core_dropped_some g.D.Disk.is_honest g.D.Disk.state opening c.args.self.now plain is c.args.who c.args.below c.requires.kept c.requires.free c.requires.above c.send_drop.new.desk c.close.new.self c.close.ensures.done c.close.ensures.fits
    (c.in-Ok.ensures.done plain (drop_may g.D.Disk.is_honest g.D.Disk.state opening c.args.self.now plain is c.args.who c.args.below c.requires.kept c.requires.free c.requires.above))
    c.in-Ok.ensures.held c.in-Ok.ensures.stop c.in-Ok.ensures.base

pub returns-in-Ok-clause-any_moment : goal.returns-in-Ok-clause-any_moment
returns-in-Ok-clause-any_moment g c = λ opening plain is told.
    c.in-Ok.ensures.any_moment plain (drop_may g.D.Disk.is_honest g.D.Disk.state opening c.args.self.now plain is c.args.who c.args.below c.requires.kept c.requires.free c.requires.above) told

pub returns-in-Err-clause-any_moment : goal.returns-in-Err-clause-any_moment
returns-in-Err-clause-any_moment g c = λ opening plain is told.
    subst (λ (l : LogSide g.row.D.Denot). LeavesOnly g.D.Disk.remembers (g.D.Disk.clock c.args.self.now.desk.log.disk) (g.D.Disk.clock l.disk) (ListsLogOf (change_failed plain (Drop c.args.below))))
    (sym (ap (λ (r : RunningDesk g.row.D.Denot). r.log) c.end_drop.ensures.rest))
    (c.in-Err.ensures.any_moment plain (drop_may g.D.Disk.is_honest g.D.Disk.state opening c.args.self.now plain is c.args.who c.args.below c.requires.kept c.requires.free c.requires.above) told)

pub returns-in-Err-clause-cause : goal.returns-in-Err-clause-cause
returns-in-Err-clause-cause g c =
    let IsOwn : ℕ → Refusal → Type 0 = λ faults. IsChangeRefusal c.args.self.now.desk.log.log.area.log (length (change_bytes c.args.self.now.desk.log.log.version (Drop c.args.below))) (g.D.Disk.faults c.args.self.now.desk.log.disk) faults in
    subst (λ (l : LogSide g.row.D.Denot). IsOwn (g.D.Disk.faults l.disk) c.in-Err.why) (sym (ap (λ (r : RunningDesk g.row.D.Denot). r.log) c.end_drop.ensures.rest))
    (going_refusal c.args.self.now.desk.stop (IsOwn (g.D.Disk.faults c.send_drop.new.desk.log.disk)) c.in-Err.why
    (drop_goes g.D.Disk.is_honest g.D.Disk.state c.requires.core.opening c.args.self.now c.requires.core.plain c.requires.core.is c.args.who c.args.below c.requires.kept c.requires.free) c.in-Err.ensures.cause)

pub returns-in-Err-clause-untouched : goal.returns-in-Err-clause-untouched
returns-in-Err-clause-untouched g c = λ other. c.end_drop.ensures.untouched other ∙ c.in-Err.ensures.untouched other

pub returns-in-Err-clause-failed : goal.returns-in-Err-clause-failed
returns-in-Err-clause-failed g c = λ opening plain is fault.
    let sent : IsDesk g.D.Disk.is_honest g.D.Disk.state c.send_drop.new.desk (change_failed plain (Drop c.args.below)) =
    c.in-Err.ensures.failed plain (drop_may g.D.Disk.is_honest g.D.Disk.state opening c.args.self.now plain is c.args.who c.args.below c.requires.kept c.requires.free c.requires.above) fault in
    core_drop_fails g.D.Disk.is_honest g.D.Disk.state opening c.args.self.now plain is c.args.who c.args.below c.requires.kept c.requires.free c.requires.above c.send_drop.new.desk c.end_drop.new.self.desk c.in-Err.why c.end_drop.new.self.ledger
    fault c.in-Err.ensures.stop sent c.in-Err.ensures.held c.end_drop.ensures.rest (c.end_drop.ensures.held fault) c.end_drop.ensures.ledger c.end_drop.ensures.works (c.end_drop.ensures.desk (change_failed plain (Drop c.args.below)) sent)

pub returns-in-Err-clause-stays : goal.returns-in-Err-clause-stays
returns-in-Err-clause-stays g c = λ other opening plain is.
    c.end_drop.ensures.stays other opening plain
    (subst (λ (r : RunningDesk g.row.D.Denot). IsCore g.D.Disk.is_honest g.D.Disk.state opening (record { desk = r; ledger = c.args.self.now.ledger }) plain) (sym (c.in-Err.ensures.untouched other)) is)
