use Rattle.std.proofs.Common.{refl, ap, subst, ◌≤◌}
use Rattle.history.specs.declared.entry.Base.{Base}
use Rattle.page_pool.specs.Side.{held}
use Rattle.race_model.specs.Machine.{acked_to}
use Rattle.race_model.proofs.DeskKeeps.{ack_keeps}
use Rattle.desk.specs.declared.desk.RunningDesk.{RunningDesk}
use Rattle.store_core.proofs.Faulted.{core_step}
use Rattle.store_core.proofs.desk_core.Core.ack.Goals as goal

pub returns-clause-done : goal.returns-clause-done
returns-clause-done g c = λ opening plain is.
    core_step g.D.Disk.is_honest g.D.Disk.state opening c.args.self.now plain is c.ack.new.self (acked_to plain c.args.receipt) (c.ack.ensures.done plain is.is)
    (ack_keeps plain is.fits c.args.receipt (subst (λ (b : Base). c.args.receipt ≤ b.captures) is.is.base c.requires.there)) refl
    (λ page. ap (λ (r : RunningDesk g.row.D.Denot). held r.pool page) c.ack.ensures.queue) (ap (λ (r : RunningDesk g.row.D.Denot). r.stop) c.ack.ensures.queue) (ap (λ (r : RunningDesk g.row.D.Denot). r.base) c.ack.ensures.queue) is.doubt
