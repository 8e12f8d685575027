use Rattle.std.proofs.Common.{◌∙◌, ◌-◌, ◌≤◌, ℕ, ap, drop, subst, arith}
use Rattle.std.specs.Prelude.{max}
use Rattle.copy_queue.specs.Pending.{Pending}
use Rattle.history.specs.declared.entry.Base.{Base}
use Rattle.race_model.specs.Machine.{acked_to}
use Rattle.race_model.proofs.DeskKeeps.{ack_keeps}
use Rattle.desk.proofs.Steps.{counted, desk_acked}
use Rattle.desk.proofs.desk.RunningDesk.ack.Goals as goal

pub ack-requires : goal.ack-requires
ack-requires g c =
    let whole = c.requires.whole in
    let count = counted g.D.Disk.is_honest g.D.Disk.state c.args.self.now whole.desk whole.is whole.fits in
    omega (arith, count, c.requires.there, c.held.ensures)

pub returns-clause-done : goal.returns-clause-done
returns-clause-done g c = λ desk is.
    desk_acked g.D.Disk.is_honest g.D.Disk.state c.args.self.now desk is c.ack.new.self c.args.receipt (c.ack.ensures ∙ ap (λ (n : ℕ). let q : Pending = record { first = max c.args.self.now.queue.first n; images = drop (n - c.args.self.now.queue.first) c.args.self.now.queue.images } in q) c.held.ensures)

pub returns-clause-whole : goal.returns-clause-whole
returns-clause-whole g c =
    let whole = c.requires.whole in
    record { desk = acked_to whole.desk c.args.receipt; is = returns-clause-done g c whole.desk whole.is; fits = ack_keeps whole.desk whole.fits c.args.receipt (subst (λ (b : Base). c.args.receipt ≤ b.captures) whole.is.base c.requires.there) }
