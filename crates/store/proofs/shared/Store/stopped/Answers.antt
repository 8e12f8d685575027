use Rattle.std.proofs.Common.{◌∙◌, refl, sym, ap}
use Rattle.std.specs.Prelude.{is_some}
use Rattle.history.specs.Lines.{first_stop}
use Rattle.store.proofs.Meeting.{gives_same, whole_stays, work_stays}
use Rattle.store.proofs.Recalling.{stays_glance, waits_glance}
use Rattle.store.proofs.shared.Store.stopped.Goals as goal

pub leave-requires : goal.leave-requires
leave-requires g c = gives_same g.D.Disk.is_honest g.D.Disk.state g.D.Disk.faults _ c.args.seat.now c.enter-side.new.seat c.enter-side.result c.enter-side.ensures

pub returns-clause-ready : goal.returns-clause-ready
returns-clause-ready g c = (c.leave.ensures c.args.seat.now c.enter-side.result c.enter-side.ensures).ready

pub returns-clause-same : goal.returns-clause-same
returns-clause-same g c = stays_glance g.D.Disk.is_honest g.D.Disk.state g.D.Disk.faults _ c.args.seat.now c.leave.new.seat c.enter-side.result c.enter-side.result c.requires (c.leave.ensures c.args.seat.now c.enter-side.result c.enter-side.ensures) refl

pub returns-clause-waits : goal.returns-clause-waits
returns-clause-waits g c = waits_glance g.D.Disk.is_honest g.D.Disk.state g.D.Disk.faults _ c.args.seat.now c.leave.new.seat c.enter-side.result c.enter-side.result c.requires (c.leave.ensures c.args.seat.now c.enter-side.result c.enter-side.ensures) refl

pub returns-clause-stopped : goal.returns-clause-stopped
returns-clause-stopped g c = c.stopped-stopped.ensures ∙ ap (λ l. is_some (first_stop l)) (sym (c.leave.ensures c.args.seat.now c.enter-side.result c.enter-side.ensures).seen)

pub returns-clause-whole : goal.returns-clause-whole
returns-clause-whole g c = λ w. whole_stays c.args.seat.now c.leave.new.seat (stays_glance g.D.Disk.is_honest g.D.Disk.state g.D.Disk.faults _ c.args.seat.now c.leave.new.seat c.enter-side.result c.enter-side.result c.requires (c.leave.ensures c.args.seat.now c.enter-side.result c.enter-side.ensures) refl) w

pub returns-clause-work : goal.returns-clause-work
returns-clause-work g c = work_stays c.args.seat.now c.leave.new.seat (stays_glance g.D.Disk.is_honest g.D.Disk.state g.D.Disk.faults _ c.args.seat.now c.leave.new.seat c.enter-side.result c.enter-side.result c.requires (c.leave.ensures c.args.seat.now c.enter-side.result c.enter-side.ensures) refl)

pub returns-clause-visits : goal.returns-clause-visits
returns-clause-visits g c = record { before = c.enter-side.result; after = c.enter-side.result; visited = c.leave.ensures c.args.seat.now c.enter-side.result c.enter-side.ensures; does = record { log = refl; file = refl } }
