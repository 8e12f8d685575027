use Rattle.std.proofs.Common.{◌∙◌, refl, sym}
use Rattle.store.proofs.Meeting.{gives_same, whole_stays, work_stays}
use Rattle.store.proofs.Recalling.{stays_glance, waits_glance}
use Rattle.store.proofs.Tabling.{glanced_table}
use Rattle.store.proofs.shared.Store.start_of.Goals as goal

pub start_of-start-requires-clause-core : goal.start_of-start-requires-clause-core
start_of-start-requires-clause-core g c =
    let stands = c.enter-side.ensures.stands in
    let found = stands.stands stands.origin stands.opened in
    record { opening = stands.origin.history; plain = found.plain; is = found.is }

pub start_of-start-requires-clause-pinned : goal.start_of-start-requires-clause-pinned
start_of-start-requires-clause-pinned g c = let p = c.requires.pinned in record { session = c.args.seat.now.number; look = p.look; there = sym c.enter-side.ensures.work ∙ p.there; pinned = p.pinned }

pub leave-requires : goal.leave-requires
leave-requires g c = gives_same g.D.Disk.is_honest g.D.Disk.state g.D.Disk.faults _ c.args.seat.now c.enter-side.new.seat c.enter-side.result c.enter-side.ensures

pub returns-clause-ready : goal.returns-clause-ready
returns-clause-ready g c = (c.leave.ensures c.args.seat.now c.enter-side.result c.enter-side.ensures).ready

pub returns-clause-same : goal.returns-clause-same
returns-clause-same g c = stays_glance g.D.Disk.is_honest g.D.Disk.state g.D.Disk.faults _ c.args.seat.now c.leave.new.seat c.enter-side.result c.enter-side.result c.requires.ready (c.leave.ensures c.args.seat.now c.enter-side.result c.enter-side.ensures) refl

pub returns-clause-waits : goal.returns-clause-waits
returns-clause-waits g c = waits_glance g.D.Disk.is_honest g.D.Disk.state g.D.Disk.faults _ c.args.seat.now c.leave.new.seat c.enter-side.result c.enter-side.result c.requires.ready (c.leave.ensures c.args.seat.now c.enter-side.result c.enter-side.ensures) refl

pub returns-clause-whole : goal.returns-clause-whole
returns-clause-whole g c = λ w. whole_stays c.args.seat.now c.leave.new.seat (stays_glance g.D.Disk.is_honest g.D.Disk.state g.D.Disk.faults _ c.args.seat.now c.leave.new.seat c.enter-side.result c.enter-side.result c.requires.ready (c.leave.ensures c.args.seat.now c.enter-side.result c.enter-side.ensures) refl) w

pub returns-clause-work : goal.returns-clause-work
returns-clause-work g c = work_stays c.args.seat.now c.leave.new.seat (stays_glance g.D.Disk.is_honest g.D.Disk.state g.D.Disk.faults _ c.args.seat.now c.leave.new.seat c.enter-side.result c.enter-side.result c.requires.ready (c.leave.ensures c.args.seat.now c.enter-side.result c.enter-side.ensures) refl)

pub returns-clause-first_met : goal.returns-clause-first_met
returns-clause-first_met g c = glanced_table g.D.Disk.is_honest g.D.Disk.state g.D.Disk.faults _ c.args.seat.now c.leave.new.seat c.enter-side.result c.enter-side.result (c.leave.ensures c.args.seat.now c.enter-side.result c.enter-side.ensures) c.args.snapshot c.start_of-start.result refl c.start_of-start.ensures

pub returns-clause-visits : goal.returns-clause-visits
returns-clause-visits g c = record { before = c.enter-side.result; after = c.enter-side.result; visited = c.leave.ensures c.args.seat.now c.enter-side.result c.enter-side.ensures; does = record { log = refl; file = refl } }
