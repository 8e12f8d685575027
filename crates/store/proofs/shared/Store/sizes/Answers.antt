use Rattle.std.proofs.Common.{◌∙◌, ◌<◌, refl, ap, subst}
use Rattle.store.proofs.Entering.{capacity_stays}
use Rattle.store.proofs.Meeting.{gives_same, of_opening, whole_stays, work_stays}
use Rattle.store.proofs.Recalling.{stays_glance, waits_glance}
use Rattle.store.proofs.shared.Store.sizes.Goals as goal

pub leave-requires : goal.leave-requires
leave-requires g c = gives_same g.D.Disk.is_honest g.D.Disk.state g.D.Disk.faults _ c.args.seat.now c.enter-side.new.seat c.enter-side.result c.enter-side.ensures

pub returns-clause-ready : goal.returns-clause-ready
returns-clause-ready g c = (c.leave.ensures c.args.seat.now c.enter-side.result c.enter-side.ensures).ready

pub returns-clause-same : goal.returns-clause-same
returns-clause-same g c = stays_glance g.D.Disk.is_honest g.D.Disk.state g.D.Disk.faults _ c.args.seat.now c.leave.new.seat c.enter-side.result c.enter-side.result c.requires (c.leave.ensures c.args.seat.now c.enter-side.result c.enter-side.ensures) refl

pub returns-clause-waits : goal.returns-clause-waits
returns-clause-waits g c = waits_glance g.D.Disk.is_honest g.D.Disk.state g.D.Disk.faults _ c.args.seat.now c.leave.new.seat c.enter-side.result c.enter-side.result c.requires (c.leave.ensures c.args.seat.now c.enter-side.result c.enter-side.ensures) refl

pub returns-clause-pages : goal.returns-clause-pages
returns-clause-pages g c = of_opening _ _ _ c.enter-side.ensures.opening (ap (λ s. s.pages) c.sizes-sizes.ensures ∙ c.enter-side.ensures.pages)

pub returns-clause-capacity : goal.returns-clause-capacity
returns-clause-capacity g c = of_opening _ _ _ c.enter-side.ensures.opening (ap (λ s. s.capacity) c.sizes-sizes.ensures ∙ capacity_stays g.D.Disk.is_honest g.D.Disk.state c.enter-side.result c.enter-side.ensures.stands)

pub returns-clause-whole : goal.returns-clause-whole
returns-clause-whole g c = λ w. whole_stays c.args.seat.now c.leave.new.seat (stays_glance g.D.Disk.is_honest g.D.Disk.state g.D.Disk.faults _ c.args.seat.now c.leave.new.seat c.enter-side.result c.enter-side.result c.requires (c.leave.ensures c.args.seat.now c.enter-side.result c.enter-side.ensures) refl) w

pub returns-clause-work : goal.returns-clause-work
returns-clause-work g c = work_stays c.args.seat.now c.leave.new.seat (stays_glance g.D.Disk.is_honest g.D.Disk.state g.D.Disk.faults _ c.args.seat.now c.leave.new.seat c.enter-side.result c.enter-side.result c.requires (c.leave.ensures c.args.seat.now c.enter-side.result c.enter-side.ensures) refl)

pub returns-clause-inside : goal.returns-clause-inside
returns-clause-inside g c = λ page less.
    of_opening _ _ _ ((c.leave.ensures c.args.seat.now c.enter-side.result c.enter-side.ensures).same.opening ∙ c.enter-side.ensures.opening)
    (subst (λ n. page < n) (ap (λ s. s.pages) c.sizes-sizes.ensures ∙ c.enter-side.ensures.pages) less)

pub returns-clause-visits : goal.returns-clause-visits
returns-clause-visits g c = record { before = c.enter-side.result; after = c.enter-side.result; visited = c.leave.ensures c.args.seat.now c.enter-side.result c.enter-side.ensures; does = record { log = refl; file = refl } }
