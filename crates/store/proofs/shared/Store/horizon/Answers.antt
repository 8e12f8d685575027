use Rattle.store.proofs.Meeting.{ready_on, stays_same, waits_so, whole_stays}
use Rattle.std.proofs.Common.{ap, arith}
use Rattle.store.proofs.shared.Store.horizon.Goals as goal

pub returns-clause-ready : goal.returns-clause-ready
returns-clause-ready g c =
    let e = c.horizon.ensures in
    ready_on _ c.args.seat.now c.horizon.new.seat c.requires e.rests e.same.0.number e.same.0.opening (ap (λ h. h.lines) e.same.1) (ap (λ h. h.work) e.same.1) e.front e.own

pub returns-clause-same : goal.returns-clause-same
returns-clause-same g c = let e = c.horizon.ensures in stays_same c.args.seat.now c.horizon.new.seat e.same.0 e.same.1 (let h = e.same.2 in omega (arith, h))

pub returns-clause-waits : goal.returns-clause-waits
returns-clause-waits g c = waits_so _ c.args.seat.now c.horizon.new.seat c.requires c.horizon.ensures.front c.horizon.ensures.own

pub returns-clause-whole : goal.returns-clause-whole
returns-clause-whole g c = λ w. let e = c.horizon.ensures in whole_stays c.args.seat.now c.horizon.new.seat (stays_same c.args.seat.now c.horizon.new.seat e.same.0 e.same.1 (let h = e.same.2 in omega (arith, h))) w
