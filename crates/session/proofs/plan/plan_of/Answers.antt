use Rattle.std.proofs.Common.{[], append-nil, sym, ◌∙◌}
use Rattle.session.specs.Plan.{IsPlan}
use Rattle.session.proofs.Planned.{empty, plan_fits}
use Rattle.session.proofs.plan.plan_of.Goals as goal

pub returns-clause-plan : goal.returns-clause-plan
returns-clause-plan c =
    let left = c.loop-phase.phase-iterator.rest in
    rw append-nil at (c.loop-phase.invariant [] (rw (empty left.items (sym left.ok.0 ∙ c.in-None.ensures.steps.0)) tt))

pub returns-clause-fits : goal.returns-clause-fits
returns-clause-fits c =
    let left = c.loop-phase.phase-iterator.rest in
    let is : IsPlan c.args.script c.loop-phase.plan = rw append-nil at (c.loop-phase.invariant [] (rw (empty left.items (sym left.ok.0 ∙ c.in-None.ensures.steps.0)) tt)) in
    plan_fits c.args.script c.loop-phase.plan is c.requires
