use Rattle.std.proofs.Common.{◌++◌}
use Rattle.session.specs.Plan.{ArePhases, Plan}
use Rattle.session.proofs.plan.plan_of.Given as goal

abbrev pub invariant-loop-phase : goal.invariant-loop-phase
invariant-loop-phase l = (more : Plan) → ArePhases l.phase-iterator.rest.items more → ArePhases l.fn.script.phases (l.plan ++ more)
