use Rattle.std.proofs.Common.{◌++◌, List}
use Rattle.session.specs.Plan.{AreSessions}
use Rattle.session.specs.declared.plan.SessionPlan.{SessionPlan}
use Rattle.session.proofs.plan.sessions_of.Given as goal

abbrev pub invariant-loop-session : goal.invariant-loop-session
invariant-loop-session l = (more : List SessionPlan) → AreSessions l.session-iterator.rest.items more → AreSessions l.fn.sessions (l.plans ++ more)
