use Rattle.std.proofs.Common.{◌≡◌, ◌++◌, drop}
use Rattle.session.specs.Plan.{names_of}
use Rattle.session.proofs.plan.names_of.Given as goal

abbrev pub invariant-loop-session : goal.invariant-loop-session
invariant-loop-session l = l.names ++ names_of (drop l.session-index l.sessions) ≡ names_of l.sessions
