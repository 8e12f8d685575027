use Rattle.std.proofs.Common.{[], append-nil, sym, ◌∙◌}
use Rattle.session.proofs.Planned.{empty}
use Rattle.session.proofs.plan.sessions_of.Goals as goal

pub returns : goal.returns
returns c =
    let left = c.loop-session.session-iterator.rest in
    rw append-nil at (c.loop-session.invariant [] (rw (empty left.items (sym left.ok.0 ∙ c.in-None.ensures.steps.0)) tt))
