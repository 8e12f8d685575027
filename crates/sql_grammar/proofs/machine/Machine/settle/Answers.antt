use Rattle.sql_grammar.proofs.Steps.{next, next_put, next_use}
use Rattle.sql_grammar.proofs.machine.Machine.settle.Goals as goal

pub returns-in-Take : goal.returns-in-Take
returns-in-Take c = λ r so_far h. next r so_far _ _ _ _ _ _ c.in-Some.ensures c.in-Take.is (c.loop-symbol.invariant r so_far h)

pub loop-symbol-preserved-in-Continue-1 : goal.loop-symbol-preserved-in-Continue-1
loop-symbol-preserved-in-Continue-1 c = λ r so_far h.
    next_put r so_far _ _ _ _ _ _ _ c.in-Some.ensures c.in-Put.is c.in_ok-push-in-Put.ensures.ok (c.loop-symbol.invariant r so_far h)

pub loop-symbol-preserved : goal.loop-symbol-preserved
loop-symbol-preserved c = λ r so_far h.
    next_use r so_far _ _ _ _ _ _ _ _ c.in-Some.ensures c.in-Use.is c.right_side.ensures c.in_ok-push-in-Use.ensures (c.loop-symbol.invariant r so_far h)

pub returns : goal.returns
returns c = λ r so_far h. rw c.in_default.ensures.0 at (c.loop-symbol.invariant r so_far h)
