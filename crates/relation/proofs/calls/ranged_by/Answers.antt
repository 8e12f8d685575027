use Rattle.relation.proofs.calls.ranged_by.Goals as goal

pub returns-clause-ranged : goal.returns-clause-ranged
returns-clause-ranged g c = λ base shown told.
    rw (c.new-draft.ensures, c.size.ensures) at (c.ranged_by.ensures.ranged base shown told)
