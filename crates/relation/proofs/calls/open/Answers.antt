use Rattle.relation.proofs.calls.open.Goals as goal

pub returns-clause-catalog : goal.returns-clause-catalog
returns-clause-catalog g c = λ base shown told.
    rw (c.new-draft.ensures, c.size.ensures) at (c.read_catalog.ensures.read base shown told)
