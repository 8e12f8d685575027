use Rattle.heap_file.proofs.calls.get.Goals as goal

pub returns-clause-got : goal.returns-clause-got
returns-clause-got g c = λ base shown told.
    rw (c.new-draft.ensures, c.size.ensures) at (c.get.ensures.got base shown told)
