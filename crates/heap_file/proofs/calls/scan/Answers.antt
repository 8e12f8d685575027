use Rattle.heap_file.proofs.calls.scan.Goals as goal

pub returns-clause-scanned : goal.returns-clause-scanned
returns-clause-scanned g c = λ base shown told.
    rw (c.new-draft.ensures, c.size.ensures) at (c.scan.ensures.scanned base shown told)
