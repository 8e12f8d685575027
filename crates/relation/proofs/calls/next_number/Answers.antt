use Rattle.relation.proofs.calls.next_number.Goals as goal

pub returns-clause-next : goal.returns-clause-next
returns-clause-next g c = λ base shown told.
    rw (c.new-draft.ensures, c.size.ensures) at (c.next_number.ensures.next base shown told)
