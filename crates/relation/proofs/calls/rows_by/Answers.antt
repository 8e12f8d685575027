use Rattle.std.proofs.lemmas.Result.{err_from_is_err_and}
use Rattle.relation.proofs.calls.rows_by.Goals as goal

pub returns-in_err-rows-clause-rows : goal.returns-in_err-rows-clause-rows
returns-in_err-rows-clause-rows g c = λ base shown told.
    let p = err_from_is_err_and c.from_residual.result c.from_residual.ensures.1 in
    rw (p.1, p.2) (rw (c.new-draft.ensures, c.size.ensures) at (c.in_err-rows.ensures.rows base shown told))

pub returns-clause-rows : goal.returns-clause-rows
returns-clause-rows g c = λ base shown told.
    rw (c.new-draft.ensures, c.size.ensures) at (c.in_ok-rows.ensures.rows base shown told)
