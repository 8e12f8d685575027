use Rattle.std.proofs.lemmas.Result.{err_from_is_err_and}
use Rattle.relation.proofs.calls.show_rows.Goals as goal

pub returns-in_err-after-clause-shown : goal.returns-in_err-after-clause-shown
returns-in_err-after-clause-shown g c = λ start met base shown told.
    let p = err_from_is_err_and c.from_residual.result c.from_residual.ensures.1 in
    rw (p.1, p.2) (rw (c.new-draft.ensures, c.size.ensures) at (c.in_err-after.ensures.rows base shown told))

pub returns-clause-shown : goal.returns-clause-shown
returns-clause-shown g c = λ start met base shown told.
    rw (c.new-draft.ensures, c.size.ensures) at (c.in_ok-after.ensures.met start met base shown told)
