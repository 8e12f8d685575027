use Rattle.std.proofs.lemmas.Result.{err_from_is_err_and}
use Rattle.heap_file.proofs.Ways.{allowed_stop}
use Rattle.heap_file.proofs.removing.remove.Goals as goal

pub returns-in_err-remove_at-clause-removed : goal.returns-in_err-remove_at-clause-removed
returns-in_err-remove_at-clause-removed g c = λ base shown told.
    let p = err_from_is_err_and c.from_residual.result c.from_residual.ensures.1 in
    rw (p.1, p.2) (allowed_stop c.in_err-remove_at.field-0.0 (λ why h. h (tt, tt)) (c.in_err-remove_at.ensures.removed base shown told))

pub returns-clause-removed : goal.returns-clause-removed
returns-clause-removed g c = λ base shown told. (c.in_ok-remove_at.ensures.removed base shown told (tt, tt)).0
