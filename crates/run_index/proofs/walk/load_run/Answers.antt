use Rattle.std.proofs.lemmas.Result.{err_from_is_err_and}
use Rattle.pager.proofs.Stops.{allowed_stop}
use Rattle.run_index.proofs.walk.load_run.Goals as goal

pub returns-in_err-held-clause-read : goal.returns-in_err-held-clause-read
returns-in_err-held-clause-read g c = λ base shown told.
    let p = err_from_is_err_and c.from_residual.result c.from_residual.ensures.1 in
    rw (p.1, p.2)
    (allowed_stop c.in_err-held.field-0.0 (λ why h. (h.0, λ held run. h.1 held run.0)) (c.in_err-held.ensures.read base shown told))
