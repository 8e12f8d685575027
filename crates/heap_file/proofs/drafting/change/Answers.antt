use Rattle.std.proofs.lemmas.Result.{err_from_is_err_and}
use Rattle.heap_file.proofs.Ways.{allowed_stop}
use Rattle.heap_file.proofs.drafting.change.Goals as goal

pub returns-in_err-to-clause-changed : goal.returns-in_err-to-clause-changed
returns-in_err-to-clause-changed g c = λ base shown told.
    let p = err_from_is_err_and c.from_residual-in_err-to.result c.from_residual-in_err-to.ensures.1 in
    let at = c.in_ok-held.ensures.read base shown (c.in_err-to.ensures.only_reads.narrows base shown told) in
    rw (p.1, p.2) (allowed_stop c.in_err-to.field-0.0 (λ why h. h at) (c.in_err-to.ensures.changed base shown told))

pub returns-clause-changed : goal.returns-clause-changed
returns-clause-changed g c = λ base shown told.
    let at = c.in_ok-held.ensures.read base shown (c.in_ok-to.ensures.only_reads.narrows base shown told) in
    (c.in_ok-to.ensures.changed base shown told at).0
