use Rattle.std.proofs.lemmas.Result.{err_from_is_err_and}
use Rattle.heap_file.proofs.Ways.{allowed_stop}
use Rattle.heap_file.proofs.appending.append.Goals as goal

pub returns-in_err-page-clause-appended : goal.returns-in_err-page-clause-appended
returns-in_err-page-clause-appended g c = λ base shown told.
    let p = err_from_is_err_and c.from_residual-in_err-page.result c.from_residual-in_err-page.ensures.1 in
    let head = c.in_ok-held.ensures.read base shown (c.in_err-page.ensures.only_reads.narrows base shown told) in
    rw (p.1, p.2) (allowed_stop c.in_err-page.field-0.0 (λ why h. h head) (c.in_err-page.ensures.appended base shown told))

pub returns-clause-appended : goal.returns-clause-appended
returns-clause-appended g c = λ base shown told.
    let head = c.in_ok-held.ensures.read base shown (c.in_ok-page.ensures.only_reads.narrows base shown told) in
    (c.in_ok-page.ensures.appended base shown told head).0
