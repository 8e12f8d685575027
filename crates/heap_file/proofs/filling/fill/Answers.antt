use Rattle.std.proofs.Common.{arith}
use Rattle.std.proofs.lemmas.Result.{err_from_is_err_and}
use Rattle.pager.specs.Draft.{drafted}
use Rattle.heap_file.proofs.Fronts.{last_broken}
use Rattle.heap_file.proofs.Ways.{allowed_stop}
use Rattle.heap_file.proofs.filling.fill.Goals as goal

pub returns-in_err-held-2-clause-placed : goal.returns-in_err-held-2-clause-placed
returns-in_err-held-2-clause-placed g c = λ base shown told.
    let p = err_from_is_err_and c.from_residual-in_err-held-2.result c.from_residual-in_err-held-2.ensures.1 in
    let head = c.in_ok-held.ensures.read base shown (c.in_err-held-2.ensures.only_reads.narrows base shown told) in
    rw (p.1, p.2)
    (allowed_stop c.in_err-held-2.field-0.0
    (λ why h. last_broken c.args.draft.now.size c.args.first c.args.rows.now (drafted shown c.args.draft.now.list) c.in_ok-held.held why c.requires.some (omega (arith, c.if-held.false, c.in_ok-held.ensures.narrow.next_number)) head h)
    (rw c.last_page-last.ensures at (c.in_err-held-2.ensures.read base shown told)))
