use Rattle.std.proofs.Common.{ℕ, List, inr, subst}
use Rattle.std.proofs.lemmas.Result.{err_from_is_err_and}
use Rattle.pager.specs.Draft.{drafted}
use Rattle.heap_file.specs.HeapPage.{HoldsRows}
use Rattle.heap_file.proofs.Ways.{allowed_stop, not-there}
use Rattle.heap_file.proofs.chain.load.Goals as goal

pub returns-in_err-bytes-clause-read : goal.returns-in_err-bytes-clause-read
returns-in_err-bytes-clause-read g c = λ base shown told.
    let p = err_from_is_err_and c.from_residual.result c.from_residual.ensures.1 in
    rw (p.1, p.2)
    (allowed_stop c.in_err-bytes.field-0.0 (λ why h. (h.0, not-there c.args.draft.now.size (drafted shown c.args.draft.now.list) c.args.page h.1)) (c.in_err-bytes.ensures.read base shown told))

pub returns-in-None-clause-read : goal.returns-in-None-clause-read
returns-in-None-clause-read g c = λ base shown told.
    let there = c.in_ok-bytes.ensures.read base shown told in
    let none = rw c.in-None.is at c.in_ok-held.ensures.held in
    inr (c.broken.ensures, λ held at. none held (subst (λ (b : List ℕ). HoldsRows b held) there.2 at.holds))
