use Rattle.std.proofs.Common.{Ok, ap, inl, sym, arith}
use Rattle.std.proofs.lemmas.Result.{err_from_is_err_and}
use Rattle.pager.specs.Draft.{drafted}
use Rattle.pager.specs.Pages.{Pages}
use Rattle.pager.proofs.Stops.{allowed_stop}
use Rattle.run_index.proofs.index.RunIndexIndex.make_in.Goals as goal

pub returns-in_err-root-clause-made : goal.returns-in_err-root-clause-made
returns-in_err-root-clause-made g c = λ base shown told.
    let p = err_from_is_err_and c.from_residual.result c.from_residual.ensures.1 in
    rw (p.1, p.2) (allowed_stop c.in_err-root.field-0.0 (λ why h. inl (h, tt)) (c.in_err-root.ensures.taken base shown told))

pub returns-clause-made : goal.returns-clause-made
returns-clause-made g c = λ base shown told.
    let root = c.in_ok-root.root in
    let after : Pages = drafted shown c.take.new.draft.list in
    let stored = rw c.new.ensures at (c.in_ok-store.ensures.drafted shown) in
    ((root, after), (c.in_ok-root.ensures.taken base shown told, omega arith), ap (λ (p : Pages). Ok (root, p)) (sym stored))
