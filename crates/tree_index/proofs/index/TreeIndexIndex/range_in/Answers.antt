use Rattle.std.proofs.Common.{inl}
use Rattle.std.proofs.lemmas.Result.{err_from_is_err_and}
use Rattle.pager.proofs.Stops.{allowed_stop}
use Rattle.tree_index.proofs.index.TreeIndexIndex.range_in.Goals as goal

pub returns-in_err-way-clause-ranged : goal.returns-in_err-way-clause-ranged
returns-in_err-way-clause-ranged g c = λ base shown told.
    let p = err_from_is_err_and c.from_residual-in_err-way.result c.from_residual-in_err-way.ensures.1 in
    rw (p.1, p.2)
    (allowed_stop c.in_err-way.field-0.0 (λ why h. inl h) (rw (c.in_ok-from.ensures, c.in_ok-to.ensures) at (c.in_err-way.ensures.walked base shown told)))
