use Rattle.std.proofs.lemmas.Result.{err_from_is_err_and}
use Rattle.heap_file.proofs.Ways.{allowed_stop}
use Rattle.relation.specs.declared.catalog.TheConstants.{CATALOG}
use Rattle.relation.proofs.Halves.{placed-added, placed-refused}
use Rattle.relation.proofs.drafting.add_to_catalog.Goals as goal

pub returns-in_err-add_rows-clause-added : goal.returns-in_err-add_rows-clause-added
returns-in_err-add_rows-clause-added g c = λ base shown told.
    let p = err_from_is_err_and c.from_residual.result c.from_residual.ensures.1 in
    rw (p.1, p.2)
    (allowed_stop c.in_err-add_rows.field-0.0
    (λ why h. placed-refused c.args.draft.now.size CATALOG c.args.rows.now _ why h)
    (c.in_err-add_rows.ensures.placed base shown told))

pub returns-clause-added : goal.returns-clause-added
returns-clause-added g c = λ base shown told.
    placed-added c.args.draft.now.size CATALOG c.args.rows.now c.in_ok-add_rows.field-0.items _ _ (c.in_ok-add_rows.ensures.placed base shown told)
