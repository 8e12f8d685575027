use Rattle.std.proofs.Common.{inr, inl, refl}
use Rattle.std.proofs.lemmas.Result.{err_from_is_err_and}
use Rattle.relation.specs.Catalog.{table_rows}
use Rattle.relation.proofs.Steps.{handed_to}
use Rattle.relation.proofs.Told.{few-told}
use Rattle.relation.proofs.catalog.read_catalog.Goals as goal

pub returns-in_err-tables-clause-read : goal.returns-in_err-tables-clause-read
returns-in_err-tables-clause-read g c = λ base shown told.
    let p = err_from_is_err_and c.from_residual-in_err-tables.result c.from_residual-in_err-tables.ensures.1 in
    rw (p.1, p.2)
    (handed_to (λ h. inr (c.in_ok-rows.rows.items, c.in_ok-rows.ensures.read base shown told, inl h))
    (rw c.deref.ensures.value at c.in_err-tables.ensures))

pub returns-in_err-indexes-clause-read : goal.returns-in_err-indexes-clause-read
returns-in_err-indexes-clause-read g c = λ base shown told.
    let p = err_from_is_err_and c.from_residual-in_err-indexes.result c.from_residual-in_err-indexes.ensures.1 in
    rw (p.1, p.2)
    (handed_to (λ h. inr (c.in_ok-rows.rows.items, c.in_ok-rows.ensures.read base shown told, inr (c.in_ok-tables.tables.items, rw c.deref.ensures.value at c.in_ok-tables.ensures, inl h)))
    (rw (c.deref-2.ensures.value, c.deref-3.ensures.value) at c.in_err-indexes.ensures))

pub returns-clause-read : goal.returns-clause-read
returns-clause-read g c = λ base shown told.
    (c.in_ok-rows.rows.items, c.in_ok-rows.ensures.read base shown told, (c.in_ok-tables.tables.items, rw c.deref.ensures.value at c.in_ok-tables.ensures, (c.in_ok-indexes.indexes.items, rw (c.deref-2.ensures.value, c.deref-3.ensures.value) at c.in_ok-indexes.ensures, rw (c.from.ensures, c.from-2.ensures) refl)))

pub returns-clause-few : goal.returns-clause-few
returns-clause-few g c =
    rw c.from.ensures (few-told c.in_ok-rows.rows.items (table_rows c.in_ok-rows.rows.items) c.in_ok-tables.tables.items (rw c.deref.ensures.value at c.in_ok-tables.ensures))
