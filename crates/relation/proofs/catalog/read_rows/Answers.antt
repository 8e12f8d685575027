use Rattle.std.proofs.Common.{◌≡◌, ◌∙◌, true, false, eqb, length, Err, ap, sym, inr, eq-eqb, ne_eqb, rules}
use Rattle.std.proofs.lemmas.Result.{err_from_is_err_and}
use Rattle.pager.specs.Draft.{drafted}
use Rattle.heap_file.proofs.Ways.{allowed_stop}
use Rattle.relation.specs.declared.catalog.TheConstants.{CATALOG}
use Rattle.relation.proofs.CatalogScan.{catalog-unread, scanned-parts}
use Rattle.relation.proofs.Steps.{handed_to}
use Rattle.relation.proofs.catalog.read_rows.Goals as goal

pub returns-in_err-rows-clause-read : goal.returns-in_err-rows-clause-read
returns-in_err-rows-clause-read g c = λ base shown told.
    let p = err_from_is_err_and c.from_residual.result c.from_residual.ensures.1 in
    rw (p.1, p.2)
    (allowed_stop c.in_err-rows.field-0.0 (λ why h. catalog-unread c.args.draft.now.size (drafted shown c.args.draft.now.list) why h) (c.in_err-rows.ensures.scanned base shown told))

pub returns-in_err-all_told-clause-read : goal.returns-in_err-all_told-clause-read
returns-in_err-all_told-clause-read g c = λ base shown told.
    let p = err_from_is_err_and c.from_residual-in_err-all_told.result c.from_residual-in_err-all_told.ensures.1 in
    let rows = c.in_ok-rows.rows.items in
    let next = c.in_ok-rows.next in
    let parts = scanned-parts c.args.draft.now.size (drafted shown c.args.draft.now.list) CATALOG rows next (c.in_ok-rows.ensures.scanned base shown told) in
    let same : eqb next (length rows) ≡ true = eq-eqb next (length rows) (c.if-next-len.false ∙ search rules) in
    rw (p.1, p.2)
    (handed_to (λ h. inr (rows, parts.0, inr (next, parts.1, rw same h)))
    (rw c.deref.ensures.value at c.in_err-all_told.ensures))

pub returns-then-next-len-clause-read : goal.returns-then-next-len-clause-read
returns-then-next-len-clause-read g c = λ base shown told.
    let rows = c.in_ok-rows.rows.items in
    let next = c.in_ok-rows.next in
    let parts = scanned-parts c.args.draft.now.size (drafted shown c.args.draft.now.list) CATALOG rows next (c.in_ok-rows.ensures.scanned base shown told) in
    let differ : eqb next (length rows) ≡ false = ne_eqb next (length rows) (λ e. c.if-next-len.true (e ∙ sym (search rules))) in
    inr (inr (rows, parts.0, inr (next, parts.1, rw differ (ap (λ why. Err why) (sym c.broken.ensures)))))

pub returns-clause-read : goal.returns-clause-read
returns-clause-read g c = λ base shown told.
    let rows = c.in_ok-rows.rows.items in
    let next = c.in_ok-rows.next in
    let parts = scanned-parts c.args.draft.now.size (drafted shown c.args.draft.now.list) CATALOG rows next (c.in_ok-rows.ensures.scanned base shown told) in
    let same : eqb next (length rows) ≡ true = eq-eqb next (length rows) (c.if-next-len.false ∙ search rules) in
    (rows, parts.0, (next, parts.1, rw same (rw c.deref.ensures.value at c.in_ok-all_told.ensures)))
