use Rattle.std.proofs.Common.{◌≡◌, true, Ok, eqb, ap, sym, inl, refl, eq-eqb}
use Rattle.std.proofs.lemmas.Result.{err_from_is_err_and}
use Rattle.pager.specs.Draft.{drafted}
use Rattle.pager.specs.Pages.{Pages}
use Rattle.heap_file.specs.declared.page.HeapPage.{HeapPage}
use Rattle.heap_file.specs.HeapPage.{IsNarrow}
use Rattle.heap_file.proofs.Routes.{next-written}
use Rattle.heap_file.proofs.Ways.{allowed_stop}
use Rattle.heap_file.proofs.removing.rename_last.Goals as goal

pub returns-in_err-head-clause-renamed : goal.returns-in_err-head-clause-renamed
returns-in_err-head-clause-renamed g c = λ base shown told.
    let p = err_from_is_err_and c.from_residual.result c.from_residual.ensures.1 in
    let end : eqb c.args.next 0 ≡ true = eq-eqb c.args.next 0 c.if-next-ne0.false in
    rw (p.1, p.2) (allowed_stop c.in_err-head.field-0.0 (λ why h. rw end (inl h)) (c.in_err-head.ensures.read base shown told))

pub returns-clause-renamed : goal.returns-clause-renamed
returns-clause-renamed g c = λ base shown told.
    let end : eqb c.args.next 0 ≡ true = eq-eqb c.args.next 0 c.if-next-ne0.false in
    let stored = rw c.last_field.ensures at (c.in_ok-store.ensures.drafted shown) in
    rw end (c.in_ok-head.head, c.in_ok-head.ensures.read base shown told, ap (λ (pages : Pages). Ok (tt, pages)) (sym stored))

pub returns-then-next-ne0-clause-stays : goal.returns-then-next-ne0-clause-stays
returns-then-next-ne0-clause-stays g c = λ base shown told other held at. (held, at, refl)

pub returns-clause-stays : goal.returns-clause-stays
returns-clause-stays g c = λ base shown told.
    let size = c.args.draft.now.size in
    let pages = drafted shown c.args.draft.now.list in
    let head = c.in_ok-head.head in
    let named : HeapPage = record head { last = c.last_field.result } in
    let fields = c.in_ok-head.ensures.narrow in
    let narrow : IsNarrow named = record { next = fields.next; next_number = fields.next_number; last = c.last_field.type_inv } in
    rw (c.in_ok-store.ensures.drafted shown) (next-written size pages c.args.first head named (c.in_ok-head.ensures.read base shown told) narrow (record { lawful = c.in_ok-head.ensures.lawful.lawful; fits = c.in_ok-head.ensures.lawful.fits }) refl)
