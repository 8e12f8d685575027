use Rattle.std.proofs.Common.{◌≡◌, ◌^◌, ◌-◌, false, Ok, eqb, ap, sym, inl, inr}
use Rattle.std.proofs.lemmas.Bool.{ne_eqb}
use Rattle.std.proofs.lemmas.Result.{err_from_is_err_and}
use Rattle.pager.specs.Draft.{drafted}
use Rattle.pager.specs.Pages.{Pages}
use Rattle.heap_file.proofs.Ways.{allowed_stop}
use Rattle.heap_file.proofs.drafting.add.Goals as goal

pub returns-in_err-page-clause-added : goal.returns-in_err-page-clause-added
returns-in_err-page-clause-added g c = λ base shown told.
    let p = err_from_is_err_and c.from_residual-in_err-page.result c.from_residual-in_err-page.ensures.1 in
    let number = c.in_ok-held.held.next_number in
    let head = c.in_ok-held.ensures.read base shown (c.in_err-page.ensures.only_reads.narrows base shown told) in
    let more : eqb number (2 ^ 64 - 1) ≡ false = ne_eqb number (2 ^ 64 - 1) c.if-number.false in
    rw (p.1, p.2)
    (allowed_stop c.in_err-page.field-0.0 (λ why h. inr (c.in_ok-held.held, head, rw more (inl (h head))))
    (rw c.in_ok-row.ensures at (c.in_err-page.ensures.appended base shown told)))

pub returns-clause-added : goal.returns-clause-added
returns-clause-added g c = λ base shown told.
    let number = c.in_ok-held.held.next_number in
    let head = c.in_ok-held.ensures.read base shown (c.in_ok-page.ensures.only_reads.narrows base shown told) in
    let more : eqb number (2 ^ 64 - 1) ≡ false = ne_eqb number (2 ^ 64 - 1) c.if-number.false in
    let appended = (rw c.in_ok-row.ensures at (c.in_ok-page.ensures.appended base shown told)) head in
    let stored = c.in_ok-store.ensures.drafted shown in
    (c.in_ok-held.held, head, rw more ((c.in_ok-page.page, drafted shown c.append_with_head.new.draft.list), appended.0, (c.in_ok-page.held, appended.1, ap (λ (pages : Pages). Ok ((number, c.in_ok-page.page), pages)) (sym stored))))
