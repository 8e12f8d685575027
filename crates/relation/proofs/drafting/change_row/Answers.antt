use Rattle.std.proofs.Common.{ℕ, Err, inl, refl, subst}
use Rattle.std.proofs.lemmas.Result.{err_from_is_err_and}
use Rattle.pager.specs.Draft.{drafted}
use Rattle.heap_file.specs.Work.{changed}
use Rattle.heap_file.proofs.Ways.{allowed_stop}
use Rattle.relation.proofs.drafting.change_row.Goals as goal

pub returns-in_err-link-clause-changed : goal.returns-in_err-link-clause-changed
returns-in_err-link-clause-changed g c = λ base shown told.
    let p = err_from_is_err_and c.from_residual.result c.from_residual.ensures.1 in
    rw (p.1, p.2)
    (allowed_stop c.in_err-link.field-0.0 (λ why h known. inl (inl (h known))) (c.in_err-link.ensures.read base shown told))

pub returns-in_err-page-clause-changed : goal.returns-in_err-page-clause-changed
returns-in_err-page-clause-changed g c = λ base shown told.
    let p = err_from_is_err_and c.from_residual-in_err-page.result c.from_residual-in_err-page.ensures.1 in
    let at = c.in_ok-link.ensures.read base shown (c.in_err-page.ensures.only_reads.narrows base shown told) in
    rw (p.1, p.2)
    (allowed_stop c.in_err-page.field-0.0
    (λ why h known. inl (subst (λ (page : ℕ). changed c.args.draft.now.size (drafted shown c.args.draft.now.list) c.args.first page (record { number = c.args.change.was.number; row = c.args.change.row }) (Err why)) (at known).0 (h (at known).1)))
    (c.in_err-page.ensures.changed base shown told))

pub returns-clause-changed : goal.returns-clause-changed
returns-clause-changed g c = λ base shown told known.
    let at = c.in_ok-link.ensures.read base shown (c.in_ok-page.ensures.only_reads.narrows base shown told) known in
    let made = c.in_ok-page.ensures.changed base shown told at.1 in
    ((c.in_ok-page.page, drafted shown c.change_on.new.draft.list), rw at.0 at made.0, refl)
