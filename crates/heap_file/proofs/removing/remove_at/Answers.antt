use Rattle.std.proofs.Common.{ℕ, inl, subst}
use Rattle.std.proofs.lemmas.Result.{err_from_is_err_and}
use Rattle.pager.specs.Draft.{drafted}
use Rattle.std.specs.Prelude.{IfSome}
use Rattle.heap_file.specs.Chain.{IsAt}
use Rattle.heap_file.specs.Route.{IsCursor, IsRoute, with_cursor}
use Rattle.heap_file.specs.Work.{removed}
use Rattle.heap_file.proofs.Ways.{allowed_on, allowed_stop}
use Rattle.heap_file.proofs.removing.remove_at.Goals as goal

pub returns-in_err-link-clause-removed : goal.returns-in_err-link-clause-removed
returns-in_err-link-clause-removed g c = λ base shown told.
    let p = err_from_is_err_and c.from_residual.result c.from_residual.ensures.1 in
    rw (p.1, p.2) (allowed_stop c.in_err-link.field-0.0 (λ why h cursor. inl (h cursor.0)) (c.in_err-link.ensures.read base shown told))

pub returns-clause-removed : goal.returns-clause-removed
returns-clause-removed g c = λ base shown told.
    let size = c.args.draft.now.size in
    let pages = drafted shown c.args.draft.now.list in
    let link = c.in_ok-link.link in
    let linked = c.in_ok-link.ensures.read base shown (c.remove_on.ensures.only_reads.narrows base shown told) in
    allowed_on (λ cursor. (cursor, drafted shown c.remove_on.new.draft.list))
    (λ answer. IsAt size pages link.page link.held → IfSome c.args.cursor.route (IsRoute size pages c.args.first) → with_cursor size c.args.first (removed size pages c.args.first link.page c.args.number) answer)
    (λ answer. IsCursor size pages c.args.first c.args.cursor → with_cursor size c.args.first (removed size pages c.args.first c.args.page c.args.number) answer)
    c.remove_on.result
    (λ answer go cursor.
    let at = linked cursor.0 in
    subst (λ (page : ℕ). with_cursor size c.args.first (removed size pages c.args.first page c.args.number) answer) at.0 (go at.1 cursor.1))
    (c.remove_on.ensures.removed base shown told)
