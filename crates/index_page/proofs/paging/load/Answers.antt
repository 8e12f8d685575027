use Rattle.std.proofs.Common.{inr, subst}
use Rattle.std.proofs.lemmas.Result.{err_from_is_err_and}
use Rattle.pager.specs.Index.{AreOfKind}
use Rattle.pager.specs.Draft.{drafted}
use Rattle.index_page.specs.declared.page.IndexPage.{IndexPage}
use Rattle.index_page.proofs.Packing.{holds_one}
use Rattle.pager.proofs.Stops.{allowed_stop}
use Rattle.index_page.proofs.paging.load.Goals as goal

pub returns-in_err-found-clause-read : goal.returns-in_err-found-clause-read
returns-in_err-found-clause-read g c = λ base shown told.
    let p = err_from_is_err_and c.from_residual.result c.from_residual.ensures.1 in
    rw (p.1, p.2)
    (allowed_stop c.in_err-found.field-0.0 (λ why h. (h.0, λ held at. h.1 held at.0)) (c.in_err-found.ensures.read base shown told))

pub returns-then-not-are_of_kind-clause-read : goal.returns-then-not-are_of_kind-clause-read
returns-then-not-are_of_kind-clause-read g c = λ base shown told.
    let kind = c.args.kind in
    let found = c.in_ok-found.ensures.read base shown told in
    let other = rw c.as_slice.ensures at c.if-not-are_of_kind.ensures in
    inr (
      c.broken.ensures,
      λ held at. other
          (subst (λ (p : IndexPage). AreOfKind kind p.entries) (holds_one ((drafted shown c.args.draft.now.list).at c.args.page) held c.in_ok-found.found at.0.holds found.holds) at.1),
    )
