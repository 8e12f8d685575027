use Rattle.std.proofs.Common.{inr, subst}
use Rattle.std.proofs.lemmas.Result.{err_from_is_err_and}
use Rattle.pager.specs.Draft.{drafted}
use Rattle.index_page.specs.declared.page.IndexPage.{IndexPage}
use Rattle.index_page.proofs.Packing.{holds_one}
use Rattle.tree_index.specs.Walk.{IsOfTree}
use Rattle.pager.proofs.Stops.{allowed_stop}
use Rattle.tree_index.proofs.walk.load_tree.Goals as goal

pub returns-in_err-held-clause-read : goal.returns-in_err-held-clause-read
returns-in_err-held-clause-read g c = λ base shown told.
    let p = err_from_is_err_and c.from_residual.result c.from_residual.ensures.1 in
    rw (p.1, p.2)
    (allowed_stop c.in_err-held.field-0.0 (λ why h. (h.0, λ held at. h.1 held at.0)) (c.in_err-held.ensures.read base shown told))

pub returns-then-not-is_of_tree-clause-read : goal.returns-then-not-is_of_tree-clause-read
returns-then-not-is_of_tree-clause-read g c = λ base shown told.
    let kind = c.args.kind in
    let found = c.in_ok-held.ensures.read base shown told in
    let other = c.if-not-is_of_tree.ensures in
    inr (
      c.broken.ensures,
      λ held at. other
          (subst (λ (p : IndexPage). IsOfTree kind p.form p.entries) (holds_one ((drafted shown c.args.draft.now.list).at c.args.page) held c.in_ok-held.held at.0.holds found.holds) at.1),
    )
