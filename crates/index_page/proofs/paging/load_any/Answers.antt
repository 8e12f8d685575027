use Rattle.std.proofs.Common.{ℕ, List, inr, subst}
use Rattle.pager.specs.Draft.{drafted}
use Rattle.index_page.specs.IndexPage.{HoldsIndex}
use Rattle.index_page.proofs.Packing.{page_in-bytes}
use Rattle.index_page.proofs.paging.load_any.Goals as goal

pub returns-in_default-clause-read : goal.returns-in_default-clause-read
returns-in_default-clause-read g c = λ base shown told.
    let bytes = page_in-bytes c.args.draft.now.size (drafted shown c.args.draft.now.list) c.args.page c.in_ok-bytes.bytes c.in_ok-bytes.ensures.inside (c.in_ok-bytes.ensures.read base shown told) in
    let none = rw c.in_default.is at c.in_ok-found.ensures.held in
    inr (c.broken-in_default.ensures, λ held at. none held (subst (λ (b : List ℕ). HoldsIndex b held) bytes at.holds))
