use Rattle.std.proofs.Common.{◌∙◌, sym, ap, eqb}
use Rattle.plain_store.specs.Page.{PlainPage, may_change, ends_at}
use Rattle.plain_store.proofs.Versions.{ends_there, not_zero}
use Rattle.plain_store.proofs.page.VersionedPage.may_change.Goals as goal

pub returns-else-newest-eq0 : goal.returns-else-newest-eq0
returns-else-newest-eq0 c =
    let past = c.deref.result.now in
    let version = c.in-Some.version.now in
    let item = c.in-Some.ensures.item.3 in
    let last = ends_there c.args.newest past version item.0 in
    let here = ap (λ v. eqb v.upto c.args.newest) (item.1 version) ∙ sym last in
    let same = c.deref.ensures.value ∙ ap (λ (p : PlainPage). p.past) c.self.view_is in
    here ∙ sym (not_zero c.args.newest (ends_at c.args.newest past) c.if-newest-eq0.false) ∙ ap (may_change c.args.newest) same
