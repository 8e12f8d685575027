use Rattle.std.proofs.Common.{ℕ}
use Rattle.std.proofs.lemmas.Result.{err_from_is_err_and}
use Rattle.pager.proofs.Makings.{makes-all, makes-none, makes-part}
use Rattle.heap_file.specs.Work.{made}
use Rattle.heap_file.proofs.calls.make.Goals as goal

pub returns-in_err-page-clause-made : goal.returns-in_err-page-clause-made
returns-in_err-page-clause-made g c =
    let p = err_from_is_err_and c.from_residual.result c.from_residual.ensures.1 in
    rw (p.1, p.2)
    (makes-none (λ (page : ℕ). page) _ _ (λ pages. made (g.P.Pager.size c.args.pager.now) pages) c.in_err-page.field-0.0 c.in_err-page.ensures.only_reads.narrows
    (λ base shown told. rw (c.new-draft.ensures, c.size.ensures) at (c.in_err-page.ensures.made base shown told)))

pub returns-in_err-write-clause-made : goal.returns-in_err-write-clause-made
returns-in_err-write-clause-made g c =
    let p = err_from_is_err_and c.from_residual-in_err-write.result c.from_residual-in_err-write.ensures.1 in
    rw (p.1, p.2)
    (makes-part (λ (page : ℕ). page) _ _ _ c.make.new.draft.list (λ pages. made (g.P.Pager.size c.args.pager.now) pages) c.in_ok-page.page c.in_ok-page.ensures.only_reads.narrows
    (λ base shown told. rw (c.new-draft.ensures, c.size.ensures) at (c.in_ok-page.ensures.made base shown told))
    c.in_err-write.field-0.0 c.in_err-write.ensures.writes)

pub returns-clause-made : goal.returns-clause-made
returns-clause-made g c =
    makes-all (λ (page : ℕ). page) _ _ _ c.make.new.draft.list (λ pages. made (g.P.Pager.size c.args.pager.now) pages) c.in_ok-page.page c.in_ok-page.ensures.only_reads.narrows
    (λ base shown told. rw (c.new-draft.ensures, c.size.ensures) at (c.in_ok-page.ensures.made base shown told))
    c.in_ok-write.ensures.writes
