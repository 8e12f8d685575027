use Rattle.std.proofs.lemmas.Result.{err_from_is_err_and}
use Rattle.pager.proofs.Makings.{makes-all, makes-none, makes-part}
use Rattle.heap_file.specs.Work.{removed}
use Rattle.heap_file.proofs.calls.remove.Goals as goal

pub returns-in_err-removed-clause-removed : goal.returns-in_err-removed-clause-removed
returns-in_err-removed-clause-removed g c =
    let p = err_from_is_err_and c.from_residual.result c.from_residual.ensures.1 in
    rw (p.1, p.2)
    (makes-none (λ (u : Unit {0}). u) _ _ (λ pages. removed (g.P.Pager.size c.args.pager.now) pages c.args.first c.args.page c.args.number) c.in_err-removed.field-0.0 c.in_err-removed.ensures.only_reads.narrows
    (λ base shown told. rw (c.new-draft.ensures, c.size.ensures) at (c.in_err-removed.ensures.removed base shown told)))

pub returns-in_err-write-clause-removed : goal.returns-in_err-write-clause-removed
returns-in_err-write-clause-removed g c =
    let p = err_from_is_err_and c.from_residual-in_err-write.result c.from_residual-in_err-write.ensures.1 in
    rw (p.1, p.2)
    (makes-part (λ (u : Unit {0}). u) _ _ _ c.remove.new.draft.list (λ pages. removed (g.P.Pager.size c.args.pager.now) pages c.args.first c.args.page c.args.number) c.in_ok-removed.removed c.in_ok-removed.ensures.only_reads.narrows
    (λ base shown told. rw (c.new-draft.ensures, c.size.ensures) at (c.in_ok-removed.ensures.removed base shown told))
    c.in_err-write.field-0.0 c.in_err-write.ensures.writes)

pub returns-clause-removed : goal.returns-clause-removed
returns-clause-removed g c =
    makes-all (λ (u : Unit {0}). u) _ _ _ c.remove.new.draft.list (λ pages. removed (g.P.Pager.size c.args.pager.now) pages c.args.first c.args.page c.args.number) c.in_ok-removed.removed c.in_ok-removed.ensures.only_reads.narrows
    (λ base shown told. rw (c.new-draft.ensures, c.size.ensures) at (c.in_ok-removed.ensures.removed base shown told))
    c.in_ok-write.ensures.writes
