use Rattle.std.proofs.Common.{ℕ}
use Rattle.std.proofs.lemmas.Result.{err_from_is_err_and}
use Rattle.pager.proofs.Makings.{makes-all, makes-none, makes-part}
use Rattle.heap_file.specs.Work.{changed}
use Rattle.heap_file.proofs.calls.change.Goals as goal

pub returns-in_err-changed-clause-changed : goal.returns-in_err-changed-clause-changed
returns-in_err-changed-clause-changed g c =
    let p = err_from_is_err_and c.from_residual.result c.from_residual.ensures.1 in
    rw (p.1, p.2)
    (makes-none (λ (page : ℕ). page) _ _ (λ pages. changed (g.P.Pager.size c.args.pager.now) pages c.args.first c.args.page (record { number = c.args.number; row = c.args.row.now })) c.in_err-changed.field-0.0 c.in_err-changed.ensures.only_reads.narrows
    (λ base shown told. rw (c.new-draft.ensures, c.size.ensures) at (c.in_err-changed.ensures.changed base shown told)))

pub returns-in_err-write-clause-changed : goal.returns-in_err-write-clause-changed
returns-in_err-write-clause-changed g c =
    let p = err_from_is_err_and c.from_residual-in_err-write.result c.from_residual-in_err-write.ensures.1 in
    rw (p.1, p.2)
    (makes-part (λ (page : ℕ). page) _ _ _ c.change.new.draft.list (λ pages. changed (g.P.Pager.size c.args.pager.now) pages c.args.first c.args.page (record { number = c.args.number; row = c.args.row.now })) c.in_ok-changed.changed c.in_ok-changed.ensures.only_reads.narrows
    (λ base shown told. rw (c.new-draft.ensures, c.size.ensures) at (c.in_ok-changed.ensures.changed base shown told))
    c.in_err-write.field-0.0 c.in_err-write.ensures.writes)

pub returns-clause-changed : goal.returns-clause-changed
returns-clause-changed g c =
    makes-all (λ (page : ℕ). page) _ _ _ c.change.new.draft.list (λ pages. changed (g.P.Pager.size c.args.pager.now) pages c.args.first c.args.page (record { number = c.args.number; row = c.args.row.now })) c.in_ok-changed.changed c.in_ok-changed.ensures.only_reads.narrows
    (λ base shown told. rw (c.new-draft.ensures, c.size.ensures) at (c.in_ok-changed.ensures.changed base shown told))
    c.in_ok-write.ensures.writes
