use Rattle.std.proofs.Common.{ℕ}
use Rattle.std.proofs.lemmas.Result.{err_from_is_err_and}
use Rattle.pager.proofs.Makings.{makes-all, makes-none, makes-part}
use Rattle.heap_file.specs.Work.{added}
use Rattle.heap_file.proofs.calls.add.Goals as goal

pub returns-in_err-placed-clause-added : goal.returns-in_err-placed-clause-added
returns-in_err-placed-clause-added g c =
    let p = err_from_is_err_and c.from_residual.result c.from_residual.ensures.1 in
    rw (p.1, p.2)
    (makes-none (λ (placed : ℕ × ℕ). placed) _ _ (λ pages. added (g.P.Pager.size c.args.pager.now) pages c.args.first c.args.row.now) c.in_err-placed.field-0.0 c.in_err-placed.ensures.only_reads.narrows
    (λ base shown told. rw (c.new-draft.ensures, c.size.ensures) at (c.in_err-placed.ensures.added base shown told)))

pub returns-in_err-write-clause-added : goal.returns-in_err-write-clause-added
returns-in_err-write-clause-added g c =
    let p = err_from_is_err_and c.from_residual-in_err-write.result c.from_residual-in_err-write.ensures.1 in
    rw (p.1, p.2)
    (makes-part (λ (placed : ℕ × ℕ). placed) _ _ _ c.add.new.draft.list (λ pages. added (g.P.Pager.size c.args.pager.now) pages c.args.first c.args.row.now) c.in_ok-placed.placed c.in_ok-placed.ensures.only_reads.narrows
    (λ base shown told. rw (c.new-draft.ensures, c.size.ensures) at (c.in_ok-placed.ensures.added base shown told))
    c.in_err-write.field-0.0 c.in_err-write.ensures.writes)

pub returns-clause-added : goal.returns-clause-added
returns-clause-added g c =
    makes-all (λ (placed : ℕ × ℕ). placed) _ _ _ c.add.new.draft.list (λ pages. added (g.P.Pager.size c.args.pager.now) pages c.args.first c.args.row.now) c.in_ok-placed.placed c.in_ok-placed.ensures.only_reads.narrows
    (λ base shown told. rw (c.new-draft.ensures, c.size.ensures) at (c.in_ok-placed.ensures.added base shown told))
    c.in_ok-write.ensures.writes
