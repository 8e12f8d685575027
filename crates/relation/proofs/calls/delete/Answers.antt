use Rattle.std.proofs.lemmas.Result.{err_from_is_err_and}
use Rattle.pager.proofs.Makings.{makes-all, makes-none, makes-part}
use Rattle.relation.specs.Work.{table_deleted}
use Rattle.relation.proofs.calls.delete.Goals as goal

pub returns-in_err-delete-clause-deleted : goal.returns-in_err-delete-clause-deleted
returns-in_err-delete-clause-deleted g c =
    let p = err_from_is_err_and c.from_residual.result c.from_residual.ensures.1 in
    rw (p.1, p.2)
    (makes-none (λ (u : Unit {0}). u) _ _ (table_deleted g.I.Index.removed (g.P.Pager.size c.args.pager.now) c.args.table.now c.args.rows.now) c.in_err-delete.field-0.0 c.in_err-delete.ensures.only_drafts.narrows
    (λ base shown told. rw (c.new-draft.ensures, c.size.ensures) at (c.in_err-delete.ensures.deleted base shown told)))

pub returns-in_err-write-clause-deleted : goal.returns-in_err-write-clause-deleted
returns-in_err-write-clause-deleted g c =
    let p = err_from_is_err_and c.from_residual-in_err-write.result c.from_residual-in_err-write.ensures.1 in
    rw (p.1, p.2)
    (makes-part (λ (u : Unit {0}). u) _ _ _ c.delete.new.draft.list (table_deleted g.I.Index.removed (g.P.Pager.size c.args.pager.now) c.args.table.now c.args.rows.now) tt c.in_ok-delete.ensures.only_drafts.narrows
    (λ base shown told. rw (c.new-draft.ensures, c.size.ensures) at (c.in_ok-delete.ensures.deleted base shown told))
    c.in_err-write.field-0.0 c.in_err-write.ensures.writes)

pub returns-clause-deleted : goal.returns-clause-deleted
returns-clause-deleted g c =
    makes-all (λ (u : Unit {0}). u) _ _ _ c.delete.new.draft.list (table_deleted g.I.Index.removed (g.P.Pager.size c.args.pager.now) c.args.table.now c.args.rows.now) tt c.in_ok-delete.ensures.only_drafts.narrows
    (λ base shown told. rw (c.new-draft.ensures, c.size.ensures) at (c.in_ok-delete.ensures.deleted base shown told))
    c.in_ok-write.ensures.writes
