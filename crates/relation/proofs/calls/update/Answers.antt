use Rattle.std.proofs.lemmas.Result.{err_from_is_err_and}
use Rattle.pager.proofs.Makings.{makes-all, makes-none, makes-part}
use Rattle.relation.specs.Work.{table_updated}
use Rattle.relation.proofs.calls.update.Goals as goal

pub returns-in_err-update-clause-updated : goal.returns-in_err-update-clause-updated
returns-in_err-update-clause-updated g c =
    let p = err_from_is_err_and c.from_residual.result c.from_residual.ensures.1 in
    rw (p.1, p.2)
    (makes-none (λ (u : Unit {0}). u) _ _ (table_updated g.I.Index.added g.I.Index.removed (g.P.Pager.size c.args.pager.now) c.args.table.now c.args.changes.items) c.in_err-update.field-0.0 c.in_err-update.ensures.only_drafts.narrows
    (λ base shown told. rw (c.new-draft.ensures, c.size.ensures) at (c.in_err-update.ensures.updated base shown told)))

pub returns-in_err-write-clause-updated : goal.returns-in_err-write-clause-updated
returns-in_err-write-clause-updated g c =
    let p = err_from_is_err_and c.from_residual-in_err-write.result c.from_residual-in_err-write.ensures.1 in
    rw (p.1, p.2)
    (makes-part (λ (u : Unit {0}). u) _ _ _ c.update.new.draft.list (table_updated g.I.Index.added g.I.Index.removed (g.P.Pager.size c.args.pager.now) c.args.table.now c.args.changes.items) tt c.in_ok-update.ensures.only_drafts.narrows
    (λ base shown told. rw (c.new-draft.ensures, c.size.ensures) at (c.in_ok-update.ensures.updated base shown told))
    c.in_err-write.field-0.0 c.in_err-write.ensures.writes)

pub returns-clause-updated : goal.returns-clause-updated
returns-clause-updated g c =
    makes-all (λ (u : Unit {0}). u) _ _ _ c.update.new.draft.list (table_updated g.I.Index.added g.I.Index.removed (g.P.Pager.size c.args.pager.now) c.args.table.now c.args.changes.items) tt c.in_ok-update.ensures.only_drafts.narrows
    (λ base shown told. rw (c.new-draft.ensures, c.size.ensures) at (c.in_ok-update.ensures.updated base shown told))
    c.in_ok-write.ensures.writes
