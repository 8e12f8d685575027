use Rattle.std.proofs.lemmas.Result.{err_from_is_err_and}
use Rattle.pager.proofs.Makings.{makes-all, makes-none, makes-part}
use Rattle.relation.specs.Work.{table_indexed}
use Rattle.relation.proofs.calls.create_index.Goals as goal

pub returns-in_err-create_index-clause-indexed : goal.returns-in_err-create_index-clause-indexed
returns-in_err-create_index-clause-indexed g c =
    let p = err_from_is_err_and c.from_residual.result c.from_residual.ensures.1 in
    rw (p.1, p.2)
    (makes-none (λ (u : Unit {0}). u) _ _ (table_indexed g.I.Index.made g.I.Index.added (g.P.Pager.size c.args.pager.now) c.args.name.now c.args.table.now c.args.place) c.in_err-create_index.field-0.0 c.in_err-create_index.ensures.only_drafts.narrows
    (λ base shown told. rw (c.new-draft.ensures, c.size.ensures) at (c.in_err-create_index.ensures.indexed base shown told)))

pub returns-in_err-write-clause-indexed : goal.returns-in_err-write-clause-indexed
returns-in_err-write-clause-indexed g c =
    let p = err_from_is_err_and c.from_residual-in_err-write.result c.from_residual-in_err-write.ensures.1 in
    rw (p.1, p.2)
    (makes-part (λ (u : Unit {0}). u) _ _ _ c.create_index.new.draft.list (table_indexed g.I.Index.made g.I.Index.added (g.P.Pager.size c.args.pager.now) c.args.name.now c.args.table.now c.args.place) tt c.in_ok-create_index.ensures.only_drafts.narrows
    (λ base shown told. rw (c.new-draft.ensures, c.size.ensures) at (c.in_ok-create_index.ensures.indexed base shown told))
    c.in_err-write.field-0.0 c.in_err-write.ensures.writes)

pub returns-clause-indexed : goal.returns-clause-indexed
returns-clause-indexed g c =
    makes-all (λ (u : Unit {0}). u) _ _ _ c.create_index.new.draft.list (table_indexed g.I.Index.made g.I.Index.added (g.P.Pager.size c.args.pager.now) c.args.name.now c.args.table.now c.args.place) tt c.in_ok-create_index.ensures.only_drafts.narrows
    (λ base shown told. rw (c.new-draft.ensures, c.size.ensures) at (c.in_ok-create_index.ensures.indexed base shown told))
    c.in_ok-write.ensures.writes
