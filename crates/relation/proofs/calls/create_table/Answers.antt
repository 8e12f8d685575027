use Rattle.std.proofs.Common.{Ok, Err}
use Rattle.std.proofs.lemmas.Result.{err_from_is_err_and}
use Rattle.pager.proofs.Makings.{makes-all, makes-none, makes-part}
use Rattle.pager.specs.Draft.{drafted}
use Rattle.heap_file.proofs.Ways.{allowed_stop}
use Rattle.relation.specs.Work.{created}
use Rattle.relation.proofs.Steps.{created_on}
use Rattle.relation.proofs.calls.create_table.Goals as goal

pub returns-in_err-create_table-clause-created : goal.returns-in_err-create_table-clause-created
returns-in_err-create_table-clause-created g c =
    let p = err_from_is_err_and c.from_residual.result c.from_residual.ensures.1 in
    rw (p.1, p.2)
    (makes-none (λ (u : Unit {0}). u) _ _ (λ pages. created (g.P.Pager.size c.args.pager.now) pages c.args.name.now c.args.columns.now) c.in_err-create_table.field-0.0 c.in_err-create_table.ensures.only_drafts.narrows
    (λ base shown told. allowed_stop c.in_err-create_table.field-0.0 (λ why h. created_on c.new-draft.result (g.P.Pager.size c.args.pager.now) c.size.result shown c.args.name.now c.args.columns.now (Err why) c.new-draft.ensures c.size.ensures h) (c.in_err-create_table.ensures.created base shown told)))

pub returns-in_err-write-clause-created : goal.returns-in_err-write-clause-created
returns-in_err-write-clause-created g c =
    let p = err_from_is_err_and c.from_residual-in_err-write.result c.from_residual-in_err-write.ensures.1 in
    rw (p.1, p.2)
    (makes-part (λ (u : Unit {0}). u) _ _ _ c.create_table.new.draft.list (λ pages. created (g.P.Pager.size c.args.pager.now) pages c.args.name.now c.args.columns.now) tt c.in_ok-create_table.ensures.only_drafts.narrows
    (λ base shown told. created_on c.new-draft.result (g.P.Pager.size c.args.pager.now) c.size.result shown c.args.name.now c.args.columns.now (Ok (tt, drafted shown c.create_table.new.draft.list)) c.new-draft.ensures c.size.ensures (c.in_ok-create_table.ensures.created base shown told))
    c.in_err-write.field-0.0 c.in_err-write.ensures.writes)

pub returns-clause-created : goal.returns-clause-created
returns-clause-created g c =
    makes-all (λ (u : Unit {0}). u) _ _ _ c.create_table.new.draft.list (λ pages. created (g.P.Pager.size c.args.pager.now) pages c.args.name.now c.args.columns.now) tt c.in_ok-create_table.ensures.only_drafts.narrows
    (λ base shown told. created_on c.new-draft.result (g.P.Pager.size c.args.pager.now) c.size.result shown c.args.name.now c.args.columns.now (Ok (tt, drafted shown c.create_table.new.draft.list)) c.new-draft.ensures c.size.ensures (c.in_ok-create_table.ensures.created base shown told))
    c.in_ok-write.ensures.writes
