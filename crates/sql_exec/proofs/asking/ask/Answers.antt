use Rattle.std.proofs.Common.{inl}
use Rattle.std.proofs.lemmas.Result.{err_from_is_err_and}
use Rattle.heap_file.proofs.Ways.{allowed_stop}
use Rattle.sql_exec.proofs.Answering.{asked-by, asks-of, handed, opened-not}
use Rattle.sql_tree.specs.declared.statement.Statement.TheVariants.{Select}
use Rattle.sql_exec.proofs.asking.ask.Goals as goal

pub returns-in_err-catalog-clause-asks : goal.returns-in_err-catalog-clause-asks
returns-in_err-catalog-clause-asks g c =
    let p = err_from_is_err_and c.from_residual.result c.from_residual.ensures.1 in
    rw (p.1, p.2)
    (asks-of (g.P.Pager.size c.args.pager.now) c.args.query.now c.args.snapshot (g.P.Pager.tells c.open.new.pager) _ (λ base shown told.
    allowed_stop c.in_err-catalog.field-0.0 (λ why h. inl (inl h)) (c.in_err-catalog.ensures.catalog base shown told)))

pub returns-in_err-check_select-clause-asks : goal.returns-in_err-check_select-clause-asks
returns-in_err-check_select-clause-asks g c =
    let p = err_from_is_err_and c.from_residual-in_err-check_select.result c.from_residual-in_err-check_select.ensures.1 in
    rw (p.1, p.2)
    (asks-of (g.P.Pager.size c.args.pager.now) c.args.query.now c.args.snapshot (g.P.Pager.tells c.open.new.pager) _ (λ base shown told.
    handed (λ h. inl (opened-not (g.P.Pager.size c.args.pager.now) (Select c.args.query.now) c.args.snapshot shown c.in_ok-catalog.catalog _ (c.in_ok-catalog.ensures.catalog base shown told) h))
    (rw c.in_ok-schema.ensures at c.in_err-check_select.ensures)))

pub returns-clause-asks : goal.returns-clause-asks
returns-clause-asks g c =
    asks-of (g.P.Pager.size c.args.pager.now) c.args.query.now c.args.snapshot (g.P.Pager.tells c.answer.new.pager) c.answer.result
    (asked-by (g.P.Pager.size c.args.pager.now) (g.P.Pager.size c.open.new.pager) c.args.query.now c.args.snapshot c.in_ok-catalog.catalog (g.P.Pager.tells c.open.new.pager) (g.P.Pager.tells c.answer.new.pager) c.answer.result c.in_ok-catalog.ensures.only_reads.size_stays c.answer.ensures.reads.narrows c.in_ok-catalog.ensures.catalog
    (rw c.in_ok-schema.ensures at c.in_ok-check_select.ensures) c.answer.ensures.answered)
