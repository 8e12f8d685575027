use Rattle.std.proofs.Common.{inl}
use Rattle.std.proofs.lemmas.Result.{err_from_is_err_and}
use Rattle.tables.specs.declared.reply.Reply.{Reply}
use Rattle.pager.proofs.Makings.{makes-none}
use Rattle.pager.specs.declared.stop.Stop.TheVariants as stop
use Rattle.heap_file.proofs.Ways.{allowed_stop}
use Rattle.relation.specs.declared.catalog.Catalog.{Catalog}
use Rattle.relation.proofs.Steps.{next_step}
use Rattle.sql_exec.specs.Asking.{opened}
use Rattle.sql_exec.specs.Running.{done_on, ran}
use Rattle.sql_exec.proofs.Answering.{handed, opened-by, opened-not}
use Rattle.sql_exec.proofs.Leading.{behind}
use Rattle.sql_exec.proofs.Ran.{runs-of}
use Rattle.sql_exec.proofs.running.run.Goals as goal

pub returns-in_err-catalog-clause-runs : goal.returns-in_err-catalog-clause-runs
returns-in_err-catalog-clause-runs g c =
    let p = err_from_is_err_and c.from_residual.result c.from_residual.ensures.1 in
    rw (p.1, p.2)
    (runs-of (g.P.Pager.size c.args.pager.now) c.args.statement.now c.args.snapshot (g.P.Pager.tells c.args.pager.now) (g.P.Pager.tells c.open.new.pager) _ c.requires.is_statement
    (makes-none (λ (reply : Reply). reply) _ _ (ran (g.P.Pager.size c.args.pager.now) c.args.statement.now c.args.snapshot) c.in_err-catalog.field-0.0 c.in_err-catalog.ensures.only_reads.narrows
    (λ base shown told. allowed_stop c.in_err-catalog.field-0.0 (λ why h. inl (inl h)) (c.in_err-catalog.ensures.catalog base shown told))))

pub returns-in_err-check-clause-runs : goal.returns-in_err-check-clause-runs
returns-in_err-check-clause-runs g c =
    let p = err_from_is_err_and c.from_residual-in_err-check.result c.from_residual-in_err-check.ensures.1 in
    rw (p.1, p.2)
    (runs-of (g.P.Pager.size c.args.pager.now) c.args.statement.now c.args.snapshot (g.P.Pager.tells c.args.pager.now) (g.P.Pager.tells c.open.new.pager) _ c.requires.is_statement
    (makes-none {F = g.row.P-Fault.Denot} (λ (reply : Reply). reply) _ _ (ran (g.P.Pager.size c.args.pager.now) c.args.statement.now c.args.snapshot) (stop.Refused c.in_err-check.field-0.0) c.in_ok-catalog.ensures.only_reads.narrows
    (λ base shown told. handed (λ h. inl (opened-not (g.P.Pager.size c.args.pager.now) c.args.statement.now c.args.snapshot shown c.in_ok-catalog.catalog _ (c.in_ok-catalog.ensures.catalog base shown told) h))
    (rw c.in_ok-schema.ensures at c.in_err-check.ensures))))

pub returns-clause-runs : goal.returns-clause-runs
returns-clause-runs g c =
    let size = g.P.Pager.size c.args.pager.now in
    runs-of (g.P.Pager.size c.args.pager.now) c.args.statement.now c.args.snapshot (g.P.Pager.tells c.args.pager.now) (g.P.Pager.tells c.perform.new.pager) c.perform.result c.requires.is_statement
    (behind (g.P.Pager.tells c.args.pager.now) (g.P.Pager.tells c.open.new.pager) (g.P.Pager.tells c.perform.new.pager)
    (done_on (g.P.Pager.size c.args.pager.now) c.in_ok-catalog.catalog c.args.statement.now c.args.snapshot) (ran (g.P.Pager.size c.args.pager.now) c.args.statement.now c.args.snapshot) c.in_ok-catalog.ensures.only_reads.narrows
    (λ base was told b h. next_step (opened (g.P.Pager.size c.args.pager.now) c.args.statement.now c.args.snapshot was) (λ (found : Catalog). done_on (g.P.Pager.size c.args.pager.now) found c.args.statement.now c.args.snapshot was) c.in_ok-catalog.catalog
    (opened-by (g.P.Pager.size c.args.pager.now) c.args.statement.now c.args.snapshot was c.in_ok-catalog.catalog (c.in_ok-catalog.ensures.catalog base was told) (rw c.in_ok-schema.ensures at c.in_ok-check.ensures)) b h)
    c.perform.result (rw c.in_ok-catalog.ensures.only_reads.size_stays at c.perform.ensures.done))
