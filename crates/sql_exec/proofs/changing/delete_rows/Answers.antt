use Rattle.std.proofs.Common.{rules, ◌≡◌, Bool, Global, List, Result, Ok, Err, Vec, arith, length, subst, vec_len}
use Rattle.retro_base.specs.Gives.{Gives}
use Rattle.retro_base.specs.declared.refusal.Refusal.{Refusal}
use Rattle.values.specs.declared.value.Value.{Value}
use Rattle.heap_file.specs.declared.chain.Placed.{Placed}
use Rattle.sql_exec.specs.Bound.{placed_gone_by}
use Rattle.sql_exec.specs.Planning.{picked}
use Rattle.std.proofs.lemmas.Result.{err_from_is_err_and}
use Rattle.tables.specs.declared.reply.Reply.{Reply}
use Rattle.tables.specs.declared.reply.Reply.TheVariants.{Count}
use Rattle.pager.proofs.Makings.{makes-none}
use Rattle.pager.specs.declared.stop.Stop.TheVariants as stop
use Rattle.relation.specs.Work.{table_deleted}
use Rattle.tree_index.specs.Work.{removed}
use Rattle.relation.specs.declared.catalog.StoredTable.{StoredTable}
use Rattle.sql_exec.specs.Running.{at_table, deleted_from}
use Rattle.sql_exec.proofs.Answering.{handed}
use Rattle.sql_exec.proofs.Deleted.{deleted-full, deleted-not, deleted-there}
use Rattle.sql_exec.proofs.Leading.{replies, stops}
use Rattle.sql_exec.proofs.changing.delete_rows.Goals as goal

pub returns-in_err-gone-clause-deleted : goal.returns-in_err-gone-clause-deleted
returns-in_err-gone-clause-deleted g c =
    let gone = subst (λ (keeps : List Value → Result Bool Refusal). Gives (λ (gone : Vec Placed Global). gone.items) (Err c.in_err-gone.field-0.0) (picked (placed_gone_by keeps) c.in_ok-rows.rows.items)) c.in_ok-filter.ensures c.in_err-gone.ensures in
    let p = err_from_is_err_and c.from_residual-in_err-gone.result c.from_residual-in_err-gone.ensures.1 in
    rw (p.1, p.2)
    (makes-none {F = g.row.P-Fault.Denot} (λ (reply : Reply). reply) _ _ (λ pages. at_table c.args.catalog.now c.args.query.now.table (λ (table : StoredTable). deleted_from (g.P.Pager.size c.args.pager.now) c.args.snapshot c.args.query.now table pages)) (stop.Refused c.in_err-gone.field-0.0) c.in_ok-rows.ensures.only_reads.narrows
    (λ base shown told. handed (λ h. deleted-not (g.P.Pager.size c.args.pager.now) c.args.catalog.now c.args.query.now c.args.snapshot c.in-Some.table.now c.in_ok-schema.schema c.in_ok-rows.rows.items shown _ c.in-Some.ensures c.in_ok-schema.ensures (c.in_ok-rows.ensures.rows c.args.snapshot c.in_ok-filter.ensures base shown told) h) gone))

pub returns-in_err-delete-clause-deleted : goal.returns-in_err-delete-clause-deleted
returns-in_err-delete-clause-deleted g c =
    let gone = subst (λ (keeps : List Value → Result Bool Refusal). picked (placed_gone_by keeps) c.in_ok-rows.rows.items ≡ Ok c.in_ok-gone.gone.items) c.in_ok-filter.ensures c.in_ok-gone.ensures in
    let p = err_from_is_err_and c.from_residual-in_err-delete.result c.from_residual-in_err-delete.ensures.1 in
    rw (p.1, p.2)
    (stops (g.P.Pager.tells c.args.pager.now) (g.P.Pager.tells c.read_rows.new.pager) (g.P.Pager.tells c.delete.new.pager)
    (table_deleted removed (g.P.Pager.size c.read_rows.new.pager) c.in-Some.table.now c.in_ok-gone.gone.items)
    (λ pages. at_table c.args.catalog.now c.args.query.now.table (λ (table : StoredTable). deleted_from (g.P.Pager.size c.args.pager.now) c.args.snapshot c.args.query.now table pages)) (λ (u : Unit {0}). Count (length c.in_ok-gone.gone.items)) c.in_ok-rows.ensures.only_reads.narrows
    (λ base was now u told h. deleted-there (g.P.Pager.size c.args.pager.now) (g.P.Pager.size c.read_rows.new.pager) c.args.catalog.now c.args.query.now c.args.snapshot c.in-Some.table.now c.in_ok-schema.schema c.in_ok-rows.rows.items c.in_ok-gone.gone.items was now u c.in-Some.ensures c.in_ok-schema.ensures (c.in_ok-rows.ensures.rows c.args.snapshot c.in_ok-filter.ensures base was told) gone c.in_ok-rows.ensures.only_reads.size_stays h)
    (λ base was why told h. deleted-full (g.P.Pager.size c.args.pager.now) (g.P.Pager.size c.read_rows.new.pager) c.args.catalog.now c.args.query.now c.args.snapshot c.in-Some.table.now c.in_ok-schema.schema c.in_ok-rows.rows.items c.in_ok-gone.gone.items was why c.in-Some.ensures c.in_ok-schema.ensures (c.in_ok-rows.ensures.rows c.args.snapshot c.in_ok-filter.ensures base was told) gone c.in_ok-rows.ensures.only_reads.size_stays h)
    c.in_err-delete.field-0.0 (rw c.deref.ensures.value at c.in_err-delete.ensures.deleted))

pub returns-clause-deleted : goal.returns-clause-deleted
returns-clause-deleted g c =
    let gone = subst (λ (keeps : List Value → Result Bool Refusal). picked (placed_gone_by keeps) c.in_ok-rows.rows.items ≡ Ok c.in_ok-gone.gone.items) c.in_ok-filter.ensures c.in_ok-gone.ensures in
    let count : vec_len c.in_ok-gone.gone ≡ length c.in_ok-gone.gone.items = omega arith in
    rw (c.len.ensures, count)
    (replies (g.P.Pager.tells c.args.pager.now) (g.P.Pager.tells c.read_rows.new.pager) (g.P.Pager.tells c.delete.new.pager)
    (table_deleted removed (g.P.Pager.size c.read_rows.new.pager) c.in-Some.table.now c.in_ok-gone.gone.items)
    (λ pages. at_table c.args.catalog.now c.args.query.now.table (λ (table : StoredTable). deleted_from (g.P.Pager.size c.args.pager.now) c.args.snapshot c.args.query.now table pages)) (λ (u : Unit {0}). Count (length c.in_ok-gone.gone.items)) c.in_ok-rows.ensures.only_reads.narrows
    (λ base was now u told h. deleted-there (g.P.Pager.size c.args.pager.now) (g.P.Pager.size c.read_rows.new.pager) c.args.catalog.now c.args.query.now c.args.snapshot c.in-Some.table.now c.in_ok-schema.schema c.in_ok-rows.rows.items c.in_ok-gone.gone.items was now u c.in-Some.ensures c.in_ok-schema.ensures (c.in_ok-rows.ensures.rows c.args.snapshot c.in_ok-filter.ensures base was told) gone c.in_ok-rows.ensures.only_reads.size_stays h)
    (λ base was why told h. deleted-full (g.P.Pager.size c.args.pager.now) (g.P.Pager.size c.read_rows.new.pager) c.args.catalog.now c.args.query.now c.args.snapshot c.in-Some.table.now c.in_ok-schema.schema c.in_ok-rows.rows.items c.in_ok-gone.gone.items was why c.in-Some.ensures c.in_ok-schema.ensures (c.in_ok-rows.ensures.rows c.args.snapshot c.in_ok-filter.ensures base was told) gone c.in_ok-rows.ensures.only_reads.size_stays h)
    g.row.P-Fault.Denot tt (rw c.deref.ensures.value at c.in_ok-delete.ensures.deleted))

pub returns-in_err-rows-clause-deleted : goal.returns-in_err-rows-clause-deleted
returns-in_err-rows-clause-deleted g c =
    let rows = c.in_err-rows.ensures.rows c.args.snapshot c.in_ok-filter.ensures in
    search rules
