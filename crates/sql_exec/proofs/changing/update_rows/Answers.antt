use Rattle.std.proofs.Common.{rules, ◌≡◌, Ok, arith, inr, length, sym, vec_len}
use Rattle.std.proofs.lemmas.List.Elements.{All-from_recursion}
use Rattle.std.proofs.lemmas.Result.{err_from_is_err_and}
use Rattle.heap_file.specs.HeapPage.{IsShort}
use Rattle.relation.specs.declared.drafting.RowChange.{RowChange}
use Rattle.tables.specs.Meaning.{check_lengths}
use Rattle.tables.specs.declared.reply.Reply.{Reply}
use Rattle.tables.specs.declared.reply.Reply.TheVariants.{Count}
use Rattle.pager.proofs.Makings.{makes-none}
use Rattle.pager.specs.declared.stop.Stop.TheVariants as stop
use Rattle.relation.specs.Work.{table_updated}
use Rattle.tree_index.specs.Work.{added, removed}
use Rattle.relation.specs.declared.catalog.StoredTable.{StoredTable}
use Rattle.sql_exec.specs.Running.{at_table, updated_in, values_of}
use Rattle.sql_exec.proofs.Answering.{handed}
use Rattle.sql_exec.proofs.Leading.{replies, stops}
use Rattle.sql_exec.proofs.Shortness.{each-row, passed-each, short-each}
use Rattle.sql_exec.proofs.Updated.{changes-long, changes-wide, updated-full, updated-not, updated-there}
use Rattle.sql_exec.proofs.changing.update_rows.Goals as goal

pub check_changes-requires : goal.check_changes-requires
check_changes-requires g c =
    rw c.deref.ensures.value
    (changes-wide c.args.catalog.now c.args.query.now c.args.snapshot c.in-Some.table.now c.in_ok-schema.schema c.in_ok-rows.rows.items c.in_ok-changes.changes.items c.requires.few c.in-Some.ensures c.in_ok-schema.ensures c.requires.checked c.in_ok-rows.ensures.fitting c.in_ok-changes.ensures)

pub update-requires : goal.update-requires
update-requires g c =
    let passes : check_lengths (values_of c.in_ok-changes.changes.items) ≡ Ok tt = rw c.deref.ensures.value at (sym c.in_ok-check_changes.ensures.checked) in
    (All-from_recursion (λ (change : RowChange). IsShort change.row) c.in_ok-changes.changes.items (each-row IsShort c.in_ok-changes.changes.items (short-each (values_of c.in_ok-changes.changes.items)
    (changes-wide c.args.catalog.now c.args.query.now c.args.snapshot c.in-Some.table.now c.in_ok-schema.schema c.in_ok-rows.rows.items c.in_ok-changes.changes.items c.requires.few c.in-Some.ensures c.in_ok-schema.ensures c.requires.checked c.in_ok-rows.ensures.fitting c.in_ok-changes.ensures)
    (passed-each (values_of c.in_ok-changes.changes.items) passes))))

pub returns-in_err-changes-clause-updated : goal.returns-in_err-changes-clause-updated
returns-in_err-changes-clause-updated g c =
    let p = err_from_is_err_and c.from_residual-in_err-changes.result c.from_residual-in_err-changes.ensures.1 in
    rw (p.1, p.2)
    (makes-none {F = g.row.P-Fault.Denot} (λ (reply : Reply). reply) _ _ (λ pages. at_table c.args.catalog.now c.args.query.now.table (λ (table : StoredTable). updated_in (g.P.Pager.size c.args.pager.now) c.args.snapshot c.args.query.now table pages)) (stop.Refused c.in_err-changes.field-0.0) c.in_ok-rows.ensures.only_reads.narrows
    (λ base shown told. handed (λ h. updated-not (g.P.Pager.size c.args.pager.now) c.args.catalog.now c.args.query.now c.args.snapshot c.in-Some.table.now c.in_ok-schema.schema c.in_ok-rows.rows.items shown _ c.in-Some.ensures c.in_ok-schema.ensures (c.in_ok-rows.ensures.rows c.args.snapshot c.in_ok-filter.ensures base shown told) h) c.in_err-changes.ensures))

pub returns-in_err-check_changes-clause-updated : goal.returns-in_err-check_changes-clause-updated
returns-in_err-check_changes-clause-updated g c =
    let p = err_from_is_err_and c.from_residual-in_err-check_changes.result c.from_residual-in_err-check_changes.ensures.1 in
    let long = rw c.deref.ensures.value at (sym c.in_err-check_changes.ensures.checked) in
    rw (p.1, p.2)
    (makes-none {F = g.row.P-Fault.Denot} (λ (reply : Reply). reply) _ _ (λ pages. at_table c.args.catalog.now c.args.query.now.table (λ (table : StoredTable). updated_in (g.P.Pager.size c.args.pager.now) c.args.snapshot c.args.query.now table pages)) (stop.Refused c.in_err-check_changes.field-0.0) c.in_ok-rows.ensures.only_reads.narrows
    (λ base shown told. inr (changes-long (g.P.Pager.size c.args.pager.now) c.args.catalog.now c.args.query.now c.args.snapshot c.in-Some.table.now c.in_ok-schema.schema c.in_ok-rows.rows.items c.in_ok-changes.changes.items shown _ c.in-Some.ensures c.in_ok-schema.ensures (c.in_ok-rows.ensures.rows c.args.snapshot c.in_ok-filter.ensures base shown told) c.in_ok-changes.ensures long)))

pub returns-in_err-update-clause-updated : goal.returns-in_err-update-clause-updated
returns-in_err-update-clause-updated g c =
    let p = err_from_is_err_and c.from_residual-in_err-update.result c.from_residual-in_err-update.ensures.1 in
    let passes : check_lengths (values_of c.in_ok-changes.changes.items) ≡ Ok tt = rw c.deref.ensures.value at (sym c.in_ok-check_changes.ensures.checked) in
    let lawful = rw c.deref.ensures.value at c.in_ok-check_changes.ensures.lawful in
    let told_changes = c.in_ok-changes.ensures in
    rw (p.1, p.2)
    (stops (g.P.Pager.tells c.args.pager.now) (g.P.Pager.tells c.read_rows.new.pager) (g.P.Pager.tells c.update.new.pager)
    (table_updated added removed (g.P.Pager.size c.read_rows.new.pager) c.in-Some.table.now c.in_ok-changes.changes.items)
    (λ pages. at_table c.args.catalog.now c.args.query.now.table (λ (table : StoredTable). updated_in (g.P.Pager.size c.args.pager.now) c.args.snapshot c.args.query.now table pages)) (λ (u : Unit {0}). Count (length c.in_ok-changes.changes.items)) c.in_ok-rows.ensures.only_reads.narrows
    (λ base was now u told h. updated-there (g.P.Pager.size c.args.pager.now) (g.P.Pager.size c.read_rows.new.pager) c.args.catalog.now c.args.query.now c.args.snapshot c.in-Some.table.now c.in_ok-schema.schema c.in_ok-rows.rows.items c.in_ok-changes.changes.items was now u c.in-Some.ensures c.in_ok-schema.ensures (c.in_ok-rows.ensures.rows c.args.snapshot c.in_ok-filter.ensures base was told) told_changes passes lawful c.in_ok-rows.ensures.only_reads.size_stays h)
    (λ base was why told h. updated-full (g.P.Pager.size c.args.pager.now) (g.P.Pager.size c.read_rows.new.pager) c.args.catalog.now c.args.query.now c.args.snapshot c.in-Some.table.now c.in_ok-schema.schema c.in_ok-rows.rows.items c.in_ok-changes.changes.items was why c.in-Some.ensures c.in_ok-schema.ensures (c.in_ok-rows.ensures.rows c.args.snapshot c.in_ok-filter.ensures base was told) told_changes passes lawful c.in_ok-rows.ensures.only_reads.size_stays h)
    c.in_err-update.field-0.0 c.in_err-update.ensures.updated)

pub returns-clause-updated : goal.returns-clause-updated
returns-clause-updated g c =
    let passes : check_lengths (values_of c.in_ok-changes.changes.items) ≡ Ok tt = rw c.deref.ensures.value at (sym c.in_ok-check_changes.ensures.checked) in
    let lawful = rw c.deref.ensures.value at c.in_ok-check_changes.ensures.lawful in
    let told_changes = c.in_ok-changes.ensures in
    let count : vec_len c.in_ok-changes.changes ≡ length c.in_ok-changes.changes.items = omega arith in
    rw (c.len-count.ensures, count)
    (replies (g.P.Pager.tells c.args.pager.now) (g.P.Pager.tells c.read_rows.new.pager) (g.P.Pager.tells c.update.new.pager)
    (table_updated added removed (g.P.Pager.size c.read_rows.new.pager) c.in-Some.table.now c.in_ok-changes.changes.items)
    (λ pages. at_table c.args.catalog.now c.args.query.now.table (λ (table : StoredTable). updated_in (g.P.Pager.size c.args.pager.now) c.args.snapshot c.args.query.now table pages)) (λ (u : Unit {0}). Count (length c.in_ok-changes.changes.items)) c.in_ok-rows.ensures.only_reads.narrows
    (λ base was now u told h. updated-there (g.P.Pager.size c.args.pager.now) (g.P.Pager.size c.read_rows.new.pager) c.args.catalog.now c.args.query.now c.args.snapshot c.in-Some.table.now c.in_ok-schema.schema c.in_ok-rows.rows.items c.in_ok-changes.changes.items was now u c.in-Some.ensures c.in_ok-schema.ensures (c.in_ok-rows.ensures.rows c.args.snapshot c.in_ok-filter.ensures base was told) told_changes passes lawful c.in_ok-rows.ensures.only_reads.size_stays h)
    (λ base was why told h. updated-full (g.P.Pager.size c.args.pager.now) (g.P.Pager.size c.read_rows.new.pager) c.args.catalog.now c.args.query.now c.args.snapshot c.in-Some.table.now c.in_ok-schema.schema c.in_ok-rows.rows.items c.in_ok-changes.changes.items was why c.in-Some.ensures c.in_ok-schema.ensures (c.in_ok-rows.ensures.rows c.args.snapshot c.in_ok-filter.ensures base was told) told_changes passes lawful c.in_ok-rows.ensures.only_reads.size_stays h)
    g.row.P-Fault.Denot tt c.in_ok-update.ensures.updated)

pub returns-in_err-rows-clause-updated : goal.returns-in_err-rows-clause-updated
returns-in_err-rows-clause-updated g c =
    let rows = c.in_err-rows.ensures.rows c.args.snapshot c.in_ok-filter.ensures in
    search rules
