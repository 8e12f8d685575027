use Rattle.std.proofs.Common.{◌≡◌, ◌≤◌, ◌+◌, ◌-◌, ◌^◌, None, Ok, length, sym, arith}
use Rattle.std.proofs.lemmas.Result.{err_from_is_err_and}
use Rattle.std.proofs.lemmas.List.Elements.{All-from_recursion}
use Rattle.heap_file.specs.HeapPage.{IsShort}
use Rattle.tables.specs.Meaning.{check_lengths}
use Rattle.tables.specs.declared.reply.Reply.TheVariants.{Count}
use Rattle.relation.specs.Work.{table_inserted}
use Rattle.tree_index.specs.Work.{added}
use Rattle.relation.specs.declared.catalog.StoredTable.{StoredTable}
use Rattle.sql_exec.specs.Running.{at_table, inserted_into}
use Rattle.sql_exec.proofs.Answering.{few-named}
use Rattle.sql_exec.proofs.Fitting.{each-wide, tuples-fit}
use Rattle.sql_exec.proofs.Inserted.{inserted-full, inserted-there}
use Rattle.sql_exec.proofs.Leading.{replies, stops}
use Rattle.sql_exec.proofs.Shortness.{passed-each, short-each}
use Rattle.sql_exec.proofs.making.insert_tuples.Goals as goal

pub check_lengths-requires : goal.check_lengths-requires
check_lengths-requires g c =
    rw c.as_slice-tuples.ensures
    (each-wide c.in-Some.table.now.columns c.args.query.now.tuples (few-named c.args.query.now.table c.args.catalog.now.tables c.in-Some.table.now c.requires.few c.in-Some.ensures).1 c.requires.some
    (tuples-fit c.args.catalog.now c.args.query.now None c.in-Some.table.now c.in-Some.ensures c.requires.checked))

pub insert-requires : goal.insert-requires
insert-requires g c =
    let passes : check_lengths c.args.query.now.tuples ≡ Ok tt = rw c.as_slice-tuples.ensures at (sym c.in_ok-check_lengths.ensures.checked) in
    rw c.as_slice-tuples.ensures
    (All-from_recursion IsShort c.args.query.now.tuples (short-each c.args.query.now.tuples
    (each-wide c.in-Some.table.now.columns c.args.query.now.tuples (few-named c.args.query.now.table c.args.catalog.now.tables c.in-Some.table.now c.requires.few c.in-Some.ensures).1 c.requires.some
    (tuples-fit c.args.catalog.now c.args.query.now None c.in-Some.table.now c.in-Some.ensures c.requires.checked))
    (passed-each c.args.query.now.tuples passes)))

pub returns-in_err-insert-clause-inserted : goal.returns-in_err-insert-clause-inserted
returns-in_err-insert-clause-inserted g c =
    let p = err_from_is_err_and c.from_residual-in_err-insert.result c.from_residual-in_err-insert.ensures.1 in
    let passes : check_lengths c.args.query.now.tuples ≡ Ok tt = rw c.as_slice-tuples.ensures at (sym c.in_ok-check_lengths.ensures.checked) in
    let lawful = rw c.as_slice-tuples.ensures at c.in_ok-check_lengths.ensures.lawful in
    let below : c.in_ok-next.next + length c.as_slice-tuples.result.now ≤ 2 ^ 64 - 1 = omega arith in
    let room : c.in_ok-next.next + length c.args.query.now.tuples ≤ 2 ^ 64 - 1 = rw c.as_slice-tuples.ensures at below in
    rw (p.1, p.2)
    (stops (g.P.Pager.tells c.args.pager.now) (g.P.Pager.tells c.next_number.new.pager) (g.P.Pager.tells c.insert.new.pager)
    (table_inserted added (g.P.Pager.size c.next_number.new.pager) c.in-Some.table.now c.args.query.now.tuples)
    (λ pages. at_table c.args.catalog.now c.args.query.now.table (λ (table : StoredTable). inserted_into (g.P.Pager.size c.args.pager.now) c.args.query.now.tuples table pages)) (λ (u : Unit {0}). Count (length c.args.query.now.tuples)) c.in_ok-next.ensures.only_reads.narrows
    (λ base was now u told h. inserted-there (g.P.Pager.size c.args.pager.now) (g.P.Pager.size c.next_number.new.pager) c.args.catalog.now c.args.query.now.table c.args.query.now.tuples c.in-Some.table.now c.in_ok-next.next was now u c.in-Some.ensures (c.in_ok-next.ensures.next base was told) room passes lawful c.in_ok-next.ensures.only_reads.size_stays h)
    (λ base was why told h. inserted-full (g.P.Pager.size c.args.pager.now) (g.P.Pager.size c.next_number.new.pager) c.args.catalog.now c.args.query.now.table c.args.query.now.tuples c.in-Some.table.now c.in_ok-next.next was why c.in-Some.ensures (c.in_ok-next.ensures.next base was told) room passes lawful c.in_ok-next.ensures.only_reads.size_stays h)
    c.in_err-insert.field-0.0 (rw c.as_slice-tuples.ensures at c.in_err-insert.ensures.inserted))

pub returns-clause-inserted : goal.returns-clause-inserted
returns-clause-inserted g c =
    let passes : check_lengths c.args.query.now.tuples ≡ Ok tt = rw c.as_slice-tuples.ensures at (sym c.in_ok-check_lengths.ensures.checked) in
    let lawful = rw c.as_slice-tuples.ensures at c.in_ok-check_lengths.ensures.lawful in
    let below : c.in_ok-next.next + length c.as_slice-tuples.result.now ≤ 2 ^ 64 - 1 = omega arith in
    let room : c.in_ok-next.next + length c.args.query.now.tuples ≤ 2 ^ 64 - 1 = rw c.as_slice-tuples.ensures at below in
    rw c.as_slice-tuples.ensures
    (replies (g.P.Pager.tells c.args.pager.now) (g.P.Pager.tells c.next_number.new.pager) (g.P.Pager.tells c.insert.new.pager)
    (table_inserted added (g.P.Pager.size c.next_number.new.pager) c.in-Some.table.now c.args.query.now.tuples)
    (λ pages. at_table c.args.catalog.now c.args.query.now.table (λ (table : StoredTable). inserted_into (g.P.Pager.size c.args.pager.now) c.args.query.now.tuples table pages)) (λ (u : Unit {0}). Count (length c.args.query.now.tuples)) c.in_ok-next.ensures.only_reads.narrows
    (λ base was now u told h. inserted-there (g.P.Pager.size c.args.pager.now) (g.P.Pager.size c.next_number.new.pager) c.args.catalog.now c.args.query.now.table c.args.query.now.tuples c.in-Some.table.now c.in_ok-next.next was now u c.in-Some.ensures (c.in_ok-next.ensures.next base was told) room passes lawful c.in_ok-next.ensures.only_reads.size_stays h)
    (λ base was why told h. inserted-full (g.P.Pager.size c.args.pager.now) (g.P.Pager.size c.next_number.new.pager) c.args.catalog.now c.args.query.now.table c.args.query.now.tuples c.in-Some.table.now c.in_ok-next.next was why c.in-Some.ensures (c.in_ok-next.ensures.next base was told) room passes lawful c.in_ok-next.ensures.only_reads.size_stays h)
    g.row.P-Fault.Denot tt (rw c.as_slice-tuples.ensures at c.in_ok-insert.ensures.inserted))
