use Rattle.std.proofs.Common.{◌≡◌, Some, arith, sym}
use Rattle.std.proofs.lemmas.Result.{err_from_is_err_and}
use Rattle.sql_tree.specs.Scope.{column_place}
use Rattle.tables.specs.declared.reply.Reply.TheVariants.{Plain}
use Rattle.relation.specs.Work.{table_indexed}
use Rattle.tree_index.specs.Work.{added, made}
use Rattle.relation.specs.declared.catalog.StoredTable.{StoredTable}
use Rattle.sql_exec.specs.Running.{at_table, made_index}
use Rattle.sql_exec.proofs.Answering.{few-named}
use Rattle.sql_exec.proofs.Indexed.{indexed-full, indexed-there}
use Rattle.sql_exec.proofs.Leading.{replies, stops}
use Rattle.sql_exec.proofs.making.make_index.Goals as goal

pub overflow_cast-place : goal.overflow_cast-place
overflow_cast-place g c =
    let few = few-named c.args.create.now.table c.args.catalog.now.tables c.in-Some.table.now c.requires c.in-Some.ensures in
    let within = rw c.as_slice.ensures at c.in-Some-column_place.ensures.bound in
    omega (arith, few.1, within)

pub returns-in_err-create_index-clause-made : goal.returns-in_err-create_index-clause-made
returns-in_err-create_index-clause-made g c =
    let p = err_from_is_err_and c.from_residual.result c.from_residual.ensures.1 in
    let placed : column_place c.args.create.now.column c.in-Some.table.now.columns ≡ Some c.in-Some-column_place.place = rw c.as_slice.ensures at (sym c.in-Some-column_place.ensures.place) in
    rw (p.1, p.2)
    (stops (g.P.Pager.tells c.args.pager.now) (g.P.Pager.tells c.args.pager.now) (g.P.Pager.tells c.create_index.new.pager)
    (table_indexed made added (g.P.Pager.size c.args.pager.now) c.args.create.now.index c.in-Some.table.now c.in-Some-column_place.place)
    (λ pages. at_table c.args.catalog.now c.args.create.now.table (λ (table : StoredTable). made_index (g.P.Pager.size c.args.pager.now) c.args.create.now table pages)) (λ (u : Unit {0}). Plain) (λ base shown told. told)
    (λ base was now u told h. indexed-there (g.P.Pager.size c.args.pager.now) c.args.catalog.now c.args.create.now c.in-Some.table.now c.in-Some-column_place.place was c.in-Some.ensures placed c.bytes-name.ensures.is_name u now h)
    (λ base was why told h. indexed-full (g.P.Pager.size c.args.pager.now) c.args.catalog.now c.args.create.now c.in-Some.table.now c.in-Some-column_place.place was c.in-Some.ensures placed c.bytes-name.ensures.is_name why h)
    c.in_err-create_index.field-0.0 c.in_err-create_index.ensures.indexed)

pub returns-clause-made : goal.returns-clause-made
returns-clause-made g c =
    let placed : column_place c.args.create.now.column c.in-Some.table.now.columns ≡ Some c.in-Some-column_place.place = rw c.as_slice.ensures at (sym c.in-Some-column_place.ensures.place) in
    replies (g.P.Pager.tells c.args.pager.now) (g.P.Pager.tells c.args.pager.now) (g.P.Pager.tells c.create_index.new.pager)
    (table_indexed made added (g.P.Pager.size c.args.pager.now) c.args.create.now.index c.in-Some.table.now c.in-Some-column_place.place)
    (λ pages. at_table c.args.catalog.now c.args.create.now.table (λ (table : StoredTable). made_index (g.P.Pager.size c.args.pager.now) c.args.create.now table pages)) (λ (u : Unit {0}). Plain) (λ base shown told. told)
    (λ base was now u told h. indexed-there (g.P.Pager.size c.args.pager.now) c.args.catalog.now c.args.create.now c.in-Some.table.now c.in-Some-column_place.place was c.in-Some.ensures placed c.bytes-name.ensures.is_name u now h)
    (λ base was why told h. indexed-full (g.P.Pager.size c.args.pager.now) c.args.catalog.now c.args.create.now c.in-Some.table.now c.in-Some-column_place.place was c.in-Some.ensures placed c.bytes-name.ensures.is_name why h)
    g.row.P-Fault.Denot tt c.in_ok-create_index.ensures.indexed
