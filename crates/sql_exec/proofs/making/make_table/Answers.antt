use Rattle.std.proofs.Common.{inl, inr, refl}
use Rattle.std.proofs.lemmas.Result.{err_from_is_err_and}
use Rattle.tables.specs.declared.reply.Reply.TheVariants.{Plain}
use Rattle.relation.specs.Work.{created}
use Rattle.sql_exec.specs.Running.{made_table}
use Rattle.sql_exec.proofs.Leading.{stops}
use Rattle.sql_exec.proofs.making.make_table.Goals as goal

pub returns-in_err-create_table-clause-made : goal.returns-in_err-create_table-clause-made
returns-in_err-create_table-clause-made g c =
    let p = err_from_is_err_and c.from_residual.result c.from_residual.ensures.1 in
    rw (p.1, p.2)
    (stops (g.P.Pager.tells c.args.pager.now) (g.P.Pager.tells c.args.pager.now) (g.P.Pager.tells c.create_table.new.pager)
    (λ pages. created (g.P.Pager.size c.args.pager.now) pages c.args.create.now.table c.args.create.now.columns) (made_table (g.P.Pager.size c.args.pager.now) c.args.create.now) (λ (u : Unit {0}). Plain) (λ base shown told. told)
    (λ base was now u told h. (tt, c.read_names.ensures, ((u, now), h, refl)))
    (λ base was why told h. inr (tt, c.read_names.ensures, inl h))
    c.in_err-create_table.field-0.0 (rw c.as_slice.ensures at c.in_err-create_table.ensures.created))
