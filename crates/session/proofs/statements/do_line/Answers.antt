use Rattle.std.proofs.Common.{subst, sym}
use Rattle.pager.specs.Pages.{Leads}
use Rattle.script.specs.declared.structure.Reading.{Reading}
use Rattle.sql_tree.specs.declared.statement.Statement.{Statement}
use Rattle.session.specs.LinesRun.{LineGives}
use Rattle.session.proofs.statements.do_line.Goals as goal

pub returns-in-Read-clause-gives : goal.returns-in-Read-clause-gives
returns-in-Read-clause-gives g c one =
    subst
    (λ (l : Reading Statement). Leads (g.P.Pager.tells c.args.pager.now) (g.P.Pager.tells c.do_statement.new.pager) (λ was now. LineGives (g.P.Pager.size c.args.pager.now) l was now c.do_statement.result))
    (sym c.in-Read.is) (c.do_statement.ensures.gives one)
