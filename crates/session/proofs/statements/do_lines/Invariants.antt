use Rattle.std.proofs.Common.{◌≡◌, drop}
use Rattle.pager.specs.Pages.{Leads}
use Rattle.sql_exec.specs.Stored.{IsStored}
use Rattle.tables.specs.Tables.{Tables}
use Rattle.session.specs.LinesRun.{Midway, ShowsOne}
use Rattle.session.proofs.statements.do_lines.Given as goal

abbrev pub invariant-loop-line : goal.invariant-loop-line
invariant-loop-line g l = record {
  gives : ShowsOne g.P.Pager.tells → Leads (g.P.Pager.tells l.initial.pager) (g.P.Pager.tells l.pager)
      (λ was now. (tables : Tables) → IsStored (g.P.Pager.size l.initial.pager) was tables → Midway (g.P.Pager.size l.initial.pager) l.lines was tables (drop l.line-index l.lines) now l.text.items);
  goes : g.P.Pager.goes l.initial.pager l.pager;
  size : g.P.Pager.size l.pager ≡ g.P.Pager.size l.initial.pager;
}
