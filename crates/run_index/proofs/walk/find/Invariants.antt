use Rattle.std.proofs.Common.{◌≡◌}
use Rattle.pager.specs.Pages.{Narrows}
use Rattle.index_page.specs.Entries.{reaches}
use Rattle.run_index.proofs.Walking.{Walking}
use Rattle.run_index.proofs.walk.find.Given as goal

abbrev pub invariant-pages : goal.invariant-pages
invariant-pages g l = record {
  walking : Walking (g.P.Pager.tells l.pager) (reaches l.entry) l.kind l.draft.size l.draft.list l.root l.page l.counter (λ passed. Unit {0});
  narrows : Narrows (g.P.Pager.tells l.fn.pager) (g.P.Pager.tells l.pager);
  goes : g.P.Pager.goes l.fn.pager l.pager;
  size : g.P.Pager.size l.pager ≡ g.P.Pager.size l.fn.pager;
  steady : g.P.Pager.faults l.pager ≡ g.P.Pager.faults l.fn.pager;
}
