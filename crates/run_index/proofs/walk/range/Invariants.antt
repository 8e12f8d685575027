use Rattle.std.proofs.Common.{◌≡◌}
use Rattle.std.specs.List.{flat_map}
use Rattle.pager.specs.Index.{between}
use Rattle.pager.specs.Pages.{Narrows}
use Rattle.index_page.specs.Entries.{is_past}
use Rattle.run_index.specs.declared.walk.Met.{Met}
use Rattle.run_index.proofs.Walking.{Walking}
use Rattle.run_index.proofs.walk.range.Given as goal

abbrev pub invariant-pages : goal.invariant-pages
invariant-pages g l = record {
  walking : Walking (g.P.Pager.tells l.pager) (is_past l.high) l.kind l.draft.size l.draft.list l.root l.page l.counter
      (λ passed. l.found.items ≡ flat_map (λ (met : Met). between l.low l.high met.held.entries) passed);
  narrows : Narrows (g.P.Pager.tells l.fn.pager) (g.P.Pager.tells l.pager);
  goes : g.P.Pager.goes l.fn.pager l.pager;
  size : g.P.Pager.size l.pager ≡ g.P.Pager.size l.fn.pager;
  steady : g.P.Pager.faults l.pager ≡ g.P.Pager.faults l.fn.pager;
}
