use Rattle.std.proofs.Common.{◌≡◌, List, length}
use Rattle.pager.specs.Draft.{drafted}
use Rattle.pager.specs.Pages.{Pages, Narrows}
use Rattle.heap_file.specs.declared.chain.Link.{Link}
use Rattle.heap_file.specs.Chain.{IsOpenWay, IsWay}
use Rattle.heap_file.proofs.Routes.{numbers}
use Rattle.heap_file.proofs.removing.walk.Given as goal

abbrev pub invariant-pages : goal.invariant-pages
invariant-pages g l = record {
  leads : (base shown : Pages) → g.P.Pager.tells l.pager base shown → (links : List Link) × IsWay l.draft.size (drafted shown l.draft.list) l.first links l.page × (l.route ≡ numbers links) × IsOpenWay links l.page;
  count : length l.route ≡ l.counter;
  narrows : Narrows (g.P.Pager.tells l.fn.pager) (g.P.Pager.tells l.pager);
  goes : g.P.Pager.goes l.fn.pager l.pager;
  size : g.P.Pager.size l.pager ≡ g.P.Pager.size l.fn.pager;
  steady : g.P.Pager.faults l.pager ≡ g.P.Pager.faults l.fn.pager;
}
