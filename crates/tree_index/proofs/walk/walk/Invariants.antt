use Rattle.std.proofs.Common.{◌≡◌}
use Rattle.std.specs.List.{AllByRecursion}
use Rattle.pager.specs.Pages.{Narrows}
use Rattle.tree_index.specs.Walk.{IsStored}
use Rattle.tree_index.proofs.Walking.{Meeting}
use Rattle.tree_index.proofs.walk.walk.Given as goal

abbrev pub invariant-pages : goal.invariant-pages
invariant-pages g l = record {
  meeting : Meeting (g.P.Pager.tells l.pager) l.low l.high l.kind l.draft.size l.draft.list l.root l.counter l.todo.items l.way.items;
  stored : AllByRecursion (IsStored l.draft.size) l.way.items;
  narrows : Narrows (g.P.Pager.tells l.fn.pager) (g.P.Pager.tells l.pager);
  goes : g.P.Pager.goes l.fn.pager l.pager;
  size : g.P.Pager.size l.pager ≡ g.P.Pager.size l.fn.pager;
  steady : g.P.Pager.faults l.pager ≡ g.P.Pager.faults l.fn.pager;
}
