use Rattle.std.proofs.Common.{◌≡◌, length}
use Rattle.std.specs.List.{AllByRecursion}
use Rattle.pager.specs.Pages.{Narrows}
use Rattle.tree_index.specs.Walk.{IsStored}
use Rattle.tree_index.proofs.Climbed.{Climbing}
use Rattle.tree_index.proofs.climb.climb_up.Given as goal

abbrev pub invariant-up : goal.invariant-up
invariant-up g l = record {
  climbing : Climbing (g.P.Pager.tells l.pager) l.draft.size l.root l.fn.entry l.fn.draft.list l.draft.list l.fn.way.items l.way.items l.edits l.up;
  way : AllByRecursion (IsStored l.draft.size) l.way.items;
  stored : AllByRecursion (IsStored l.draft.size) l.edits;
  same : l.draft.size ≡ l.fn.draft.size;
  narrows : Narrows (g.P.Pager.tells l.fn.pager) (g.P.Pager.tells l.pager);
  goes : g.P.Pager.goes l.fn.pager l.pager;
  size : g.P.Pager.size l.pager ≡ g.P.Pager.size l.fn.pager;
  steady : g.P.Pager.faults l.pager ≡ g.P.Pager.faults l.fn.pager;
}

abbrev pub decreases-up : goal.decreases-up
decreases-up g l = length l.way.items
