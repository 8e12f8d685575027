use Rattle.std.proofs.Common.{◌≡◌, ◌≤◌, ◌-◌, Ok, length, take}
use Rattle.pager.specs.Allows.{in_turn}
use Rattle.pager.specs.Draft.{drafted}
use Rattle.pager.specs.Pages.{Pages, Narrows}
use Rattle.tree_index.specs.Work.{added}
use Rattle.tree_index.proofs.index.TreeIndexIndex.add_all_in.Given as goal

abbrev pub invariant-runs : goal.invariant-runs
invariant-runs g l = record {
  among : l.done ≤ length l.found;
  done_is : (base shown : Pages) → g.P.Pager.tells l.pager base shown → in_turn (added l.fn.draft.size l.self.root) (take l.done l.found) (drafted shown l.fn.draft.list) (Ok (tt, drafted shown l.draft.list));
  draft_size : l.draft.size ≡ l.fn.draft.size;
  narrows : Narrows (g.P.Pager.tells l.fn.pager) (g.P.Pager.tells l.pager);
  goes : g.P.Pager.goes l.fn.pager l.pager;
  size : g.P.Pager.size l.pager ≡ g.P.Pager.size l.fn.pager;
  steady : g.P.Pager.faults l.pager ≡ g.P.Pager.faults l.fn.pager;
}

abbrev pub decreases-runs : goal.decreases-runs
decreases-runs g l = length l.found - l.done
