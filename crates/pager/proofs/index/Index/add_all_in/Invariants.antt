use Rattle.std.proofs.Common.{◌≡◌, Ok, take}
use Rattle.pager.specs.Allows.{in_turn}
use Rattle.pager.specs.Draft.{drafted}
use Rattle.pager.specs.Pages.{Pages, Narrows}
use Rattle.pager.proofs.index.Index.add_all_in.Given as goal

abbrev pub invariant-loop-entry : goal.invariant-loop-entry
invariant-loop-entry g l = record {
  done : (base shown : Pages) → g.P.Pager.tells l.pager base shown → in_turn (g.Self.Index.added l.fn.draft.size (g.Self.Index.root l.self)) (take l.entry-index l.found) (drafted shown l.fn.draft.list) (Ok (tt, drafted shown l.draft.list));
  draft_size : l.draft.size ≡ l.fn.draft.size;
  narrows : Narrows (g.P.Pager.tells l.fn.pager) (g.P.Pager.tells l.pager);
  goes : g.P.Pager.goes l.fn.pager l.pager;
  size : g.P.Pager.size l.pager ≡ g.P.Pager.size l.fn.pager;
  steady : g.P.Pager.faults l.pager ≡ g.P.Pager.faults l.fn.pager;
}
