use Rattle.std.proofs.Common.{◌≡◌, ◌≤◌, Ok, length, take}
use Rattle.pager.specs.Draft.{drafted}
use Rattle.pager.specs.Pages.{Pages, Narrows}
use Rattle.heap_file.specs.Work.{all_placed}
use Rattle.heap_file.proofs.filling.add_all.Given as goal

abbrev pub invariant-pages : goal.invariant-pages
invariant-pages g l = record {
  done : (base shown : Pages) → g.P.Pager.tells l.pager base shown → all_placed l.fn.draft.size l.first (take (length l.placed.items) l.rows) (drafted shown l.fn.draft.list) (Ok (l.placed.items, drafted shown l.draft.list));
  few : length l.placed.items ≤ length l.rows;
  grown : l.counter ≤ length l.placed.items;
  draft_size : l.draft.size ≡ l.fn.draft.size;
  narrows : Narrows (g.P.Pager.tells l.fn.pager) (g.P.Pager.tells l.pager);
  goes : g.P.Pager.goes l.fn.pager l.pager;
  size : g.P.Pager.size l.pager ≡ g.P.Pager.size l.fn.pager;
  steady : g.P.Pager.faults l.pager ≡ g.P.Pager.faults l.fn.pager;
}
