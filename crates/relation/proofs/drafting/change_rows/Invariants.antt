use Rattle.std.proofs.Common.{◌≡◌, ◌++◌, Ok}
use Rattle.std.specs.Prelude.{All, IfSome}
use Rattle.pager.specs.Draft.{drafted}
use Rattle.pager.specs.Pages.{Pages, Narrows}
use Rattle.heap_file.specs.Chain.{HoldsStill, IsWritable}
use Rattle.heap_file.specs.HeapPage.{IsShort}
use Rattle.relation.specs.declared.drafting.RowChange.{RowChange}
use Rattle.relation.specs.Work.{all_changed}
use Rattle.relation.proofs.drafting.change_rows.Given as goal

abbrev pub invariant-loop-change : goal.invariant-loop-change
invariant-loop-change g l = record {
  split : l.yielded ++ l.change-iterator.rest.items ≡ l.fn.changes.items;
  short : All (λ (change : RowChange). IsShort change.row) l.change-iterator.rest.items;
  done : (base shown : Pages) → g.P.Pager.tells l.pager base shown → all_changed l.fn.draft.size l.first l.yielded (drafted shown l.fn.draft.list) (Ok (l.moves.items, drafted shown l.draft.list));
  known : (base shown : Pages) → g.P.Pager.tells l.pager base shown → HoldsStill l.draft.size (drafted shown l.draft.list) l.known;
  writable : IfSome l.known (IsWritable l.draft.size);
  draft_size : l.draft.size ≡ l.fn.draft.size;
  narrows : Narrows (g.P.Pager.tells l.fn.pager) (g.P.Pager.tells l.pager);
  goes : g.P.Pager.goes l.fn.pager l.pager;
  size : g.P.Pager.size l.pager ≡ g.P.Pager.size l.fn.pager;
  steady : g.P.Pager.faults l.pager ≡ g.P.Pager.faults l.fn.pager;
}
