use Rattle.std.proofs.Common.{◌≡◌, Ok, take}
use Rattle.std.specs.Prelude.{IfSome}
use Rattle.pager.specs.Draft.{drafted}
use Rattle.pager.specs.Pages.{Pages, Narrows}
use Rattle.heap_file.specs.Chain.{IsWritable}
use Rattle.heap_file.specs.Route.{IsCursor}
use Rattle.relation.specs.Work.{all_removed}
use Rattle.relation.proofs.drafting.remove_rows.Given as goal

abbrev pub invariant-loop-placed : goal.invariant-loop-placed
invariant-loop-placed g l = record {
  done : (base shown : Pages) → g.P.Pager.tells l.pager base shown → all_removed l.fn.draft.size l.first (take l.placed-index l.rows) (drafted shown l.fn.draft.list) (Ok (tt, drafted shown l.draft.list));
  stands : (base shown : Pages) → g.P.Pager.tells l.pager base shown → IsCursor l.draft.size (drafted shown l.draft.list) l.first l.cursor;
  writable : IfSome l.cursor.page (IsWritable l.draft.size);
  draft_size : l.draft.size ≡ l.fn.draft.size;
  narrows : Narrows (g.P.Pager.tells l.fn.pager) (g.P.Pager.tells l.pager);
  goes : g.P.Pager.goes l.fn.pager l.pager;
  size : g.P.Pager.size l.pager ≡ g.P.Pager.size l.fn.pager;
  steady : g.P.Pager.faults l.pager ≡ g.P.Pager.faults l.fn.pager;
}
