use Rattle.std.proofs.Common.{◌≡◌, Ok, take}
use Rattle.pager.specs.Draft.{drafted}
use Rattle.pager.specs.Pages.{Pages, Narrows}
use Rattle.relation.specs.Entries.{edit_of, rows_listed}
use Rattle.relation.proofs.listing.list_rows.Given as goal

abbrev pub invariant-loop-index : goal.invariant-loop-index
invariant-loop-index g l = record {
  done : (base shown : Pages) → g.P.Pager.tells l.pager base shown → rows_listed (edit_of g.I.Index.added g.I.Index.removed l.edit) l.fn.draft.size (take l.index-index l.indexes) l.rows (drafted shown l.fn.draft.list) (Ok (tt, drafted shown l.draft.list));
  draft_size : l.draft.size ≡ l.fn.draft.size;
  narrows : Narrows (g.P.Pager.tells l.fn.pager) (g.P.Pager.tells l.pager);
  goes : g.P.Pager.goes l.fn.pager l.pager;
  size : g.P.Pager.size l.pager ≡ g.P.Pager.size l.fn.pager;
  steady : g.P.Pager.faults l.pager ≡ g.P.Pager.faults l.fn.pager;
}
