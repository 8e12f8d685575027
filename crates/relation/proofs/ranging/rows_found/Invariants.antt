use Rattle.std.proofs.Common.{◌≡◌, Ok, take}
use Rattle.std.specs.Prelude.{IfSome}
use Rattle.pager.specs.Draft.{drafted}
use Rattle.pager.specs.Pages.{Pages, Narrows}
use Rattle.heap_file.specs.Chain.{HoldsStill, IsWritable}
use Rattle.heap_file.specs.Sieving.{AllPass}
use Rattle.relation.specs.Each.{each_some}
use Rattle.relation.specs.Work.{row_found}
use Rattle.relation.proofs.ranging.rows_found.Given as goal

abbrev pub invariant-loop-entry : goal.invariant-loop-entry
invariant-loop-entry g l = record {
  done : (base shown : Pages) → g.P.Pager.tells l.pager base shown → each_some (row_found (g.S.Sieve.passes l.fn.sieve) l.draft.size (drafted shown l.draft.list)) (take l.entry-index l.found) (Ok l.rows.items);
  known : (base shown : Pages) → g.P.Pager.tells l.pager base shown → HoldsStill l.draft.size (drafted shown l.draft.list) l.known;
  writable : IfSome l.known (IsWritable l.draft.size);
  passed : AllPass (g.S.Sieve.passes l.fn.sieve) l.rows.items;
  stays : g.S.Sieve.passes l.sieve ≡ g.S.Sieve.passes l.fn.sieve;
  narrows : Narrows (g.P.Pager.tells l.fn.pager) (g.P.Pager.tells l.pager);
  goes : g.P.Pager.goes l.fn.pager l.pager;
  size : g.P.Pager.size l.pager ≡ g.P.Pager.size l.fn.pager;
  steady : g.P.Pager.faults l.pager ≡ g.P.Pager.faults l.fn.pager;
}
