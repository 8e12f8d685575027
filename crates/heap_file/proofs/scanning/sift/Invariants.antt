use Rattle.std.proofs.Common.{◌≡◌, ◌++◌, List, Ok}
use Rattle.pager.specs.Draft.{drafted}
use Rattle.pager.specs.Pages.{Pages, Narrows}
use Rattle.heap_file.specs.Chain.{page_there}
use Rattle.heap_file.specs.declared.chain.Placed.{Placed}
use Rattle.heap_file.specs.Sieving.{AllPass}
use Rattle.heap_file.proofs.Sifts.{SoFar}
use Rattle.heap_file.proofs.scanning.sift.Given as goal

abbrev pub invariant-pages : goal.invariant-pages
invariant-pages g l = record {
  so_far : (base shown : Pages) → g.P.Pager.tells l.pager base shown → page_there l.draft.size (drafted shown l.draft.list) l.first (Ok l.fn.head)
      → SoFar (g.S.Sieve.passes l.fn.sieve) (λ rows. (start : g.row.S.Denot) (front : List Placed) → g.S.Sieve.met start front l.fn.sieve → g.S.Sieve.met start (front ++ rows) l.sieve) l.draft.size (drafted shown l.draft.list) l.first l.counter l.number l.page l.kept.items;
  passed : AllPass (g.S.Sieve.passes l.fn.sieve) l.kept.items;
  stays : g.S.Sieve.passes l.sieve ≡ g.S.Sieve.passes l.fn.sieve;
  narrows : Narrows (g.P.Pager.tells l.fn.pager) (g.P.Pager.tells l.pager);
  goes : g.P.Pager.goes l.fn.pager l.pager;
  size : g.P.Pager.size l.pager ≡ g.P.Pager.size l.fn.pager;
  steady : g.P.Pager.faults l.pager ≡ g.P.Pager.faults l.fn.pager;
}
