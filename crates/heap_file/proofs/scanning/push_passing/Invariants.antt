use Rattle.std.proofs.Common.{◌≡◌, ◌≤◌, ◌++◌, List, length}
use Rattle.heap_file.specs.declared.chain.Placed.{Placed}
use Rattle.heap_file.specs.Sieving.{AllPass}
use Rattle.heap_file.proofs.Walks.{Met}
use Rattle.heap_file.proofs.scanning.push_passing.Given as goal

abbrev pub invariant-entries : goal.invariant-entries
invariant-entries g l = record {
  met : Met (g.S.Sieve.passes l.fn.sieve) (λ rows. (start : g.row.S.Denot) (front : List Placed) → g.S.Sieve.met start front l.fn.sieve → g.S.Sieve.met start (front ++ rows) l.sieve)
      l.entries l.number l.place l.end l.fn.kept.items l.kept.items;
  within : l.end ≤ length l.entries;
  passed : AllPass (g.S.Sieve.passes l.fn.sieve) l.fn.kept.items → AllPass (g.S.Sieve.passes l.fn.sieve) l.kept.items;
  stays : g.S.Sieve.passes l.sieve ≡ g.S.Sieve.passes l.fn.sieve;
}
