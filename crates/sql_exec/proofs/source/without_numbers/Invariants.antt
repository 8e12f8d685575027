use Rattle.std.proofs.Common.{◌≡◌, ◌++◌, map}
use Rattle.heap_file.specs.declared.chain.Placed.{Placed}
use Rattle.sql_exec.proofs.source.without_numbers.Given as goal

abbrev pub invariant-loop-placed : goal.invariant-loop-placed
invariant-loop-placed l = l.all.items ++ map (λ (placed : Placed). placed.row) l.placed-iterator.rest.items ≡ map (λ (placed : Placed). placed.row) l.fn.rows.items
