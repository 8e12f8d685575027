use Rattle.std.proofs.Common.{All}
use Rattle.heap_file.specs.HeapPage.{IsShort}
use Rattle.relation.specs.declared.drafting.RowChange.{RowChange}
use Rattle.relation_bench.proofs.changes_of.Given as goal

abbrev pub invariant-loop-placed : goal.invariant-loop-placed
invariant-loop-placed l = All (λ (change : RowChange). IsShort change.row) l.changes.items
