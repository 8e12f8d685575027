use Rattle.std.proofs.lemmas.List.Elements.{All-push}
use Rattle.heap_file.specs.HeapPage.{IsShort}
use Rattle.relation.specs.declared.drafting.RowChange.{RowChange}
use Rattle.relation_bench.proofs.changes_of.Goals as goal

pub loop-placed-preserved : goal.loop-placed-preserved
loop-placed-preserved c = rw c.in_ok-push.ensures.items (All-push (λ (change : RowChange). IsShort change.row) c.loop-placed.changes.items _ c.loop-placed.invariant c.in_ok-row.ensures)
