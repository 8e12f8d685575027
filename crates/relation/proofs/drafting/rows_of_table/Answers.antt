use Rattle.std.proofs.lemmas.List.Elements.{All-push}
use Rattle.heap_file.specs.HeapPage.{IsShort}
use Rattle.relation.proofs.Fitting.{pushed, rows_of_table-next}
use Rattle.relation.proofs.drafting.rows_of_table.Goals as goal

pub loop-place-preserved : goal.loop-place-preserved
loop-place-preserved c =
    let next = rows_of_table-next c.args.name.now c.args.first c.args.columns.now c.loop-place.place c.index-columns-place.result c.loop-place-test.true c.index-columns-place.is in
    record {
      rows = pushed _ _ _ _ _ _ c.in_ok-push-2.ensures.items c.loop-place.invariant.rows c.in_ok-column_values.ensures.values next;
      short = rw c.in_ok-push-2.ensures.items (All-push IsShort c.loop-place.rows.items c.in_ok-column_values.field-0 c.loop-place.invariant.short c.in_ok-column_values.ensures.short);
    }
