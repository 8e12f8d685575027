use Rattle.std.proofs.Common.{◌≡◌, All, map, take}
use Rattle.heap_file.specs.HeapPage.{IsShort}
use Rattle.relation.specs.CatalogRow.{row_values}
use Rattle.relation.specs.Work.{rows_of_table}
use Rattle.relation.proofs.drafting.rows_of_table.Given as goal

abbrev pub invariant-loop-place : goal.invariant-loop-place
invariant-loop-place l = record {
  rows : l.rows.items ≡ map row_values (rows_of_table l.name l.first (take l.place l.columns));
  short : All IsShort l.rows.items;
}
