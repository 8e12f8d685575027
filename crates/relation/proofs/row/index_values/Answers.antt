use Rattle.std.proofs.Common.{◌≡◌, rules, subst, sym}
use Rattle.heap_file.specs.HeapPage.{IsShort}
use Rattle.relation.specs.CatalogRow.{row_values}
use Rattle.relation.specs.Work.{row_of_index}
use Rattle.relation.proofs.Fitting.{index_short}
use Rattle.relation.proofs.row.index_values.Goals as goal

pub returns-clause-short : goal.returns-clause-short
returns-clause-short c =
    let same : c.from-3.result ≡ row_values (row_of_index c.args.name.now c.args.table.now c.args.place c.args.root) = search rules in
    subst IsShort (sym same) (index_short c.args.name.now c.args.table.now c.args.place c.args.root c.in_ok-name_value.ensures.is_name c.in_ok-name_value-2.ensures.is_name)
