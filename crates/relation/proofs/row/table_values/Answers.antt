use Rattle.std.proofs.Common.{◌≡◌, rules, subst, sym}
use Rattle.heap_file.specs.HeapPage.{IsShort}
use Rattle.relation.specs.declared.row.CatalogRow.TheVariants.{Table}
use Rattle.relation.specs.CatalogRow.{row_values}
use Rattle.relation.proofs.Fitting.{table_short}
use Rattle.relation.proofs.row.table_values.Goals as goal

pub returns-clause-short : goal.returns-clause-short
returns-clause-short c =
    let same : c.from-2.result ≡ row_values (Table (record { name = c.args.name.now; first = c.args.first })) = search rules in
    subst IsShort (sym same) (table_short c.args.name.now c.args.first c.in_ok-name_value.ensures.is_name)
