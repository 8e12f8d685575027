use Rattle.std.proofs.Common.{◌≡◌, rules, subst, sym}
use Rattle.heap_file.specs.HeapPage.{IsShort}
use Rattle.relation.specs.declared.row.CatalogRow.TheVariants.{Column}
use Rattle.relation.specs.CatalogRow.{row_values}
use Rattle.relation.proofs.Fitting.{column_short}
use Rattle.relation.proofs.row.column_values.Goals as goal

pub returns-clause-short : goal.returns-clause-short
returns-clause-short c =
    let same : c.from-2.result ≡ row_values (Column (record { table = c.args.table.now; place = c.args.place; column = c.args.column.now })) = search rules in
    subst IsShort (sym same) (column_short c.args.table.now c.args.place c.args.column.now c.in_ok-name_value.ensures.is_name c.in_ok-name_value-2.ensures.is_name)
