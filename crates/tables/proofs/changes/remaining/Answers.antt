use Rattle.std.proofs.Common.{◌∙◌, List, ap}
use Rattle.sql_tree.specs.declared.schema.TableSchema.{TableSchema}
use Rattle.sql_select.specs.Bound.{keeps}
use Rattle.sql_select.specs.Rows.{holds_at}
use Rattle.tables.proofs.Rewriting.{remaining_made}
use Rattle.tables.proofs.changes.remaining.Goals as goal

pub returns-clause-made : goal.returns-clause-made
returns-clause-made c =
    let delete = c.args.delete.now in
    remaining_made c.args.table.now c.args.snapshot c.args.contents.now delete (keeps c.in_ok-filter.filter) c.as_slice.result.now c.remaining_rows.result
    (c.in_ok-filter.ensures ∙ ap (λ (scope : List TableSchema). holds_at scope c.args.snapshot delete.condition) c.of_one.ensures) c.as_slice.ensures c.remaining_rows.ensures.made
