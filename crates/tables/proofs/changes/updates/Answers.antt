use Rattle.std.proofs.Common.{◌∙◌, List, Result, ap}
use Rattle.retro_base.specs.declared.refusal.Refusal.{Refusal}
use Rattle.values.specs.declared.value.Value.{Value}
use Rattle.sql_tree.specs.declared.schema.TableSchema.{TableSchema}
use Rattle.sql_tree.specs.declared.statement.Assignment.{Assignment}
use Rattle.sql_select.specs.Bound.{keeps}
use Rattle.sql_select.specs.Rows.{holds_at}
use Rattle.tables.specs.Bound.{assigns}
use Rattle.tables.specs.Meaning.{assigned}
use Rattle.tables.proofs.Rewriting.{updates_made}
use Rattle.tables.proofs.changes.updates.Goals as goal

pub returns-clause-made : goal.returns-clause-made
returns-clause-made c =
    let table = c.args.table.now in
    let update = c.args.update.now in
    let sets : List Assignment → List Value → Result (List Value) Refusal = λ assignments row. assigned table c.args.snapshot row assignments row in
    updates_made table c.args.snapshot update (keeps c.in_ok-filter.filter) (assigns c.in_ok-assignments.assignments) c.args.rows.now c.updated_rows.result
    (c.in_ok-filter.ensures ∙ ap (λ (scope : List TableSchema). holds_at scope c.args.snapshot update.condition) c.of_one.ensures) (c.in_ok-assignments.ensures ∙ ap sets c.as_slice-assignments.ensures) c.updated_rows.ensures.made
