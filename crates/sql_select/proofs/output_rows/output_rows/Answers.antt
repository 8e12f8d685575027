use Rattle.std.proofs.Common.{◌∙◌, sym}
use Rattle.sql_select.specs.Bound.{list_over}
use Rattle.sql_select.proofs.BoundOutputs.{of_groups, of_rows}
use Rattle.sql_select.proofs.output_rows.output_rows.Goals as goal

pub returns-then-is_grouped : goal.returns-then-is_grouped
returns-then-is_grouped c =
    rw (of_groups c.args.scope.now c.args.snapshot c.args.select.now (list_over c.in_ok-list.list) c.args.rows.items c.in_ok-list.ensures (sym c.is_grouped.ensures ∙ c.if-is_grouped.true)) at c.rows_of_groups.ensures

pub returns : goal.returns
returns c =
    rw (of_rows c.args.scope.now c.args.snapshot c.args.select.now (list_over c.in_ok-list.list) c.args.rows.items c.in_ok-list.ensures (sym c.is_grouped.ensures ∙ c.if-is_grouped.false)) at c.rows_of_rows.ensures
