use Rattle.std.proofs.Common.{◌∙◌}
use Rattle.sql_select.proofs.BoundOutputs.{keyed-is}
use Rattle.sql_select.proofs.output_rows.keyed_rows.Goals as goal

pub returns : goal.returns
returns c = rw (keyed-is c.args.scope.now c.deref.result.now c.args.columns.now c.args.rows.items (c.deref.ensures.value ∙ c.in_ok-columns.ensures)) at c.rows_by.ensures
