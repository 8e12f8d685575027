use Rattle.std.proofs.Common.{◌≡◌, drop}
use Rattle.std.specs.Option.{option_map}
use Rattle.retro_base.specs.Gives.{◌>>=◌}
use Rattle.evaluation.specs.Bound.{seen, value_at}
use Rattle.sql_select.specs.Bound.{best_from, best_over, choice}
use Rattle.sql_select.specs.Each.{each}
use Rattle.sql_select.proofs.aggregates.best_over.Given as goal

abbrev pub invariant-loop-row : goal.invariant-loop-row
invariant-loop-row l = each (value_at l.expression) (drop l.row-index l.rows) >>= best_from (choice l.which) (option_map seen l.best) ≡ best_over (choice l.which) (value_at l.expression) l.rows
