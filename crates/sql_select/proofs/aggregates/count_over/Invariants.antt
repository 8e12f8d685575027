use Rattle.std.proofs.Common.{◌≡◌, ◌+◌, drop, length, pos}
use Rattle.retro_base.specs.Gives.{◌>>=◌}
use Rattle.evaluation.specs.Bound.{value_at}
use Rattle.sql_select.specs.Aggregates.{whole}
use Rattle.sql_select.specs.Bound.{counted_over}
use Rattle.sql_select.specs.Each.{each}
use Rattle.sql_select.proofs.aggregates.count_over.Given as goal

abbrev pub invariant-loop-row : goal.invariant-loop-row
invariant-loop-row l = each (value_at l.expression) (drop l.row-index l.rows) >>= (λ values. whole (pos (l.row-index + length values))) ≡ counted_over (value_at l.expression) l.rows
