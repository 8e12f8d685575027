use Rattle.std.proofs.Common.{◌≡◌, ◌*◌, ◌^◌, drop, pos, neg_ℤ, ◌≤ℤ◌}
use Rattle.retro_base.specs.Gives.{◌>>=◌}
use Rattle.evaluation.specs.Bound.{value_at}
use Rattle.sql_select.specs.Bound.{sum_from, summed_over}
use Rattle.sql_select.specs.Each.{each}
use Rattle.sql_select.proofs.aggregates.sum_over.Given as goal

abbrev pub invariant-add : goal.invariant-add
invariant-add l = record {
  rest : each (value_at l.expression) (drop l.i l.rows) >>= sum_from l.has_text l.sum ≡ summed_over (value_at l.expression) l.rows;
  low : neg_ℤ (pos (2 ^ 63 * l.i)) ≤ℤ l.sum;
  high : l.sum ≤ℤ pos (2 ^ 63 * l.i);
}
