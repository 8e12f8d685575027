use Rattle.std.proofs.Common.{arith, ◌∙◌}
use Rattle.feeds.proofs.Pieces.{added-more}
use Rattle.feeds.proofs.sink.put_all.Goals as goal

pub puts-preserved : goal.puts-preserved
puts-preserved g c = record {
  within = omega (arith, c.in_ok-taken.ensures.bound);
  holds = added-more _ _ _ c.args.bytes.now c.puts.place c.in_ok-taken.taken c.puts.invariant.holds c.in_ok-taken.ensures.ok;
  steady = c.in_ok-taken.ensures.cause.steady ∙ c.puts.invariant.steady;
}
