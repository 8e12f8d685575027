use Rattle.std.proofs.Common.{◌≡◌}
use Rattle.map_log.specs.Bodies.{bodies_to}
use Rattle.map_log.proofs.encoding.maplog_bodies.Given as goal

abbrev pub invariant-loop-index : goal.invariant-loop-index
invariant-loop-index l = l.bodies.items ≡ bodies_to l.version l.capacity l.low l.pages l.index
