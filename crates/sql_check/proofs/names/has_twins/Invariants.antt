use Rattle.std.proofs.Common.{◌≡◌, length}
use Rattle.sql_check.specs.Names.{has_twins}
use Rattle.sql_check.proofs.names.has_twins.Given as goal

abbrev pub invariant-loop-item : goal.invariant-loop-item
invariant-loop-item g l = has_twins g.T.Named.name_of l.rest ≡ has_twins g.T.Named.name_of l.items

abbrev pub decreases-loop-item : goal.decreases-loop-item
decreases-loop-item g l = length l.rest
