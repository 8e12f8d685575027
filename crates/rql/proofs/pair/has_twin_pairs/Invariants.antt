use Rattle.std.proofs.Common.{◌≡◌, length}
use Rattle.sql_check.specs.Names.{has_twins}
use Rattle.rql.specs.Pairs.{column_name}
use Rattle.rql.proofs.pair.has_twin_pairs.Given as goal

abbrev pub invariant-loop-pair : goal.invariant-loop-pair
invariant-loop-pair l = has_twins column_name l.rest ≡ has_twins column_name l.pairs

abbrev pub decreases-loop-pair : goal.decreases-loop-pair
decreases-loop-pair l = length l.rest
