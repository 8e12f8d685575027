use Rattle.std.proofs.Common.{◌≡◌, length}
use Rattle.sql_check.specs.Names.{has_twins}
use Rattle.rql.specs.Columns.{name_of}
use Rattle.rql.proofs.columns.has_twins.Given as goal

abbrev pub invariant-loop-column : goal.invariant-loop-column
invariant-loop-column l = has_twins name_of l.rest ≡ has_twins name_of l.columns

abbrev pub decreases-loop-column : goal.decreases-loop-column
decreases-loop-column l = length l.rest
