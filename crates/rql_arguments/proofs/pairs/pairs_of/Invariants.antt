use Rattle.std.proofs.Common.{◌≡◌, length}
use Rattle.sql_text.specs.Places.{tokens_of}
use Rattle.rql_arguments.specs.Reading.{behind, pairs_of}
use Rattle.rql_arguments.proofs.pairs.pairs_of.Given as goal

abbrev pub invariant-loop-rest : goal.invariant-loop-rest
invariant-loop-rest l = behind l.pairs (pairs_of (tokens_of l.rest)) ≡ pairs_of (tokens_of l.tokens)

abbrev pub decreases-loop-rest : goal.decreases-loop-rest
decreases-loop-rest l = length l.rest
