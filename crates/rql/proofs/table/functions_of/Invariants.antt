use Rattle.std.proofs.Common.{◌≡◌, ◌++◌, drop, map}
use Rattle.rql.specs.Pairs.{function_of}
use Rattle.rql.proofs.table.functions_of.Given as goal

abbrev pub invariant-loop-column : goal.invariant-loop-column
invariant-loop-column l = l.functions.items ++ map (function_of l.pairs) (drop l.column-index l.columns) ≡ map (function_of l.pairs) l.columns
