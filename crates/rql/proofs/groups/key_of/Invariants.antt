use Rattle.std.proofs.Common.{◌≡◌, ◌++◌}
use Rattle.std.specs.Iterator.Adapters.{zip_first, zip_second}
use Rattle.std.specs.Slice.Iter.{iter_rest}
use Rattle.rql.specs.Table.{key_of}
use Rattle.rql.proofs.groups.key_of.Given as goal

abbrev pub invariant-loop-function : goal.invariant-loop-function
invariant-loop-function l =
    l.key.items ++ key_of (iter_rest (zip_first l.function-iterator)) (iter_rest (zip_second l.function-iterator)) ≡ key_of l.functions l.row
