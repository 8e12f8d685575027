use Rattle.std.proofs.Common.{◌≡◌, ◌+◌, ◌++◌, take}
use Rattle.tables.specs.Rows.{numbered}
use Rattle.tables.proofs.contents.push_rows.Given as goal

abbrev pub invariant-loop-tuple : goal.invariant-loop-tuple
invariant-loop-tuple l = (l.rows ≡ l.initial.rows ++ numbered l.next (take l.tuple-index l.tuples)) × (l.number ≡ l.next + l.tuple-index)
