use Rattle.std.proofs.Common.{◌≡◌, ◌++◌, drop}
use Rattle.skippy.proofs.entries.Entries.copied_from.Given as goal

abbrev pub invariant-loop-index : goal.invariant-loop-index
invariant-loop-index g l = l.copied.items ++ drop l.index l.self ≡ drop l.place l.self
