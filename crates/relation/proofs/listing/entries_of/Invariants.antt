use Rattle.std.proofs.Common.{◌≡◌, take}
use Rattle.relation.specs.Entries.{entries_of}
use Rattle.relation.proofs.listing.entries_of.Given as goal

abbrev pub invariant-loop-placed : goal.invariant-loop-placed
invariant-loop-placed l = l.entries.items ≡ entries_of l.place (take l.placed-index l.rows)
