use Rattle.std.proofs.Common.{◌≡◌, take}
use Rattle.archive.specs.Fetching.{numbered_from}
use Rattle.archive.proofs.side.MapSide.mappings.Given as goal

abbrev pub invariant-loop-index : goal.invariant-loop-index
invariant-loop-index g l = l.mappings.items ≡ numbered_from l.low (take l.index l.pages.items)
