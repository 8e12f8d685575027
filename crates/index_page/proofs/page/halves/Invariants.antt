use Rattle.std.proofs.Common.{◌≡◌, take}
use Rattle.index_page.proofs.page.halves.Given as goal

abbrev pub invariant-loop-found : goal.invariant-loop-found
invariant-loop-found l = l.back ≡ take l.found-index l.found-items
