use Rattle.std.proofs.Common.{◌≡◌, false, take}
use Rattle.index_page.specs.Entries.{is_past}
use Rattle.index_page.proofs.entries.is_past.Given as goal

abbrev pub invariant-loop-found : goal.invariant-loop-found
invariant-loop-found l = is_past l.high (take l.found-index l.entries) ≡ false
