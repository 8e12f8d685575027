use Rattle.std.proofs.Common.{◌≡◌, drop}
use Rattle.history.specs.Writes.{rises}
use Rattle.history.proofs.right.rise.Given as goal

abbrev pub invariant-loop-page : goal.invariant-loop-page
invariant-loop-page l = rises l.least (drop l.page-index l.pages) ≡ rises 0 l.pages
