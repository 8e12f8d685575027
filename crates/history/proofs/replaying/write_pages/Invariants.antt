use Rattle.std.proofs.Common.{◌≡◌, ℕ, drop}
use Rattle.history.specs.History.{written}
use Rattle.history.specs.Replayed.{page_in}
use Rattle.history.proofs.replaying.write_pages.Given as goal

abbrev pub invariant-loop-write : goal.invariant-loop-write
invariant-loop-write l = (page : ℕ) → written (page_in l.pages) (drop l.write-index l.writes) page ≡ written (page_in l.fn.pages) l.writes page
