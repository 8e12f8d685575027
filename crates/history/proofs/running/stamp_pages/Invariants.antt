use Rattle.std.proofs.Common.{◌≡◌, drop}
use Rattle.history.specs.Running.{with_stamps}
use Rattle.history.proofs.running.stamp_pages.Given as goal

abbrev pub invariant-loop-page : goal.invariant-loop-page
invariant-loop-page l = with_stamps l.number l.stamps (drop l.page-index l.pages) ≡ with_stamps l.number l.fn.stamps l.pages
