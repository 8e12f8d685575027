use Rattle.std.proofs.Common.{◌≡◌, ◌++◌, drop}
use Rattle.history.specs.Running.{stamped}
use Rattle.history.proofs.running.captured_pages.Given as goal

abbrev pub invariant-loop-page : goal.invariant-loop-page
invariant-loop-page l = l.pages.items ++ stamped l.number l.page (drop l.page l.stamps) ≡ stamped l.number 0 l.stamps
