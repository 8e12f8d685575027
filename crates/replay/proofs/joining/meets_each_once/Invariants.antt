use Rattle.std.proofs.Common.{◌≡◌, drop}
use Rattle.replay.proofs.Tables.{has, each_once}
use Rattle.replay.proofs.joining.meets_each_once.Given as goal

abbrev pub invariant-loop-page : goal.invariant-loop-page
invariant-loop-page l = each_once (has l.table.items) (drop l.page-index l.pages) ≡ each_once (has l.fn.table.items) l.pages
