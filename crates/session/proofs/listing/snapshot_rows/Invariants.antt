use Rattle.std.proofs.Common.{◌≡◌, map, take}
use Rattle.session.specs.Singles.{row_of_mark}
use Rattle.session.proofs.listing.snapshot_rows.Given as goal

abbrev pub invariant-loop-mark : goal.invariant-loop-mark
invariant-loop-mark l = l.rows ≡ map row_of_mark (take l.mark-index l.marks)
