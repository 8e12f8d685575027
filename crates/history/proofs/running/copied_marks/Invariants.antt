use Rattle.std.proofs.Common.{◌≡◌, take}
use Rattle.history.proofs.running.copied_marks.Given as goal

abbrev pub invariant-loop-mark : goal.invariant-loop-mark
invariant-loop-mark l = l.copied.items ≡ take l.mark-index l.marks
