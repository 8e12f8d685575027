use Rattle.std.proofs.Common.{◌↔◌, drop}
use Rattle.history.specs.Marks.{MarksRise, AreMarks}
use Rattle.history.proofs.right.are_marks.Given as goal

abbrev pub invariant-loop-mark : goal.invariant-loop-mark
invariant-loop-mark l = MarksRise l.captures l.number l.start (drop l.mark-index l.marks) ↔ AreMarks l.captures l.marks
