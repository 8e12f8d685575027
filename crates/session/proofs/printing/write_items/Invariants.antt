use Rattle.std.proofs.Common.{◌≡◌, ◌+◌, ◌++◌, drop}
use Rattle.session.specs.Replies.{items_text}
use Rattle.session.proofs.printing.write_items.Given as goal

abbrev pub invariant-loop-index : goal.invariant-loop-index
invariant-loop-index l = l.out.items ++ items_text l.lines (l.index + 1) (drop l.index l.items) ≡ l.initial.out.items ++ items_text l.lines 1 l.items
