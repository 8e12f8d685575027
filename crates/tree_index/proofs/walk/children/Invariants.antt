use Rattle.std.proofs.Common.{◌≡◌, ◌++◌, drop}
use Rattle.tree_index.specs.Walk.{chosen}
use Rattle.tree_index.proofs.walk.children.Given as goal

abbrev pub invariant-loop-key : goal.invariant-loop-key
invariant-loop-key l =
    l.pages.items ++ chosen l.low l.high l.child (drop l.key-index l.key-items) ≡ chosen l.low l.high l.held.link l.key-items
