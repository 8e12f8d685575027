use Rattle.std.proofs.Common.{take}
use Rattle.std.specs.Option.{option_copied}
use Rattle.tree_index.specs.Filling.{IsBound}
use Rattle.tree_index.proofs.filling.bound_of.Given as goal

abbrev pub invariant-loop-met : goal.invariant-loop-met
invariant-loop-met l = IsBound l.entry (take l.met-index l.way) (option_copied l.bound)
