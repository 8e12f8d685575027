use Rattle.std.proofs.Common.{◌≡◌, ◌++◌, map, drop}
use Rattle.txn_set.proofs.ledger.numbers.Given as goal

abbrev pub invariant-loop-mark : goal.invariant-loop-mark
invariant-loop-mark l = l.numbers.items ++ map (λ mark. mark.number) (drop l.mark-index l.marks) ≡ map (λ mark. mark.number) l.marks
