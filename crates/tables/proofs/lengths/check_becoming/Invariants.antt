use Rattle.std.proofs.Common.{◌≡◌, ◌≤◌, drop, length, List}
use Rattle.std.specs.List.{AllByRecursion}
use Rattle.values.specs.declared.value.Value.{Value}
use Rattle.tables.specs.Fates.{becoming}
use Rattle.tables.specs.Meaning.{check_lengths}
use Rattle.tables.proofs.lengths.check_becoming.Given as goal

abbrev pub invariant-loop-fate : goal.invariant-loop-fate
invariant-loop-fate l = (check_lengths (becoming (drop l.fate-index l.fates)) ≡ check_lengths (becoming l.fates)) × AllByRecursion (λ (row : List Value). length row ≤ 16) (becoming (drop l.fate-index l.fates))
