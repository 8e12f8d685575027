use Rattle.std.proofs.Common.{◌≡◌, ◌++◌, drop, true}
use Rattle.std.specs.List.{AllByRecursion, flat_map}
use Rattle.session.specs.Calls.{AreRising, is_retained}
use Rattle.session.specs.OverSnapshots.{numbers_of}
use Rattle.session.proofs.numbers.numbers_in.Given as goal

abbrev pub invariant-loop-row : goal.invariant-loop-row
invariant-loop-row l = record {
  numbers : l.numbers.items ++ flat_map numbers_of (drop l.row-index l.rows) ≡ flat_map numbers_of l.rows;
  rising : AreRising l.marks;
  retained : AllByRecursion (λ number. is_retained number l.marks ≡ true) l.numbers.items;
}
