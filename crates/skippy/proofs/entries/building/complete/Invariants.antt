use Rattle.std.proofs.Common.{◌≡◌, ◌+◌, ◌/◌, ◌≤◌, length}
use Rattle.std.specs.Int.{div_ceil}
use Rattle.skippy.specs.Mappings.{coming}
use Rattle.skippy.specs.Segments.{size_of}
use Rattle.skippy.proofs.LevelLemmas.{IsLevelTo}
use Rattle.skippy.proofs.entries.building.complete.Given as goal

abbrev pub invariant-loop-index : goal.invariant-loop-index
invariant-loop-index l = record {
  least : div_ceil l.low (size_of l.height) ≤ l.index;
  known : (l.low + length l.pages) / size_of l.height ≤ l.index;
  made : IsLevelTo (coming l.low l.pages l.more) (size_of l.height) l.index l.level;
}
