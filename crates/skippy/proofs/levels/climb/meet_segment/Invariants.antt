use Rattle.std.proofs.Common.{◌≡◌, ◌+◌, length, take, drop}
use Rattle.skippy.specs.Segments.{from_start, meet_each}
use Rattle.skippy.proofs.levels.climb.meet_segment.Given as goal

abbrev pub invariant-loop-index : goal.invariant-loop-index
invariant-loop-index g l = record {
  rest : meet_each l.table (from_start l.start (drop l.index l.segment)) ≡ meet_each l.initial.table (from_start l.start l.segment);
  kept : take (length l.initial.table) l.table ≡ l.initial.table;
  counted : l.steps ≡ l.initial.steps + l.index;
}
