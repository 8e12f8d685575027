use Rattle.std.proofs.Common.{◌≡◌, drop}
use Rattle.skippy.specs.Segments.{from_start, meet_each}
use Rattle.skippy.proofs.entries.building.meet_places.Given as goal

abbrev pub invariant-loop-index : goal.invariant-loop-index
invariant-loop-index l =
    meet_each l.table (from_start l.start (drop l.index l.segment)) ≡ meet_each l.initial.table (from_start l.start l.segment)
