use Rattle.std.proofs.Common.{◌≡◌, ◌+◌, ◌-◌, ◌*◌}
use Rattle.skippy.specs.Mappings.{coming, first_mappings}
use Rattle.skippy.specs.Segments.{size_of}
use Rattle.skippy.proofs.entries.building.table_of.Given as goal

abbrev pub invariant-loop-number : goal.invariant-loop-number
invariant-loop-number l =
    l.table ≡ first_mappings (coming l.low l.pages l.more) (l.index * size_of l.height) l.number

abbrev pub invariant-loop-part : goal.invariant-loop-part
invariant-loop-part l =
    l.table ≡ first_mappings (coming l.low l.pages l.more) (l.index * size_of l.height) (l.part * size_of (l.height - 1))
