use Rattle.std.proofs.Common.{◌≡◌, ◌+◌, ◌^◌, ◌<◌, ◌≤◌, map, All}
use Rattle.std.specs.Map.Iter.{deref_pair}
use Rattle.skippy.specs.Segments.{from_start}
use Rattle.skippy.proofs.first_table.FirstTable.to_places.Given as goal

abbrev pub invariant-loop-page : goal.invariant-loop-page
invariant-loop-page l = record {
  made : from_start l.start l.places ≡ map deref_pair l.yielded;
  rest : All (λ e. (l.start ≤ e.1) × (e.1 < l.start + 2 ^ 32)) l.page-iterator;
}
