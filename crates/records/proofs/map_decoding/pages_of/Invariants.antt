use Rattle.std.proofs.Common.{◌≡◌, ◌-◌}
use Rattle.records.specs.Reading.{take_list}
use Rattle.records.proofs.Lists.{with_front}
use Rattle.records.specs.MapReading.{take_mapped, no_matter}
use Rattle.records.proofs.map_decoding.pages_of.Given as goal

abbrev pub invariant-loop : goal.invariant-loop
invariant-loop l =
    with_front l.pages.items (take_list (take_mapped l.version) no_matter (l.count - l.counter) 0 l.rest) ≡ take_list (take_mapped l.version) no_matter l.count 0 l.bytes
