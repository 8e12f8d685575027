use Rattle.std.proofs.Common.{◌≡◌, ◌-◌}
use Rattle.records.specs.Reading.{take_page, take_list, after_page}
use Rattle.records.proofs.Lists.{with_front}
use Rattle.records.proofs.decoding.pages_of.Given as goal

abbrev pub invariant-loop : goal.invariant-loop
invariant-loop l =
    with_front l.pages.items (take_list (take_page l.version) after_page (l.count - l.counter) l.least l.rest) ≡ take_list (take_page l.version) after_page l.count 0 l.bytes
