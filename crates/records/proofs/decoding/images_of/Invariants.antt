use Rattle.std.proofs.Common.{◌≡◌, ◌-◌}
use Rattle.records.specs.Reading.{take_image, take_list, after_image}
use Rattle.records.proofs.Lists.{with_front}
use Rattle.records.proofs.decoding.images_of.Given as goal

abbrev pub invariant-loop : goal.invariant-loop
invariant-loop l =
    with_front l.images.items (take_list (take_image l.version) after_image (l.count - l.counter) l.least l.rest) ≡ take_list (take_image l.version) after_image l.count 0 l.bytes
