use Rattle.std.proofs.Common.{◌≡◌, ◌-◌, ◌+◌}
use Rattle.records.specs.Reading.{take_mark, take_list, after_mark}
use Rattle.records.proofs.Lists.{with_front}
use Rattle.records.proofs.decoding.marks_of.Given as goal

abbrev pub invariant-loop-i : goal.invariant-loop-i
invariant-loop-i l = with_front l.marks.items (take_list take_mark after_mark (l.count - l.i) (l.oldest + l.i) l.rest) ≡ take_list take_mark after_mark l.count l.oldest l.bytes
