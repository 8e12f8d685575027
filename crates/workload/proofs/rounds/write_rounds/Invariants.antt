use Rattle.std.proofs.Common.{◌≡◌, ◌*◌, ◌++◌, string_bytes}
use Rattle.std.specs.List.{flat_map, range_with_len}
use Rattle.workload.specs.Load.{round_lines, script_text}
use Rattle.workload.specs.Numbers.{drawn}
use Rattle.workload.proofs.rounds.write_rounds.Given as goal

abbrev pub invariant-loop-round : goal.invariant-loop-round
invariant-loop-round l =
    (l.numbers.last ≡ drawn l.seed (8 * l._round))
    × (string_bytes l.text ≡ string_bytes l.initial.text ++ script_text (flat_map (round_lines l.seed) (range_with_len 0 l._round)))
