use Rattle.std.proofs.Common.{◌≡◌, ◌*◌, ◌++◌, string_bytes}
use Rattle.std.specs.List.{flat_map, range_with_len}
use Rattle.workload.specs.Load.{drawn_lines, script_text}
use Rattle.workload.specs.Numbers.{drawn}
use Rattle.workload.proofs.rounds.write_updates.Given as goal

abbrev pub invariant-loop-table : goal.invariant-loop-table
invariant-loop-table l =
    (l.numbers.last ≡ drawn l.initial.numbers.last (2 * l.table))
    × (string_bytes l.text ≡ string_bytes l.initial.text ++ script_text (flat_map (drawn_lines l.initial.numbers.last 0) (range_with_len 0 l.table)))
