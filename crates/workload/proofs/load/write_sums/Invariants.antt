use Rattle.std.proofs.Common.{◌≡◌, ◌++◌, map, string_bytes}
use Rattle.std.specs.List.{range_with_len}
use Rattle.workload.specs.Load.{sum_line, script_text}
use Rattle.workload.proofs.load.write_sums.Given as goal

abbrev pub invariant-loop-table : goal.invariant-loop-table
invariant-loop-table l = string_bytes l.text ≡ string_bytes l.initial.text ++ script_text (map sum_line (range_with_len 0 l.table))
