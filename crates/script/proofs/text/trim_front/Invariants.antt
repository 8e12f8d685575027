use Rattle.std.proofs.Common.{◌≡◌, ◌+◌, drop}
use Rattle.std.specs.List.{prefix_len}
use Rattle.sql_lexer.specs.Lexes.{is_blank}
use Rattle.script.proofs.text.trim_front.Given as goal

abbrev pub invariant-loop-start : goal.invariant-loop-start
invariant-loop-start l = prefix_len is_blank l.bytes ≡ l.start + prefix_len is_blank (drop l.start l.bytes)
