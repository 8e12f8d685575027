use Rattle.std.proofs.Common.{◌≡◌, ◌+◌, drop}
use Rattle.std.specs.List.{position_or_len}
use Rattle.script.specs.Class.{is_from, keyword_of}
use Rattle.script.proofs.class.first_from.Given as goal

abbrev pub invariant-loop-place : goal.invariant-loop-place
invariant-loop-place l =
    position_or_len (λ t. is_from (keyword_of t.token)) l.tokens ≡ l.place + position_or_len (λ t. is_from (keyword_of t.token)) (drop l.place l.tokens)
