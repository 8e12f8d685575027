use Rattle.std.proofs.Common.{◌≡◌, ◌+◌, ◌-◌, ◌∙◌, [], length, take, drop, sym, arith}
use Rattle.std.proofs.lemmas.Grind.{common_steps}
use Rattle.script.proofs.FirstLine.{lines-first, lines-only}
use Rattle.script.proofs.text.split_line.Goals as goal

pub returns-in-Some-clause-first : goal.returns-in-Some-clause-first
returns-in-Some-clause-first c =
    let bytes = c.args.bytes.now in
    let end = c.in-Some.end in
    let rest : take (length bytes - (end + 1)) (drop (end + 1) bytes) ≡ drop (end + 1) bytes = grind (arith, common_steps) in
    rw (c.without_return.ensures, rest) (lines-first bytes end (sym c.line_end.ensures ∙ c.in-Some.is))

pub returns-in-None-clause-first : goal.returns-in-None-clause-first
returns-in-None-clause-first c =
    let bytes = c.args.bytes.now in
    let line : c.split_at.result.0.now ≡ bytes = grind (arith, common_steps) in
    let rest : c.split_at.result.1.now ≡ [] = grind (arith, common_steps) in
    rw (line, rest) (lines-only bytes (sym c.line_end.ensures ∙ c.in-None.is) c.requires)
