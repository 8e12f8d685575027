use Rattle.std.proofs.Common.{◌≡◌, ◌∙◌, ◌+◌, ◌*◌, ◌++◌, ap, arith, string_bytes}
use Rattle.workload.specs.Load.{round_lines, script_text}
use Rattle.workload.specs.Numbers.{drawn}
use Rattle.workload.proofs.Drawing.{drawn-behind, round_lines-behind}
use Rattle.workload.proofs.Lines.{no-lines, one-more}
use Rattle.workload.proofs.rounds.write_rounds.Goals as goal

pub loop-round-init : goal.loop-round-init
loop-round-init c = (c.from_seed-numbers.ensures, no-lines (string_bytes c.args.text.now))

pub loop-round-preserved : goal.loop-round-preserved
loop-round-preserved c =
    let seed = c.args.seed in
    let round = c.loop-round._round in
    let at = c.loop-round.invariant.0 in
    let end : 8 * round + 8 ≡ 8 * (round + 1) = omega arith in
    let last = c.in_ok-write_round.ensures.numbers ∙ ap (λ number. drawn number 8) at ∙ drawn-behind seed (8 * round) 8 ∙ ap (drawn seed) end in
    let lines = ap (λ number. round_lines number 0) at ∙ round_lines-behind seed round in
    let written = c.in_ok-write_round.ensures.text ∙ ap (λ l. string_bytes c.loop-round.text ++ script_text l) lines in
    (last, one-more (round_lines seed) round _ _ _ c.loop-round.invariant.1 written)
