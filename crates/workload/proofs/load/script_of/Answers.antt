use Rattle.std.proofs.Common.{◌∙◌, ◌++◌, ap}
use Rattle.std.specs.List.{flat_map, range_with_len}
use Rattle.workload.specs.Load.{asking_lines, load_lines, making_lines, round_lines, script_text}
use Rattle.workload.proofs.Lines.{lines-behind}
use Rattle.workload.proofs.load.script_of.Goals as goal

pub returns : goal.returns
unfolding load_lines
returns c =
    let rounds = flat_map (round_lines c.args.seed) (range_with_len 0 c.args.rounds) in
    let behind = lines-behind _ _ _ rounds asking_lines c.in_ok-write_rounds.ensures c.in_ok-write_asking.ensures in
    let whole = lines-behind _ _ _ making_lines (rounds ++ asking_lines) c.in_ok-write_making.ensures behind in
    ap (λ v. v.items) c.into_bytes.ensures.value ∙ whole ∙ ap (λ t. t ++ script_text (making_lines ++ (rounds ++ asking_lines))) c.new-text.ensures.bytes
