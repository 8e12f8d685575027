use Rattle.std.proofs.Common.{[], ◌∷◌, ◌++◌, codes}
use Rattle.std.proofs.lemmas.Result.{on_ok_weaker}
use Rattle.workload.specs.Load.{declaring_lines, round_lines, updating_lines}
use Rattle.workload.proofs.Lines.{lines-behind}
use Rattle.workload.proofs.rounds.write_round.Goals as goal

pub returns-clause-text : goal.returns-clause-text
unfolding round_lines
returns-clause-text c =
    let phase = codes "PHASE" ∷ [] in
    let updating = updating_lines c.args.numbers.now.last 0 in
    let updated = lines-behind _ _ _ phase updating c.in_ok-write_line.ensures c.in_ok-write_updates.ensures.text in
    on_ok_weaker _ (lines-behind _ _ _ (phase ++ updating) declaring_lines updated) c.write_declaring.ensures
