use Rattle.std.proofs.Common.{[], ◌∷◌, ◌++◌, codes}
use Rattle.std.proofs.lemmas.Result.{on_ok_weaker}
use Rattle.workload.specs.Load.{declaring_lines}
use Rattle.workload.proofs.Lines.{lines-behind}
use Rattle.workload.proofs.rounds.write_declaring.Goals as goal

pub returns : goal.returns
unfolding declaring_lines
returns c =
    let phase = codes "PHASE" ∷ [] in
    let session = codes "SESSION s" ∷ [] in
    let begun = lines-behind _ _ _ phase session c.in_ok-write_line.ensures c.in_ok-write_line-2.ensures in
    on_ok_weaker _ (lines-behind _ _ _ (phase ++ session) (codes "COMMIT WITH SNAPSHOT" ∷ []) begun) c.write_line-3.ensures
