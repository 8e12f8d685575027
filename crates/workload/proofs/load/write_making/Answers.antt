use Rattle.std.proofs.Common.{[], ◌∷◌, ◌++◌, codes}
use Rattle.std.proofs.lemmas.Result.{on_ok_weaker}
use Rattle.std.specs.List.{flat_map}
use Rattle.workload.specs.Load.{making_lines, table_lines, table_numbers}
use Rattle.workload.proofs.Lines.{lines-behind}
use Rattle.workload.proofs.load.write_making.Goals as goal

pub returns : goal.returns
unfolding making_lines
returns c =
    let head = codes "PHASE" ∷ codes "SESSION s" ∷ [] in
    let begun = lines-behind _ _ _ (codes "PHASE" ∷ []) (codes "SESSION s" ∷ []) c.in_ok-write_line.ensures c.in_ok-write_line-2.ensures in
    let made = lines-behind _ _ _ head (flat_map table_lines table_numbers) begun c.in_ok-write_tables.ensures in
    on_ok_weaker _ (lines-behind _ _ _ (head ++ flat_map table_lines table_numbers) (codes "COMMIT WITH SNAPSHOT" ∷ []) made) c.write_line-3.ensures
