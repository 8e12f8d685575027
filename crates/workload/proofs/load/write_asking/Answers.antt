use Rattle.std.proofs.Common.{[], ◌∷◌, ◌++◌, codes, map}
use Rattle.std.proofs.lemmas.Result.{on_ok_weaker}
use Rattle.workload.specs.Load.{asking_lines, sum_line, table_numbers}
use Rattle.workload.proofs.Lines.{lines-behind}
use Rattle.workload.proofs.load.write_asking.Goals as goal

pub returns : goal.returns
unfolding asking_lines
returns c =
    let one = codes "PHASE" ∷ [] in
    let two = one ++ codes "SESSION s" ∷ [] in
    let past = codes "AggregateDataInVariable('SELECT snap_id FROM SnapIds','SELECT SUM(b) FROM t0','rql_v','SUM')" ∷ [] in
    let value = codes "SELECT value FROM rql_v" ∷ [] in
    let begun = lines-behind _ _ _ one (codes "SESSION s" ∷ []) c.in_ok-write_line.ensures c.in_ok-write_line-2.ensures in
    let called = lines-behind _ _ _ two past begun c.in_ok-write_line-3.ensures in
    let asked = lines-behind _ _ _ (two ++ past) value called c.in_ok-write_line-4.ensures in
    let summed = lines-behind _ _ _ (two ++ past ++ value) (map sum_line table_numbers) asked c.in_ok-write_sums.ensures in
    on_ok_weaker _ (lines-behind _ _ _ (two ++ past ++ value ++ map sum_line table_numbers) (codes "COMMIT" ∷ []) summed) c.write_line-5.ensures
