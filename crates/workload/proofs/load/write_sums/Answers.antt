use Rattle.std.proofs.Common.{◌∙◌, ◌++◌, [], ◌∷◌, ap, arith, map, string_bytes, sym}
use Rattle.std.proofs.lemmas.List.FromFn.{map-range_with_len_more}
use Rattle.std.specs.List.{range_with_len}
use Rattle.workload.specs.Load.{sum_line, script_text}
use Rattle.workload.proofs.Lines.{lines-behind, no-lines}
use Rattle.workload.proofs.load.write_sums.Goals as goal

pub loop-table-init : goal.loop-table-init
loop-table-init c = no-lines (string_bytes c.args.text.now)

pub loop-table-preserved : goal.loop-table-preserved
loop-table-preserved c =
    let table = c.loop-table.table in
    let more = map-range_with_len_more sum_line 0 table table (omega arith) in
    lines-behind _ _ _ (map sum_line (range_with_len 0 table)) (sum_line table ∷ []) c.loop-table.invariant c.in_ok-write_sum.ensures
    ∙ ap (λ l. string_bytes c.args.text.now ++ script_text l) (sym more)
