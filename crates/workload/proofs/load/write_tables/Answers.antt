use Rattle.std.proofs.Common.{[], ◌∷◌, string_bytes}
use Rattle.workload.specs.Load.{create_line, first_rows, insert_line, table_lines}
use Rattle.workload.proofs.Lines.{lines-behind, no-lines, one-more}
use Rattle.workload.proofs.load.write_tables.Goals as goal

pub loop-table-init : goal.loop-table-init
loop-table-init c = no-lines (string_bytes c.args.text.now)

pub loop-table-preserved : goal.loop-table-preserved
unfolding table_lines first_rows
loop-table-preserved c =
    let table = c.loop-table.table in
    let made = lines-behind _ _ _ (create_line table ∷ []) (insert_line table first_rows ∷ []) c.in_ok-write_create.ensures c.in_ok-write_insert.ensures in
    one-more table_lines table _ _ _ c.loop-table.invariant made
