use Rattle.std.proofs.Common.{◌≡◌, ◌∙◌, ◌<◌, ◌++◌, ℕ, List, [], ◌∷◌, ap, append_assoc, arith, length, rules}
use Rattle.sql_tree.specs.declared.statement.Column.{Column}
use Rattle.rql_intervals.specs.Intervals.{end_columns, interval_columns}
use Rattle.rql_intervals.proofs.runs.interval_columns.Goals as goal

over_some : (snapshots : List ℕ) (columns found : List Column) → 0 < length snapshots → found ≡ columns ++ end_columns → found ≡ interval_columns snapshots columns
over_some [] columns found some e = absurd (omega arith)
over_some (snapshot ∷ snapshots) columns found some e = e

pub returns : goal.returns
returns c =
    over_some c.args.snapshots.now c.args.columns c.push-2.new.self (search rules)
    (c.in_ok-push-2.ensures.ok ∙ ap (λ l. l ++ c.in_ok-snapshot_column-2.field-0 ∷ []) c.in_ok-push.ensures.ok ∙ append_assoc c.args.columns (c.in_ok-snapshot_column.field-0 ∷ []) (c.in_ok-snapshot_column-2.field-0 ∷ [])
    ∙ rw (c.in_ok-snapshot_column.ensures, c.in_ok-snapshot_column-2.ensures))
