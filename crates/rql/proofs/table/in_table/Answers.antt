use Rattle.std.proofs.Common.{List, map, rules}
use Rattle.values.specs.declared.value.Value.{Value}
use Rattle.sql_tree.specs.declared.statement.Column.{Column}
use Rattle.sql_select.specs.declared.answer.Answer.{Answer}
use Rattle.rql.specs.Collate.{joined}
use Rattle.rql.specs.Gathering.{gathered}
use Rattle.rql.specs.Pairs.{function_of}
use Rattle.rql.specs.Table.{column_in, paired_rows, table_rows}
use Rattle.rql.specs.declared.pair.Pair.{Pair}
use Rattle.rql.proofs.Gatherings.{ends_made, ends_refused}
use Rattle.rql.proofs.table.in_table.Goals as goal

abbrev finish : List Pair → List Column × List (List (List Value)) → List (List Value) → Answer
finish pairs found rows = record { columns = map (column_in pairs) found.0; rows = rows }

pub returns-in_err-rows : goal.returns-in_err-rows
returns-in_err-rows g c = record {
  only_asks = search rules;
  told = λ answers e.
      let held = c.in_ok-columns.ensures.told answers e in
      ends_refused (gathered (paired_rows c.args.pairs.now) (λ snapshot. answers snapshot c.args.query.now) c.args.snapshots.now) (λ found. table_rows (map (function_of c.args.pairs.now) found.0) (joined found.1)) (finish c.args.pairs.now)
      (c.in_ok-columns.columns, held.0) held.3 c.in_err-rows.field-0.0 c.from_residual-in_err-rows.result c.from_residual-in_err-rows.ensures.1
      (c.in_err-rows.ensures.exact (map (function_of c.args.pairs.now) c.in_ok-columns.columns) (joined held.0) held.2);
}

pub returns : goal.returns
returns g c = record {
  only_asks = search rules;
  told = λ answers e.
      let held = c.in_ok-columns.ensures.told answers e in
      ends_made (gathered (paired_rows c.args.pairs.now) (λ snapshot. answers snapshot c.args.query.now) c.args.snapshots.now) (λ found. table_rows (map (function_of c.args.pairs.now) found.0) (joined found.1)) (finish c.args.pairs.now)
      (c.in_ok-columns.columns, held.0) held.3 c.in_ok-rows.rows _ (c.in_ok-rows.ensures.exact (map (function_of c.args.pairs.now) c.in_ok-columns.columns) (joined held.0) held.2) (search rules);
}
