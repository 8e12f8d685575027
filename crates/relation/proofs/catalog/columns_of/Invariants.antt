use Rattle.std.proofs.Common.{◌≡◌, ◌<◌, ℕ, length, get_or}
use Rattle.sql_tree.specs.declared.statement.Column.{Column}
use Rattle.relation.specs.Catalog.{IsColumnTold}
use Rattle.relation.proofs.catalog.columns_of.Given as goal

abbrev pub invariant-places : goal.invariant-places
invariant-places l = record {
  count : length l.columns ≡ l.place;
  each : (k : ℕ) (d : Column) → k < l.place → IsColumnTold l.rows k (get_or l.columns k d);
}
