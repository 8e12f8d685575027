-- Tables by name, rows by number, columns by place.
use Rattle.values.specs.Name.{same_name}
use Rattle.heap_file.proofs.Positions.{find-at, find-none, none-at}
use Rattle.std.proofs.lemmas.List.Quantifiers.{position-Some}
use Rattle.std.proofs.Common.{◌≡◌, ◌∙◌, ap, ◌<◌, ◌+◌, ◌++◌, ℕ, List, [], ◌∷◌, length, get_or, Some, None, refl, sym, arith, inl, inr, eqb, eqb-true}
use Rattle.std.proofs.lemmas.Bool.{cases_lt, eqb-false}
use Rattle.std.proofs.lemmas.List.{get_or_push, get_or_append_left, get_or_default}
use Rattle.sql_tree.specs.declared.statement.Column.{Column as TableColumn}
use Rattle.relation.specs.declared.catalog.StoredTable.{StoredTable}
use Rattle.relation.specs.declared.row.ColumnRow.{ColumnRow}
use Rattle.relation.specs.Catalog.{AreColumnsOf, IsColumnTold, table_named, row_at, table_place}

-- the first table of a name
pub named-found : (name : List ℕ) (tables : List StoredTable) (i : ℕ) (d : StoredTable) → table_place name tables ≡ Some i → table_named name tables ≡ Some (get_or tables i d)
named-found name tables i d at = find-at (λ (table : StoredTable). same_name table.name name) tables i d at

-- no table of a name
pub named-none : (name : List ℕ) (tables : List StoredTable) → table_place name tables ≡ None → table_named name tables ≡ None
named-none name tables none = find-none (λ (table : StoredTable). same_name table.name name) tables none

-- a place that no row tells
pub none_told : (rows : List ColumnRow) (place : ℕ) → place < length rows → row_at place rows ≡ None → AreColumnsOf rows None
none_told rows place lt none [] are = omega (arith, are.some)
none_told rows place lt none (column ∷ columns) are =
    let d : ColumnRow = record { table = []; place = 0; column = column } in
    let told = are.each place column (omega (arith, are.many)) in
    eqb-false (get_or rows told.0 d).place place (none-at (λ (row : ColumnRow). eqb row.place place) rows none told.0 d told.1) (told.2 d).0

-- one column more
pub told-push : (rows : List ColumnRow) (columns : List TableColumn) (column : TableColumn) → ((k : ℕ) (d : TableColumn) → k < length columns → IsColumnTold rows k (get_or columns k d)) → IsColumnTold rows (length columns) column → (k : ℕ) (d : TableColumn) → k < length columns + 1 → IsColumnTold rows k (get_or (columns ++ column ∷ []) k d)
told-push rows columns column each last k d lt =
    elim (cases_lt k (length columns)) [
      | inl below ↦ rw (get_or_append_left columns (column ∷ []) d k below) (each k d below)
      | inr above ↦
          let same : k ≡ length columns = omega arith in
          rw (same, get_or_push columns column d (length columns) refl) last
    ]

-- the column that a row tells
pub told_there : (rows : List ColumnRow) (place k : ℕ) (row : ColumnRow) (column : TableColumn) → row_at place rows ≡ Some k → column ≡ (get_or rows k row).column → IsColumnTold rows place column
told_there rows place k row column is same =
    let at = λ (d : ColumnRow). position-Some (λ (row : ColumnRow). eqb row.place place) rows k d is in
    (k, (at row).0, λ d. (eqb-true (get_or rows k d).place place (at d).1, ap (λ (r : ColumnRow). r.column) (get_or_default rows k d row (at row).0) ∙ sym same))
