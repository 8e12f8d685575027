-- Names of columns, with those of a run's two snapshots behind them.
use Rattle.std.proofs.Common.{◌≡◌, ◌∙◌, ◌||◌, ℕ, Bool, true, false, List, [], ◌∷◌, ◌++◌, ap, codes, refl}
use Rattle.std.proofs.lemmas.Cmp.{nat_list_eq_equiv}
use Rattle.std.proofs.lemmas.List.Folds.{list_any-append}
use Rattle.sql_check.specs.Names.{has_name, has_twins}
use Rattle.values.specs.Name.{same_name}
use Rattle.sql_tree.specs.declared.statement.Column.{Column}
use Rattle.rql.specs.Columns.{name_of}
use Rattle.rql_intervals.specs.Intervals.{end_columns}

abbrev start : List ℕ
start = codes "start_snapshot"

abbrev end : List ℕ
end = codes "end_snapshot"

sorted_out : (a s e t hs he : Bool) → ((a || (s || (e || false))) || ((t || hs) || he)) ≡ (((a || t) || (s || hs)) || (e || he))
sorted_out true s e t hs he = refl
sorted_out false true e true hs he = refl
sorted_out false true e false hs he = refl
sorted_out false false true true hs he = refl
sorted_out false false true false true he = refl
sorted_out false false true false false he = refl
sorted_out false false false t hs he = refl

-- a name stands twice where it does among the columns, or where one of them has that of a snapshot
pub twins_with_ends : (columns : List Column) → has_twins name_of (columns ++ end_columns) ≡ ((has_twins name_of columns || has_name name_of start columns) || has_name name_of end columns)
twins_with_ends [] = refl
twins_with_ends (column ∷ columns) =
    ap (λ b. b || has_twins name_of (columns ++ end_columns)) (list_any-append (λ other. same_name (name_of other) column.name) columns end_columns)
    ∙ ap (λ b. (has_name name_of column.name columns || (same_name start column.name || (same_name end column.name || false))) || b) (twins_with_ends columns)
    ∙ sorted_out (has_name name_of column.name columns) (same_name start column.name) (same_name end column.name) (has_twins name_of columns) (has_name name_of start columns) (has_name name_of end columns)
    ∙ ap (λ b. ((has_name name_of column.name columns || has_twins name_of columns) || (b || has_name name_of start columns)) || (same_name end column.name || has_name name_of end columns)) (nat_list_eq_equiv.symm start column.name)
    ∙ ap (λ b. ((has_name name_of column.name columns || has_twins name_of columns) || (same_name column.name start || has_name name_of start columns)) || (b || has_name name_of end columns)) (nat_list_eq_equiv.symm end column.name)
