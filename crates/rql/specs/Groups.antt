-- What is kept of groups of rows in place of the rows.
use Rattle.std.specs.Prelude.{◌≡◌, ◌++◌, ℕ, List, [], ◌∷◌, length, map, slice_get, Option, Some, None, Result}
use Rattle.std.specs.List.{AllZip, IsDistinct}
use Rattle.retro_base.specs.Gives.{Gives}
use Rattle.retro_base.specs.declared.refusal.Refusal.{Refusal}
use Rattle.values.specs.declared.value.Value.{Value}
use Rattle.sql_select.specs.Groups.{groups, keys_of}
use Rattle.sql_select.specs.Outputs.{first_row}
use Rattle.sql_select.specs.Same.{same_row}
use Rattle.rql.specs.Table.{keyed_row, row_of_group, table_rows, value_in, values_at}
use Rattle.rql.specs.Tallies.{IsTally}
use Rattle.rql.specs.declared.function.Function.{Function}
use Rattle.rql.specs.declared.groups.Cell.{Cell}
use Rattle.rql.specs.declared.groups.Group.{Group}
use Rattle.rql.specs.declared.groups.Groups.{Groups}

-- what is kept of the values of rows in a column: the first row's, or a tally for the function
abbrev pub Keeps : ℕ → Option Function → Cell → List (List Value) → Type 0
Keeps place None cell rows = cell.first ≡ slice_get (first_row rows) place
Keeps place (Some function) cell rows = IsTally function cell.tally (values_at place rows)

-- a cell is that of some rows in the column at a place, which has the function
abbrev pub IsCell : ℕ → Option Function → Cell → List (List Value) → Type 0
IsCell place function cell rows = (cell.function ≡ function) × Keeps place function cell rows

-- a group has a row or more, and a cell for each column
abbrev pub IsGroup : List (Option Function) → Group → List (List Value) → Type 0
IsGroup functions group [] = ⊥
IsGroup functions group (row ∷ rows) = (length group.cells.items ≡ length functions)
    × ((place : ℕ) (function : Option Function) (cell : Cell) → slice_get functions place ≡ Some function
    → slice_get group.cells.items place ≡ Some cell → IsCell place function cell (row ∷ rows))

-- the groups are those of the rows, by their keys
abbrev pub AreGroups : List (Option Function) → Groups → List (List Value) → Type 0
AreGroups functions kept rows = (kept.functions.items ≡ functions)
    × (kept.keys.keys ≡ keys_of (map (keyed_row functions) rows))
    × IsDistinct same_row kept.keys.keys
    × AllZip (λ rows group. IsGroup functions group rows) (groups (map (keyed_row functions) rows)) kept.groups.items

-- a row more goes into a cell, whatever rows it is of, of which there is one
abbrev pub CellAdds : ℕ → List Value → Cell → Cell → Type 0
CellAdds place row old new =
    (function : Option Function) (first : List Value) (rows : List (List Value))
    → IsCell place function old (first ∷ rows)
    → IsCell place function new ((first ∷ rows) ++ row ∷ [])

-- the value of a group in a column, whatever rows the cell is of
abbrev pub IsValueOf : Cell → Result (Option Value) Refusal → Type 0
IsValueOf cell result = (place : ℕ) (function : Option Function) (rows : List (List Value))
    → IsCell place function cell rows
    → result ≡ value_in rows (place, function)

-- a row more goes into a group, whatever rows it is of
abbrev pub GroupAdds : List Value → Group → Group → Type 0
GroupAdds row old new = (functions : List (Option Function)) (rows : List (List Value)) → IsGroup functions old rows
    → IsGroup functions new (rows ++ row ∷ [])

-- the row that stands for a group, whatever rows it is of
abbrev pub IsRowOf : Group → Result (List Value) Refusal → Type 0
IsRowOf group result = (functions : List (Option Function)) (rows : List (List Value)) → IsGroup functions group rows
    → Gives (λ row. row) result (row_of_group functions rows)

-- a row more goes into its group, whatever rows the groups are of
abbrev pub RowAdds : List Value → Groups → Groups → Type 0
RowAdds row old new = (functions : List (Option Function)) (rows : List (List Value)) → AreGroups functions old rows
    → AreGroups functions new (rows ++ row ∷ [])

-- the rows that stand for the groups, whatever rows they are of
abbrev pub AreRowsOf : Groups → Result (List (List Value)) Refusal → Type 0
AreRowsOf kept result = (functions : List (Option Function)) (rows : List (List Value)) → AreGroups functions kept rows
    → Gives (λ rows. rows) result (table_rows functions rows)
