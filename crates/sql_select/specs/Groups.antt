-- Rows at their first appearance, and rows in groups.
use Rattle.std.specs.Prelude.{ℕ, zero, suc, Bool, not, List, [], ◌∷◌, ◌++◌, map}
use Rattle.std.specs.List.{filter}
use Rattle.values.specs.declared.value.Value.{Value}
use Rattle.sql_select.specs.declared.grouping.KeyedRow.{KeyedRow}
use Rattle.sql_select.specs.declared.output_row.OutputRow.{OutputRow}
use Rattle.sql_select.specs.Same.{same_row}

-- each item at its first appearance
abbrev pub firsts : {X : Type 0} → (X → X → Bool) → List X → List X
firsts same [] = []
firsts same (x ∷ xs) = x ∷ filter (λ y. not (same y x)) (firsts same xs)

-- whether two rows have the same outputs
abbrev pub same_outputs : OutputRow → OutputRow → Bool
same_outputs a b = same_row a.outputs b.outputs

-- DISTINCT: the first of the rows with the same outputs
abbrev pub distinct : List OutputRow → List OutputRow
distinct rows = firsts same_outputs rows

-- the different keys, in order of first appearance
abbrev pub keys_of : List KeyedRow → List (List Value)
keys_of rows = firsts same_row (map (λ (keyed : KeyedRow). keyed.key) rows)

-- the rows of a key, in order
abbrev pub rows_of_key : List KeyedRow → List Value → List (List Value)
rows_of_key rows key =
    map (λ (keyed : KeyedRow). keyed.row) (filter (λ (keyed : KeyedRow). same_row key keyed.key) rows)

-- GROUP BY: one group for each key, in order of first appearance
abbrev pub groups : List KeyedRow → List (List (List Value))
groups rows = map (rows_of_key rows) (keys_of rows)

-- the groups with a row more in the group at the place, or in a new last group where none stands there
abbrev pub with_member : {X : Type 0} → List (List X) → ℕ → X → List (List X)
with_member [] place x = (x ∷ []) ∷ []
with_member (group ∷ groups) zero x = (group ++ x ∷ []) ∷ groups
with_member (group ∷ groups) (suc place) x = group ∷ with_member groups place x
