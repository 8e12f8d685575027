-- The rows of a table: how they are numbered.
use Rattle.std.specs.Prelude.{◌+◌, ℕ, List, [], ◌∷◌, map}
use Rattle.values.specs.declared.value.Value.{Value}
use Rattle.tables.specs.declared.contents.NumberedRow.{NumberedRow}

-- the rows under numbers that count up from the next one
abbrev pub numbered : ℕ → List (List Value) → List NumberedRow
numbered next [] = []
numbered next (row ∷ rows) = record { number = next; row = row } ∷ numbered (next + 1) rows

-- the rows without their numbers
abbrev pub rows_of : List NumberedRow → List (List Value)
rows_of rows = map (λ (numbered_row : NumberedRow). numbered_row.row) rows
