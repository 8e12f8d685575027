-- What becomes of rows, one by one. No promise cites it.
use Rattle.std.specs.Prelude.{ℕ, List, [], ◌∷◌}
use Rattle.values.specs.declared.value.Value.{Value}
use Rattle.tables.specs.declared.contents.Contents.{Contents}
use Rattle.tables.specs.declared.contents.NumberedRow.{NumberedRow}
use Rattle.tables.specs.declared.fates.Fate.{Fate}
use Rattle.tables.specs.declared.fates.Fate.TheVariants.{Stays, Goes, Becomes}

-- one where the row is counted
abbrev pub counts : Fate → ℕ
counts Stays = 0
counts Goes = 1
counts (Becomes values) = 1

-- the rows after what becomes of each
abbrev pub rewritten : List Fate → List NumberedRow → List NumberedRow
rewritten [] rows = rows
rewritten (fate ∷ fates) [] = []
rewritten (Stays ∷ fates) (row ∷ rows) = row ∷ rewritten fates rows
rewritten (Goes ∷ fates) (row ∷ rows) = rewritten fates rows
rewritten (Becomes values ∷ fates) (row ∷ rows) = record { number = row.number; row = values } ∷ rewritten fates rows

abbrev pub contents_after : List Fate → Contents → Contents
contents_after fates contents = record contents { rows = rewritten fates contents.rows }

-- what rows become
abbrev pub becoming : List Fate → List (List Value)
becoming [] = []
becoming (Becomes values ∷ fates) = values ∷ becoming fates
becoming (Stays ∷ fates) = becoming fates
becoming (Goes ∷ fates) = becoming fates
