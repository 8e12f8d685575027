-- The joined rows of a select, and those that it keeps.
use Rattle.std.specs.Prelude.{ℕ, Bool, true, List, [], ◌∷◌, ◌++◌, map, Option, Some, None, Result, Ok, if◌then◌else◌}
use Rattle.std.specs.List.{flat_map}
use Rattle.retro_base.specs.Gives.{◌>>=◌}
use Rattle.retro_base.specs.declared.refusal.Refusal.{Refusal}
use Rattle.values.specs.declared.value.Value.{Value}
use Rattle.sql_tree.specs.Condition.{ConditionTree}
use Rattle.sql_tree.specs.Evaluation.{is_true}
use Rattle.sql_tree.specs.declared.schema.TableSchema.{TableSchema}

-- a row beside each row of another table
abbrev pub beside : List (List Value) → List Value → List (List Value)
beside seconds first = map (λ second. first ++ second) seconds

-- the rows of one table, or all pairs of rows of two, by the first's place and then the second's
abbrev pub joined_rows : List (List Value) → Option (List (List Value)) → List (List Value)
joined_rows firsts None = firsts
joined_rows firsts (Some seconds) = flat_map (beside seconds) firsts

-- WHERE: whether a row is kept
abbrev pub holds_at : List TableSchema → Option ℕ → Option ConditionTree → List Value → Result Bool Refusal
holds_at scope snapshot None row = Ok true
holds_at scope snapshot (Some condition) row = is_true scope snapshot row condition

-- the rows that are kept, in order
abbrev pub kept : (List Value → Result Bool Refusal) → List (List Value) → Result (List (List Value)) Refusal
kept holds [] = Ok []
kept holds (row ∷ rows) = do
  keeps ← holds row
  others ← kept holds rows
  Ok (if keeps then row ∷ others else others)
