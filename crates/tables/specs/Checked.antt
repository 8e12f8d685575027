-- What a checked select gives.
use Rattle.std.specs.Prelude.{◌≡◌, ℕ, false, IsTrue, List, [], ◌∷◌, Option, Some, None, Result, Ok, Err}
use Rattle.std.specs.List.{AllByRecursion}
use Rattle.retro_base.specs.declared.refusal.Refusal.{Refusal}
use Rattle.retro_base.specs.declared.refusal.Refusal.TheVariants.{Overflow}
use Rattle.values.specs.declared.value.Value.{Value}
use Rattle.sql_tree.specs.declared.schema.TableSchema.{TableSchema}
use Rattle.sql_tree.specs.declared.select.Select.{Select}
use Rattle.sql_tree.specs.declared.statement.Column.{Column}
use Rattle.sql_check.specs.Outputs.{answer_columns}
use Rattle.sql_tree.specs.Rows.{AllFit}
use Rattle.sql_check.specs.Selects.{select_has_unknown, select_is_mistyped}
use Rattle.sql_select.specs.Select.{answer}
use Rattle.sql_select.specs.declared.answer.Answer.{Answer}

-- the rows of each table of a scope fit its columns
abbrev pub RowsFit : List TableSchema → List (List Value) → Option (List (List Value)) → Type 0
RowsFit (table ∷ []) firsts None = AllFit table.columns firsts
RowsFit (first ∷ second ∷ []) firsts (Some seconds) = AllFit first.columns firsts × AllFit second.columns seconds
RowsFit _ firsts seconds = ⊥

-- an answer with these columns, whose rows fit them, or Overflow
abbrev pub IsAnswerOf : List Column → Result Answer Refusal → Type 0
IsAnswerOf columns (Ok answer) = (answer.columns ≡ columns) × AllFit columns answer.rows
IsAnswerOf columns (Err why) = why ≡ Overflow

-- where its names are known and its types are right, a select has an answer whose rows fit its columns, unless a number
-- leaves i64
abbrev pub CheckedSelectsAnswer : Type 0
CheckedSelectsAnswer =
    (select : Select) (scope : List TableSchema) (snapshot : Option ℕ) (firsts : List (List Value))
    (seconds : Option (List (List Value))) →
    select_has_unknown snapshot select scope ≡ false → select_is_mistyped select scope ≡ false →
    RowsFit scope firsts seconds →
    IsAnswerOf (answer_columns scope select.list)
    (answer select scope (answer_columns scope select.list) snapshot firsts seconds)
