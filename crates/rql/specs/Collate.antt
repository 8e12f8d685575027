-- The answers one after the other.
use Rattle.std.specs.Prelude.{ℕ, List, Result, Ok, Err, if◌then◌else◌}
use Rattle.std.specs.List.{flat_map}
use Rattle.retro_base.specs.Gives.{◌>>=◌}
use Rattle.retro_base.specs.declared.refusal.Refusal.{Refusal}
use Rattle.retro_base.specs.declared.refusal.Refusal.TheVariants.{NameTaken}
use Rattle.values.specs.declared.value.Value.{Value}
use Rattle.sql_check.specs.Names.{has_twins}
use Rattle.sql_select.specs.declared.answer.Answer.{Answer}
use Rattle.rql.specs.Columns.{name_of}
use Rattle.rql.specs.Gathering.{Take, gathered}

-- the rows of an answer, whose columns have names of their own
abbrev pub all_rows : Take (List (List Value))
all_rows snapshot columns rows = if has_twins name_of columns then Err NameTaken else Ok rows

-- lists one behind the other
abbrev pub joined : {X : Type 0} → List (List X) → List X
joined lists = flat_map (λ list. list) lists

abbrev pub collate : (ℕ → Result Answer Refusal) → List ℕ → Result Answer Refusal
collate answers snapshots = do
  gathered ← gathered all_rows answers snapshots
  Ok (record { columns = gathered.0; rows = joined gathered.1 })
