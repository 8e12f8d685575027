-- What is taken of the answers at snapshots, in the order of their list.
use Rattle.std.specs.Prelude.{◌≡◌, ℕ, List, [], ◌∷◌, Result, Ok, Err, if◌then◌else◌}
use Rattle.retro_base.specs.Gives.{◌>>=◌}
use Rattle.retro_base.specs.declared.refusal.Refusal.{Refusal}
use Rattle.retro_base.specs.declared.refusal.Refusal.TheVariants.{WrongType}
use Rattle.values.specs.declared.value.Value.{Value}
use Rattle.sql_tree.specs.declared.statement.Column.{Column}
use Rattle.sql_select.specs.Each.{each}
use Rattle.sql_select.specs.declared.answer.Answer.{Answer}
use Rattle.rql.specs.Columns.{same_columns}

-- what is taken of an answer at a snapshot, or why it is refused
abbrev pub Take : Type 0 → Type 0
Take X = ℕ → List Column → List (List Value) → Result X Refusal

-- something was taken of an answer with these columns
abbrev pub WasTaken : {X : Type 0} → Take X → List Column → Type 0
WasTaken {X = X} take columns =
    (snapshot : ℕ) × (rows : List (List Value)) × (part : X) × (take snapshot columns rows ≡ Ok part)

-- at one snapshot: the columns of the answer, and what is taken of it
abbrev pub taken : {X : Type 0} → Take X → (ℕ → Result Answer Refusal) → ℕ → Result (List Column × X) Refusal
taken take answers snapshot = do
  answer ← answers snapshot
  part ← take snapshot answer.columns answer.rows
  Ok (answer.columns, part)

-- at a later one, whose answer has to have the columns of the first
abbrev pub taken_later : {X : Type 0} → Take X → (ℕ → Result Answer Refusal) → List Column → ℕ → Result X Refusal
taken_later take answers columns snapshot = do
  later ← taken take answers snapshot
  if same_columns columns later.0 then Ok later.1 else Err WrongType

-- at all of them; over no snapshots there are no columns
abbrev pub gathered : {X : Type 0} → Take X → (ℕ → Result Answer Refusal) → List ℕ →
    Result (List Column × List X) Refusal
gathered take answers [] = Ok ([], [])
gathered take answers (snapshot ∷ snapshots) = do
  first ← taken take answers snapshot
  later ← each (taken_later take answers first.0) snapshots
  Ok (first.0, first.1 ∷ later)
