-- The one value of each answer, all of them in one.
use Rattle.std.specs.Prelude.{ℕ, Option, Some, None, Bool, true, false, List, []}
use Rattle.std.specs.Prelude.{◌∷◌, Result, Ok, Err, codes, map, if◌then◌else◌}
use Rattle.std.specs.Option.{option_to_list}
use Rattle.retro_base.specs.Gives.{◌>>=◌}
use Rattle.retro_base.specs.declared.refusal.Refusal.{Refusal}
use Rattle.retro_base.specs.declared.refusal.Refusal.TheVariants.{NotOneValue, WrongType}
use Rattle.values.specs.declared.value.Kind.{Kind}
use Rattle.values.specs.declared.value.Kind.TheVariants as kind
use Rattle.values.specs.declared.value.Value.{Value}
use Rattle.sql_tree.specs.declared.statement.Column.{Column}
use Rattle.sql_select.specs.declared.answer.Answer.{Answer}
use Rattle.rql.specs.Aggregates.{aggregate}
use Rattle.rql.specs.Gathering.{Take, gathered}
use Rattle.rql.specs.declared.function.Function.{Function}
use Rattle.rql.specs.declared.function.Function.TheVariants.{Min, Max, Sum}

-- whether the function adds the texts of a column
abbrev pub adds_texts : Function → Kind → Bool
adds_texts Sum kind.Text = true
adds_texts function kind = false

-- the one item of a list of one
abbrev pub only : {X : Type 0} → List X → Option X
only (x ∷ []) = Some x
only xs = None

abbrev pub value_of : ℕ → List (List Value) → Result Value Refusal
value_of snapshot ((value ∷ []) ∷ []) = Ok value
value_of snapshot rows = Err (NotOneValue snapshot)

-- the one value of an answer of one column and one row
abbrev pub one_value : Function → Take Value
one_value function snapshot (column ∷ []) rows =
    if adds_texts function column.kind then Err WrongType else value_of snapshot rows
one_value function snapshot columns rows = Err (NotOneValue snapshot)

-- one row of the values in one, where there is one
abbrev pub rows_of : Function → List Value → Result (List (List Value)) Refusal
rows_of function values = do
  value ← aggregate function values
  Ok (map (λ value. value ∷ []) (option_to_list value))

-- MIN and MAX are of the kind of their values
abbrev pub kind_of_result : Function → List Column → Kind
kind_of_result Min (column ∷ []) = column.kind
kind_of_result Max (column ∷ []) = column.kind
kind_of_result function columns = kind.Int

abbrev pub in_variable : Function → (ℕ → Result Answer Refusal) → List ℕ → Result Answer Refusal
in_variable function answers snapshots = do
  found ← gathered (one_value function) answers snapshots
  rows ← rows_of function found.1
  Ok (record { columns = record { name = codes "value"; kind = kind_of_result function found.0 } ∷ []; rows = rows })
