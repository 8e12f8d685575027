-- What is kept of values for the function that makes one of them.
use Rattle.std.specs.Prelude.{◌≡◌, ◌++◌, ℤ, pos, List, [], ◌∷◌, Option, Some}
use Rattle.std.specs.Prelude.{None, Result, Ok, Err, length, if◌then◌else◌}
use Rattle.retro_base.specs.Gives.{◌>>=◌, Gives}
use Rattle.retro_base.specs.declared.refusal.Refusal.{Refusal}
use Rattle.retro_base.specs.declared.refusal.Refusal.TheVariants.{WrongType}
use Rattle.values.specs.declared.value.Value.{Value}
use Rattle.sql_select.specs.Aggregates.{number_of, total}
use Rattle.sql_select.specs.Each.{each}
use Rattle.rql.specs.Aggregates.{aggregate, best, better, in_parts}
use Rattle.rql.specs.Variable.{rows_of}
use Rattle.rql.specs.declared.function.Extreme.{Extreme}
use Rattle.rql.specs.declared.function.Extreme.TheVariants.{Least, Greatest}
use Rattle.rql.specs.declared.function.Function.{Function}
use Rattle.rql.specs.declared.function.Function.TheVariants.{Min, Max, Sum, Count}
use Rattle.rql.specs.declared.tally.Tally.{Tally}

-- the best of some values, with a value more
abbrev pub best_with : Extreme → Option Value → Value → Value
best_with extreme None value = value
best_with extreme (Some so_far) value = better extreme so_far value

-- the sum of values, as a whole number of any size
abbrev pub summed : List Value → Result ℤ Refusal
summed values = do
  numbers ← each number_of values
  Ok (total numbers)

-- a tally is that of values: it has the best of them, or their sum unless there is a text, or their number
abbrev pub IsTally : Function → Tally → List Value → Type 0
IsTally Min tally values = tally.best ≡ best Least values
IsTally Max tally values = tally.best ≡ best Greatest values
IsTally Sum tally values =
    (if tally.has_text then Err WrongType else Ok (in_parts tally.sum.high tally.sum.low)) ≡ summed values
IsTally Count tally values = in_parts tally.sum.high tally.sum.low ≡ pos (length values)

-- a value more goes into a tally, whatever values it is of
abbrev pub AddsValue : Function → Value → Tally → Tally → Type 0
AddsValue function value old new =
    (values : List Value) → IsTally function old values → IsTally function new (values ++ value ∷ [])

-- the values in one, whatever values the tally is of
abbrev pub IsInOne : Function → Tally → Result (Option Value) Refusal → Type 0
IsInOne function tally result = (values : List Value) → IsTally function tally values
    → result ≡ aggregate function values

-- the row of the values in one, whatever values the tally is of
abbrev pub AreRowsOf : Function → Tally → Result (List (List Value)) Refusal → Type 0
AreRowsOf function tally result =
    (values : List Value) → IsTally function tally values → Gives (λ rows. rows) result (rows_of function values)
