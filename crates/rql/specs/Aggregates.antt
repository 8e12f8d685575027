-- Values in one.
use Rattle.std.specs.Prelude.{◌^◌, ℤ, pos, ◌+ℤ◌, ◌*ℤ◌, List, [], ◌∷◌, Option, Some, None, Result, Ok, fold}
use Rattle.std.specs.Ordering.{ord_max, ord_min}
use Rattle.retro_base.specs.Gives.{◌>>=◌}
use Rattle.retro_base.specs.declared.refusal.Refusal.{Refusal}
use Rattle.values.specs.Value.{value_cmp}
use Rattle.values.specs.declared.value.Value.{Value}
use Rattle.sql_select.specs.Aggregates.{count_of, sum_of}
use Rattle.rql.specs.declared.function.Extreme.{Extreme}
use Rattle.rql.specs.declared.function.Extreme.TheVariants.{Least, Greatest}
use Rattle.rql.specs.declared.function.Function.{Function}
use Rattle.rql.specs.declared.function.Function.TheVariants.{Min, Max, Sum, Count}

-- the lesser or the greater of two values
abbrev pub better : Extreme → Value → Value → Value
better Least = ord_min value_cmp
better Greatest = ord_max value_cmp

-- the least or the greatest of some values; there is none of no values
abbrev pub best : Extreme → List Value → Option Value
best extreme [] = None
best extreme (value ∷ values) = Some (fold (better extreme) value values)

-- The values in one, where there is one. A sum is a whole number of any size, of which only the end has to be within
-- i64.
abbrev pub aggregate : Function → List Value → Result (Option Value) Refusal
aggregate Min values = Ok (best Least values)
aggregate Max values = Ok (best Greatest values)
aggregate Sum values = do
  sum ← sum_of values
  Ok (Some sum)
aggregate Count values = do
  count ← count_of values
  Ok (Some count)

-- the number in a high and a low part
abbrev pub in_parts : ℤ → ℤ → ℤ
in_parts high low = (high *ℤ pos (2 ^ 64)) +ℤ low
