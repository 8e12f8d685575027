-- COUNT, SUM, MIN and MAX over the values of a group.
use Rattle.std.specs.Prelude.{ℤ, pos, ◌+ℤ◌, List, [], ◌∷◌, fold, length, Result, Ok, Err}
use Rattle.std.specs.Ordering.{ord_max, ord_min}
use Rattle.retro_base.specs.Gives.{◌>>=◌}
use Rattle.retro_base.specs.declared.refusal.Refusal.{Refusal}
use Rattle.retro_base.specs.declared.refusal.Refusal.TheVariants.{WrongType}
use Rattle.values.specs.Value.{value_cmp}
use Rattle.values.specs.declared.value.Value.{Value}
use Rattle.values.specs.declared.value.Value.TheVariants.{Int, Text}
use Rattle.sql_tree.specs.Evaluation.{in_range, narrow}
use Rattle.sql_select.specs.Each.{each}

-- a number as an INT; Overflow where it is outside i64
abbrev pub whole : ℤ → Result Value Refusal
whole z = in_range (narrow z)

-- COUNT: how many there are
abbrev pub count_of : {X : Type 0} → List X → Result Value Refusal
count_of items = whole (pos (length items))

abbrev pub number_of : Value → Result ℤ Refusal
number_of (Int n) = Ok n
number_of (Text t) = Err WrongType

-- the sum, as a whole number of any size
abbrev pub total : List ℤ → ℤ
total [] = pos 0
total (n ∷ ns) = n +ℤ total ns

-- SUM: only its end has to be within i64
abbrev pub sum_of : List Value → Result Value Refusal
sum_of values = do
  numbers ← each number_of values
  whole (total numbers)

-- the best of some values by a choice between two; there is none of no values
abbrev pub best_of : (Value → Value → Value) → List Value → Result Value Refusal
best_of better [] = Err WrongType
best_of better (value ∷ values) = Ok (fold better value values)

-- MIN and MAX
abbrev pub least_of : List Value → Result Value Refusal
least_of = best_of (ord_min value_cmp)

abbrev pub greatest_of : List Value → Result Value Refusal
greatest_of = best_of (ord_max value_cmp)
