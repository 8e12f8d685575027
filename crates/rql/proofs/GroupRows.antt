-- The rows that stand for groups.
use Rattle.std.proofs.Common.{◌≡◌, ◌⊎◌, inl, inr, ℕ, List, [], ◌∷◌, Option, Some, None, Result, Ok, refl}
use Rattle.std.specs.List.{enumerate_from, filter_map}
use Rattle.retro_base.specs.Gives.{◌>>=◌}
use Rattle.retro_base.specs.declared.refusal.Refusal.{Refusal}
use Rattle.values.specs.declared.value.Value.{Value}
use Rattle.sql_select.specs.Each.{each}
use Rattle.rql.specs.Table.{key_of, value_in}
use Rattle.rql.specs.declared.function.Function.{Function}

-- where there is no column more, or no value more, there is no key more
pub no_key : (functions : List (Option Function)) (row : List Value) → (functions ≡ []) ⊎ (row ≡ []) → key_of functions row ≡ []
no_key [] row e = refl
no_key (None ∷ functions) [] e = refl
no_key (Some function ∷ functions) [] e = refl
no_key (function ∷ functions) (value ∷ row) (inl e) = absurd cc
no_key (function ∷ functions) (value ∷ row) (inr e) = absurd cc

-- the values of a group in the columns from a place on
abbrev pub row_from : ℕ → List (Option Function) → List (List Value) → Result (List Value) Refusal
row_from place functions rows = do
  values ← each (value_in rows) (enumerate_from place functions)
  Ok (filter_map (λ value. value) values)
