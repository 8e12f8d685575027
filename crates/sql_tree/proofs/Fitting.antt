-- Rows that fit columns.
use Rattle.std.proofs.Common.{◌≡◌, List, [], ◌∷◌, Bool, true, false, ◌&&◌, length, refl, arith}
use Rattle.values.specs.declared.value.Value.{Value}
use Rattle.values.specs.Value.{kind_of}
use Rattle.sql_tree.specs.declared.statement.Column.{Column}
use Rattle.sql_tree.specs.Rows.{same_kind, fits}

-- a row of another length does not fit
pub fits_apart : (columns : List Column) (row : List Value) → (length row ≡ length columns → ⊥) → fits columns row ≡ false
fits_apart [] [] apart = absurd (apart refl)
fits_apart [] (value ∷ values) apart = refl
fits_apart (column ∷ columns) [] apart = refl
fits_apart (column ∷ columns) (value ∷ values) apart = and_false (same_kind column.kind (kind_of value)) _ (fits_apart columns values (λ e. apart (omega (arith, e))))
  where
    and_false : (a b : Bool) → b ≡ false → a && b ≡ false
    and_false true b e = e
    and_false false b e = refl
