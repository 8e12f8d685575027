-- A place that is found is one of the list's.
use Rattle.std.proofs.Common.{◌≡◌, ◌<◌, ℕ, Bool, true, false, cond, Option, Some, None, List, length, nat_lt, refl, sym, subst}
use Rattle.std.proofs.lemmas.Bool.{ltb-true}
use Rattle.std.specs.Prelude.{IfSome, ◌==◌}
use Rattle.std.specs.Cmp.Lexicographic.{pointwise}
use Rattle.std.specs.List.{position_or_len}
use Rattle.sql_tree.specs.declared.statement.Column.{Column}
use Rattle.sql_tree.specs.Scope.{column_place}

below : (b : Bool) (k n : ℕ) → nat_lt k n ≡ b → IfSome (cond b (Some k) None) (λ i. i < n)
below true k n e = ltb-true k n e
below false k n e = tt

pub place_bound : (r : Option ℕ) (name : List ℕ) (columns : List Column) → r ≡ column_place name columns → IfSome r (λ i. i < length columns)
place_bound r name columns e =
    let P : Option ℕ → Type 0 = λ x. IfSome x (λ i. i < length columns) in
    let k = position_or_len (λ (c : Column). pointwise ◌==◌ c.name name) columns in
    subst P (sym e) (below (nat_lt k (length columns)) k (length columns) refl)
