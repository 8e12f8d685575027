-- Columns that compare alike are the same.
use Rattle.std.proofs.Common.{◌≡◌, ℕ, true, List, Decides, arith, eq-eqb, refl, rules}
use Rattle.std.specs.Cmp.Lexicographic.{pointwise_decides}
use Rattle.std.proofs.lemmas.Bool.{eqb-true}
use Rattle.values.specs.declared.value.Kind.{Kind}
use Rattle.values.specs.declared.value.Kind.TheVariants as kind
use Rattle.values.specs.Name.{same_name}
use Rattle.sql_tree.specs.Rows.{same_kind}
use Rattle.sql_tree.specs.declared.statement.Column.{Column}
use Rattle.rql.specs.Columns.{same_column, same_columns}

name_decides : (a b : List ℕ) → Decides (same_name a b) (a ≡ b)
name_decides = pointwise_decides (λ (x y : ℕ). (eqb-true x y, eq-eqb x y))

kind_is : (a b : Kind) → same_kind a b ≡ true → a ≡ b
kind_is kind.Int kind.Int e = refl
kind_is kind.Int kind.Text e = absurd cc
kind_is kind.Text kind.Int e = absurd cc
kind_is kind.Text kind.Text e = refl

kind_same : (a : Kind) → same_kind a a ≡ true
kind_same kind.Int = refl
kind_same kind.Text = refl

column_is : (a b : Column) → same_column a b ≡ true → a ≡ b
column_is a b e =
    let named = (name_decides a.name b.name).0 (search rules) in
    let kinded = kind_is a.kind b.kind (search rules) in
    search rules

column_same : (a b : Column) → a ≡ b → same_column a b ≡ true
column_same a b e = rw e (grind (arith, (name_decides b.name b.name).1 refl, kind_same b.kind))

pub columns_are : (a b : List Column) → same_columns a b ≡ true → a ≡ b
columns_are a b = (pointwise_decides (λ (x y : Column). (column_is x y, column_same x y)) a b).0
