-- Where a condition is true, the column's value lies within the bounds that it sets.
use Rattle.std.proofs.Common.{◌≡◌, ◌∙◌, ◌==◌, ◌&&◌, ℕ, Bool, true, false, not, cond, Option, Some, None, List, Result, Ok, Err, refl, sym, ap}
use Rattle.std.specs.Prelude.{slice_get}
use Rattle.std.specs.Ordering.{is_gt, is_lt, ordering_reverse}
use Rattle.std.specs.declared.cmp.Ordering.{Ordering}
use Rattle.std.specs.declared.cmp.Ordering.TheVariants as order
use Rattle.std.proofs.lemmas.Bool.{eqb-true}
use Rattle.retro_base.specs.Gives.{◌>>=◌}
use Rattle.retro_base.specs.declared.refusal.Refusal.{Refusal}
use Rattle.values.specs.declared.value.Value.{Value}
use Rattle.values.specs.declared.value.Value.TheVariants.{Int, Text}
use Rattle.values.specs.Value.{kind_of, value_cmp}
use Rattle.values.proofs.Orders.{value_total}
use Rattle.sql_tree.specs.declared.condition.Comparison.{Comparison}
use Rattle.sql_tree.specs.declared.condition.Comparison.TheVariants.{Equal, NotEqual, Less, AtMost, Greater, AtLeast}
use Rattle.sql_tree.specs.declared.condition.Operand.{Operand}
use Rattle.sql_tree.specs.declared.condition.Operand.TheVariants as operand
use Rattle.sql_tree.specs.declared.name.ColumnName.{ColumnName}
use Rattle.sql_tree.specs.declared.schema.TableSchema.{TableSchema}
use Rattle.sql_tree.specs.Condition.{ConditionTree, Compare, Not, And, Or}
use Rattle.sql_tree.specs.Evaluation.{agrees, compared, is_true, found_value, value_at}
use Rattle.sql_tree.specs.Rows.{same_kind}
use Rattle.sql_tree.specs.Scope.{place_of}
use Rattle.sql_exec.specs.declared.bounds.BoundColumn.{BoundColumn}
use Rattle.sql_exec.specs.declared.bounds.Bounds.{Bounds}
use Rattle.sql_exec.specs.Laws.{BoundsHold}
use Rattle.sql_exec.specs.Bounds.{bounds_of, bounds_set, column_bounds, compared_bounds, higher, is_at, is_below, is_within, lower, narrower, reaches, stays_under, turned, unbounded}

-- both of two tests passed
pub both : (a b : Bool) → a && b ≡ true → (a ≡ true) × (b ≡ true)
both true b e = (refl, e)
both false b e = let no : ⊥ = cc in absurd no

-- what an order says within the bounds that a comparison sets
abbrev within-order : Comparison → Ordering → Bool
within-order Equal o = not (is_lt o) && not (is_gt o)
within-order NotEqual o = true
within-order Less o = not (is_gt o)
within-order AtMost o = not (is_gt o)
within-order Greater o = not (is_lt o) && true
within-order AtLeast o = not (is_lt o) && true

agrees-within : (c : Comparison) (o : Ordering) → agrees c o ≡ true → within-order c o ≡ true
agrees-within Equal order.Less e = let no : ⊥ = cc in absurd no
agrees-within Equal order.Equal e = refl
agrees-within Equal order.Greater e = let no : ⊥ = cc in absurd no
agrees-within NotEqual o e = refl
agrees-within Less order.Less e = refl
agrees-within Less order.Equal e = let no : ⊥ = cc in absurd no
agrees-within Less order.Greater e = let no : ⊥ = cc in absurd no
agrees-within AtMost order.Less e = refl
agrees-within AtMost order.Equal e = refl
agrees-within AtMost order.Greater e = let no : ⊥ = cc in absurd no
agrees-within Greater order.Less e = let no : ⊥ = cc in absurd no
agrees-within Greater order.Equal e = let no : ⊥ = cc in absurd no
agrees-within Greater order.Greater e = refl
agrees-within AtLeast order.Less e = let no : ⊥ = cc in absurd no
agrees-within AtLeast order.Equal e = refl
agrees-within AtLeast order.Greater e = refl

-- a comparison with its sides exchanged
agrees-turned : (c : Comparison) (o : Ordering) → agrees (turned c) (ordering_reverse o) ≡ agrees c o
agrees-turned Equal order.Less = refl
agrees-turned Equal order.Equal = refl
agrees-turned Equal order.Greater = refl
agrees-turned NotEqual order.Less = refl
agrees-turned NotEqual order.Equal = refl
agrees-turned NotEqual order.Greater = refl
agrees-turned Less order.Less = refl
agrees-turned Less order.Equal = refl
agrees-turned Less order.Greater = refl
agrees-turned AtMost order.Less = refl
agrees-turned AtMost order.Equal = refl
agrees-turned AtMost order.Greater = refl
agrees-turned Greater order.Less = refl
agrees-turned Greater order.Equal = refl
agrees-turned Greater order.Greater = refl
agrees-turned AtLeast order.Less = refl
agrees-turned AtLeast order.Equal = refl
agrees-turned AtLeast order.Greater = refl

bounds-order : (c : Comparison) (value bound : Value) → within-order c (value_cmp value bound) ≡ true → is_within (bounds_set c bound) value ≡ true
bounds-order Equal value bound e = e
bounds-order NotEqual value bound e = refl
bounds-order Less value bound e = e
bounds-order AtMost value bound e = e
bounds-order Greater value bound e = e
bounds-order AtLeast value bound e = e

compared-agrees : (c : Comparison) (a b : Value) → compared c a b ≡ Ok true → agrees c (value_cmp a b) ≡ true
compared-agrees c (Int m) (Int n) e = cc e
compared-agrees c (Text s) (Text t) e = cc e
compared-agrees c (Int m) (Text t) e = let no : ⊥ = cc in absurd no
compared-agrees c (Text s) (Int n) e = let no : ⊥ = cc in absurd no

set-within : (c : Comparison) (value bound : Value) → compared c value bound ≡ Ok true → is_within (bounds_set c bound) value ≡ true
set-within c value bound e = bounds-order c value bound (agrees-within c (value_cmp value bound) (compared-agrees c value bound e))

set-turned : (c : Comparison) (value bound : Value) → compared c bound value ≡ Ok true → is_within (bounds_set (turned c) bound) value ≡ true
set-turned c value bound e =
    bounds-order (turned c) value bound (agrees-within (turned c) (value_cmp value bound)
    (ap (agrees (turned c)) (value_total.antisymm value bound) ∙ agrees-turned c (value_cmp bound value) ∙ compared-agrees c bound value e))

-- the narrower of two bounds
reaches-higher : (a b : Option Value) (value : Value) → reaches a value ≡ true → reaches b value ≡ true → reaches (higher a b) value ≡ true
reaches-higher None b value p q = q
reaches-higher (Some a) None value p q = p
reaches-higher (Some a) (Some b) value p q = go (is_below a b)
  where
    go : (t : Bool) → reaches (Some (cond t b a)) value ≡ true
    go true = q
    go false = p

stays-lower : (a b : Option Value) (value : Value) → stays_under a value ≡ true → stays_under b value ≡ true → stays_under (lower a b) value ≡ true
stays-lower None b value p q = q
stays-lower (Some a) None value p q = p
stays-lower (Some a) (Some b) value p q = go (is_below b a)
  where
    go : (t : Bool) → stays_under (Some (cond t b a)) value ≡ true
    go true = q
    go false = p

within-narrower : (a b : Bounds) (value : Value) → is_within a value ≡ true → is_within b value ≡ true → is_within (narrower a b) value ≡ true
within-narrower a b value p q =
    let one = both (reaches a.low value) (stays_under a.high value) p in
    let two = both (reaches b.low value) (stays_under b.high value) q in
    ap (λ (t : Bool). t && stays_under (lower a.high b.high) value) (reaches-higher a.low b.low value one.0 two.0) ∙ stays-lower a.high b.high value one.1 two.1

-- what was worked out on both sides
two-true : (a b : Result Bool Refusal) → (a >>= (λ (x : Bool). b >>= (λ (y : Bool). Ok (x && y)))) ≡ Ok true → (a ≡ Ok true) × (b ≡ Ok true)
two-true (Ok true) (Ok true) e = (refl, refl)
two-true (Ok true) (Ok false) e = let no : ⊥ = cc in absurd no
two-true (Ok false) (Ok y) e = let no : ⊥ = cc in absurd no
two-true (Ok x) (Err why) e = let no : ⊥ = cc in absurd no
two-true (Err why) b e = let no : ⊥ = cc in absurd no

module _ (scope : List TableSchema) (snapshot : Option ℕ) (row : List Value) (column : BoundColumn) (value : Value) (stands : slice_get row column.place ≡ Some value) where
  -- the named column's value
  named : (place : Option ℕ) (bound : Value) → is_at column place bound ≡ true → found_value (value_at row place) ≡ Ok value
  named None bound e = let no : ⊥ = cc in absurd no
  named (Some place) bound e =
      let same = eqb-true place column.place (both (place == column.place) (same_kind (kind_of bound) column.kind) e).0 in
      ap (λ (p : ℕ). found_value (slice_get row p)) same ∙ ap found_value stands

  column-within : (name : ColumnName) (c : Comparison) (bound : Value) → (found_value (value_at row (place_of scope name)) ≡ Ok value → is_within (bounds_set c bound) value ≡ true) → is_within (column_bounds scope column name c bound) value ≡ true
  column-within name c bound follows = go (is_at column (place_of scope name) bound) refl
    where
      go : (t : Bool) → is_at column (place_of scope name) bound ≡ t → is_within (cond t (bounds_set c bound) unbounded) value ≡ true
      go true e = follows (named (place_of scope name) bound e)
      go false e = refl

  compared-within : (left : Operand) (c : Comparison) (right : Operand) → is_true scope snapshot row (Compare left c right) ≡ Ok true → is_within (compared_bounds scope column left c right) value ≡ true
  compared-within (operand.Column name) c (operand.Literal bound) e =
      column-within name c bound (λ is. set-within c value bound (sym (ap (λ (r : Result Value Refusal). r >>= (λ (x : Value). compared c x bound)) is) ∙ e))
  compared-within (operand.Literal bound) c (operand.Column name) e =
      column-within name (turned c) bound (λ is. set-turned c value bound (sym (ap (λ (r : Result Value Refusal). r >>= (λ (y : Value). compared c bound y)) is) ∙ e))
  compared-within (operand.Column name) c (operand.Column other) e = refl
  compared-within (operand.Column name) c operand.CurrentSnapshot e = refl
  compared-within (operand.Literal a) c (operand.Literal b) e = refl
  compared-within (operand.Literal a) c operand.CurrentSnapshot e = refl
  compared-within operand.CurrentSnapshot c (operand.Column name) e = refl
  compared-within operand.CurrentSnapshot c (operand.Literal b) e = refl
  compared-within operand.CurrentSnapshot c operand.CurrentSnapshot e = refl

  -- where a condition is true, the column's value lies within its bounds
  pub true-within : (condition : ConditionTree) → is_true scope snapshot row condition ≡ Ok true → is_within (bounds_of scope column condition) value ≡ true
  true-within (Compare left c right) e = compared-within left c right e
  true-within (Not a) e = refl
  true-within (Or a b) e = refl
  true-within (And a b) e =
      let true_both = two-true (is_true scope snapshot row a) (is_true scope snapshot row b) e in
      within-narrower (bounds_of scope column a) (bounds_of scope column b) value (true-within a true_both.0) (true-within b true_both.1)

pub bounds_hold : BoundsHold
bounds_hold scope snapshot row column value condition stands holds = true-within scope snapshot row column value stands condition holds
