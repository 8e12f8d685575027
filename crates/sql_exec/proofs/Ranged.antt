-- The range that is planned: its values are of one kind, and each row for which the condition holds lies in it.
use Rattle.std.proofs.Common.{◌≡◌, ◌≢◌, ◌⊎◌, ◌∙◌, ◌≤◌, ◌<ℤ◌, ◌^◌, ◌-◌, ◌&&◌, ℕ, zero, suc, ℤ, pos, negsuc, Bool, true, false, not, cond, Option, Some, None, List, [], ◌∷◌, length, replicate, Ok, inl, inr, refl, sym, ap, subst, arith}
use Rattle.std.specs.Prelude.{slice_get}
use Rattle.std.specs.Cmp.{int_ranks, nat_cmp_is}
use Rattle.std.specs.Cmp.Lexicographic.{slice_cmp}
use Rattle.std.specs.Int.{w64}
use Rattle.std.specs.Int.RustNames.{FitsSigned}
use Rattle.std.specs.List.{AllByRecursion, Contains, cons_option, filter_map, find}
use Rattle.std.specs.Option.{option_or}
use Rattle.std.specs.Ordering.{MatchOrdering, int_cmp, is_gt, is_lt, nat_cmp, ordering_then}
use Rattle.std.specs.declared.cmp.Ordering.{Ordering}
use Rattle.std.specs.declared.cmp.Ordering.TheVariants as order
use Rattle.std.proofs.Math.Dec.{eqb}
use Rattle.std.proofs.Math.Facts.{ltb_yes}
use Rattle.std.proofs.lemmas.Bool.Decides.{eqb_tells}
use Rattle.std.proofs.lemmas.List.{length-replicate}
use Rattle.values.specs.Text.{IsPrintable, IsText}
use Rattle.values.specs.declared.text.TheConstants.{TEXT_BYTES}
use Rattle.values.specs.Value.{kind_of}
use Rattle.values.specs.declared.value.Kind.{Kind}
use Rattle.values.specs.declared.value.Kind.TheVariants as kind
use Rattle.values.specs.declared.value.Value.{Value}
use Rattle.values.specs.declared.value.Value.TheVariants.{Int, Text}
use Rattle.sql_tree.specs.declared.condition.Comparison.{Comparison}
use Rattle.sql_tree.specs.declared.condition.Comparison.TheVariants.{Equal, NotEqual, Less, AtMost, Greater, AtLeast}
use Rattle.sql_tree.specs.declared.condition.Operand.{Operand}
use Rattle.sql_tree.specs.declared.condition.Operand.TheVariants as operand
use Rattle.sql_tree.specs.declared.name.ColumnName.{ColumnName}
use Rattle.sql_tree.specs.declared.schema.TableSchema.{TableSchema}
use Rattle.sql_tree.specs.declared.statement.Column.{Column}
use Rattle.sql_tree.specs.Condition.{ConditionTree, Compare, Not, And, Or}
use Rattle.sql_tree.specs.Evaluation.{is_true}
use Rattle.sql_tree.specs.Rows.{fits, same_kind}
use Rattle.sql_tree.specs.Scope.{place_of}
use Rattle.row_codec.specs.RowCode.{IsValue}
use Rattle.relation_laws.specs.Laws.{value_between}
use Rattle.relation_laws.proofs.Lists.{contains-cons, contains-head}
use Rattle.sql_exec.specs.declared.bounds.BoundColumn.{BoundColumn}
use Rattle.sql_exec.specs.declared.bounds.Bounds.{Bounds}
use Rattle.sql_exec.specs.declared.ranges.Range.{Range}
use Rattle.relation.specs.declared.catalog.StoredIndex.{StoredIndex}
use Rattle.sql_exec.specs.Bounds.{bounds_of, bounds_set, column_bounds, compared_bounds, higher, is_at, is_below, is_of, lower, reaches, stays_under, turned, unbounded}
use Rattle.sql_exec.specs.Ranges.{best_of, better, greatest, holds_one, least, plan_of, range_at, range_over, range_within}
use Rattle.sql_exec.proofs.Within.{both, true-within}

-- ---- the longest text of the greatest byte

tildes-printable : (n : ℕ) → AllByRecursion IsPrintable (replicate n 126)
tildes-printable zero = tt
tildes-printable (suc n) = ((omega arith, omega arith), tildes-printable n)

tilde : ℕ
tilde = 126

pub tildes_text : IsText (replicate TEXT_BYTES 126)
tildes_text = (omega (arith, length-replicate TEXT_BYTES tilde), tildes-printable TEXT_BYTES)

-- ---- kinds

abbrev OfKind : Kind → Option Value → Type 0
OfKind k None = Unit {0}
OfKind k (Some value) = kind_of value ≡ k

abbrev BoundsOf : Kind → Bounds → Type 0
BoundsOf k bounds = OfKind k bounds.low × OfKind k bounds.high

same-is : (a b : Kind) → same_kind a b ≡ true → a ≡ b
same-is kind.Int kind.Int e = refl
same-is kind.Int kind.Text e = cc
same-is kind.Text kind.Int e = cc
same-is kind.Text kind.Text e = refl

set-kind : (c : Comparison) (value : Value) (k : Kind) → kind_of value ≡ k → BoundsOf k (bounds_set c value)
set-kind Equal value k e = (e, e)
set-kind NotEqual value k e = (tt, tt)
set-kind Less value k e = (tt, e)
set-kind AtMost value k e = (tt, e)
set-kind Greater value k e = (e, tt)
set-kind AtLeast value k e = (e, tt)

higher-kind : (a b : Option Value) (k : Kind) → OfKind k a → OfKind k b → OfKind k (higher a b)
higher-kind None b k p q = q
higher-kind (Some a) None k p q = p
higher-kind (Some a) (Some b) k p q = go (is_below a b)
  where
    go : (t : Bool) → OfKind k (Some (cond t b a))
    go true = q
    go false = p

lower-kind : (a b : Option Value) (k : Kind) → OfKind k a → OfKind k b → OfKind k (lower a b)
lower-kind None b k p q = q
lower-kind (Some a) None k p q = p
lower-kind (Some a) (Some b) k p q = go (is_below b a)
  where
    go : (t : Bool) → OfKind k (Some (cond t b a))
    go true = q
    go false = p

module _ (scope : List TableSchema) (column : BoundColumn) where
  at-kind : (place : Option ℕ) (value : Value) → is_at column place value ≡ true → kind_of value ≡ column.kind
  at-kind None value e = let no : ⊥ = cc in absurd no
  at-kind (Some place) value e = same-is (kind_of value) column.kind (both _ (same_kind (kind_of value) column.kind) e).1

  column-kind : (name : ColumnName) (c : Comparison) (value : Value) → BoundsOf column.kind (column_bounds scope column name c value)
  column-kind name c value = go (is_of scope column name value) refl
    where
      go : (t : Bool) → is_of scope column name value ≡ t → BoundsOf column.kind (cond t (bounds_set c value) unbounded)
      go true e = set-kind c value column.kind (at-kind (place_of scope name) value e)
      go false e = (tt, tt)

  compared-kind : (left : Operand) (c : Comparison) (right : Operand) → BoundsOf column.kind (compared_bounds scope column left c right)
  compared-kind (operand.Column name) c (operand.Literal value) = column-kind name c value
  compared-kind (operand.Literal value) c (operand.Column name) = column-kind name (turned c) value
  compared-kind (operand.Column name) c (operand.Column other) = (tt, tt)
  compared-kind (operand.Column name) c operand.CurrentSnapshot = (tt, tt)
  compared-kind (operand.Literal a) c (operand.Literal b) = (tt, tt)
  compared-kind (operand.Literal a) c operand.CurrentSnapshot = (tt, tt)
  compared-kind operand.CurrentSnapshot c (operand.Column name) = (tt, tt)
  compared-kind operand.CurrentSnapshot c (operand.Literal b) = (tt, tt)
  compared-kind operand.CurrentSnapshot c operand.CurrentSnapshot = (tt, tt)

  -- bounds are of the column's kind
  bounds-kind : (condition : ConditionTree) → BoundsOf column.kind (bounds_of scope column condition)
  bounds-kind (Compare left c right) = compared-kind left c right
  bounds-kind (Not a) = (tt, tt)
  bounds-kind (Or a b) = (tt, tt)
  bounds-kind (And a b) =
      let one = bounds-kind a in
      let two = bounds-kind b in
      (higher-kind (bounds_of scope column a).low (bounds_of scope column b).low column.kind one.0 two.0, lower-kind (bounds_of scope column a).high (bounds_of scope column b).high column.kind one.1 two.1)

least-kind : (k : Kind) → kind_of (least k) ≡ k
least-kind kind.Int = refl
least-kind kind.Text = refl

greatest-kind : (k : Kind) → kind_of (greatest k) ≡ k
greatest-kind kind.Int = refl
greatest-kind kind.Text = refl

-- a range of one of the indexes, over a column of the table, from a value of its kind to another
pub record IsPlanned (table : TableSchema) (indexes : List StoredIndex) (range : Range) : Type 0 where
  pub among : Contains indexes range.index
  pub column : Column
  pub stands : slice_get table.columns range.index.place ≡ Some column
  pub low : kind_of range.low ≡ column.kind
  pub high : kind_of range.high ≡ column.kind

abbrev Planned : TableSchema → List StoredIndex → Option Range → Type 0
Planned table indexes None = Unit {0}
Planned table indexes (Some range) = IsPlanned table indexes range

within-planned : (table : TableSchema) (indexes : List StoredIndex) (index : StoredIndex) (column : Column) → Contains indexes index → slice_get table.columns index.place ≡ Some column → (low high : Option Value) → OfKind column.kind low → OfKind column.kind high → Planned table indexes (range_within index column.kind low high)
within-planned table indexes index column among stands None None p q = tt
within-planned table indexes index column among stands None (Some high) p q = record { among = among; column = column; stands = stands; low = least-kind column.kind; high = q }
within-planned table indexes index column among stands (Some low) None p q = record { among = among; column = column; stands = stands; low = p; high = greatest-kind column.kind }
within-planned table indexes index column among stands (Some low) (Some high) p q = record { among = among; column = column; stands = stands; low = p; high = q }

at-planned : (table : TableSchema) (condition : ConditionTree) (indexes : List StoredIndex) (index : StoredIndex) → Contains indexes index → (column : Option Column) → slice_get table.columns index.place ≡ column → Planned table indexes (range_at table condition index column)
at-planned table condition indexes index among None stands = tt
at-planned table condition indexes index among (Some column) stands =
    let key : BoundColumn = record { place = index.place; kind = column.kind } in
    let kinds = bounds-kind (table ∷ []) key condition in
    within-planned table indexes index column among stands (bounds_of (table ∷ []) key condition).low (bounds_of (table ∷ []) key condition).high kinds.0 kinds.1

better-all : (P : Option Range → Type 0) (a b : Option Range) → P a → P b → P (better a b)
better-all P None b p q = q
better-all P (Some a) None p q = p
better-all P (Some a) (Some b) p q = go (holds_one b && not (holds_one a))
  where
    go : (t : Bool) → P (Some (cond t b a))
    go true = q
    go false = p

-- the best range so far, and of those that come
abbrev pub best_behind : TableSchema → ConditionTree → Option Range → List StoredIndex → Option Range
best_behind table condition best [] = best
best_behind table condition best (index ∷ indexes) = best_behind table condition (better best (range_over table condition index)) indexes

-- of two ranges in front the better one counts
best-front : (best next : Option Range) (ranges : List Range) → best_of (cons_option (better best next) ranges) ≡ best_of (cons_option best (cons_option next ranges))
best-front None next ranges = refl
best-front (Some a) None ranges = refl
best-front (Some a) (Some b) ranges = go (holds_one a) (holds_one b) refl refl
  where
    -- the better one, by whether it is the second
    better_is : (t : Bool) → holds_one b && not (holds_one a) ≡ t → best_of (cond (holds_one b && not (holds_one a)) b a ∷ ranges) ≡ best_of (cond t b a ∷ ranges)
    better_is t e = ap (λ (t : Bool). best_of (cond t b a ∷ ranges)) e

    one : (r : Range) (x : Bool) → holds_one r ≡ x → best_of (r ∷ ranges) ≡ option_or (cond x (Some r) (find holds_one ranges)) (Some r)
    one r x e = ap (λ (t : Bool). option_or (cond t (Some r) (find holds_one ranges)) (Some r)) e

    two : (x y : Bool) → holds_one a ≡ x → holds_one b ≡ y → best_of (a ∷ b ∷ ranges) ≡ option_or (cond x (Some a) (cond y (Some b) (find holds_one ranges))) (Some a)
    two x y p q =
        ap (λ (t : Bool). option_or (cond t (Some a) (cond (holds_one b) (Some b) (find holds_one ranges))) (Some a)) p
        ∙ ap (λ (t : Bool). option_or (cond x (Some a) (cond t (Some b) (find holds_one ranges))) (Some a)) q

    not_second : (y : Bool) → y && false ≡ false
    not_second true = refl
    not_second false = refl

    go : (x y : Bool) → holds_one a ≡ x → holds_one b ≡ y → best_of (cond (holds_one b && not (holds_one a)) b a ∷ ranges) ≡ best_of (a ∷ b ∷ ranges)
    go true y p q = better_is false (ap (λ (t : Bool). holds_one b && not t) p ∙ not_second (holds_one b)) ∙ one a true p ∙ sym (two true y p q)
    go false true p q = better_is true (ap (λ (t : Bool). t && not (holds_one a)) q ∙ ap not p) ∙ one b true q ∙ sym (two false true p q)
    go false false p q = better_is false (ap (λ (t : Bool). t && not (holds_one a)) q) ∙ one a false p ∙ sym (two false false p q)

best-all-of : (table : TableSchema) (condition : ConditionTree) (best : Option Range) (indexes : List StoredIndex) → best_behind table condition best indexes ≡ best_of (cons_option best (filter_map (range_over table condition) indexes))
best-all-of table condition None [] = refl
best-all-of table condition (Some a) [] = go (holds_one a) refl
  where
    go : (x : Bool) → holds_one a ≡ x → Some a ≡ best_of (a ∷ [])
    go true p = rw p refl
    go false p = rw p refl
best-all-of table condition best (index ∷ indexes) =
    best-all-of table condition (better best (range_over table condition index)) indexes
    ∙ best-front best (range_over table condition index) (filter_map (range_over table condition) indexes)

pub best_is : (table : TableSchema) (condition : ConditionTree) (indexes : List StoredIndex) → best_behind table condition None indexes ≡ best_of (filter_map (range_over table condition) indexes)
best_is table condition indexes = best-all-of table condition None indexes

-- what holds of the range of each index holds of the best one
best-behind : (P : Option Range → Type 0) (table : TableSchema) (condition : ConditionTree) (indexes : List StoredIndex) (best : Option Range) → ((index : StoredIndex) → Contains indexes index → P (range_over table condition index)) → P best → P (best_behind table condition best indexes)
best-behind P table condition [] best each p = p
best-behind P table condition (index ∷ indexes) best each p =
    best-behind P table condition indexes (better best (range_over table condition index)) (λ other has. each other (contains-cons other index indexes has)) (better-all P best (range_over table condition index) p (each index (contains-head index indexes)))

best-all : (P : Option Range → Type 0) (table : TableSchema) (condition : ConditionTree) (indexes : List StoredIndex) → ((index : StoredIndex) → Contains indexes index → P (range_over table condition index)) → P None → P (best_of (filter_map (range_over table condition) indexes))
best-all P table condition indexes each none = subst P (best_is table condition indexes) (best-behind P table condition indexes None each none)

pub plan-planned : (table : TableSchema) (indexes : List StoredIndex) (condition : Option ConditionTree) (range : Range) → plan_of table indexes condition ≡ Some range → IsPlanned table indexes range
plan-planned table indexes None range e = let no : ⊥ = cc in absurd no
plan-planned table indexes (Some condition) range e =
    subst (Planned table indexes) e (best-all (Planned table indexes) table condition indexes (λ index among. at-planned table condition indexes index among (slice_get table.columns index.place) refl) tt)

pub plan_kind : (table : TableSchema) (indexes : List StoredIndex) (condition : Option ConditionTree) (range : Range) → plan_of table indexes condition ≡ Some range → kind_of range.low ≡ kind_of range.high
plan_kind table indexes condition range e =
    let planned = plan-planned table indexes condition range e in
    planned.low ∙ sym planned.high

-- ---- each value lies from the least to the greatest of its kind

then-not-above : (o r : Ordering) → is_gt o ≡ false → is_gt r ≡ false → is_gt (ordering_then o r) ≡ false
then-not-above order.Less r p q = refl
then-not-above order.Equal r p q = q
then-not-above order.Greater r p q = p

byte-not-above : (b : ℕ) → b ≤ 126 → is_gt (nat_cmp b 126) ≡ false
byte-not-above b few = go (eqb_tells b 126)
  where
    go : ((eqb b 126 ≡ true) × (b ≡ 126)) ⊎ ((eqb b 126 ≡ false) × (b ≢ 126)) → is_gt (nat_cmp b 126) ≡ false
    go (inl same) = ap is_gt (sym (nat_cmp_is b 126 order.Equal same.1))
    go (inr differ) = ap is_gt (sym (nat_cmp_is b 126 order.Less (omega (arith, few, differ.1))))

not-above : (t : List ℕ) (n : ℕ) → AllByRecursion IsPrintable t → length t ≤ n → is_gt (slice_cmp nat_cmp t (replicate n 126)) ≡ false
not-above [] zero all few = refl
not-above [] (suc n) all few = refl
not-above (b ∷ t) zero all few = absurd (omega (arith, few))
not-above (b ∷ t) (suc n) all few = then-not-above (nat_cmp b 126) (slice_cmp nat_cmp t (replicate n 126)) (byte-not-above b all.0.1) (not-above t n all.1 (omega (arith, few)))

number-above : (n : ℤ) → FitsSigned w64 n → is_gt (int_cmp n (pos (2 ^ 63 - 1))) ≡ false
number-above (negsuc m) allowed = refl
number-above (pos m) allowed = go (int_cmp (pos m) (pos (2 ^ 63 - 1))) (int_ranks (pos m) (pos (2 ^ 63 - 1)))
  where
    go : (o : Ordering) → MatchOrdering o (pos m <ℤ pos (2 ^ 63 - 1)) (pos m ≡ pos (2 ^ 63 - 1)) (pos (2 ^ 63 - 1) <ℤ pos m) → is_gt o ≡ false
    go order.Less h = refl
    go order.Equal h = refl
    go order.Greater h = absurd (omega (arith, ltb_yes h.lt, allowed))

number-below : (n : ℤ) → FitsSigned w64 n → is_lt (int_cmp n (negsuc (2 ^ 63 - 1))) ≡ false
number-below (pos m) allowed = refl
number-below (negsuc m) allowed = go (int_cmp (negsuc m) (negsuc (2 ^ 63 - 1))) (int_ranks (negsuc m) (negsuc (2 ^ 63 - 1)))
  where
    go : (o : Ordering) → MatchOrdering o (negsuc m <ℤ negsuc (2 ^ 63 - 1)) (negsuc m ≡ negsuc (2 ^ 63 - 1)) (negsuc (2 ^ 63 - 1) <ℤ negsuc m) → is_lt o ≡ false
    go order.Less h = absurd (omega (arith, ltb_yes h.lt, allowed))
    go order.Equal h = refl
    go order.Greater h = refl

under-greatest : (k : Kind) (value : Value) → kind_of value ≡ k → IsValue value → stays_under (Some (greatest k)) value ≡ true
under-greatest kind.Int (Int n) e allowed = ap not (number-above n allowed)
under-greatest kind.Int (Text t) e allowed = let no : ⊥ = cc in absurd no
under-greatest kind.Text (Int n) e allowed = let no : ⊥ = cc in absurd no
under-greatest kind.Text (Text t) e allowed = ap not (not-above t TEXT_BYTES allowed.1 allowed.0)

reaches-least : (k : Kind) (value : Value) → kind_of value ≡ k → IsValue value → reaches (Some (least k)) value ≡ true
reaches-least kind.Int (Int n) e allowed = ap not (number-below n allowed)
reaches-least kind.Int (Text t) e allowed = let no : ⊥ = cc in absurd no
reaches-least kind.Text (Int n) e allowed = let no : ⊥ = cc in absurd no
reaches-least kind.Text (Text []) e allowed = refl
reaches-least kind.Text (Text (b ∷ t)) e allowed = refl

-- ---- the rows that are read

-- whether a row's value in the column of an index lies in a range
abbrev pub lies_in : Range → List Value → Bool
lies_in range row = value_between range.low range.high (slice_get row range.index.place)

-- a row that fits has at each place a value of the column's kind
fits-at : (columns : List Column) (row : List Value) (place : ℕ) (column : Column) → fits columns row ≡ true → AllByRecursion IsValue row → slice_get columns place ≡ Some column → (value : Value) × (slice_get row place ≡ Some value) × (kind_of value ≡ column.kind) × IsValue value
fits-at [] row place column fit all e = let no : ⊥ = cc in absurd no
fits-at (c ∷ columns) [] place column fit all e = let no : ⊥ = cc in absurd no
fits-at (c ∷ columns) (v ∷ row) zero column fit all e =
    let here = both (same_kind c.kind (kind_of v)) (fits columns row) fit in
    let same : c ≡ column = cc e in
    (v, refl, sym (same-is c.kind (kind_of v) here.0) ∙ ap (λ (x : Column). x.kind) same, all.0)
fits-at (c ∷ columns) (v ∷ row) (suc place) column fit all e =
    let here = both (same_kind c.kind (kind_of v)) (fits columns row) fit in
    fits-at columns row place column here.1 all.1 e

module _ (table : TableSchema) (snapshot : Option ℕ) (row : List Value) (fit : fits table.columns row ≡ true) (all : AllByRecursion IsValue row) (condition : ConditionTree) (holds : is_true (table ∷ []) snapshot row condition ≡ Ok true) where
  abbrev LiesIn : Option Range → Type 0
  LiesIn None = Unit {0}
  LiesIn (Some range) = lies_in range row ≡ true

  within-lies : (index : StoredIndex) (k : Kind) (value : Value) → slice_get row index.place ≡ Some value → kind_of value ≡ k → IsValue value → (low high : Option Value) → reaches low value ≡ true → stays_under high value ≡ true → LiesIn (range_within index k low high)
  within-lies index k value stands of allowed None None p q = tt
  within-lies index k value stands of allowed None (Some high) p q =
      ap (value_between (least k) high) stands ∙ ap (λ (t : Bool). t && stays_under (Some high) value) (reaches-least k value of allowed) ∙ q
  within-lies index k value stands of allowed (Some low) None p q =
      ap (value_between low (greatest k)) stands ∙ ap (λ (t : Bool). t && stays_under (Some (greatest k)) value) p ∙ under-greatest k value of allowed
  within-lies index k value stands of allowed (Some low) (Some high) p q =
      ap (value_between low high) stands ∙ ap (λ (t : Bool). t && stays_under (Some high) value) p ∙ q

  at-lies : (index : StoredIndex) (column : Option Column) → slice_get table.columns index.place ≡ column → LiesIn (range_at table condition index column)
  at-lies index None e = tt
  at-lies index (Some column) e =
      let key : BoundColumn = record { place = index.place; kind = column.kind } in
      let bounds = bounds_of (table ∷ []) key condition in
      let found = fits-at table.columns row index.place column fit all e in
      let inside = both (reaches bounds.low found.0) (stays_under bounds.high found.0) (true-within (table ∷ []) snapshot row key found.0 found.1 condition holds) in
      within-lies index column.kind found.0 found.1 found.2 found.3 bounds.low bounds.high inside.0 inside.1

  -- a row for which the condition holds lies in the range that is planned
  pub lies-planned : (indexes : List StoredIndex) (range : Range) → plan_of table indexes (Some condition) ≡ Some range → lies_in range row ≡ true
  lies-planned indexes range e = subst LiesIn e (best-all LiesIn table condition indexes (λ index among. at-lies index (slice_get table.columns index.place) refl) tt)
