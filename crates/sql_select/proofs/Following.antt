-- What follows from the meaning of a select.
use Rattle.std.proofs.Common.{◌≡◌, ◌∙◌, ◌≤◌, ℕ, Bool, true, false, not, ◌||◌, List, [], ◌∷◌, ◌++◌, map, fold, length, drop, Option, Some, None, Ok, refl, sym, ap, subst, arith, append_assoc, append-nil}
use Rattle.std.specs.Cmp.{IsEquivalence, IsStrictWeakOrder}
use Rattle.std.specs.List.{AllByRecursion, IsDistinct, filter, list_any}
use Rattle.std.specs.List.Sorted.{IsPermutation}
use Rattle.std.specs.Ordering.{is_lt, ord_min}
use Rattle.std.proofs.lemmas.List.{take-append-drop}
use Rattle.std.proofs.lemmas.List.Folds.{list_any-append}
use Rattle.std.proofs.lemmas.List.Sorted.{IsPermutation-refl, IsPermutation-cons, IsPermutation-middle, IsPermutation-trans, ranks_by}
use Rattle.values.proofs.Orders.{value_total}
use Rattle.values.specs.Value.{value_cmp}
use Rattle.values.specs.declared.value.Value.{Value}
use Rattle.sql_tree.specs.declared.schema.TableSchema.{TableSchema}
use Rattle.sql_tree.specs.declared.select.SelectList.TheVariants.{All as star}
use Rattle.sql_select.specs.Each.{each}
use Rattle.sql_select.specs.Groups.{firsts, keys_of, rows_of_key, same_outputs}
use Rattle.sql_select.specs.Laws.{DistinctLeavesOne, GroupsAreNotEmpty, IsLeast, LimitGivesAFront, MinIsLeast, OrderKeepsRows, StarGivesRows}
use Rattle.sql_select.specs.Order.{keys_cmp, ordered, placed}
use Rattle.sql_select.specs.Rows.{holds_at, joined_rows, kept}
use Rattle.sql_select.specs.Same.{same_row, same_value}
use Rattle.sql_select.specs.SameOutputs.{same_outputs_equiv}
use Rattle.sql_select.specs.Sameness.{same_row_equiv, same_value_equiv}
use Rattle.sql_select.specs.Select.{outputs_of, row_of_row}
use Rattle.sql_select.specs.declared.grouping.KeyedRow.{KeyedRow}
use Rattle.sql_select.specs.declared.output_row.OutputRow.{OutputRow}
use Rattle.sql_select.proofs.Firsts.{all_filter, any_firsts, filter_no, filter_yes}
use Rattle.sql_select.proofs.InGroups.{has_key, key_of, row_of}
use Rattle.sql_select.proofs.SortKeys.{weak}
use Rattle.sql_select.proofs.Sorting.{ordered_rises, ordered_stable, rises_sorted}

-- ---- ORDER BY

module _ {X : Type 0} (before : X → X → Bool) where
  placed_by : (x y : X) (ys : List X) (b : Bool) → before y x ≡ b → IsPermutation (x ∷ ys) (placed before x ys) → IsPermutation (x ∷ y ∷ ys) (placed before x (y ∷ ys))
  placed_by x y ys true e ih =
      let P : List X → Type 0 = λ l. IsPermutation (x ∷ y ∷ ys) l in
      let there : placed before x (y ∷ ys) ≡ y ∷ placed before x ys = rw e refl in
      subst P (sym there) (IsPermutation-trans (x ∷ y ∷ ys) (y ∷ x ∷ ys) (y ∷ placed before x ys) (IsPermutation-middle (x ∷ []) y ys) (IsPermutation-cons y (x ∷ ys) (placed before x ys) ih))
  placed_by x y ys false e ih =
      let P : List X → Type 0 = λ l. IsPermutation (x ∷ y ∷ ys) l in
      let here : placed before x (y ∷ ys) ≡ x ∷ y ∷ ys = rw e refl in
      subst P (sym here) (IsPermutation-refl (x ∷ y ∷ ys))

  placed_same : (x : X) (ys : List X) → IsPermutation (x ∷ ys) (placed before x ys)
  placed_same x [] = IsPermutation-refl (x ∷ [])
  placed_same x (y ∷ ys) = placed_by x y ys (before y x) refl (placed_same x ys)

  ordered_same : (xs : List X) → IsPermutation xs (ordered before xs)
  ordered_same [] = IsPermutation-refl []
  ordered_same (x ∷ xs) =
      IsPermutation-trans (x ∷ xs) (x ∷ ordered before xs) (placed before x (ordered before xs)) (IsPermutation-cons x xs (ordered before xs) (ordered_same xs)) (placed_same x (ordered before xs))

pub order_keeps_rows : OrderKeepsRows
order_keeps_rows keys rows =
    let before : OutputRow → OutputRow → Bool = λ a b. is_lt (keys_cmp keys a b) in
    record {
      same_rows = ordered_same before rows;
      rising = rises_sorted before (ordered before rows) (ordered_rises before (weak keys) rows);
      stable = λ row. ordered_stable before (weak keys) row rows;
    }

-- ---- LIMIT

pub limit_gives_a_front : LimitGivesAFront
limit_gives_a_front None rows = ([], append-nil rows)
limit_gives_a_front (Some limit) rows = (drop limit rows, take-append-drop limit rows)

-- ---- DISTINCT

module _ {X : Type 0} (same : X → X → Bool) (o : IsEquivalence same) where
  pub all_firsts : (P : X → Type 0) (xs : List X) → AllByRecursion P xs → AllByRecursion P (firsts same xs)
  all_firsts P [] all = tt
  all_firsts P (x ∷ xs) all = (all.0, all_filter P (λ y. not (same y x)) (firsts same xs) (all_firsts P xs all.1))

  not_true : (b : Bool) → not b ≡ true → b ≡ false
  not_true true e = cc
  not_true false e = refl

  dropped_by : (x y : X) (ys : List X) (b : Bool) → not (same y x) ≡ b → AllByRecursion (λ z. same x z ≡ false) (filter (λ z. not (same z x)) ys) → AllByRecursion (λ z. same x z ≡ false) (filter (λ z. not (same z x)) (y ∷ ys))
  dropped_by x y ys true e ih =
      let Q : List X → Type 0 = λ l. AllByRecursion (λ z. same x z ≡ false) l in
      subst Q (sym (filter_yes (λ z. not (same z x)) y ys e)) (o.symm x y ∙ not_true (same y x) e, ih)
  dropped_by x y ys false e ih =
      let Q : List X → Type 0 = λ l. AllByRecursion (λ z. same x z ≡ false) l in subst Q (sym (filter_no (λ z. not (same z x)) y ys e)) ih

  dropped : (x : X) (ys : List X) → AllByRecursion (λ z. same x z ≡ false) (filter (λ z. not (same z x)) ys)
  dropped x [] = tt
  dropped x (y ∷ ys) = dropped_by x y ys (not (same y x)) refl (dropped x ys)

  apart_by : (p : X → Bool) (x : X) (xs : List X) (b : Bool) → p x ≡ b → IsDistinct same (x ∷ xs) → IsDistinct same (filter p xs) → IsDistinct same (filter p (x ∷ xs))
  unfolding IsDistinct
  apart_by p x xs true e h ih = let Q : List X → Type 0 = λ l. IsDistinct same l in subst Q (sym (filter_yes p x xs e)) (all_filter (λ y. same x y ≡ false) p xs h.0, ih)
  apart_by p x xs false e h ih = let Q : List X → Type 0 = λ l. IsDistinct same l in subst Q (sym (filter_no p x xs e)) ih

  apart_filter : (p : X → Bool) (xs : List X) → IsDistinct same xs → IsDistinct same (filter p xs)
  unfolding IsDistinct
  apart_filter p [] h = tt
  apart_filter p (x ∷ xs) h = apart_by p x xs (p x) refl h (apart_filter p xs h.1)

  firsts_apart : (xs : List X) → IsDistinct same (firsts same xs)
  unfolding IsDistinct
  firsts_apart [] = tt
  firsts_apart (x ∷ xs) = (dropped x (firsts same xs), apart_filter (λ y. not (same y x)) (firsts same xs) (firsts_apart xs))

pub distinct_leaves_one : DistinctLeavesOne
distinct_leaves_one rows = record {
  same_rows = λ row. any_firsts same_outputs same_outputs_equiv row rows;
  apart = firsts_apart same_outputs same_outputs_equiv rows;
}

-- ---- GROUP BY

or_true : (b : Bool) → (b || true) ≡ true
or_true true = refl
or_true false = refl

-- each key is the same as one of the keys
own_key : (before keys : List (List Value)) → AllByRecursion (λ key. list_any (same_row key) (before ++ keys) ≡ true) keys
own_key before [] = tt
own_key before (key ∷ keys) =
    let P : List (List Value) → Type 0 = λ l. AllByRecursion (λ k. list_any (same_row k) l ≡ true) keys in
    let here : list_any (same_row key) (key ∷ keys) ≡ true = ap (λ b. b || list_any (same_row key) keys) (same_row_equiv.refl key) in
    (list_any-append (same_row key) before (key ∷ keys) ∙ ap (λ b. list_any (same_row key) before || b) here ∙ or_true (list_any (same_row key) before), subst P (append_assoc before (key ∷ []) keys) (own_key (before ++ key ∷ []) keys))

some_by : (key : List Value) (keyed : KeyedRow) (rows : List KeyedRow) (b : Bool) → same_row key keyed.key ≡ b → list_any (same_row key) (map key_of (keyed ∷ rows)) ≡ true
    → (list_any (same_row key) (map key_of rows) ≡ true → 1 ≤ length (rows_of_key rows key)) → 1 ≤ length (rows_of_key (keyed ∷ rows) key)
some_by key keyed rows true e h ih =
    let P : List KeyedRow → Type 0 = λ l. 1 ≤ length (map row_of l) in subst P (sym (filter_yes (has_key key) keyed rows e)) (omega arith)
some_by key keyed rows false e h ih =
    let P : List KeyedRow → Type 0 = λ l. 1 ≤ length (map row_of l) in
    subst P (sym (filter_no (has_key key) keyed rows e)) (ih (sym (ap (λ b. b || list_any (same_row key) (map key_of rows)) e) ∙ h))

-- a key that a row has has a row
some_row : (key : List Value) (rows : List KeyedRow) → list_any (same_row key) (map key_of rows) ≡ true → 1 ≤ length (rows_of_key rows key)
some_row key [] h = absurd cc
some_row key (keyed ∷ rows) h = some_by key keyed rows (same_row key keyed.key) refl h (some_row key rows)

each_not_empty : (rows : List KeyedRow) (keys : List (List Value)) → AllByRecursion (λ key. list_any (same_row key) (map key_of rows) ≡ true) keys → AllByRecursion (λ (group : List (List Value)). 1 ≤ length group) (map (rows_of_key rows) keys)
each_not_empty rows [] all = tt
each_not_empty rows (key ∷ keys) all = (some_row key rows all.0, each_not_empty rows keys all.1)

pub groups_are_not_empty : GroupsAreNotEmpty
groups_are_not_empty rows =
    each_not_empty rows (keys_of rows) (all_firsts same_row same_row_equiv (λ key. list_any (same_row key) (map key_of rows) ≡ true) (map key_of rows) (own_key [] (map key_of rows)))

-- ---- MIN

-- what stands at the end of MIN, over the value so far and the others
record EndsLeast (value : Value) (others : List Value) (end : Value) : Type 0 where
  first : is_lt (value_cmp value end) ≡ false
  rest : AllByRecursion (λ (other : Value). is_lt (value_cmp other end) ≡ false) others
  among : list_any (same_value end) (value ∷ others) ≡ true

value_weak : IsStrictWeakOrder (λ a b. is_lt (value_cmp a b))
value_weak = ranks_by value_total (λ v. v)

not_less_itself : (value : Value) (b : Bool) → is_lt (value_cmp value value) ≡ b → is_lt (value_cmp value value) ≡ false
not_less_itself value true e = value_weak.one_way value value e
not_less_itself value false e = e

or_between : (a b c : Bool) → (a || c) ≡ true → (a || (b || c)) ≡ true
or_between true b c h = refl
or_between false b true h = or_true b
or_between false b false h = cc

module _ (value other : Value) (others : List Value) (end : Value) where
  takes_other : is_lt (value_cmp other value) ≡ true → EndsLeast other others end → EndsLeast value (other ∷ others) end
  takes_other e ih = record {
    first = value_weak.chain value other end (value_weak.one_way other value e) ih.first;
    rest = (ih.first, ih.rest);
    among = ap (λ b. same_value end value || b) ih.among ∙ or_true (same_value end value);
  }

  keeps_value : is_lt (value_cmp other value) ≡ false → EndsLeast value others end → EndsLeast value (other ∷ others) end
  keeps_value e ih = record {
    first = ih.first;
    rest = (value_weak.chain other value end e ih.first, ih.rest);
    among = or_between (same_value end value) (same_value end other) (list_any (same_value end) others) ih.among;
  }

least_by : (value other : Value) (others : List Value) (b : Bool) → is_lt (value_cmp other value) ≡ b
    → ((first : Value) → EndsLeast first others (fold (ord_min value_cmp) first others)) → EndsLeast value (other ∷ others) (fold (ord_min value_cmp) value (other ∷ others))
least_by value other others true e ih =
    let P : Value → Type 0 = λ v. EndsLeast value (other ∷ others) (fold (ord_min value_cmp) v others) in
    let is : ord_min value_cmp value other ≡ other = rw e refl in
    subst P (sym is) (takes_other value other others (fold (ord_min value_cmp) other others) e (ih other))
least_by value other others false e ih =
    let P : Value → Type 0 = λ v. EndsLeast value (other ∷ others) (fold (ord_min value_cmp) v others) in
    let is : ord_min value_cmp value other ≡ value = rw e refl in
    subst P (sym is) (keeps_value value other others (fold (ord_min value_cmp) value others) e (ih value))

ends_least : (others : List Value) (value : Value) → EndsLeast value others (fold (ord_min value_cmp) value others)
ends_least [] value = record { first = not_less_itself value (is_lt (value_cmp value value)) refl; rest = tt; among = ap (λ b. b || false) (same_value_equiv.refl value) }
ends_least (other ∷ others) value = least_by value other others (is_lt (value_cmp other value)) refl (ends_least others)

pub min_is_least : MinIsLeast
min_is_least [] least e = absurd cc
min_is_least (value ∷ values) least e =
    let P : Value → Type 0 = λ v. IsLeast (value ∷ values) v in
    let ends = ends_least values value in
    let is : fold (ord_min value_cmp) value values ≡ least = cc in
    subst P is (record { among = ends.among; none_less = (ends.first, ends.rest) })

-- ---- SELECT *

kept_all : (scope : List TableSchema) (snapshot : Option ℕ) (rows : List (List Value)) → kept (holds_at scope snapshot None) rows ≡ Ok rows
kept_all scope snapshot [] = refl
kept_all scope snapshot (row ∷ rows) = rw (kept_all scope snapshot rows) refl

abbrev itself : List Value → OutputRow
itself row = record { outputs = row; origin = row }

each_itself : (scope : List TableSchema) (snapshot : Option ℕ) (rows : List (List Value)) → each (row_of_row scope snapshot star) rows ≡ Ok (map itself rows)
each_itself scope snapshot [] = refl
each_itself scope snapshot (row ∷ rows) = rw (each_itself scope snapshot rows) refl

placed_first : (row : OutputRow) (rows : List OutputRow) → placed (λ a b. is_lt (keys_cmp [] a b)) row rows ≡ row ∷ rows
placed_first row [] = refl
placed_first row (other ∷ rows) = refl

unordered : (rows : List OutputRow) → ordered (λ a b. is_lt (keys_cmp [] a b)) rows ≡ rows
unordered [] = refl
unordered (row ∷ rows) = rw (unordered rows) (placed_first row rows)

outputs_back : (rows : List (List Value)) → map outputs_of (map itself rows) ≡ rows
outputs_back [] = refl
outputs_back (row ∷ rows) = ap (λ l. row ∷ l) (outputs_back rows)

pub star_gives_rows : StarGivesRows
star_gives_rows table second scope columns snapshot firsts seconds =
    let rows = joined_rows firsts seconds in
    rw (kept_all scope snapshot rows, each_itself scope snapshot rows, unordered (map itself rows), outputs_back rows) refl
