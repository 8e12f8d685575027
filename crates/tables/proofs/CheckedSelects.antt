-- A checked select has an answer whose rows fit its columns, unless a number leaves i64.
use Rattle.std.proofs.Common.{◌≡◌, ◌∙◌, ◌≤◌, ◌<◌, ℕ, zero, suc, ◌+◌, ℤ, pos, Bool, true, false, not, ◌&&◌, ◌||◌, List, [], ◌∷◌, ◌++◌, map, fold, length, take, cond, Option, Some, None, Result, Ok, Err, refl, sym, ap, subst, arith, append-nil, if◌then◌else◌}
use Rattle.std.specs.Prelude.{IsTrue, IsOk, is_none, is_some, unwrap_or}
use Rattle.std.specs.List.{AllByRecursion, filter, flat_map, list_all, list_any, position, position_or_len}
use Rattle.std.specs.Ordering.{is_lt, ord_max, ord_min}
use Rattle.std.proofs.lemmas.Bool.{lt-ltb}
use Rattle.retro_base.specs.Gives.{◌>>=◌}
use Rattle.retro_base.specs.declared.refusal.Refusal.{Refusal}
use Rattle.retro_base.specs.declared.refusal.Refusal.TheVariants.{Overflow}
use Rattle.values.specs.Value.{kind_of as kind_of_value, value_cmp}
use Rattle.values.specs.declared.value.Kind.{Kind}
use Rattle.values.specs.declared.value.Kind.TheVariants as kind
use Rattle.values.specs.declared.value.Value.{Value}
use Rattle.values.specs.declared.value.Value.TheVariants.{Int, Text}
use Rattle.sql_tree.specs.Condition.{ConditionTree}
use Rattle.sql_tree.specs.Evaluation.{column_value, in_range, narrow, snapshot_value, value_of}
use Rattle.sql_tree.specs.Expression.{ExpressionTree, Literal, Column, CurrentSnapshot, Apply, is_constant}
use Rattle.sql_tree.specs.Select.{is_grouped}
use Rattle.sql_tree.specs.Scope.{columns_of, kind_at, kind_in, place_of}
use Rattle.sql_tree.specs.declared.name.ColumnName.{ColumnName}
use Rattle.sql_tree.specs.declared.schema.TableSchema.{TableSchema}
use Rattle.sql_tree.specs.declared.select.Aggregate.{Aggregate}
use Rattle.sql_tree.specs.declared.select.Aggregate.TheVariants.{CountRows, Count, Sum, Min, Max}
use Rattle.sql_tree.specs.declared.select.OrderKey.{OrderKey}
use Rattle.sql_tree.specs.declared.select.Output.{Output}
use Rattle.sql_tree.specs.declared.select.OutputValue.{OutputValue}
use Rattle.sql_tree.specs.declared.select.OutputValue.TheVariants as output
use Rattle.sql_tree.specs.declared.select.Select.{Select}
use Rattle.sql_tree.specs.declared.select.SelectList.{SelectList}
use Rattle.sql_tree.specs.declared.select.SelectList.TheVariants.{All, Outputs}
use Rattle.sql_tree.specs.declared.statement.Column.{Column as ColumnRecord}
use Rattle.sql_kinds.specs.Expressions.{aggregate_has_unknown, aggregate_kind, has_unknown, int_if, is_int, is_unknown, kind_of, output_has_unknown, output_kind}
use Rattle.sql_kinds.specs.Laws.{IsOfKind}
use Rattle.sql_check.specs.Outputs.{answer_columns, output_columns}
use Rattle.sql_tree.specs.Rows.{AllFit, same_kind, fits}
use Rattle.sql_check.specs.Selects.{select_has_unknown, select_is_mistyped, breaks_groups, is_key, keys_have_unknown, lacks_kind, list_has_unknown, names_output, where_compares_apart, where_has_unknown}
use Rattle.sql_kinds.proofs.Checked.{conditions_are_decided, expressions_keep_their_kind}
use Rattle.sql_kinds.proofs.Truths.{and_both, or_none}
use Rattle.sql_select.specs.Aggregates.{best_of, count_of, greatest_of, least_of, number_of, sum_of, total, whole}
use Rattle.tables.specs.Checked.{CheckedSelectsAnswer, IsAnswerOf, RowsFit}
use Rattle.sql_select.specs.Each.{each}
use Rattle.sql_select.specs.Groups.{distinct, groups, keys_of, rows_of_key, same_outputs}
use Rattle.sql_select.specs.Order.{keys_cmp, ordered, placed, sorted_by}
use Rattle.sql_select.specs.Outputs.{aggregate_over, is_there_over_none, output_over, outputs_over, values_over}
use Rattle.sql_select.specs.Rows.{beside, holds_at, joined_rows, kept}
use Rattle.sql_select.specs.Select.{answer, finished, groups_by, key_place, keyed_row, limited, output_place, output_rows, outputs_of, row_of_group, row_of_row, rows_of_groups, single_group, sort_key}
use Rattle.sql_select.specs.declared.answer.Answer.{Answer}
use Rattle.sql_select.specs.declared.grouping.KeyedRow.{KeyedRow}
use Rattle.sql_select.specs.declared.ordering.KeyPlace.{KeyPlace}
use Rattle.sql_select.specs.declared.ordering.SortKey.{SortKey}
use Rattle.sql_select.specs.declared.output_row.OutputRow.{OutputRow}
use Rattle.sql_select.proofs.Firsts.{all_filter}
use Rattle.sql_select.proofs.Following.{all_firsts, groups_are_not_empty}
use Rattle.sql_select.proofs.InGroups.{has_key, row_of}
use Rattle.sql_select.specs.SameOutputs.{same_outputs_equiv}

-- ---- answers with a property, or Overflow

abbrev Leaves : {Y : Type 0} → (Y → Type 0) → Result Y Refusal → Type 0
Leaves P (Ok y) = P y
Leaves P (Err why) = why ≡ Overflow

abbrev Any : {Y : Type 0} → Y → Type 0
Any y = Unit {0}

leaves_then : {X Y : Type 0} (P : X → Type 0) (Q : Y → Type 0) (r : Result X Refusal) (f : X → Result Y Refusal) → Leaves P r → ((x : X) → P x → Leaves Q (f x)) → Leaves Q (r >>= f)
leaves_then P Q (Ok x) f h go = go x h
leaves_then P Q (Err why) f h go = h

leaves_each : {X Y : Type 0} (A : X → Type 0) (P : Y → Type 0) (f : X → Result Y Refusal) → ((x : X) → A x → Leaves P (f x)) → (xs : List X) → AllByRecursion A xs → Leaves (AllByRecursion P) (each f xs)
leaves_each A P f go [] all = tt
leaves_each A P f go (x ∷ xs) all =
    leaves_then P (AllByRecursion P) (f x) (λ y. each f xs >>= (λ ys. Ok (y ∷ ys))) (go x all.0)
    (λ y h. leaves_then (AllByRecursion P) (AllByRecursion P) (each f xs) (λ ys. Ok (y ∷ ys)) (leaves_each A P f go xs all.1) (λ ys hs. (h, hs)))

abbrev AtLeastOne : {Y : Type 0} → (Y → Type 0) → List Y → Type 0
AtLeastOne P [] = ⊥
AtLeastOne P (y ∷ ys) = P y × AllByRecursion P ys

leaves_some : {X Y : Type 0} (A : X → Type 0) (P : Y → Type 0) (f : X → Result Y Refusal) → ((x : X) → A x → Leaves P (f x)) → (x : X) (xs : List X) → A x → AllByRecursion A xs → Leaves (AtLeastOne P) (each f (x ∷ xs))
leaves_some A P f go x xs a all =
    leaves_then P (AtLeastOne P) (f x) (λ y. each f xs >>= (λ ys. Ok (y ∷ ys))) (go x a)
    (λ y h. leaves_then (AllByRecursion P) (AtLeastOne P) (each f xs) (λ ys. Ok (y ∷ ys)) (leaves_each A P f go xs all) (λ ys hs. (h, hs)))

-- ---- lists

all_const : {X : Type 0} (P : X → Type 0) → ((x : X) → P x) → (xs : List X) → AllByRecursion P xs
all_const P go [] = tt
all_const P go (x ∷ xs) = (go x, all_const P go xs)

all_map : {X Y : Type 0} (P : Y → Type 0) (f : X → Y) (xs : List X) → AllByRecursion (λ x. P (f x)) xs → AllByRecursion P (map f xs)
all_map P f [] all = tt
all_map P f (x ∷ xs) all = (all.0, all_map P f xs all.1)

all_weaker : {X : Type 0} (P Q : X → Type 0) → ((x : X) → P x → Q x) → (xs : List X) → AllByRecursion P xs → AllByRecursion Q xs
all_weaker P Q go [] all = tt
all_weaker P Q go (x ∷ xs) all = (go x all.0, all_weaker P Q go xs all.1)

all_both : {X : Type 0} (P Q R : X → Type 0) → ((x : X) → P x → Q x → R x) → (xs : List X) → AllByRecursion P xs → AllByRecursion Q xs → AllByRecursion R xs
all_both P Q R go [] all also = tt
all_both P Q R go (x ∷ xs) all also = (go x all.0 also.0, all_both P Q R go xs all.1 also.1)

all_append : {X : Type 0} (P : X → Type 0) (xs ys : List X) → AllByRecursion P xs → AllByRecursion P ys → AllByRecursion P (xs ++ ys)
all_append P [] ys all also = also
all_append P (x ∷ xs) ys all also = (all.0, all_append P xs ys all.1 also)

all_take : {X : Type 0} (P : X → Type 0) (n : ℕ) (xs : List X) → AllByRecursion P xs → AllByRecursion P (take n xs)
all_take P zero xs all = tt
all_take P (suc n) [] all = tt
all_take P (suc n) (x ∷ xs) all = (all.0, all_take P n xs all.1)

-- no element passes
none_pass : {X : Type 0} (p : X → Bool) (xs : List X) → list_any p xs ≡ false → AllByRecursion (λ x. p x ≡ false) xs
none_pass p [] e = tt
none_pass p (x ∷ xs) e = let h = or_none (p x) (list_any p xs) e in (h.0, none_pass p xs h.1)

each_passes : {X : Type 0} (p : X → Bool) (xs : List X) → list_all p xs ≡ true → AllByRecursion (λ x. p x ≡ true) xs
each_passes p [] e = tt
each_passes p (x ∷ xs) e = let h = and_both (p x) (list_all p xs) e in (h.0, each_passes p xs h.1)

-- ---- rows that fit

both_true : (a b : Bool) → a ≡ true → b ≡ true → (a && b) ≡ true
both_true a b e f = rw (e, f) refl

fits-append : (a b : List ColumnRecord) (x y : List Value) → fits a x ≡ true → fits b y ≡ true → fits (a ++ b) (x ++ y) ≡ true
fits-append [] b [] y p q = q
fits-append [] b (v ∷ x) y p q = absurd cc
fits-append (c ∷ a) b [] y p q = absurd cc
fits-append (c ∷ a) b (v ∷ x) y p q =
    let h = and_both (same_kind c.kind (kind_of_value v)) (fits a x) p in
    both_true (same_kind c.kind (kind_of_value v)) (fits (a ++ b) (x ++ y)) h.0 (fits-append a b x y h.1 q)

pairs_fit : (a b : List ColumnRecord) (seconds : List (List Value)) (firsts : List (List Value)) → AllFit a firsts → AllFit b seconds → AllFit (a ++ b) (flat_map (beside seconds) firsts)
pairs_fit a b seconds [] all also = tt
pairs_fit a b seconds (first ∷ firsts) all also =
    all_append (λ (row : List Value). IsTrue (fits (a ++ b) row)) (beside seconds first) (flat_map (beside seconds) firsts)
    (all_map (λ (row : List Value). IsTrue (fits (a ++ b) row)) (λ second. first ++ second) seconds
    (all_weaker (λ (row : List Value). IsTrue (fits b row)) (λ second. IsTrue (fits (a ++ b) (first ++ second))) (λ second fit. fits-append a b first second all.0 fit) seconds also))
    (pairs_fit a b seconds firsts all.1 also)

joined_fit : (scope : List TableSchema) (firsts : List (List Value)) (seconds : Option (List (List Value))) → RowsFit scope firsts seconds → AllFit (columns_of scope) (joined_rows firsts seconds)
joined_fit (table ∷ []) firsts None fit =
    let P : List ColumnRecord → Type 0 = λ columns. AllFit columns firsts in subst P (sym (append-nil table.columns)) fit
joined_fit (first ∷ second ∷ []) firsts (Some seconds) fit =
    let P : List ColumnRecord → Type 0 = λ columns. AllFit (first.columns ++ columns) (flat_map (beside seconds) firsts) in
    subst P (sym (append-nil second.columns)) (pairs_fit first.columns second.columns seconds firsts fit.0 fit.1)
joined_fit [] firsts seconds fit = absurd fit
joined_fit (table ∷ []) firsts (Some seconds) fit = absurd fit
joined_fit (first ∷ second ∷ []) firsts None fit = absurd fit
joined_fit (first ∷ second ∷ third ∷ tables) firsts seconds fit = absurd fit

kept_by : (Fit : List Value → Type 0) (holds : List Value → Result Bool Refusal) (row : List Value) (rows : List (List Value)) (h : Result Bool Refusal) → holds row ≡ h → IsOk h → Fit row
    → Leaves (AllByRecursion Fit) (kept holds rows) → Leaves (AllByRecursion Fit) (kept holds (row ∷ rows))
kept_by Fit holds row rows (Ok true) e ok fit ih =
    let P : Result Bool Refusal → Type 0 = λ r. Leaves (AllByRecursion Fit) (r >>= (λ keeps. kept holds rows >>= (λ others. Ok (if keeps then row ∷ others else others)))) in
    subst P (sym e) (leaves_then (AllByRecursion Fit) (AllByRecursion Fit) (kept holds rows) (λ others. Ok (row ∷ others)) ih (λ others all. (fit, all)))
kept_by Fit holds row rows (Ok false) e ok fit ih =
    let P : Result Bool Refusal → Type 0 = λ r. Leaves (AllByRecursion Fit) (r >>= (λ keeps. kept holds rows >>= (λ others. Ok (if keeps then row ∷ others else others)))) in
    subst P (sym e) (leaves_then (AllByRecursion Fit) (AllByRecursion Fit) (kept holds rows) (λ others. Ok others) ih (λ others all. all))
kept_by Fit holds row rows (Err why) e ok fit ih = absurd cc

kept_fit : (Fit : List Value → Type 0) (holds : List Value → Result Bool Refusal) → ((row : List Value) → Fit row → IsOk (holds row)) → (rows : List (List Value)) → AllByRecursion Fit rows → Leaves (AllByRecursion Fit) (kept holds rows)
kept_fit Fit holds go [] all = tt
kept_fit Fit holds go (row ∷ rows) all = kept_by Fit holds row rows (holds row) refl (go row all.0) all.0 (kept_fit Fit holds go rows all.1)

holds_ok : (scope : List TableSchema) (snapshot : Option ℕ) (condition : Option ConditionTree) → where_has_unknown scope snapshot condition ≡ false → where_compares_apart scope condition ≡ false
    → (row : List Value) → fits (columns_of scope) row ≡ true → IsOk (holds_at scope snapshot condition row)
holds_ok scope snapshot None names apart row fit = refl
holds_ok scope snapshot (Some condition) names apart row fit = conditions_are_decided scope snapshot row condition fit names apart

-- ---- values of a kind

abbrev OfKind : Kind → Value → Type 0
OfKind k v = kind_of_value v ≡ k

of_kind : (k : Kind) (r : Result Value Refusal) → IsOfKind k r → Leaves (OfKind k) r
of_kind k (Ok v) h = h
of_kind k (Err why) h = h

int_of : (k : Kind) (r : Result Value Refusal) → Some kind.Int ≡ Some k → Leaves (OfKind kind.Int) r → Leaves (OfKind k) r
int_of k r e h = let P : Kind → Type 0 = λ w. Leaves (OfKind w) r in subst P (the_same e) h
  where
    the_same : Some kind.Int ≡ Some k → kind.Int ≡ k
    the_same e = cc

in_range_is : (z : Option ℤ) → Leaves (OfKind kind.Int) (in_range z)
in_range_is None = refl
in_range_is (Some z) = refl

whole_is : (z : ℤ) → Leaves (OfKind kind.Int) (whole z)
whole_is z = in_range_is (narrow z)

number_is : (v : Value) → OfKind kind.Int v → Leaves (Any {Y = ℤ}) (number_of v)
number_is (Int n) h = tt
number_is (Text t) h = absurd cc

sum_is : (vs : List Value) → AllByRecursion (OfKind kind.Int) vs → Leaves (OfKind kind.Int) (sum_of vs)
sum_is vs all =
    leaves_then (AllByRecursion (Any {Y = ℤ})) (OfKind kind.Int) (each number_of vs) (λ ns. whole (total ns)) (leaves_each (OfKind kind.Int) (Any {Y = ℤ}) number_of number_is vs all) (λ ns h. whole_is (total ns))

fold_keeps : (P : Value → Type 0) (better : Value → Value → Value) → ((a b : Value) → P a → P b → P (better a b)) → (v : Value) (vs : List Value) → P v → AllByRecursion P vs → P (fold better v vs)
fold_keeps P better go v [] h all = h
fold_keeps P better go v (w ∷ vs) h all = fold_keeps P better go (better v w) vs (go v w h all.0) all.1

cond_keeps : (P : Value → Type 0) (t : Bool) (a b : Value) → P a → P b → P (cond t a b)
cond_keeps P true a b p q = p
cond_keeps P false a b p q = q

best_is : (k : Kind) (better : Value → Value → Value) → ((a b : Value) → OfKind k a → OfKind k b → OfKind k (better a b)) → (vs : List Value) → AtLeastOne (OfKind k) vs → Leaves (OfKind k) (best_of better vs)
best_is k better go [] h = absurd h
best_is k better go (v ∷ vs) h = fold_keeps (OfKind k) better go v vs h.0 h.1

least_is : (k : Kind) (vs : List Value) → AtLeastOne (OfKind k) vs → Leaves (OfKind k) (least_of vs)
least_is k = best_is k (ord_min value_cmp) (λ a b p q. cond_keeps (OfKind k) (is_lt (value_cmp b a)) b a q p)

greatest_is : (k : Kind) (vs : List Value) → AtLeastOne (OfKind k) vs → Leaves (OfKind k) (greatest_of vs)
greatest_is k = best_is k (ord_max value_cmp) (λ a b p q. cond_keeps (OfKind k) (is_lt (value_cmp b a)) a b p q)

-- the kinds that an aggregate's argument has
some_of : (k : Option Kind) → is_none k ≡ false → (w : Kind) × (k ≡ Some w)
some_of None e = absurd cc
some_of (Some w) e = (w, refl)

int_if_is : (test : Bool) (k : Kind) → int_if test ≡ Some k → (test ≡ true) × (Some kind.Int ≡ Some k)
int_if_is true k e = (refl, e)
int_if_is false k e = absurd cc

is_some_of : (k : Option Kind) → is_some k ≡ true → (w : Kind) × (k ≡ Some w)
is_some_of None e = absurd cc
is_some_of (Some w) e = (w, refl)

is_int_of : (k : Option Kind) → is_int k ≡ true → k ≡ Some kind.Int
is_int_of None e = absurd cc
is_int_of (Some kind.Int) e = refl
is_int_of (Some kind.Text) e = absurd cc

module _ (scope : List TableSchema) (snapshot : Option ℕ) where
  abbrev Fit : List Value → Type 0
  Fit row = IsTrue (fits (columns_of scope) row)

  expression_is : (of : ExpressionTree) (k : Kind) → has_unknown scope snapshot of ≡ false → kind_of scope of ≡ Some k → (row : List Value) → Fit row → Leaves (OfKind k) (value_of scope snapshot row of)
  expression_is of k names e row fit = of_kind k (value_of scope snapshot row of) (expressions_keep_their_kind scope snapshot row of k fit names e)

  snapshot_is : (number : Option ℕ) → is_none number ≡ false → Leaves (OfKind kind.Int) (snapshot_value number)
  snapshot_is None e = absurd cc
  snapshot_is (Some n) e = refl

  -- a literal and the number of the snapshot, also where no row is
  constant_is : (of : ExpressionTree) (k : Kind) → is_constant of ≡ true → has_unknown scope snapshot of ≡ false → kind_of scope of ≡ Some k → Leaves (OfKind k) (value_of scope snapshot [] of)
  constant_is (Literal v) k c names e = cc
  constant_is (Column name) k c names e = absurd cc
  constant_is CurrentSnapshot k c names e = int_of k (snapshot_value snapshot) e (snapshot_is snapshot names)
  constant_is (Apply operator left right) k c names e = absurd cc

  values_are : (of : ExpressionTree) (k : Kind) → has_unknown scope snapshot of ≡ false → kind_of scope of ≡ Some k → (rows : List (List Value)) → AllByRecursion Fit rows → Leaves (AllByRecursion (OfKind k)) (values_over scope snapshot rows of)
  values_are of k names e rows all = leaves_each Fit (OfKind k) (λ row. value_of scope snapshot row of) (expression_is of k names e) rows all

  some_values : (of : ExpressionTree) (k : Kind) → has_unknown scope snapshot of ≡ false → kind_of scope of ≡ Some k → (row : List Value) (rows : List (List Value)) → Fit row → AllByRecursion Fit rows
      → Leaves (AtLeastOne (OfKind k)) (values_over scope snapshot (row ∷ rows) of)
  some_values of k names e row rows fit all = leaves_some Fit (OfKind k) (λ r. value_of scope snapshot r of) (expression_is of k names e) row rows fit all

  -- the rows of a group fit, or there are none and the output has a value over none
  abbrev Stands : List (List Value) → OutputValue → Type 0
  Stands [] value = is_there_over_none value ≡ true
  Stands (row ∷ rows) value = Fit row × AllByRecursion Fit rows

  all_stand : (rows : List (List Value)) (value : OutputValue) → Stands rows value → AllByRecursion Fit rows
  all_stand [] value h = tt
  all_stand (row ∷ rows) value h = h

  aggregate_is : (rows : List (List Value)) (of : Aggregate) (k : Kind) → aggregate_has_unknown scope snapshot of ≡ false → aggregate_kind scope of ≡ Some k → Stands rows (output.Aggregate of) → Leaves (OfKind k) (aggregate_over scope snapshot rows of)
  aggregate_is rows CountRows k names e h = int_of k (count_of rows) e (whole_is (pos (length rows)))
  aggregate_is rows (Count of) k names e h =
      let is = int_if_is (is_some (kind_of scope of)) k e in
      let w = is_some_of (kind_of scope of) is.0 in
      int_of k (values_over scope snapshot rows of >>= count_of) is.1
      (leaves_then (AllByRecursion (OfKind w.0)) (OfKind kind.Int) (values_over scope snapshot rows of) count_of (values_are of w.0 names w.1 rows (all_stand rows (output.Aggregate (Count of)) h)) (λ vs all. whole_is (pos (length vs))))
  aggregate_is rows (Sum of) k names e h =
      let is = int_if_is (is_int (kind_of scope of)) k e in
      int_of k (values_over scope snapshot rows of >>= sum_of) is.1
      (leaves_then (AllByRecursion (OfKind kind.Int)) (OfKind kind.Int) (values_over scope snapshot rows of) sum_of (values_are of kind.Int names (is_int_of (kind_of scope of) is.0) rows (all_stand rows (output.Aggregate (Sum of)) h)) sum_is)
  aggregate_is [] (Min of) k names e h = absurd cc
  aggregate_is (row ∷ rows) (Min of) k names e h =
      leaves_then (AtLeastOne (OfKind k)) (OfKind k) (values_over scope snapshot (row ∷ rows) of) least_of (some_values of k names e row rows h.0 h.1) (least_is k)
  aggregate_is [] (Max of) k names e h = absurd cc
  aggregate_is (row ∷ rows) (Max of) k names e h =
      leaves_then (AtLeastOne (OfKind k)) (OfKind k) (values_over scope snapshot (row ∷ rows) of) greatest_of (some_values of k names e row rows h.0 h.1) (greatest_is k)

  output_is : (rows : List (List Value)) (value : OutputValue) (k : Kind) → output_has_unknown scope snapshot value ≡ false → output_kind scope value ≡ Some k → Stands rows value → Leaves (OfKind k) (output_over scope snapshot rows value)
  output_is [] (output.Expression of) k names e h = constant_is of k h names e
  output_is (row ∷ rows) (output.Expression of) k names e h = expression_is of k names e row h.0
  output_is rows (output.Aggregate of) k names e h = aggregate_is rows of k names e h

  same_own : (k : Kind) → same_kind k k ≡ true
  same_own kind.Int = refl
  same_own kind.Text = refl

  -- the values of outputs fit their columns
  outputs_fit : (rows : List (List Value)) (outputs : List Output) (place : ℕ) → list_any (λ (o : Output). output_has_unknown scope snapshot o.value) outputs ≡ false → list_any (λ (o : Output). is_none (output_kind scope o.value)) outputs ≡ false
      → AllByRecursion (λ (o : Output). Stands rows o.value) outputs → Leaves (λ vs. IsTrue (fits (output_columns scope place outputs) vs)) (each (λ (o : Output). output_over scope snapshot rows o.value) outputs)
  outputs_fit rows [] place names kinds stand = refl
  outputs_fit rows (o ∷ os) place names kinds stand =
      let n = or_none (output_has_unknown scope snapshot o.value) (list_any (λ (p : Output). output_has_unknown scope snapshot p.value) os) names in
      let k = or_none (is_none (output_kind scope o.value)) (list_any (λ (p : Output). is_none (output_kind scope p.value)) os) kinds in
      let w = some_of (output_kind scope o.value) k.0 in
      let Rest : List Value → Type 0 = λ vs. IsTrue (fits (output_columns scope (place + 1) os) vs) in
      let Whole : List Value → Type 0 = λ vs. IsTrue (fits (output_columns scope place (o ∷ os)) vs) in
      leaves_then (OfKind w.0) Whole (output_over scope snapshot rows o.value) (λ v. each (λ (p : Output). output_over scope snapshot rows p.value) os >>= (λ vs. Ok (v ∷ vs))) (output_is rows o.value w.0 n.0 w.1 stand.0)
      (λ v is. leaves_then Rest Whole (each (λ (p : Output). output_over scope snapshot rows p.value) os) (λ vs. Ok (v ∷ vs)) (outputs_fit rows os (place + 1) n.1 k.1 stand.1)
      (λ vs fit. both_true (same_kind (unwrap_or (output_kind scope o.value) kind.Int) (kind_of_value v)) (fits (output_columns scope (place + 1) os) vs) (rw (w.1, is) (same_own w.0)) fit))

  -- what an answer's row has
  abbrev RowFits : SelectList → OutputRow → Type 0
  RowFits list row = IsTrue (fits (answer_columns scope list) row.outputs)

  row_fits : (list : SelectList) → list_has_unknown scope snapshot list ≡ false → lacks_kind scope list ≡ false → (row : List Value) → Fit row → Leaves (RowFits list) (row_of_row scope snapshot list row)
  row_fits All names kinds row fit = fit
  row_fits (Outputs outputs) names kinds row fit =
      leaves_then (λ vs. IsTrue (fits (answer_columns scope (Outputs outputs)) vs)) (RowFits (Outputs outputs)) (outputs_over scope snapshot (Outputs outputs) (row ∷ [])) (λ vs. Ok (record { outputs = vs; origin = row }))
      (outputs_fit (row ∷ []) outputs 1 names kinds (all_const (λ (o : Output). Stands (row ∷ []) o.value) (λ o. (fit, tt)) outputs)) (λ vs h. h)

  abbrev GroupStands : List Output → List (List Value) → Type 0
  GroupStands outputs rows = AllByRecursion (λ (o : Output). Stands rows o.value) outputs

  group_fits : (outputs : List Output) → list_has_unknown scope snapshot (Outputs outputs) ≡ false → lacks_kind scope (Outputs outputs) ≡ false → (rows : List (List Value)) → GroupStands outputs rows → Leaves (RowFits (Outputs outputs)) (row_of_group scope snapshot (Outputs outputs) rows)
  group_fits outputs names kinds rows stand =
      leaves_then (λ vs. IsTrue (fits (answer_columns scope (Outputs outputs)) vs)) (RowFits (Outputs outputs)) (outputs_over scope snapshot (Outputs outputs) rows) (λ vs. Ok (record { outputs = vs; origin = [] }))
      (outputs_fit rows outputs 1 names kinds stand) (λ vs h. h)

  -- rows of groups
  some_stand : (outputs : List Output) (rows : List (List Value)) → AtLeastOne Fit rows → GroupStands outputs rows
  some_stand outputs [] h = absurd h
  some_stand outputs (row ∷ rows) h = all_const (λ (o : Output). Stands (row ∷ rows) o.value) (λ o. h) outputs

  single_by : (outputs : List Output) (b : Bool) → list_all (λ (o : Output). is_there_over_none o.value) outputs ≡ b → AllByRecursion (GroupStands outputs) (single_group outputs [])
  single_by outputs true e =
      let P : List (List (List Value)) → Type 0 = λ l. AllByRecursion (GroupStands outputs) l in
      let is : single_group outputs [] ≡ [] ∷ [] = rw e refl in
      subst P (sym is) (each_passes (λ (o : Output). is_there_over_none o.value) outputs e, tt)
  single_by outputs false e =
      let P : List (List (List Value)) → Type 0 = λ l. AllByRecursion (GroupStands outputs) l in
      let is : single_group outputs [] ≡ [] = rw e refl in subst P (sym is) tt

  single_stands : (outputs : List Output) (rows : List (List Value)) → AllByRecursion Fit rows → AllByRecursion (GroupStands outputs) (single_group outputs rows)
  single_stands outputs [] all = single_by outputs (list_all (λ (o : Output). is_there_over_none o.value) outputs) refl
  single_stands outputs (row ∷ rows) all = (some_stand outputs (row ∷ rows) all, tt)

  column_is : (row : List Value) → Fit row → (name : ColumnName) → is_unknown scope name ≡ false → Leaves (Any {Y = Value}) (column_value scope row name)
  column_is row fit name e =
      let k = some_of (kind_at scope name) e in
      weaker (OfKind k.0) (column_value scope row name) (expression_is (Column name) k.0 e k.1 row fit)
    where
      weaker : (P : Value → Type 0) (r : Result Value Refusal) → Leaves P r → Leaves (Any {Y = Value}) r
      weaker P (Ok v) h = tt
      weaker P (Err why) h = h

  keyed_is : (columns : List ColumnName) → list_any (is_unknown scope) columns ≡ false → (row : List Value) → Fit row → Leaves (λ (keyed : KeyedRow). Fit keyed.row) (keyed_row scope columns row)
  keyed_is columns names row fit =
      leaves_then (AllByRecursion (Any {Y = Value})) (λ (keyed : KeyedRow). Fit keyed.row) (each (column_value scope row) columns) (λ key. Ok (record { key = key; row = row }))
      (leaves_each (λ name. is_unknown scope name ≡ false) (Any {Y = Value}) (column_value scope row) (column_is row fit) columns (none_pass (is_unknown scope) columns names)) (λ key h. fit)

  at_least : (rows : List (List Value)) → 1 ≤ length rows → AllByRecursion Fit rows → AtLeastOne Fit rows
  at_least [] some all = absurd (omega arith)
  at_least (row ∷ rows) some all = all

  keyed_groups : (keyed : List KeyedRow) → AllByRecursion (λ (k : KeyedRow). Fit k.row) keyed → AllByRecursion (AllByRecursion Fit) (groups keyed)
  keyed_groups keyed all =
      all_map (AllByRecursion Fit) (rows_of_key keyed) (keys_of keyed)
      (all_const (λ key. AllByRecursion Fit (rows_of_key keyed key))
      (λ key. all_map Fit row_of (filter (has_key key) keyed) (all_filter (λ (k : KeyedRow). Fit k.row) (has_key key) keyed all)) (keys_of keyed))

  groups_stand : (outputs : List Output) (columns : List ColumnName) → list_any (is_unknown scope) columns ≡ false → (rows : List (List Value)) → AllByRecursion Fit rows → Leaves (AllByRecursion (GroupStands outputs)) (groups_by scope columns outputs rows)
  groups_stand outputs [] names rows all = single_stands outputs rows all
  groups_stand outputs (column ∷ columns) names rows all =
      leaves_then (AllByRecursion (λ (k : KeyedRow). Fit k.row)) (AllByRecursion (GroupStands outputs)) (each (keyed_row scope (column ∷ columns)) rows) (λ keyed. Ok (groups keyed))
      (leaves_each Fit (λ (k : KeyedRow). Fit k.row) (keyed_row scope (column ∷ columns)) (keyed_is (column ∷ columns) names) rows all)
      (λ keyed fit. all_both (λ (g : List (List Value)). 1 ≤ length g) (AllByRecursion Fit) (GroupStands outputs) (λ g some h. some_stand outputs g (at_least g some h)) (groups keyed) (groups_are_not_empty keyed) (keyed_groups keyed fit))

  -- the rows of an answer, before DISTINCT, ORDER BY and LIMIT
  grouped_fit : (list : SelectList) (columns : List ColumnName) → list_has_unknown scope snapshot list ≡ false → lacks_kind scope list ≡ false → breaks_groups scope columns list ≡ false → list_any (is_unknown scope) columns ≡ false
      → (rows : List (List Value)) → AllByRecursion Fit rows → Leaves (AllByRecursion (RowFits list)) (rows_of_groups scope snapshot columns list rows)
  grouped_fit All columns names kinds breaks known rows all = absurd cc
  grouped_fit (Outputs outputs) columns names kinds breaks known rows all =
      leaves_then (AllByRecursion (GroupStands outputs)) (AllByRecursion (RowFits (Outputs outputs))) (groups_by scope columns outputs rows) (λ gs. each (row_of_group scope snapshot (Outputs outputs)) gs)
      (groups_stand outputs columns known rows all) (λ gs stand. leaves_each (GroupStands outputs) (RowFits (Outputs outputs)) (row_of_group scope snapshot (Outputs outputs)) (group_fits outputs names kinds) gs stand)

  rows_by : (select : Select) (b : Bool) → is_grouped select ≡ b → list_has_unknown scope snapshot select.list ≡ false → lacks_kind scope select.list ≡ false → (is_grouped select && breaks_groups scope select.group_by select.list) ≡ false
      → list_any (is_unknown scope) select.group_by ≡ false → (rows : List (List Value)) → AllByRecursion Fit rows → Leaves (AllByRecursion (RowFits select.list)) (output_rows scope snapshot select rows)
  rows_by select true e names kinds breaks known rows all =
      let P : Result (List OutputRow) Refusal → Type 0 = λ r. Leaves (AllByRecursion (RowFits select.list)) r in
      let is : output_rows scope snapshot select rows ≡ rows_of_groups scope snapshot select.group_by select.list rows = rw e refl in
      subst P (sym is) (grouped_fit select.list select.group_by names kinds (sym (ap (λ b. b && breaks_groups scope select.group_by select.list) e) ∙ breaks) known rows all)
  rows_by select false e names kinds breaks known rows all =
      let P : Result (List OutputRow) Refusal → Type 0 = λ r. Leaves (AllByRecursion (RowFits select.list)) r in
      let is : output_rows scope snapshot select rows ≡ each (row_of_row scope snapshot select.list) rows = rw e refl in
      subst P (sym is) (leaves_each Fit (RowFits select.list) (row_of_row scope snapshot select.list) (row_fits select.list names kinds) rows all)

-- ---- DISTINCT, ORDER BY and LIMIT

module _ {X : Type 0} (P : X → Type 0) (before : X → X → Bool) where
  placed_by : (x y : X) (ys : List X) (b : Bool) → before y x ≡ b → P x → AllByRecursion P (y ∷ ys) → AllByRecursion P (placed before x ys) → AllByRecursion P (placed before x (y ∷ ys))
  placed_by x y ys true e h all ih = let Q : List X → Type 0 = λ l. AllByRecursion P l in let is : placed before x (y ∷ ys) ≡ y ∷ placed before x ys = rw e refl in subst Q (sym is) (all.0, ih)
  placed_by x y ys false e h all ih = let Q : List X → Type 0 = λ l. AllByRecursion P l in let is : placed before x (y ∷ ys) ≡ x ∷ y ∷ ys = rw e refl in subst Q (sym is) (h, all)

  all_placed : (x : X) (ys : List X) → P x → AllByRecursion P ys → AllByRecursion P (placed before x ys)
  all_placed x [] h all = (h, tt)
  all_placed x (y ∷ ys) h all = placed_by x y ys (before y x) refl h all (all_placed x ys h all.1)

  all_ordered : (xs : List X) → AllByRecursion P xs → AllByRecursion P (ordered before xs)
  all_ordered [] all = tt
  all_ordered (x ∷ xs) all = all_placed x (ordered before xs) all.0 (all_ordered xs all.1)

all_limited : {X : Type 0} (P : X → Type 0) (limit : Option ℕ) (xs : List X) → AllByRecursion P xs → AllByRecursion P (limited limit xs)
all_limited P None xs all = all
all_limited P (Some n) xs all = all_take P n xs all

all_distinct : (P : OutputRow → Type 0) (b : Bool) (rows : List OutputRow) → AllByRecursion P rows → AllByRecursion P (if b then distinct rows else rows)
all_distinct P true rows all = all_firsts same_outputs same_outputs_equiv P rows all
all_distinct P false rows all = all

finished_fit : (columns : List ColumnRecord) (select : Select) (keys : List SortKey) (rows : List OutputRow) → AllByRecursion (λ (row : OutputRow). IsTrue (fits columns row.outputs)) rows → AllFit columns (finished select keys rows)
finished_fit columns select keys rows all =
    let P : OutputRow → Type 0 = λ row. IsTrue (fits columns row.outputs) in
    let different = if select.distinct then distinct rows else rows in
    all_map (λ (row : List Value). IsTrue (fits columns row)) outputs_of (limited select.limit (sorted_by keys different))
    (all_limited P select.limit (sorted_by keys different) (all_ordered P (λ a b. is_lt (keys_cmp keys a b)) different (all_distinct P select.distinct rows all)))

-- ---- keys

-- a test that an element passes passes before the end
before_end_by : {X : Type 0} (p : X → Bool) (x : X) (xs : List X) (b : Bool) → p x ≡ b → list_any p (x ∷ xs) ≡ true → (list_any p xs ≡ true → position_or_len p xs < length xs) → position_or_len p (x ∷ xs) < length (x ∷ xs)
before_end_by p x xs true h e ih = rw h (omega arith)
before_end_by p x xs false h e ih = let behind = ih (sym (ap (λ c. c || list_any p xs) h) ∙ e) in rw h (omega (arith, behind))

before_end : {X : Type 0} (p : X → Bool) (xs : List X) → list_any p xs ≡ true → position_or_len p xs < length xs
before_end p [] e = absurd cc
before_end p (x ∷ xs) e = before_end_by p x xs (p x) refl e (before_end p xs)

found_place : {X : Type 0} (p : X → Bool) (xs : List X) → list_any p xs ≡ true → position p xs ≡ Some (position_or_len p xs)
found_place p xs e = rw (lt-ltb (position_or_len p xs) (length xs) (before_end p xs e)) refl

output_found : (columns : List ColumnRecord) (table : Option (List ℕ)) (column : List ℕ) → names_output columns (record { table = table; column = column }) ≡ true → (n : ℕ) × (output_place columns table column ≡ Some n)
output_found columns None column e = (_, found_place _ columns e)
output_found columns (Some table) column e = absurd cc

place_found : (columns : List ColumnRecord) (place : Option ℕ) → is_none (kind_in columns place) ≡ false → (n : ℕ) × (place ≡ Some n)
place_found columns None e = absurd cc
place_found columns (Some n) e = (n, refl)

key_by_output : (of_rows : Bool) (output column : Option ℕ) (n : ℕ) → output ≡ Some n → Leaves (Any {Y = KeyPlace}) (key_place of_rows output column)
key_by_output of_rows output column n e = let P : Option ℕ → Type 0 = λ o. Leaves (Any {Y = KeyPlace}) (key_place of_rows o column) in subst P (sym e) tt

key_by_column : (output : Option ℕ) (column : Option ℕ) (n : ℕ) → column ≡ Some n → Leaves (Any {Y = KeyPlace}) (key_place true output column)
key_by_column (Some m) column n e = tt
key_by_column None column n e = let P : Option ℕ → Type 0 = λ c. Leaves (Any {Y = KeyPlace}) (key_place true None c) in subst P (sym e) tt

not_false : (b : Bool) → not b ≡ false → b ≡ true
not_false true e = refl
not_false false e = cc

not_true : (b : Bool) → not b ≡ true → b ≡ false
not_true true e = cc
not_true false e = refl

module _ (scope : List TableSchema) (select : Select) (columns : List ColumnRecord) where
  abbrev of_rows : Bool
  of_rows = not (is_grouped select || select.distinct)

  place_by : (key : OrderKey) (named : Bool) → names_output columns key.column ≡ named → is_key scope select columns key.column ≡ true
      → Leaves (Any {Y = KeyPlace}) (key_place of_rows (output_place columns key.column.table key.column.column) (place_of scope key.column))
  place_by key true e is =
      let found = output_found columns key.column.table key.column.column e in
      key_by_output of_rows (output_place columns key.column.table key.column.column) (place_of scope key.column) found.0 found.1
  place_by key false e is =
      let both = and_both of_rows (not (is_unknown scope key.column)) (sym (ap (λ b. b || (of_rows && not (is_unknown scope key.column))) e) ∙ is) in
      let found = place_found (columns_of scope) (place_of scope key.column) (not_true (is_unknown scope key.column) both.1) in
      let P : Bool → Type 0 = λ b. Leaves (Any {Y = KeyPlace}) (key_place b (output_place columns key.column.table key.column.column) (place_of scope key.column)) in
      subst P (sym both.0) (key_by_column (output_place columns key.column.table key.column.column) (place_of scope key.column) found.0 found.1)

  key_is : (key : OrderKey) → not (is_key scope select columns key.column) ≡ false → Leaves (Any {Y = SortKey}) (sort_key select scope columns key)
  key_is key e =
      leaves_then (Any {Y = KeyPlace}) (Any {Y = SortKey}) (key_place of_rows (output_place columns key.column.table key.column.column) (place_of scope key.column)) (λ place. Ok (record { place = place; direction = key.direction }))
      (place_by key (names_output columns key.column) refl (not_false (is_key scope select columns key.column) e)) (λ place h. tt)

  keys_are : keys_have_unknown scope select columns ≡ false → Leaves (AllByRecursion (Any {Y = SortKey})) (each (sort_key select scope columns) select.order_by)
  keys_are e =
      leaves_each (λ (key : OrderKey). not (is_key scope select columns key.column) ≡ false) (Any {Y = SortKey}) (sort_key select scope columns) key_is select.order_by
      (none_pass (λ (key : OrderKey). not (is_key scope select columns key.column)) select.order_by e)

-- ---- the answer

abbrev Whole : List ColumnRecord → Answer → Type 0
Whole columns a = (a.columns ≡ columns) × AllFit columns a.rows

is_answer : (columns : List ColumnRecord) (r : Result Answer Refusal) → Leaves (Whole columns) r → IsAnswerOf columns r
is_answer columns (Ok a) h = h
is_answer columns (Err why) h = h

pub checked_selects_answer : CheckedSelectsAnswer
checked_selects_answer select scope snapshot firsts seconds names types fit =
    let columns = answer_columns scope select.list in
    let n = or_none (list_has_unknown scope snapshot select.list || where_has_unknown scope snapshot select.condition || list_any (is_unknown scope) select.group_by) (keys_have_unknown scope select columns) names in
    let m = or_none (list_has_unknown scope snapshot select.list || where_has_unknown scope snapshot select.condition) (list_any (is_unknown scope) select.group_by) n.0 in
    let l = or_none (list_has_unknown scope snapshot select.list) (where_has_unknown scope snapshot select.condition) m.0 in
    let t = or_none (lacks_kind scope select.list || where_compares_apart scope select.condition) (is_grouped select && breaks_groups scope select.group_by select.list) types in
    let u = or_none (lacks_kind scope select.list) (where_compares_apart scope select.condition) t.0 in
    let Rows : List (List Value) → Type 0 = AllByRecursion (λ (row : List Value). IsTrue (fits (columns_of scope) row)) in
    let Found : List OutputRow → Type 0 = AllByRecursion (λ (row : OutputRow). IsTrue (fits columns row.outputs)) in
    let finish : List OutputRow → List SortKey → Result Answer Refusal = λ found keys. Ok (record { columns = columns; rows = finished select keys found }) in
    is_answer columns (answer select scope columns snapshot firsts seconds)
    (leaves_then Rows (Whole columns) (kept (holds_at scope snapshot select.condition) (joined_rows firsts seconds))
    (λ rows. output_rows scope snapshot select rows >>= (λ found. each (sort_key select scope columns) select.order_by >>= (λ keys. finish found keys)))
    (kept_fit (λ (row : List Value). IsTrue (fits (columns_of scope) row)) (holds_at scope snapshot select.condition) (holds_ok scope snapshot select.condition l.1 u.1) (joined_rows firsts seconds) (joined_fit scope firsts seconds fit))
    (λ rows all. leaves_then Found (Whole columns) (output_rows scope snapshot select rows) (λ found. each (sort_key select scope columns) select.order_by >>= (λ keys. finish found keys))
    (rows_by scope snapshot select (is_grouped select) refl l.0 u.0 t.1 m.1 rows all)
    (λ found good. leaves_then (AllByRecursion (Any {Y = SortKey})) (Whole columns) (each (sort_key select scope columns) select.order_by) (λ keys. finish found keys) (keys_are scope select columns n.1)
    (λ keys h. (refl, finished_fit columns select keys found good)))))

-- the rows of its answer fit its columns
pub answers_fit : (select : Select) (scope : List TableSchema) (snapshot : Option ℕ) (firsts : List (List Value)) (seconds : Option (List (List Value))) (found : Answer) → RowsFit scope firsts seconds
    → select_has_unknown snapshot select scope ≡ false → select_is_mistyped select scope ≡ false → answer select scope (answer_columns scope select.list) snapshot firsts seconds ≡ Ok found → AllFit found.columns found.rows
answers_fit select scope snapshot firsts seconds found fit names types e =
    let P : Result Answer Refusal → Type 0 = λ r. IsAnswerOf (answer_columns scope select.list) r in
    let Q : List ColumnRecord → Type 0 = λ columns. AllFit columns found.rows in
    let is = subst P e (checked_selects_answer select scope snapshot firsts seconds names types fit) in
    subst Q (sym is.0) is.1
