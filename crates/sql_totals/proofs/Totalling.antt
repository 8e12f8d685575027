-- Totals with a row more, and what they give in the end.
use Rattle.std.proofs.Common.{◌≡◌, ◌∙◌, ◌==◌, ◌<◌, ◌||◌, ◌+◌, ◌+ℤ◌, ℕ, ℤ, suc, pos, Bool, true, false, not, ◌&&◌, ◌||◌, Option, Some, None, List, [], ◌∷◌, ◌++◌, Result, Ok, Err, map, fold, length, refl, sym, ap, subst, arith, append-nil, drop, get_or, length-append, if◌then◌else◌}
use Rattle.std.specs.Option.{ok_or}
use Rattle.std.specs.Prelude.{IsOk, is_none}
use Rattle.std.specs.List.{AllByRecursion, list_all}
use Rattle.std.proofs.lemmas.Bool.{eqb-true}
use Rattle.std.proofs.lemmas.Bool.Decides.{nat_tests}
use Rattle.std.proofs.lemmas.Int.{ints}
use Rattle.std.proofs.lemmas.List.{map-append}
use Rattle.std.proofs.lemmas.List.Sums.{fold-append}
use Rattle.std.proofs.Math.IntN.{+ℤ_assoc}
use Rattle.retro_base.specs.Gives.{◌>>=◌}
use Rattle.retro_base.specs.declared.refusal.Refusal.{Refusal}
use Rattle.retro_base.specs.declared.refusal.Refusal.TheVariants.{Overflow}
use Rattle.values.specs.declared.value.Value.{Value}
use Rattle.sql_tree.specs.declared.name.ColumnName.{ColumnName}
use Rattle.sql_tree.specs.declared.schema.TableSchema.{TableSchema}
use Rattle.sql_tree.specs.declared.select.Aggregate.{Aggregate}
use Rattle.sql_tree.specs.declared.select.Output.{Output}
use Rattle.sql_tree.specs.declared.select.OutputValue.{OutputValue}
use Rattle.sql_tree.specs.declared.select.OutputValue.TheVariants as value
use Rattle.sql_tree.specs.declared.select.Select.{Select}
use Rattle.sql_tree.specs.declared.select.SelectList.{SelectList}
use Rattle.sql_tree.specs.declared.select.SelectList.TheVariants as list
use Rattle.sql_tree.specs.declared.statement.Column.{Column}
use Rattle.sql_tree.specs.Select.{has_aggregate, is_aggregate, is_grouped, outputs_of}
use Rattle.evaluation.specs.Bound.{value_at}
use Rattle.sql_select.specs.Aggregates.{best_of, number_of, sum_of, total, whole}
use Rattle.sql_select.specs.Bound.{better, choice, counted_over, keeps, list_over, over}
use Rattle.sql_select.specs.Each.{each}
use Rattle.sql_select.specs.Outputs.{aggregate_over, is_there_over_none, output_over, outputs_over}
use Rattle.sql_select.specs.Rows.{holds_at, kept}
use Rattle.sql_select.specs.Select.{answer, answer_of, output_rows, row_of_group, row_of_row, rows_of_groups}
use Rattle.sql_totals.specs.Totals.{AreOf, IsOver, added, best_at, best_so_far, best_with, counted, is_i128, is_of_one_group, output_of, rows_after, rows_if, summed, tally, tally_with, tally_with_kept, value_after, wide, with_row}
use Rattle.sql_select.specs.declared.outputs.BoundList.TheVariants.{Outputs}
use Rattle.sql_select.specs.declared.outputs.BoundOutput.{BoundOutput}
use Rattle.sql_totals.specs.declared.totals.Total.{Total}
use Rattle.sql_totals.specs.declared.totals.Total.TheVariants.{CountRows, Count, Sum, Extreme}
use Rattle.sql_totals.specs.declared.totals.Totals.{Totals}
use Rattle.sql_select.proofs.BoundOutputs.{if_true, list-means, means, more_means}
use Rattle.sql_select.proofs.Eaches.{item_at, kept-append}

ok_same : {A : Type 0} {a b : A} → ◌≡◌ {A = Result A Refusal} (Ok a) (Ok b) → a ≡ b
ok_same e = cc

-- an answer that went on had a value to go on with
bind_ok : {A B : Type 0} (r : Result A Refusal) (f : A → Result B Refusal) (z : B) → r >>= f ≡ Ok z → (a : A) × (r ≡ Ok a) × (f a ≡ Ok z)
bind_ok (Ok a) f z e = (a, refl, e)
bind_ok {A} {B} (Err why) f z e = let bad : ◌≡◌ {A = Result B Refusal} (Err why) (Ok z) = e in absurd cc

-- a number that fits is what it was
fits : {X : Type 0} (b : Bool) (x y : X) → ok_or (if b then Some x else None) Overflow ≡ Ok y → x ≡ y
fits true x y e = ok_same e
fits {X} false x y e = let bad : ◌≡◌ {A = Result X Refusal} (Err Overflow) (Ok y) = e in absurd cc

module _ {X Y : Type 0} (f : X → Result Y Refusal) where
  again : (r : Result (List Y) Refusal) → r ≡ r >>= (λ l. Ok ([] ++ l))
  again (Ok l) = refl
  again (Err why) = refl

  each_on : (x : X) (xs ys : List X) (h : Result Y Refusal) (one others : Result (List Y) Refusal) → f x ≡ h → each f xs ≡ one → each f ys ≡ others
      → each f (xs ++ ys) ≡ each f xs >>= (λ l. each f ys >>= (λ m. Ok (l ++ m)))
      → each f ((x ∷ xs) ++ ys) ≡ each f (x ∷ xs) >>= (λ l. each f ys >>= (λ m. Ok (l ++ m)))
  each_on x xs ys (Err why) one others h o r ih = rw h refl
  each_on x xs ys (Ok y) (Err why) others h o r ih = rw (h, ih, o) refl
  each_on x xs ys (Ok y) (Ok l) (Err why) h o r ih = rw (h, ih, o, r) refl
  each_on x xs ys (Ok y) (Ok l) (Ok m) h o r ih = rw (h, ih, o, r) refl

  each-append : (xs ys : List X) → each f (xs ++ ys) ≡ each f xs >>= (λ l. each f ys >>= (λ m. Ok (l ++ m)))
  each-append [] ys = again (each f ys)
  each-append (x ∷ xs) ys = each_on x xs ys (f x) (each f xs) (each f ys) refl refl refl (each-append xs ys)

  -- an item more
  each_last : (xs : List X) (x : X) (ys : List Y) (y : Y) → each f xs ≡ Ok ys → f x ≡ Ok y → each f (xs ++ x ∷ []) ≡ Ok (ys ++ y ∷ [])
  each_last xs x ys y e g = each-append xs (x ∷ []) ∙ rw (e, g) refl

  each_length : (xs : List X) (ys : List Y) → each f xs ≡ Ok ys → length ys ≡ length xs
  each_length [] ys e = let none : [] ≡ ys = ok_same e in ap length (sym none)
  each_length (x ∷ xs) ys e =
      let one = bind_ok (f x) (λ y. each f xs >>= (λ l. Ok (y ∷ l))) ys e in
      let rest = bind_ok (each f xs) (λ l. Ok (one.0 ∷ l)) ys one.2 in
      ap length (sym (ok_same rest.2)) ∙ ap suc (each_length xs rest.0 rest.1)

total_last : (ns : List ℤ) (n : ℤ) → total (ns ++ n ∷ []) ≡ total ns +ℤ n
total_last [] n = omega (arith, ints)
total_last (m ∷ ns) n = ap (λ z. m +ℤ z) (total_last ns n) ∙ sym (+ℤ_assoc m (total ns) n)

best_last : (choose : Value → Value → Value) (values : List Value) (value : Value) → best_so_far choose (values ++ value ∷ []) ≡ Some (better choose (best_so_far choose values) value)
best_last choose [] value = refl
best_last choose (first ∷ values) value = ap (λ v. Some v) (fold-append choose first values (value ∷ []))

module _ (at : List Value → Result Value Refusal) (rows : List (List Value)) (row : List Value) where
  counted_by : (r : Result (List Value) Refusal) (v : Result Value Refusal) → each at rows ≡ r → at row ≡ v → IsOk r → IsOk v → IsOk (each at (rows ++ row ∷ []))
  counted_by (Ok values) (Ok value) e g i j = rw (each_last at rows row values value e g) refl
  counted_by (Ok values) (Err why) e g i j = absurd cc
  counted_by (Err why) v e g i j = absurd cc

  counted_more : IsOk (each at rows) → IsOk (at row) → IsOk (each at (rows ++ row ∷ []))
  counted_more i j = counted_by (each at rows) (at row) refl refl i j

  summed_more : (sum after : ℤ) → summed at rows ≡ Ok sum → added at sum row ≡ Ok after → summed at (rows ++ row ∷ []) ≡ Ok after
  summed_more sum after so_far more =
      let old = bind_ok (each at rows) (λ values. each number_of values >>= (λ numbers. Ok (total numbers))) sum so_far in
      let was = bind_ok (each number_of old.0) (λ numbers. Ok (total numbers)) sum old.2 in
      let new = bind_ok (at row) (λ value. number_of value >>= (λ number. ok_or (wide (sum +ℤ number)) Overflow)) after more in
      let is = bind_ok (number_of new.0) (λ number. ok_or (wide (sum +ℤ number)) Overflow) after new.2 in
      ap (λ r. r >>= (λ values. each number_of values >>= (λ numbers. Ok (total numbers)))) (each_last at rows row old.0 new.0 old.1 new.1)
      ∙ ap (λ r. r >>= (λ numbers. Ok (total numbers))) (each_last number_of old.0 new.0 was.0 is.0 was.1 is.1)
      ∙ ap (λ z. Ok z) (total_last was.0 is.0 ∙ ap (λ z. z +ℤ is.0) (ok_same was.2))
      ∙ ap (λ z. Ok z) (fits (is_i128 (sum +ℤ is.0)) (sum +ℤ is.0) after is.2)

  best_more : (choose : Value → Value → Value) (best : Option Value) (after : Value) → best_at choose at rows ≡ Ok best → best_with choose at best row ≡ Ok after → best_at choose at (rows ++ row ∷ []) ≡ Ok (Some after)
  best_more choose best after so_far more =
      let old = bind_ok (each at rows) (λ values. Ok (best_so_far choose values)) best so_far in
      let new = bind_ok (at row) (λ value. Ok (better choose best value)) after more in
      ap (λ r. r >>= (λ values. Ok (best_so_far choose values))) (each_last at rows row old.0 new.0 old.1 new.1)
      ∙ ap (λ o. Ok o) (best_last choose old.0 new.0 ∙ ap (λ o. Some (better choose o new.0)) (ok_same old.2) ∙ ap (λ v. Some v) (ok_same new.2))

-- a total with a row more is over a row more, and of the same output
pub total_more : (rows : List (List Value)) (row : List Value) (before after : Total) → IsOver rows before → with_row row before ≡ Ok after → IsOver (rows ++ row ∷ []) after × (output_of after ≡ output_of before)
total_more rows row CountRows after is more = subst (λ t. IsOver (rows ++ row ∷ []) t × (output_of t ≡ output_of CountRows)) (ok_same more) (tt, refl)
total_more rows row (Count e) after is more =
    let new = bind_ok (value_at e row) (λ _. Ok (Count e)) after more in
    let there : IsOk (value_at e row) = rw new.1 refl in
    subst (λ t. IsOver (rows ++ row ∷ []) t × (output_of t ≡ output_of (Count e))) (ok_same new.2) (counted_more (value_at e) rows row is there, refl)
total_more rows row (Sum s) after is more =
    let new = bind_ok (added (value_at s.of) s.sum row) (λ z. Ok (Sum (record { of = s.of; sum = z }))) after more in
    subst (λ t. IsOver (rows ++ row ∷ []) t × (output_of t ≡ output_of (Sum s))) (ok_same new.2) (summed_more (value_at s.of) rows row s.sum new.0 is new.1, refl)
total_more rows row (Extreme which e best) after is more =
    let new = bind_ok (best_with (choice which) (value_at e) best row) (λ v. Ok (Extreme which e (Some v))) after more in
    subst (λ t. IsOver (rows ++ row ∷ []) t × (output_of t ≡ output_of (Extreme which e best))) (ok_same new.2) (best_more (value_at e) rows row (choice which) best new.0 is new.1, refl)

-- the same of several totals
pub totals_more : (rows : List (List Value)) (row : List Value) (before after : List Total) → each (with_row row) before ≡ Ok after → AllByRecursion (IsOver rows) before → AllByRecursion (IsOver (rows ++ row ∷ [])) after × (map output_of after ≡ map output_of before)
totals_more rows row [] after more is = subst (λ (ts : List Total). AllByRecursion (IsOver (rows ++ row ∷ [])) ts × (map output_of ts ≡ [])) (ok_same more) (tt, refl)
totals_more rows row (t ∷ ts) after more is =
    let one = bind_ok (with_row row t) (λ u. each (with_row row) ts >>= (λ us. Ok (u ∷ us))) after more in
    let rest = bind_ok (each (with_row row) ts) (λ us. Ok (one.0 ∷ us)) after one.2 in
    let here = total_more rows row t one.0 is.0 one.1 in
    let there = totals_more rows row ts rest.0 rest.1 is.1 in
    subst (λ (us : List Total). AllByRecursion (IsOver (rows ++ row ∷ [])) us × (map output_of us ≡ map output_of (t ∷ ts))) (ok_same rest.2)
    ((here.0, there.0), ap (λ o. o ∷ map output_of rest.0) here.1 ∙ ap (λ os. output_of t ∷ os) there.1)

-- what a total gives is what its output gives over the rows
counted_is : (at : List Value → Result Value Refusal) (rows : List (List Value)) (r : Result (List Value) Refusal) → each at rows ≡ r → IsOk r → counted_over at rows ≡ whole (pos (length rows))
counted_is at rows (Ok values) e i = rw e (ap (λ n. whole (pos n)) (each_length at rows values e))
counted_is at rows (Err why) e i = absurd cc

best_is : (choose : Value → Value → Value) (which : _) (e : _) (values : List Value) (best : Option Value) → best_so_far choose values ≡ best → best_of choose values ≡ value_after (length values) (Extreme which e best)
best_is choose which e [] None h = refl
best_is choose which e [] (Some best) h = absurd cc
best_is choose which e (value ∷ values) None h = absurd cc
best_is choose which e (value ∷ values) (Some best) h = ap (λ v. Ok v) (let same : Some (fold choose value values) ≡ Some best = h in cc)

total_is : (rows : List (List Value)) (t : Total) → IsOver rows t → over (output_of t) rows ≡ value_after (length rows) t
total_is rows CountRows is = refl
total_is rows (Count e) is = counted_is (value_at e) rows (each (value_at e) rows) refl is
total_is rows (Sum s) is =
    let old = bind_ok (each (value_at s.of) rows) (λ values. each number_of values >>= (λ numbers. Ok (total numbers))) s.sum is in
    let was = bind_ok (each number_of old.0) (λ numbers. Ok (total numbers)) s.sum old.2 in
    ap (λ r. r >>= sum_of) old.1 ∙ ap (λ r. r >>= (λ numbers. whole (total numbers))) was.1 ∙ ap whole (ok_same was.2)
total_is rows (Extreme which e best) is =
    let old = bind_ok (each (value_at e) rows) (λ values. Ok (best_so_far (choice which) values)) best is in
    ap (λ r. r >>= best_of (choice which)) old.1 ∙ best_is (choice which) which e old.0 best (ok_same old.2) ∙ ap (λ n. value_after n (Extreme which e best)) (each_length (value_at e) rows old.0 old.1)

totals_are : (rows : List (List Value)) (ts : List Total) → AllByRecursion (IsOver rows) ts → list_over (Outputs (map output_of ts)) rows ≡ each (value_after (length rows)) ts
totals_are rows [] is = refl
totals_are rows (t ∷ ts) is =
    ap (λ r. r >>= (λ y. each (λ output. over output rows) (map output_of ts) >>= (λ ys. Ok (y ∷ ys)))) (total_is rows t is.0)
    ∙ ap (λ r. value_after (length rows) t >>= (λ y. r >>= (λ ys. Ok (y ∷ ys)))) (totals_are rows ts is.1)

one_row : (r : Result (List Value) Refusal) → (r >>= (λ outputs. Ok (record { outputs = outputs; origin = [] }))) >>= (λ y. Ok (y ∷ [])) ≡ rows_if true r
one_row (Ok outputs) = refl
one_row (Err why) = refl

module _ (scope : List TableSchema) (n : Option ℕ) (ts : List Total) where
  group_is : (of : SelectList) (rows : List (List Value)) → outputs_over scope n of rows ≡ each (value_after (length rows)) ts → each (row_of_group scope n of) (rows ∷ []) ≡ rows_if true (each (value_after (length rows)) ts)
  group_is of rows e =
      ap (λ r. (r >>= (λ outputs. Ok (record { outputs = outputs; origin = [] }))) >>= (λ y. Ok (y ∷ []))) e ∙ one_row (each (value_after (length rows)) ts)

  none_is : (of : SelectList) (there : Bool) → outputs_over scope n of [] ≡ each (value_after 0) ts → each (row_of_group scope n of) (if there then [] ∷ [] else []) ≡ rows_if there (each (value_after 0) ts)
  none_is of true e = group_is of [] e
  none_is of false e = refl

  groups_are : (columns : List ColumnName) (of : SelectList) (rows : List (List Value)) → columns ≡ [] → has_aggregate of ≡ true → outputs_over scope n of rows ≡ each (value_after (length rows)) ts
      → rows_of_groups scope n columns of rows ≡ rows_after (outputs_of of) (length rows) ts
  groups_are (column ∷ columns) of rows c a e = absurd cc
  groups_are [] list.All rows c a e = absurd cc
  groups_are [] (list.Outputs outputs) [] c a e = none_is (list.Outputs outputs) (list_all (λ (output : Output). is_there_over_none output.value) outputs) e
  groups_are [] (list.Outputs outputs) (row ∷ rows) c a e =
      let some : (suc (length rows) == 0) ≡ false = grind (arith, nat_tests) in
      group_is (list.Outputs outputs) (row ∷ rows) e
      ∙ ap (λ b. rows_if (not b || list_all (λ (output : Output). is_there_over_none output.value) outputs) (each (value_after (suc (length rows))) ts)) (sym some)

both_of : (a b : Bool) → (a && b) ≡ true → (a ≡ true) × (b ≡ true)
both_of true true e = (refl, refl)
both_of true false e = absurd cc
both_of false b e = absurd cc

or_nothing : (a b : Bool) → (a || not b) ≡ true → b ≡ true → a ≡ true
or_nothing true b e h = refl
or_nothing false true e h = absurd cc
or_nothing false false e h = absurd cc

empty_is : {X : Type 0} (xs : List X) → (length xs == 0) ≡ true → xs ≡ []
empty_is [] e = refl
empty_is (x ∷ xs) e = let none : suc (length xs) ≡ 0 = eqb-true (suc (length xs)) 0 e in absurd (omega arith)

-- a total more
pub over_more : (rows : List (List Value)) (totals : List Total) (total : Total) → AllByRecursion (IsOver rows) totals → IsOver rows total → AllByRecursion (IsOver rows) (totals ++ total ∷ [])
over_more rows [] total are is = (is, tt)
over_more rows (first ∷ totals) total are is = (are.0, over_more rows totals total are.1 is)

-- an output more, which is an aggregate
module _ (outputs : List Output) (i : ℕ) (output : Output) (lt : i < length outputs) (here : output ≡ get_or outputs i output) (aggregate : Aggregate) (is : output.value ≡ value.Aggregate aggregate) where
  pub aggregate-more : list_all (λ (output : Output). is_aggregate output.value) (drop i outputs) ≡ list_all (λ (output : Output). is_aggregate output.value) outputs
      → list_all (λ (output : Output). is_aggregate output.value) (drop (i + 1) outputs) ≡ list_all (λ (output : Output). is_aggregate output.value) outputs
  aggregate-more so_far =
      let rest = list_all (λ (output : Output). is_aggregate output.value) (drop (i + 1) outputs) in
      sym (ap (list_all (λ (output : Output). is_aggregate output.value)) (item_at outputs i output lt here) ∙ ap (λ (of : OutputValue). is_aggregate of && rest) is) ∙ so_far

  pub bound-more : (scope : List TableSchema) (n : Option ℕ) (totals : List Total) (total : Total) → over (output_of total) ≡ (λ rows. aggregate_over scope n rows aggregate)
      → map over (map output_of totals) ++ map (means scope n) (drop i outputs) ≡ map (means scope n) outputs → map over (map output_of (totals ++ total ∷ [])) ++ map (means scope n) (drop (i + 1) outputs) ≡ map (means scope n) outputs
  bound-more scope n totals total gives so_far =
      let at : OutputValue → List (List Value) → Result Value Refusal = λ of rows. output_over scope n rows of in
      ap (λ (l : List BoundOutput). map over l ++ map (means scope n) (drop (i + 1) outputs)) (map-append output_of totals (total ∷ []))
      ∙ more_means scope n (map output_of totals) (output_of total) outputs i output lt here (gives ∙ ap at (sym is)) so_far

-- a select of one group has an aggregate, and no columns of GROUP BY
aggregate_of : (select : Select) → is_of_one_group select ≡ true → (select.group_by ≡ []) × (has_aggregate select.list ≡ true)
aggregate_of select one_group =
    let shape = both_of (is_none select.second && (length select.group_by == 0)) (is_grouped select) one_group in
    let columns = both_of (is_none select.second) (length select.group_by == 0) shape.0 in
    (empty_is select.group_by columns.1, or_nothing (has_aggregate select.list) (length select.group_by == 0) shape.1 columns.1)

-- its outputs are bound
pub outputs_are : (scope : List TableSchema) (n : Option ℕ) (select : Select) (bounds : List BoundOutput) → is_of_one_group select ≡ true → map over bounds ≡ map (means scope n) (outputs_of select.list)
    → list_over (Outputs bounds) ≡ (λ rows. outputs_over scope n select.list rows)
outputs_are scope n select bounds one_group e = go select.list (aggregate_of select one_group).1 e
  where
    go : (of : SelectList) → has_aggregate of ≡ true → map over bounds ≡ map (means scope n) (outputs_of of) → list_over (Outputs bounds) ≡ (λ rows. outputs_over scope n of rows)
    go list.All a e = absurd cc
    go (list.Outputs outputs) a e = list-means scope n bounds outputs e

-- a count that fits is what it was
pub counted_as : (b : Bool) {n m : ℕ} → (if b then Some n else None) ≡ Some m → m ≡ n
counted_as true {n} {m} e = let same : Some n ≡ Some m = e in cc
counted_as false e = absurd cc

-- what the totals are with a row more that WHERE keeps
pub tally_kept : (row : List Value) (was : Totals) (rows : ℕ) (items : List Total) → keeps was.filter row ≡ Ok true → counted (was.rows + 1) ≡ Some rows → each (with_row row) was.totals.items ≡ Ok items → tally_with row was ≡ Ok (rows, items)
tally_kept row was rows items holds count more =
    ap (λ (r : Result Bool Refusal). r >>= (λ is_kept. if is_kept then tally_with_kept row was else Ok (tally was))) holds
    ∙ ap (λ (r : Option ℕ). ok_or r Overflow >>= (λ count. each (with_row row) was.totals.items >>= (λ totals. Ok (count, totals)))) count
    ∙ ap (λ (r : Result (List Total) Refusal). r >>= (λ totals. Ok (rows, totals))) more

module _ (holds : List Value → Result Bool Refusal) (rows kept_rows : List (List Value)) (row : List Value) (so_far : kept holds rows ≡ Ok kept_rows) where
  kept_by : (b : Bool) → holds row ≡ Ok b → kept holds (rows ++ row ∷ []) ≡ Ok (kept_rows ++ (if b then row ∷ [] else []))
  kept_by b e = kept-append holds rows (row ∷ []) ∙ rw (so_far, e) refl

module _ (select : Select) (scope : List TableSchema) (n : Option ℕ) (rows : List (List Value)) (totals : Totals) (are : AreOf select scope n rows totals) where
  one_row_is : output_rows scope n select are.kept_rows ≡ rows_after (outputs_of select.list) totals.rows totals.totals.items
  one_row_is =
      let of_one = aggregate_of select are.one_group in
      if_true (is_grouped select) (rows_of_groups scope n select.group_by select.list are.kept_rows) (each (row_of_row scope n select.list) are.kept_rows) (both_of (is_none select.second && (length select.group_by == 0)) (is_grouped select) are.one_group).1
      ∙ groups_are scope n totals.totals.items select.group_by select.list are.kept_rows of_one.0 of_one.1
      (sym (ap (λ (g : List (List Value) → Result (List Value) Refusal). g are.kept_rows) are.outputs) ∙ totals_are are.kept_rows totals.totals.items are.over)
      ∙ ap (λ count. rows_after (outputs_of select.list) count totals.totals.items) (sym are.count)

  -- the answer over the rows
  pub answer_is : (columns : List Column) → answer select scope columns n rows None ≡ rows_after (outputs_of select.list) totals.rows totals.totals.items >>= answer_of select scope columns
  answer_is columns =
      ap (λ r. r >>= (λ found. output_rows scope n select found >>= answer_of select scope columns)) are.kept
      ∙ ap (λ r. r >>= answer_of select scope columns) one_row_is

  module _ (row : List Value) (after : Totals) (same : after.filter ≡ totals.filter) where
    kept_so : (b : Bool) → keeps totals.filter row ≡ Ok b → kept (holds_at scope n select.condition) (rows ++ row ∷ []) ≡ Ok (are.kept_rows ++ (if b then row ∷ [] else []))
    kept_so b holds = kept_by (holds_at scope n select.condition) rows are.kept_rows row are.kept b (ap (λ (f : List Value → Result Bool Refusal). f row) (sym are.filter) ∙ holds)

    -- a row more that is kept
    pub row_kept : keeps totals.filter row ≡ Ok true → each (with_row row) totals.totals.items ≡ Ok after.totals.items → after.rows ≡ totals.rows + 1 → AreOf select scope n (rows ++ row ∷ []) after
    row_kept holds added_to count =
        let more = totals_more are.kept_rows row totals.totals.items after.totals.items added_to are.over in
        record {
          one_group = are.one_group;
          filter = ap keeps same ∙ are.filter;
          outputs = ap (λ (l : List BoundOutput). list_over (Outputs l)) more.1 ∙ are.outputs;
          kept_rows = are.kept_rows ++ row ∷ [];
          kept = kept_so true holds;
          count = omega (arith, count, are.count, length-append are.kept_rows (row ∷ []));
          over = more.0;
        }

    -- a row more that is not kept
    pub row_skipped : keeps totals.filter row ≡ Ok false → after.totals.items ≡ totals.totals.items → after.rows ≡ totals.rows → AreOf select scope n (rows ++ row ∷ []) after
    row_skipped holds items count = record {
      one_group = are.one_group;
      filter = ap keeps same ∙ are.filter;
      outputs = ap (λ (l : List Total). list_over (Outputs (map output_of l))) items ∙ are.outputs;
      kept_rows = are.kept_rows;
      kept = kept_so false holds ∙ ap (λ (l : List (List Value)). Ok l) (append-nil are.kept_rows);
      count = count ∙ are.count;
      over = subst (λ (l : List Total). AllByRecursion (IsOver are.kept_rows) l) (sym items) are.over;
    }
