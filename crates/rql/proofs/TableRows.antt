-- The rows of a table fit its columns where those of the answers fit theirs.
use Rattle.std.proofs.Common.{◌≡◌, ◌≤◌, ◌+◌, ◌||◌, ℕ, zero, suc, ℤ, pos, Bool, true, false, cond, List, [], ◌∷◌, ◌++◌, map, fold, length, drop, slice_get, Option, Some, None, Result, Ok, Err, refl, arith, add-one, if◌then◌else◌}
use Rattle.std.specs.Prelude.{IfOk, IsTrue}
use Rattle.std.specs.List.{AllByRecursion, cons_option, enumerate_from, filter, filter_map, list_any}
use Rattle.std.specs.Option.{option_map_or}
use Rattle.std.specs.Ordering.{is_lt}
use Rattle.retro_base.specs.Gives.{◌>>=◌}
use Rattle.retro_base.specs.declared.refusal.Refusal.{Refusal}
use Rattle.retro_base.specs.declared.refusal.Refusal.TheVariants.{NameTaken, UnknownName, WrongType}
use Rattle.values.specs.Value.{kind_of, value_cmp}
use Rattle.values.specs.declared.value.Kind.{Kind}
use Rattle.values.specs.declared.value.Kind.TheVariants as kind
use Rattle.values.specs.declared.value.Value.{Value}
use Rattle.sql_check.specs.Names.{has_twins}
use Rattle.sql_tree.specs.Rows.{same_kind, fits}
use Rattle.sql_kinds.proofs.Truths.{and_both, or_none}
use Rattle.sql_tree.specs.Evaluation.{in_range, narrow}
use Rattle.sql_tree.specs.declared.statement.Column.{Column}
use Rattle.sql_select.specs.Aggregates.{number_of, sum_of, total, whole}
use Rattle.sql_tree.specs.Rows.{AllFit}
use Rattle.sql_select.specs.Each.{each}
use Rattle.sql_select.specs.Groups.{groups, keys_of, rows_of_key}
use Rattle.sql_select.specs.declared.answer.Answer.{Answer}
use Rattle.sql_select.specs.declared.grouping.KeyedRow.{KeyedRow}
use Rattle.sql_select.proofs.Firsts.{all_filter}
use Rattle.sql_select.proofs.Following.{groups_are_not_empty}
use Rattle.sql_select.proofs.InGroups.{has_key, row_of}
use Rattle.rql.specs.Aggregates.{aggregate, better}
use Rattle.rql.specs.Collate.{joined}
use Rattle.rql.specs.Columns.{name_of, same_column, same_columns}
use Rattle.rql.specs.Gathering.{gathered, taken, taken_later}
use Rattle.rql.specs.Pairs.{column_name, function_of, names_unknown, sums_texts}
use Rattle.rql.specs.Table.{column_in, keyed_row, kind_in, paired_rows, row_of_group, table_rows, value_in, values_at}
use Rattle.rql.specs.TableLaws.{AnswerFits, TablesFit}
use Rattle.rql.specs.Variable.{adds_texts}
use Rattle.rql.specs.declared.function.Extreme.{Extreme}
use Rattle.rql.specs.declared.function.Extreme.TheVariants.{Least, Greatest}
use Rattle.rql.specs.declared.function.Function.{Function}
use Rattle.rql.specs.declared.function.Function.TheVariants.{Min, Max, Sum, Count}
use Rattle.rql.specs.declared.pair.Pair.{Pair}

-- ---- answers with a property, and lists

if_then : {X Y : Type 0} (P : X → Type 0) (Q : Y → Type 0) (r : Result X Refusal) (f : X → Result Y Refusal) → IfOk r P → ((x : X) → P x → IfOk (f x) Q) → IfOk (r >>= f) Q
if_then P Q (Ok x) f h go = go x h
if_then P Q (Err why) f h go = tt

if_each : {X Y : Type 0} (A : X → Type 0) (P : Y → Type 0) (f : X → Result Y Refusal) → ((x : X) → A x → IfOk (f x) P) → (xs : List X) → AllByRecursion A xs → IfOk (each f xs) (AllByRecursion P)
if_each A P f go [] all = tt
if_each A P f go (x ∷ xs) all =
    if_then P (AllByRecursion P) (f x) (λ y. each f xs >>= (λ ys. Ok (y ∷ ys))) (go x all.0)
    (λ y h. if_then (AllByRecursion P) (AllByRecursion P) (each f xs) (λ ys. Ok (y ∷ ys)) (if_each A P f go xs all.1) (λ ys hs. (h, hs)))

all_const : {X : Type 0} (P : X → Type 0) → ((x : X) → P x) → (xs : List X) → AllByRecursion P xs
all_const P go [] = tt
all_const P go (x ∷ xs) = (go x, all_const P go xs)

all_map : {X Y : Type 0} (P : Y → Type 0) (f : X → Y) (xs : List X) → AllByRecursion (λ x. P (f x)) xs → AllByRecursion P (map f xs)
all_map P f [] all = tt
all_map P f (x ∷ xs) all = (all.0, all_map P f xs all.1)

all_weaker : {X : Type 0} (P Q : X → Type 0) → ((x : X) → P x → Q x) → (xs : List X) → AllByRecursion P xs → AllByRecursion Q xs
all_weaker P Q go [] all = tt
all_weaker P Q go (x ∷ xs) all = (go x all.0, all_weaker P Q go xs all.1)

all_both : {X : Type 0} (P Q : X → Type 0) (xs : List X) → AllByRecursion P xs → AllByRecursion Q xs → AllByRecursion (λ x. P x × Q x) xs
all_both P Q [] all also = tt
all_both P Q (x ∷ xs) all also = ((all.0, also.0), all_both P Q xs all.1 also.1)

all_append : {X : Type 0} (P : X → Type 0) (xs ys : List X) → AllByRecursion P xs → AllByRecursion P ys → AllByRecursion P (xs ++ ys)
all_append P [] ys all also = also
all_append P (x ∷ xs) ys all also = (all.0, all_append P xs ys all.1 also)

-- ---- values of a kind

abbrev IsOf : Kind → Value → Type 0
IsOf k value = same_kind k (kind_of value) ≡ true

-- there is a value, and it is of the kind
abbrev HasKind : Kind → Option Value → Type 0
HasKind k None = ⊥
HasKind k (Some value) = IsOf k value

module _ (k : Kind) where
  choice_of : (a b : Value) (first : Bool) → IsOf k a → IsOf k b → IsOf k (cond first a b)
  choice_of a b true p q = p
  choice_of a b false p q = q

  better_of : (extreme : Extreme) (a b : Value) → IsOf k a → IsOf k b → IsOf k (better extreme a b)
  better_of Least a b p q = choice_of b a (is_lt (value_cmp b a)) q p
  better_of Greatest a b p q = choice_of a b (is_lt (value_cmp b a)) p q

  best_of : (extreme : Extreme) (value : Value) (values : List Value) → IsOf k value → AllByRecursion (IsOf k) values → IsOf k (fold (better extreme) value values)
  best_of extreme value [] p all = p
  best_of extreme value (other ∷ values) p all = best_of extreme (better extreme value other) values (better_of extreme value other p all.0) all.1

range_of : (n : Option ℤ) → IfOk (in_range n) (IsOf kind.Int)
range_of None = tt
range_of (Some n) = refl

sum_is_int : (values : List Value) → IfOk (sum_of values) (IsOf kind.Int)
sum_is_int values =
    if_then (λ _. Unit {0}) (IsOf kind.Int) (each number_of values) (λ numbers. whole (total numbers)) (numbers (each number_of values)) (λ numbers _. range_of (narrow (total numbers)))
  where
    numbers : (r : Result (List ℤ) Refusal) → IfOk r (λ _. Unit {0})
    numbers (Ok ns) = tt
    numbers (Err why) = tt

-- the values of a column in one are of the kind of the table's column
aggregate_of : (function : Function) (k : Kind) (value : Value) (values : List Value) → adds_texts function k ≡ false → AllByRecursion (IsOf k) (value ∷ values)
    → IfOk (aggregate function (value ∷ values)) (HasKind (kind_in (Some function) k))
aggregate_of Min k value values e all = best_of k Least value values all.0 all.1
aggregate_of Max k value values e all = best_of k Greatest value values all.0 all.1
aggregate_of Sum kind.Int value values e all =
    if_then (IsOf kind.Int) (HasKind kind.Int) (sum_of (value ∷ values)) (λ sum. Ok (Some sum)) (sum_is_int (value ∷ values)) (λ sum p. p)
aggregate_of Sum kind.Text value values e all = absurd cc
aggregate_of Count k value values e all =
    if_then (IsOf kind.Int) (HasKind kind.Int) (whole (pos (length (value ∷ values)))) (λ count. Ok (Some count)) (range_of (narrow (pos (length (value ∷ values))))) (λ count p. p)

-- ---- the row of a group

-- a row that fits the columns from a place on has a value of the first one's kind there
at_place : (column : Column) (columns : List Column) (place : ℕ) (row : List Value) → fits (column ∷ columns) (drop place row) ≡ true
    → HasKind column.kind (slice_get row place) × (fits columns (drop (suc place) row) ≡ true)
at_place column columns zero [] e = absurd cc
at_place column columns zero (value ∷ row) e = and_both (same_kind column.kind (kind_of value)) (fits columns row) e
at_place column columns (suc place) [] e = absurd cc
at_place column columns (suc place) (value ∷ row) e = at_place column columns place row e

module _ (k : Kind) (place : ℕ) where
  abbrev There : List Value → Type 0
  There row = HasKind k (slice_get row place)

  one_more : (value : Option Value) (values : List Value) → HasKind k value → AllByRecursion (IsOf k) values → AllByRecursion (IsOf k) (cons_option value values)
  one_more None values p all = absurd p
  one_more (Some value) values p all = (p, all)

  all_there : (rows : List (List Value)) → AllByRecursion There rows → AllByRecursion (IsOf k) (values_at place rows)
  all_there [] all = tt
  all_there (row ∷ rows) all = one_more (slice_get row place) (values_at place rows) all.0 (all_there rows all.1)

  aggregate_by : (function : Function) (value : Option Value) (values : List Value) → adds_texts function k ≡ false → HasKind k value → AllByRecursion (IsOf k) values
      → IfOk (aggregate function (cons_option value values)) (HasKind (kind_in (Some function) k))
  aggregate_by function None values e p all = absurd p
  aggregate_by function (Some value) values e p all = aggregate_of function k value values e (p, all)

  value_of : (function : Option Function) (row : List Value) (rows : List (List Value)) → option_map_or (λ function. adds_texts function k) function false ≡ false → There row → AllByRecursion There rows
      → IfOk (value_in (row ∷ rows) (place, function)) (HasKind (kind_in function k))
  value_of None row rows e p all = p
  value_of (Some function) row rows e p all = aggregate_by function (slice_get row place) (values_at place rows) e p (all_there rows all)

fits_more : (column : Column) (columns : List Column) (value : Option Value) (row : List Value) → HasKind column.kind value → fits columns row ≡ true → fits (column ∷ columns) (cons_option value row) ≡ true
fits_more column columns None row p e = absurd p
fits_more column columns (Some value) row p e = rw (p, e) refl

module _ (pairs : List Pair) where
  abbrev NoSums : List Column → Type 0
  NoSums columns = list_any (sums_texts pairs) columns ≡ false

  abbrev FitFrom : ℕ → List Column → List Value → Type 0
  FitFrom place columns row = fits columns (drop place row) ≡ true

  abbrev Row : List Column → List (Option Value) → Type 0
  Row columns values = fits (map (column_in pairs) columns) (filter_map (λ value. value) values) ≡ true

  values_of : (columns : List Column) (place : ℕ) (row : List Value) (rows : List (List Value)) → NoSums columns → AllByRecursion (FitFrom place columns) (row ∷ rows)
      → IfOk (each (value_in (row ∷ rows)) (enumerate_from place (map (function_of pairs) columns))) (Row columns)
  values_of [] place row rows none all = refl
  values_of (column ∷ columns) place row rows none all =
      let apart = or_none (sums_texts pairs column) (list_any (sums_texts pairs) columns) none in
      let there = all_weaker (FitFrom place (column ∷ columns)) (There column.kind place) (λ row e. (at_place column columns place row e).0) (row ∷ rows) all in
      let rest = all_weaker (FitFrom place (column ∷ columns)) (FitFrom (place + 1) columns) (λ row e. rw (add-one place) ((at_place column columns place row e).1)) (row ∷ rows) all in
      if_then (HasKind (kind_in (function_of pairs column) column.kind)) (Row (column ∷ columns)) (value_in (row ∷ rows) (place, function_of pairs column))
      (λ value. each (value_in (row ∷ rows)) (enumerate_from (place + 1) (map (function_of pairs) columns)) >>= (λ values. Ok (value ∷ values)))
      (value_of column.kind place (function_of pairs column) row rows apart.0 there.0 there.1)
      (λ value p. if_then (Row columns) (Row (column ∷ columns)) (each (value_in (row ∷ rows)) (enumerate_from (place + 1) (map (function_of pairs) columns))) (λ values. Ok (value ∷ values))
      (values_of columns (place + 1) row rows apart.1 rest)
      (λ values e. fits_more (column_in pairs column) (map (column_in pairs) columns) value (filter_map (λ value. value) values) p e))

  abbrev functions : List Column → List (Option Function)
  functions columns = map (function_of pairs) columns

  row_of_fits : (columns : List Column) (group : List (List Value)) → NoSums columns → AllFit columns group × (1 ≤ length group)
      → IfOk (row_of_group (functions columns) group) (λ row. IsTrue (fits (map (column_in pairs) columns) row))
  row_of_fits columns [] none h = absurd (omega arith)
  row_of_fits columns (row ∷ rows) none h =
      if_then (Row columns) (λ row. IsTrue (fits (map (column_in pairs) columns) row)) (each (value_in (row ∷ rows)) (enumerate_from 0 (functions columns))) (λ values. Ok (filter_map (λ value. value) values))
      (values_of columns 0 row rows none h.0) (λ values e. e)

  -- ---- the groups

  groups_fit : (columns : List Column) (rows : List KeyedRow) → AllByRecursion (λ (keyed : KeyedRow). IsTrue (fits columns keyed.row)) rows → AllByRecursion (AllFit columns) (groups rows)
  groups_fit columns rows all =
      all_map (AllFit columns) (rows_of_key rows) (keys_of rows)
      (all_const (λ key. AllFit columns (rows_of_key rows key))
      (λ key. all_map (λ row. IsTrue (fits columns row)) row_of (filter (has_key key) rows) (all_filter (λ (keyed : KeyedRow). IsTrue (fits columns keyed.row)) (has_key key) rows all)) (keys_of rows))

  table_fits : (columns : List Column) (rows : List (List Value)) → NoSums columns → AllFit columns rows → IfOk (table_rows (functions columns) rows) (AllFit (map (column_in pairs) columns))
  table_fits columns rows none all =
      let keyed = map (keyed_row (functions columns)) rows in
      let fit = groups_fit columns keyed (all_map (λ (keyed : KeyedRow). IsTrue (fits columns keyed.row)) (keyed_row (functions columns)) rows all) in
      if_each (λ (group : List (List Value)). AllFit columns group × (1 ≤ length group)) (λ row. IsTrue (fits (map (column_in pairs) columns) row)) (row_of_group (functions columns))
      (λ group h. row_of_fits columns group none h) (groups keyed) (all_both (AllFit columns) (λ (group : List (List Value)). 1 ≤ length group) (groups keyed) fit (groups_are_not_empty keyed))

  -- ---- what is gathered

  record Taken (columns : List Column) (rows : List (List Value)) : Type 0 where
    none : NoSums columns
    fit : AllFit columns rows

  paired_by : (columns : List Column) (rows : List (List Value)) (unknown twins sums : Bool) → list_any (sums_texts pairs) columns ≡ sums → AllFit columns rows
      → IfOk {E = Refusal} (if unknown then Err UnknownName else if twins then Err NameTaken else if sums then Err WrongType else Ok rows) (Taken columns)
  paired_by columns rows true twins sums e all = tt
  paired_by columns rows false true sums e all = tt
  paired_by columns rows false false true e all = tt
  paired_by columns rows false false false e all = record { none = e; fit = all }

  same_kinds : (a b k : Kind) → same_kind a b ≡ true → same_kind b k ≡ true → same_kind a k ≡ true
  same_kinds kind.Int kind.Int k e f = f
  same_kinds kind.Int kind.Text k e f = absurd cc
  same_kinds kind.Text kind.Int k e f = absurd cc
  same_kinds kind.Text kind.Text k e f = f

  same_fits : (left right : List Column) (row : List Value) → same_columns left right ≡ true → fits right row ≡ true → fits left row ≡ true
  same_fits [] [] row e f = f
  same_fits [] (b ∷ right) row e f = absurd cc
  same_fits (a ∷ left) [] row e f = absurd cc
  same_fits (a ∷ left) (b ∷ right) [] e f = absurd cc
  same_fits (a ∷ left) (b ∷ right) (value ∷ row) e f =
      let columns = and_both (same_column a b) (same_columns left right) e in
      let column = and_both _ (same_kind a.kind b.kind) columns.0 in
      let there = and_both (same_kind b.kind (kind_of value)) (fits right row) f in
      rw (same_kinds a.kind b.kind (kind_of value) column.1 there.0, same_fits left right row columns.1 there.1) refl

  later_by : (columns its_columns : List Column) (rows : List (List Value)) (same : Bool) → same_columns columns its_columns ≡ same → AllFit its_columns rows
      → IfOk {E = Refusal} (if same then Ok rows else Err WrongType) (AllFit columns)
  later_by columns its_columns rows true e all =
      all_weaker (λ (row : List Value). IsTrue (fits its_columns row)) (λ (row : List Value). IsTrue (fits columns row)) (λ row f. same_fits columns its_columns row e f) rows all
  later_by columns its_columns rows false e all = tt

  module _ (answers : ℕ → Result Answer Refusal) where
    abbrev TakenAt : List Column × List (List Value) → Type 0
    TakenAt t = Taken t.0 t.1

    taken_fits : (snapshot : ℕ) → AnswerFits (answers snapshot) → IfOk (taken (paired_rows pairs) answers snapshot) TakenAt
    taken_fits snapshot all =
        if_then (λ (answer : Answer). AllFit answer.columns answer.rows) TakenAt (answers snapshot) (λ answer. paired_rows pairs snapshot answer.columns answer.rows >>= (λ part. Ok (answer.columns, part))) all
        (λ answer fit. if_then (Taken answer.columns) TakenAt (paired_rows pairs snapshot answer.columns answer.rows) (λ part. Ok (answer.columns, part))
        (paired_by answer.columns answer.rows (names_unknown pairs answer.columns) (has_twins column_name pairs || has_twins name_of answer.columns) (list_any (sums_texts pairs) answer.columns) refl fit) (λ part t. t))

    later_fits : (columns : List Column) (snapshot : ℕ) → AnswerFits (answers snapshot) → IfOk (taken_later (paired_rows pairs) answers columns snapshot) (AllFit columns)
    later_fits columns snapshot all =
        if_then TakenAt (AllFit columns) (taken (paired_rows pairs) answers snapshot) (λ later. if same_columns columns later.0 then Ok later.1 else Err WrongType) (taken_fits snapshot all)
        (λ later t. later_by columns later.0 later.1 (same_columns columns later.0) refl t.fit)

    abbrev Gathered : List Column × List (List (List Value)) → Type 0
    Gathered found = NoSums found.0 × AllByRecursion (AllFit found.0) found.1

    gathered_fits : (snapshots : List ℕ) → AllByRecursion (λ snapshot. AnswerFits (answers snapshot)) snapshots → IfOk (gathered (paired_rows pairs) answers snapshots) Gathered
    gathered_fits [] all = (refl, tt)
    gathered_fits (snapshot ∷ snapshots) all =
        if_then TakenAt Gathered (taken (paired_rows pairs) answers snapshot) (λ first. each (taken_later (paired_rows pairs) answers first.0) snapshots >>= (λ later. Ok (first.0, first.1 ∷ later))) (taken_fits snapshot all.0)
        (λ first t. if_then (AllByRecursion (AllFit first.0)) Gathered (each (taken_later (paired_rows pairs) answers first.0) snapshots) (λ later. Ok (first.0, first.1 ∷ later))
        (if_each (λ snapshot. AnswerFits (answers snapshot)) (AllFit first.0) (taken_later (paired_rows pairs) answers first.0) (later_fits first.0) snapshots all.1)
        (λ later fit. (t.none, (t.fit, fit))))

joined_fits : (columns : List Column) (parts : List (List (List Value))) → AllByRecursion (AllFit columns) parts → AllFit columns (joined parts)
joined_fits columns [] all = tt
joined_fits columns (part ∷ parts) all = all_append (λ (row : List Value). IsTrue (fits columns row)) part (joined parts) all.0 (joined_fits columns parts all.1)

pub tables_fit : TablesFit
tables_fit pairs answers snapshots all =
    let Fit : Answer → Type 0 = λ answer. AllFit answer.columns answer.rows in
    if_then (Gathered pairs answers) Fit (gathered (paired_rows pairs) answers snapshots)
    (λ found. table_rows (functions pairs found.0) (joined found.1) >>= (λ rows. Ok (record { columns = map (column_in pairs) found.0; rows = rows })))
    (gathered_fits pairs answers snapshots all)
    (λ found h. if_then (AllFit (map (column_in pairs) found.0)) Fit (table_rows (functions pairs found.0) (joined found.1)) (λ rows. Ok (record { columns = map (column_in pairs) found.0; rows = rows }))
    (table_fits pairs found.0 (joined found.1) h.0 (joined_fits found.0 found.1 h.1)) (λ rows fit. fit))
