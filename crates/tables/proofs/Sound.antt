-- What a checked statement leaves of a table is a table.
use Rattle.std.proofs.Common.{◌≡◌, ◌∙◌, ◌⊎◌, inl, inr, ℕ, ◌+◌, ◌-◌, ◌^◌, ◌≤◌, zero, suc, Bool, true, false, ◌&&◌, not, Option, Some, None, List, [], ◌∷◌, ◌++◌, Result, Ok, Err, length, refl, ap, sym, subst, cond, append-nil, arith}
use Rattle.std.specs.Prelude.{IsTrue, nat_le, nat_lt, position, slice_get, slice_set}
use Rattle.std.specs.List.{AllByRecursion, find, list_all, list_any, position_or_len}
use Rattle.std.specs.Option.{option_map}
use Rattle.std.proofs.lemmas.Bool.{leb-true}
use Rattle.std.proofs.lemmas.List.Folds.{find_at}
use Rattle.retro_base.specs.Gives.{◌>>=◌}
use Rattle.retro_base.specs.declared.limits.TheConstants.{ROW_BYTES}
use Rattle.retro_base.specs.declared.refusal.Refusal.{Refusal}
use Rattle.retro_base.specs.declared.refusal.Refusal.TheVariants.{Overflow, RowTooLong}
use Rattle.values.specs.declared.value.Kind.{Kind}
use Rattle.values.specs.declared.value.Kind.TheVariants as kind
use Rattle.values.specs.declared.value.Value.{Value}
use Rattle.values.specs.Value as value
use Rattle.sql_tree.specs.declared.schema.TableSchema.{TableSchema}
use Rattle.sql_tree.specs.declared.statement.Assignment.{Assignment}
use Rattle.sql_tree.specs.declared.statement.Column.{Column}
use Rattle.sql_tree.specs.declared.statement.Delete.{Delete as DeleteRecord}
use Rattle.sql_tree.specs.declared.statement.Update.{Update as UpdateRecord}
use Rattle.sql_tree.specs.Evaluation.{value_of}
use Rattle.sql_tree.specs.Scope.{column_place}
use Rattle.sql_check.specs.Check.{assigns_other_kind, assigns_unknown, column_kind, has_column, update_has_unknown, update_is_mistyped}
use Rattle.sql_kinds.specs.Expressions.{agree, has_unknown, kind_of}
use Rattle.sql_kinds.specs.Laws.{IsOfKind}
use Rattle.sql_check.specs.Names.{column_named}
use Rattle.values.specs.Name.{same_name}
use Rattle.sql_tree.specs.Rows.{same_kind, fits}
use Rattle.sql_check.specs.Selects.{where_compares_apart, where_has_unknown}
use Rattle.sql_kinds.proofs.Checked.{expressions_keep_their_kind}
use Rattle.sql_kinds.proofs.Truths.{and_both, or_none}
use Rattle.sql_select.specs.Rows.{holds_at}
use Rattle.tables.specs.declared.contents.Contents.{Contents}
use Rattle.tables.specs.declared.contents.NumberedRow.{NumberedRow}
use Rattle.tables.specs.Meaning.{assigned, check, check_lengths, inserted, known, remaining, remaining_row, reworked, set_row, updated, updated_row}
use Rattle.tables.specs.Rows.{numbered, rows_of}
use Rattle.values.specs.Row.{row_bytes}
use Rattle.sql_tree.specs.Rows.{AllFit}
use Rattle.tables.specs.Tables.{AllShort, IsTable, NumbersRise}

-- what a step that goes on went on with
pub bound : {X Y : Type 0} (a : Result X Refusal) (f : X → Result Y Refusal) (b : Y) → a >>= f ≡ Ok b → (x : X) × (a ≡ Ok x) × (f x ≡ Ok b)
bound (Ok x) f b e = (x, refl, e)
bound (Err r) f b e = let no : ⊥ = cc in absurd no

pub ok_same : {X : Type 0} (a b : X) → ◌≡◌ {A = Result X Refusal} (Ok a) (Ok b) → a ≡ b
ok_same a b e = cc

some_same : {X : Type 0} (a b : X) → Some a ≡ Some b → a ≡ b
some_same a b e = cc

both_true : (a b : Bool) → a ≡ true → b ≡ true → a && b ≡ true
both_true a b p q = ap (λ x. x && b) p ∙ q

append_all : {X : Type 0} (P : X → Type 0) (xs ys : List X) → AllByRecursion P xs → AllByRecursion P ys → AllByRecursion P (xs ++ ys)
append_all P [] ys p q = q
append_all P (x ∷ xs) ys p q = (p.0, append_all P xs ys p.1 q)

pub rows_of-append : (xs ys : List NumberedRow) → rows_of (xs ++ ys) ≡ rows_of xs ++ rows_of ys
rows_of-append [] ys = refl
rows_of-append (x ∷ xs) ys = ap (λ (rows : List (List Value)). x.row ∷ rows) (rows_of-append xs ys)

pub rows_of-numbered : (next : ℕ) (rows : List (List Value)) → rows_of (numbered next rows) ≡ rows
rows_of-numbered next [] = refl
rows_of-numbered next (row ∷ rows) = ap (λ (rest : List (List Value)). row ∷ rest) (rows_of-numbered (next + 1) rows)

-- the first item that passes a test stands at its place
placed : (b : Bool) (n i : ℕ) → cond b (Some n) None ≡ Some i → n ≡ i
placed true n i e = some_same n i e
placed false n i e = cc

pub find-position : {X : Type 0} (test : X → Bool) (xs : List X) (i : ℕ) → position test xs ≡ Some i → find test xs ≡ slice_get xs i
find-position test xs i e =
    find_at test xs ∙ ap (slice_get xs) (placed (nat_lt (position_or_len test xs) (length xs)) (position_or_len test xs) i e)

-- a row that fits stays one with a value of the column's kind in a column
same_itself : (a b : Kind) → b ≡ a → same_kind a b ≡ true
same_itself kind.Int kind.Int e = refl
same_itself kind.Int kind.Text e = cc
same_itself kind.Text kind.Int e = cc
same_itself kind.Text kind.Text e = refl

fits-set : (columns : List Column) (row : List Value) (place : ℕ) (column : Column) (v : Value) → fits columns row ≡ true → slice_get columns place ≡ Some column → value.kind_of v ≡ column.kind → fits columns (slice_set row place v) ≡ true
fits-set [] row place column v fit found is = let no : ⊥ = cc in absurd no
fits-set (c ∷ columns) [] place column v fit found is = let no : ⊥ = cc in absurd no
fits-set (c ∷ columns) (w ∷ row) zero column v fit found is =
    let rest = and_both (same_kind c.kind (value.kind_of w)) (fits columns row) fit in
    both_true (same_kind c.kind (value.kind_of v)) (fits columns row) (same_itself c.kind (value.kind_of v) (is ∙ ap (λ (d : Column). d.kind) (sym (some_same c column found)))) rest.1
fits-set (c ∷ columns) (w ∷ row) (suc place) column v fit found is =
    let rest = and_both (same_kind c.kind (value.kind_of w)) (fits columns row) fit in
    both_true (same_kind c.kind (value.kind_of w)) (fits columns (slice_set row place v)) rest.0 (fits-set columns row place column v rest.1 found is)

-- a row that fits at most 16 columns has at most 16 values
pub length-fits : (columns : List Column) (row : List Value) → fits columns row ≡ true → length row ≡ length columns
length-fits [] [] fit = refl
length-fits [] (v ∷ row) fit = cc
length-fits (c ∷ columns) [] fit = cc
length-fits (c ∷ columns) (v ∷ row) fit =
    let rest = and_both (same_kind c.kind (value.kind_of v)) (fits columns row) fit in
    let e : length row ≡ length columns = length-fits columns row rest.1 in
    omega arith

pub short_row : (columns : List Column) (row : List Value) → fits columns row ≡ true → length columns ≤ 16 → length row ≤ 16
short_row columns row fit few = let e : length row ≡ length columns = length-fits columns row fit in omega arith

pub short_rows : (columns : List Column) (rows : List (List Value)) → length columns ≤ 16 → AllFit columns rows → AllByRecursion (λ (row : List Value). length row ≤ 16) rows
short_rows columns [] few fit = tt
short_rows columns (row ∷ rows) few fit = (short_row columns row fit.0 few, short_rows columns rows few fit.1)

-- assignments that were checked
kind_is : (found : Option Column) (k : Kind) → option_map (λ (c : Column). c.kind) found ≡ Some k → (c : Column) × (found ≡ Some c) × (c.kind ≡ k)
kind_is None k e = let no : ⊥ = cc in absurd no
kind_is (Some c) k e = (c, refl, some_same c.kind k e)

agree_some : (a b : Option Kind) → not (agree a b) ≡ false → (k : Kind) × (a ≡ Some k) × (b ≡ Some k)
agree_some None b e = let no : ⊥ = cc in absurd no
agree_some (Some a) None e = let no : ⊥ = cc in absurd no
agree_some (Some kind.Int) (Some kind.Int) e = (kind.Int, refl, refl)
agree_some (Some kind.Int) (Some kind.Text) e = let no : ⊥ = cc in absurd no
agree_some (Some kind.Text) (Some kind.Int) e = let no : ⊥ = cc in absurd no
agree_some (Some kind.Text) (Some kind.Text) e = (kind.Text, refl, refl)

known_some : {X : Type 0} (found : Option X) (x : X) → known found ≡ Ok x → found ≡ Some x
known_some None x e = let no : ⊥ = cc in absurd no
known_some (Some y) x e = ap (λ z. Some z) (ok_same y x e)

module _ (table : TableSchema) (snapshot : Option ℕ) where
  abbrev Fit : List Value → Type 0
  Fit row = IsTrue (fits table.columns row)

  -- the value that a checked assignment sets has its column's kind
  assigned_is : (a : Assignment) (before : List Value) (v : Value) (place : ℕ) (row : List Value) → Fit before → Fit row → assigns_unknown snapshot table a ≡ false → assigns_other_kind table a ≡ false → value_of (table ∷ []) snapshot before a.value ≡ Ok v → column_place a.column table.columns ≡ Some place → Fit (slice_set row place v)
  assigned_is a before v place row fit_before fit names types is at =
      let names_of_value = (or_none (not (has_column a.column table.columns)) (has_unknown (table ∷ []) snapshot a.value) names).1 in
      let kinds = agree_some (column_kind a.column table.columns) (kind_of (table ∷ []) a.value) types in
      let column = kind_is (column_named a.column table.columns) kinds.0 kinds.1 in
      let joined : fits (table.columns ++ []) before ≡ true = subst (λ (columns : List Column). fits columns before ≡ true) (sym (append-nil table.columns)) fit_before in
      let v_is : value.kind_of v ≡ kinds.0 = subst (IsOfKind kinds.0) is (expressions_keep_their_kind (table ∷ []) snapshot before a.value kinds.0 joined names_of_value kinds.2) in
      fits-set table.columns row place column.0 v fit (sym (find-position (λ (c : Column). same_name c.name a.column) table.columns place at) ∙ column.1) (v_is ∙ sym column.2)

  assigned_fit : (assignments : List Assignment) (before row after : List Value) → Fit before → Fit row → list_any (assigns_unknown snapshot table) assignments ≡ false → list_any (assigns_other_kind table) assignments ≡ false → assigned table snapshot before assignments row ≡ Ok after → Fit after
  assigned_fit [] before row after fit_before fit names types e = subst Fit (ok_same row after e) fit
  assigned_fit (a ∷ assignments) before row after fit_before fit names types e =
      let some_names = or_none (assigns_unknown snapshot table a) (list_any (assigns_unknown snapshot table) assignments) names in
      let some_types = or_none (assigns_other_kind table a) (list_any (assigns_other_kind table) assignments) types in
      let v = bound (value_of (table ∷ []) snapshot before a.value) (λ (v : Value). known (column_place a.column table.columns) >>= (λ (place : ℕ). assigned table snapshot before assignments (slice_set row place v))) after e in
      let place = bound (known (column_place a.column table.columns)) (λ (place : ℕ). assigned table snapshot before assignments (slice_set row place v.0)) after v.2 in
      let now_fits = assigned_is a before v.0 place.0 row fit_before fit some_names.0 some_types.0 v.1 (known_some (column_place a.column table.columns) place.0 place.1) in
      assigned_fit assignments before (slice_set row place.0 v.0) after fit_before now_fits some_names.1 some_types.1 place.2

-- what holds of each row holds of what becomes of it
pub reworked_all : (P : List Value → Type 0) (step : NumberedRow → Result (List NumberedRow × ℕ) Refusal) → ((row : NumberedRow) (made : List NumberedRow × ℕ) → P row.row → step row ≡ Ok made → AllByRecursion P (rows_of made.0)) → (rows : List NumberedRow) (after : List NumberedRow × ℕ) → AllByRecursion P (rows_of rows) → reworked step rows ≡ Ok after → AllByRecursion P (rows_of after.0)
reworked_all P step keeps [] after h e = subst (λ (made : List NumberedRow × ℕ). AllByRecursion P (rows_of made.0)) (ok_same ([], 0) after e) tt
reworked_all P step keeps (row ∷ rows) after h e =
    let here = bound (step row) (λ (made : List NumberedRow × ℕ). reworked step rows >>= (λ (rest : List NumberedRow × ℕ). Ok (made.0 ++ rest.0, made.1 + rest.1))) after e in
    let rest = bound (reworked step rows) (λ (rest : List NumberedRow × ℕ). Ok (here.0.0 ++ rest.0, here.0.1 + rest.1)) after here.2 in
    let all : AllByRecursion P (rows_of here.0.0 ++ rows_of rest.0.0) = append_all P (rows_of here.0.0) (rows_of rest.0.0) (keeps row here.0 h.0 here.1) (reworked_all P step keeps rows rest.0 h.1 rest.1) in
    subst (λ (made : List NumberedRow × ℕ). AllByRecursion P (rows_of made.0)) (ok_same (here.0.0 ++ rest.0.0, here.0.1 + rest.0.1) after rest.2) (subst (AllByRecursion P) (sym (rows_of-append here.0.0 rest.0.0)) all)

-- what a step makes of a row: nothing, or one row with its number
abbrev pub KeepsNumber : NumberedRow → List NumberedRow → Type 0
KeepsNumber row made = (made ≡ []) ⊎ ((r : NumberedRow) × (made ≡ r ∷ []) × (r.number ≡ row.number))

pub NumbersRise-lower : (a b c : ℕ) (rows : List NumberedRow) → a ≤ b → NumbersRise b rows c → NumbersRise a rows c
NumbersRise-lower a b c [] p q = omega arith
NumbersRise-lower a b c (row ∷ rows) p q = (omega (arith, p, q.0), q.1)

one_rises : (low high : ℕ) (row : NumberedRow) (made rest : List NumberedRow) → low ≤ row.number → KeepsNumber row made → NumbersRise (row.number + 1) rest high → NumbersRise low (made ++ rest) high
one_rises low high row made rest below (inl none) rises =
    subst (λ (xs : List NumberedRow). NumbersRise low (xs ++ rest) high) (sym none) (NumbersRise-lower low (row.number + 1) high rest (omega arith) rises)
one_rises low high row made rest below (inr r) rises =
    let front : low ≤ r.0.number = subst (λ (n : ℕ). low ≤ n) (sym r.2) below in
    let back : NumbersRise (r.0.number + 1) rest high = subst (λ (n : ℕ). NumbersRise (n + 1) rest high) (sym r.2) rises in
    subst (λ (xs : List NumberedRow). NumbersRise low (xs ++ rest) high) (sym r.1) (front, back)

pub reworked_rises : (step : NumberedRow → Result (List NumberedRow × ℕ) Refusal) → ((row : NumberedRow) (made : List NumberedRow × ℕ) → step row ≡ Ok made → KeepsNumber row made.0) → (low high : ℕ) (rows : List NumberedRow) (after : List NumberedRow × ℕ) → NumbersRise low rows high → reworked step rows ≡ Ok after → NumbersRise low after.0 high
reworked_rises step keeps low high [] after h e = subst (λ (made : List NumberedRow × ℕ). NumbersRise low made.0 high) (ok_same ([], 0) after e) h
reworked_rises step keeps low high (row ∷ rows) after h e =
    let here = bound (step row) (λ (made : List NumberedRow × ℕ). reworked step rows >>= (λ (rest : List NumberedRow × ℕ). Ok (made.0 ++ rest.0, made.1 + rest.1))) after e in
    let rest = bound (reworked step rows) (λ (rest : List NumberedRow × ℕ). Ok (here.0.0 ++ rest.0, here.0.1 + rest.1)) after here.2 in
    subst (λ (made : List NumberedRow × ℕ). NumbersRise low made.0 high) (ok_same (here.0.0 ++ rest.0.0, here.0.1 + rest.0.1) after rest.2) (one_rises low high row here.0.0 rest.0.0 h.0 (keeps row here.0 here.1) (reworked_rises step keeps (row.number + 1) high rows rest.0 h.1 rest.1))

-- rows that were let through are short
unit_ok : (checked : Result (Unit {0}) Refusal) (u : Unit {0}) → checked ≡ Ok u → checked ≡ Ok tt
unit_ok checked u e = e

lengths_by : (b : Bool) (row : List Value) (rest : Result (Unit {0}) Refusal) → cond b rest (Err (RowTooLong (row_bytes row))) ≡ Ok tt → (b ≡ true) × (rest ≡ Ok tt)
lengths_by true row rest e = (refl, e)
lengths_by false row rest e = let no : ⊥ = cc in absurd no

pub lengths_are_short : (rows : List (List Value)) → check_lengths rows ≡ Ok tt → AllShort rows
lengths_are_short [] e = tt
lengths_are_short (row ∷ rows) e =
    let here = lengths_by (nat_le (row_bytes row) ROW_BYTES) row (check_lengths rows) e in
    (leb-true (row_bytes row) ROW_BYTES here.0, lengths_are_short rows here.1)

-- UPDATE
set_row_is : (row : NumberedRow) (outcome : Result (List Value) Refusal) (made : List NumberedRow × ℕ) → set_row row outcome ≡ Ok made → (values : List Value) × (outcome ≡ Ok values) × (made.0 ≡ record { number = row.number; row = values } ∷ [])
set_row_is row (Ok values) made e = (values, refl, sym (ap (λ (m : List NumberedRow × ℕ). m.0) (ok_same (record { number = row.number; row = values } ∷ [], 1) made e)))
set_row_is row (Err why) made e = let no : ⊥ = cc in absurd no

module _ (table : TableSchema) (snapshot : Option ℕ) (update : UpdateRecord) where
  abbrev step_at : NumberedRow → Bool → Result (List NumberedRow × ℕ) Refusal
  step_at row holds = cond holds (set_row row (assigned table snapshot row.row update.assignments row.row)) (Ok (row ∷ [], 0))

  -- an UPDATE leaves one row for each, with its number
  pub updated_row_keeps : (row : NumberedRow) (made : List NumberedRow × ℕ) → updated_row table snapshot update row ≡ Ok made → (r : NumberedRow) × (made.0 ≡ r ∷ []) × (r.number ≡ row.number)
  updated_row_keeps row made e =
      let holds = bound (holds_at (table ∷ []) snapshot update.condition row.row) (step_at row) made e in
      by_test holds.0 holds.2
    where
      by_test : (holds : Bool) → step_at row holds ≡ Ok made → (r : NumberedRow) × (made.0 ≡ r ∷ []) × (r.number ≡ row.number)
      by_test true q = let values = set_row_is row (assigned table snapshot row.row update.assignments row.row) made q in (record { number = row.number; row = values.0 }, values.2, refl)
      by_test false q = (row, sym (ap (λ (m : List NumberedRow × ℕ). m.0) (ok_same (row ∷ [], 0) made q)), refl)

  updated_row_number : (row : NumberedRow) (made : List NumberedRow × ℕ) → updated_row table snapshot update row ≡ Ok made → KeepsNumber row made.0
  updated_row_number row made e = inr (updated_row_keeps row made e)

  updated_row_fits : list_any (assigns_unknown snapshot table) update.assignments ≡ false → list_any (assigns_other_kind table) update.assignments ≡ false → (row : NumberedRow) (made : List NumberedRow × ℕ) → Fit table snapshot row.row → updated_row table snapshot update row ≡ Ok made → AllByRecursion (Fit table snapshot) (rows_of made.0)
  updated_row_fits names types row made fit e =
      let holds = bound (holds_at (table ∷ []) snapshot update.condition row.row) (step_at row) made e in
      by_test holds.0 holds.2
    where
      by_test : (holds : Bool) → step_at row holds ≡ Ok made → AllByRecursion (Fit table snapshot) (rows_of made.0)
      by_test true q =
          let values = set_row_is row (assigned table snapshot row.row update.assignments row.row) made q in
          subst (λ (xs : List NumberedRow). AllByRecursion (Fit table snapshot) (rows_of xs)) (sym values.2) (assigned_fit table snapshot update.assignments row.row row.row values.0 fit fit names types values.1, tt)
      by_test false q = subst (λ (m : List NumberedRow × ℕ). AllByRecursion (Fit table snapshot) (rows_of m.0)) (ok_same (row ∷ [], 0) made q) (fit, tt)

  -- rows that fit still fit after a checked UPDATE
  pub reworked_fit : (rows : List NumberedRow) (after : List NumberedRow × ℕ) → AllFit table.columns (rows_of rows) → update_has_unknown snapshot update table ≡ false → update_is_mistyped update table ≡ false → reworked (updated_row table snapshot update) rows ≡ Ok after → AllFit table.columns (rows_of after.0)
  reworked_fit rows after fit names types e =
      let set_names = (or_none (list_any (assigns_unknown snapshot table) update.assignments) (where_has_unknown (table ∷ []) snapshot update.condition) names).0 in
      let set_types = (or_none (list_any (assigns_other_kind table) update.assignments) (where_compares_apart (table ∷ []) update.condition) types).0 in
      reworked_all (Fit table snapshot) (updated_row table snapshot update) (updated_row_fits set_names set_types) rows after fit e

  -- a table after a checked UPDATE
  pub updated_sound : (before after : Contents) (count : ℕ) → IsTable table before → update_has_unknown snapshot update table ≡ false → update_is_mistyped update table ≡ false → updated snapshot update table before ≡ Ok (after, count) → IsTable table after
  updated_sound before after count sound names types e =
      let made = bound (reworked (updated_row table snapshot update) before.rows) (λ (m : List NumberedRow × ℕ). check_lengths (rows_of m.0) >>= (λ (u : Unit {0}). Ok (record before { rows = m.0 }, m.1))) (after, count) e in
      let lengths = bound (check_lengths (rows_of made.0.0)) (λ (u : Unit {0}). Ok (record before { rows = made.0.0 }, made.0.1)) (after, count) made.2 in
      let whole : IsTable table (record before { rows = made.0.0 }) = record {
        few_columns = sound.few_columns;
        rising = reworked_rises (updated_row table snapshot update) updated_row_number 0 before.next before.rows made.0 sound.rising made.1;
        fitting = reworked_fit before.rows made.0 sound.fitting names types made.1;
        short = lengths_are_short (rows_of made.0.0) (unit_ok (check_lengths (rows_of made.0.0)) lengths.0 lengths.1);
      } in
      subst (λ (m : Contents × ℕ). IsTable table m.0) (ok_same (record before { rows = made.0.0 }, made.0.1) (after, count) lengths.2) whole

-- DELETE
module _ (table : TableSchema) (snapshot : Option ℕ) (delete : DeleteRecord) where
  abbrev left_at : NumberedRow → Bool → Result (List NumberedRow × ℕ) Refusal
  left_at row holds = cond holds (Ok ([], 1)) (Ok (row ∷ [], 0))

  pub remaining_row_number : (row : NumberedRow) (made : List NumberedRow × ℕ) → remaining_row table snapshot delete row ≡ Ok made → KeepsNumber row made.0
  remaining_row_number row made e =
      let holds = bound (holds_at (table ∷ []) snapshot delete.condition row.row) (left_at row) made e in
      by_test holds.0 holds.2
    where
      by_test : (holds : Bool) → left_at row holds ≡ Ok made → KeepsNumber row made.0
      by_test true q = inl (sym (ap (λ (m : List NumberedRow × ℕ). m.0) (ok_same ([], 1) made q)))
      by_test false q = inr (row, sym (ap (λ (m : List NumberedRow × ℕ). m.0) (ok_same (row ∷ [], 0) made q)), refl)

  -- what holds of each row holds of those that remain
  pub remaining_all : (P : List Value → Type 0) (row : NumberedRow) (made : List NumberedRow × ℕ) → P row.row → remaining_row table snapshot delete row ≡ Ok made → AllByRecursion P (rows_of made.0)
  remaining_all P row made p e =
      let holds = bound (holds_at (table ∷ []) snapshot delete.condition row.row) (left_at row) made e in
      by_test holds.0 holds.2
    where
      by_test : (holds : Bool) → left_at row holds ≡ Ok made → AllByRecursion P (rows_of made.0)
      by_test true q = subst (λ (m : List NumberedRow × ℕ). AllByRecursion P (rows_of m.0)) (ok_same ([], 1) made q) tt
      by_test false q = subst (λ (m : List NumberedRow × ℕ). AllByRecursion P (rows_of m.0)) (ok_same (row ∷ [], 0) made q) (p, tt)

  -- a table after a DELETE
  pub remaining_sound : (before after : Contents) (count : ℕ) → IsTable table before → remaining snapshot delete table before ≡ Ok (after, count) → IsTable table after
  remaining_sound before after count sound e =
      let made = bound (reworked (remaining_row table snapshot delete) before.rows) (λ (m : List NumberedRow × ℕ). Ok (record before { rows = m.0 }, m.1)) (after, count) e in
      let fit = reworked_all (λ (row : List Value). IsTrue (fits table.columns row)) (remaining_row table snapshot delete) (remaining_all (λ (row : List Value). IsTrue (fits table.columns row))) before.rows made.0 sound.fitting made.1 in
      let short = reworked_all (λ (row : List Value). row_bytes row ≤ ROW_BYTES) (remaining_row table snapshot delete) (remaining_all (λ (row : List Value). row_bytes row ≤ ROW_BYTES)) before.rows made.0 sound.short made.1 in
      let whole : IsTable table (record before { rows = made.0.0 }) = record {
        few_columns = sound.few_columns;
        rising = reworked_rises (remaining_row table snapshot delete) remaining_row_number 0 before.next before.rows made.0 sound.rising made.1;
        fitting = fit;
        short = short;
      } in
      subst (λ (m : Contents × ℕ). IsTable table m.0) (ok_same (record before { rows = made.0.0 }, made.0.1) (after, count) made.2) whole

-- INSERT
NumbersRise-append : (a b c : ℕ) (xs ys : List NumberedRow) → NumbersRise a xs b → NumbersRise b ys c → NumbersRise a (xs ++ ys) c
NumbersRise-append a b c [] ys p q = NumbersRise-lower a b c ys p q
NumbersRise-append a b c (x ∷ xs) ys p q = (p.0, NumbersRise-append (x.number + 1) b c xs ys p.1 q)

NumbersRise-numbered : (next : ℕ) (rows : List (List Value)) → NumbersRise next (numbered next rows) (next + length rows)
NumbersRise-numbered next [] = omega arith
NumbersRise-numbered next (row ∷ rows) =
    let e : (next + 1) + length rows ≡ next + length (row ∷ rows) = omega arith in
    (omega arith, subst (λ (high : ℕ). NumbersRise (next + 1) (numbered (next + 1) rows) high) e (NumbersRise-numbered (next + 1) rows))

pub AllFit-from_test : (columns : List Column) (tuples : List (List Value)) → list_all (fits columns) tuples ≡ true → AllFit columns tuples
AllFit-from_test columns [] e = tt
AllFit-from_test columns (tuple ∷ tuples) e =
    let both = and_both (fits columns tuple) (list_all (fits columns) tuples) e in
    (both.0, AllFit-from_test columns tuples both.1)

-- a table after an INSERT of tuples that fit
pub inserted_sound : (table : TableSchema) (tuples : List (List Value)) (before after : Contents) (count : ℕ) → IsTable table before → list_all (fits table.columns) tuples ≡ true → inserted tuples before ≡ Ok (after, count) → IsTable table after
inserted_sound table tuples before after count sound fit e =
    let made : Contents × ℕ = (record { next = before.next + length tuples; rows = before.rows ++ numbered before.next tuples }, length tuples) in
    let room = bound (check (nat_le (before.next + length tuples) (2 ^ 64 - 1)) Overflow) (λ (u : Unit {0}). check_lengths tuples >>= (λ (w : Unit {0}). Ok made)) (after, count) e in
    let lengths = bound (check_lengths tuples) (λ (w : Unit {0}). Ok made) (after, count) room.2 in
    let rows_are : rows_of (before.rows ++ numbered before.next tuples) ≡ rows_of before.rows ++ tuples = rows_of-append before.rows (numbered before.next tuples) ∙ ap (λ (rows : List (List Value)). rows_of before.rows ++ rows) (rows_of-numbered before.next tuples) in
    let fitting = append_all (λ (row : List Value). IsTrue (fits table.columns row)) (rows_of before.rows) tuples sound.fitting (AllFit-from_test table.columns tuples fit) in
    let short = append_all (λ (row : List Value). row_bytes row ≤ ROW_BYTES) (rows_of before.rows) tuples sound.short (lengths_are_short tuples (unit_ok (check_lengths tuples) lengths.0 lengths.1)) in
    let whole : IsTable table made.0 = record {
      few_columns = sound.few_columns;
      rising = NumbersRise-append 0 before.next (before.next + length tuples) before.rows (numbered before.next tuples) sound.rising (NumbersRise-numbered before.next tuples);
      fitting = subst (AllByRecursion (λ (row : List Value). IsTrue (fits table.columns row))) (sym rows_are) fitting;
      short = subst (AllByRecursion (λ (row : List Value). row_bytes row ≤ ROW_BYTES)) (sym rows_are) short;
    } in
    subst (λ (m : Contents × ℕ). IsTable table m.0) (ok_same made (after, count) lengths.2) whole
