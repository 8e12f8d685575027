-- Groups of rows, one row more at a time.
use Rattle.std.proofs.Common.{◌≡◌, ◌∙◌, ◌<◌, ◌≤◌, ◌+◌, ◌⊎◌, inl, inr, ℕ, zero, suc, List, [], ◌∷◌, ◌++◌, Option, Some, None, Result, Ok, Err, ap, append-nil, append_assoc, arith, drop, get_or, length, length-append, map, refl, slice_get, subst, sym}
use Rattle.std.specs.List.{AllZip, IsDistinct, cons_option, enumerate_from, filter_map, position_or_len}
use Rattle.std.specs.Option.{option_to_list}
use Rattle.std.specs.Result.{IsErr, IsErrAnd}
use Rattle.std.proofs.lemmas.Option.{get_or_from_slice_get}
use Rattle.std.proofs.lemmas.List.{drop_all, drop_more, map-append}
use Rattle.std.proofs.lemmas.List.Elements.{filter_map-append}
use Rattle.std.proofs.Math.ListN.{set}
use Rattle.indexmap.specs.IndexSet.{insert_key}
use Rattle.retro_base.specs.Gives.{◌>>=◌, Gives}
use Rattle.retro_base.specs.declared.refusal.Refusal.{Refusal}
use Rattle.retro_base.specs.declared.refusal.Refusal.TheVariants.{OutOfMemory}
use Rattle.values.specs.declared.value.Value.{Value}
use Rattle.sql_select.specs.Each.{each, onto}
use Rattle.sql_select.specs.Groups.{groups, keys_of, with_member}
use Rattle.sql_select.specs.declared.grouping.KeyedRow.{KeyedRow}
use Rattle.sql_select.specs.Same.{same_row}
use Rattle.sql_select.proofs.InGroups.{groups_more, keys_of-more}
use Rattle.rql.specs.Groups.{AreGroups, CellAdds, GroupAdds, IsCell, IsGroup}
use Rattle.rql.specs.Table.{key_of, keyed_row, row_of_group, value_in, values_at}
use Rattle.rql.specs.Tallies.{AddsValue, IsTally}
use Rattle.rql.specs.declared.function.Function.{Function}
use Rattle.rql.specs.declared.groups.Cell.{Cell}
use Rattle.rql.specs.declared.groups.Group.{Group}
use Rattle.rql.specs.declared.groups.Groups.{Groups}
use Rattle.rql.proofs.GroupRows.{row_from}

-- ---- items of lists by place

pub some_same : {X : Type 0} {x y : X} → ◌≡◌ {A = Option X} (Some x) (Some y) → x ≡ y
some_same e = cc

get_push : {X : Type 0} (xs : List X) (x y : X) (k : ℕ) → slice_get (xs ++ x ∷ []) k ≡ Some y
    → (slice_get xs k ≡ Some y) ⊎ ((k ≡ length xs) × (x ≡ y))
get_push [] x y zero e = inr (refl, some_same e)
get_push [] x y (suc k) e = absurd cc
get_push (z ∷ xs) x y zero e = inl e
get_push (z ∷ xs) x y (suc k) e =
    elim (get_push xs x y k e) [ inl there ↦ inl there | inr last ↦ let at = last.0 in inr (omega arith, last.1) ]

pub get_set : {X : Type 0} (xs : List X) (i : ℕ) (y : X) → i < length xs → slice_get (set xs i y) i ≡ Some y
get_set [] i y lt = absurd (omega arith)
get_set (x ∷ xs) zero y lt = refl
get_set (x ∷ xs) (suc i) y lt = get_set xs i y (omega arith)

get_below : {X : Type 0} (xs : List X) (i j : ℕ) (y : X) → j < i → slice_get (set xs i y) j ≡ slice_get xs j
get_below [] i j y lt = refl
get_below (x ∷ xs) zero j y lt = absurd (omega arith)
get_below (x ∷ xs) (suc i) zero y lt = refl
get_below (x ∷ xs) (suc i) (suc j) y lt = get_below xs i j y (omega arith)

get_above : {X : Type 0} (xs : List X) (i j : ℕ) (y : X) → i < j → slice_get (set xs i y) j ≡ slice_get xs j
get_above [] i j y lt = refl
get_above (x ∷ xs) zero zero y lt = absurd (omega arith)
get_above (x ∷ xs) zero (suc j) y lt = refl
get_above (x ∷ xs) (suc i) zero y lt = absurd (omega arith)
get_above (x ∷ xs) (suc i) (suc j) y lt = get_above xs i j y (omega arith)

get_at : {X : Type 0} (xs : List X) (i : ℕ) (x : X) → i < length xs → x ≡ get_or xs i x → slice_get xs i ≡ Some x
get_at [] i x lt e = absurd (omega arith)
get_at (y ∷ xs) zero x lt e = ap (λ z. Some z) (sym e)
get_at (y ∷ xs) (suc i) x lt e = get_at xs i x (omega arith) e

get_inside : {X : Type 0} (xs : List X) (k : ℕ) → k < length xs → (x : X) × (slice_get xs k ≡ Some x)
get_inside [] k lt = absurd (omega arith)
get_inside (x ∷ xs) zero lt = (x, refl)
get_inside (x ∷ xs) (suc k) lt = get_inside xs k (omega arith)

get_within : {X : Type 0} (xs : List X) (k : ℕ) (x : X) → slice_get xs k ≡ Some x → k < length xs
get_within [] k x e = absurd cc
get_within (y ∷ xs) zero x e = omega arith
get_within (y ∷ xs) (suc k) x e = let below = get_within xs k x e in omega arith

apart_from : (k i : ℕ) → k < i + 1 → (k < i) ⊎ (k ≡ i)
apart_from zero zero lt = inr refl
apart_from zero (suc i) lt = inl (omega arith)
apart_from (suc k) zero lt = absurd (omega arith)
apart_from (suc k) (suc i) lt =
    elim (apart_from k i (omega arith)) [ inl below ↦ inl (omega arith) | inr e ↦ inr (ap suc e) ]

drop_at_get : {X : Type 0} (xs : List X) (k : ℕ) (x : X) → slice_get xs k ≡ Some x → drop k xs ≡ x ∷ drop (k + 1) xs
drop_at_get xs k x e =
    drop_more xs k x (get_within xs k x e) ∙ ap (λ y. y ∷ drop (k + 1) xs) (get_or_from_slice_get xs k x x e)

-- the item of a list at which an iteration stands
pub seam : {X : Type 0} (front back : List X) (x : X) → slice_get (front ++ x ∷ back) (length front) ≡ Some x
seam [] back x = refl
seam (y ∷ front) back x = seam front back x

pub at_seam : {X : Type 0} (yielded rest behind whole : List X) (x : X) → yielded ++ rest ≡ whole → rest ≡ x ∷ behind
    → slice_get whole (length yielded) ≡ Some x
at_seam yielded rest behind whole x split next =
    ap (λ l. slice_get l (length yielded)) (sym (ap (λ l. yielded ++ l) (sym next) ∙ split)) ∙ seam yielded behind x

pub all_yielded : {X : Type 0} (yielded rest whole : List X) → yielded ++ rest ≡ whole → length rest ≡ 0
    → length whole ≤ length yielded
all_yielded yielded rest whole split ended = omega (arith, ap length split, length-append yielded rest)

-- a refusal that is handed on
pub gives_refused : {X Y : Type 0} (view : X → Y) (definition : Result Y Refusal) (result : Result X Refusal) (why : Refusal)
    → IsErr result × IsErrAnd result (λ e. e ≡ why)
    → (why ≡ OutOfMemory) ⊎ (definition ≡ Err why) → Gives view result definition
gives_refused view definition (Ok x) why h said = absurd h.1
gives_refused view definition (Err e) why h said =
    let P : Refusal → Type 0 = λ w. (w ≡ OutOfMemory) ⊎ (definition ≡ Err w) in subst P (sym h.1) said

-- ---- a cell

cons_is : {X : Type 0} (x : Option X) → cons_option x [] ≡ option_to_list x
cons_is None = refl
cons_is (Some x) = refl

values_at_more : (place : ℕ) (rows : List (List Value)) (row : List Value) (value : Option Value)
    → slice_get row place ≡ value → values_at place (rows ++ row ∷ []) ≡ values_at place rows ++ option_to_list value
values_at_more place rows row value e =
    filter_map-append (λ (r : List Value). slice_get r place) rows (row ∷ []) ∙ ap (λ l. values_at place rows ++ l) (cons_is (slice_get row place) ∙ ap option_to_list e)

-- a row that has a value in a column with a function
pub cell_adds : (place : ℕ) (row : List Value) (function : Function) (value : Value) (old new : Cell)
    → old.function ≡ Some function → slice_get row place ≡ Some value → new.function ≡ old.function
    → new.first ≡ old.first → AddsValue function value old.tally new.tally → CellAdds place row old new
cell_adds place row function value old new has there same first adds None head rows is =
    let bad : ◌≡◌ {A = Option Function} None (Some function) = sym is.0 ∙ has in absurd cc
cell_adds place row function value old new has there same first adds (Some f) head rows is = (
  same ∙ is.0,
  let e : f ≡ function = some_same (sym is.0 ∙ has) in
      let before : IsTally function old.tally (values_at place (head ∷ rows)) =
      subst (λ g. IsTally g old.tally (values_at place (head ∷ rows))) e is.1 in
      let more : values_at place ((head ∷ rows) ++ row ∷ []) ≡ values_at place (head ∷ rows) ++ value ∷ [] =
      values_at_more place (head ∷ rows) row (Some value) there in
      let after : IsTally function new.tally (values_at place ((head ∷ rows) ++ row ∷ [])) =
      subst (λ l. IsTally function new.tally l) (sym more) (adds (values_at place (head ∷ rows)) before) in
      subst (λ g. IsTally g new.tally (values_at place ((head ∷ rows) ++ row ∷ []))) (sym e) after,
)

-- a row that has none, or a column without a function
pub cell_stays : (place : ℕ) (row : List Value) (cell : Cell) → (cell.function ≡ None) ⊎ (slice_get row place ≡ None)
    → CellAdds place row cell cell
cell_stays place row cell why None head rows is = is
cell_stays place row cell (inl none) (Some f) head rows is =
    let bad : ◌≡◌ {A = Option Function} None (Some f) = sym none ∙ is.0 in absurd cc
cell_stays place row cell (inr none) (Some f) head rows is = (
  is.0,
  let more : values_at place ((head ∷ rows) ++ row ∷ []) ≡ values_at place (head ∷ rows) =
      values_at_more place (head ∷ rows) row None none ∙ append-nil (values_at place (head ∷ rows)) in
      subst (λ l. IsTally f cell.tally l) (sym more) is.1,
)

-- ---- a group

-- the cells up to a place are those of a row
abbrev pub CellsOf : List (Option Function) → List Value → List Cell → Type 0
CellsOf functions row cells =
    (place : ℕ) (function : Option Function) (cell : Cell) → slice_get functions place ≡ Some function → slice_get cells place ≡ Some cell → IsCell place function cell (row ∷ [])

pub cells_more : (functions : List (Option Function)) (row : List Value) (cells : List Cell) (end : ℕ) (function : Option Function) (cell : Cell)
    → length cells ≡ end → slice_get functions end ≡ Some function
    → IsCell end function cell (row ∷ []) → CellsOf functions row cells → CellsOf functions row (cells ++ cell ∷ [])
cells_more functions row cells end function cell many there is before place f c at got =
    elim (get_push cells cell c place got) [
      | inl earlier ↦ before place f c at earlier
      | inr last ↦
          let same : end ≡ place = sym (last.0 ∙ many) in
          let e : function ≡ f = some_same (sym there ∙ ap (slice_get functions) same ∙ at) in
          subst (λ k. IsCell k f c (row ∷ [])) same (subst (λ d. IsCell end f d (row ∷ [])) last.1 (subst (λ g. IsCell end g cell (row ∷ [])) e is))
    ]

-- the cells below a place have a row more, and the others stay
pub record AddedBelow (place : ℕ) (row : List Value) (before after : List Cell) : Type 0 where
  pub as_many : length after ≡ length before
  pub below : (k : ℕ) (old new : Cell) → k < place → slice_get before k ≡ Some old → slice_get after k ≡ Some new
      → CellAdds k row old new
  pub above : (k : ℕ) → place ≤ k → slice_get after k ≡ slice_get before k

pub added_more : (place : ℕ) (row : List Value) (before after : List Cell) (old new : Cell) → place < length after
    → old ≡ get_or after place old → CellAdds place row old new → AddedBelow place row before after
    → AddedBelow (place + 1) row before (set after place new)
added_more place row before after old new lt at adds so_far = record {
  as_many = same_length after place new ∙ so_far.as_many;
  below = λ k was is below there here. elim (apart_from k place below) [
    | inl less ↦ so_far.below k was is less there (sym (get_below after place k new less) ∙ here)
    | inr e ↦
        let old_is : was ≡ old =
        some_same (sym there ∙ ap (slice_get before) e ∙ sym (so_far.above place (omega arith)) ∙ get_at after place old lt at) in
        let new_is : is ≡ new =
        some_same (sym here ∙ ap (slice_get (set after place new)) e ∙ get_set after place new lt) in
        subst (λ n. CellAdds n row was is) (sym e) (subst (λ c. CellAdds place row c is) (sym old_is) (subst (λ c. CellAdds place row old c) (sym new_is) adds))
  ];
  above = λ k le. get_above after place k new (omega arith) ∙ so_far.above k (omega arith);
}
  where
    same_length : (cells : List Cell) (i : ℕ) (c : Cell) → length (set cells i c) ≡ length cells
    same_length [] i c = refl
    same_length (d ∷ cells) zero c = refl
    same_length (d ∷ cells) (suc i) c = ap suc (same_length cells i c)

pub added_all : (place : ℕ) (row : List Value) (old new : Group) → length old.cells.items ≤ place
    → AddedBelow place row old.cells.items new.cells.items → GroupAdds row old new
added_all place row old new le added functions [] is = absurd is
added_all place row old new le added functions (first ∷ rows) is = (
  added.as_many ∙ is.0,
  λ k function cell at here.
      let inside : k < length old.cells.items =
      let below = get_within functions k function at in omega (arith, is.0) in
      let there = get_inside old.cells.items k inside in
      added.below k there.0 cell (omega arith) there.1 here function first rows (is.1 k function there.0 at there.1),
)

row_by : (values : List Value) (value : Option Value) (rest : Result (List (Option Value)) Refusal)
    → onto values ((rest >>= (λ vs. Ok (value ∷ vs))) >>= (λ vs. Ok (filter_map (λ v. v) vs))) ≡ onto (values ++ option_to_list value) (rest >>= (λ vs. Ok (filter_map (λ v. v) vs)))
row_by values value (Err why) = refl
row_by values None (Ok vs) = ap (λ l. Ok (l ++ filter_map (λ v. v) vs)) (sym (append-nil values))
row_by values (Some value) (Ok vs) = ap (λ l. Ok l) (sym (append_assoc values (value ∷ []) (filter_map (λ v. v) vs)))

module _ (functions : List (Option Function)) (group : Group) (rows : List (List Value)) (place : ℕ)
    (is : IsGroup functions group rows) where
  as_many : (rows : List (List Value)) → IsGroup functions group rows → length group.cells.items ≡ length functions
  as_many [] is = absurd is
  as_many (row ∷ rows) is = is.0

  cell_is : (rows : List (List Value)) → IsGroup functions group rows → (function : Option Function) (cell : Cell)
      → slice_get functions place ≡ Some function → slice_get group.cells.items place ≡ Some cell
      → IsCell place function cell rows
  cell_is [] is function cell at here = absurd is
  cell_is (row ∷ rows) is function cell at here = is.1 place function cell at here

  module _ (cell : Cell) (here : slice_get group.cells.items place ≡ Some cell)
      (result : Result (Option Value) Refusal)
      (one : (place : ℕ) (function : Option Function) (rows : List (List Value)) → IsCell place function cell rows → result ≡ value_in rows (place, function)) where
    there : (function : Option Function) × (slice_get functions place ≡ Some function)
    there =
        get_inside functions place (let below = get_within group.cells.items place cell here in omega (arith, as_many rows is))

    split : drop place functions ≡ there.0 ∷ drop (place + 1) functions
    split = drop_at_get functions place there.0 there.1

    result_is : value_in rows (place, there.0) ≡ result
    result_is = sym (one place there.0 rows (cell_is rows is there.0 cell there.1 here))

    -- a value more of the row
    pub row_more : (values : List Value) (value : Option Value) → result ≡ Ok value
        → onto values (row_from place (drop place functions) rows) ≡ onto (values ++ option_to_list value) (row_from (place + 1) (drop (place + 1) functions) rows)
    row_more values value e =
        ap (λ l. onto values (row_from place l rows)) split
        ∙ ap (λ r. onto values ((r >>= (λ v. each (value_in rows) (enumerate_from (place + 1) (drop (place + 1) functions)) >>= (λ vs. Ok (v ∷ vs)))) >>= (λ vs. Ok (filter_map (λ v. v) vs)))) (result_is ∙ e)
        ∙ row_by values value (each (value_in rows) (enumerate_from (place + 1) (drop (place + 1) functions)))

    pub row_refused : (values : List Value) (why : Refusal) → result ≡ Err why
        → onto values (row_from place (drop place functions) rows) ≡ Err why
    row_refused values why e =
        ap (λ l. onto values (row_from place l rows)) split
        ∙ ap (λ r. onto values ((r >>= (λ v. each (value_in rows) (enumerate_from (place + 1) (drop (place + 1) functions)) >>= (λ vs. Ok (v ∷ vs)))) >>= (λ vs. Ok (filter_map (λ v. v) vs)))) (result_is ∙ e)

-- ---- the groups

abbrev pub Kept : List (Option Function) → List (List (List Value)) → List Group → Type 0
Kept functions lists kept = AllZip (λ rows group. IsGroup functions group rows) lists kept

-- the parts of what is kept are those of the rows
abbrev pub Are : List (Option Function) → List (Option Function) → List (List Value) → List Group → List (List Value)
    → Type 0
Are functions own keys kept rows =
    (own ≡ functions) × (keys ≡ keys_of (map (keyed_row functions) rows)) × IsDistinct same_row keys × Kept functions (groups (map (keyed_row functions) rows)) kept

module _ (functions : List (Option Function)) (row : List Value) where
  joins_kept : (lists : List (List (List Value))) (kept : List Group) (place : ℕ) (old new : Group)
      → place < length kept → old ≡ get_or kept place old → GroupAdds row old new
      → Kept functions lists kept → Kept functions (with_member lists place row) (set kept place new)
  joins_kept lists [] place old new lt at adds all = absurd (omega arith)
  joins_kept [] (group ∷ kept) place old new lt at adds all = absurd all
  joins_kept (list ∷ lists) (group ∷ kept) zero old new lt at adds all =
      (adds functions list (subst (λ g. IsGroup functions g list) (sym at) all.0), all.1)
  joins_kept (list ∷ lists) (group ∷ kept) (suc place) old new lt at adds all =
      (all.0, joins_kept lists kept place old new (omega arith) at adds all.1)

  begins_kept : (lists : List (List (List Value))) (kept : List Group) (place : ℕ) (new : Group) → length kept ≤ place
      → IsGroup functions new (row ∷ []) → Kept functions lists kept
      → Kept functions (with_member lists place row) (kept ++ new ∷ [])
  begins_kept [] [] place new le is all = (is, tt)
  begins_kept [] (group ∷ kept) place new le is all = absurd all
  begins_kept (list ∷ lists) [] place new le is all = absurd all
  begins_kept (list ∷ lists) (group ∷ kept) zero new le is all = absurd (omega arith)
  begins_kept (list ∷ lists) (group ∷ kept) (suc place) new le is all =
      (all.0, begins_kept lists kept place new (omega arith) is all.1)

  module _ (rows : List (List Value)) (own : List (Option Function)) (keys : List (List Value)) (kept : List Group)
      (keys_after : List (List Value)) (place : ℕ) (are : Are functions own keys kept rows)
      (inserted : keys_after ≡ insert_key same_row keys (key_of own row)) (unique : IsDistinct same_row keys_after) (at : place ≡ position_or_len (same_row (key_of own row)) keys) where
    abbrev keyed : List KeyedRow
    keyed = map (keyed_row functions) rows

    keyed_more : map (keyed_row functions) (rows ++ row ∷ []) ≡ keyed ++ keyed_row functions row ∷ []
    keyed_more = map-append (keyed_row functions) rows (row ∷ [])

    keys_more : keys_after ≡ keys_of (map (keyed_row functions) (rows ++ row ∷ []))
    keys_more =
        inserted ∙ ap (λ fs. insert_key same_row keys (key_of fs row)) are.0
        ∙ ap (λ ks. insert_key same_row ks (key_of functions row)) are.1
        ∙ keys_of-more keyed (keyed_row functions row) ∙ ap keys_of (sym keyed_more)

    members : with_member (groups keyed) place row ≡ groups (map (keyed_row functions) (rows ++ row ∷ []))
    members =
        ap (λ n. with_member (groups keyed) n row)
        (at ∙ ap (λ fs. position_or_len (same_row (key_of fs row)) keys) are.0 ∙ ap (λ ks. position_or_len (same_row (key_of functions row)) ks) are.1)
        ∙ groups_more keyed (keyed_row functions row) (subst (λ ks. IsDistinct same_row ks) are.1 are.2)
        ∙ ap groups (sym keyed_more)

    -- a row more in a group that is there
    pub joins : (was is : Group) → place < length kept → was ≡ get_or kept place was → GroupAdds row was is
        → Are functions own keys_after (set kept place is) (rows ++ row ∷ [])
    joins was is lt there adds =
        (are.0, keys_more, unique, subst (λ l. Kept functions l (set kept place is)) members (joins_kept (groups keyed) kept place was is lt there adds are.3))

    -- a row that begins a group
    pub begins : (is : Group) (after : List Group) → length kept ≤ place → IsGroup own is (row ∷ [])
        → after ≡ kept ++ is ∷ [] → Are functions own keys_after after (rows ++ row ∷ [])
    begins is after le one e =
        (are.0, keys_more, unique, subst (λ l. Kept functions l after) members (subst (λ l. Kept functions (with_member (groups keyed) place row) l) (sym e) (begins_kept (groups keyed) kept place is le (subst (λ fs. IsGroup fs is (row ∷ [])) are.0 one) are.3)))

-- the rows of the groups from a place on
abbrev pub table_from : List (Option Function) → ℕ → List (List Value) → Result (List (List Value)) Refusal
table_from functions place rows = each (row_of_group functions) (drop place (groups (map (keyed_row functions) rows)))

pub kept_at : (functions : List (Option Function)) (lists : List (List (List Value))) (kept : List Group) (place : ℕ) (group : Group)
    → slice_get kept place ≡ Some group → Kept functions lists kept
    → (list : List (List Value)) × (slice_get lists place ≡ Some list) × IsGroup functions group list
kept_at functions lists [] place group at all = absurd cc
kept_at functions [] (g ∷ kept) place group at all = absurd all
kept_at functions (list ∷ lists) (g ∷ kept) zero group at all =
    (list, refl, subst (λ h. IsGroup functions h list) (some_same at) all.0)
kept_at functions (list ∷ lists) (g ∷ kept) (suc place) group at all =
    kept_at functions lists kept place group at all.1

kept_many : (functions : List (Option Function)) (lists : List (List (List Value))) (kept : List Group)
    → Kept functions lists kept → length kept ≡ length lists
kept_many functions [] [] all = refl
kept_many functions [] (group ∷ kept) all = absurd all
kept_many functions (list ∷ lists) [] all = absurd all
kept_many functions (list ∷ lists) (group ∷ kept) all = ap suc (kept_many functions lists kept all.1)

table_by : (front : List (List Value)) (row : List Value) (rest : Result (List (List Value)) Refusal)
    → onto front (rest >>= (λ rows. Ok (row ∷ rows))) ≡ onto (front ++ row ∷ []) rest
table_by front row (Ok rows) = ap (λ l. Ok l) (sym (append_assoc front (row ∷ []) rows))
table_by front row (Err why) = refl

module _ (functions : List (Option Function)) (kept : Groups) (rows : List (List Value)) (place : ℕ)
    (are : AreGroups functions kept rows) where
  module _ (group : Group) (at : slice_get kept.groups.items place ≡ Some group) where
    abbrev pub found : (list : List (List Value)) × (slice_get (groups (map (keyed_row functions) rows)) place ≡ Some list) × IsGroup functions group list
    found = kept_at functions (groups (map (keyed_row functions) rows)) kept.groups.items place group at are.3

    abbrev pub its_rows : List (List Value)
    its_rows = found.0

    pub its_group : IsGroup functions group its_rows
    its_group = found.2

    at_row : table_from functions place rows ≡ row_of_group functions its_rows >>= (λ row. table_from functions (place + 1) rows >>= (λ rows. Ok (row ∷ rows)))
    at_row =
        ap (each (row_of_group functions)) (drop_at_get (groups (map (keyed_row functions) rows)) place its_rows found.1)

    -- a row more of the table
    pub table_more : (front : List (List Value)) (row : List Value) → row_of_group functions its_rows ≡ Ok row
        → onto front (table_from functions place rows) ≡ onto (front ++ row ∷ []) (table_from functions (place + 1) rows)
    table_more front row e =
        ap (onto front) (at_row ∙ ap (λ r. r >>= (λ row. table_from functions (place + 1) rows >>= (λ rows. Ok (row ∷ rows)))) e)
        ∙ table_by front row (table_from functions (place + 1) rows)

    pub table_refused : (front : List (List Value)) (why : Refusal) → row_of_group functions its_rows ≡ Err why
        → onto front (table_from functions place rows) ≡ Err why
    table_refused front why e =
        ap (onto front) (at_row ∙ ap (λ r. r >>= (λ row. table_from functions (place + 1) rows >>= (λ rows. Ok (row ∷ rows)))) e)

  pub table_ends : (front : List (List Value)) → length kept.groups.items ≤ place
      → onto front (table_from functions place rows) ≡ Ok front
  table_ends front le =
      ap (λ l. onto front (each (row_of_group functions) l)) (drop_all place (groups (map (keyed_row functions) rows)) (omega (arith, kept_many functions (groups (map (keyed_row functions) rows)) kept.groups.items are.3)))
      ∙ ap (λ l. Ok l) (append-nil front)
