-- Rows in groups, one row more at a time.
use Rattle.std.proofs.Common.{◌≡◌, ◌∙◌, ℕ, zero, suc, ◌<◌, ◌≤◌, length, get_or, set, Bool, true, false, ◌||◌, List, [], ◌∷◌, ◌++◌, map, refl, sym, ap, arith, append-nil}
use Rattle.std.specs.List.{filter, list_any, position_or_len, IsDistinct, AllByRecursion}
use Rattle.indexmap.specs.IndexSet.{insert_key}
use Rattle.std.proofs.lemmas.List.{map-append}
use Rattle.std.proofs.lemmas.List.Elements.{filter-append}
use Rattle.values.specs.declared.value.Value.{Value}
use Rattle.sql_select.specs.Same.{same_row}
use Rattle.sql_select.specs.SameOutputs.{same_outputs_equiv}
use Rattle.sql_select.specs.Sameness.{same_row_equiv}
use Rattle.sql_select.specs.declared.grouping.KeyedRow.{KeyedRow}
use Rattle.sql_select.specs.declared.output_row.OutputRow.{OutputRow}
use Rattle.sql_select.specs.Groups.{firsts, same_outputs, distinct, keys_of, rows_of_key, groups, with_member}
use Rattle.sql_select.proofs.Firsts.{filter_yes, filter_no, insert_there, insert_new, any_firsts, firsts_more}

-- the first of the rows with the same outputs, with a row more
pub distinct_more : (rows : List OutputRow) (row : OutputRow) → insert_key same_outputs (distinct rows) row ≡ distinct (rows ++ row ∷ [])
distinct_more rows row = sym (firsts_more same_outputs same_outputs_equiv rows row)

-- ---- rows of keys

abbrev pub key_of : KeyedRow → List Value
key_of keyed = keyed.key

abbrev pub row_of : KeyedRow → List Value
row_of keyed = keyed.row

abbrev pub has_key : List Value → KeyedRow → Bool
has_key key keyed = same_row key keyed.key

rows_with : (rows : List KeyedRow) (keyed : KeyedRow) (key : List Value) → same_row key keyed.key ≡ true → rows_of_key (rows ++ keyed ∷ []) key ≡ rows_of_key rows key ++ keyed.row ∷ []
rows_with rows keyed key e =
    ap (map row_of) (filter-append (has_key key) rows (keyed ∷ []) ∙ ap (λ l. filter (has_key key) rows ++ l) (filter_yes (has_key key) keyed [] e))
    ∙ map-append row_of (filter (has_key key) rows) (keyed ∷ [])

rows_without : (rows : List KeyedRow) (keyed : KeyedRow) (key : List Value) → same_row key keyed.key ≡ false → rows_of_key (rows ++ keyed ∷ []) key ≡ rows_of_key rows key
rows_without rows keyed key e =
    ap (map row_of) (filter-append (has_key key) rows (keyed ∷ []) ∙ ap (λ l. filter (has_key key) rows ++ l) (filter_no (has_key key) keyed [] e) ∙ append-nil (filter (has_key key) rows))

-- a key that no row has
no_rows_by : (key : List Value) (keyed : KeyedRow) (rows : List KeyedRow) (b : Bool) → same_row key keyed.key ≡ b → list_any (same_row key) (map key_of (keyed ∷ rows)) ≡ false
    → (list_any (same_row key) (map key_of rows) ≡ false → rows_of_key rows key ≡ []) → rows_of_key (keyed ∷ rows) key ≡ []
no_rows_by key keyed rows true e h ih = let bad : true ≡ false = sym (ap (λ b. b || list_any (same_row key) (map key_of rows)) e) ∙ h in cc
no_rows_by key keyed rows false e h ih =
    ap (map row_of) (filter_no (has_key key) keyed rows e) ∙ ih (sym (ap (λ b. b || list_any (same_row key) (map key_of rows)) e) ∙ h)

no_rows : (key : List Value) (rows : List KeyedRow) → list_any (same_row key) (map key_of rows) ≡ false → rows_of_key rows key ≡ []
no_rows key [] h = refl
no_rows key (keyed ∷ rows) h = no_rows_by key keyed rows (same_row key keyed.key) refl h (no_rows key rows)

-- the groups of keys that are not the row's stay as they are
stay : (rows : List KeyedRow) (keyed : KeyedRow) (key : List Value) (keys : List (List Value)) → same_row keyed.key key ≡ true → AllByRecursion (λ k. same_row key k ≡ false) keys
    → map (rows_of_key rows) keys ≡ map (rows_of_key (rows ++ keyed ∷ [])) keys
stay rows keyed key [] e apart = refl
stay rows keyed key (k ∷ keys) e apart = λ i. sym (rows_without rows keyed k (same_row_equiv.symm k keyed.key ∙ same_row_equiv.congr keyed.key key k e ∙ apart.0)) i ∷ stay rows keyed key keys e apart.1 i

module _ (rows : List KeyedRow) (keyed : KeyedRow) where
  abbrev after : List KeyedRow
  after = rows ++ keyed ∷ []

  -- where the row's key is the first
  joins_first : (key : List Value) (keys : List (List Value)) → same_row keyed.key key ≡ true → AllByRecursion (λ k. same_row key k ≡ false) keys
      → with_member (map (rows_of_key rows) (key ∷ keys)) (position_or_len (same_row keyed.key) (key ∷ keys)) keyed.row ≡ map (rows_of_key after) (insert_key same_row (key ∷ keys) keyed.key)
  joins_first key keys e apart =
      let place : position_or_len (same_row keyed.key) (key ∷ keys) ≡ 0 = rw e refl in
      let there : insert_key same_row (key ∷ keys) keyed.key ≡ key ∷ keys = insert_there same_row (key ∷ keys) keyed.key (ap (λ b. b || list_any (same_row keyed.key) keys) e) in
      ap (λ p. with_member (map (rows_of_key rows) (key ∷ keys)) p keyed.row) place
      ∙ (λ i. sym (rows_with rows keyed key (same_row_equiv.symm key keyed.key ∙ e)) i ∷ stay rows keyed key keys e apart i)
      ∙ ap (map (rows_of_key after)) (sym there)

  -- where it is not
  insert_behind : (key : List Value) (keys : List (List Value)) (b : Bool) → list_any (same_row keyed.key) keys ≡ b → same_row keyed.key key ≡ false → insert_key same_row (key ∷ keys) keyed.key ≡ key ∷ insert_key same_row keys keyed.key
  insert_behind key keys true a e =
      insert_there same_row (key ∷ keys) keyed.key (ap (λ b. b || list_any (same_row keyed.key) keys) e ∙ a) ∙ ap (λ l. key ∷ l) (sym (insert_there same_row keys keyed.key a))
  insert_behind key keys false a e =
      insert_new same_row (key ∷ keys) keyed.key (ap (λ b. b || list_any (same_row keyed.key) keys) e ∙ a) ∙ ap (λ l. key ∷ l) (sym (insert_new same_row keys keyed.key a))

  joins_behind : (key : List Value) (keys : List (List Value)) → same_row keyed.key key ≡ false
      → with_member (map (rows_of_key rows) keys) (position_or_len (same_row keyed.key) keys) keyed.row ≡ map (rows_of_key after) (insert_key same_row keys keyed.key)
      → with_member (map (rows_of_key rows) (key ∷ keys)) (position_or_len (same_row keyed.key) (key ∷ keys)) keyed.row ≡ map (rows_of_key after) (insert_key same_row (key ∷ keys) keyed.key)
  joins_behind key keys e ih =
      let place : position_or_len (same_row keyed.key) (key ∷ keys) ≡ suc (position_or_len (same_row keyed.key) keys) = rw e (omega arith) in
      ap (λ p. with_member (map (rows_of_key rows) (key ∷ keys)) p keyed.row) place
      ∙ (λ i. sym (rows_without rows keyed key (same_row_equiv.symm key keyed.key ∙ e)) i ∷ ih i)
      ∙ ap (map (rows_of_key after)) (sym (insert_behind key keys (list_any (same_row keyed.key) keys) refl e))

  joins_by : (key : List Value) (keys : List (List Value)) (b : Bool) → same_row keyed.key key ≡ b → AllByRecursion (λ k. same_row key k ≡ false) keys
      → (same_row keyed.key key ≡ false → with_member (map (rows_of_key rows) keys) (position_or_len (same_row keyed.key) keys) keyed.row ≡ map (rows_of_key after) (insert_key same_row keys keyed.key))
      → with_member (map (rows_of_key rows) (key ∷ keys)) (position_or_len (same_row keyed.key) (key ∷ keys)) keyed.row ≡ map (rows_of_key after) (insert_key same_row (key ∷ keys) keyed.key)
  joins_by key keys true e apart ih = joins_first key keys e apart
  joins_by key keys false e apart ih = joins_behind key keys e (ih e)

  joins : (keys : List (List Value)) → IsDistinct same_row keys → (list_any (same_row keyed.key) keys ≡ false → rows_of_key rows keyed.key ≡ [])
      → with_member (map (rows_of_key rows) keys) (position_or_len (same_row keyed.key) keys) keyed.row ≡ map (rows_of_key after) (insert_key same_row keys keyed.key)
  unfolding IsDistinct
  joins [] apart none = ap (λ l. l ∷ []) (sym (rows_with rows keyed keyed.key (same_row_equiv.refl keyed.key) ∙ ap (λ l. l ++ keyed.row ∷ []) (none refl)))
  joins (key ∷ keys) apart none =
      joins_by key keys (same_row keyed.key key) refl apart.0 (λ e. joins keys apart.1 (λ h. none (ap (λ b. b || list_any (same_row keyed.key) keys) e ∙ h)))

-- the keys, with a row more
pub keys_of-more : (rows : List KeyedRow) (keyed : KeyedRow) → insert_key same_row (keys_of rows) keyed.key ≡ keys_of (rows ++ keyed ∷ [])
keys_of-more rows keyed =
    sym (ap (firsts same_row) (map-append key_of rows (keyed ∷ [])) ∙ firsts_more same_row same_row_equiv (map key_of rows) keyed.key)

-- the groups, with a row more
pub groups_more : (rows : List KeyedRow) (keyed : KeyedRow) → IsDistinct same_row (keys_of rows)
    → with_member (groups rows) (position_or_len (same_row keyed.key) (keys_of rows)) keyed.row ≡ groups (rows ++ keyed ∷ [])
groups_more rows keyed apart =
    joins rows keyed (keys_of rows) apart (λ h. no_rows keyed.key rows (sym (any_firsts same_row same_row_equiv keyed.key (map key_of rows)) ∙ h))
    ∙ ap (map (rows_of_key (rows ++ keyed ∷ []))) (keys_of-more rows keyed)

-- a row more in a group that is there
pub joins_at : {X : Type 0} (groups : List (List X)) (place : ℕ) (x : X) (group : List X) → place < length groups → group ≡ get_or groups place group
    → set groups place (group ++ x ∷ []) ≡ with_member groups place x
joins_at [] place x group lt is = absurd (omega arith)
joins_at (g ∷ groups) zero x group lt is = ap (λ l. (l ++ x ∷ []) ∷ groups) is
joins_at (g ∷ groups) (suc place) x group lt is = ap (λ l. g ∷ l) (joins_at groups place x group (omega arith) is)

-- a row that begins a group
pub begins : {X : Type 0} (groups : List (List X)) (place : ℕ) (x : X) → length groups ≤ place → groups ++ (x ∷ []) ∷ [] ≡ with_member groups place x
begins [] place x le = refl
begins (g ∷ groups) zero x le = absurd (omega arith)
begins (g ∷ groups) (suc place) x le = ap (λ l. g ∷ l) (begins groups place x (omega arith))
