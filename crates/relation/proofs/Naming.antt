-- What is found by name.
use Rattle.heap_file.proofs.Positions.{position-at, position-none}
use Rattle.std.proofs.Common.{◌≡◌, ◌∙◌, ◌<◌, ◌+◌, ◌++◌, ℕ, Bool, true, false, List, [], ◌∷◌, length, get_or, take, Option, Some, None, Ordering, Result, cond, refl, sym, ap, subst, arith, inl, inr, eqb-true, eq-eqb, ◌≤◌}
use Rattle.std.specs.Prelude.{is_some}
use Rattle.std.specs.BTreeMap.{BTreeMap, get, is_at}
use Rattle.std.specs.Cmp.Lexicographic.{pointwise_decides, slice_cmp}
use Rattle.std.specs.List.{cons_option, filter_map}
use Rattle.std.specs.Ordering.{is_eq, nat_cmp}
use Rattle.std.proofs.lemmas.Bool.{cases_lt}
use Rattle.std.proofs.lemmas.Bool.Decides.{nat_tests}
use Rattle.std.proofs.lemmas.Cmp.{same_from_slice_cmp}
use Rattle.std.proofs.lemmas.List.{append-nil, get_or_default}
use Rattle.retro_base.specs.declared.refusal.Refusal.{Refusal}
use Rattle.relation.specs.declared.catalog.StoredTable.{StoredTable}
use Rattle.relation.specs.declared.catalog.CatalogEntry.{CatalogEntry}
use Rattle.relation.specs.declared.row.CatalogRow.TheVariants.{Column, Index}
use Rattle.relation.specs.declared.row.ColumnRow.{ColumnRow}
use Rattle.relation.specs.declared.row.TableRow.{TableRow}
use Rattle.relation.specs.Catalog.{as_column, as_kept, column_rows, kept_indexes, table_told, table_with, table_place}
use Rattle.relation.specs.declared.catalog.StoredIndex.{StoredIndex}
use Rattle.relation.specs.declared.row.IndexRow.{IndexRow}
use Rattle.relation.specs.declared.row.IndexForm.TheVariants.{Tree}
use Rattle.values.specs.Name.{same_name}
use Rattle.relation.specs.Named.{place_under, rows_under}
use Rattle.relation.proofs.Steps.{filter_map-next, filter_map-none}

-- names that compare alike
pub names_alike : (a b : List ℕ) (o : Ordering) → o ≡ slice_cmp nat_cmp a b → is_eq o ≡ same_name a b
names_alike = same_from_slice_cmp nat_cmp is_eq same_name refl (λ _ _. refl) (λ _ _. refl) (λ x y xs ys o h. grind (arith, nat_tests))

pub at_name : (a b : List ℕ) → is_at (slice_cmp nat_cmp a) b ≡ same_name a b
at_name a b = names_alike a b (slice_cmp nat_cmp a b) refl

pub name_is : (a b : List ℕ) → same_name a b ≡ true → a ≡ b
name_is a b h = (pointwise_decides (λ (x y : ℕ). (eqb-true x y, eq-eqb x y)) a b).0 h

-- what is kept for each table, where one item is added to that of its table
pub item_added : {A : Type 0} (old mid new : BTreeMap (List ℕ) (List A)) (key named table : List ℕ) (item : A) (items : List A)
    → ((q : List ℕ) → get (slice_cmp nat_cmp) mid q ≡ cond (is_at (slice_cmp nat_cmp key) q) None (get (slice_cmp nat_cmp) old q))
    → ((q : List ℕ) → get (slice_cmp nat_cmp) new q ≡ cond (is_at (slice_cmp nat_cmp named) q) (Some items) (get (slice_cmp nat_cmp) mid q))
    → named ≡ key → items ≡ rows_under old key ++ item ∷ [] → rows_under new table ≡ rows_under old table ++ cond (same_name key table) (item ∷ []) []
item_added old mid new key named table item items removed inserted one are = go (same_name key table) refl
  where
    go : (b : Bool) → same_name key table ≡ b → rows_under new table ≡ rows_under old table ++ cond b (item ∷ []) []
    go true e =
        let same : key ≡ table = name_is key table e in
        rw (inserted table, one, at_name key table, e) (are ∙ ap (λ (name : List ℕ). rows_under old name ++ item ∷ []) same)
    go false e = rw (inserted table, removed table, one, at_name key table, e, append-nil) refl

-- what is kept for each table of the rows of the catalog so far, where `of` tells what each row is to its table
abbrev pub IsKept : {A : Type 0} → (List ℕ → CatalogEntry → Option A) → BTreeMap (List ℕ) (List A) → List CatalogEntry → Type 0
IsKept of kept rows = (table : List ℕ) → rows_under kept table ≡ filter_map (of table) rows

-- one row of the catalog more
pub kept-more : {A : Type 0} (of : List ℕ → CatalogEntry → Option A) (kept after : BTreeMap (List ℕ) (List A)) (rows : List CatalogEntry) (i : ℕ) (told : CatalogEntry) (named : List ℕ) (item : A) → i < length rows → told ≡ get_or rows i told
    → ((table : List ℕ) → of table told ≡ cond (same_name named table) (Some item) None)
    → IsKept of kept (take i rows)
    → ((table : List ℕ) → rows_under after table ≡ rows_under kept table ++ cond (same_name named table) (item ∷ []) [])
    → IsKept of after (take (i + 1) rows)
kept-more {A} of kept after rows i told named item lt is tells so_far added table =
    let next = filter_map-next (of table) rows i told lt is in
    let one : cons_option (of table told) [] ≡ cond (same_name named table) (item ∷ []) [] = rw (tells table) (chosen (same_name named table)) in
    added table ∙ ap (λ (l : List A). l ++ cond (same_name named table) (item ∷ []) []) (so_far table) ∙ ap (λ (l : List A). filter_map (of table) (take i rows) ++ l) (sym one) ∙ sym next
  where
    chosen : (b : Bool) → cons_option (cond b (Some item) None) [] ≡ cond b (item ∷ []) []
    chosen true = refl
    chosen false = refl

pub kept-other : {A : Type 0} (of : List ℕ → CatalogEntry → Option A) (kept : BTreeMap (List ℕ) (List A)) (rows : List CatalogEntry) (i : ℕ) (told : CatalogEntry) → i < length rows → told ≡ get_or rows i told → ((table : List ℕ) → of table told ≡ None)
    → IsKept of kept (take i rows) → IsKept of kept (take (i + 1) rows)
kept-other of kept rows i told lt is none so_far table =
    so_far table ∙ sym (filter_map-none (of table) rows i told lt is (none table))

-- a column's row, and that of an index that is kept, told under the name of its table
pub column-tells : (told : CatalogEntry) (row : ColumnRow) (table : List ℕ) → told.row ≡ Column row → as_column table told.row ≡ cond (same_name row.table table) (Some row) None
column-tells told row table is = rw is refl

pub index-tells : (told : CatalogEntry) (row : IndexRow) (table : List ℕ) → told.row ≡ Index row → row.form ≡ Tree → as_kept table told.row ≡ cond (same_name row.table table) (Some (record { place = row.place; root = row.root })) None
index-tells told row table is tree = rw (is, tree) refl

-- the table of a row, by the rows of its columns and its indexes
pub told-under : (rows : List CatalogEntry) (columns : List ColumnRow) (indexes : List StoredIndex) (row : ℕ × TableRow) (r : Result StoredTable Refusal) → columns ≡ column_rows row.1.name rows → indexes ≡ kept_indexes row.1.name rows → table_with columns indexes row r → table_told rows row r
told-under rows columns indexes row r same these h =
    subst (λ (cs : List ColumnRow). table_with cs (kept_indexes row.1.name rows) row r) same (subst (λ (is : List StoredIndex). table_with columns is row r) these h)

-- the place of the first table of a name, among so many
abbrev pub IsPlaceBelow : ℕ → List ℕ → List StoredTable → Option ℕ → Type 0
IsPlaceBelow count name tables None = (k : ℕ) (d : StoredTable) → k < count → same_name (get_or tables k d).name name ≡ false
IsPlaceBelow count name tables (Some i) =
    (i < count) × ((d : StoredTable) → same_name (get_or tables i d).name name ≡ true)
    × ((k : ℕ) (d : StoredTable) → k < i → same_name (get_or tables k d).name name ≡ false)

-- among all tables it is the place
pub place-is : (name : List ℕ) (tables : List StoredTable) (count : ℕ) (o : Option ℕ) → length tables ≤ count → count ≤ length tables → IsPlaceBelow count name tables o → o ≡ table_place name tables
place-is name tables count None all few none = sym (position-none (λ (table : StoredTable). same_name table.name name) tables (λ k d lt. none k d (omega (arith, lt, all))))
place-is name [] count (Some i) all few at = absurd (omega (arith, at.0, few))
place-is name (table ∷ tables) count (Some i) all few at =
    sym (position-at (λ (table : StoredTable). same_name table.name name) (table ∷ tables) i table (omega (arith, at.0, few)) (at.1 table) (λ k below. at.2 k table below))

-- one table more, of another name
further : (name : List ℕ) (tables : List StoredTable) (count : ℕ) (table : StoredTable) (o : Option ℕ) → count < length tables → table ≡ get_or tables count table → same_name table.name name ≡ false → IsPlaceBelow count name tables o → IsPlaceBelow (count + 1) name tables o
further name tables count table None lt is apart h = λ k d below.
    elim (cases_lt k count) [
      | inl less ↦ h k d less
      | inr above ↦
          let same : k ≡ count = omega arith in
          rw (same, get_or_default tables count d table lt, ← is) apart
    ]
further name tables count table (Some i) lt is apart h = (omega (arith, h.0), h.1, h.2)

-- one table more, of a name that was there
pub place-there : (places : BTreeMap (List ℕ) ℕ) (tables : List StoredTable) (count : ℕ) (table : StoredTable) → count < length tables → table ≡ get_or tables count table → is_some (place_under places table.name) ≡ true
    → ((name : List ℕ) → IsPlaceBelow count name tables (place_under places name)) → (name : List ℕ) → IsPlaceBelow (count + 1) name tables (place_under places name)
place-there places tables count table lt is some so_far name = go (same_name table.name name) refl (place_under places name) refl
  where
    clash : is_some {T = ℕ} None ≡ true → ⊥
    clash e = absurd cc

    go : (b : Bool) → same_name table.name name ≡ b → (o : Option ℕ) → place_under places name ≡ o → IsPlaceBelow (count + 1) name tables o
    go false e o f = further name tables count table o lt is e (subst (IsPlaceBelow count name tables) f (so_far name))
    go true e None f =
        let same : table.name ≡ name = name_is table.name name e in
        absurd (clash (sym (ap (λ (p : Option ℕ). is_some p) f) ∙ ap (λ (n : List ℕ). is_some (place_under places n)) (sym same) ∙ some))
    go true e (Some i) f =
        let h = subst (IsPlaceBelow count name tables) f (so_far name) in
        (omega (arith, h.0), h.1, h.2)

-- one table more, of a new name
pub place-new : (places after : BTreeMap (List ℕ) ℕ) (tables : List StoredTable) (count : ℕ) (table : StoredTable) (named : List ℕ) → named ≡ table.name → count < length tables → table ≡ get_or tables count table → is_some (place_under places table.name) ≡ false
    → ((q : List ℕ) → get (slice_cmp nat_cmp) after q ≡ cond (is_at (slice_cmp nat_cmp named) q) (Some count) (get (slice_cmp nat_cmp) places q))
    → ((name : List ℕ) → IsPlaceBelow count name tables (place_under places name)) → (name : List ℕ) → IsPlaceBelow (count + 1) name tables (place_under after name)
place-new places after tables count table named one lt is none inserted so_far name = go (same_name table.name name) refl
  where
    clash : (i : ℕ) → is_some (Some i) ≡ false → ⊥
    clash i e = absurd cc

    here : (o : Option ℕ) → place_under places name ≡ o → table.name ≡ name → same_name table.name name ≡ true → IsPlaceBelow (count + 1) name tables (Some count)
    here None f same e =
        let h = subst (IsPlaceBelow count name tables) f (so_far name) in
        (omega arith, λ d. rw (get_or_default tables count d table lt, ← is) e, λ k d below. h k d below)
    here (Some i) f same e =
        absurd (clash i (sym (ap (λ (p : Option ℕ). is_some p) f) ∙ ap (λ (n : List ℕ). is_some (place_under places n)) (sym same) ∙ none))

    go : (b : Bool) → same_name table.name name ≡ b → IsPlaceBelow (count + 1) name tables (place_under after name)
    go true e = rw (inserted name, one, at_name table.name name, e) (here (place_under places name) refl (name_is table.name name e) e)
    go false e = rw (inserted name, one, at_name table.name name, e) (further name tables count table (place_under places name) lt is e (so_far name))
