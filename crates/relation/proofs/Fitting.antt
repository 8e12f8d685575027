-- Rows of the catalog, and rows that fit columns.
use Rattle.std.proofs.Common.{◌≡◌, ◌∙◌, ◌<◌, ◌≤◌, ◌+◌, ◌++◌, ◌&&◌, ◌||◌, ◌==◌, ◌⊎◌, ℕ, nat_le, Bool, true, false, List, [], ◌∷◌, length, map, take, refl, sym, ap, arith, add-zero, get_or, inl, inr}
use Rattle.std.specs.List.{list_all, AllByRecursion}
use Rattle.std.proofs.lemmas.List.{length-take-le, map-append, take_more}
use Rattle.std.proofs.lemmas.Bool.{leb-true, and_parts, eqb-true}
use Rattle.values.specs.Text.{IsPrintable, IsText}
use Rattle.values.specs.declared.value.Value.{Value}
use Rattle.values.specs.Name.{IsName, begins_word, continues_word}
use Rattle.sql_tree.specs.declared.statement.Column.{Column as TableColumn}
use Rattle.heap_file.specs.HeapPage.{IsShort}
use Rattle.relation.specs.declared.row.CatalogRow.{CatalogRow}
use Rattle.relation.specs.declared.row.CatalogRow.TheVariants.{Table, Column}
use Rattle.relation.specs.CatalogRow.{row_values}
use Rattle.relation.specs.Work.{row_of_index, rows_of_columns, rows_of_table}

-- the rows of one column more
pub rows_of_columns-push : (table : List ℕ) (place : ℕ) (columns : List TableColumn) (column : TableColumn) → rows_of_columns table place (columns ++ column ∷ []) ≡ rows_of_columns table place columns ++ Column (record { table = table; place = place + length columns; column = column }) ∷ []
rows_of_columns-push table place [] column = ap (λ (n : ℕ). Column (record { table = table; place = n; column = column }) ∷ []) (sym (add-zero place))
rows_of_columns-push table place (first ∷ columns) column =
    let more : (place + 1) + length columns ≡ place + length (first ∷ columns) = omega arith in
    ap (λ (rows : List CatalogRow). Column (record { table = table; place = place; column = first }) ∷ rows)
    (rows_of_columns-push table (place + 1) columns column ∙ ap (λ (n : ℕ). rows_of_columns table (place + 1) columns ++ Column (record { table = table; place = n; column = column }) ∷ []) more)

-- the values of the rows of a table with one column more
pub rows_of_table-next : (name : List ℕ) (first : ℕ) (columns : List TableColumn) (i : ℕ) (column : TableColumn) → i < length columns → column ≡ get_or columns i column → map row_values (rows_of_table name first (take (i + 1) columns)) ≡ map row_values (rows_of_table name first (take i columns)) ++ row_values (Column (record { table = name; place = i; column = column })) ∷ []
rows_of_table-next name first columns i column lt is =
    let head : List Value = row_values (Table (record { name = name; first = first })) in
    let last : take (i + 1) columns ≡ take i columns ++ column ∷ [] = take_more columns i column lt ∙ ap (λ (c : TableColumn). take i columns ++ c ∷ []) (sym is) in
    let long : 0 + length (take i columns) ≡ i = omega (arith, length-take-le i columns (omega arith)) in
    let more : rows_of_columns name 0 (take (i + 1) columns) ≡ rows_of_columns name 0 (take i columns) ++ Column (record { table = name; place = i; column = column }) ∷ [] =
    ap (rows_of_columns name 0) last ∙ rows_of_columns-push name 0 (take i columns) column ∙ ap (λ (n : ℕ). rows_of_columns name 0 (take i columns) ++ Column (record { table = name; place = n; column = column }) ∷ []) long in
    ap (λ (rows : List CatalogRow). head ∷ map row_values rows) more ∙ ap (λ (values : List (List Value)). head ∷ values) (map-append row_values (rows_of_columns name 0 (take i columns)) (Column (record { table = name; place = i; column = column }) ∷ []))

-- one item more, as it is and as it is meant
pub pushed : {A : Type 0} (new old all more : List A) (x y : A) → new ≡ old ++ x ∷ [] → old ≡ all → x ≡ y → more ≡ all ++ y ∷ [] → new ≡ more
pushed new old all more x y made so_far same meant = cc

-- a letter, a digit or an underscore can be printed
or_true : (a b : Bool) → (a || b) ≡ true → (a ≡ true) ⊎ (b ≡ true)
or_true true b h = inl refl
or_true false b h = inr h

between : (low high b : ℕ) → (nat_le low b && nat_le b high) ≡ true → (low ≤ b) × (b ≤ high)
between low high b h =
    let parts = and_parts (nat_le low b) (nat_le b high) h in
    (leb-true low b parts.0, leb-true b high parts.1)

begins_printable : (b : ℕ) → begins_word b ≡ true → IsPrintable b
begins_printable b h =
    elim (or_true ((nat_le 97 b && nat_le b 122) || (nat_le 65 b && nat_le b 90)) (b == 95) h) [
      | inl letter ↦ elim (or_true (nat_le 97 b && nat_le b 122) (nat_le 65 b && nat_le b 90) letter) [
        | inl small ↦ let at = between 97 122 b small in (omega (arith, at.0), omega (arith, at.1))
        | inr large ↦ let at = between 65 90 b large in (omega (arith, at.0), omega (arith, at.1))
      ]
      | inr same ↦ let at = eqb-true b 95 same in (omega (arith, at), omega (arith, at))
    ]

printable : (b : ℕ) → continues_word b ≡ true → IsPrintable b
printable b h =
    elim (or_true (begins_word b) (nat_le 48 b && nat_le b 57) h) [
      | inl begins ↦ begins_printable b begins
      | inr digit ↦ let at = between 48 57 b digit in (omega (arith, at.0), omega (arith, at.1))
    ]

all_printable : (bytes : List ℕ) → list_all continues_word bytes ≡ true → AllByRecursion IsPrintable bytes
all_printable [] h = tt
all_printable (b ∷ bytes) h =
    let parts = and_parts (continues_word b) (list_all continues_word bytes) h in
    (printable b parts.0, all_printable bytes parts.1)

-- a name can be a text
pub is_text : (bytes : List ℕ) → IsName bytes → IsText bytes
is_text [] h = absurd h
is_text (b ∷ bytes) h =
    (omega (arith, h.2), (begins_printable b h.0, all_printable bytes h.1))

-- a name takes at most 32 bytes
pub name-short : (bytes : List ℕ) → IsName bytes → length bytes ≤ 32
name-short [] h = absurd h
name-short (b ∷ bytes) h = omega (arith, h.2)

-- the row of a table is short
pub table_short : (name : List ℕ) (first : ℕ) → IsName name → IsShort (row_values (Table (record { name = name; first = first })))
table_short name first h = record { some = omega arith; few = omega arith; short = omega (arith, name-short name h) }

-- the row of a column is short
pub column_short : (table : List ℕ) (place : ℕ) (column : TableColumn) → IsName table → IsName column.name → IsShort (row_values (Column (record { table = table; place = place; column = column })))
column_short table place column h n = record {
  some = omega arith;
  few = omega arith;
  short = omega (arith, name-short table h, name-short column.name n);
}

-- the row of an index is short
pub index_short : (name table : List ℕ) (place root : ℕ) → IsName name → IsName table → IsShort (row_values (row_of_index name table place root))
index_short name table place root h n = record {
  some = omega arith;
  few = omega arith;
  short = omega (arith, name-short name h, name-short table n);
}

-- a list of so many items, item by item
pub two : {A : Type 0} (xs : List A) (d a b : A) → length xs ≡ 2 → get_or xs 0 d ≡ a → get_or xs 1 d ≡ b → xs ≡ a ∷ b ∷ []
two [] d a b long h i = absurd (omega arith)
two (x ∷ []) d a b long h i = absurd (omega arith)
two (x ∷ y ∷ []) d a b long h i = cc (h, i)
two (x ∷ y ∷ z ∷ xs) d a b long h i = absurd (omega arith)

pub five : {A : Type 0} (xs : List A) (d a b c e f : A) → length xs ≡ 5 → get_or xs 0 d ≡ a → get_or xs 1 d ≡ b → get_or xs 2 d ≡ c → get_or xs 3 d ≡ e → get_or xs 4 d ≡ f → xs ≡ a ∷ b ∷ c ∷ e ∷ f ∷ []
five [] d a b c e f long h i j k l = absurd (omega arith)
five (x ∷ []) d a b c e f long h i j k l = absurd (omega arith)
five (x ∷ y ∷ []) d a b c e f long h i j k l = absurd (omega arith)
five (x ∷ y ∷ z ∷ xs) d a b c e f long h i j k l =
    let rest : xs ≡ e ∷ f ∷ [] = two xs d e f (omega arith) k l in
    cc (h, i, j, rest)

pub six : {A : Type 0} (xs : List A) (d a b c e f g : A) → length xs ≡ 6 → get_or xs 0 d ≡ a → get_or xs 1 d ≡ b → get_or xs 2 d ≡ c → get_or xs 3 d ≡ e → get_or xs 4 d ≡ f → get_or xs 5 d ≡ g → xs ≡ a ∷ b ∷ c ∷ e ∷ f ∷ g ∷ []
six [] d a b c e f g long h i j k l m = absurd (omega arith)
six (x ∷ xs) d a b c e f g long h i j k l m =
    let rest : xs ≡ b ∷ c ∷ e ∷ f ∷ g ∷ [] = five xs d b c e f g (omega arith) i j k l m in
    cc (h, rest)
