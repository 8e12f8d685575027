-- The catalog's rows of a new table, and of a new index.
use Rattle.std.proofs.Common.{◌≡◌, ◌≢◌, ◌<◌, ◌≤◌, ◌+◌, ◌^◌, ℕ, pos, zero, suc, Bool, true, false, List, [], ◌∷◌, length, map, get_or, Ok, refl, ap, arith, subst, sym}
use Rattle.std.specs.Int.{w64}
use Rattle.std.specs.Int.RustNames.{FitsSigned}
use Rattle.std.specs.List.{AllByRecursion, Contains, cons_option}
use Rattle.values.specs.declared.value.Kind.{Kind}
use Rattle.values.specs.declared.value.Kind.TheVariants as kind
use Rattle.values.specs.declared.value.Value.{Value}
use Rattle.row_codec.specs.RowCode.{IsValue}
use Rattle.row_codec.proofs.Codes.{row_size}
use Rattle.values.specs.Name.{IsName, same_name}
use Rattle.sql_tree.specs.declared.statement.Column.{Column as TableColumn}
use Rattle.heap_file.specs.declared.chain.Placed.{Placed}
use Rattle.heap_file.specs.HeapPage.{IsShort}
use Rattle.heap_laws.specs.Table.{IsStorable}
use Rattle.relation.specs.declared.catalog.CatalogEntry.{CatalogEntry}
use Rattle.relation.specs.declared.row.CatalogRow.{CatalogRow}
use Rattle.relation.specs.declared.row.CatalogRow.TheVariants.{Table, Column, Index}
use Rattle.relation.specs.declared.row.ColumnRow.{ColumnRow}
use Rattle.relation.specs.Catalog.{AreColumns, as_column, as_kept, column_rows, index_rows, kept_indexes, table_rows, row_told}
use Rattle.relation.specs.CatalogRow.{IsCatalogRow, kind_number, row_values}
use Rattle.relation.specs.Each.{each}
use Rattle.relation.specs.Work.{row_of_index, rows_of_columns, rows_of_table}
use Rattle.relation.proofs.Fitting.{column_short, index_short, is_text, table_short}
use Rattle.relation_laws.specs.Laws.{AreTableColumns}
use Rattle.relation_laws.specs.Tables.{SpeaksOfTable, numbered, numbered_row}
use Rattle.relation_laws.proofs.Lists.{all-at}
use Rattle.relation_laws.proofs.Names.{name-is, name-same}

small-fits : (n : ℕ) → n < 2 ^ 32 → FitsSigned w64 (pos n)
small-fits n lt = record { sfits = omega (arith, lt) }

storable : (values : List Value) → IsShort values → AllByRecursion IsValue values → IsStorable values
storable values short all = record {
  fits = omega arith;
  lawful = record { some = short.some; few = short.few; values = all };
  code = refl;
  short = subst (λ (n : ℕ). n ≤ 900) (sym (row_size 0 values)) short.short;
}

kind-fits : (kind : Kind) → FitsSigned w64 (pos (kind_number kind))
kind-fits kind.Int = small-fits 1 (omega arith)
kind-fits kind.Text = small-fits 2 (omega arith)

table-storable : (name : List ℕ) (first : ℕ) → IsName name → first < 2 ^ 32 → IsStorable (row_values (Table (record { name = name; first = first })))
table-storable name first is lt = storable _ (table_short name first is) (small-fits 1 (omega arith), (is_text name is, (small-fits first lt, tt)))

column-storable : (table : List ℕ) (place : ℕ) (column : TableColumn) → IsName table → place < 2 ^ 32 → IsName column.name → IsStorable (row_values (Column (record { table = table; place = place; column = column })))
column-storable table place column is lt named =
    storable _ (column_short table place column is named) (small-fits 2 (omega arith), (is_text table is, (small-fits place lt, (is_text column.name named, (kind-fits column.kind, tt)))))

pub index-storable : (name table : List ℕ) (place root : ℕ) → IsName name → IsName table → place < 2 ^ 32 → root < 2 ^ 32 → IsStorable (row_values (row_of_index name table place root))
index-storable name table place root is named lt small =
    storable _ (index_short name table place root is named) (small-fits 3 (omega arith), (is_text name is, (is_text table named, (small-fits place lt, (small-fits 2 (omega arith), (small-fits root small, tt))))))

abbrev NamesAre : List TableColumn → Type 0
NamesAre columns = AllByRecursion (λ (column : TableColumn). IsName column.name) columns

columns-storable : (name : List ℕ) (place : ℕ) (columns : List TableColumn) → IsName name → NamesAre columns → place + length columns ≤ 16 → AllByRecursion IsStorable (map row_values (rows_of_columns name place columns))
columns-storable name place [] is named few = tt
columns-storable name place (column ∷ columns) is named few =
    (column-storable name place column is (omega (arith, few)) named.0, columns-storable name (place + 1) columns is named.1 (omega (arith, few)))

-- the rows of a table can be stored
pub rows-storable : (name : List ℕ) (first : ℕ) (columns : List TableColumn) → IsName name → first < 2 ^ 32 → AreTableColumns columns → AllByRecursion IsStorable (map row_values (rows_of_table name first columns))
rows-storable name first columns is lt are = (table-storable name first is lt, columns-storable name 0 columns is are.are_names (omega (arith, are.few)))

columns-lawful : (name : List ℕ) (place : ℕ) (columns : List TableColumn) → IsName name → NamesAre columns → place + length columns ≤ 16 → AllByRecursion IsCatalogRow (rows_of_columns name place columns)
columns-lawful name place [] is named few = tt
columns-lawful name place (column ∷ columns) is named few =
    ((is, omega (arith, few), named.0), columns-lawful name (place + 1) columns is named.1 (omega (arith, few)))

pub rows-lawful : (name : List ℕ) (first : ℕ) (columns : List TableColumn) → IsName name → first < 2 ^ 32 → AreTableColumns columns → AllByRecursion IsCatalogRow (rows_of_table name first columns)
rows-lawful name first columns is lt are = ((is, lt), columns-lawful name 0 columns is are.are_names (omega (arith, are.few)))

pub length-rows : (name : List ℕ) (place : ℕ) (columns : List TableColumn) → length (map row_values (rows_of_columns name place columns)) ≡ length columns
length-rows name place [] = refl
length-rows name place (column ∷ columns) = ap suc (length-rows name (place + 1) columns)

-- what rows tell that stand somewhere
abbrev pub tells : List Placed → List CatalogRow → List CatalogEntry
tells (placed ∷ more) (row ∷ rows) = record { page = placed.page; row = row } ∷ tells more rows
tells _ _ = []

pub are-told : (next : ℕ) (more : List Placed) (rows : List CatalogRow) → map numbered_row more ≡ numbered next (map row_values rows) → AllByRecursion IsCatalogRow rows → each row_told more (Ok (tells more rows))
are-told next [] [] same all = refl
are-told next [] (row ∷ rows) same all = absurd cc
are-told next (placed ∷ more) [] same all = absurd cc
are-told next (placed ∷ more) (row ∷ rows) same all =
    let front : numbered_row placed ≡ (next, row_values row) = cc same in
    let behind : map numbered_row more ≡ numbered (next + 1) (map row_values rows) = cc same in
    let values : placed.row ≡ row_values row = ap (λ (r : ℕ × List Value). r.1) front in
    (record { page = placed.page; row = row }, (refl, (all.0, values)), (tells more rows, are-told (next + 1) more rows behind all.1, refl))

pub length-more : (next : ℕ) (more : List Placed) (rows : List (List Value)) → map numbered_row more ≡ numbered next rows → length more ≡ length rows
length-more next [] [] same = refl
length-more next [] (row ∷ rows) same = absurd cc
length-more next (placed ∷ more) [] same = absurd cc
length-more next (placed ∷ more) (row ∷ rows) same =
    let behind : map numbered_row more ≡ numbered (next + 1) rows = cc same in
    ap suc (length-more (next + 1) more rows behind)

-- the columns' rows are no table's and no index's
pub no-tables : (more : List Placed) (name : List ℕ) (place : ℕ) (columns : List TableColumn) → table_rows (tells more (rows_of_columns name place columns)) ≡ []
no-tables [] name place [] = refl
no-tables [] name place (column ∷ columns) = refl
no-tables (placed ∷ more) name place [] = refl
no-tables (placed ∷ more) name place (column ∷ columns) = no-tables more name (place + 1) columns

pub no-indexes : (more : List Placed) (name : List ℕ) (place : ℕ) (columns : List TableColumn) → index_rows (tells more (rows_of_columns name place columns)) ≡ []
no-indexes [] name place [] = refl
no-indexes [] name place (column ∷ columns) = refl
no-indexes (placed ∷ more) name place [] = refl
no-indexes (placed ∷ more) name place (column ∷ columns) = no-indexes more name (place + 1) columns

-- they are those of that table
abbrev pub columns_from : List ℕ → ℕ → List TableColumn → List ColumnRow
columns_from name place [] = []
columns_from name place (column ∷ columns) = record { table = name; place = place; column = column } ∷ columns_from name (place + 1) columns

pub own-columns : (more : List Placed) (name : List ℕ) (place : ℕ) (columns : List TableColumn) → length more ≡ length columns → column_rows name (tells more (rows_of_columns name place columns)) ≡ columns_from name place columns
own-columns [] name place [] long = refl
own-columns [] name place (column ∷ columns) long = absurd (omega (arith, long))
own-columns (placed ∷ more) name place [] long = absurd (omega (arith, long))
own-columns (placed ∷ more) name place (column ∷ columns) long =
    rw (name-same name name refl) (ap (λ (rows : List ColumnRow). record { table = name; place = place; column = column } ∷ rows) (own-columns more name (place + 1) columns (omega (arith, long))))

not-same : (a b : List ℕ) → a ≢ b → same_name a b ≡ false
not-same a b apart = go (same_name a b) refl
  where
    go : (t : Bool) → same_name a b ≡ t → t ≡ false
    go true e = absurd (apart (name-is a b e))
    go false e = refl

pub other-columns : (more : List Placed) (name table : List ℕ) (place : ℕ) (columns : List TableColumn) → name ≢ table → column_rows table (tells more (rows_of_columns name place columns)) ≡ []
other-columns [] name table place [] apart = refl
other-columns [] name table place (column ∷ columns) apart = refl
other-columns (placed ∷ more) name table place [] apart = refl
other-columns (placed ∷ more) name table place (column ∷ columns) apart =
    rw (not-same name table apart) (other-columns more name table (place + 1) columns apart)

length-from : (name : List ℕ) (place : ℕ) (columns : List TableColumn) → length (columns_from name place columns) ≡ length columns
length-from name place [] = refl
length-from name place (column ∷ columns) = ap suc (length-from name (place + 1) columns)

told-from : (name : List ℕ) (low : ℕ) (columns : List TableColumn) (k : ℕ) (d : TableColumn) (e : ColumnRow) → k < length columns
    → ((get_or (columns_from name low columns) k e).place ≡ low + k) × ((get_or (columns_from name low columns) k e).column ≡ get_or columns k d)
told-from name low [] k d e lt = absurd (omega (arith, lt))
told-from name low (column ∷ columns) zero d e lt = (omega arith, refl)
told-from name low (column ∷ columns) (suc k) d e lt =
    let rest = told-from name (low + 1) columns k d e (omega (arith, lt)) in
    (omega (arith, rest.0), rest.1)

-- the columns of the table are told
pub are-columns : (name : List ℕ) (columns : List TableColumn) → AreTableColumns columns → AreColumns (columns_from name 0 columns) columns
are-columns name columns are = record {
  some = are.some;
  few = are.few;
  many = length-from name 0 columns;
  each = λ place d lt. (place, omega (arith, lt, length-from name 0 columns), λ e. let here = told-from name 0 columns place d e lt in (omega (arith, here.0), here.1));
}

-- no column's row is one of a table that is not there, and no index's
pub strangers : (names : List (List ℕ)) (name : List ℕ) (rows : List CatalogEntry) → AllByRecursion (λ other. other ≢ name) names → AllByRecursion (λ (row : CatalogEntry). SpeaksOfTable names row.row) rows → (column_rows name rows ≡ []) × (kept_indexes name rows ≡ [])
strangers names name [] apart kept = (refl, refl)
strangers names name (row ∷ rows) apart kept = go (strangers names name rows apart kept.1) row.row kept.0
  where
    go : (column_rows name rows ≡ []) × (kept_indexes name rows ≡ []) → (r : CatalogRow) → SpeaksOfTable names r → (cons_option (as_column name r) (column_rows name rows) ≡ []) × (cons_option (as_kept name r) (kept_indexes name rows) ≡ [])
    go rest (Table t) k = rest
    go rest (Column c) k = (rw (not-same c.table name (all-at (λ other. other ≢ name) names c.table apart k)) rest.0, rest.1)
    go rest (Index i) k = (rest.0, rw (not-same i.table name (all-at (λ other. other ≢ name) names i.table apart k)) rest.1)

-- the columns' rows are kept, and they are no index's
pub kept-columns : (names : List (List ℕ)) (more : List Placed) (name : List ℕ) (place : ℕ) (columns : List TableColumn) → Contains names name
    → AllByRecursion (λ (row : CatalogEntry). SpeaksOfTable names row.row) (tells more (rows_of_columns name place columns))
kept-columns names [] name place [] has = tt
kept-columns names [] name place (column ∷ columns) has = tt
kept-columns names (placed ∷ more) name place [] has = tt
kept-columns names (placed ∷ more) name place (column ∷ columns) has = (has, kept-columns names more name (place + 1) columns has)

pub no-kept : (more : List Placed) (table name : List ℕ) (place : ℕ) (columns : List TableColumn) → kept_indexes table (tells more (rows_of_columns name place columns)) ≡ []
no-kept [] table name place [] = refl
no-kept [] table name place (column ∷ columns) = refl
no-kept (placed ∷ more) table name place [] = refl
no-kept (placed ∷ more) table name place (column ∷ columns) = no-kept more table name (place + 1) columns
