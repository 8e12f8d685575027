-- The rows of the catalog.
use Rattle.std.specs.Prelude.{◌≡◌, ◌<◌, ◌^◌, ℕ, ℤ, pos, List, [], ◌∷◌, Option, Some, None}
use Rattle.values.specs.declared.value.Kind.{Kind}
use Rattle.values.specs.declared.value.Kind.TheVariants as kind
use Rattle.values.specs.declared.value.Value.{Value}
use Rattle.values.specs.declared.value.Value.TheVariants.{Int, Text}
use Rattle.values.specs.Name.{IsName}
use Rattle.relation.specs.declared.row.CatalogRow.{CatalogRow}
use Rattle.relation.specs.declared.row.CatalogRow.TheVariants.{Table, Column, Index}
use Rattle.relation.specs.declared.row.IndexForm.{IndexForm}
use Rattle.relation.specs.declared.row.IndexForm.TheVariants.{Named, Tree}

-- a column's kind as a number
abbrev pub kind_number : Kind → ℕ
kind_number kind.Int = 1
kind_number kind.Text = 2

-- an index's form as a number
abbrev pub form_number : IndexForm → ℕ
form_number Named = 0
form_number Tree = 2

-- The values of a row: 1, the table's name and its first page; or 2, the table's name, the place from 0, the column's
-- name and kind; or 3, the index's name, the table's name, the column's place, the form and the root page.
abbrev pub row_values : CatalogRow → List Value
row_values (Table row) = Int (pos 1) ∷ Text row.name ∷ Int (pos row.first) ∷ []
row_values (Column row) =
    Int (pos 2) ∷ Text row.table ∷ Int (pos row.place) ∷ Text row.column.name ∷ Int (pos (kind_number row.column.kind))
    ∷ []
row_values (Index row) =
    Int (pos 3) ∷ Text row.name ∷ Text row.table ∷ Int (pos row.place) ∷ Int (pos (form_number row.form)) ∷ Int
    (pos row.root) ∷ []

-- what a row may be: its names are names, its numbers fit four bytes
abbrev pub IsCatalogRow : CatalogRow → Type 0
IsCatalogRow (Table row) = IsName row.name × (row.first < 2 ^ 32)
IsCatalogRow (Column row) = IsName row.table × (row.place < 2 ^ 32) × IsName row.column.name
IsCatalogRow (Index row) = IsName row.name × IsName row.table × (row.place < 2 ^ 32) × (row.root < 2 ^ 32)

-- the row whose values these are, or none where they are a row's of none of the three kinds
abbrev pub IsRowOf : List Value → Option CatalogRow → Type 0
IsRowOf values None = (row : CatalogRow) → IsCatalogRow row → values ≡ row_values row → ⊥
IsRowOf values (Some row) = IsCatalogRow row × (values ≡ row_values row)

-- the name that a text is, or none
abbrev pub IsNameOf : List ℕ → Option (List ℕ) → Type 0
IsNameOf text None = IsName text → ⊥
IsNameOf text (Some name) = IsName name × (text ≡ name)

-- the number of four bytes that an integer is, or none
abbrev pub IsNumber : ℤ → Option ℕ → Type 0
IsNumber integer None = (number : ℕ) → number < 2 ^ 32 → integer ≡ pos number → ⊥
IsNumber integer (Some number) = (number < 2 ^ 32) × (integer ≡ pos number)

-- the kind whose number an integer is, or none
abbrev pub IsKind : ℤ → Option Kind → Type 0
IsKind integer None = (kind : Kind) → integer ≡ pos (kind_number kind) → ⊥
IsKind integer (Some kind) = integer ≡ pos (kind_number kind)

-- the form whose number an integer is, or none
abbrev pub IsForm : ℤ → Option IndexForm → Type 0
IsForm integer None = (form : IndexForm) → integer ≡ pos (form_number form) → ⊥
IsForm integer (Some form) = integer ≡ pos (form_number form)
