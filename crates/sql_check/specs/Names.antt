-- Names that stand for something, and names that are taken.
use Rattle.std.specs.Prelude.{◌||◌, ◌==◌, nat_eq, ℕ, Bool, false, Option, None, List, [], ◌∷◌, codes, if◌then◌else◌}
use Rattle.std.specs.List.{find, list_any, starts_with}
use Rattle.sql_tree.specs.declared.schema.IndexSchema.{IndexSchema}
use Rattle.sql_tree.specs.declared.schema.Schema.{Schema}
use Rattle.sql_tree.specs.declared.schema.TableSchema.{TableSchema}
use Rattle.sql_tree.specs.declared.statement.Column.{Column}
use Rattle.values.specs.Name.{same_name}

-- whether an item of the list has the name
abbrev pub has_name : {X : Type 0} → (X → List ℕ) → List ℕ → List X → Bool
has_name name_of name items = list_any (λ item. same_name (name_of item) name) items

-- whether a name stands twice in the list
abbrev pub has_twins : {X : Type 0} → (X → List ℕ) → List X → Bool
has_twins name_of [] = false
has_twins name_of (item ∷ items) = has_name name_of (name_of item) items || has_twins name_of items

-- whether no table of the store may have the name: the snapshots' own name, and names of result tables
abbrev pub is_reserved : List ℕ → Bool
is_reserved name = same_name name (codes "SnapIds") || starts_with nat_eq name (codes "rql_")

-- the column of that name
abbrev pub column_named : List ℕ → List Column → Option Column
column_named name columns = find (λ (column : Column). same_name column.name name) columns

-- the table of that name
abbrev pub table_named : List ℕ → Schema → Option TableSchema
table_named name schema = find (λ (table : TableSchema). same_name table.name name) schema.tables

-- the table of that name where one of the store is wanted
abbrev pub stored_table : List ℕ → Schema → Option TableSchema
stored_table name schema = if is_reserved name then None else table_named name schema

-- whether a table or an index has the name
abbrev pub is_named : List ℕ → Schema → Bool
is_named name schema =
    has_name (λ (table : TableSchema). table.name) name schema.tables
    || has_name (λ (index : IndexSchema). index.name) name schema.indexes
