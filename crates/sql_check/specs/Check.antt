-- The names and types of statements.
use Rattle.std.specs.Prelude.{◌||◌, ℕ, Bool, true, false, not, Option, Some, None}
use Rattle.std.specs.Prelude.{is_none, List, [], ◌∷◌, Result, Ok, Err, if◌then◌else◌}
use Rattle.std.specs.List.{list_all, list_any}
use Rattle.std.specs.Option.{option_map, option_map_or}
use Rattle.retro_base.specs.declared.refusal.Refusal.{Refusal}
use Rattle.retro_base.specs.declared.refusal.Refusal.TheVariants.{UnknownName, NameTaken, WrongType}
use Rattle.values.specs.declared.value.Kind.{Kind}
use Rattle.sql_tree.specs.declared.schema.Schema.{Schema}
use Rattle.sql_tree.specs.declared.schema.TableSchema.{TableSchema}
use Rattle.sql_tree.specs.declared.select.Select.{Select as SelectRecord}
use Rattle.sql_tree.specs.declared.statement.Assignment.{Assignment}
use Rattle.sql_tree.specs.declared.statement.Column.{Column}
use Rattle.sql_tree.specs.declared.statement.Statement.{Statement}
use Rattle.sql_tree.specs.declared.statement.Statement.TheVariants.{CreateTable, CreateIndex, Insert}
use Rattle.sql_tree.specs.declared.statement.Statement.TheVariants.{Update, Delete, Select}
use Rattle.sql_tree.specs.declared.statement.Update.{Update as UpdateRecord}
use Rattle.sql_kinds.specs.Expressions.{agree, has_unknown, kind_of}
use Rattle.sql_check.specs.Names.{column_named, has_name, has_twins, is_named, is_reserved, stored_table, table_named}
use Rattle.values.specs.Name.{same_name}
use Rattle.sql_tree.specs.Rows.{fits}
use Rattle.sql_check.specs.Selects.{select_has_unknown, select_is_mistyped, where_compares_apart, where_has_unknown}

-- the scope of one table, and of two
abbrev pub scope_of_one : Option TableSchema → Option (List TableSchema)
scope_of_one table = option_map (λ (t : TableSchema). t ∷ []) table

abbrev pub scope_of_two : Option TableSchema → Option TableSchema → Option (List TableSchema)
scope_of_two (Some first) (Some second) = Some (first ∷ second ∷ [])
scope_of_two _ _ = None

-- the tables of a FROM, if all are known; beside another table only one of the store is
abbrev pub tables_of : List ℕ → Option (List ℕ) → Schema → Option (List TableSchema)
tables_of first None schema = scope_of_one (table_named first schema)
tables_of first (Some second) schema = scope_of_two (stored_table first schema) (stored_table second schema)

abbrev pub select_scope : SelectRecord → Schema → Option (List TableSchema)
select_scope select schema = tables_of select.table select.second schema

-- whether nothing is found, or the test holds of it
abbrev pub lacks : {X : Type 0} → Option X → (X → Bool) → Bool
lacks found test = option_map_or test found true

-- whether something is found, and the test holds of it
abbrev pub finds : {X : Type 0} → Option X → (X → Bool) → Bool
finds found test = option_map_or test found false

abbrev pub has_column : List ℕ → List Column → Bool
has_column name columns = has_name (λ (column : Column). column.name) name columns

-- whether an assignment is to an unknown column, or has an unknown name in its value
abbrev pub assigns_unknown : Option ℕ → TableSchema → Assignment → Bool
assigns_unknown snapshot table a = not (has_column a.column table.columns) || has_unknown (table ∷ []) snapshot a.value

abbrev pub update_has_unknown : Option ℕ → UpdateRecord → TableSchema → Bool
update_has_unknown snapshot update table =
    list_any (assigns_unknown snapshot table) update.assignments
    || where_has_unknown (table ∷ []) snapshot update.condition

-- whether a statement has an unknown name
abbrev pub has_unknown_name : Statement → Option ℕ → Schema → Bool
has_unknown_name (CreateTable create) snapshot schema = false
has_unknown_name (CreateIndex create) snapshot schema =
    lacks (stored_table create.table schema) (λ (table : TableSchema). not (has_column create.column table.columns))
has_unknown_name (Insert insert) snapshot schema = is_none (stored_table insert.table schema)
has_unknown_name (Update update) snapshot schema =
    lacks (stored_table update.table schema) (update_has_unknown snapshot update)
has_unknown_name (Delete delete) snapshot schema =
    lacks (stored_table delete.table schema)
    (λ (table : TableSchema). where_has_unknown (table ∷ []) snapshot delete.condition)
has_unknown_name (Select select) snapshot schema =
    lacks (select_scope select schema) (select_has_unknown snapshot select)

-- whether a FROM has one table twice
abbrev pub is_twice : List ℕ → Option (List ℕ) → Bool
is_twice first None = false
is_twice first (Some second) = same_name first second

-- whether a statement takes a name that is taken: that of a table or index that exists, a reserved one for a table, or
-- one of its own columns twice
abbrev pub takes_taken_name : Statement → Schema → Bool
takes_taken_name (CreateTable create) schema =
    is_named create.table schema || is_reserved create.table
    || has_twins (λ (column : Column). column.name) create.columns
takes_taken_name (CreateIndex create) schema = is_named create.index schema
takes_taken_name (Insert insert) schema = false
takes_taken_name (Update update) schema = has_twins (λ (a : Assignment). a.column) update.assignments
takes_taken_name (Delete delete) schema = false
takes_taken_name (Select select) schema = is_twice select.table select.second

-- the kind of the column of that name
abbrev pub column_kind : List ℕ → List Column → Option Kind
column_kind name columns = option_map (λ (column : Column). column.kind) (column_named name columns)

-- whether an assignment gives a column a value of another kind
abbrev pub assigns_other_kind : TableSchema → Assignment → Bool
assigns_other_kind table a = not (agree (column_kind a.column table.columns) (kind_of (table ∷ []) a.value))

abbrev pub update_is_mistyped : UpdateRecord → TableSchema → Bool
update_is_mistyped update table =
    list_any (assigns_other_kind table) update.assignments || where_compares_apart (table ∷ []) update.condition

-- whether a statement has a wrong type; told only where all names are known
abbrev pub has_wrong_type : Statement → Schema → Bool
has_wrong_type (CreateTable create) schema = false
has_wrong_type (CreateIndex create) schema = false
has_wrong_type (Insert insert) schema =
    finds (stored_table insert.table schema)
    (λ (table : TableSchema). not (list_all (fits table.columns) insert.tuples))
has_wrong_type (Update update) schema = finds (stored_table update.table schema) (update_is_mistyped update)
has_wrong_type (Delete delete) schema =
    finds (stored_table delete.table schema)
    (λ (table : TableSchema). where_compares_apart (table ∷ []) delete.condition)
has_wrong_type (Select select) schema = finds (select_scope select schema) (select_is_mistyped select)

-- what is refused: an unknown name before a taken one, and that before a wrong type
abbrev pub first_refusal : Bool → Bool → Bool → Result (Unit {0}) Refusal
first_refusal unknown taken mistyped =
    if unknown then Err UnknownName else if taken then Err NameTaken else if mistyped then Err WrongType else Ok tt

abbrev pub checked : Statement → Option ℕ → Schema → Result (Unit {0}) Refusal
checked statement snapshot schema =
    first_refusal (has_unknown_name statement snapshot schema) (takes_taken_name statement schema)
    (has_wrong_type statement schema)

-- ---- a table that the store does not have

-- the tables of a FROM that has this table alone, or twice
abbrev pub scope_beside : TableSchema → Option (List ℕ) → List TableSchema
scope_beside table None = table ∷ []
scope_beside table (Some name) = table ∷ table ∷ []

-- the FROM names another table, beside which this one cannot stand
abbrev pub names_other : TableSchema → Option (List ℕ) → Bool
names_other table None = false
names_other table (Some name) = not (same_name name table.name)

-- the names and types of a select over this one table
abbrev pub checked_beside : SelectRecord → TableSchema → Result (Unit {0}) Refusal
checked_beside select table =
    first_refusal (names_other table select.second || select_has_unknown None select (scope_beside table select.second))
    (is_twice select.table select.second)
    (select_is_mistyped select (scope_beside table select.second))
