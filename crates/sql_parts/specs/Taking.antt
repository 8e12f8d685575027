-- Taking parts off those that are not put together yet, the last first.
use Rattle.std.specs.Prelude.{◌≡◌, ℕ, ℤ, Option, Some, None, List, ◌∷◌}
use Rattle.values.specs.declared.value.Value.{Value}
use Rattle.sql_tree.specs.Condition.{ConditionTree}
use Rattle.sql_tree.specs.Expression.{ExpressionTree}
use Rattle.sql_tree.specs.declared.condition.Operand.{Operand}
use Rattle.sql_tree.specs.declared.name.ColumnName.{ColumnName}
use Rattle.sql_tree.specs.declared.select.Output.{Output}
use Rattle.sql_tree.specs.declared.select.OutputValue.{OutputValue}
use Rattle.sql_tree.specs.declared.select.Select.{Select}
use Rattle.sql_tree.specs.declared.statement.Assignment.{Assignment}
use Rattle.sql_tree.specs.declared.statement.Column.{Column}
use Rattle.sql_tree.specs.declared.statement.CreateTable.{CreateTable}
use Rattle.sql_tree.specs.declared.statement.Insert.{Insert}
use Rattle.sql_tree.specs.declared.statement.Update.{Update}
use Rattle.sql_parts.specs.declared.parsed.Parsed.{Parsed}
use Rattle.sql_parts.specs.declared.part.Part.{Part}
use Rattle.sql_parts.specs.declared.part.Part.TheVariants as part

-- takes one thing off the parts, where it is the last
abbrev pub Taking : Type 0 → Type 0
Taking X = List Part → Option (X × List Part)

abbrev pub after : {X Y : Type 0} → Option (X × List Part) → (X → List Part → Option Y) → Option Y
after None f = None
after (Some x) f = f x.0 x.1

infixl 10 ◌>>=◌
-- goes on with what was taken
abbrev pub ◌>>=◌ : {X Y : Type 0} → Taking X → (X → List Part → Option Y) → List Part → Option Y
(x >>= f) ps = after (x ps) f

-- puts a part above those that are left
abbrev pub done : Part → List Part → Option (List Part)
done p ps = Some (p ∷ ps)

-- what was taken, and what is left, or nothing of the kind
abbrev pub Takes : {X : Type 0} → Option X → List Part → Option (X × List Part) → Type 0
Takes None rest taken = taken ≡ None
Takes (Some x) rest taken = taken ≡ Some (x, rest)

abbrev pub a_name : Taking (List ℕ)
a_name (part.Name x ∷ ps) = Some (x, ps)
a_name _ = None

abbrev pub a_number : Taking (ℤ)
a_number (part.Number x ∷ ps) = Some (x, ps)
a_number _ = None

abbrev pub a_text : Taking (List ℕ)
a_text (part.Text x ∷ ps) = Some (x, ps)
a_text _ = None

abbrev pub an_argument : Taking (List ℕ)
an_argument (part.Argument x ∷ ps) = Some (x, ps)
an_argument _ = None

abbrev pub a_literal : Taking (Value)
a_literal (part.Literal x ∷ ps) = Some (x, ps)
a_literal _ = None

abbrev pub a_column_name : Taking (ColumnName)
a_column_name (part.ColumnName x ∷ ps) = Some (x, ps)
a_column_name _ = None

abbrev pub an_operand : Taking (Operand)
an_operand (part.Operand x ∷ ps) = Some (x, ps)
an_operand _ = None

abbrev pub an_expression : Taking (ExpressionTree)
an_expression (part.Expression x ∷ ps) = Some (x, ps)
an_expression _ = None

abbrev pub a_condition : Taking (Option ConditionTree)
a_condition (part.Condition x ∷ ps) = Some (x, ps)
a_condition _ = None

abbrev pub a_column : Taking (Column)
a_column (part.Column x ∷ ps) = Some (x, ps)
a_column _ = None

abbrev pub a_create_table : Taking (CreateTable)
a_create_table (part.CreateTable x ∷ ps) = Some (x, ps)
a_create_table _ = None

abbrev pub a_row : Taking (List Value)
a_row (part.Row x ∷ ps) = Some (x, ps)
a_row _ = None

abbrev pub an_insert : Taking (Insert)
an_insert (part.Insert x ∷ ps) = Some (x, ps)
an_insert _ = None

abbrev pub an_assignment : Taking (Assignment)
an_assignment (part.Assignment x ∷ ps) = Some (x, ps)
an_assignment _ = None

abbrev pub an_update : Taking (Update)
an_update (part.Update x ∷ ps) = Some (x, ps)
an_update _ = None

abbrev pub an_output_value : Taking (OutputValue)
an_output_value (part.OutputValue x ∷ ps) = Some (x, ps)
an_output_value _ = None

abbrev pub an_output : Taking (Output)
an_output (part.Output x ∷ ps) = Some (x, ps)
an_output _ = None

abbrev pub outputs : Taking (List Output)
outputs (part.Outputs x ∷ ps) = Some (x, ps)
outputs _ = None

abbrev pub a_query : Taking (Select)
a_query (part.Query x ∷ ps) = Some (x, ps)
a_query _ = None

abbrev pub a_line : Taking (Parsed)
a_line (part.Parsed x ∷ ps) = Some (x, ps)
a_line _ = None
