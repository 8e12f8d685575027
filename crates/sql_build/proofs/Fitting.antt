-- The parts of a draft are of the sorts that the grammar says.
use Rattle.std.proofs.Common.{◌≡◌, ◌≤◌, ◌+◌, ℕ, ℤ, suc, Bool, true, false, Option, Some, None, List, [], ◌∷◌, ◌++◌, length, nat_le, if◌then◌else◌, refl, subst, arith}
use Rattle.std.specs.List.{AllByRecursion}
use Rattle.std.proofs.lemmas.Bool.{leb-true}
use Rattle.values.specs.declared.value.Kind.{Kind}
use Rattle.values.specs.declared.value.Value.{Value}
use Rattle.sql_tree.specs.Condition.{ConditionTree}
use Rattle.sql_tree.specs.Expression.{ExpressionTree}
use Rattle.sql_tree.specs.Statement.{IsSelect, IsStatement}
use Rattle.sql_tree.specs.declared.condition.Operand.{Operand}
use Rattle.sql_tree.specs.declared.name.ColumnName.{ColumnName}
use Rattle.sql_tree.specs.declared.select.Output.{Output}
use Rattle.sql_tree.specs.declared.select.OutputValue.{OutputValue}
use Rattle.sql_tree.specs.declared.select.Select.{Select}
use Rattle.sql_tree.specs.declared.statement.Assignment.{Assignment}
use Rattle.sql_tree.specs.declared.statement.Column.{Column}
use Rattle.sql_tree.specs.declared.statement.CreateTable.{CreateTable}
use Rattle.sql_tree.specs.declared.statement.Insert.{Insert}
use Rattle.sql_tree.specs.declared.statement.Statement.{Statement}
use Rattle.sql_tree.specs.declared.statement.Statement.TheVariants as statement
use Rattle.sql_tree.specs.declared.statement.Update.{Update}
use Rattle.sql_parts.specs.declared.action.LineAction.{LineAction}
use Rattle.sql_parts.specs.declared.action.LineAction.TheVariants as line_action
use Rattle.sql_parts.specs.declared.action.ListAction.{ListAction}
use Rattle.sql_parts.specs.declared.action.ListAction.TheVariants as list_action
use Rattle.sql_parts.specs.declared.action.OutputAction.{OutputAction}
use Rattle.sql_parts.specs.declared.action.OutputAction.TheVariants as output_action
use Rattle.sql_parts.specs.declared.action.QueryAction.{QueryAction}
use Rattle.sql_parts.specs.declared.action.QueryAction.TheVariants as query_action
use Rattle.sql_parts.specs.declared.action.RowAction.{RowAction}
use Rattle.sql_parts.specs.declared.action.RowAction.TheVariants as row_action
use Rattle.sql_parts.specs.declared.action.TableAction.{TableAction}
use Rattle.sql_parts.specs.declared.action.TableAction.TheVariants as table_action
use Rattle.sql_parts.specs.declared.action.TermAction.{TermAction}
use Rattle.sql_parts.specs.declared.action.TermAction.TheVariants as term_action
use Rattle.sql_parts.specs.declared.action.UpdateAction.{UpdateAction}
use Rattle.sql_parts.specs.declared.action.UpdateAction.TheVariants as update_action
use Rattle.sql_parts.specs.declared.parsed.AsOf.{AsOf}
use Rattle.sql_parts.specs.declared.parsed.Parsed.{Parsed}
use Rattle.sql_parts.specs.declared.parsed.Parsed.TheVariants as parsed
use Rattle.sql_parts.specs.declared.parsed.RqlCall.{RqlCall}
use Rattle.sql_parts.specs.declared.part.Part.{Part}
use Rattle.sql_parts.specs.declared.part.Part.TheVariants as part
use Rattle.sql_build.specs.Parts.{line, output as output_of, query as query_of, row as row_of, select_list, table as table_of, term as term_of, update as update_of}
use Rattle.sql_parts.proofs.Common.{some_injective}
use Rattle.sql_build.proofs.Sorts.{Cell, table_cells, term_pops, term_pushes, row_pops, row_pushes, update_pops, update_pushes, output_pops, output_pushes, list_pops, list_pushes, query_pops, query_pushes, line_pops, line_pushes}
use Rattle.sql_build.proofs.Sorts as sort

-- the parts, with what is known of each
pub data Fits : List Part → List Cell → Type 0 where
  none : Fits [] []
  name : {x : List ℕ} {ps : List Part} {cs : List Cell} → Fits ps cs → Fits (part.Name x ∷ ps) ((sort.Name, 0) ∷ cs)
  number : {x : ℤ} {ps : List Part} {cs : List Cell} → Fits ps cs → Fits (part.Number x ∷ ps) ((sort.Number, 0) ∷ cs)
  text : {x : List ℕ} {ps : List Part} {cs : List Cell} → Fits ps cs → Fits (part.Text x ∷ ps) ((sort.Text, 0) ∷ cs)
  literal : {x : Value} {ps : List Part} {cs : List Cell} → Fits ps cs → Fits (part.Literal x ∷ ps) ((sort.Literal, 0) ∷ cs)
  column_name : {x : ColumnName} {ps : List Part} {cs : List Cell} → Fits ps cs → Fits (part.ColumnName x ∷ ps) ((sort.ColumnName, 0) ∷ cs)
  operand : {x : Operand} {ps : List Part} {cs : List Cell} → Fits ps cs → Fits (part.Operand x ∷ ps) ((sort.Operand, 0) ∷ cs)
  expression : {x : ExpressionTree} {ps : List Part} {cs : List Cell} → Fits ps cs → Fits (part.Expression x ∷ ps) ((sort.Expression, 0) ∷ cs)
  condition : {x : Option ConditionTree} {ps : List Part} {cs : List Cell} → Fits ps cs → Fits (part.Condition x ∷ ps) ((sort.Condition, 0) ∷ cs)
  column : {x : Column} {ps : List Part} {cs : List Cell} → Fits ps cs → Fits (part.Column x ∷ ps) ((sort.Column, 0) ∷ cs)
  row : {x : List Value} {ps : List Part} {cs : List Cell} → 1 ≤ length x → Fits ps cs → Fits (part.Row x ∷ ps) ((sort.Row, 0) ∷ cs)
  insert : {x : Insert} {ps : List Part} {cs : List Cell} → IsStatement (statement.Insert x) → Fits ps cs → Fits (part.Insert x ∷ ps) ((sort.Insert, 0) ∷ cs)
  assignment : {x : Assignment} {ps : List Part} {cs : List Cell} → Fits ps cs → Fits (part.Assignment x ∷ ps) ((sort.Assignment, 0) ∷ cs)
  update : {x : Update} {ps : List Part} {cs : List Cell} → 1 ≤ length x.assignments → Fits ps cs → Fits (part.Update x ∷ ps) ((sort.Update, 0) ∷ cs)
  value : {x : OutputValue} {ps : List Part} {cs : List Cell} → Fits ps cs → Fits (part.OutputValue x ∷ ps) ((sort.Value, 0) ∷ cs)
  output : {x : Output} {ps : List Part} {cs : List Cell} → Fits ps cs → Fits (part.Output x ∷ ps) ((sort.Output, 0) ∷ cs)
  outputs : {x : List Output} {ps : List Part} {cs : List Cell} → 1 ≤ length x → Fits ps cs → Fits (part.Outputs x ∷ ps) ((sort.Outputs, 0) ∷ cs)
  query : {x : Select} {ps : List Part} {cs : List Cell} → IsSelect x → Fits ps cs → Fits (part.Query x ∷ ps) ((sort.Query, 0) ∷ cs)
  table : {x : CreateTable} {ps : List Part} {cs : List Cell} (n : ℕ) → 1 ≤ length x.columns → length x.columns ≡ n → Fits ps cs → Fits (part.CreateTable x ∷ ps) ((sort.Table, n) ∷ cs)
  plain : {x : Statement} {ps : List Part} {cs : List Cell} → IsStatement x → Fits ps cs → Fits (part.Parsed (parsed.Plain x) ∷ ps) ((sort.Plain, 0) ∷ cs)
  as_of : {x : AsOf} {ps : List Part} {cs : List Cell} → IsSelect x.query → Fits ps cs → Fits (part.Parsed (parsed.AsOf x) ∷ ps) ((sort.AsOf, 0) ∷ cs)
  argument : {x : List ℕ} {ps : List Part} {cs : List Cell} → Fits ps cs → Fits (part.Argument x ∷ ps) ((sort.Argument, 0) ∷ cs)
  call : {x : RqlCall} {ps : List Part} {cs : List Cell} → Fits ps cs → Fits (part.Parsed (parsed.Rql x) ∷ ps) ((sort.Call, 0) ∷ cs)
  line_of : {x : Parsed} {ps : List Part} {cs : List Cell} → Fits ps cs → Fits (part.Parsed x ∷ ps) ((sort.Line, 0) ∷ cs)

-- parts that are put together fit
abbrev pub Made : Option (List Part) → List Cell → Type 0
Made x cs = (ps : List Part) × (x ≡ Some ps) × Fits ps cs

long : {X : Type 0} (xs : List X) (y : X) → length (xs ++ y ∷ []) ≡ length xs + 1
long [] y = refl
long (x ∷ xs) y = let ih = long xs y in omega (arith, ih)

long_is : {X : Type 0} (xs : List X) (y : X) (n : ℕ) → length xs ≡ n → length (xs ++ y ∷ []) ≡ suc n
long_is xs y n e = omega (arith, long xs y, e)

longer : {X : Type 0} (xs : List X) (y : X) → 1 ≤ length (xs ++ y ∷ [])
longer xs y = omega (arith, long xs y)

all_on : {X : Type 0} (P : X → Type 0) (xs : List X) (y : X) → AllByRecursion P xs → P y → AllByRecursion P (xs ++ y ∷ [])
all_on P [] y h p = (p, tt)
all_on P (x ∷ xs) y h p = (h.0, all_on P xs y h.1 p)

pub term_made : (a : TermAction) (ps : List Part) (cs : List Cell) → Fits ps (term_pops a ++ cs) → Made (term_of a ps) (term_pushes a ++ cs)
term_made term_action.Integer ps cs (number f) = (_, refl, literal f)
term_made term_action.Negative ps cs (number f) = (_, refl, literal f)
term_made term_action.Text ps cs (text f) = (_, refl, literal f)
term_made term_action.PlainColumn ps cs (name f) = (_, refl, column_name f)
term_made term_action.QualifiedColumn ps cs (name (name f)) = (_, refl, column_name f)
term_made term_action.LiteralOperand ps cs (literal f) = (_, refl, operand f)
term_made term_action.ColumnOperand ps cs (column_name f) = (_, refl, operand f)
term_made term_action.CurrentSnapshot ps cs f = (_, refl, operand f)

pub row_made : (a : RowAction) (ps : List Part) (cs : List Cell) → Fits ps (row_pops a ++ cs) → Made (row_of a ps) (row_pushes a ++ cs)
row_made row_action.FirstValue ps cs (literal f) = (_, refl, row (omega arith) f)
row_made row_action.NextValue ps cs (literal (row h1 f)) = (_, refl, row (longer _ _) f)
row_made row_action.Insert ps cs (row h0 (name f)) = (_, refl, insert (omega arith, (h0, tt)) f)
row_made row_action.NextTuple ps cs (row h0 (insert h1 f)) = (_, refl, insert (longer _ _, all_on (λ (tuple : List Value). 1 ≤ length tuple) _ _ h1.1 h0) f)
row_made row_action.Finish ps cs (insert h0 f) = (_, refl, plain h0 f)

pub update_made : (a : UpdateAction) (ps : List Part) (cs : List Cell) → Fits ps (update_pops a ++ cs) → Made (update_of a ps) (update_pushes a ++ cs)
update_made update_action.Assign ps cs (expression (name f)) = (_, refl, assignment f)
update_made update_action.Update ps cs (assignment (name f)) = (_, refl, update (omega arith) f)
update_made update_action.NextAssignment ps cs (assignment (update h1 f)) = (_, refl, update (longer _ _) f)
update_made update_action.Finish ps cs (condition (update h1 f)) = (_, refl, plain h1 f)
update_made update_action.Delete ps cs (condition (name f)) = (_, refl, plain tt f)

pub output_made : (a : OutputAction) (ps : List Part) (cs : List Cell) → Fits ps (output_pops a ++ cs) → Made (output_of a ps) (output_pushes a ++ cs)
output_made output_action.Value ps cs (expression f) = (_, refl, value f)
output_made output_action.CountRows ps cs f = (_, refl, value f)
output_made output_action.Count ps cs (expression f) = (_, refl, value f)
output_made output_action.Sum ps cs (expression f) = (_, refl, value f)
output_made output_action.Min ps cs (expression f) = (_, refl, value f)
output_made output_action.Max ps cs (expression f) = (_, refl, value f)
output_made output_action.Named ps cs (name (value f)) = (_, refl, output f)
output_made output_action.Unnamed ps cs (value f) = (_, refl, output f)

pub list_made : (a : ListAction) (ps : List Part) (cs : List Cell) → Fits ps (list_pops a ++ cs) → Made (select_list a ps) (list_pushes a ++ cs)
list_made list_action.All ps cs (name f) = (_, refl, query tt f)
list_made list_action.First ps cs (output f) = (_, refl, outputs (omega arith) f)
list_made list_action.Next ps cs (output (outputs h1 f)) = (_, refl, outputs (longer _ _) f)
list_made list_action.From ps cs (name (outputs h1 f)) = (_, refl, query h1 f)

pub query_made : (a : QueryAction) (ps : List Part) (cs : List Cell) → Fits ps (query_pops a ++ cs) → Made (query_of a ps) (query_pushes a ++ cs)
query_made query_action.Distinct ps cs (query h0 f) = (_, refl, query h0 f)
query_made query_action.Second ps cs (name (query h1 f)) = (_, refl, query h1 f)
query_made query_action.Filter ps cs (condition (query h1 f)) = (_, refl, query h1 f)
query_made query_action.GroupBy ps cs (column_name (query h1 f)) = (_, refl, query h1 f)
query_made (query_action.OrderBy d) ps cs (column_name (query h1 f)) = (_, refl, query h1 f)
query_made query_action.Limit ps cs (number (query h1 f)) = (_, refl, query h1 f)
query_made query_action.Finish ps cs (query h0 f) = (_, refl, plain h0 f)
query_made query_action.AsOf ps cs (query h0 (number f)) = (_, refl, as_of h0 f)

pub line_made : (a : LineAction) (ps : List Part) (cs : List Cell) → Fits ps (line_pops a ++ cs) → Made (line a ps) (line_pushes a ++ cs)
line_made line_action.Commit ps cs f = (_, refl, line_of f)
line_made line_action.CommitUnlabelled ps cs f = (_, refl, line_of f)
line_made line_action.CommitLabelled ps cs (text f) = (_, refl, line_of f)
line_made line_action.Rollback ps cs f = (_, refl, line_of f)
line_made line_action.DropBelow ps cs (number f) = (_, refl, line_of f)
line_made line_action.Argument ps cs (text f) = (_, refl, argument f)
line_made line_action.CollateData ps cs (argument (argument (argument f))) = (_, refl, call f)
line_made line_action.AggregateDataInVariable ps cs (argument (argument (argument (argument f)))) = (_, refl, call f)
line_made line_action.AggregateDataInTable ps cs (argument (argument (argument (argument f)))) = (_, refl, call f)
line_made line_action.CollateDataIntoIntervals ps cs (argument (argument (argument f))) = (_, refl, call f)

column_made : (k : Kind) (ps : List Part) (cs : List Cell) → Fits ps ((sort.Name, 0) ∷ cs) → Made (table_of (table_action.Column k) ps) ((sort.Column, 0) ∷ cs)
column_made k ps cs (name f) = (_, refl, column f)

first_column : (ps : List Part) (cs : List Cell) → Fits ps ((sort.Column, 0) ∷ (sort.Name, 0) ∷ cs) → Made (table_of table_action.CreateTable ps) ((sort.Table, 1) ∷ cs)
first_column ps cs (column (name f)) = (_, refl, table 1 (omega arith) refl f)

next_column : (n : ℕ) (ps : List Part) (cs : List Cell) → Fits ps ((sort.Column, 0) ∷ (sort.Table, n) ∷ cs) → Made (table_of table_action.NextColumn ps) ((sort.Table, suc n) ∷ cs)
next_column n ps cs (column (table k h e f)) = (_, refl, table (suc n) (longer _ _) (long_is _ _ n e) f)

finished_table : (n : ℕ) (ps : List Part) (cs : List Cell) → n ≤ 16 → Fits ps ((sort.Table, n) ∷ cs) → Made (table_of table_action.Finish ps) ((sort.Plain, 0) ∷ cs)
finished_table n ps cs l (table k h e f) = (_, refl, plain (h, omega (arith, e, l)) f)

an_index : (ps : List Part) (cs : List Cell) → Fits ps ((sort.Name, 0) ∷ (sort.Name, 0) ∷ (sort.Name, 0) ∷ cs) → Made (table_of table_action.CreateIndex ps) ((sort.Plain, 0) ∷ cs)
an_index ps cs (name (name (name f))) = (_, refl, plain tt f)

abbrev Cells : Type 0
Cells = List Cell × List Cell

finish_is : (n : ℕ) (b : Bool) (p : Cells) → nat_le n 16 ≡ b → (if b then Some ((sort.Table, n) ∷ [], (sort.Plain, 0) ∷ []) else None) ≡ Some p → (n ≤ 16) × (((sort.Table, n) ∷ [], (sort.Plain, 0) ∷ []) ≡ p)
finish_is n true p h q = (leb-true n 16 h, some_injective q)
finish_is n false p h q = cc

-- from the cells that an action wants to those that are given
given : (ps : List Part) (x : Option (List Part)) (cs : List Cell) (a p : Cells) → a ≡ p → (Fits ps (a.0 ++ cs) → Made x (a.1 ++ cs)) → Fits ps (p.0 ++ cs) → Made x (p.1 ++ cs)
given ps x cs a p e g =
    let P : Cells → Type 0 = λ y. Fits ps (y.0 ++ cs) → Made x (y.1 ++ cs) in
    subst P e g

pub table_made : (a : TableAction) (n : ℕ) (ps : List Part) (cs : List Cell) (p : Cells) → table_cells n a ≡ Some p → Fits ps (p.0 ++ cs) → Made (table_of a ps) (p.1 ++ cs)
table_made (table_action.Column k) n ps cs p h = given ps _ cs _ p (some_injective h) (column_made k ps cs)
table_made table_action.CreateTable n ps cs p h = given ps _ cs _ p (some_injective h) (first_column ps cs)
table_made table_action.NextColumn n ps cs p h = given ps _ cs _ p (some_injective h) (next_column n ps cs)
table_made table_action.Finish n ps cs p h = let q = finish_is n (nat_le n 16) p refl h in given ps _ cs _ p q.1 (finished_table n ps cs q.0)
table_made table_action.CreateIndex n ps cs p h = given ps _ cs _ p (some_injective h) (an_index ps cs)
