-- What is put together of parts whose contents can be spelt is such a part too.
use Rattle.std.proofs.Common.{◌≡◌, ◌<◌, ◌^◌, ◌++◌, ℕ, ℤ, pos, zero, suc, neg_ℤ, Option, Some, None, List, [], ◌∷◌, unsigned_abs, refl, sym, subst, arith}
use Rattle.std.specs.List.{AllByRecursion}
use Rattle.values.specs.Text.{IsText}
use Rattle.values.specs.declared.value.Value.{Value}
use Rattle.sql_tree.specs.Condition.{ConditionTree}
use Rattle.sql_tree.specs.Expression.{ExpressionTree}
use Rattle.sql_tree.specs.declared.condition.Operand.{Operand}
use Rattle.sql_tree.specs.declared.name.ColumnName.{ColumnName}
use Rattle.sql_tree.specs.declared.select.Output.{Output}
use Rattle.sql_tree.specs.declared.select.OutputValue.{OutputValue}
use Rattle.sql_tree.specs.declared.select.Select.{Select}
use Rattle.sql_tree.specs.declared.statement.Assignment.{Assignment}
use Rattle.sql_tree.specs.declared.statement.Column.{Column}
use Rattle.sql_tree.specs.declared.statement.CreateTable.{CreateTable}
use Rattle.sql_tree.specs.declared.statement.Insert.{Insert}
use Rattle.sql_tree.specs.declared.statement.Update.{Update}
use Rattle.sql_parts.specs.declared.action.LineAction.{LineAction}
use Rattle.sql_parts.specs.declared.action.LineAction.TheVariants as line_action
use Rattle.sql_parts.specs.declared.action.ListAction.{ListAction}
use Rattle.sql_parts.specs.declared.action.ListAction.TheVariants as list_action
use Rattle.sql_parts.specs.declared.action.OutputAction.{OutputAction}
use Rattle.sql_parts.specs.declared.action.OutputAction.TheVariants as output_action
use Rattle.sql_parts.specs.declared.action.QueryAction.{QueryAction}
use Rattle.sql_parts.specs.declared.action.QueryAction.TheVariants as query_action
use Rattle.sql_parts.specs.declared.action.RowAction.{RowAction}
use Rattle.sql_parts.specs.declared.action.RowAction.TheVariants as row_action
use Rattle.sql_parts.specs.declared.action.TableAction.{TableAction}
use Rattle.sql_parts.specs.declared.action.TableAction.TheVariants as table_action
use Rattle.sql_parts.specs.declared.action.TermAction.{TermAction}
use Rattle.sql_parts.specs.declared.action.TermAction.TheVariants as term_action
use Rattle.sql_parts.specs.declared.action.UpdateAction.{UpdateAction}
use Rattle.sql_parts.specs.declared.action.UpdateAction.TheVariants as update_action
use Rattle.sql_parts.specs.declared.parsed.Mechanism.{Mechanism}
use Rattle.sql_parts.specs.declared.parsed.Mechanism.TheVariants as mechanism
use Rattle.sql_parts.specs.declared.parsed.Parsed.{Parsed}
use Rattle.sql_parts.specs.declared.part.Part.{Part}
use Rattle.sql_parts.specs.declared.part.Part.TheVariants as part
use Rattle.sql_parts.specs.Taking.{after, a_column, a_column_name, a_condition, a_create_table, a_line, a_literal, a_name, a_number, a_query, a_row, a_text, an_argument, an_assignment, an_expression, an_insert, an_operand, an_output, an_output_value, an_update, outputs}
use Rattle.sql_build.specs.Parts.{call, line, negative, output, query, row, select_list, table, term, update}
use Rattle.print_laws.proofs.Contents.{ArgumentFits, AssignmentFits, ColumnFits, CreateFits, DigitsFit, ExpressionFits, FilterFits, InsertFits, KeyFits, LineFits, MechanismFits, NameFits, NewColumnFits, NumberFits, OperandFits, OutputFits, OutputValueFits, PartsFit, RowFits, SelectFits, UpdateFits, ValueFits}

-- parts that were put together, if any were
pub data Kept : Option (List Part) → Type 0 where
  nothing : Kept None
  kept : {ps : List Part} → PartsFit ps → Kept (Some ps)

-- what was taken off the parts, if anything was
pub data Got (X : Type 0) (P : X → Type 0) : Option (X × List Part) → Type 0 where
  none_got : Got X P None
  got : {x : X × List Part} → P x.0 → PartsFit x.1 → Got X P (Some x)

-- what goes on with what was taken
pub goes_on_with : {X Y : Type 0} (K : Option Y → Type 0) → K None → (P : X → Type 0) (t : Option (X × List Part)) (f : X → List Part → Option Y) → Got X P t → ((x : X) (ps : List Part) → P x → PartsFit ps → K (f x ps)) → K (after t f)
goes_on_with K n P None f g h = n
goes_on_with K n P (Some x) f (got p q) h = h x.0 x.1 p q

pub all_on : {X : Type 0} (P : X → Type 0) (xs : List X) (y : X) → AllByRecursion P xs → P y → AllByRecursion P (xs ++ y ∷ [])
all_on P [] y h p = (p, tt)
all_on P (x ∷ xs) y h p = (h.0, all_on P xs y h.1 p)

got_name : (ps : List Part) → PartsFit ps → Got (List ℕ) NameFits (a_name ps)
got_name (part.Name x ∷ ps) h = got h.0 h.1
got_name _ h = none_got

got_number : (ps : List Part) → PartsFit ps → Got ℤ DigitsFit (a_number ps)
got_number (part.Number x ∷ ps) h = got h.0 h.1
got_number _ h = none_got

got_text : (ps : List Part) → PartsFit ps → Got (List ℕ) IsText (a_text ps)
got_text (part.Text x ∷ ps) h = got h.0 h.1
got_text _ h = none_got

got_argument : (ps : List Part) → PartsFit ps → Got (List ℕ) ArgumentFits (an_argument ps)
got_argument (part.Argument x ∷ ps) h = got h.0 h.1
got_argument _ h = none_got

got_literal : (ps : List Part) → PartsFit ps → Got Value ValueFits (a_literal ps)
got_literal (part.Literal x ∷ ps) h = got h.0 h.1
got_literal _ h = none_got

got_column_name : (ps : List Part) → PartsFit ps → Got ColumnName ColumnFits (a_column_name ps)
got_column_name (part.ColumnName x ∷ ps) h = got h.0 h.1
got_column_name _ h = none_got

pub got_operand : (ps : List Part) → PartsFit ps → Got Operand OperandFits (an_operand ps)
got_operand (part.Operand x ∷ ps) h = got h.0 h.1
got_operand _ h = none_got

got_expression : (ps : List Part) → PartsFit ps → Got ExpressionTree ExpressionFits (an_expression ps)
got_expression (part.Expression x ∷ ps) h = got h.0 h.1
got_expression _ h = none_got

got_condition : (ps : List Part) → PartsFit ps → Got (Option ConditionTree) FilterFits (a_condition ps)
got_condition (part.Condition x ∷ ps) h = got h.0 h.1
got_condition _ h = none_got

got_column : (ps : List Part) → PartsFit ps → Got Column NewColumnFits (a_column ps)
got_column (part.Column x ∷ ps) h = got h.0 h.1
got_column _ h = none_got

got_create_table : (ps : List Part) → PartsFit ps → Got CreateTable CreateFits (a_create_table ps)
got_create_table (part.CreateTable x ∷ ps) h = got h.0 h.1
got_create_table _ h = none_got

got_row : (ps : List Part) → PartsFit ps → Got (List Value) RowFits (a_row ps)
got_row (part.Row x ∷ ps) h = got h.0 h.1
got_row _ h = none_got

got_insert : (ps : List Part) → PartsFit ps → Got Insert InsertFits (an_insert ps)
got_insert (part.Insert x ∷ ps) h = got h.0 h.1
got_insert _ h = none_got

got_assignment : (ps : List Part) → PartsFit ps → Got Assignment AssignmentFits (an_assignment ps)
got_assignment (part.Assignment x ∷ ps) h = got h.0 h.1
got_assignment _ h = none_got

got_update : (ps : List Part) → PartsFit ps → Got Update UpdateFits (an_update ps)
got_update (part.Update x ∷ ps) h = got h.0 h.1
got_update _ h = none_got

got_output_value : (ps : List Part) → PartsFit ps → Got OutputValue OutputValueFits (an_output_value ps)
got_output_value (part.OutputValue x ∷ ps) h = got h.0 h.1
got_output_value _ h = none_got

got_output : (ps : List Part) → PartsFit ps → Got Output OutputFits (an_output ps)
got_output (part.Output x ∷ ps) h = got h.0 h.1
got_output _ h = none_got

got_outputs : (ps : List Part) → PartsFit ps → Got (List Output) (AllByRecursion OutputFits) (outputs ps)
got_outputs (part.Outputs x ∷ ps) h = got h.0 h.1
got_outputs _ h = none_got

got_query : (ps : List Part) → PartsFit ps → Got Select SelectFits (a_query ps)
got_query (part.Query x ∷ ps) h = got h.0 h.1
got_query _ h = none_got

pub got_line : (ps : List Part) → PartsFit ps → Got Parsed LineFits (a_line ps)
got_line (part.Parsed x ∷ ps) h = got h.0 h.1
got_line _ h = none_got

takes_name : (ps : List Part) (f : List ℕ → List Part → Option (List Part)) → PartsFit ps → ((x : List ℕ) (qs : List Part) → NameFits x → PartsFit qs → Kept (f x qs)) → Kept (after (a_name ps) f)
takes_name ps f h g = goes_on_with Kept nothing NameFits (a_name ps) f (got_name ps h) g

takes_number : (ps : List Part) (f : ℤ → List Part → Option (List Part)) → PartsFit ps → ((x : ℤ) (qs : List Part) → DigitsFit x → PartsFit qs → Kept (f x qs)) → Kept (after (a_number ps) f)
takes_number ps f h g = goes_on_with Kept nothing DigitsFit (a_number ps) f (got_number ps h) g

takes_text : (ps : List Part) (f : List ℕ → List Part → Option (List Part)) → PartsFit ps → ((x : List ℕ) (qs : List Part) → IsText x → PartsFit qs → Kept (f x qs)) → Kept (after (a_text ps) f)
takes_text ps f h g = goes_on_with Kept nothing IsText (a_text ps) f (got_text ps h) g

takes_argument : (ps : List Part) (f : List ℕ → List Part → Option (List Part)) → PartsFit ps → ((x : List ℕ) (qs : List Part) → ArgumentFits x → PartsFit qs → Kept (f x qs)) → Kept (after (an_argument ps) f)
takes_argument ps f h g = goes_on_with Kept nothing ArgumentFits (an_argument ps) f (got_argument ps h) g

takes_literal : (ps : List Part) (f : Value → List Part → Option (List Part)) → PartsFit ps → ((x : Value) (qs : List Part) → ValueFits x → PartsFit qs → Kept (f x qs)) → Kept (after (a_literal ps) f)
takes_literal ps f h g = goes_on_with Kept nothing ValueFits (a_literal ps) f (got_literal ps h) g

takes_column_name : (ps : List Part) (f : ColumnName → List Part → Option (List Part)) → PartsFit ps → ((x : ColumnName) (qs : List Part) → ColumnFits x → PartsFit qs → Kept (f x qs)) → Kept (after (a_column_name ps) f)
takes_column_name ps f h g = goes_on_with Kept nothing ColumnFits (a_column_name ps) f (got_column_name ps h) g

takes_expression : (ps : List Part) (f : ExpressionTree → List Part → Option (List Part)) → PartsFit ps → ((x : ExpressionTree) (qs : List Part) → ExpressionFits x → PartsFit qs → Kept (f x qs)) → Kept (after (an_expression ps) f)
takes_expression ps f h g = goes_on_with Kept nothing ExpressionFits (an_expression ps) f (got_expression ps h) g

takes_condition : (ps : List Part) (f : Option ConditionTree → List Part → Option (List Part)) → PartsFit ps → ((x : Option ConditionTree) (qs : List Part) → FilterFits x → PartsFit qs → Kept (f x qs)) → Kept (after (a_condition ps) f)
takes_condition ps f h g = goes_on_with Kept nothing FilterFits (a_condition ps) f (got_condition ps h) g

takes_column : (ps : List Part) (f : Column → List Part → Option (List Part)) → PartsFit ps → ((x : Column) (qs : List Part) → NewColumnFits x → PartsFit qs → Kept (f x qs)) → Kept (after (a_column ps) f)
takes_column ps f h g = goes_on_with Kept nothing NewColumnFits (a_column ps) f (got_column ps h) g

takes_create_table : (ps : List Part) (f : CreateTable → List Part → Option (List Part)) → PartsFit ps → ((x : CreateTable) (qs : List Part) → CreateFits x → PartsFit qs → Kept (f x qs)) → Kept (after (a_create_table ps) f)
takes_create_table ps f h g = goes_on_with Kept nothing CreateFits (a_create_table ps) f (got_create_table ps h) g

takes_row : (ps : List Part) (f : List Value → List Part → Option (List Part)) → PartsFit ps → ((x : List Value) (qs : List Part) → RowFits x → PartsFit qs → Kept (f x qs)) → Kept (after (a_row ps) f)
takes_row ps f h g = goes_on_with Kept nothing RowFits (a_row ps) f (got_row ps h) g

takes_insert : (ps : List Part) (f : Insert → List Part → Option (List Part)) → PartsFit ps → ((x : Insert) (qs : List Part) → InsertFits x → PartsFit qs → Kept (f x qs)) → Kept (after (an_insert ps) f)
takes_insert ps f h g = goes_on_with Kept nothing InsertFits (an_insert ps) f (got_insert ps h) g

takes_assignment : (ps : List Part) (f : Assignment → List Part → Option (List Part)) → PartsFit ps → ((x : Assignment) (qs : List Part) → AssignmentFits x → PartsFit qs → Kept (f x qs)) → Kept (after (an_assignment ps) f)
takes_assignment ps f h g = goes_on_with Kept nothing AssignmentFits (an_assignment ps) f (got_assignment ps h) g

takes_update : (ps : List Part) (f : Update → List Part → Option (List Part)) → PartsFit ps → ((x : Update) (qs : List Part) → UpdateFits x → PartsFit qs → Kept (f x qs)) → Kept (after (an_update ps) f)
takes_update ps f h g = goes_on_with Kept nothing UpdateFits (an_update ps) f (got_update ps h) g

takes_output_value : (ps : List Part) (f : OutputValue → List Part → Option (List Part)) → PartsFit ps → ((x : OutputValue) (qs : List Part) → OutputValueFits x → PartsFit qs → Kept (f x qs)) → Kept (after (an_output_value ps) f)
takes_output_value ps f h g = goes_on_with Kept nothing OutputValueFits (an_output_value ps) f (got_output_value ps h) g

takes_output : (ps : List Part) (f : Output → List Part → Option (List Part)) → PartsFit ps → ((x : Output) (qs : List Part) → OutputFits x → PartsFit qs → Kept (f x qs)) → Kept (after (an_output ps) f)
takes_output ps f h g = goes_on_with Kept nothing OutputFits (an_output ps) f (got_output ps h) g

takes_outputs : (ps : List Part) (f : List Output → List Part → Option (List Part)) → PartsFit ps → ((x : List Output) (qs : List Part) → (AllByRecursion OutputFits) x → PartsFit qs → Kept (f x qs)) → Kept (after (outputs ps) f)
takes_outputs ps f h g = goes_on_with Kept nothing (AllByRecursion OutputFits) (outputs ps) f (got_outputs ps h) g

takes_query : (ps : List Part) (f : Select → List Part → Option (List Part)) → PartsFit ps → ((x : Select) (qs : List Part) → SelectFits x → PartsFit qs → Kept (f x qs)) → Kept (after (a_query ps) f)
takes_query ps f h g = goes_on_with Kept nothing SelectFits (a_query ps) f (got_query ps h) g

count_fits : (n : ℤ) → DigitsFit n → NumberFits (unsigned_abs n)
count_fits n h = let P : ℤ → Type 0 = λ i. NumberFits (unsigned_abs i) in subst P (sym h.1) h.2

abs_negative : (m : ℕ) → unsigned_abs (neg_ℤ (pos m)) ≡ m
abs_negative zero = refl
abs_negative (suc m) = refl

negative_fits : (n : ℤ) → DigitsFit n → NumberFits (unsigned_abs (negative n))
negative_fits n h =
    let P : ℤ → Type 0 = λ i. NumberFits (unsigned_abs (negative i)) in
    let Q : ℕ → Type 0 = λ m. m < 2 ^ 63 in
    subst P (sym h.1) (subst Q (sym (abs_negative h.0)) h.2)

pub term_kept : (a : TermAction) (ps : List Part) → PartsFit ps → Kept (term a ps)
term_kept term_action.Integer ps h = takes_number ps _ h (λ n qs a b. kept (count_fits n a, b))
term_kept term_action.Negative ps h = takes_number ps _ h (λ n qs a b. kept (negative_fits n a, b))
term_kept term_action.Text ps h = takes_text ps _ h (λ t qs a b. kept (a, b))
term_kept term_action.PlainColumn ps h = takes_name ps _ h (λ c qs a b. kept ((tt, a), b))
term_kept term_action.QualifiedColumn ps h = takes_name ps _ h (λ c qs a b. takes_name qs _ b (λ t rs x y. kept ((x, a), y)))
term_kept term_action.LiteralOperand ps h = takes_literal ps _ h (λ v qs a b. kept (a, b))
term_kept term_action.ColumnOperand ps h = takes_column_name ps _ h (λ c qs a b. kept (a, b))
term_kept term_action.CurrentSnapshot ps h = kept (tt, h)

pub table_kept : (a : TableAction) (ps : List Part) → PartsFit ps → Kept (table a ps)
table_kept (table_action.Column k) ps h = takes_name ps _ h (λ n qs a b. kept (a, b))
table_kept table_action.CreateTable ps h = takes_column ps _ h (λ c qs a b. takes_name qs _ b (λ t rs x y. kept ((x, (a, tt)), y)))
table_kept table_action.NextColumn ps h = takes_column ps _ h (λ c qs a b. takes_create_table qs _ b (λ t rs x y. kept ((x.0, all_on NewColumnFits t.columns c x.1 a), y)))
table_kept table_action.Finish ps h = takes_create_table ps _ h (λ t qs a b. kept (a, b))
table_kept table_action.CreateIndex ps h = takes_name ps _ h (λ c qs a b. takes_name qs _ b (λ t rs x y. takes_name rs _ y (λ i us z w. kept ((z, x, a), w))))

pub row_kept : (a : RowAction) (ps : List Part) → PartsFit ps → Kept (row a ps)
row_kept row_action.FirstValue ps h = takes_literal ps _ h (λ v qs a b. kept ((a, tt), b))
row_kept row_action.NextValue ps h = takes_literal ps _ h (λ v qs a b. takes_row qs _ b (λ vs rs x y. kept (all_on ValueFits vs v x a, y)))
row_kept row_action.Insert ps h = takes_row ps _ h (λ vs qs a b. takes_name qs _ b (λ t rs x y. kept ((x, (a, tt)), y)))
row_kept row_action.NextTuple ps h = takes_row ps _ h (λ vs qs a b. takes_insert qs _ b (λ i rs x y. kept ((x.0, all_on RowFits i.tuples vs x.1 a), y)))
row_kept row_action.Finish ps h = takes_insert ps _ h (λ i qs a b. kept (a, b))

pub update_kept : (a : UpdateAction) (ps : List Part) → PartsFit ps → Kept (update a ps)
update_kept update_action.Assign ps h = takes_expression ps _ h (λ e qs a b. takes_name qs _ b (λ c rs x y. kept ((x, a), y)))
update_kept update_action.Update ps h = takes_assignment ps _ h (λ s qs a b. takes_name qs _ b (λ t rs x y. kept ((x, (a, tt), tt), y)))
update_kept update_action.NextAssignment ps h = takes_assignment ps _ h (λ s qs a b. takes_update qs _ b (λ u rs x y. kept ((x.0, all_on AssignmentFits u.assignments s x.1 a, x.2), y)))
update_kept update_action.Finish ps h = takes_condition ps _ h (λ c qs a b. takes_update qs _ b (λ u rs x y. kept ((x.0, x.1, a), y)))
update_kept update_action.Delete ps h = takes_condition ps _ h (λ c qs a b. takes_name qs _ b (λ t rs x y. kept ((x, a), y)))

pub output_kept : (a : OutputAction) (ps : List Part) → PartsFit ps → Kept (output a ps)
output_kept output_action.Value ps h = takes_expression ps _ h (λ e qs a b. kept (a, b))
output_kept output_action.CountRows ps h = kept (tt, h)
output_kept output_action.Count ps h = takes_expression ps _ h (λ e qs a b. kept (a, b))
output_kept output_action.Sum ps h = takes_expression ps _ h (λ e qs a b. kept (a, b))
output_kept output_action.Min ps h = takes_expression ps _ h (λ e qs a b. kept (a, b))
output_kept output_action.Max ps h = takes_expression ps _ h (λ e qs a b. kept (a, b))
output_kept output_action.Named ps h = takes_name ps _ h (λ n qs a b. takes_output_value qs _ b (λ v rs x y. kept ((x, a), y)))
output_kept output_action.Unnamed ps h = takes_output_value ps _ h (λ v qs a b. kept ((a, tt), b))

pub list_kept : (a : ListAction) (ps : List Part) → PartsFit ps → Kept (select_list a ps)
list_kept list_action.All ps h = takes_name ps _ h (λ t qs a b. kept (record { list = tt; table = a; second = tt; condition = tt; group_by = tt; order_by = tt; limit = tt }, b))
list_kept list_action.First ps h = takes_output ps _ h (λ o qs a b. kept ((a, tt), b))
list_kept list_action.Next ps h = takes_output ps _ h (λ o qs a b. takes_outputs qs _ b (λ os rs x y. kept (all_on OutputFits os o x a, y)))
list_kept list_action.From ps h = takes_name ps _ h (λ t qs a b. takes_outputs qs _ b (λ os rs x y. kept (record { list = x; table = a; second = tt; condition = tt; group_by = tt; order_by = tt; limit = tt }, y)))

pub query_kept : (a : QueryAction) (ps : List Part) → PartsFit ps → Kept (query a ps)
query_kept query_action.Distinct ps h = takes_query ps _ h (λ q qs x b. kept (record { list = x.list; table = x.table; second = x.second; condition = x.condition; group_by = x.group_by; order_by = x.order_by; limit = x.limit }, b))
query_kept query_action.Second ps h = takes_name ps _ h (λ t qs a b. takes_query qs _ b (λ q rs x y. kept (record { list = x.list; table = x.table; second = a; condition = x.condition; group_by = x.group_by; order_by = x.order_by; limit = x.limit }, y)))
query_kept query_action.Filter ps h = takes_condition ps _ h (λ c qs a b. takes_query qs _ b (λ q rs x y. kept (record { list = x.list; table = x.table; second = x.second; condition = a; group_by = x.group_by; order_by = x.order_by; limit = x.limit }, y)))
query_kept query_action.GroupBy ps h = takes_column_name ps _ h (λ c qs a b. takes_query qs _ b (λ q rs x y. kept (record { list = x.list; table = x.table; second = x.second; condition = x.condition; group_by = all_on ColumnFits q.group_by c x.group_by a; order_by = x.order_by; limit = x.limit }, y)))
query_kept (query_action.OrderBy d) ps h = takes_column_name ps _ h (λ c qs a b. takes_query qs _ b (λ q rs x y. kept (record { list = x.list; table = x.table; second = x.second; condition = x.condition; group_by = x.group_by; order_by = all_on KeyFits q.order_by _ x.order_by a; limit = x.limit }, y)))
query_kept query_action.Limit ps h = takes_number ps _ h (λ n qs a b. takes_query qs _ b (λ q rs x y. kept (record { list = x.list; table = x.table; second = x.second; condition = x.condition; group_by = x.group_by; order_by = x.order_by; limit = count_fits n a }, y)))
query_kept query_action.Finish ps h = takes_query ps _ h (λ q qs a b. kept (a, b))
query_kept query_action.AsOf ps h = takes_query ps _ h (λ q qs a b. takes_number qs _ b (λ n rs x y. kept ((count_fits n x, a), y)))

call_kept : (m : Mechanism) (ps : List Part) → MechanismFits m → PartsFit ps → Kept (call m ps)
call_kept m ps f h = takes_argument ps _ h (λ t qs a b. takes_argument qs _ b (λ q rs x y. takes_argument rs _ y (λ s us c d. kept ((c, x, a, f), d))))

pub line_kept : (a : LineAction) (ps : List Part) → PartsFit ps → Kept (line a ps)
line_kept line_action.Commit ps h = kept (tt, h)
line_kept line_action.CommitUnlabelled ps h = kept ((omega arith, tt), h)
line_kept line_action.CommitLabelled ps h = takes_text ps _ h (λ t qs a b. kept (a, b))
line_kept line_action.Rollback ps h = kept (tt, h)
line_kept line_action.DropBelow ps h = takes_number ps _ h (λ n qs a b. kept (count_fits n a, b))
line_kept line_action.Argument ps h = takes_text ps _ h (λ t qs a b. kept (a.1, b))
line_kept line_action.CollateData ps h = call_kept mechanism.CollateData ps tt h
line_kept line_action.AggregateDataInVariable ps h = takes_argument ps _ h (λ f qs a b. call_kept (mechanism.AggregateDataInVariable f) qs a b)
line_kept line_action.AggregateDataInTable ps h = takes_argument ps _ h (λ f qs a b. call_kept (mechanism.AggregateDataInTable f) qs a b)
line_kept line_action.CollateDataIntoIntervals ps h = call_kept mechanism.CollateDataIntoIntervals ps tt h
