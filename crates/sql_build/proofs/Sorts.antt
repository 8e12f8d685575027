-- The sorts of the parts that each action takes and leaves.
use Rattle.std.proofs.Common.{◌≡◌, ◌∙◌, ◌==◌, ◌&&◌, ℕ, zero, suc, Bool, true, false, Option, Some, None, List, [], ◌∷◌, ◌++◌, nat_le, if◌then◌else◌, refl, sym, ap}
use Rattle.std.proofs.lemmas.Bool.{eqb-true}
use Rattle.sql_parts.specs.declared.action.LineAction.{LineAction}
use Rattle.sql_parts.specs.declared.action.LineAction.TheVariants as line_action
use Rattle.sql_parts.specs.declared.action.ListAction.{ListAction}
use Rattle.sql_parts.specs.declared.action.ListAction.TheVariants as list_action
use Rattle.sql_parts.specs.declared.action.OutputAction.{OutputAction}
use Rattle.sql_parts.specs.declared.action.OutputAction.TheVariants as output_action
use Rattle.sql_parts.specs.declared.action.QueryAction.{QueryAction}
use Rattle.sql_parts.specs.declared.action.QueryAction.TheVariants as query_action
use Rattle.sql_parts.specs.declared.action.RowAction.{RowAction}
use Rattle.sql_parts.specs.declared.action.RowAction.TheVariants as row_action
use Rattle.sql_parts.specs.declared.action.StepAction.{StepAction}
use Rattle.sql_parts.specs.declared.action.StepAction.TheVariants as step_action
use Rattle.sql_parts.specs.declared.action.TableAction.{TableAction}
use Rattle.sql_parts.specs.declared.action.TableAction.TheVariants as table_action
use Rattle.sql_parts.specs.declared.action.TermAction.{TermAction}
use Rattle.sql_parts.specs.declared.action.TermAction.TheVariants as term_action
use Rattle.sql_parts.specs.declared.action.UpdateAction.{UpdateAction}
use Rattle.sql_parts.specs.declared.action.UpdateAction.TheVariants as update_action
use Rattle.sql_parts.specs.declared.action.Action.{Action}
use Rattle.sql_parts.specs.declared.action.Action.TheVariants as action
use Rattle.sql_parts.proofs.Common.{both_left, both_right, nth, some_injective}

-- what a part is
pub data Sort : Type 0 where
  Name : Sort
  Number : Sort
  Text : Sort
  Literal : Sort
  ColumnName : Sort
  Operand : Sort
  Expression : Sort
  Condition : Sort
  Column : Sort
  Table : Sort
  Row : Sort
  Insert : Sort
  Assignment : Sort
  Update : Sort
  Value : Sort
  Output : Sort
  Outputs : Sort
  Query : Sort
  Plain : Sort
  AsOf : Sort
  Line : Sort
  Argument : Sort
  Call : Sort

-- a sort, and for a table its number of columns
abbrev pub Cell : Type 0
Cell = Sort × ℕ

abbrev number : Sort → ℕ
number Name = 0
number Number = 1
number Text = 2
number Literal = 3
number ColumnName = 4
number Operand = 5
number Expression = 6
number Condition = 7
number Column = 8
number Table = 9
number Row = 10
number Insert = 11
number Assignment = 12
number Update = 13
number Value = 14
number Output = 15
number Outputs = 16
number Query = 17
number Plain = 18
number AsOf = 19
number Line = 20
number Argument = 21
number Call = 22

abbrev sorts : List Sort
sorts = Name ∷ Number ∷ Text ∷ Literal ∷ ColumnName ∷ Operand ∷ Expression ∷ Condition ∷ Column ∷ Table ∷ Row ∷ Insert ∷ Assignment ∷ Update ∷ Value ∷ Output ∷ Outputs ∷ Query ∷ Plain ∷ AsOf ∷ Line ∷ Argument ∷ Call ∷ []

sort_back : (s : Sort) → nth (number s) sorts ≡ Some s
sort_back Name = refl
sort_back _ = refl

same_sort : (a b : Sort) → (number a == number b) ≡ true → a ≡ b
same_sort a b e = some_injective (sym (sort_back a) ∙ (ap (λ n. nth n sorts) (eqb-true (number a) (number b) e) ∙ sort_back b))

-- how a number of trees changes
pub data Change : Type 0 where
  Same : Change
  Adds : Change
  Needs : Change
  Joins : Change
  Exactly : ℕ → ℕ → Change

abbrev pub changed : Change → ℕ → Option ℕ
changed Same n = Some n
changed Adds n = Some (suc n)
changed Needs (suc n) = Some (suc n)
changed Needs zero = None
changed Joins (suc (suc n)) = Some (suc n)
changed Joins _ = None
changed (Exactly a b) n = if n == a then Some b else None

abbrev pub before : Change → ℕ → ℕ
before Same m = m
before Adds m = m
before Needs m = suc m
before Joins m = suc (suc m)
before (Exactly a b) m = a

abbrev pub after : Change → ℕ → ℕ
after Same m = m
after Adds m = suc m
after Needs m = suc m
after Joins m = suc m
after (Exactly a b) m = b

exactly_by : (a b n k : ℕ) (t : Bool) → (n == a) ≡ t → (if t then Some b else None) ≡ Some k → (n ≡ a) × (k ≡ b)
exactly_by a b n k true e h = (eqb-true n a e, sym (some_injective h))
exactly_by a b n k false e h = cc

change_is : (c : Change) (n k : ℕ) → changed c n ≡ Some k → (m : ℕ) × (n ≡ before c m) × (k ≡ after c m)
change_is Same n k e = (n, refl, sym (some_injective e))
change_is Adds n k e = (n, refl, sym (some_injective e))
change_is Needs zero k e = cc
change_is Needs (suc n) k e = (n, refl, sym (some_injective e))
change_is Joins zero k e = cc
change_is Joins (suc zero) k e = cc
change_is Joins (suc (suc n)) k e = (n, refl, sym (some_injective e))
change_is (Exactly a b) n k e = let h = exactly_by a b n k (n == a) refl e in (zero, h.0, h.1)

-- what a symbol takes off the parts and leaves, and what it does to the trees of an expression and of a condition
pub record Effect : Type 0 where
  pub pops : List Cell
  pub pushes : List Cell
  pub trees : Change
  pub conditions : Change

abbrev pub alike : List Cell → List Cell → Effect
alike pops pushes = record { pops = pops; pushes = pushes; trees = Same; conditions = Same }

-- the sorts of a draft
pub record Shape : Type 0 where
  pub cells : List Cell
  pub trees : ℕ
  pub conditions : ℕ

abbrev pub from : Effect → Shape → Shape
from e m = record { cells = e.pops ++ m.cells; trees = before e.trees m.trees; conditions = before e.conditions m.conditions }

abbrev pub to : Effect → Shape → Shape
to e m = record { cells = e.pushes ++ m.cells; trees = after e.trees m.trees; conditions = after e.conditions m.conditions }

abbrev same_cell : Cell → Cell → Bool
same_cell a b = (number a.0 == number b.0) && (a.1 == b.1)

same_cells : (a b : Cell) → same_cell a b ≡ true → a ≡ b
same_cells a b e =
    let s = same_sort a.0 b.0 (both_left (number a.0 == number b.0) (a.1 == b.1) e) in
    let n = eqb-true a.1 b.1 (both_right (number a.0 == number b.0) (a.1 == b.1) e) in
    ap (λ x. (x, a.1)) s ∙ ap (λ y. (b.0, y)) n

-- what is left behind the first cells
abbrev pub strip : List Cell → List Cell → Option (List Cell)
strip [] cs = Some cs
strip (p ∷ ps) [] = None
strip (p ∷ ps) (c ∷ cs) = if same_cell p c then strip ps cs else None

strip_if : (b : Bool) (x : Option (List Cell)) (rest : List Cell) → (if b then x else None) ≡ Some rest → (b ≡ true) × (x ≡ Some rest)
strip_if true x rest e = (refl, e)
strip_if false x rest e = cc

strip_is : (ps cs rest : List Cell) → strip ps cs ≡ Some rest → cs ≡ ps ++ rest
strip_is [] cs rest e = some_injective e
strip_is (p ∷ ps) [] rest e = cc
strip_is (p ∷ ps) (c ∷ cs) rest e =
    let h = strip_if (same_cell p c) (strip ps cs) rest e in
    ap (λ x. x ∷ cs) (sym (same_cells p c h.0)) ∙ ap (λ x. p ∷ x) (strip_is ps cs rest h.1)

abbrev pub joined : List Cell → Option (List Cell) → Option ℕ → Option ℕ → Option Shape
joined pushes (Some cs) (Some n) (Some c) = Some (record { cells = pushes ++ cs; trees = n; conditions = c })
joined _ _ _ _ = None

-- the shape after an effect
abbrev pub worked : Effect → Shape → Option Shape
worked e k = joined e.pushes (strip e.pops k.cells) (changed e.trees k.trees) (changed e.conditions k.conditions)

abbrev pub shape : List Cell → ℕ → ℕ → Shape
shape cs n c = record { cells = cs; trees = n; conditions = c }

joined_is : (pushes : List Cell) (a : Option (List Cell)) (b c : Option ℕ) (k : Shape) → joined pushes a b c ≡ Some k → (x : List Cell) × (y : ℕ) × (z : ℕ) × (a ≡ Some x) × (b ≡ Some y) × (c ≡ Some z) × (k ≡ shape (pushes ++ x) y z)
joined_is pushes None b c k e = cc
joined_is pushes (Some x) None c k e = cc
joined_is pushes (Some x) (Some y) None k e = cc
joined_is pushes (Some x) (Some y) (Some z) k e = (x, y, z, refl, refl, refl, sym (some_injective e))

shapes : (a b : List Cell) (m n c d : ℕ) → a ≡ b → m ≡ n → c ≡ d → shape a m c ≡ shape b n d
shapes a b m n c d e f g = ap (λ x. shape x m c) e ∙ ap (λ x. shape b x c) f ∙ ap (λ x. shape b n x) g

pub worked_is : (e : Effect) (k l : Shape) → worked e k ≡ Some l → (m : Shape) × (k ≡ from e m) × (l ≡ to e m)
worked_is e k l h =
    let j = joined_is e.pushes (strip e.pops k.cells) (changed e.trees k.trees) (changed e.conditions k.conditions) l h in
    let t = change_is e.trees k.trees j.1 j.4 in
    let c = change_is e.conditions k.conditions j.2 j.5 in
    let m = shape j.0 t.0 c.0 in
    (m, shapes k.cells (e.pops ++ j.0) k.trees (before e.trees t.0) k.conditions (before e.conditions c.0) (strip_is e.pops k.cells j.0 j.3) t.1 c.1, j.6 ∙ shapes (e.pushes ++ j.0) (e.pushes ++ j.0) j.1 (after e.trees t.0) j.2 (after e.conditions c.0) refl t.2 c.2)

-- the columns of the last table
abbrev pub columns : List Cell → ℕ
columns [] = 0
columns ((Table, n) ∷ cs) = n
columns (c ∷ cs) = columns cs

abbrev pub finish_cells : ℕ → Option (List Cell × List Cell)
finish_cells n = if nat_le n 16 then Some ((Table, n) ∷ [], (Plain, 0) ∷ []) else None

abbrev pub table_cells : ℕ → TableAction → Option (List Cell × List Cell)
table_cells n (table_action.Column k) = Some ((Name, 0) ∷ [], (Column, 0) ∷ [])
table_cells n table_action.CreateTable = Some ((Column, 0) ∷ (Name, 0) ∷ [], (Table, 1) ∷ [])
table_cells n table_action.NextColumn = Some ((Column, 0) ∷ (Table, n) ∷ [], (Table, suc n) ∷ [])
table_cells n table_action.Finish = finish_cells n
table_cells n table_action.CreateIndex = Some ((Name, 0) ∷ (Name, 0) ∷ (Name, 0) ∷ [], (Plain, 0) ∷ [])

abbrev pub alike_of : Option (List Cell × List Cell) → Option Effect
alike_of None = None
alike_of (Some p) = Some (alike p.0 p.1)

abbrev pub step_effect : StepAction → Effect
step_effect step_action.Leaf = record { pops = (Operand, 0) ∷ []; pushes = []; trees = Adds; conditions = Same }
step_effect (step_action.Apply o) = record { pops = []; pushes = []; trees = Joins; conditions = Same }
step_effect (step_action.Compare c) = record { pops = (Operand, 0) ∷ (Operand, 0) ∷ []; pushes = []; trees = Same; conditions = Adds }
step_effect step_action.Not = record { pops = []; pushes = []; trees = Same; conditions = Needs }
step_effect step_action.And = record { pops = []; pushes = []; trees = Same; conditions = Joins }
step_effect step_action.Or = record { pops = []; pushes = []; trees = Same; conditions = Joins }
step_effect step_action.Expression = record { pops = []; pushes = (Expression, 0) ∷ []; trees = Exactly 1 0; conditions = Same }
step_effect step_action.Condition = record { pops = []; pushes = (Condition, 0) ∷ []; trees = Same; conditions = Exactly 1 0 }
step_effect step_action.NoCondition = alike ([]) ((Condition, 0) ∷ [])

abbrev pub term_pops : TermAction → List Cell
term_pops term_action.Integer = (Number, 0) ∷ []
term_pops term_action.Negative = (Number, 0) ∷ []
term_pops term_action.Text = (Text, 0) ∷ []
term_pops term_action.PlainColumn = (Name, 0) ∷ []
term_pops term_action.QualifiedColumn = (Name, 0) ∷ (Name, 0) ∷ []
term_pops term_action.LiteralOperand = (Literal, 0) ∷ []
term_pops term_action.ColumnOperand = (ColumnName, 0) ∷ []
term_pops term_action.CurrentSnapshot = []

abbrev pub term_pushes : TermAction → List Cell
term_pushes term_action.Integer = (Literal, 0) ∷ []
term_pushes term_action.Negative = (Literal, 0) ∷ []
term_pushes term_action.Text = (Literal, 0) ∷ []
term_pushes term_action.PlainColumn = (ColumnName, 0) ∷ []
term_pushes term_action.QualifiedColumn = (ColumnName, 0) ∷ []
term_pushes term_action.LiteralOperand = (Operand, 0) ∷ []
term_pushes term_action.ColumnOperand = (Operand, 0) ∷ []
term_pushes term_action.CurrentSnapshot = (Operand, 0) ∷ []

abbrev pub row_pops : RowAction → List Cell
row_pops row_action.FirstValue = (Literal, 0) ∷ []
row_pops row_action.NextValue = (Literal, 0) ∷ (Row, 0) ∷ []
row_pops row_action.Insert = (Row, 0) ∷ (Name, 0) ∷ []
row_pops row_action.NextTuple = (Row, 0) ∷ (Insert, 0) ∷ []
row_pops row_action.Finish = (Insert, 0) ∷ []

abbrev pub row_pushes : RowAction → List Cell
row_pushes row_action.FirstValue = (Row, 0) ∷ []
row_pushes row_action.NextValue = (Row, 0) ∷ []
row_pushes row_action.Insert = (Insert, 0) ∷ []
row_pushes row_action.NextTuple = (Insert, 0) ∷ []
row_pushes row_action.Finish = (Plain, 0) ∷ []

abbrev pub update_pops : UpdateAction → List Cell
update_pops update_action.Assign = (Expression, 0) ∷ (Name, 0) ∷ []
update_pops update_action.Update = (Assignment, 0) ∷ (Name, 0) ∷ []
update_pops update_action.NextAssignment = (Assignment, 0) ∷ (Update, 0) ∷ []
update_pops update_action.Finish = (Condition, 0) ∷ (Update, 0) ∷ []
update_pops update_action.Delete = (Condition, 0) ∷ (Name, 0) ∷ []

abbrev pub update_pushes : UpdateAction → List Cell
update_pushes update_action.Assign = (Assignment, 0) ∷ []
update_pushes update_action.Update = (Update, 0) ∷ []
update_pushes update_action.NextAssignment = (Update, 0) ∷ []
update_pushes update_action.Finish = (Plain, 0) ∷ []
update_pushes update_action.Delete = (Plain, 0) ∷ []

abbrev pub output_pops : OutputAction → List Cell
output_pops output_action.Value = (Expression, 0) ∷ []
output_pops output_action.CountRows = []
output_pops output_action.Count = (Expression, 0) ∷ []
output_pops output_action.Sum = (Expression, 0) ∷ []
output_pops output_action.Min = (Expression, 0) ∷ []
output_pops output_action.Max = (Expression, 0) ∷ []
output_pops output_action.Named = (Name, 0) ∷ (Value, 0) ∷ []
output_pops output_action.Unnamed = (Value, 0) ∷ []

abbrev pub output_pushes : OutputAction → List Cell
output_pushes output_action.Value = (Value, 0) ∷ []
output_pushes output_action.CountRows = (Value, 0) ∷ []
output_pushes output_action.Count = (Value, 0) ∷ []
output_pushes output_action.Sum = (Value, 0) ∷ []
output_pushes output_action.Min = (Value, 0) ∷ []
output_pushes output_action.Max = (Value, 0) ∷ []
output_pushes output_action.Named = (Output, 0) ∷ []
output_pushes output_action.Unnamed = (Output, 0) ∷ []

abbrev pub list_pops : ListAction → List Cell
list_pops list_action.All = (Name, 0) ∷ []
list_pops list_action.First = (Output, 0) ∷ []
list_pops list_action.Next = (Output, 0) ∷ (Outputs, 0) ∷ []
list_pops list_action.From = (Name, 0) ∷ (Outputs, 0) ∷ []

abbrev pub list_pushes : ListAction → List Cell
list_pushes list_action.All = (Query, 0) ∷ []
list_pushes list_action.First = (Outputs, 0) ∷ []
list_pushes list_action.Next = (Outputs, 0) ∷ []
list_pushes list_action.From = (Query, 0) ∷ []

abbrev pub query_pops : QueryAction → List Cell
query_pops query_action.Distinct = (Query, 0) ∷ []
query_pops query_action.Second = (Name, 0) ∷ (Query, 0) ∷ []
query_pops query_action.Filter = (Condition, 0) ∷ (Query, 0) ∷ []
query_pops query_action.GroupBy = (ColumnName, 0) ∷ (Query, 0) ∷ []
query_pops (query_action.OrderBy d) = (ColumnName, 0) ∷ (Query, 0) ∷ []
query_pops query_action.Limit = (Number, 0) ∷ (Query, 0) ∷ []
query_pops query_action.Finish = (Query, 0) ∷ []
query_pops query_action.AsOf = (Query, 0) ∷ (Number, 0) ∷ []

abbrev pub query_pushes : QueryAction → List Cell
query_pushes query_action.Distinct = (Query, 0) ∷ []
query_pushes query_action.Second = (Query, 0) ∷ []
query_pushes query_action.Filter = (Query, 0) ∷ []
query_pushes query_action.GroupBy = (Query, 0) ∷ []
query_pushes (query_action.OrderBy d) = (Query, 0) ∷ []
query_pushes query_action.Limit = (Query, 0) ∷ []
query_pushes query_action.Finish = (Plain, 0) ∷ []
query_pushes query_action.AsOf = (AsOf, 0) ∷ []

abbrev pub line_pops : LineAction → List Cell
line_pops line_action.Commit = []
line_pops line_action.CommitUnlabelled = []
line_pops line_action.CommitLabelled = (Text, 0) ∷ []
line_pops line_action.Rollback = []
line_pops line_action.DropBelow = (Number, 0) ∷ []
line_pops line_action.Argument = (Text, 0) ∷ []
line_pops line_action.CollateData = (Argument, 0) ∷ (Argument, 0) ∷ (Argument, 0) ∷ []
line_pops line_action.AggregateDataInVariable = (Argument, 0) ∷ (Argument, 0) ∷ (Argument, 0) ∷ (Argument, 0) ∷ []
line_pops line_action.AggregateDataInTable = (Argument, 0) ∷ (Argument, 0) ∷ (Argument, 0) ∷ (Argument, 0) ∷ []
line_pops line_action.CollateDataIntoIntervals = (Argument, 0) ∷ (Argument, 0) ∷ (Argument, 0) ∷ []

abbrev pub line_pushes : LineAction → List Cell
line_pushes line_action.Commit = (Line, 0) ∷ []
line_pushes line_action.CommitUnlabelled = (Line, 0) ∷ []
line_pushes line_action.CommitLabelled = (Line, 0) ∷ []
line_pushes line_action.Rollback = (Line, 0) ∷ []
line_pushes line_action.DropBelow = (Line, 0) ∷ []
line_pushes line_action.Argument = (Argument, 0) ∷ []
line_pushes line_action.CollateData = (Call, 0) ∷ []
line_pushes line_action.AggregateDataInVariable = (Call, 0) ∷ []
line_pushes line_action.AggregateDataInTable = (Call, 0) ∷ []
line_pushes line_action.CollateDataIntoIntervals = (Call, 0) ∷ []

-- the effect of an action, where the last table has so many columns
abbrev pub put_effect : ℕ → Action → Option Effect
put_effect n (action.Term a) = Some (alike (term_pops a) (term_pushes a))
put_effect n (action.Row a) = Some (alike (row_pops a) (row_pushes a))
put_effect n (action.Update a) = Some (alike (update_pops a) (update_pushes a))
put_effect n (action.Output a) = Some (alike (output_pops a) (output_pushes a))
put_effect n (action.List a) = Some (alike (list_pops a) (list_pushes a))
put_effect n (action.Query a) = Some (alike (query_pops a) (query_pushes a))
put_effect n (action.Line a) = Some (alike (line_pops a) (line_pushes a))
put_effect n (action.Step a) = Some (step_effect a)
put_effect n (action.Table a) = alike_of (table_cells n a)
