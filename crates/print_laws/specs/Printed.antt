-- The tokens that say a line. Each writer puts the tokens of a tree before those that follow.
use Rattle.std.specs.Prelude.{ℕ, pos, negsuc, suc, Bool, true, false, Option, Some, None}
use Rattle.std.specs.Prelude.{List, [], ◌∷◌, length, nat_le, nat_lt, if◌then◌else◌}
use Rattle.values.specs.declared.value.Kind.{Kind}
use Rattle.values.specs.declared.value.Kind.TheVariants as kind
use Rattle.values.specs.declared.value.Value.{Value}
use Rattle.values.specs.declared.value.Value.TheVariants as value
use Rattle.sql_lexer.specs.declared.token.Keyword.{Keyword}
use Rattle.sql_lexer.specs.declared.token.Keyword.TheVariants as keyword
use Rattle.sql_lexer.specs.declared.token.Sign.{Sign}
use Rattle.sql_lexer.specs.declared.token.Sign.TheVariants as sign
use Rattle.sql_lexer.specs.declared.token.Token.{Token}
use Rattle.sql_lexer.specs.declared.token.Token.TheVariants as token
use Rattle.sql_tree.specs.Condition.{ConditionTree}
use Rattle.sql_tree.specs.Condition as condition_tree
use Rattle.sql_tree.specs.Expression.{ExpressionTree}
use Rattle.sql_tree.specs.Expression as expression_tree
use Rattle.sql_tree.specs.declared.condition.Comparison.{Comparison}
use Rattle.sql_tree.specs.declared.condition.Comparison.TheVariants as comparison
use Rattle.sql_tree.specs.declared.condition.Operand.{Operand}
use Rattle.sql_tree.specs.declared.condition.Operand.TheVariants as operand'
use Rattle.sql_tree.specs.declared.expression.Operator.{Operator}
use Rattle.sql_tree.specs.declared.expression.Operator.TheVariants as operator
use Rattle.sql_tree.specs.declared.name.ColumnName.{ColumnName}
use Rattle.sql_tree.specs.declared.select.Aggregate.{Aggregate}
use Rattle.sql_tree.specs.declared.select.Aggregate.TheVariants as aggregate'
use Rattle.sql_tree.specs.declared.select.Direction.{Direction}
use Rattle.sql_tree.specs.declared.select.Direction.TheVariants as direction'
use Rattle.sql_tree.specs.declared.select.OrderKey.{OrderKey}
use Rattle.sql_tree.specs.declared.select.Output.{Output}
use Rattle.sql_tree.specs.declared.select.OutputValue.{OutputValue}
use Rattle.sql_tree.specs.declared.select.OutputValue.TheVariants as output_value'
use Rattle.sql_tree.specs.declared.select.Select.{Select}
use Rattle.sql_tree.specs.declared.select.SelectList.{SelectList}
use Rattle.sql_tree.specs.declared.select.SelectList.TheVariants as select_list'
use Rattle.sql_tree.specs.declared.statement.Assignment.{Assignment}
use Rattle.sql_tree.specs.declared.statement.Column.{Column}
use Rattle.sql_tree.specs.declared.statement.Statement.{Statement}
use Rattle.sql_tree.specs.declared.statement.Statement.TheVariants as statement'
use Rattle.sql_parts.specs.declared.parsed.Mechanism.{Mechanism}
use Rattle.sql_parts.specs.declared.parsed.Mechanism.TheVariants as mechanism
use Rattle.sql_parts.specs.declared.parsed.Parsed.{Parsed}
use Rattle.sql_parts.specs.declared.parsed.Parsed.TheVariants as parsed
use Rattle.sql_parts.specs.declared.parsed.RqlCall.{RqlCall}

-- the tokens of a thing, and then those that follow
abbrev pub Writer : Type 0 → Type 0
Writer X = X → List Token → List Token

abbrev pub word : Writer Keyword
word k ts = token.Keyword k ∷ ts

abbrev pub mark : Writer Sign
mark s ts = token.Sign s ∷ ts

abbrev pub name : Writer (List ℕ)
name n ts = token.Name n ∷ ts

abbrev pub number : Writer ℕ
number n ts = token.Integer (pos n) ∷ ts

-- a number below zero stands behind a minus
abbrev pub literal : Writer Value
literal (value.Int (pos n)) ts = number n ts
literal (value.Int (negsuc n)) ts = mark sign.Minus (number (suc n) ts)
literal (value.Text t) ts = token.Text t ∷ ts

abbrev pub column_of : Option (List ℕ) → Writer (List ℕ)
column_of None c ts = name c ts
column_of (Some t) c ts = name t (mark sign.Dot (name c ts))

abbrev pub column : Writer ColumnName
column c ts = column_of c.table c.column ts

abbrev pub operand : Writer Operand
operand (operand'.Literal v) ts = literal v ts
operand (operand'.Column c) ts = column c ts
operand operand'.CurrentSnapshot ts = word keyword.CurrentSnapshot (mark sign.Open (mark sign.Close ts))

-- in parentheses, or without
abbrev pub grouped : Bool → (List Token → List Token) → List Token → List Token
grouped false write ts = write ts
grouped true write ts = mark sign.Open (write (mark sign.Close ts))

-- how tightly an operator binds
abbrev pub strength : Operator → ℕ
strength operator.Multiply = 1
strength _ = 0

abbrev pub operator_sign : Operator → Sign
operator_sign operator.Add = sign.Plus
operator_sign operator.Subtract = sign.Minus
operator_sign operator.Multiply = sign.Star

-- An expression where operators may stand that bind at least so tightly; others stand in parentheses. Those that bind
-- alike go from the left.
abbrev pub expression : ℕ → Writer ExpressionTree
expression least (expression_tree.Literal v) ts = operand (operand'.Literal v) ts
expression least (expression_tree.Column c) ts = operand (operand'.Column c) ts
expression least expression_tree.CurrentSnapshot ts = operand operand'.CurrentSnapshot ts
expression least (expression_tree.Apply o a b) ts =
    grouped (nat_lt (strength o) least)
    (λ more. expression (strength o) a (mark (operator_sign o) (expression (suc (strength o)) b more))) ts

abbrev pub comparison_sign : Comparison → Sign
comparison_sign comparison.Equal = sign.Equal
comparison_sign comparison.NotEqual = sign.NotEqual
comparison_sign comparison.Less = sign.Less
comparison_sign comparison.AtMost = sign.AtMost
comparison_sign comparison.Greater = sign.Greater
comparison_sign comparison.AtLeast = sign.AtLeast

-- the same of a condition: OR binds least, then AND, then NOT
abbrev pub condition : ℕ → Writer ConditionTree
condition least (condition_tree.Compare a c b) ts = operand a (mark (comparison_sign c) (operand b ts))
condition least (condition_tree.Not a) ts = word keyword.Not (condition 2 a ts)
condition least (condition_tree.And a b) ts =
    grouped (nat_lt 1 least) (λ more. condition 1 a (word keyword.And (condition 2 b more))) ts
condition least (condition_tree.Or a b) ts =
    grouped (nat_lt 0 least) (λ more. condition 0 a (word keyword.Or (condition 1 b more))) ts

abbrev pub filter : Writer (Option ConditionTree)
filter None ts = ts
filter (Some c) ts = word keyword.Where (condition 0 c ts)

-- each behind a comma
abbrev pub further : {X : Type 0} → Writer X → Writer (List X)
further write [] ts = ts
further write (x ∷ xs) ts = mark sign.Comma (write x (further write xs ts))

-- with commas between
abbrev pub several : {X : Type 0} → Writer X → Writer (List X)
several write [] ts = ts
several write (x ∷ xs) ts = write x (further write xs ts)

abbrev pub kind_word : Kind → Keyword
kind_word kind.Int = keyword.Int
kind_word kind.Text = keyword.Text

abbrev pub new_column : Writer Column
new_column c ts = name c.name (word (kind_word c.kind) ts)

abbrev pub tuple : Writer (List Value)
tuple vs ts = mark sign.Open (several literal vs (mark sign.Close ts))

abbrev pub assignment : Writer Assignment
assignment a ts = name a.column (mark sign.Equal (expression 0 a.value ts))

abbrev pub call : Keyword → (List Token → List Token) → List Token → List Token
call k write ts = word k (mark sign.Open (write (mark sign.Close ts)))

abbrev pub aggregate : Writer Aggregate
aggregate aggregate'.CountRows ts = call keyword.Count (mark sign.Star) ts
aggregate (aggregate'.Count e) ts = call keyword.Count (expression 0 e) ts
aggregate (aggregate'.Sum e) ts = call keyword.Sum (expression 0 e) ts
aggregate (aggregate'.Min e) ts = call keyword.Min (expression 0 e) ts
aggregate (aggregate'.Max e) ts = call keyword.Max (expression 0 e) ts

abbrev pub output_value : Writer OutputValue
output_value (output_value'.Expression e) ts = expression 0 e ts
output_value (output_value'.Aggregate a) ts = aggregate a ts

abbrev pub output_name : Writer (Option (List ℕ))
output_name None ts = ts
output_name (Some n) ts = word keyword.As (name n ts)

abbrev pub output : Writer Output
output o ts = output_value o.value (output_name o.name ts)

abbrev pub select_list : Writer SelectList
select_list select_list'.All ts = mark sign.Star ts
select_list (select_list'.Outputs os) ts = several output os ts

abbrev pub second : Writer (Option (List ℕ))
second None ts = ts
second (Some t) ts = mark sign.Comma (name t ts)

abbrev pub grouping : Writer (List ColumnName)
grouping [] ts = ts
grouping (c ∷ cs) ts = word keyword.Group (word keyword.By (several column (c ∷ cs) ts))

abbrev pub direction_word : Direction → Keyword
direction_word direction'.Ascending = keyword.Asc
direction_word direction'.Descending = keyword.Desc

abbrev pub key : Writer OrderKey
key k ts = column k.column (word (direction_word k.direction) ts)

abbrev pub ordering : Writer (List OrderKey)
ordering [] ts = ts
ordering (k ∷ ks) ts = word keyword.Order (word keyword.By (several key (k ∷ ks) ts))

abbrev pub limit : Writer (Option ℕ)
limit None ts = ts
limit (Some n) ts = word keyword.Limit (number n ts)

abbrev pub distinct : Writer Bool
distinct true ts = word keyword.Distinct ts
distinct false ts = ts

abbrev pub query : Writer Select
query q ts =
    distinct q.distinct
    (select_list q.list
    (word keyword.From
    (name q.table
    (second q.second (filter q.condition (grouping q.group_by (ordering q.order_by (limit q.limit ts))))))))

abbrev pub statement : Statement → List Token
statement (statement'.CreateTable t) =
    word keyword.Create
    (word keyword.Table (name t.table (mark sign.Open (several new_column t.columns (mark sign.Close [])))))
statement (statement'.CreateIndex i) =
    word keyword.Create
    (word keyword.Index
    (name i.index (word keyword.On (name i.table (mark sign.Open (name i.column (mark sign.Close [])))))))
statement (statement'.Insert i) =
    word keyword.Insert (word keyword.Into (name i.table (word keyword.Values (several tuple i.tuples []))))
statement (statement'.Update u) =
    word keyword.Update (name u.table (word keyword.Set (several assignment u.assignments (filter u.condition []))))
statement (statement'.Delete d) = word keyword.Delete (word keyword.From (name d.table (filter d.condition [])))
statement (statement'.Select q) = word keyword.Select (query q [])

-- an argument of a call, however long
abbrev pub argument : Writer (List ℕ)
argument t ts = (if nat_le (length t) 200 then token.Text t else token.LongText t) ∷ ts

abbrev pub call_word : Mechanism → Keyword
call_word mechanism.CollateData = keyword.CollateData
call_word (mechanism.AggregateDataInVariable function) = keyword.AggregateDataInVariable
call_word (mechanism.AggregateDataInTable pairs) = keyword.AggregateDataInTable
call_word mechanism.CollateDataIntoIntervals = keyword.CollateDataIntoIntervals

abbrev pub fourth : Writer Mechanism
fourth (mechanism.AggregateDataInVariable function) ts = mark sign.Comma (argument function ts)
fourth (mechanism.AggregateDataInTable pairs) ts = mark sign.Comma (argument pairs ts)
fourth m ts = ts

abbrev pub rql_call : RqlCall → List Token
rql_call c =
    call (call_word c.mechanism)
    (λ ts. argument c.snapshots
    (mark sign.Comma (argument c.query (mark sign.Comma (argument c.table (fourth c.mechanism ts)))))) []

-- the tokens of a line
abbrev pub printed : Parsed → List Token
printed (parsed.Plain s) = statement s
printed (parsed.AsOf q) = word keyword.Select (word keyword.As (word keyword.Of (number q.snapshot (query q.query []))))
printed (parsed.Commit None) = word keyword.Commit []
printed (parsed.Commit (Some label)) =
    word keyword.Commit (word keyword.With (word keyword.Snapshot (token.Text label ∷ [])))
printed parsed.Rollback = word keyword.Rollback []
printed (parsed.DropBelow n) = word keyword.Drop (word keyword.Snapshots (word keyword.Below (number n [])))
printed (parsed.Rql c) = rql_call c
