-- A line whose contents have a spelling is printed by tokens that have one.
use Rattle.std.proofs.Common.{◌≡◌, ℕ, pos, negsuc, suc, Bool, true, false, Option, Some, None, List, [], ◌∷◌, length, nat_le, nat_lt, if◌then◌else◌, refl, arith}
use Rattle.std.proofs.lemmas.Bool.{leb-true}
use Rattle.std.proofs.lemmas.Bool.Decides.{nat_tests}
use Rattle.std.specs.List.{AllByRecursion}
use Rattle.values.specs.declared.value.Value.{Value}
use Rattle.values.specs.declared.value.Value.TheVariants as value
use Rattle.sql_tree.specs.Condition.{ConditionTree}
use Rattle.sql_tree.specs.Condition as condition_tree
use Rattle.sql_tree.specs.Expression.{ExpressionTree}
use Rattle.sql_tree.specs.Expression as expression_tree
use Rattle.sql_tree.specs.declared.condition.Operand.{Operand}
use Rattle.sql_tree.specs.declared.condition.Operand.TheVariants as operand'
use Rattle.sql_tree.specs.declared.name.ColumnName.{ColumnName}
use Rattle.sql_tree.specs.declared.select.Aggregate.{Aggregate}
use Rattle.sql_tree.specs.declared.select.Aggregate.TheVariants as aggregate'
use Rattle.sql_tree.specs.declared.select.OrderKey.{OrderKey}
use Rattle.sql_tree.specs.declared.select.Output.{Output}
use Rattle.sql_tree.specs.declared.select.OutputValue.{OutputValue}
use Rattle.sql_tree.specs.declared.select.OutputValue.TheVariants as output_value'
use Rattle.sql_tree.specs.declared.select.Select.{Select}
use Rattle.sql_tree.specs.declared.select.SelectList.{SelectList}
use Rattle.sql_tree.specs.declared.select.SelectList.TheVariants as select_list'
use Rattle.sql_tree.specs.declared.statement.Assignment.{Assignment}
use Rattle.sql_tree.specs.declared.statement.Column.{Column}
use Rattle.sql_tree.specs.declared.statement.Statement.{Statement}
use Rattle.sql_tree.specs.declared.statement.Statement.TheVariants as statement'
use Rattle.sql_lexer.specs.declared.token.Sign.TheVariants as sign
use Rattle.sql_lexer.specs.declared.token.Keyword.TheVariants as keyword
use Rattle.sql_lexer.specs.declared.token.Token.{Token}
use Rattle.sql_lexer.specs.declared.token.Token.TheVariants as token
use Rattle.sql_parts.specs.declared.parsed.Mechanism.{Mechanism}
use Rattle.sql_parts.specs.declared.parsed.Mechanism.TheVariants as mechanism
use Rattle.sql_parts.specs.declared.parsed.Parsed.{Parsed}
use Rattle.sql_parts.specs.declared.parsed.Parsed.TheVariants as parsed
use Rattle.sql_parts.specs.declared.parsed.RqlCall.{RqlCall}
use Rattle.print_laws.specs.Printed.{Writer, aggregate, argument, assignment, column, column_of, condition, distinct, expression, filter, fourth, further, grouped, grouping, key, limit, literal, mark, new_column, operand, operator_sign, ordering, output, output_name, output_value, printed, query, rql_call, second, select_list, several, statement, strength, tuple, word}
use Rattle.print_laws.specs.Spelt.{HasSpelling}
use Rattle.print_laws.proofs.Contents.{AggregateFits, ArgumentFits, AssignmentFits, CallFits, ColumnFits, ConditionFits, ExpressionFits, FilterFits, KeyFits, LineFits, ListFits, MechanismFits, NameFits, NewColumnFits, NumberFits, OperandFits, Optional, OutputFits, OutputValueFits, RowFits, SelectFits, StatementFits, ValueFits}

abbrev Fit : List Token → Type 0
Fit ts = AllByRecursion HasSpelling ts

literal_fits : (v : Value) (ts : List Token) → ValueFits v → Fit ts → Fit (literal v ts)
literal_fits (value.Int (pos n)) ts f h = ((n, refl, f), h)
literal_fits (value.Int (negsuc n)) ts f h = (tt, ((suc n, refl, f), h))
literal_fits (value.Text t) ts f h = (f, h)

column_of_fits : (t : Option (List ℕ)) (c : List ℕ) (ts : List Token) → Optional NameFits t → NameFits c → Fit ts → Fit (column_of t c ts)
column_of_fits None c ts f g h = (g, h)
column_of_fits (Some t) c ts f g h = (f, (tt, (g, h)))

column_fits : (c : ColumnName) (ts : List Token) → ColumnFits c → Fit ts → Fit (column c ts)
column_fits c ts f h = column_of_fits c.table c.column ts f.0 f.1 h

operand_fits : (o : Operand) (ts : List Token) → OperandFits o → Fit ts → Fit (operand o ts)
operand_fits (operand'.Literal v) ts f h = literal_fits v ts f h
operand_fits (operand'.Column c) ts f h = column_fits c ts f h
operand_fits operand'.CurrentSnapshot ts f h = (tt, (tt, (tt, h)))

grouped_fits : (b : Bool) (write : List Token → List Token) (ts : List Token) → ((more : List Token) → Fit more → Fit (write more)) → Fit ts → Fit (grouped b write ts)
grouped_fits false write ts w h = w ts h
grouped_fits true write ts w h = (tt, w (mark sign.Close ts) (tt, h))

expression_fits : (e : ExpressionTree) (least : ℕ) (ts : List Token) → ExpressionFits e → Fit ts → Fit (expression least e ts)
expression_fits (expression_tree.Literal v) least ts f h = literal_fits v ts f h
expression_fits (expression_tree.Column c) least ts f h = column_fits c ts f h
expression_fits expression_tree.CurrentSnapshot least ts f h = (tt, (tt, (tt, h)))
expression_fits (expression_tree.Apply o a b) least ts f h =
    grouped_fits (nat_lt (strength o) least) (λ more. expression (strength o) a (mark (operator_sign o) (expression (suc (strength o)) b more))) ts
    (λ more g. expression_fits a (strength o) _ f.0 (tt, expression_fits b (suc (strength o)) more f.1 g)) h

condition_fits : (c : ConditionTree) (least : ℕ) (ts : List Token) → ConditionFits c → Fit ts → Fit (condition least c ts)
condition_fits (condition_tree.Compare a c b) least ts f h = operand_fits a _ f.0 (tt, operand_fits b ts f.1 h)
condition_fits (condition_tree.Not a) least ts f h = (tt, condition_fits a 2 ts f h)
condition_fits (condition_tree.And a b) least ts f h =
    grouped_fits (nat_lt 1 least) (λ more. condition 1 a (word keyword.And (condition 2 b more))) ts (λ more g. condition_fits a 1 _ f.0 (tt, condition_fits b 2 more f.1 g)) h
condition_fits (condition_tree.Or a b) least ts f h =
    grouped_fits (nat_lt 0 least) (λ more. condition 0 a (word keyword.Or (condition 1 b more))) ts (λ more g. condition_fits a 0 _ f.0 (tt, condition_fits b 1 more f.1 g)) h

filter_fits : (c : Option ConditionTree) (ts : List Token) → FilterFits c → Fit ts → Fit (filter c ts)
filter_fits None ts f h = h
filter_fits (Some c) ts f h = (tt, condition_fits c 0 ts f h)

-- lists of things with commas between
abbrev Fits : (X : Type 0) → (X → Type 0) → Writer X → Type 0
Fits X P write = (x : X) (ts : List Token) → P x → Fit ts → Fit (write x ts)

further_fits : {X : Type 0} (P : X → Type 0) (write : Writer X) → Fits X P write → (xs : List X) (ts : List Token) → AllByRecursion P xs → Fit ts → Fit (further write xs ts)
further_fits P write w [] ts f h = h
further_fits P write w (x ∷ xs) ts f h = (tt, w x (further write xs ts) f.0 (further_fits P write w xs ts f.1 h))

several_fits : {X : Type 0} (P : X → Type 0) (write : Writer X) → Fits X P write → (xs : List X) (ts : List Token) → AllByRecursion P xs → Fit ts → Fit (several write xs ts)
several_fits P write w [] ts f h = h
several_fits P write w (x ∷ xs) ts f h = w x (further write xs ts) f.0 (further_fits P write w xs ts f.1 h)

new_column_fits : Fits Column NewColumnFits new_column
new_column_fits c ts f h = (f, (tt, h))

tuple_fits : Fits (List Value) RowFits tuple
tuple_fits vs ts f h = (tt, several_fits ValueFits literal literal_fits vs (mark sign.Close ts) f (tt, h))

assignment_fits : Fits Assignment AssignmentFits assignment
assignment_fits a ts f h = (f.0, (tt, expression_fits a.value 0 ts f.1 h))

aggregate_fits : (a : Aggregate) (ts : List Token) → AggregateFits a → Fit ts → Fit (aggregate a ts)
aggregate_fits aggregate'.CountRows ts f h = (tt, (tt, (tt, (tt, h))))
aggregate_fits (aggregate'.Count e) ts f h = (tt, (tt, expression_fits e 0 _ f (tt, h)))
aggregate_fits (aggregate'.Sum e) ts f h = (tt, (tt, expression_fits e 0 _ f (tt, h)))
aggregate_fits (aggregate'.Min e) ts f h = (tt, (tt, expression_fits e 0 _ f (tt, h)))
aggregate_fits (aggregate'.Max e) ts f h = (tt, (tt, expression_fits e 0 _ f (tt, h)))

output_value_fits : (v : OutputValue) (ts : List Token) → OutputValueFits v → Fit ts → Fit (output_value v ts)
output_value_fits (output_value'.Expression e) ts f h = expression_fits e 0 ts f h
output_value_fits (output_value'.Aggregate a) ts f h = aggregate_fits a ts f h

output_name_fits : (n : Option (List ℕ)) (ts : List Token) → Optional NameFits n → Fit ts → Fit (output_name n ts)
output_name_fits None ts f h = h
output_name_fits (Some n) ts f h = (tt, (f, h))

output_fits : Fits Output OutputFits output
output_fits o ts f h = output_value_fits o.value _ f.0 (output_name_fits o.name ts f.1 h)

list_fits : (l : SelectList) (ts : List Token) → ListFits l → Fit ts → Fit (select_list l ts)
list_fits select_list'.All ts f h = (tt, h)
list_fits (select_list'.Outputs os) ts f h = several_fits OutputFits output output_fits os ts f h

second_fits : (s : Option (List ℕ)) (ts : List Token) → Optional NameFits s → Fit ts → Fit (second s ts)
second_fits None ts f h = h
second_fits (Some s) ts f h = (tt, (f, h))

grouping_fits : (cs : List ColumnName) (ts : List Token) → AllByRecursion ColumnFits cs → Fit ts → Fit (grouping cs ts)
grouping_fits [] ts f h = h
grouping_fits (c ∷ cs) ts f h = (tt, (tt, several_fits ColumnFits column column_fits (c ∷ cs) ts f h))

key_fits : Fits OrderKey KeyFits key
key_fits k ts f h = column_fits k.column _ f (tt, h)

ordering_fits : (ks : List OrderKey) (ts : List Token) → AllByRecursion KeyFits ks → Fit ts → Fit (ordering ks ts)
ordering_fits [] ts f h = h
ordering_fits (k ∷ ks) ts f h = (tt, (tt, several_fits KeyFits key key_fits (k ∷ ks) ts f h))

limit_fits : (n : Option ℕ) (ts : List Token) → Optional NumberFits n → Fit ts → Fit (limit n ts)
limit_fits None ts f h = h
limit_fits (Some n) ts f h = (tt, ((n, refl, f), h))

distinct_fits : (b : Bool) (ts : List Token) → Fit ts → Fit (distinct b ts)
distinct_fits true ts h = (tt, h)
distinct_fits false ts h = h

query_fits : (q : Select) (ts : List Token) → SelectFits q → Fit ts → Fit (query q ts)
query_fits q ts f h =
    distinct_fits q.distinct _ (list_fits q.list _ f.list (
      tt,
      (
        f.table,
        second_fits q.second _ f.second (filter_fits q.condition _ f.condition
            (grouping_fits q.group_by _ f.group_by (ordering_fits q.order_by _ f.order_by (limit_fits q.limit ts f.limit h)))),
      ),
    ))

statement_fits : (s : Statement) → StatementFits s → Fit (statement s)
statement_fits (statement'.CreateTable t) f = (tt, (tt, (f.0, (tt, several_fits NewColumnFits new_column new_column_fits t.columns _ f.1 (tt, tt)))))
statement_fits (statement'.CreateIndex i) f = (tt, (tt, (f.0, (tt, (f.1, (tt, (f.2, (tt, tt))))))))
statement_fits (statement'.Insert i) f = (tt, (tt, (f.0, (tt, several_fits RowFits tuple tuple_fits i.tuples [] f.1 tt))))
statement_fits (statement'.Update u) f = (tt, (f.0, (tt, several_fits AssignmentFits assignment assignment_fits u.assignments _ f.1 (filter_fits u.condition [] f.2 tt))))
statement_fits (statement'.Delete d) f = (tt, (tt, (f.0, filter_fits d.condition [] f.1 tt)))
statement_fits (statement'.Select q) f = (tt, query_fits q [] f tt)

argument_fits : (t : List ℕ) (ts : List Token) → ArgumentFits t → Fit ts → Fit (argument t ts)
argument_fits t ts f h = by_length (nat_le (length t) 200) refl
  where
    by_length : (b : Bool) → nat_le (length t) 200 ≡ b → Fit ((if b then token.Text t else token.LongText t) ∷ ts)
    by_length true e = ((leb-true (length t) 200 e, f), h)
    by_length false e = ((f, grind (arith, nat_tests)), h)

fourth_fits : (m : Mechanism) (ts : List Token) → MechanismFits m → Fit ts → Fit (fourth m ts)
fourth_fits mechanism.CollateData ts f h = h
fourth_fits (mechanism.AggregateDataInVariable function) ts f h = (tt, argument_fits function ts f h)
fourth_fits (mechanism.AggregateDataInTable pairs) ts f h = (tt, argument_fits pairs ts f h)
fourth_fits mechanism.CollateDataIntoIntervals ts f h = h

call_fits : (c : RqlCall) → CallFits c → Fit (rql_call c)
call_fits c f =
    let last : List Token = fourth c.mechanism (mark sign.Close []) in
    let more : List Token = mark sign.Comma (argument c.table last) in
    let fourth_fit : Fit last = fourth_fits c.mechanism (mark sign.Close []) f.3 (tt, tt) in
    let third_fit : Fit more = (tt, argument_fits c.table last f.2 fourth_fit) in
    let second_fit : Fit (mark sign.Comma (argument c.query more)) = (tt, argument_fits c.query more f.1 third_fit) in
    (tt, (tt, argument_fits c.snapshots (mark sign.Comma (argument c.query more)) f.0 second_fit))

pub printed_fits : (p : Parsed) → LineFits p → Fit (printed p)
printed_fits (parsed.Plain s) f = statement_fits s f
printed_fits (parsed.AsOf q) f = (tt, (tt, (tt, ((q.snapshot, refl, f.0), query_fits q.query [] f.1 tt))))
printed_fits (parsed.Commit None) f = (tt, tt)
printed_fits (parsed.Commit (Some label)) f = (tt, (tt, (tt, (f, tt))))
printed_fits parsed.Rollback f = (tt, tt)
printed_fits (parsed.DropBelow n) f = (tt, (tt, (tt, ((n, refl, f), tt))))
printed_fits (parsed.Rql c) f = call_fits c f
