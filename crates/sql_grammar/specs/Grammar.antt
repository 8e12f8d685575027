-- The grammar of the language.
use Rattle.std.specs.Prelude.{List, [], ◌∷◌, nat_le, length, if◌then◌else◌}
use Rattle.retro_base.specs.declared.limits.TheConstants.{LABEL_BYTES}
use Rattle.sql_lexer.specs.declared.token.Keyword.{Keyword as Keyword'}
use Rattle.sql_lexer.specs.declared.token.Keyword.TheVariants as keyword
use Rattle.sql_lexer.specs.declared.token.Sign.{Sign as Sign'}
use Rattle.sql_lexer.specs.declared.token.Sign.TheVariants as sign
use Rattle.sql_lexer.specs.declared.token.Token.{Token}
use Rattle.sql_lexer.specs.declared.token.Token.TheVariants as token
use Rattle.sql_tree.specs.declared.condition.Comparison.TheVariants as comparison
use Rattle.sql_tree.specs.declared.expression.Operator.TheVariants as operator
use Rattle.sql_tree.specs.declared.select.Direction.TheVariants as direction
use Rattle.values.specs.declared.value.Kind.TheVariants as kind
use Rattle.sql_parts.specs.declared.action.Action.TheVariants as action
use Rattle.sql_grammar.specs.declared.grammar.Class.{Class}
use Rattle.sql_grammar.specs.declared.grammar.Class.TheVariants.{Keyword, Sign, Name, LongWord, Integer}
use Rattle.sql_grammar.specs.declared.grammar.Class.TheVariants.{BigInteger, ShortText, Text, LongText}
use Rattle.sql_parts.specs.declared.action.Op.{Op}
use Rattle.sql_parts.specs.declared.action.Op.TheVariants as op
use Rattle.sql_grammar.specs.declared.grammar.Room.{Room}
use Rattle.sql_grammar.specs.declared.grammar.Room.TheVariants.{Fifteen, Fourteen, Thirteen, Twelve, Eleven, Ten, Nine}
use Rattle.sql_grammar.specs.declared.grammar.Room.TheVariants.{Eight, Seven, Six, Five, Four, Three, Two, One}
use Rattle.sql_grammar.specs.declared.grammar.Rule.{Rule}
use Rattle.sql_grammar.specs.declared.grammar.Rule.TheVariants as rule
use Rattle.sql_grammar.specs.declared.grammar.Symbol.{Symbol}
use Rattle.sql_grammar.specs.declared.grammar.Symbol.TheVariants.{Take, Put, Use}
use Rattle.sql_parts.specs.declared.action.TermAction.TheVariants as term_action
use Rattle.sql_parts.specs.declared.action.StepAction.TheVariants as step_action
use Rattle.sql_parts.specs.declared.action.TableAction.TheVariants as table_action
use Rattle.sql_parts.specs.declared.action.RowAction.TheVariants as row_action
use Rattle.sql_parts.specs.declared.action.UpdateAction.TheVariants as update_action
use Rattle.sql_parts.specs.declared.action.OutputAction.TheVariants as output_action
use Rattle.sql_parts.specs.declared.action.ListAction.TheVariants as list_action
use Rattle.sql_parts.specs.declared.action.QueryAction.TheVariants as query_action
use Rattle.sql_parts.specs.declared.action.LineAction.TheVariants as line_action

-- the class of a token
abbrev pub class_of : Token → Class
class_of (token.Keyword k) = Keyword k
class_of (token.Name n) = Name
class_of token.LongWord = LongWord
class_of (token.Integer i) = Integer
class_of token.BigInteger = BigInteger
class_of (token.Text t) = if nat_le (length t) LABEL_BYTES then ShortText else Text
class_of (token.LongText t) = LongText
class_of (token.Sign s) = Sign s

-- what a token puts out: its content
abbrev pub content_of : Token → List Op
content_of (token.Keyword k) = []
content_of (token.Name n) = op.Name n ∷ []
content_of token.LongWord = []
content_of (token.Integer i) = op.Integer i ∷ []
content_of token.BigInteger = []
content_of (token.Text t) = op.Text t ∷ []
content_of (token.LongText t) = op.LongText t ∷ []
content_of (token.Sign s) = []

-- takes the keyword
abbrev pub word : Keyword' → Symbol
word k = Take (Keyword k)

-- takes the sign
abbrev pub mark : Sign' → Symbol
mark s = Take (Sign s)

-- a comma and a column, and as many more as there is room for
abbrev pub more_columns : Room → List Symbol
more_columns Fifteen =
    mark sign.Comma ∷ Use rule.Column ∷ Put (action.Table table_action.NextColumn) ∷ Use
    (rule.MoreColumns Fourteen) ∷ []
more_columns Fourteen =
    mark sign.Comma ∷ Use rule.Column ∷ Put (action.Table table_action.NextColumn) ∷ Use
    (rule.MoreColumns Thirteen) ∷ []
more_columns Thirteen =
    mark sign.Comma ∷ Use rule.Column ∷ Put (action.Table table_action.NextColumn) ∷ Use (rule.MoreColumns Twelve) ∷ []
more_columns Twelve =
    mark sign.Comma ∷ Use rule.Column ∷ Put (action.Table table_action.NextColumn) ∷ Use (rule.MoreColumns Eleven) ∷ []
more_columns Eleven =
    mark sign.Comma ∷ Use rule.Column ∷ Put (action.Table table_action.NextColumn) ∷ Use (rule.MoreColumns Ten) ∷ []
more_columns Ten =
    mark sign.Comma ∷ Use rule.Column ∷ Put (action.Table table_action.NextColumn) ∷ Use (rule.MoreColumns Nine) ∷ []
more_columns Nine =
    mark sign.Comma ∷ Use rule.Column ∷ Put (action.Table table_action.NextColumn) ∷ Use (rule.MoreColumns Eight) ∷ []
more_columns Eight =
    mark sign.Comma ∷ Use rule.Column ∷ Put (action.Table table_action.NextColumn) ∷ Use (rule.MoreColumns Seven) ∷ []
more_columns Seven =
    mark sign.Comma ∷ Use rule.Column ∷ Put (action.Table table_action.NextColumn) ∷ Use (rule.MoreColumns Six) ∷ []
more_columns Six =
    mark sign.Comma ∷ Use rule.Column ∷ Put (action.Table table_action.NextColumn) ∷ Use (rule.MoreColumns Five) ∷ []
more_columns Five =
    mark sign.Comma ∷ Use rule.Column ∷ Put (action.Table table_action.NextColumn) ∷ Use (rule.MoreColumns Four) ∷ []
more_columns Four =
    mark sign.Comma ∷ Use rule.Column ∷ Put (action.Table table_action.NextColumn) ∷ Use (rule.MoreColumns Three) ∷ []
more_columns Three =
    mark sign.Comma ∷ Use rule.Column ∷ Put (action.Table table_action.NextColumn) ∷ Use (rule.MoreColumns Two) ∷ []
more_columns Two =
    mark sign.Comma ∷ Use rule.Column ∷ Put (action.Table table_action.NextColumn) ∷ Use (rule.MoreColumns One) ∷ []
more_columns One =
    mark sign.Comma ∷ Use rule.Column ∷ Put (action.Table table_action.NextColumn) ∷ Put
    (action.Table table_action.Finish) ∷ []

-- The right sides of each rule. A table has at most sixteen columns.
abbrev pub sides : Rule → List (List Symbol)
sides rule.Sentence =
    (word keyword.Create ∷ Use rule.Created ∷ [])
    ∷ (word keyword.Insert ∷ word keyword.Into ∷ Take Name ∷ word keyword.Values ∷ Use rule.Tuple ∷ Put
    (action.Row row_action.Insert) ∷ Use rule.MoreTuples ∷ Put (action.Row row_action.Finish) ∷ [])
    ∷ (word keyword.Update ∷ Take Name ∷ word keyword.Set ∷ Use rule.Assignment ∷ Put
    (action.Update update_action.Update) ∷ Use rule.MoreAssignments ∷ Use rule.Where ∷ Put
    (action.Update update_action.Finish) ∷ [])
    ∷ (word keyword.Delete ∷ word keyword.From ∷ Take Name ∷ Use rule.Where ∷ Put (action.Update update_action.Delete)
    ∷ [])
    ∷ (word keyword.Select ∷ Use rule.Selected ∷ [])
    ∷ (word keyword.Commit ∷ Use rule.SnapshotChoice ∷ [])
    ∷ (word keyword.Rollback ∷ Put (action.Line line_action.Rollback) ∷ [])
    ∷ (word keyword.CollateData ∷ mark sign.Open ∷ Use rule.Argument ∷ mark sign.Comma ∷ Use rule.Argument
    ∷ mark sign.Comma ∷ Use rule.Argument ∷ mark sign.Close ∷ Put (action.Line line_action.CollateData) ∷ [])
    ∷ (word keyword.AggregateDataInVariable ∷ mark sign.Open ∷ Use rule.Argument ∷ mark sign.Comma ∷ Use rule.Argument
    ∷ mark sign.Comma ∷ Use rule.Argument ∷ mark sign.Comma ∷ Use rule.Argument ∷ mark sign.Close ∷ Put
    (action.Line line_action.AggregateDataInVariable) ∷ [])
    ∷ (word keyword.AggregateDataInTable ∷ mark sign.Open ∷ Use rule.Argument ∷ mark sign.Comma ∷ Use rule.Argument
    ∷ mark sign.Comma ∷ Use rule.Argument ∷ mark sign.Comma ∷ Use rule.Argument ∷ mark sign.Close ∷ Put
    (action.Line line_action.AggregateDataInTable) ∷ [])
    ∷ (word keyword.CollateDataIntoIntervals ∷ mark sign.Open ∷ Use rule.Argument ∷ mark sign.Comma ∷ Use rule.Argument
    ∷ mark sign.Comma ∷ Use rule.Argument ∷ mark sign.Close ∷ Put (action.Line line_action.CollateDataIntoIntervals)
    ∷ [])
    ∷ (word keyword.Drop ∷ word keyword.Snapshots ∷ word keyword.Below ∷ Take Integer ∷ Put
    (action.Line line_action.DropBelow) ∷ [])
    ∷ []
sides rule.Created =
    (word keyword.Table ∷ Take Name ∷ mark sign.Open ∷ Use rule.Column ∷ Put (action.Table table_action.CreateTable)
    ∷ Use (rule.MoreColumns Fifteen) ∷ mark sign.Close ∷ [])
    ∷ (word keyword.Index ∷ Take Name ∷ word keyword.On ∷ Take Name ∷ mark sign.Open ∷ Take Name ∷ mark sign.Close ∷ Put
    (action.Table table_action.CreateIndex) ∷ [])
    ∷ []
sides rule.Column = (Take Name ∷ Use rule.Kind ∷ []) ∷ []
sides rule.Kind =
    (word keyword.Int ∷ Put (action.Table (table_action.Column kind.Int)) ∷ [])
    ∷ (word keyword.Text ∷ Put (action.Table (table_action.Column kind.Text)) ∷ [])
    ∷ []
sides (rule.MoreColumns room) = more_columns room ∷ (Put (action.Table table_action.Finish) ∷ []) ∷ []
sides rule.Tuple =
    (mark sign.Open ∷ Use rule.Literal ∷ Put (action.Row row_action.FirstValue) ∷ Use rule.MoreValues ∷ mark sign.Close
    ∷ [])
    ∷ []
sides rule.MoreValues =
    (mark sign.Comma ∷ Use rule.Literal ∷ Put (action.Row row_action.NextValue) ∷ Use rule.MoreValues ∷ []) ∷ [] ∷ []
sides rule.MoreTuples =
    (mark sign.Comma ∷ Use rule.Tuple ∷ Put (action.Row row_action.NextTuple) ∷ Use rule.MoreTuples ∷ []) ∷ [] ∷ []
sides rule.Assignment =
    (Take Name ∷ mark sign.Equal ∷ Use rule.Value ∷ Put (action.Update update_action.Assign) ∷ []) ∷ []
sides rule.MoreAssignments =
    (mark sign.Comma ∷ Use rule.Assignment ∷ Put (action.Update update_action.NextAssignment) ∷ Use rule.MoreAssignments
    ∷ [])
    ∷ []
    ∷ []
sides rule.Where =
    (word keyword.Where ∷ Use rule.Condition ∷ Put (action.Step step_action.Condition) ∷ [])
    ∷ (Put (action.Step step_action.NoCondition) ∷ [])
    ∷ []
sides rule.Selected =
    (word keyword.As ∷ word keyword.Of ∷ Take Integer ∷ Use rule.Query ∷ Put (action.Query query_action.AsOf) ∷ [])
    ∷ (Use rule.Query ∷ Put (action.Query query_action.Finish) ∷ [])
    ∷ []
sides rule.Query =
    (word keyword.Distinct ∷ Use rule.List ∷ Use rule.Clauses ∷ Put (action.Query query_action.Distinct) ∷ [])
    ∷ (Use rule.List ∷ Use rule.Clauses ∷ [])
    ∷ []
sides rule.List =
    (mark sign.Star ∷ word keyword.From ∷ Take Name ∷ Put (action.List list_action.All) ∷ [])
    ∷ (Use rule.Output ∷ Put (action.List list_action.First) ∷ Use rule.MoreOutputs ∷ word keyword.From ∷ Take Name
    ∷ Put (action.List list_action.From) ∷ [])
    ∷ []
sides rule.MoreOutputs =
    (mark sign.Comma ∷ Use rule.Output ∷ Put (action.List list_action.Next) ∷ Use rule.MoreOutputs ∷ []) ∷ [] ∷ []
sides rule.Output = (Use rule.OutputValue ∷ Use rule.OutputName ∷ []) ∷ []
sides rule.OutputValue =
    (word keyword.Count ∷ mark sign.Open ∷ Use rule.Counted ∷ [])
    ∷ (word keyword.Sum ∷ mark sign.Open ∷ Use rule.Value ∷ mark sign.Close ∷ Put (action.Output output_action.Sum)
    ∷ [])
    ∷ (word keyword.Min ∷ mark sign.Open ∷ Use rule.Value ∷ mark sign.Close ∷ Put (action.Output output_action.Min)
    ∷ [])
    ∷ (word keyword.Max ∷ mark sign.Open ∷ Use rule.Value ∷ mark sign.Close ∷ Put (action.Output output_action.Max)
    ∷ [])
    ∷ (Use rule.Value ∷ Put (action.Output output_action.Value) ∷ [])
    ∷ []
sides rule.Counted =
    (mark sign.Star ∷ mark sign.Close ∷ Put (action.Output output_action.CountRows) ∷ [])
    ∷ (Use rule.Value ∷ mark sign.Close ∷ Put (action.Output output_action.Count) ∷ [])
    ∷ []
sides rule.OutputName =
    (word keyword.As ∷ Take Name ∷ Put (action.Output output_action.Named) ∷ [])
    ∷ (Put (action.Output output_action.Unnamed) ∷ [])
    ∷ []
sides rule.Clauses =
    (Use rule.Second ∷ Use rule.Where ∷ Put (action.Query query_action.Filter) ∷ Use rule.Grouping ∷ Use rule.Ordering
    ∷ Use rule.Limit ∷ [])
    ∷ []
sides rule.Second = (mark sign.Comma ∷ Take Name ∷ Put (action.Query query_action.Second) ∷ []) ∷ [] ∷ []
sides rule.Grouping =
    (word keyword.Group ∷ word keyword.By ∷ Use rule.ColumnName ∷ Put (action.Query query_action.GroupBy)
    ∷ Use rule.MoreGroups ∷ [])
    ∷ []
    ∷ []
sides rule.MoreGroups =
    (mark sign.Comma ∷ Use rule.ColumnName ∷ Put (action.Query query_action.GroupBy) ∷ Use rule.MoreGroups ∷ []) ∷ []
    ∷ []
sides rule.Ordering = (word keyword.Order ∷ word keyword.By ∷ Use rule.Key ∷ Use rule.MoreKeys ∷ []) ∷ [] ∷ []
sides rule.MoreKeys = (mark sign.Comma ∷ Use rule.Key ∷ Use rule.MoreKeys ∷ []) ∷ [] ∷ []
sides rule.Key = (Use rule.ColumnName ∷ Use rule.SortDirection ∷ []) ∷ []
sides rule.SortDirection =
    (word keyword.Asc ∷ Put (action.Query (query_action.OrderBy direction.Ascending)) ∷ [])
    ∷ (word keyword.Desc ∷ Put (action.Query (query_action.OrderBy direction.Descending)) ∷ [])
    ∷ (Put (action.Query (query_action.OrderBy direction.Ascending)) ∷ [])
    ∷ []
sides rule.Limit = (word keyword.Limit ∷ Take Integer ∷ Put (action.Query query_action.Limit) ∷ []) ∷ [] ∷ []
sides rule.Value = (Use rule.Expression ∷ Put (action.Step step_action.Expression) ∷ []) ∷ []
sides rule.Expression = (Use rule.Term ∷ Use rule.MoreTerms ∷ []) ∷ []
sides rule.MoreTerms =
    (mark sign.Plus ∷ Use rule.Term ∷ Put (action.Step (step_action.Apply operator.Add)) ∷ Use rule.MoreTerms ∷ [])
    ∷ (mark sign.Minus ∷ Use rule.Term ∷ Put (action.Step (step_action.Apply operator.Subtract)) ∷ Use rule.MoreTerms
    ∷ [])
    ∷ []
    ∷ []
sides rule.Term = (Use rule.Factor ∷ Use rule.MoreFactors ∷ []) ∷ []
sides rule.MoreFactors =
    (mark sign.Star ∷ Use rule.Factor ∷ Put (action.Step (step_action.Apply operator.Multiply)) ∷ Use rule.MoreFactors
    ∷ [])
    ∷ []
    ∷ []
sides rule.Factor =
    (mark sign.Open ∷ Use rule.Expression ∷ mark sign.Close ∷ [])
    ∷ (Use rule.Operand ∷ Put (action.Step step_action.Leaf) ∷ [])
    ∷ []
sides rule.Operand =
    (word keyword.CurrentSnapshot ∷ mark sign.Open ∷ mark sign.Close ∷ Put (action.Term term_action.CurrentSnapshot)
    ∷ [])
    ∷ (Use rule.ColumnName ∷ Put (action.Term term_action.ColumnOperand) ∷ [])
    ∷ (Use rule.Literal ∷ Put (action.Term term_action.LiteralOperand) ∷ [])
    ∷ []
sides rule.ColumnName = (Take Name ∷ Use rule.Qualifier ∷ []) ∷ []
sides rule.Qualifier =
    (mark sign.Dot ∷ Take Name ∷ Put (action.Term term_action.QualifiedColumn) ∷ [])
    ∷ (Put (action.Term term_action.PlainColumn) ∷ [])
    ∷ []
sides rule.Literal =
    (Take Integer ∷ Put (action.Term term_action.Integer) ∷ [])
    ∷ (mark sign.Minus ∷ Take Integer ∷ Put (action.Term term_action.Negative) ∷ [])
    ∷ (Take ShortText ∷ Put (action.Term term_action.Text) ∷ [])
    ∷ (Take Text ∷ Put (action.Term term_action.Text) ∷ [])
    ∷ []
sides rule.Condition = (Use rule.Conjunction ∷ Use rule.MoreConjunctions ∷ []) ∷ []
sides rule.MoreConjunctions =
    (word keyword.Or ∷ Use rule.Conjunction ∷ Put (action.Step step_action.Or) ∷ Use rule.MoreConjunctions ∷ []) ∷ []
    ∷ []
sides rule.Conjunction = (Use rule.Negation ∷ Use rule.MoreNegations ∷ []) ∷ []
sides rule.MoreNegations =
    (word keyword.And ∷ Use rule.Negation ∷ Put (action.Step step_action.And) ∷ Use rule.MoreNegations ∷ []) ∷ [] ∷ []
sides rule.Negation =
    (word keyword.Not ∷ Use rule.Negation ∷ Put (action.Step step_action.Not) ∷ [])
    ∷ (mark sign.Open ∷ Use rule.Condition ∷ mark sign.Close ∷ [])
    ∷ (Use rule.Operand ∷ Use rule.Compared ∷ [])
    ∷ []
sides rule.Compared =
    (mark sign.Equal ∷ Use rule.Operand ∷ Put (action.Step (step_action.Compare comparison.Equal)) ∷ [])
    ∷ (mark sign.NotEqual ∷ Use rule.Operand ∷ Put (action.Step (step_action.Compare comparison.NotEqual)) ∷ [])
    ∷ (mark sign.Less ∷ Use rule.Operand ∷ Put (action.Step (step_action.Compare comparison.Less)) ∷ [])
    ∷ (mark sign.AtMost ∷ Use rule.Operand ∷ Put (action.Step (step_action.Compare comparison.AtMost)) ∷ [])
    ∷ (mark sign.Greater ∷ Use rule.Operand ∷ Put (action.Step (step_action.Compare comparison.Greater)) ∷ [])
    ∷ (mark sign.AtLeast ∷ Use rule.Operand ∷ Put (action.Step (step_action.Compare comparison.AtLeast)) ∷ [])
    ∷ []
sides rule.SnapshotChoice =
    (word keyword.With ∷ word keyword.Snapshot ∷ Use rule.LabelChoice ∷ [])
    ∷ (Put (action.Line line_action.Commit) ∷ [])
    ∷ []
sides rule.Argument =
    (Take ShortText ∷ Put (action.Line line_action.Argument) ∷ [])
    ∷ (Take Text ∷ Put (action.Line line_action.Argument) ∷ [])
    ∷ (Take LongText ∷ [])
    ∷ []
sides rule.LabelChoice =
    (Take ShortText ∷ Put (action.Line line_action.CommitLabelled) ∷ [])
    ∷ (Put (action.Line line_action.CommitUnlabelled) ∷ [])
    ∷ []
