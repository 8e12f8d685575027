-- Tables that say which right side goes on with a token: the proofs check that they are right.
use Rattle.std.specs.Prelude.{ℕ, zero, suc, Bool, true, false, List, [], ◌∷◌}
use Rattle.sql_lexer.specs.declared.token.Keyword.TheVariants as keyword
use Rattle.sql_lexer.specs.declared.token.Sign.TheVariants as sign
use Rattle.sql_grammar.specs.declared.grammar.Class.{Class}
use Rattle.sql_grammar.specs.declared.grammar.Class.TheVariants.{Keyword, Sign, Name, Integer}
use Rattle.sql_grammar.specs.declared.grammar.Class.TheVariants.{ShortText, Text, LongText, End}
use Rattle.sql_grammar.specs.declared.grammar.Rule.{Rule}
use Rattle.sql_grammar.specs.declared.grammar.Rule.TheVariants as rule
use Rattle.sql_grammar.specs.declared.grammar.Symbol.{Symbol}
use Rattle.sql_grammar.specs.Grammar.{sides}

-- whether a rule may take no token
abbrev pub null : Rule → Bool
null (rule.MoreColumns room) = true
null rule.MoreValues = true
null rule.MoreTuples = true
null rule.MoreAssignments = true
null rule.Where = true
null rule.MoreOutputs = true
null rule.OutputName = true
null rule.Clauses = true
null rule.Second = true
null rule.Grouping = true
null rule.MoreGroups = true
null rule.Ordering = true
null rule.MoreKeys = true
null rule.SortDirection = true
null rule.Limit = true
null rule.MoreTerms = true
null rule.MoreFactors = true
null rule.Qualifier = true
null rule.MoreConjunctions = true
null rule.MoreNegations = true
null rule.SnapshotChoice = true
null rule.LabelChoice = true
null _ = false

-- the classes that a rule may begin with
abbrev pub first : Rule → List Class
first rule.Sentence =
    Keyword keyword.Create ∷ Keyword keyword.Insert ∷ Keyword keyword.Update ∷ Keyword keyword.Delete
    ∷ Keyword keyword.Select ∷ Keyword keyword.Commit ∷ Keyword keyword.Rollback ∷ Keyword keyword.CollateData
    ∷ Keyword keyword.AggregateDataInVariable ∷ Keyword keyword.AggregateDataInTable
    ∷ Keyword keyword.CollateDataIntoIntervals ∷ Keyword keyword.Drop ∷ []
first rule.Created = Keyword keyword.Table ∷ Keyword keyword.Index ∷ []
first rule.Column = Name ∷ []
first rule.Kind = Keyword keyword.Int ∷ Keyword keyword.Text ∷ []
first (rule.MoreColumns room) = Sign sign.Comma ∷ []
first rule.Tuple = Sign sign.Open ∷ []
first rule.MoreValues = Sign sign.Comma ∷ []
first rule.MoreTuples = Sign sign.Comma ∷ []
first rule.Assignment = Name ∷ []
first rule.MoreAssignments = Sign sign.Comma ∷ []
first rule.Where = Keyword keyword.Where ∷ []
first rule.Selected =
    Keyword keyword.As ∷ Keyword keyword.Distinct ∷ Sign sign.Star ∷ Keyword keyword.Count ∷ Keyword keyword.Sum
    ∷ Keyword keyword.Min ∷ Keyword keyword.Max ∷ Sign sign.Open ∷ Keyword keyword.CurrentSnapshot ∷ Name ∷ Integer
    ∷ Sign sign.Minus ∷ ShortText ∷ Text ∷ []
first rule.Query =
    Keyword keyword.Distinct ∷ Sign sign.Star ∷ Keyword keyword.Count ∷ Keyword keyword.Sum ∷ Keyword keyword.Min
    ∷ Keyword keyword.Max ∷ Sign sign.Open ∷ Keyword keyword.CurrentSnapshot ∷ Name ∷ Integer ∷ Sign sign.Minus
    ∷ ShortText ∷ Text ∷ []
first rule.List =
    Sign sign.Star ∷ Keyword keyword.Count ∷ Keyword keyword.Sum ∷ Keyword keyword.Min ∷ Keyword keyword.Max
    ∷ Sign sign.Open ∷ Keyword keyword.CurrentSnapshot ∷ Name ∷ Integer ∷ Sign sign.Minus ∷ ShortText ∷ Text ∷ []
first rule.MoreOutputs = Sign sign.Comma ∷ []
first rule.Output =
    Keyword keyword.Count ∷ Keyword keyword.Sum ∷ Keyword keyword.Min ∷ Keyword keyword.Max ∷ Sign sign.Open
    ∷ Keyword keyword.CurrentSnapshot ∷ Name ∷ Integer ∷ Sign sign.Minus ∷ ShortText ∷ Text ∷ []
first rule.OutputValue =
    Keyword keyword.Count ∷ Keyword keyword.Sum ∷ Keyword keyword.Min ∷ Keyword keyword.Max ∷ Sign sign.Open
    ∷ Keyword keyword.CurrentSnapshot ∷ Name ∷ Integer ∷ Sign sign.Minus ∷ ShortText ∷ Text ∷ []
first rule.Counted =
    Sign sign.Star ∷ Sign sign.Open ∷ Keyword keyword.CurrentSnapshot ∷ Name ∷ Integer ∷ Sign sign.Minus ∷ ShortText
    ∷ Text ∷ []
first rule.OutputName = Keyword keyword.As ∷ []
first rule.Clauses =
    Sign sign.Comma ∷ Keyword keyword.Where ∷ Keyword keyword.Group ∷ Keyword keyword.Order ∷ Keyword keyword.Limit ∷ []
first rule.Second = Sign sign.Comma ∷ []
first rule.Grouping = Keyword keyword.Group ∷ []
first rule.MoreGroups = Sign sign.Comma ∷ []
first rule.Ordering = Keyword keyword.Order ∷ []
first rule.MoreKeys = Sign sign.Comma ∷ []
first rule.Key = Name ∷ []
first rule.SortDirection = Keyword keyword.Asc ∷ Keyword keyword.Desc ∷ []
first rule.Limit = Keyword keyword.Limit ∷ []
first rule.Value =
    Sign sign.Open ∷ Keyword keyword.CurrentSnapshot ∷ Name ∷ Integer ∷ Sign sign.Minus ∷ ShortText ∷ Text ∷ []
first rule.Expression =
    Sign sign.Open ∷ Keyword keyword.CurrentSnapshot ∷ Name ∷ Integer ∷ Sign sign.Minus ∷ ShortText ∷ Text ∷ []
first rule.MoreTerms = Sign sign.Plus ∷ Sign sign.Minus ∷ []
first rule.Term =
    Sign sign.Open ∷ Keyword keyword.CurrentSnapshot ∷ Name ∷ Integer ∷ Sign sign.Minus ∷ ShortText ∷ Text ∷ []
first rule.MoreFactors = Sign sign.Star ∷ []
first rule.Factor =
    Sign sign.Open ∷ Keyword keyword.CurrentSnapshot ∷ Name ∷ Integer ∷ Sign sign.Minus ∷ ShortText ∷ Text ∷ []
first rule.Operand = Keyword keyword.CurrentSnapshot ∷ Name ∷ Integer ∷ Sign sign.Minus ∷ ShortText ∷ Text ∷ []
first rule.ColumnName = Name ∷ []
first rule.Qualifier = Sign sign.Dot ∷ []
first rule.Literal = Integer ∷ Sign sign.Minus ∷ ShortText ∷ Text ∷ []
first rule.Condition =
    Keyword keyword.Not ∷ Sign sign.Open ∷ Keyword keyword.CurrentSnapshot ∷ Name ∷ Integer ∷ Sign sign.Minus
    ∷ ShortText ∷ Text ∷ []
first rule.MoreConjunctions = Keyword keyword.Or ∷ []
first rule.Conjunction =
    Keyword keyword.Not ∷ Sign sign.Open ∷ Keyword keyword.CurrentSnapshot ∷ Name ∷ Integer ∷ Sign sign.Minus
    ∷ ShortText ∷ Text ∷ []
first rule.MoreNegations = Keyword keyword.And ∷ []
first rule.Negation =
    Keyword keyword.Not ∷ Sign sign.Open ∷ Keyword keyword.CurrentSnapshot ∷ Name ∷ Integer ∷ Sign sign.Minus
    ∷ ShortText ∷ Text ∷ []
first rule.Compared =
    Sign sign.Equal ∷ Sign sign.NotEqual ∷ Sign sign.Less ∷ Sign sign.AtMost ∷ Sign sign.Greater ∷ Sign sign.AtLeast
    ∷ []
first rule.SnapshotChoice = Keyword keyword.With ∷ []
first rule.Argument = ShortText ∷ Text ∷ LongText ∷ []
first rule.LabelChoice = ShortText ∷ []

-- the classes that may come behind a rule
abbrev pub follow : Rule → List Class
follow rule.Sentence = End ∷ []
follow rule.Created = End ∷ []
follow rule.Column = Sign sign.Comma ∷ Sign sign.Close ∷ []
follow rule.Kind = Sign sign.Comma ∷ Sign sign.Close ∷ []
follow (rule.MoreColumns room) = Sign sign.Close ∷ []
follow rule.Tuple = Sign sign.Comma ∷ End ∷ []
follow rule.MoreValues = Sign sign.Close ∷ []
follow rule.MoreTuples = End ∷ []
follow rule.Assignment = Sign sign.Comma ∷ Keyword keyword.Where ∷ End ∷ []
follow rule.MoreAssignments = Keyword keyword.Where ∷ End ∷ []
follow rule.Where = End ∷ Keyword keyword.Group ∷ Keyword keyword.Order ∷ Keyword keyword.Limit ∷ []
follow rule.Selected = End ∷ []
follow rule.Query = End ∷ []
follow rule.List =
    Sign sign.Comma ∷ Keyword keyword.Where ∷ Keyword keyword.Group ∷ Keyword keyword.Order ∷ Keyword keyword.Limit
    ∷ End ∷ []
follow rule.MoreOutputs = Keyword keyword.From ∷ []
follow rule.Output = Sign sign.Comma ∷ Keyword keyword.From ∷ []
follow rule.OutputValue = Keyword keyword.As ∷ Sign sign.Comma ∷ Keyword keyword.From ∷ []
follow rule.Counted = Keyword keyword.As ∷ Sign sign.Comma ∷ Keyword keyword.From ∷ []
follow rule.OutputName = Sign sign.Comma ∷ Keyword keyword.From ∷ []
follow rule.Clauses = End ∷ []
follow rule.Second =
    Keyword keyword.Where ∷ Keyword keyword.Group ∷ Keyword keyword.Order ∷ Keyword keyword.Limit ∷ End ∷ []
follow rule.Grouping = Keyword keyword.Order ∷ Keyword keyword.Limit ∷ End ∷ []
follow rule.MoreGroups = Keyword keyword.Order ∷ Keyword keyword.Limit ∷ End ∷ []
follow rule.Ordering = Keyword keyword.Limit ∷ End ∷ []
follow rule.MoreKeys = Keyword keyword.Limit ∷ End ∷ []
follow rule.Key = Sign sign.Comma ∷ Keyword keyword.Limit ∷ End ∷ []
follow rule.SortDirection = Sign sign.Comma ∷ Keyword keyword.Limit ∷ End ∷ []
follow rule.Limit = End ∷ []
follow rule.Value =
    Sign sign.Close ∷ Sign sign.Comma ∷ Keyword keyword.Where ∷ End ∷ Keyword keyword.As ∷ Keyword keyword.From ∷ []
follow rule.Expression =
    Sign sign.Close ∷ Sign sign.Comma ∷ Keyword keyword.Where ∷ End ∷ Keyword keyword.As ∷ Keyword keyword.From ∷ []
follow rule.MoreTerms =
    Sign sign.Close ∷ Sign sign.Comma ∷ Keyword keyword.Where ∷ End ∷ Keyword keyword.As ∷ Keyword keyword.From ∷ []
follow rule.Term =
    Sign sign.Plus ∷ Sign sign.Minus ∷ Sign sign.Close ∷ Sign sign.Comma ∷ Keyword keyword.Where ∷ End
    ∷ Keyword keyword.As ∷ Keyword keyword.From ∷ []
follow rule.MoreFactors =
    Sign sign.Plus ∷ Sign sign.Minus ∷ Sign sign.Close ∷ Sign sign.Comma ∷ Keyword keyword.Where ∷ End
    ∷ Keyword keyword.As ∷ Keyword keyword.From ∷ []
follow rule.Factor =
    Sign sign.Star ∷ Sign sign.Plus ∷ Sign sign.Minus ∷ Sign sign.Close ∷ Sign sign.Comma ∷ Keyword keyword.Where ∷ End
    ∷ Keyword keyword.As ∷ Keyword keyword.From ∷ []
follow rule.Operand =
    Sign sign.Star ∷ Keyword keyword.And ∷ Sign sign.Plus ∷ Sign sign.Minus ∷ Sign sign.Close ∷ Sign sign.Comma
    ∷ Keyword keyword.Where ∷ End ∷ Keyword keyword.As ∷ Keyword keyword.From ∷ Sign sign.Equal ∷ Sign sign.NotEqual
    ∷ Sign sign.Less ∷ Sign sign.AtMost ∷ Sign sign.Greater ∷ Sign sign.AtLeast ∷ Keyword keyword.Or
    ∷ Keyword keyword.Group ∷ Keyword keyword.Order ∷ Keyword keyword.Limit ∷ []
follow rule.ColumnName =
    Sign sign.Comma ∷ Sign sign.Star ∷ Keyword keyword.Order ∷ Keyword keyword.Limit ∷ End ∷ Keyword keyword.Asc
    ∷ Keyword keyword.Desc ∷ Keyword keyword.And ∷ Sign sign.Plus ∷ Sign sign.Minus ∷ Sign sign.Close
    ∷ Keyword keyword.Where ∷ Keyword keyword.As ∷ Keyword keyword.From ∷ Sign sign.Equal ∷ Sign sign.NotEqual
    ∷ Sign sign.Less ∷ Sign sign.AtMost ∷ Sign sign.Greater ∷ Sign sign.AtLeast ∷ Keyword keyword.Or
    ∷ Keyword keyword.Group ∷ []
follow rule.Qualifier =
    Sign sign.Comma ∷ Sign sign.Star ∷ Keyword keyword.Order ∷ Keyword keyword.Limit ∷ End ∷ Keyword keyword.Asc
    ∷ Keyword keyword.Desc ∷ Keyword keyword.And ∷ Sign sign.Plus ∷ Sign sign.Minus ∷ Sign sign.Close
    ∷ Keyword keyword.Where ∷ Keyword keyword.As ∷ Keyword keyword.From ∷ Sign sign.Equal ∷ Sign sign.NotEqual
    ∷ Sign sign.Less ∷ Sign sign.AtMost ∷ Sign sign.Greater ∷ Sign sign.AtLeast ∷ Keyword keyword.Or
    ∷ Keyword keyword.Group ∷ []
follow rule.Literal =
    Sign sign.Comma ∷ Sign sign.Star ∷ Sign sign.Close ∷ Keyword keyword.And ∷ Sign sign.Plus ∷ Sign sign.Minus
    ∷ Keyword keyword.Where ∷ End ∷ Keyword keyword.As ∷ Keyword keyword.From ∷ Sign sign.Equal ∷ Sign sign.NotEqual
    ∷ Sign sign.Less ∷ Sign sign.AtMost ∷ Sign sign.Greater ∷ Sign sign.AtLeast ∷ Keyword keyword.Or
    ∷ Keyword keyword.Group ∷ Keyword keyword.Order ∷ Keyword keyword.Limit ∷ []
follow rule.Condition =
    End ∷ Sign sign.Close ∷ Keyword keyword.Group ∷ Keyword keyword.Order ∷ Keyword keyword.Limit ∷ []
follow rule.MoreConjunctions =
    End ∷ Sign sign.Close ∷ Keyword keyword.Group ∷ Keyword keyword.Order ∷ Keyword keyword.Limit ∷ []
follow rule.Conjunction =
    Keyword keyword.Or ∷ End ∷ Sign sign.Close ∷ Keyword keyword.Group ∷ Keyword keyword.Order ∷ Keyword keyword.Limit
    ∷ []
follow rule.MoreNegations =
    Keyword keyword.Or ∷ End ∷ Sign sign.Close ∷ Keyword keyword.Group ∷ Keyword keyword.Order ∷ Keyword keyword.Limit
    ∷ []
follow rule.Negation =
    Keyword keyword.And ∷ Keyword keyword.Or ∷ End ∷ Sign sign.Close ∷ Keyword keyword.Group ∷ Keyword keyword.Order
    ∷ Keyword keyword.Limit ∷ []
follow rule.Compared =
    Keyword keyword.And ∷ Keyword keyword.Or ∷ End ∷ Sign sign.Close ∷ Keyword keyword.Group ∷ Keyword keyword.Order
    ∷ Keyword keyword.Limit ∷ []
follow rule.SnapshotChoice = End ∷ []
follow rule.Argument = Sign sign.Comma ∷ Sign sign.Close ∷ []
follow rule.LabelChoice = End ∷ []

-- a bound on the steps before a rule takes a token or is over: above that of the rules that it may begin with
abbrev pub level : Rule → ℕ
level (rule.MoreColumns room) = 2
level rule.Where = 2
level rule.Selected = 11
level rule.Query = 10
level rule.List = 9
level rule.Output = 8
level rule.OutputValue = 7
level rule.Counted = 7
level rule.OutputName = 2
level rule.Clauses = 8
level rule.Key = 2
level rule.SortDirection = 2
level rule.Value = 6
level rule.Expression = 5
level rule.Term = 4
level rule.Factor = 3
level rule.Operand = 2
level rule.Qualifier = 2
level rule.Condition = 5
level rule.Conjunction = 4
level rule.Negation = 3
level rule.SnapshotChoice = 2
level rule.LabelChoice = 2
level _ = 1

-- the index of the right side that goes on with a class: the last where none does
abbrev pub choice : Rule → Class → ℕ
choice rule.Sentence (Keyword keyword.Create) = 0
choice rule.Sentence (Keyword keyword.Insert) = 1
choice rule.Sentence (Keyword keyword.Update) = 2
choice rule.Sentence (Keyword keyword.Delete) = 3
choice rule.Sentence (Keyword keyword.Select) = 4
choice rule.Sentence (Keyword keyword.Commit) = 5
choice rule.Sentence (Keyword keyword.Rollback) = 6
choice rule.Sentence (Keyword keyword.CollateData) = 7
choice rule.Sentence (Keyword keyword.AggregateDataInVariable) = 8
choice rule.Sentence (Keyword keyword.AggregateDataInTable) = 9
choice rule.Sentence (Keyword keyword.CollateDataIntoIntervals) = 10
choice rule.Sentence _ = 11
choice rule.Created (Keyword keyword.Table) = 0
choice rule.Created _ = 1
choice rule.Kind (Keyword keyword.Int) = 0
choice rule.Kind _ = 1
choice (rule.MoreColumns room) (Sign sign.Comma) = 0
choice (rule.MoreColumns room) _ = 1
choice rule.MoreValues (Sign sign.Comma) = 0
choice rule.MoreValues _ = 1
choice rule.MoreTuples (Sign sign.Comma) = 0
choice rule.MoreTuples _ = 1
choice rule.MoreAssignments (Sign sign.Comma) = 0
choice rule.MoreAssignments _ = 1
choice rule.Where (Keyword keyword.Where) = 0
choice rule.Where _ = 1
choice rule.Selected (Keyword keyword.As) = 0
choice rule.Selected _ = 1
choice rule.Query (Keyword keyword.Distinct) = 0
choice rule.Query _ = 1
choice rule.List (Sign sign.Star) = 0
choice rule.List _ = 1
choice rule.MoreOutputs (Sign sign.Comma) = 0
choice rule.MoreOutputs _ = 1
choice rule.OutputValue (Keyword keyword.Count) = 0
choice rule.OutputValue (Keyword keyword.Sum) = 1
choice rule.OutputValue (Keyword keyword.Min) = 2
choice rule.OutputValue (Keyword keyword.Max) = 3
choice rule.OutputValue _ = 4
choice rule.Counted (Sign sign.Star) = 0
choice rule.Counted _ = 1
choice rule.OutputName (Keyword keyword.As) = 0
choice rule.OutputName _ = 1
choice rule.Second (Sign sign.Comma) = 0
choice rule.Second _ = 1
choice rule.Grouping (Keyword keyword.Group) = 0
choice rule.Grouping _ = 1
choice rule.MoreGroups (Sign sign.Comma) = 0
choice rule.MoreGroups _ = 1
choice rule.Ordering (Keyword keyword.Order) = 0
choice rule.Ordering _ = 1
choice rule.MoreKeys (Sign sign.Comma) = 0
choice rule.MoreKeys _ = 1
choice rule.SortDirection (Keyword keyword.Asc) = 0
choice rule.SortDirection (Keyword keyword.Desc) = 1
choice rule.SortDirection _ = 2
choice rule.Limit (Keyword keyword.Limit) = 0
choice rule.Limit _ = 1
choice rule.MoreTerms (Sign sign.Plus) = 0
choice rule.MoreTerms (Sign sign.Minus) = 1
choice rule.MoreTerms _ = 2
choice rule.MoreFactors (Sign sign.Star) = 0
choice rule.MoreFactors _ = 1
choice rule.Factor (Sign sign.Open) = 0
choice rule.Factor _ = 1
choice rule.Operand (Keyword keyword.CurrentSnapshot) = 0
choice rule.Operand Name = 1
choice rule.Operand _ = 2
choice rule.Qualifier (Sign sign.Dot) = 0
choice rule.Qualifier _ = 1
choice rule.Literal Integer = 0
choice rule.Literal (Sign sign.Minus) = 1
choice rule.Literal ShortText = 2
choice rule.Literal _ = 3
choice rule.MoreConjunctions (Keyword keyword.Or) = 0
choice rule.MoreConjunctions _ = 1
choice rule.MoreNegations (Keyword keyword.And) = 0
choice rule.MoreNegations _ = 1
choice rule.Negation (Keyword keyword.Not) = 0
choice rule.Negation (Sign sign.Open) = 1
choice rule.Negation _ = 2
choice rule.Compared (Sign sign.Equal) = 0
choice rule.Compared (Sign sign.NotEqual) = 1
choice rule.Compared (Sign sign.Less) = 2
choice rule.Compared (Sign sign.AtMost) = 3
choice rule.Compared (Sign sign.Greater) = 4
choice rule.Compared _ = 5
choice rule.SnapshotChoice (Keyword keyword.With) = 0
choice rule.SnapshotChoice _ = 1
choice rule.Argument ShortText = 0
choice rule.Argument Text = 1
choice rule.Argument _ = 2
choice rule.LabelChoice ShortText = 0
choice rule.LabelChoice _ = 1
choice _ _ = 0

-- the number of a rule, in the order in which they are looked at
abbrev pub place : Rule → ℕ
place rule.Sentence = 0
place rule.Created = 1
place rule.Column = 2
place rule.Kind = 3
place (rule.MoreColumns room) = 4
place rule.Tuple = 5
place rule.MoreValues = 6
place rule.MoreTuples = 7
place rule.Assignment = 8
place rule.MoreAssignments = 9
place rule.Where = 10
place rule.Selected = 11
place rule.Query = 12
place rule.List = 13
place rule.MoreOutputs = 14
place rule.Output = 15
place rule.OutputValue = 16
place rule.Counted = 17
place rule.OutputName = 18
place rule.Clauses = 19
place rule.Second = 20
place rule.Grouping = 21
place rule.MoreGroups = 22
place rule.Ordering = 23
place rule.MoreKeys = 24
place rule.Key = 25
place rule.SortDirection = 26
place rule.Limit = 27
place rule.Value = 28
place rule.Expression = 29
place rule.MoreTerms = 30
place rule.Term = 31
place rule.MoreFactors = 32
place rule.Factor = 33
place rule.Operand = 34
place rule.ColumnName = 35
place rule.Qualifier = 36
place rule.Literal = 37
place rule.Condition = 38
place rule.MoreConjunctions = 39
place rule.Conjunction = 40
place rule.MoreNegations = 41
place rule.Negation = 42
place rule.Compared = 43
place rule.SnapshotChoice = 44
place rule.Argument = 45
place rule.LabelChoice = 46

-- the right side at an index, and the last behind the end
abbrev pub pick : ℕ → List (List Symbol) → List Symbol
pick n [] = []
pick n (side ∷ []) = side
pick zero (side ∷ more ∷ rest) = side
pick (suc n) (side ∷ more ∷ rest) = pick n (more ∷ rest)

-- what a rule stands for where a token of the class comes next
abbrev pub expansion : Rule → Class → List Symbol
expansion r k = pick (choice r k) (sides r)
