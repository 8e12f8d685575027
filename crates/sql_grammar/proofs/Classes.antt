-- A number for each class, to compare classes by.
use Rattle.std.proofs.Common.{◌≡◌, ◌∙◌, ◌+◌, ◌==◌, ℕ, true, Some, List, [], ◌∷◌, refl, sym, ap}
use Rattle.std.proofs.lemmas.Bool.{eqb-true}
use Rattle.sql_lexer.specs.declared.token.Keyword.{Keyword}
use Rattle.sql_lexer.specs.declared.token.Keyword.TheVariants as keyword
use Rattle.sql_lexer.specs.declared.token.Sign.{Sign}
use Rattle.sql_lexer.specs.declared.token.Sign.TheVariants as sign
use Rattle.sql_parts.proofs.Common.{nth, some_injective}
use Rattle.sql_grammar.specs.declared.grammar.Class.{Class}
use Rattle.sql_grammar.specs.declared.grammar.Class.TheVariants as class

abbrev keyword_number : Keyword → ℕ
keyword_number keyword.AggregateDataInTable = 0
keyword_number keyword.AggregateDataInVariable = 1
keyword_number keyword.And = 2
keyword_number keyword.As = 3
keyword_number keyword.Asc = 4
keyword_number keyword.Below = 5
keyword_number keyword.By = 6
keyword_number keyword.CollateData = 7
keyword_number keyword.CollateDataIntoIntervals = 8
keyword_number keyword.Commit = 9
keyword_number keyword.Count = 10
keyword_number keyword.Create = 11
keyword_number keyword.CurrentSnapshot = 12
keyword_number keyword.Delete = 13
keyword_number keyword.Desc = 14
keyword_number keyword.Distinct = 15
keyword_number keyword.Drop = 16
keyword_number keyword.From = 17
keyword_number keyword.Group = 18
keyword_number keyword.Index = 19
keyword_number keyword.Insert = 20
keyword_number keyword.Int = 21
keyword_number keyword.Into = 22
keyword_number keyword.Limit = 23
keyword_number keyword.Max = 24
keyword_number keyword.Min = 25
keyword_number keyword.Not = 26
keyword_number keyword.Of = 27
keyword_number keyword.On = 28
keyword_number keyword.Or = 29
keyword_number keyword.Order = 30
keyword_number keyword.Rollback = 31
keyword_number keyword.Select = 32
keyword_number keyword.Set = 33
keyword_number keyword.Snapshot = 34
keyword_number keyword.Snapshots = 35
keyword_number keyword.Sum = 36
keyword_number keyword.Table = 37
keyword_number keyword.Text = 38
keyword_number keyword.Update = 39
keyword_number keyword.Values = 40
keyword_number keyword.Where = 41
keyword_number keyword.With = 42

abbrev sign_number : Sign → ℕ
sign_number sign.Open = 0
sign_number sign.Close = 1
sign_number sign.Comma = 2
sign_number sign.Dot = 3
sign_number sign.Star = 4
sign_number sign.Plus = 5
sign_number sign.Minus = 6
sign_number sign.Equal = 7
sign_number sign.NotEqual = 8
sign_number sign.Less = 9
sign_number sign.AtMost = 10
sign_number sign.Greater = 11
sign_number sign.AtLeast = 12

abbrev pub number : Class → ℕ
number class.Name = 0
number class.LongWord = 1
number class.Integer = 2
number class.BigInteger = 3
number class.ShortText = 4
number class.Text = 5
number class.LongText = 6
number class.End = 7
number (class.Keyword k) = 8 + keyword_number k
number (class.Sign s) = 51 + sign_number s

-- the classes by their numbers
abbrev classes : List Class
classes =
    class.Name ∷ class.LongWord ∷ class.Integer ∷ class.BigInteger ∷ class.ShortText ∷ class.Text ∷ class.LongText ∷
    class.End ∷ class.Keyword keyword.AggregateDataInTable ∷ class.Keyword keyword.AggregateDataInVariable ∷
    class.Keyword keyword.And ∷ class.Keyword keyword.As ∷ class.Keyword keyword.Asc ∷ class.Keyword keyword.Below ∷
    class.Keyword keyword.By ∷ class.Keyword keyword.CollateData ∷ class.Keyword keyword.CollateDataIntoIntervals ∷
    class.Keyword keyword.Commit ∷ class.Keyword keyword.Count ∷ class.Keyword keyword.Create ∷
    class.Keyword keyword.CurrentSnapshot ∷ class.Keyword keyword.Delete ∷ class.Keyword keyword.Desc ∷
    class.Keyword keyword.Distinct ∷ class.Keyword keyword.Drop ∷ class.Keyword keyword.From ∷
    class.Keyword keyword.Group ∷ class.Keyword keyword.Index ∷ class.Keyword keyword.Insert ∷
    class.Keyword keyword.Int ∷ class.Keyword keyword.Into ∷ class.Keyword keyword.Limit ∷
    class.Keyword keyword.Max ∷ class.Keyword keyword.Min ∷ class.Keyword keyword.Not ∷ class.Keyword keyword.Of ∷
    class.Keyword keyword.On ∷ class.Keyword keyword.Or ∷ class.Keyword keyword.Order ∷
    class.Keyword keyword.Rollback ∷ class.Keyword keyword.Select ∷ class.Keyword keyword.Set ∷
    class.Keyword keyword.Snapshot ∷ class.Keyword keyword.Snapshots ∷ class.Keyword keyword.Sum ∷
    class.Keyword keyword.Table ∷ class.Keyword keyword.Text ∷ class.Keyword keyword.Update ∷
    class.Keyword keyword.Values ∷ class.Keyword keyword.Where ∷ class.Keyword keyword.With ∷ class.Sign sign.Open ∷
    class.Sign sign.Close ∷ class.Sign sign.Comma ∷ class.Sign sign.Dot ∷ class.Sign sign.Star ∷
    class.Sign sign.Plus ∷ class.Sign sign.Minus ∷ class.Sign sign.Equal ∷ class.Sign sign.NotEqual ∷
    class.Sign sign.Less ∷ class.Sign sign.AtMost ∷ class.Sign sign.Greater ∷ class.Sign sign.AtLeast ∷ []

class_back : (k : Class) → nth (number k) classes ≡ Some k
class_back class.End = refl
class_back (class.Keyword keyword.And) = refl
class_back (class.Sign sign.Open) = refl
class_back _ = refl

-- two classes with one number are one
pub same_class : (a b : Class) → (number a == number b) ≡ true → a ≡ b
same_class a b e = some_injective (sym (class_back a) ∙ (ap (λ n. nth n classes) (eqb-true (number a) (number b) e) ∙ class_back b))
