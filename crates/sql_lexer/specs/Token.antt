-- The tokens by the bytes that spell them.
use Rattle.std.specs.Prelude.{◌≡◌, ◌≢◌, ◌<◌, ◌≤◌, ◌^◌, ◌++◌, ◌||◌, ◌==◌, ℕ, Bool, false, IsTrue}
use Rattle.std.specs.Prelude.{List, [], ◌∷◌, length, pos, codes, flat_map, if◌then◌else◌}
use Rattle.std.specs.Char.{is_ascii_digit}
use Rattle.std.specs.List.{list_all, AllByRecursion}
use Rattle.std.specs.Str.{str_to_ascii_uppercase}
use Rattle.std.specs.Str.Parse.{digits_value}
use Rattle.values.specs.Name.{begins_word, continues_word, IsName}
use Rattle.values.specs.Text.{IsPrintable, IsText}
use Rattle.sql_lexer.specs.declared.token.Keyword.{Keyword}
use Rattle.sql_lexer.specs.declared.token.Keyword.TheVariants as keyword
use Rattle.sql_lexer.specs.declared.token.Sign.{Sign}
use Rattle.sql_lexer.specs.declared.token.Sign.TheVariants as sign
use Rattle.sql_lexer.specs.declared.token.Token.{Token}
use Rattle.sql_lexer.specs.declared.token.Token.TheVariants.{Keyword as KeywordToken, Name, LongWord, Integer}
use Rattle.sql_lexer.specs.declared.token.Token.TheVariants.{BigInteger, Text, LongText, Sign as SignToken}

-- a keyword's word, in capitals
abbrev pub spelling : Keyword → List ℕ
spelling keyword.AggregateDataInTable = codes "AGGREGATEDATAINTABLE"
spelling keyword.AggregateDataInVariable = codes "AGGREGATEDATAINVARIABLE"
spelling keyword.And = codes "AND"
spelling keyword.As = codes "AS"
spelling keyword.Asc = codes "ASC"
spelling keyword.Below = codes "BELOW"
spelling keyword.By = codes "BY"
spelling keyword.CollateData = codes "COLLATEDATA"
spelling keyword.CollateDataIntoIntervals = codes "COLLATEDATAINTOINTERVALS"
spelling keyword.Commit = codes "COMMIT"
spelling keyword.Count = codes "COUNT"
spelling keyword.Create = codes "CREATE"
spelling keyword.CurrentSnapshot = codes "CURRENT_SNAPSHOT"
spelling keyword.Delete = codes "DELETE"
spelling keyword.Desc = codes "DESC"
spelling keyword.Distinct = codes "DISTINCT"
spelling keyword.Drop = codes "DROP"
spelling keyword.From = codes "FROM"
spelling keyword.Group = codes "GROUP"
spelling keyword.Index = codes "INDEX"
spelling keyword.Insert = codes "INSERT"
spelling keyword.Int = codes "INT"
spelling keyword.Into = codes "INTO"
spelling keyword.Limit = codes "LIMIT"
spelling keyword.Max = codes "MAX"
spelling keyword.Min = codes "MIN"
spelling keyword.Not = codes "NOT"
spelling keyword.Of = codes "OF"
spelling keyword.On = codes "ON"
spelling keyword.Or = codes "OR"
spelling keyword.Order = codes "ORDER"
spelling keyword.Rollback = codes "ROLLBACK"
spelling keyword.Select = codes "SELECT"
spelling keyword.Set = codes "SET"
spelling keyword.Snapshot = codes "SNAPSHOT"
spelling keyword.Snapshots = codes "SNAPSHOTS"
spelling keyword.Sum = codes "SUM"
spelling keyword.Table = codes "TABLE"
spelling keyword.Text = codes "TEXT"
spelling keyword.Update = codes "UPDATE"
spelling keyword.Values = codes "VALUES"
spelling keyword.Where = codes "WHERE"
spelling keyword.With = codes "WITH"

-- the keywords whose words have this many bytes
abbrev pub keywords_of : ℕ → List Keyword
keywords_of n =
    if n == 2 then keyword.As ∷ keyword.By ∷ keyword.Of ∷ keyword.On ∷ keyword.Or ∷ []
    else if n == 3 then
    keyword.And ∷ keyword.Asc ∷ keyword.Int ∷ keyword.Max ∷ keyword.Min ∷ keyword.Not ∷ keyword.Set ∷ keyword.Sum ∷ []
    else if n == 4 then keyword.Desc ∷ keyword.Drop ∷ keyword.From ∷ keyword.Into ∷ keyword.Text ∷ keyword.With ∷ []
    else if n == 5 then
    keyword.Below ∷ keyword.Count ∷ keyword.Group ∷ keyword.Index ∷ keyword.Limit ∷ keyword.Order ∷ keyword.Table
    ∷ keyword.Where ∷ []
    else if n == 6 then
    keyword.Commit ∷ keyword.Create ∷ keyword.Delete ∷ keyword.Insert ∷ keyword.Select ∷ keyword.Update
    ∷ keyword.Values ∷ []
    else if n == 8 then keyword.Distinct ∷ keyword.Rollback ∷ keyword.Snapshot ∷ []
    else if n == 9 then keyword.Snapshots ∷ []
    else if n == 11 then keyword.CollateData ∷ []
    else if n == 16 then keyword.CurrentSnapshot ∷ []
    else if n == 20 then keyword.AggregateDataInTable ∷ []
    else if n == 23 then keyword.AggregateDataInVariable ∷ []
    else if n == 24 then keyword.CollateDataIntoIntervals ∷ []
    else []

-- the bytes of a sign
abbrev pub sign_bytes : Sign → List ℕ
sign_bytes sign.Open = codes "("
sign_bytes sign.Close = codes ")"
sign_bytes sign.Comma = codes ","
sign_bytes sign.Dot = codes "."
sign_bytes sign.Star = codes "*"
sign_bytes sign.Plus = codes "+"
sign_bytes sign.Minus = codes "-"
sign_bytes sign.Equal = codes "="
sign_bytes sign.NotEqual = codes "<>"
sign_bytes sign.Less = codes "<"
sign_bytes sign.AtMost = codes "<="
sign_bytes sign.Greater = codes ">"
sign_bytes sign.AtLeast = codes ">="

-- a letter or an underscore, and then letters, digits and underscores
abbrev pub IsWord : List ℕ → Type 0
IsWord [] = ⊥
IsWord (b ∷ bs) = IsTrue (begins_word b) × IsTrue (list_all continues_word bs)

-- one decimal digit or more
abbrev pub IsNumber : List ℕ → Type 0
IsNumber [] = ⊥
IsNumber (b ∷ bs) = IsTrue (list_all is_ascii_digit (b ∷ bs))

-- the byte that begins and ends a text
abbrev pub quote : ℕ
quote = 39

-- a text as it is written between quotes: each quote in it twice
abbrev pub doubled : List ℕ → List ℕ
doubled text = flat_map (λ b. if b == quote then quote ∷ quote ∷ [] else b ∷ []) text

-- a quote, the text and a quote
abbrev pub quoted : List ℕ → List ℕ
quoted text = quote ∷ doubled text ++ quote ∷ []

-- the bytes spell the token
abbrev pub Spells : List ℕ → Token → Type 0
Spells bytes (KeywordToken k) = IsName bytes × (str_to_ascii_uppercase bytes ≡ spelling k)
Spells bytes (Name name) = IsName bytes × ((k : Keyword) → str_to_ascii_uppercase bytes ≢ spelling k) × (name ≡ bytes)
Spells bytes LongWord = IsWord bytes × (32 < length bytes)
Spells bytes (Integer n) = IsNumber bytes × (digits_value 10 bytes < 2 ^ 63) × (n ≡ pos (digits_value 10 bytes))
Spells bytes BigInteger = IsNumber bytes × (2 ^ 63 ≤ digits_value 10 bytes)
Spells bytes (Text text) = (bytes ≡ quoted text) × IsText text
Spells bytes (LongText text) = (bytes ≡ quoted text) × AllByRecursion IsPrintable text × (200 < length text)
Spells bytes (SignToken s) = bytes ≡ sign_bytes s

-- the bytes that would be part of the token, were they to follow it
abbrev pub goes_on : Token → ℕ → Bool
goes_on (KeywordToken k) = continues_word
goes_on (Name name) = continues_word
goes_on LongWord = continues_word
goes_on (Integer n) = is_ascii_digit
goes_on BigInteger = is_ascii_digit
goes_on (Text text) = λ b. b == quote
goes_on (LongText text) = λ b. b == quote
goes_on (SignToken sign.Less) = λ b. (b == 61) || (b == 62)
goes_on (SignToken sign.Greater) = λ b. b == 61
goes_on (SignToken s) = λ b. false
