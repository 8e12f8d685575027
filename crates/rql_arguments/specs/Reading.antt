-- What the parts of the reading give. No promise cites it.
use Rattle.std.specs.Prelude.{◌≡◌, ◌++◌, ◌==◌, ◌&&◌, ℕ, Bool, true, false, Option, Some, None}
use Rattle.std.specs.Prelude.{List, [], ◌∷◌, MatchOption, is_none, length, if◌then◌else◌}
use Rattle.rql.specs.declared.function.Function.{Function}
use Rattle.rql.specs.declared.function.Function.TheVariants as function
use Rattle.rql.specs.declared.pair.Pair.{Pair}
use Rattle.sql_lexer.specs.declared.token.Ending.{Ending}
use Rattle.sql_lexer.specs.declared.token.Ending.TheVariants as ending
use Rattle.sql_lexer.specs.declared.token.Keyword.TheVariants as keyword
use Rattle.sql_lexer.specs.declared.token.Lexed.{Lexed}
use Rattle.sql_lexer.specs.declared.token.Sign.TheVariants as sign
use Rattle.sql_lexer.specs.declared.token.Token.{Token}
use Rattle.sql_lexer.specs.declared.token.Token.TheVariants as token
use Rattle.sql_parts.specs.declared.parsed.Parsed.{Parsed}
use Rattle.sql_parts.specs.declared.parsed.Parsed.TheVariants as parsed
use Rattle.sql_text.specs.Places.{tokens_of}
use Rattle.sql_tree.specs.declared.select.Select.{Select}
use Rattle.sql_tree.specs.declared.statement.Statement.TheVariants as statement
use Rattle.rql_arguments.specs.Forms.{lists_snapshots}

-- this is what is said, and nothing else is
abbrev pub IsOnly : {X : Type 0} → (X → Type 0) → X → Type 0
IsOnly Says x = Says x × ((other : _) → Says other → other ≡ x)

-- nothing is said
abbrev pub SaysNone : {X : Type 0} → (X → Type 0) → Type 0
SaysNone Says = (other : _) → ¬ Says other

-- the one thing that is said, or that none is
abbrev pub Finds : {X : Type 0} → (X → Type 0) → Option X → Type 0
Finds Says found = MatchOption found (SaysNone Says) (IsOnly Says)

-- the select that a line is
abbrev pub select_of : Parsed → Option Select
select_of (parsed.Plain (statement.Select query)) = Some query
select_of other = None

abbrev pub is_whole : Ending → Bool
is_whole ending.Whole = true
is_whole e = false

-- the tokens are whole and begin as a select of snapshots does, and it has no second table and no groups
abbrev pub lists_only : Lexed → Select → Bool
lists_only lexed query =
    is_whole lexed.ending && lists_snapshots (tokens_of lexed.tokens) && is_none query.second
    && (length query.group_by == 0)

abbrev pub is_open : Token → Bool
is_open (token.Sign sign.Open) = true
is_open t = false

abbrev pub is_comma : Token → Bool
is_comma (token.Sign sign.Comma) = true
is_comma t = false

abbrev pub is_close : Token → Bool
is_close (token.Sign sign.Close) = true
is_close t = false

abbrev pub function_of : Token → Option Function
function_of (token.Keyword keyword.Min) = Some function.Min
function_of (token.Keyword keyword.Max) = Some function.Max
function_of (token.Keyword keyword.Sum) = Some function.Sum
function_of (token.Keyword keyword.Count) = Some function.Count
function_of t = None

-- the pair of a name and a function
abbrev pub paired : Token → Option Function → Option Pair
paired (token.Name column) (Some f) = Some (record { column = column; function = f })
paired t f = None

-- the pair that five tokens are
abbrev pub pair_of : Token → Token → Token → Token → Token → Option Pair
pair_of a b c d e = if is_open a && is_comma c && is_close e then paired b (function_of d) else None

abbrev pub one_pair : Option Pair → Option (List Pair)
one_pair None = None
one_pair (Some pair) = Some (pair ∷ [])

-- a pair, and the pairs behind its comma
abbrev pub joined : Option Pair → Bool → Option (List Pair) → Option (List Pair)
joined (Some pair) true (Some pairs) = Some (pair ∷ pairs)
joined pair comma pairs = None

-- the pairs that tokens are
abbrev pub pairs_of : List Token → Option (List Pair)
pairs_of (a ∷ b ∷ c ∷ d ∷ e ∷ []) = one_pair (pair_of a b c d e)
pairs_of (a ∷ b ∷ c ∷ d ∷ e ∷ t ∷ more) = joined (pair_of a b c d e) (is_comma t) (pairs_of more)
pairs_of tokens = None

-- the pairs behind these
abbrev pub behind : List Pair → Option (List Pair) → Option (List Pair)
behind before None = None
behind before (Some pairs) = Some (before ++ pairs)
