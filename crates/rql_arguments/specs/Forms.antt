-- The forms of the arguments of a call.
use Rattle.std.specs.Prelude.{◌≡◌, ◌≤◌, ◌++◌, ◌&&◌, ℕ, Bool, true, false, IsTrue, Option, Some}
use Rattle.std.specs.Prelude.{None, List, [], ◌∷◌, codes, length, nat_eq, nat_le, if◌then◌else◌}
use Rattle.std.specs.List.{list_all, starts_with}
use Rattle.std.specs.Str.{bytes_eq, str_eq_ignore_ascii_case}
use Rattle.retro_base.specs.declared.limits.TheConstants.{LINE_BYTES}
use Rattle.rql.specs.declared.function.Function.{Function}
use Rattle.rql.specs.declared.function.Function.TheVariants as function
use Rattle.rql.specs.declared.pair.Pair.{Pair}
use Rattle.sql_lexer.specs.Lexes.{Lexes}
use Rattle.sql_lexer.specs.declared.token.Ending.TheVariants.{Whole}
use Rattle.sql_lexer.specs.declared.token.Keyword.{Keyword}
use Rattle.sql_lexer.specs.declared.token.Keyword.TheVariants as keyword
use Rattle.sql_lexer.specs.declared.token.Placed.{Placed}
use Rattle.sql_lexer.specs.declared.token.Sign.TheVariants as sign
use Rattle.sql_lexer.specs.declared.token.Token.{Token}
use Rattle.sql_lexer.specs.declared.token.Token.TheVariants as token
use Rattle.sql_parts.specs.declared.parsed.Parsed.TheVariants as parsed
use Rattle.sql_text.specs.Line.{Spells}
use Rattle.sql_text.specs.Places.{tokens_of}
use Rattle.values.specs.Name.{continues_word}
use Rattle.sql_tree.specs.declared.select.Select.{Select}
use Rattle.sql_tree.specs.declared.statement.Statement.TheVariants as statement

-- a select without AS OF; a text stands in a line, so that it is no longer than one
abbrev pub IsQuery : List ℕ → Select → Type 0
IsQuery text query = (length text ≤ LINE_BYTES) × Spells text (parsed.Plain (statement.Select query))

-- the tokens begin with the words `SELECT snap_id FROM SnapIds`
abbrev pub lists_snapshots : List Token → Bool
lists_snapshots
    (token.Keyword keyword.Select ∷ token.Name column ∷ token.Keyword keyword.From ∷ token.Name table ∷ more) =
    bytes_eq column (codes "snap_id") && bytes_eq table (codes "SnapIds")
lists_snapshots tokens = false

-- `SELECT snap_id FROM SnapIds`, with WHERE, ORDER BY and LIMIT or without them, and nothing else
pub record IsSnapshotQuery (text : List ℕ) (query : Select) : Type 0 where
  pub says : IsQuery text query
  pub begins : (tokens : List Placed) × Lexes 0 text tokens Whole × IsTrue (lists_snapshots (tokens_of tokens))
  pub alone : query.second ≡ None
  pub ungrouped : query.group_by ≡ []

-- a word of up to 32 bytes that begins with `rql_`, and nothing else
abbrev pub is_result_word : List ℕ → Bool
is_result_word text = nat_le (length text) 32 && starts_with nat_eq text (codes "rql_") && list_all continues_word text

-- the function that a word names, in any case
abbrev pub function_named : List ℕ → Option Function
function_named text =
    if str_eq_ignore_ascii_case text (codes "MIN") then Some function.Min
    else (if str_eq_ignore_ascii_case text (codes "MAX") then Some function.Max
    else (if str_eq_ignore_ascii_case text (codes "SUM") then Some function.Sum
    else (if str_eq_ignore_ascii_case text (codes "COUNT") then Some function.Count else None)))

abbrev pub function_keyword : Function → Keyword
function_keyword function.Min = keyword.Min
function_keyword function.Max = keyword.Max
function_keyword function.Sum = keyword.Sum
function_keyword function.Count = keyword.Count

-- `( column , function )`
abbrev pub pair_tokens : Pair → List Token
pair_tokens pair =
    token.Sign sign.Open ∷ token.Name pair.column ∷ token.Sign sign.Comma ∷ token.Keyword
    (function_keyword pair.function) ∷ token.Sign sign.Close ∷ []

-- pairs with commas between
abbrev pub pairs_tokens : List Pair → List Token
pairs_tokens [] = []
pairs_tokens (pair ∷ []) = pair_tokens pair
pairs_tokens (pair ∷ next ∷ pairs) = pair_tokens pair ++ token.Sign sign.Comma ∷ pairs_tokens (next ∷ pairs)

-- one pair or more
abbrev pub ArePairs : List ℕ → List Pair → Type 0
ArePairs text pairs =
    (1 ≤ length pairs) × ((tokens : List Placed) × Lexes 0 text tokens Whole × (tokens_of tokens ≡ pairs_tokens pairs))
