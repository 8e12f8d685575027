-- What a statement line that the grammar refuses is, by its first tokens.
use Rattle.std.specs.Prelude.{◌+◌, ◌&&◌, ◌||◌, ℕ, Bool, true, false, List, Option, Some}
use Rattle.std.specs.Prelude.{None, drop, slice_get, nat_eq, codes, if◌then◌else◌}
use Rattle.std.specs.List.{position_or_len, starts_with}
use Rattle.std.specs.Option.{option_and_then, option_map_or}
use Rattle.std.specs.Str.{bytes_eq}
use Rattle.sql_lexer.specs.declared.token.Keyword.{Keyword}
use Rattle.sql_lexer.specs.declared.token.Keyword.TheVariants as keyword
use Rattle.sql_lexer.specs.declared.token.Placed.{Placed}
use Rattle.sql_lexer.specs.declared.token.Token.{Token}
use Rattle.sql_lexer.specs.declared.token.Token.TheVariants as token
use Rattle.script.specs.declared.class.Class.{Class}
use Rattle.script.specs.declared.class.Class.TheVariants.{Statement, End, Single}

-- the keyword that a token is
abbrev pub keyword_of : Token → Option Keyword
keyword_of (token.Keyword k) = Some k
keyword_of t = None

-- the keyword at a place among the tokens
abbrev pub keyword_at : List Placed → ℕ → Option Keyword
keyword_at tokens place = option_and_then (λ t. keyword_of t.token) (slice_get tokens place)

-- the keyword FROM
abbrev pub is_from : Option Keyword → Bool
is_from (Some keyword.From) = true
is_from k = false

-- the keyword AS
abbrev pub is_as : Option Keyword → Bool
is_as (Some keyword.As) = true
is_as k = false

-- the keyword OF
abbrev pub is_of : Option Keyword → Bool
is_of (Some keyword.Of) = true
is_of k = false

-- the keyword SNAPSHOTS
abbrev pub is_snapshots : Option Keyword → Bool
is_snapshots (Some keyword.Snapshots) = true
is_snapshots k = false

-- the name of the table of snapshots
abbrev pub is_snap_ids : List ℕ → Bool
is_snap_ids name = bytes_eq name (codes "SnapIds")

-- a name of a result table begins with `rql_`
abbrev pub is_result_name : List ℕ → Bool
is_result_name name = starts_with nat_eq name (codes "rql_")

-- a table that is none of the store's
abbrev pub is_own_table : List ℕ → Bool
is_own_table name = is_snap_ids name || is_result_name name

-- whether the token at this place of the text is such a table's name; a word of more than 32 bytes is read in the text,
-- and is never `SnapIds`
abbrev pub names_own_table : List ℕ → ℕ → Token → Bool
names_own_table text place (token.Name name) = is_own_table name
names_own_table text place token.LongWord = is_result_name (drop place text)
names_own_table text place t = false

-- whether the name of such a table stands right behind the first FROM
abbrev pub reads_own_table : List ℕ → List Placed → Bool
reads_own_table text tokens =
    let from = position_or_len (λ t. is_from (keyword_of t.token)) tokens in
    option_map_or (λ t. names_own_table text t.place t.token) (slice_get tokens (from + 1)) false

-- what such a line is, by its first keyword
abbrev pub class_behind : List ℕ → List Placed → Option Keyword → Class
class_behind text tokens (Some keyword.Commit) = End
class_behind text tokens (Some keyword.Rollback) = End
class_behind text tokens (Some keyword.CollateData) = Single
class_behind text tokens (Some keyword.AggregateDataInVariable) = Single
class_behind text tokens (Some keyword.AggregateDataInTable) = Single
class_behind text tokens (Some keyword.CollateDataIntoIntervals) = Single
class_behind text tokens (Some keyword.Drop) = if is_snapshots (keyword_at tokens 1) then Single else Statement
class_behind text tokens (Some keyword.Select) =
    if (is_as (keyword_at tokens 1) && is_of (keyword_at tokens 2)) || reads_own_table text tokens then Single
    else Statement
class_behind text tokens first = Statement

-- what such a line is, by its text and tokens
abbrev pub class_of : List ℕ → List Placed → Class
class_of text tokens = class_behind text tokens (keyword_at tokens 0)
