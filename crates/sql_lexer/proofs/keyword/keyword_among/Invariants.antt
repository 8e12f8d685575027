use Rattle.std.proofs.Common.{◌≢◌, ℕ, ◌<◌, get_or}
use Rattle.std.specs.Str.{str_to_ascii_uppercase}
use Rattle.sql_lexer.specs.declared.token.Keyword.{Keyword}
use Rattle.sql_lexer.specs.Token.{spelling}
use Rattle.sql_lexer.proofs.keyword.keyword_among.Given as goal

abbrev pub invariant-loop-keyword : goal.invariant-loop-keyword
invariant-loop-keyword l = (k : ℕ) (d : Keyword) → k < l.keyword-index → str_to_ascii_uppercase l.word ≢ spelling (get_or l.keywords k d)
