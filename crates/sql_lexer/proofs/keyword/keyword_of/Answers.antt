use Rattle.std.proofs.Common.{◌≡◌, ◌≢◌, ℕ, List, length, Option, None, IfNone, subst}
use Rattle.std.specs.Prelude.{All}
use Rattle.std.specs.Str.{str_to_ascii_uppercase}
use Rattle.std.proofs.lemmas.List.{length-map}
use Rattle.sql_lexer.specs.declared.token.Keyword.{Keyword}
use Rattle.sql_lexer.specs.Token.{keywords_of, spelling}
use Rattle.sql_lexer.proofs.Keywords.{each_differs}
use Rattle.sql_lexer.proofs.keyword.keyword_of.Goals as goal

every : (word : List ℕ) (ks : List Keyword) (r : Option Keyword) → ks ≡ keywords_of (length word) → IfNone r (All (λ k. str_to_ascii_uppercase word ≢ spelling k) ks)
    → IfNone r ((k : Keyword) → str_to_ascii_uppercase word ≢ spelling k)
every word ks None e h =
    let Q : List Keyword → Type 0 = λ x. All (λ k. str_to_ascii_uppercase word ≢ spelling k) x in
    each_differs (str_to_ascii_uppercase word) (length word) (length-map word _) (subst Q e h)
every word ks _ e h = tt

pub returns-clause-none : goal.returns-clause-none
returns-clause-none c = every _ _ _ c.keywords_of.ensures c.keyword_among.ensures.none
