-- Words in capitals and in small letters.
use Rattle.std.proofs.Common.{◌≡◌, ◌∙◌, ℕ, List, [], ◌∷◌, map, refl, sym, ap, arith}
use Rattle.std.specs.Char.{to_ascii_lowercase, to_ascii_uppercase}
use Rattle.std.proofs.lemmas.Bool.Decides.{nat_tests}
use Rattle.sql_lexer.specs.declared.token.Keyword.{Keyword}
use Rattle.sql_lexer.specs.declared.token.Keyword.TheVariants as keyword
use Rattle.sql_lexer.specs.Token.{spelling}

upper_lower : (b : ℕ) → to_ascii_uppercase (to_ascii_lowercase b) ≡ to_ascii_uppercase b
upper_lower b = grind (arith, nat_tests)

lower_upper : (b : ℕ) → to_ascii_lowercase (to_ascii_uppercase b) ≡ to_ascii_lowercase b
lower_upper b = grind (arith, nat_tests)

twice : (f g : ℕ → ℕ) → ((b : ℕ) → f (g b) ≡ f b) → (bs : List ℕ) → map f (map g bs) ≡ map f bs
twice f g same [] = refl
twice f g same (b ∷ bs) = ap (λ x. x ∷ map f (map g bs)) (same b) ∙ ap (λ xs. f b ∷ xs) (twice f g same bs)

capitals : (k : Keyword) → map to_ascii_uppercase (spelling k) ≡ spelling k
capitals keyword.And = refl
capitals _ = refl

-- a word that is a keyword's but for the case is its spelling in capitals
pub spelt_in_capitals : (word : List ℕ) (k : Keyword) → map to_ascii_lowercase word ≡ map to_ascii_lowercase (spelling k) → map to_ascii_uppercase word ≡ spelling k
spelt_in_capitals word k same =
    sym (twice to_ascii_uppercase to_ascii_lowercase upper_lower word) ∙ ap (map to_ascii_uppercase) same
    ∙ twice to_ascii_uppercase to_ascii_lowercase upper_lower (spelling k) ∙ capitals k

pub spelt_in_any_case : (word : List ℕ) (k : Keyword) → map to_ascii_uppercase word ≡ spelling k → map to_ascii_lowercase word ≡ map to_ascii_lowercase (spelling k)
spelt_in_any_case word k same =
    sym (twice to_ascii_lowercase to_ascii_uppercase lower_upper word) ∙ ap (map to_ascii_lowercase) same
