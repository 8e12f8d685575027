-- The tokens of a line stand in it.
use Rattle.std.proofs.Common.{◌≡◌, ◌<◌, ◌+◌, ◌∷◌, [], ◌∙◌, ℕ, suc, List, length, ap, subst, arith}
use Rattle.sql_lexer.specs.declared.token.Ending.{Ending}
use Rattle.sql_lexer.specs.declared.token.Placed.{Placed}
use Rattle.sql_lexer.specs.declared.token.Sign.{Sign}
use Rattle.sql_lexer.specs.declared.token.Sign.TheVariants as sign
use Rattle.sql_lexer.specs.declared.token.Token.{Token}
use Rattle.sql_lexer.specs.declared.token.Token.TheVariants as token'
use Rattle.sql_lexer.specs.Lexes.{IsBadAt, Lexes, inside, outside, bad_byte, blank, token, unclosed, whole}
use Rattle.sql_lexer.specs.Token.{doubled, sign_bytes, Spells}
use Rattle.sql_text.specs.Places.{AllBefore, BadBefore}
use Rattle.sql_text.proofs.Placing.{length-append}

some_bytes : (bytes : List ℕ) (b : ℕ) (rest : List ℕ) → bytes ≡ b ∷ rest → 0 < length bytes
some_bytes bytes b rest e = omega (arith, ap length e)

some_sign : (s : Sign) → 0 < length (sign_bytes s)
some_sign sign.Open = omega arith
some_sign _ = omega arith

-- a token has a byte
some_spelt : (bytes : List ℕ) (t : Token) → Spells bytes t → 0 < length bytes
some_spelt (b ∷ bytes) t s = omega arith
some_spelt [] (token'.Keyword k) s = absurd s.0
some_spelt [] (token'.Name name) s = absurd s.0
some_spelt [] token'.LongWord s = absurd s.0
some_spelt [] (token'.Integer n) s = absurd s.0
some_spelt [] token'.BigInteger s = absurd s.0
some_spelt [] (token'.Text text) s = some_bytes [] _ _ s.0
some_spelt [] (token'.LongText text) s = some_bytes [] _ _ s.0
some_spelt [] (token'.Sign k) s = omega (arith, ap length s, some_sign k)

bad_before : {offset : ℕ} {bytes : List ℕ} → IsBadAt offset bytes → offset < length bytes
bad_before (outside b never) = omega arith
bad_before (inside {bytes} text b rest all bad e) = omega (arith, ap length e ∙ ap suc (length-append (doubled text) (b ∷ rest)))

further : (a b : ℕ) (ts : List Placed) (ending : Ending) → a ≡ b → AllBefore a ts × BadBefore a ending → AllBefore b ts × BadBefore b ending
further a b ts ending e h = let P : ℕ → Type 0 = λ n. AllBefore n ts × BadBefore n ending in subst P e h

stand_before : {place : ℕ} {bytes : List ℕ} {tokens : List Placed} {ending : Ending} → Lexes place bytes tokens ending → AllBefore (place + length bytes) tokens × BadBefore (place + length bytes) ending
stand_before whole = (tt, tt)
stand_before (blank {place} {b} {rest} {tokens} {ending} e d) = further _ _ tokens ending (omega arith) (stand_before d)
stand_before (token {place} {bytes} {tokens} {ending} t spelt rest e s ends d) =
    let long = ap length e ∙ length-append spelt rest in
    let h = further _ (place + length bytes) tokens ending (omega (arith, long)) (stand_before d) in
    ((omega (arith, long, some_spelt spelt t s), h.0), h.1)
stand_before (bad_byte {place} {offset} {bytes} bad) = (tt, omega (arith, bad_before bad))
stand_before (unclosed u) = (tt, tt)

pub stand_in_line : (line : List ℕ) (tokens : List Placed) (ending : Ending) → Lexes 0 line tokens ending → AllBefore (length line) tokens × BadBefore (length line) ending
stand_in_line line tokens ending d = further (0 + length line) (length line) tokens ending (omega arith) (stand_before d)
