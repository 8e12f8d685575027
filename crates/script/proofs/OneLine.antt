-- A line is of one kind.
use Rattle.std.proofs.Common.{◌≡◌, ◌<◌, ◌^◌, ◌∙◌, ℕ, List, [], ◌∷◌, length, ap, sym, inl, inr, arith}
use Rattle.sql_lexer.specs.Lexes.{Lexes, HasOneReading}
use Rattle.sql_lexer.specs.declared.token.Ending.{Ending}
use Rattle.sql_lexer.specs.declared.token.Placed.{Placed}
use Rattle.sql_text.specs.Line.{Spells, SyntaxAt, BrokenLinesSayNothing, LinesBreakAtOnePlace}
use Rattle.sql_text.specs.Places.{AllBefore}
use Rattle.sql_parts.specs.declared.parsed.Parsed.{Parsed}
use Rattle.script.specs.Class.{class_of}
use Rattle.script.specs.Line.{IsOnly, IsStatementLine, parsed_line, refused_line, text_places}
use Rattle.script.specs.declared.class.Class.{Class}
use Rattle.script.specs.declared.line.Line.{Line}

-- where the grammar has the text
pub parsed_is : (text : List ℕ) (tokens : List Placed) (ending : Ending) (places : List ℕ) (p : Parsed) (line : Line) → Lexes 0 text tokens ending → places ≡ text_places tokens → line ≡ parsed_line places p → Spells text p
    → IsStatementLine text line
parsed_is text tokens ending places p line l at e s = (tokens, ending, l, inl (p, s, e ∙ ap (λ ps. parsed_line ps p) at))

pub parsed_only : HasOneReading → BrokenLinesSayNothing → (text : List ℕ) (tokens : List Placed) (ending : Ending) (places : List ℕ) (p : Parsed) (line : Line) → Lexes 0 text tokens ending → places ≡ text_places tokens
    → line ≡ parsed_line places p → Spells text p → ((q : Parsed) → Spells text q → q ≡ p) → IsOnly (IsStatementLine text) line
parsed_only one apart text tokens ending places p line l at i s only other (tokens', ending', l', inl (q, says, e)) =
    let same = one text tokens' tokens ending' ending l' l in
    e ∙ ap (λ ts. parsed_line (text_places ts) q) same.0 ∙ ap (parsed_line (text_places tokens)) (only q says) ∙ sym (i ∙ ap (λ ps. parsed_line ps p) at)
parsed_only one apart text tokens ending places p line l at i s only other (tokens', ending', l', inr (place, broken, e)) = absurd (apart text place p broken s)

-- where the grammar refuses it
pub refused_is : (text : List ℕ) (tokens : List Placed) (ending : Ending) (place : ℕ) (kind : Class) (line : Line) → Lexes 0 text tokens ending → kind ≡ class_of text tokens → line ≡ refused_line kind place → SyntaxAt text place
    → IsStatementLine text line
refused_is text tokens ending place kind line l k e s = (tokens, ending, l, inr (place, s, e ∙ ap (λ x. refused_line x place) k))

pub refused_only : HasOneReading → BrokenLinesSayNothing → LinesBreakAtOnePlace → (text : List ℕ) (tokens : List Placed) (ending : Ending) (place : ℕ) (kind : Class) (line : Line) → Lexes 0 text tokens ending → kind ≡ class_of text tokens
    → line ≡ refused_line kind place → SyntaxAt text place → IsOnly (IsStatementLine text) line
refused_only one apart at_one text tokens ending place kind line l k i s other (tokens', ending', l', inl (q, says, e)) = absurd (apart text place q s says)
refused_only one apart at_one text tokens ending place kind line l k i s other (tokens', ending', l', inr (p, broken, e)) =
    let same = one text tokens' tokens ending' ending l' l in
    e ∙ ap (λ ts. refused_line (class_of text ts) p) same.0 ∙ ap (refused_line (class_of text tokens)) (at_one text p place broken s) ∙ sym (i ∙ ap (λ x. refused_line x place) k)

before_more : (tokens : List Placed) (m n : ℕ) → m < n → AllBefore m tokens → AllBefore n tokens
before_more [] m n h all = tt
before_more (t ∷ tokens) m n h all = (omega (arith, h, all.0), before_more tokens m n h all.1)

-- the tokens of a short line stand at places of a u32
pub short_before : (text : List ℕ) (tokens : List Placed) → AllBefore (length text) tokens → length text < 2 ^ 32 → AllBefore (2 ^ 32) tokens
short_before text tokens all short = before_more tokens (length text) (2 ^ 32) short all
