-- What a line says, or why it says nothing.
use Rattle.std.proofs.Common.{◌≡◌, ◌∙◌, ℕ, List, Bool, true, false, Option, Some, None, length, refl, ap, subst, sym, arith}
use Rattle.retro_base.specs.declared.refusal.Refusal.{Refusal}
use Rattle.retro_base.specs.declared.refusal.Refusal.TheVariants.{OutOfMemory, Syntax}
use Rattle.sql_lexer.specs.declared.token.Ending.{Ending}
use Rattle.sql_lexer.specs.declared.token.Ending.TheVariants.{Whole, Unclosed}
use Rattle.sql_lexer.specs.declared.token.Lexed.{Lexed}
use Rattle.sql_lexer.specs.declared.token.Placed.{Placed}
use Rattle.sql_lexer.specs.declared.token.Token.{Token}
use Rattle.sql_parts.specs.declared.action.Op.{Op}
use Rattle.sql_grammar.specs.declared.grammar.Rule.TheVariants.{Sentence}
use Rattle.sql_parts.specs.declared.parsed.Parsed.{Parsed}
use Rattle.sql_build.specs.Built.{built}
use Rattle.sql_grammar.specs.Derivation.{Begins, IsSentence}
use Rattle.sql_text.specs.Line.{FaultAt, HasLimits}
use Rattle.sql_grammar.specs.Machine.{Ends}
use Rattle.sql_text.specs.Places.{place_at, tokens_of}
use Rattle.sql_text.specs.Reading.{IsRefusedAmong, IsRefusedEarly, IsRefusedFor, IsSaid, StopsAt}
use Rattle.sql_parts.proofs.Common.{some_injective}
use Rattle.sql_text.proofs.Meaning.{says}
use Rattle.sql_text.proofs.Placing.{length-tokens_of, place_at-end, reaches_all}

-- a sentence that was read and put together
pub said : (ended : Bool) (ts : List Token) (ops before : List Op) (built_of : Option Parsed) (p : Parsed) → ended ≡ true → Ends ended Sentence ts before → ops ≡ before → built_of ≡ built ops → built_of ≡ Some p → IsSaid ts p
said ended ts ops before built_of p y h o b s =
    let E : Bool → Type 0 = λ x. Ends x Sentence ts before in
    let e = subst E y h in
    let builds : built before ≡ Some p = ap built (sym o) ∙ sym b ∙ s in
    let m = says ts before e.0 in
    let same : m.0 ≡ p = some_injective (sym m.1 ∙ builds) in
    let L : Parsed → Type 0 = λ x. HasLimits x in
    record {
      says = (before, e.0, builds);
      only = λ q t. some_injective (sym t.2 ∙ ap built (e.1 t.0 t.1) ∙ builds);
      limits = subst L same m.2;
    }

pub builds_some : (ended : Bool) (ts : List Token) (ops before : List Op) (built_of : Option Parsed) → ended ≡ true → Ends ended Sentence ts before → ops ≡ before → built_of ≡ built ops → built_of ≡ None → ⊥
builds_some ended ts ops before built_of y h o b n =
    let E : Bool → Type 0 = λ x. Ends x Sentence ts before in
    let m = says ts before ((subst E y h).0) in
    let clash : None ≡ Some m.0 = sym n ∙ b ∙ ap built o ∙ m.1 in
    cc

pub too_early : (ended : Bool) (ts : List Token) (ops : List Op) (end : ℕ) (e : Refusal) → ended ≡ false → Ends ended Sentence ts ops → e ≡ Syntax end → IsRefusedEarly ts end e
too_early ended ts ops end e n h r =
    let E : Bool → Type 0 = λ x. Ends x Sentence ts ops in
    let R : Refusal → Type 0 = λ x. IsRefusedEarly ts end x in
    subst R (sym r) (refl, subst E n h)

-- a refusal of the tokens, by how their line ends
stopped_whole : (ts : List Placed) (end place : ℕ) → StopsAt ts place → FaultAt ts Whole end place
stopped_whole ts end place s = (s.0, record { reaches = s.2; early = λ e os d. absurd (omega (arith, s.1, e, length-tokens_of ts)) }, s.3 end)

at_end : (ts : List Placed) (end : ℕ) → end ≡ place_at ts (length (tokens_of ts)) end
at_end ts end = sym (ap (λ n. place_at ts n end) (length-tokens_of ts) ∙ place_at-end ts end)

pub refused_whole : (lexed : Lexed) (end : ℕ) (e : Refusal) → lexed.ending ≡ Whole → IsRefusedAmong lexed.tokens e → IsRefusedFor lexed end e
refused_whole lexed end OutOfMemory w h = tt
refused_whole lexed end (Syntax place) w h = let P : Ending → Type 0 = λ x. FaultAt lexed.tokens x end place in subst P (sym w) (stopped_whole lexed.tokens end place h)
refused_whole lexed end _ w h = absurd h

pub refused_open : (lexed : Lexed) (end : ℕ) (e : Refusal) → lexed.ending ≡ Unclosed → IsRefusedAmong lexed.tokens e → IsRefusedFor lexed end e
refused_open lexed end OutOfMemory w h = tt
refused_open lexed end (Syntax place) w h = let P : Ending → Type 0 = λ x. FaultAt lexed.tokens x end place in subst P (sym w) (h.0, h.2, h.3 end)
refused_open lexed end _ w h = absurd h

pub open_at_end : (lexed : Lexed) (end : ℕ) (e : Refusal) → lexed.ending ≡ Unclosed → Begins Sentence (tokens_of lexed.tokens) → e ≡ Syntax end → IsRefusedFor lexed end e
open_at_end lexed end e w b r =
    let ts = lexed.tokens in
    let P : Ending → Type 0 = λ x. FaultAt ts x end end in
    let R : Refusal → Type 0 = λ x. IsRefusedFor lexed end x in
    subst R (sym r) (subst P (sym w) (length (tokens_of ts), reaches_all Sentence (tokens_of ts) b, at_end ts end))

early_at_end : (ts : List Placed) (end place : ℕ) → Begins Sentence (tokens_of ts) → (place ≡ end) × ((os : List Op) → IsSentence Sentence (tokens_of ts) os → ⊥) → FaultAt ts Whole end place
early_at_end ts end place b h = (length (tokens_of ts), record { reaches = reaches_all Sentence (tokens_of ts) b; early = λ _ os d. h.1 os d }, h.0 ∙ at_end ts end)

pub refused_early : (lexed : Lexed) (end : ℕ) (e : Refusal) → lexed.ending ≡ Whole → Begins Sentence (tokens_of lexed.tokens) → IsRefusedEarly (tokens_of lexed.tokens) end e → IsRefusedFor lexed end e
refused_early lexed end OutOfMemory w b h = tt
refused_early lexed end (Syntax place) w b h = let P : Ending → Type 0 = λ x. FaultAt lexed.tokens x end place in subst P (sym w) (early_at_end lexed.tokens end place b h)
refused_early lexed end _ w b h = absurd h
