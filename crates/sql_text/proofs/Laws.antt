-- A line says something or breaks at one place.
use Rattle.std.proofs.Common.{◌≡◌, ◌<◌, ◌≤◌, ◌+◌, ◌∙◌, inl, inr, ◌++◌, ℕ, List, length, take, drop, ap, subst, sym, append_assoc, arith}
use Rattle.std.proofs.lemmas.Bool.{cases_order}
use Rattle.std.proofs.lemmas.List.{length-take, take-append-drop, take-append-le}
use Rattle.sql_lexer.specs.declared.token.Ending.{Ending}
use Rattle.sql_lexer.specs.declared.token.Ending.TheVariants.{Whole, BadByte, Unclosed}
use Rattle.sql_lexer.specs.declared.token.Placed.{Placed}
use Rattle.sql_lexer.specs.declared.token.Token.{Token}
use Rattle.sql_lexer.specs.Lexes.{HasOneReading}
use Rattle.sql_parts.specs.declared.action.Op.{Op}
use Rattle.sql_grammar.specs.declared.grammar.Rule.{Rule}
use Rattle.sql_grammar.specs.declared.grammar.Rule.TheVariants.{Sentence}
use Rattle.sql_parts.specs.declared.parsed.Parsed.{Parsed}
use Rattle.sql_grammar.specs.Derivation.{Begins, Breaks, IsSentence, Reaches}
use Rattle.sql_text.specs.Line.{FaultAt, Spells, SyntaxAt}
use Rattle.sql_text.specs.Places.{place_at, tokens_of}

-- fewer tokens begin a sentence too
fewer : (r : Rule) (xs ys : List Token) → Begins r (xs ++ ys) → Begins r xs
fewer r xs ys b = let P : List Token → Type 0 = λ x. IsSentence r x b.1 in (ys ++ b.0, b.1, subst P (append_assoc xs ys b.0) b.2)

begins_front : (r : Rule) (ts : List Token) (m n : ℕ) → m ≤ n → n ≤ length ts → Begins r (take n ts) → Begins r (take m ts)
begins_front r ts m n le within b =
    let P : List Token → Type 0 = λ x. Begins r x in
    let front = take n ts in
    let long : m ≤ length front = omega (arith, length-take n ts) in
    let same : take m ts ≡ take m front = ap (λ x. take m x) (sym (take-append-drop n ts)) ∙ take-append-le m front (drop n ts) long in
    subst P (sym same) (fewer r (take m front) (drop m front) (subst P (sym (take-append-drop m front)) b))

not_before : (r : Rule) (ts : List Token) (m n : ℕ) → Reaches r ts m → Reaches r ts n → m < n → ⊥
not_before r ts m n a b lt = a.refused (omega (arith, lt, b.within)) (begins_front r ts (m + 1) n (omega arith) b.within b.before)

pub reaches_once : (r : Rule) (ts : List Token) (m n : ℕ) → Reaches r ts m → Reaches r ts n → m ≡ n
reaches_once r ts m n a b = elim (cases_order m n) [
  | inl e ↦ e
  | inr (inl lt) ↦ absurd (not_before r ts m n a b lt)
  | inr (inr gt) ↦ absurd (not_before r ts n m b a gt)
]

-- a sentence does not break
whole_never_breaks : (r : Rule) (ts : List Token) (os : List Op) (n : ℕ) → IsSentence r ts os → Breaks r ts n → ⊥
whole_never_breaks r ts os n s b =
    let P : List Token → Type 0 = λ x. IsSentence r x os in
    elim (cases_order n (length ts)) [
      | inl e ↦ b.early e os s
      | inr (inl lt) ↦ b.reaches.refused lt (drop (n + 1) ts, os, subst P (sym (take-append-drop (n + 1) ts)) s)
      | inr (inr gt) ↦ absurd (omega (arith, gt, b.reaches.within))
    ]

one_fault : (ts : List Placed) (ending : Ending) (end a b : ℕ) → FaultAt ts ending end a → FaultAt ts ending end b → a ≡ b
one_fault ts Whole end a b x y = x.2 ∙ ap (λ n. place_at ts n end) (reaches_once Sentence (tokens_of ts) x.0 y.0 x.1.reaches y.1.reaches) ∙ sym y.2
one_fault ts (BadByte bad) end a b x y = x ∙ sym y
one_fault ts Unclosed end a b x y = x.2 ∙ ap (λ n. place_at ts n end) (reaches_once Sentence (tokens_of ts) x.0 y.0 x.1 y.1) ∙ sym y.2

pub says_nothing : HasOneReading → (line : List ℕ) (place : ℕ) (p : Parsed) → SyntaxAt line place → Spells line p → ⊥
says_nothing one line place p x s =
    let same = one line x.0 s.0 x.1 Whole x.2 s.1 in
    let T : List Placed → Type 0 = λ ts. FaultAt ts x.1 (length line) place in
    let E : Ending → Type 0 = λ e. FaultAt s.0 e (length line) place in
    let fault = subst E same.1 (subst T same.0 x.3) in
    whole_never_breaks Sentence (tokens_of s.0) s.2.0 fault.0 s.2.1 fault.1

pub one_place : HasOneReading → (line : List ℕ) (a b : ℕ) → SyntaxAt line a → SyntaxAt line b → a ≡ b
one_place one line a b x y =
    let same = one line x.0 y.0 x.1 y.1 x.2 y.2 in
    let T : List Placed → Type 0 = λ ts. FaultAt ts x.1 (length line) a in
    let E : Ending → Type 0 = λ e. FaultAt y.0 e (length line) a in
    one_fault y.0 y.1 (length line) a b (subst E same.1 (subst T same.0 x.3)) y.3
