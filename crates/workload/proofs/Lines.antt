-- Lines written one behind the other.
use Rattle.std.proofs.Common.{◌≡◌, ◌∙◌, sym, ℕ, zero, suc, ◌+◌, List, [], ◌∷◌, ◌++◌, ap, arith, append-nil, append_assoc}
use Rattle.std.proofs.lemmas.Grind.{flat_map-append}
use Rattle.std.specs.List.{flat_map, range_with_len}
use Rattle.workload.specs.Load.{script_text}

script_text-append : (a b : List (List ℕ)) → script_text (a ++ b) ≡ script_text a ++ script_text b
unfolding script_text
script_text-append a b = flat_map-append (λ (line : List ℕ). line ++ 10 ∷ []) a b

-- a line with a number in it
pub numbered-line : (head number tail : List ℕ) → head ++ (number ++ (tail ++ 10 ∷ [])) ≡ script_text ((head ++ (number ++ tail)) ∷ [])
unfolding script_text
numbered-line head number tail =
    sym (append-nil ((head ++ (number ++ tail)) ++ 10 ∷ [])
    ∙ append_assoc head (number ++ tail) (10 ∷ [])
    ∙ ap (λ t. head ++ t) (append_assoc number tail (10 ∷ [])))

-- nothing is written yet
pub no-lines : (first : List ℕ) → first ≡ first ++ script_text []
unfolding script_text
no-lines first = sym (append-nil first)

-- lines are written behind lines
pub lines-behind : (first middle last : List ℕ) (a b : List (List ℕ))
    → middle ≡ first ++ script_text a → last ≡ middle ++ script_text b → last ≡ first ++ script_text (a ++ b)
lines-behind first middle last a b one two =
    two
    ∙ ap (λ t. t ++ script_text b) one
    ∙ append_assoc first (script_text a) (script_text b)
    ∙ ap (λ t. first ++ t) (sym (script_text-append a b))

counting-more : (a n j : ℕ) → a + n ≡ j → range_with_len a (suc n) ≡ range_with_len a n ++ j ∷ []
counting-more a zero j e = let same : a ≡ j = omega arith in ap (λ k. k ∷ []) same
counting-more a (suc n) j e = ap (λ l. a ∷ l) (counting-more (a + 1) n j (omega arith))

flat_map-more : (f : ℕ → List (List ℕ)) (n : ℕ)
    → flat_map f (range_with_len 0 n) ++ f n ≡ flat_map f (range_with_len 0 (n + 1))
flat_map-more f n =
    let on : suc n ≡ n + 1 = omega arith in
    ap (λ l. flat_map f (range_with_len 0 n) ++ l) (sym (append-nil (f n)))
    ∙ sym (flat_map-append f (range_with_len 0 n) (n ∷ []))
    ∙ ap (flat_map f) (sym (counting-more 0 n n (omega arith)))
    ∙ ap (λ k. flat_map f (range_with_len 0 k)) on

-- the lines of one more number are written
pub one-more : (f : ℕ → List (List ℕ)) (n : ℕ) (first middle last : List ℕ)
    → middle ≡ first ++ script_text (flat_map f (range_with_len 0 n)) → last ≡ middle ++ script_text (f n)
    → last ≡ first ++ script_text (flat_map f (range_with_len 0 (n + 1)))
one-more f n first middle last one two =
    lines-behind first middle last (flat_map f (range_with_len 0 n)) (f n) one two
    ∙ ap (λ l. first ++ script_text l) (flat_map-more f n)
