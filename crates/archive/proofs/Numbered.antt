-- Numbered mappings.
use Rattle.std.proofs.Common.{◌≡◌, ◌∙◌, ◌+◌, ◌<◌, ◌++◌, ◌∷◌, [], ℕ, List, length, take, get_or, sym, ap, arith}
use Rattle.std.proofs.lemmas.List.{length-take, take_more}
use Rattle.archive.specs.Fetching.{numbered_from}

numbered_push : (first : ℕ) (pages : List ℕ) (page : ℕ) → numbered_from first (pages ++ page ∷ []) ≡ numbered_from first pages ++ (first + length pages, page) ∷ []
numbered_push first [] page = let same : first ≡ first + 0 = omega arith in ap (λ (n : ℕ). (n, page) ∷ []) same
numbered_push first (other ∷ pages) page =
    let same : first + 1 + length pages ≡ first + length (other ∷ pages) = omega arith in
    ap (λ (ms : List (ℕ × ℕ)). (first, other) ∷ ms) (numbered_push (first + 1) pages page ∙ ap (λ (n : ℕ). numbered_from (first + 1) pages ++ (n, page) ∷ []) same)

-- one mapping more
pub numbered_more : (first i page : ℕ) (pages : List ℕ) → i < length pages → page ≡ get_or pages i 0 → numbered_from first (take (i + 1) pages) ≡ numbered_from first (take i pages) ++ (first + i, page) ∷ []
numbered_more first i page pages less is =
    let count : length (take i pages) ≡ i = omega (arith, length-take i pages) in
    ap (λ (ps : List ℕ). numbered_from first ps) (take_more pages i 0 less) ∙ numbered_push first (take i pages) (get_or pages i 0)
    ∙ ap (λ (n : ℕ). numbered_from first (take i pages) ++ (first + n, get_or pages i 0) ∷ []) count ∙ ap (λ (p : ℕ). numbered_from first (take i pages) ++ (first + i, p) ∷ []) (sym is)
