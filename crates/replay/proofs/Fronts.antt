-- Fronts and parts of lists of pages.
use Rattle.std.proofs.Common.{◌≡◌, ◌<◌, ◌-◌, ◌+◌, ◌∙◌, ◌&&◌, ℕ, Bool, true, false, eqb, List, [], ◌∷◌, length, take, drop, min, refl, sym, ap, arith}
use Rattle.std.proofs.lemmas.List.{take_min, drop_min, drop-take, length-take, take_rest}
use Rattle.replay.specs.Joined.{begins_with}

-- a list does not begin with a longer one
pub begins-short : (front pages : List ℕ) → length pages < length front → begins_with front pages ≡ false
begins-short [] pages lt = absurd (omega arith)
begins-short (page ∷ front) [] lt = refl
begins-short (page ∷ front) (other ∷ pages) lt = ap (λ b. eqb page other && b) (begins-short front pages (omega arith)) ∙ and_false (eqb page other) where
  and_false : (b : Bool) → (b && false) ≡ false
  and_false true = refl
  and_false false = refl

-- the part between two places that are cut at the end
pub part_is : (pages : List ℕ) (low count start a b : ℕ) → b ≡ min (count - low) (length pages) → a ≡ min (start - low) b → take (b - a) (drop a pages) ≡ drop (start - low) (take (count - low) pages)
part_is pages low count start a b end from =
    let ys : List ℕ = take b pages in
    let long : length ys ≡ b = omega (arith, length-take b pages, end) in
    let sum : a + (b - a) ≡ b = omega (arith, from) in
    sym (drop-take a (b - a) pages)
    ∙ ap (λ (n : ℕ). drop a (take n pages)) sum
    ∙ ap (λ (n : ℕ). drop n ys) (from ∙ ap (λ (n : ℕ). min (start - low) n) (sym long))
    ∙ drop_min (start - low) ys
    ∙ ap (λ (n : ℕ). drop (start - low) (take n pages)) end
    ∙ ap (λ (l : List ℕ). drop (start - low) l) (take_min (count - low) pages)

-- a test of the parts behind two places
pub begins_there : (pages seen captured : List ℕ) (i j a b : ℕ) → seen ≡ pages → i ≡ a → j ≡ b → begins_with (take (length seen - i) (drop i seen)) (take (length captured - j) (drop j captured)) ≡ begins_with (drop a pages) (drop b captured)
begins_there pages seen captured i j a b is first second =
    ap (λ (l : List ℕ). begins_with l (take (length captured - j) (drop j captured))) (take_rest seen i)
    ∙ ap (λ (l : List ℕ). begins_with (drop i seen) l) (take_rest captured j)
    ∙ ap (λ (l : List ℕ). begins_with (drop i l) (drop j captured)) is
    ∙ ap (λ (n : ℕ). begins_with (drop n pages) (drop j captured)) first
    ∙ ap (λ (n : ℕ). begins_with (drop a pages) (drop n captured)) second
