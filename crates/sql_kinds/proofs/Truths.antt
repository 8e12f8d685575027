-- Tests joined by and and or.
use Rattle.std.proofs.Common.{◌≡◌, ◌∙◌, Bool, true, false, ◌&&◌, ◌||◌, refl, ap}

pub or_false : (b : Bool) → b || false ≡ b
or_false true = refl
or_false false = refl

pub and_true : (b : Bool) → b && true ≡ b
and_true true = refl
and_true false = refl

-- behind a test that fails the other one decides
pub or_from_false : (a b result : Bool) → a ≡ false → result ≡ b → result ≡ a || b
or_from_false a b result none is = rw none is

pub or_same : (a b c d : Bool) → a ≡ c → b ≡ d → a || b ≡ c || d
or_same a b c d e f = ap (λ x. x || b) e ∙ ap (λ x. c || x) f

-- neither of two tests passed
pub or_none : (a b : Bool) → a || b ≡ false → (a ≡ false) × (b ≡ false)
or_none true b e = let no : ⊥ = cc in absurd no
or_none false b e = (refl, e)

-- both of two tests passed
pub and_both : (a b : Bool) → a && b ≡ true → (a ≡ true) × (b ≡ true)
and_both true b e = (refl, e)
and_both false b e = let no : ⊥ = cc in absurd no
