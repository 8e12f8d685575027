-- Numbers drawn one behind the other.
use Rattle.std.proofs.Common.{◌≡◌, ◌∙◌, ℕ, zero, suc, ◌+◌, ◌*◌, ◌%◌, List, [], ◌∷◌, ◌++◌, ap, arith, codes, refl}
use Rattle.std.specs.List.{flat_map}
use Rattle.workload.specs.Load.{declaring_lines, drawn_lines, round_lines, table_numbers, update_lines, updating_lines}
use Rattle.workload.specs.Numbers.{drawn, drawn_after}

-- the number behind the one at a place stands at the next place
pub drawn-next : (seed place later last next : ℕ)
    → place + 1 ≡ later → last ≡ drawn seed place → next ≡ drawn_after last → next ≡ drawn seed later
drawn-next seed place later last next e at is =
    let on : suc place ≡ later = omega (arith, e) in
    is ∙ ap drawn_after at ∙ ap (drawn seed) on

-- what is drawn behind a drawn number is drawn behind the seed
pub drawn-behind : (seed m n : ℕ) → drawn (drawn seed m) n ≡ drawn seed (m + n)
drawn-behind seed m zero = let e : m ≡ m + 0 = omega arith in ap (drawn seed) e
drawn-behind seed m (suc n) =
    let e : suc (m + n) ≡ m + suc n = omega arith in
    ap drawn_after (drawn-behind seed m n) ∙ ap (drawn seed) e

-- the session of a table, by the two numbers that are drawn for it
pub session-drawn : (seed table first second : ℕ)
    → first ≡ drawn seed (2 * table + 1) → second ≡ drawn seed (2 * table + 2)
    → update_lines table (first % 20) (1 + second % 99) ≡ drawn_lines seed 0 table
unfolding drawn_lines
session-drawn seed table first second one two =
    let row : 2 * table + 1 ≡ 8 * 0 + 2 * table + 1 = omega arith in
    let value : 2 * table + 2 ≡ 8 * 0 + 2 * table + 2 = omega arith in
    ap (λ number. update_lines table (number % 20) (1 + second % 99)) (one ∙ ap (drawn seed) row)
    ∙ ap (λ number. update_lines table (drawn seed (8 * 0 + 2 * table + 1) % 20) (1 + number % 99)) (two ∙ ap (drawn seed) value)

drawn_lines-behind : (seed round table : ℕ) → drawn_lines (drawn seed (8 * round)) 0 table ≡ drawn_lines seed round table
unfolding drawn_lines
drawn_lines-behind seed round table =
    let first : 8 * round + (8 * 0 + 2 * table + 1) ≡ 8 * round + 2 * table + 1 = omega arith in
    let second : 8 * round + (8 * 0 + 2 * table + 2) ≡ 8 * round + 2 * table + 2 = omega arith in
    let row = drawn-behind seed (8 * round) (8 * 0 + 2 * table + 1) ∙ ap (drawn seed) first in
    let value = drawn-behind seed (8 * round) (8 * 0 + 2 * table + 2) ∙ ap (drawn seed) second in
    ap (λ number. update_lines table (number % 20) (1 + drawn (drawn seed (8 * round)) (8 * 0 + 2 * table + 2) % 99)) row
    ∙ ap (λ number. update_lines table (drawn seed (8 * round + 2 * table + 1) % 20) (1 + number % 99)) value

flat_map-same : (f g : ℕ → List (List ℕ)) → ((k : ℕ) → f k ≡ g k) → (ks : List ℕ) → flat_map f ks ≡ flat_map g ks
flat_map-same f g same [] = refl
flat_map-same f g same (k ∷ ks) = ap (λ l. l ++ flat_map f ks) (same k) ∙ ap (λ l. g k ++ l) (flat_map-same f g same ks)

-- the first round behind the numbers of earlier rounds is the next round
pub round_lines-behind : (seed round : ℕ) → round_lines (drawn seed (8 * round)) 0 ≡ round_lines seed round
unfolding round_lines updating_lines
round_lines-behind seed round =
    ap (λ updating. codes "PHASE" ∷ (updating ++ declaring_lines))
    (flat_map-same (drawn_lines (drawn seed (8 * round)) 0) (drawn_lines seed round) (drawn_lines-behind seed round) table_numbers)
