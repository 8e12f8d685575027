-- The first of the lines of some bytes, by the place of the first line end.
use Rattle.std.proofs.Common.{◌≡◌, ◌==◌, ◌+◌, ◌<◌, ◌≤◌, ℕ, Bool, true, false, cond, ltb, List, [], ◌∷◌, Option, Some, None, position, length, take, drop, ap, ◌∙◌, refl, arith}
use Rattle.std.proofs.lemmas.Bool.Decides.{nat_tests}
use Rattle.std.proofs.lemmas.List.Splits.{slice_split_first, slice_split_none, length-slice_split}
use Rattle.std.proofs.lemmas.List.Sums.{fails_before_first}
use Rattle.std.specs.List.{slice_split, position_or_len}
use Rattle.std.specs.Str.Lines.{lines, lines_of_parts, strip_carriage_return}

abbrev pub is_end : ℕ → Bool
is_end b = b == 10

lines_of_parts-more : (x : List ℕ) (parts : List (List ℕ)) → 0 < length parts → lines_of_parts (x ∷ parts) ≡ strip_carriage_return x ∷ lines_of_parts parts
lines_of_parts-more x [] h = absurd (omega arith)
lines_of_parts-more x (y ∷ more) h = refl

lines_of_parts-last : (x : List ℕ) → 0 < length x → lines_of_parts (x ∷ []) ≡ x ∷ []
lines_of_parts-last [] h = absurd (omega arith)
lines_of_parts-last (b ∷ bs) h = grind (arith, nat_tests)

-- what `position` found
found : (test : Bool) (place n : ℕ) → cond test (Some place) None ≡ Some n → (test ≡ true) × (place ≡ n)
found true place n e = (refl, cc)
found false place n e = cc

missed : (test : Bool) (place : ℕ) → cond test (Some place) None ≡ None → test ≡ false
missed true place e = cc
missed false place e = refl

pub lines-first : (bs : List ℕ) (end : ℕ) → position is_end bs ≡ Some end → lines bs ≡ strip_carriage_return (take end bs) ∷ lines (drop (end + 1) bs)
lines-first bs end e =
    let f = found (ltb (position_or_len is_end bs) (length bs)) (position_or_len is_end bs) end e in
    let lt : position_or_len is_end bs < length bs = grind (arith, nat_tests, f.0) in
    let parts = slice_split is_end (drop (position_or_len is_end bs + 1) bs) in
    let first : lines bs ≡ strip_carriage_return (take (position_or_len is_end bs) bs) ∷ lines (drop (position_or_len is_end bs + 1) bs) =
    ap lines_of_parts (slice_split_first is_end bs 0 lt)
    ∙ lines_of_parts-more (take (position_or_len is_end bs) bs) parts (omega (arith, length-slice_split is_end (drop (position_or_len is_end bs + 1) bs))) in
    rw f.1 at first

pub lines-only : (bs : List ℕ) → position is_end bs ≡ None → 0 < length bs → lines bs ≡ bs ∷ []
lines-only bs e some =
    let f = missed (ltb (position_or_len is_end bs) (length bs)) (position_or_len is_end bs) e in
    let le : length bs ≤ position_or_len is_end bs = grind (arith, nat_tests, f) in
    ap lines_of_parts (slice_split_none is_end bs (λ k d lt. fails_before_first is_end bs k d (omega arith)))
    ∙ lines_of_parts-last bs some

-- some bytes have some lines
pub lines-some : (bs : List ℕ) → 0 < length bs → (first : List ℕ) × (others : List (List ℕ)) × (lines bs ≡ first ∷ others)
lines-some bs some = by_place (position is_end bs) refl
  where
    by_place : (place : Option ℕ) → position is_end bs ≡ place → (first : List ℕ) × (others : List (List ℕ)) × (lines bs ≡ first ∷ others)
    by_place (Some end) e = (strip_carriage_return (take end bs), lines (drop (end + 1) bs), lines-first bs end e)
    by_place None e = (bs, [], lines-only bs e some)
