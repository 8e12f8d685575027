-- Marks whose numbers rise.
use Rattle.std.proofs.Common.{◌≡◌, ◌≤◌, ◌<◌, ◌+◌, ◌==◌, ◌&&◌, ℕ, zero, suc, Bool, true, false, cond, ltb, leb, List, [], ◌∷◌, length, get_or, refl, ap, subst, ◌∙◌, arith}
use Rattle.std.specs.Prelude.{nat_le, not}
use Rattle.std.specs.List.{list_all}
use Rattle.std.specs.List.Sorted.{IsSortedByKey}
use Rattle.std.specs.Ordering.{is_lt, nat_cmp}
use Rattle.std.specs.declared.cmp.Ordering.TheVariants.{Equal, Greater, Less}
use Rattle.std.proofs.lemmas.Bool.{eqb-true, le-leb, le-ltb, leb-true}
use Rattle.history.specs.Marks.{newest}
use Rattle.history.specs.Writes.{rises}
use Rattle.history.specs.declared.entry.Mark.{Mark}
use Rattle.session.specs.Calls.{AreRising, marked_numbers}

both : (a b : Bool) → (a && b) ≡ true → (a ≡ true) × (b ≡ true)
both true b e = (refl, e)
both false b e = cc

-- the first of a list that rises, and those behind it
parts : (least : ℕ) (mark : Mark) (marks : List Mark) → rises least (marked_numbers (mark ∷ marks)) ≡ true → (least ≤ mark.number) × (rises (mark.number + 1) (marked_numbers marks) ≡ true)
parts least mark marks up = let p = both (leb least mark.number) (rises (mark.number + 1) (marked_numbers marks)) up in (leb-true least mark.number p.0, p.1)

not_less : (a b : ℕ) → b ≤ a → is_lt (nat_cmp a b) ≡ false
not_less a b le = by_tests (ltb a b) (a == b) (le-ltb _ _ le)
  where
    by_tests : (less same : Bool) → less ≡ false → is_lt (cond less Less (cond same Equal Greater)) ≡ false
    by_tests true same f = cc
    by_tests false true f = refl
    by_tests false false f = refl

in_order : (least : ℕ) (marks : List Mark) → rises least (marked_numbers marks) ≡ true → (k : ℕ) (d : Mark) → suc k < length marks → is_lt (nat_cmp (get_or marks (suc k) d).number (get_or marks k d).number) ≡ false
in_order least [] up k d inside = absurd (omega (arith, inside))
in_order least (m ∷ []) up k d inside = absurd (omega (arith, inside))
in_order least (m ∷ n ∷ marks) up zero d inside = let next = parts (m.number + 1) n marks (parts least m (n ∷ marks) up).1 in not_less n.number m.number (omega (arith, next.0))
in_order least (m ∷ n ∷ marks) up (suc k) d inside = in_order (m.number + 1) (n ∷ marks) (parts least m (n ∷ marks) up).1 k d (omega (arith, inside))

pub rising_sorted : (marks : List Mark) → AreRising marks → IsSortedByKey (λ (mark : Mark). mark.number) nat_cmp marks
rising_sorted marks up k d low inside =
    let next : suc k ≡ k + 1 = omega arith in
    subst (λ (n : ℕ). is_lt (nat_cmp (get_or marks n d).number (get_or marks k d).number) ≡ false) next (in_order 1 marks up k d (omega (arith, inside)))

-- none is above the last
up_to_newest : (least : ℕ) (mark : Mark) (marks : List Mark) → rises least (marked_numbers (mark ∷ marks)) ≡ true → mark.number ≤ newest (mark ∷ marks)
up_to_newest least m [] up = omega arith
up_to_newest least m (n ∷ marks) up =
    let rest = (parts least m (n ∷ marks) up).1 in
    omega (arith, (parts (m.number + 1) n marks rest).0, up_to_newest (m.number + 1) n marks rest)

one_within : (n last : ℕ) → 1 ≤ n → n ≤ last → (not (n == 0) && nat_le n last) ≡ true
one_within n last low high = ap (λ (zero_there : Bool). not zero_there && nat_le n last) (by_test (n == 0) refl) ∙ le-leb n last high
  where
    by_test : (zero_there : Bool) → (n == 0) ≡ zero_there → zero_there ≡ false
    by_test true e = absurd (omega (arith, low, eqb-true n 0 e))
    by_test false e = refl

all_within : (least last : ℕ) (marks : List Mark) → 1 ≤ least → rises least (marked_numbers marks) ≡ true → newest marks ≤ last → list_all (λ (mark : Mark). not (mark.number == 0) && nat_le mark.number last) marks ≡ true
all_within least last [] one up le = refl
all_within least last (m ∷ []) one up le = let low = (parts least m [] up).0 in ap (λ (b : Bool). b && true) (one_within m.number last (omega (arith, one, low)) le)
all_within least last (m ∷ n ∷ marks) one up le =
    let p = parts least m (n ∷ marks) up in
    let low = p.0 in
    let top = up_to_newest least m (n ∷ marks) up in
    ap (λ (b : Bool). b && list_all (λ (mark : Mark). not (mark.number == 0) && nat_le mark.number last) (n ∷ marks)) (one_within m.number last (omega (arith, one, low)) (omega (arith, top, le)))
    ∙ all_within (m.number + 1) last (n ∷ marks) (omega arith) p.1 le

pub rising_within : (marks : List Mark) → AreRising marks → list_all (λ (mark : Mark). not (mark.number == 0) && nat_le mark.number (newest marks)) marks ≡ true
rising_within marks up = all_within 1 (newest marks) marks (omega arith) up (omega arith)
