-- A part of a range has no more different pages than the whole.
use Rattle.std.proofs.Common.{◌≡◌, ◌+◌, ◌-◌, ◌*◌, ◌/◌, ◌^◌, ◌≤◌, ◌<◌, ◌++◌, ◌∷◌, [], ◌⊎◌, ℕ, zero, suc, List, Bool, true, false, cond, not, Option, Some, None, is_none, filter, nat_eq, min, max, take, drop, map, length, get_or, slice_get, refl, sym, ap, ◌∙◌, arith, true≢false, inl, inr, append_assoc, append-nil, ◌&&◌, eq-eqb, All}
use Rattle.std.proofs.lemmas.List.{length-append, length-map}
use Rattle.std.proofs.lemmas.Bool.{eqb-true}
use Rattle.skippy.specs.FirstTable.{number_of, meet}
use Rattle.skippy.specs.Mappings.{Mappings, end_of, pages_in}
use Rattle.skippy.specs.Bound.{unique, different}
use Rattle.skippy.proofs.FirstLemmas.{firsts, meet-firsts-append, meet-empty}
use Rattle.skippy.proofs.BoundLemmas.{keys-firsts}
use Rattle.skippy.proofs.ScanLemmas.{pages_in-append}

-- how often a page stands in a list
abbrev count_of : ℕ → List ℕ → ℕ
count_of page [] = 0
count_of page (other ∷ pages) = cond (nat_eq other page) 1 0 + count_of page pages

length-without : (page : ℕ) (pages : List ℕ) → length pages ≡ length (filter (λ other. not (nat_eq other page)) pages) + count_of page pages
length-without page [] = refl
length-without page (other ∷ pages) =
    let rest = length-without page pages in
    elim (nat_eq other page) as (λ b. suc (length pages) ≡ length (cond (not b) (other ∷ filter (λ o. not (nat_eq o page)) pages) (filter (λ o. not (nat_eq o page)) pages)) + (cond b 1 0 + count_of page pages))
    [ true ↦ omega arith | false ↦ omega arith ]

count_of-filter : (page : ℕ) (test : ℕ → Bool) (pages : List ℕ) → count_of page (filter test pages) ≤ count_of page pages
count_of-filter page test [] = omega arith
count_of-filter page test (other ∷ pages) =
    let rest = count_of-filter page test pages in
    elim (test other) as (λ b. count_of page (cond b (other ∷ filter test pages) (filter test pages)) ≤ cond (nat_eq other page) 1 0 + count_of page pages)
    [ true ↦ omega arith | false ↦ omega arith ]

count_of-without : (page : ℕ) (pages : List ℕ) → count_of page (filter (λ other. not (nat_eq other page)) pages) ≡ 0
count_of-without page [] = refl
count_of-without page (other ∷ pages) = by (count_of-without page pages) (nat_eq other page) refl
  where
    by : count_of page (filter (λ o. not (nat_eq o page)) pages) ≡ 0 → (b : Bool) → nat_eq other page ≡ b
        → count_of page (cond (not b) (other ∷ filter (λ o. not (nat_eq o page)) pages) (filter (λ o. not (nat_eq o page)) pages)) ≡ 0
    by rest true same = rest
    by rest false differ =
        let none : 0 + count_of page (filter (λ o. not (nat_eq o page)) pages) ≡ 0 = omega (arith, rest) in
        ap (λ b. cond b 1 0 + count_of page (filter (λ o. not (nat_eq o page)) pages)) differ ∙ none

-- a page stands once at most among those of a list without repetitions
count_of-unique : (page : ℕ) (pages : List ℕ) → count_of page (unique pages) ≤ 1
count_of-unique page [] = omega arith
count_of-unique page (other ∷ pages) = by (count_of-unique page pages) (nat_eq other page) refl
  where
    by : count_of page (unique pages) ≤ 1 → (b : Bool) → nat_eq other page ≡ b → cond b 1 0 + count_of page (filter (λ o. not (nat_eq o other)) (unique pages)) ≤ 1
    by rest true same =
        let none : count_of page (filter (λ o. not (nat_eq o other)) (unique pages)) ≡ 0
        = ap (λ p. count_of p (filter (λ o. not (nat_eq o other)) (unique pages))) (sym (eqb-true other page same)) ∙ count_of-without other (unique pages) in
        omega arith
    by rest false differ = omega (arith, count_of-filter page (λ o. not (nat_eq o other)) (unique pages))

-- a longer list has at least as many different pages
different-behind : (xs ys : List ℕ) → different ys ≤ different (xs ++ ys)
different-behind [] ys = omega arith
different-behind (page ∷ xs) ys =
    omega (arith, different-behind xs ys, length-without page (unique (xs ++ ys)), count_of-unique page (xs ++ ys))

length-filter : {X : Type 0} (test : X → Bool) (xs : List X) → length (filter test xs) ≤ length xs
length-filter test [] = omega arith
length-filter test (x ∷ xs) =
    let rest = length-filter test xs in
    elim (test x) as (λ b. length (cond b (x ∷ filter test xs) (filter test xs)) ≤ suc (length xs)) [ true ↦ omega arith | false ↦ omega arith ]

different-firsts : (first : ℕ) (pages : List ℕ) → length (firsts first pages) ≡ different pages
different-firsts first pages = sym (length-map {A = ℕ × ℕ} {B = ℕ} (firsts first pages) (λ e. e.0)) ∙ ap length (keys-firsts first pages)

different-front : (xs ys : List ℕ) → different xs ≤ different (xs ++ ys)
different-front xs ys =
    let whole : firsts 0 (xs ++ ys) ≡ meet (firsts 0 xs) (firsts (0 + length xs) ys)
    = sym (meet-empty (firsts 0 (xs ++ ys))) ∙ meet-firsts-append [] 0 xs ys ∙ ap (λ t. meet t (firsts (0 + length xs) ys)) (meet-empty (firsts 0 xs)) in
    omega (arith, different-firsts 0 xs, different-firsts 0 (xs ++ ys), ap length whole, length-append (firsts 0 xs) (filter (λ e. is_none (number_of (firsts 0 xs) e.0)) (firsts (0 + length xs) ys)))

-- a part of a range has at most as many different pages
pub different-part : (m : Mappings) (from first last to : ℕ) → m.low ≤ from → from ≤ first → first ≤ last → last ≤ to → to ≤ end_of m
    → different (pages_in m first last) ≤ different (pages_in m from to)
different-part m from first last to low a b c known =
    let front : different (pages_in m from last) ≤ different (pages_in m from to)
    = rw (pages_in-append m from last to low (omega arith) c) (different-front (pages_in m from last) (pages_in m last to)) in
    let back : different (pages_in m first last) ≤ different (pages_in m from last)
    = rw (pages_in-append m from first last low a b) (different-behind (pages_in m from first) (pages_in m first last)) in
    omega arith
