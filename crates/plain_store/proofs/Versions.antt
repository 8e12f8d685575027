-- Versions of pages.
use Rattle.std.proofs.Common.{◌≡◌, ◌-◌, ◌<◌, ◌≤◌, ◌==◌, ◌||◌, ◌++◌, ℕ, zero, suc, Bool, true, false, eqb, ltb, List, [], ◌∷◌, length, get_or, refl, sym, ap, arith}
use Rattle.std.specs.List.{AllByRecursion}
use Rattle.std.specs.List.Sorted.{IsPartitionedBy}
use Rattle.std.proofs.lemmas.Bool.{lt-ltb, ltb-true, le-ltb, eqb-true}
use Rattle.plain_store.specs.Page.{DoNotFall, bytes_at, ends_at}
use Rattle.plain_store.specs.declared.page.Version.{Version}

at_least : (least : ℕ) (past : List Version) (i : ℕ) (d : Version) → DoNotFall least past → i < length past → least ≤ (get_or past i d).upto
at_least least [] i d falls lt = absurd (omega arith)
at_least least (version ∷ past) zero d falls lt = falls.0
at_least least (version ∷ past) (suc i) d falls lt = omega (arith, falls.0, at_least version.upto past i d falls.1 (omega (arith, lt)))

in_order : (least : ℕ) (past : List Version) (i j : ℕ) (d : Version) → DoNotFall least past → i ≤ j → j < length past → (get_or past i d).upto ≤ (get_or past j d).upto
in_order least [] i j d falls le lt = absurd (omega arith)
in_order least (version ∷ past) zero zero d falls le lt = omega arith
in_order least (version ∷ past) zero (suc j) d falls le lt = at_least version.upto past j d falls.1 (omega (arith, lt))
in_order least (version ∷ past) (suc i) zero d falls le lt = absurd (omega arith)
in_order least (version ∷ past) (suc i) (suc j) d falls le lt = in_order version.upto past i j d falls.1 (omega (arith, le)) (omega (arith, lt))

pub parted : (snapshot : ℕ) (past : List Version) → DoNotFall 0 past → IsPartitionedBy (λ (version : Version). ltb version.upto snapshot) past
parted snapshot past falls i j d le lt below = lt-ltb _ _ (omega (arith, in_order 0 past i j d falls le lt, ltb-true _ _ below))

pub by_version : (snapshot : ℕ) (bytes : List ℕ) (past : List Version) (place : ℕ) (version : Version) → ((i : ℕ) (d : Version) → i < place → (get_or past i d).upto < snapshot)
    → ((i : ℕ) (d : Version) → place ≤ i → i < length past → snapshot ≤ (get_or past i d).upto) → place < length past → version ≡ get_or past place version → bytes_at snapshot bytes past ≡ version.bytes
by_version snapshot bytes [] place version below above lt is = absurd (omega arith)
by_version snapshot bytes (first ∷ past) zero version below above lt is = rw (le-ltb first.upto snapshot (above 0 first (omega arith) (omega arith))) (ap (λ (v : Version). v.bytes) (sym is))
by_version snapshot bytes (first ∷ past) (suc place) version below above lt is =
    rw (lt-ltb first.upto snapshot (below 0 first (omega arith)))
    (by_version snapshot bytes past place version (λ i d lt. below (suc i) d (omega (arith, lt))) (λ i d le lt. above (suc i) d (omega (arith, le)) (omega (arith, lt))) (omega (arith, lt)) is)

pub by_none : (snapshot : ℕ) (bytes : List ℕ) (past : List Version) (place : ℕ) → ((i : ℕ) (d : Version) → i < place → (get_or past i d).upto < snapshot) → length past ≤ place → bytes_at snapshot bytes past ≡ bytes
by_none snapshot bytes [] place below le = refl
by_none snapshot bytes (first ∷ past) zero below le = absurd (omega arith)
by_none snapshot bytes (first ∷ past) (suc place) below le =
    rw (lt-ltb first.upto snapshot (below 0 first (omega arith))) (by_none snapshot bytes past place (λ i d lt. below (suc i) d (omega (arith, lt))) (omega (arith, le)))

pub ends_there : (snapshot : ℕ) (past : List Version) (d : Version) → 0 < length past → ends_at snapshot past ≡ eqb (get_or past (length past - 1) d).upto snapshot
ends_there snapshot [] d lt = absurd (omega arith)
ends_there snapshot (version ∷ []) d lt = refl
ends_there snapshot (version ∷ next ∷ past) d lt =
    let less : length (version ∷ next ∷ past) - 1 ≡ suc (length (next ∷ past) - 1) = omega arith in
    rw less (ends_there snapshot (next ∷ past) d (omega arith))

-- one version more, up to a snapshot that is none before
pub falls_more : (least newest : ℕ) (past : List Version) (bytes : List ℕ) → DoNotFall least past → least ≤ newest → AllByRecursion (λ (version : Version). version.upto ≤ newest) past
    → DoNotFall least (past ++ record { upto = newest; bytes = bytes } ∷ [])
falls_more least newest [] bytes falls le within = (le, tt)
falls_more least newest (version ∷ past) bytes falls le within = (falls.0, falls_more version.upto newest past bytes falls.1 within.0 within.1)

pub not_zero : (n : ℕ) (b : Bool) → (n ≡ 0 → ⊥) → ((n == 0) || b) ≡ b
not_zero n b other = by_test (n == 0) refl
  where
    by_test : (a : Bool) → (n == 0) ≡ a → (a || b) ≡ b
    by_test true e = absurd (other (eqb-true n 0 e))
    by_test false e = refl
