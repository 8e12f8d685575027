-- Tables by page, and lists that meet each page of a table once at most.
use Rattle.std.proofs.Common.{◌≡◌, ◌≢◌, inl, inr, ◌<◌, ◌∙◌, ◌&&◌, ◌||◌, ◌+◌, ℕ, zero, suc, Bool, true, false, not, eqb, List, [], ◌∷◌, length, drop, get_or, set, replicate, refl, sym, ap, arith}
use Rattle.std.proofs.lemmas.Bool.{cases_eq, cases_lt, eq-eqb, ne_eqb}
use Rattle.std.proofs.lemmas.List.{at_drop_more, get_or-set_same, get_or-set_other, get_or-replicate, get_or_past, length-replicate}
use Rattle.std.proofs.Math.Path.{fun_ext}
use Rattle.std.specs.List.{list_all}
use Rattle.history.specs.Writes.{is_among}
use Rattle.replay.specs.Joined.{differ, are_among}

-- what a table tells of a page
abbrev pub has : List Bool → ℕ → Bool
has table page = get_or table page false

-- the others, without this page
abbrev pub but : (ℕ → Bool) → ℕ → ℕ → Bool
but left page other = left other && not (eqb page other)

abbrev pub each_once : (ℕ → Bool) → List ℕ → Bool
each_once left [] = true
each_once left (page ∷ pages) = left page && each_once (but left page) pages

-- ---- what it means

all_but : (left : ℕ → Bool) (page : ℕ) (pages : List ℕ) → list_all (but left page) pages ≡ (list_all left pages && not (is_among page pages))
all_but left page [] = refl
all_but left page (other ∷ pages) = ap (λ b. but left page other && b) (all_but left page pages) ∙ ap (λ e. (left other && not e) && (list_all left pages && not (is_among page pages))) (turned page other) ∙ four (left other) (eqb other page) (list_all left pages) (is_among page pages) where
  turned : (a b : ℕ) → eqb a b ≡ eqb b a
  turned a b = elim (cases_eq a b) [ inl e ↦ eq-eqb a b e ∙ sym (eq-eqb b a (sym e)) | inr n ↦ ne_eqb a b n ∙ sym (ne_eqb b a (λ e. n (sym e))) ]

  four : (a e all among : Bool) → ((a && not e) && (all && not among)) ≡ ((a && all) && not (e || among))
  four true true true among = refl
  four true true false among = refl
  four true false all among = refl
  four false e all among = refl

pub each_once_is : (left : ℕ → Bool) (pages : List ℕ) → each_once left pages ≡ (differ pages && list_all left pages)
each_once_is left [] = refl
each_once_is left (page ∷ pages) =
    ap (λ b. left page && b) (each_once_is (but left page) pages ∙ ap (λ b. differ pages && b) (all_but left page pages)) ∙ four (left page) (differ pages) (list_all left pages) (is_among page pages) where
      four : (a apart all among : Bool) → (a && (apart && (all && not among))) ≡ ((not among && apart) && (a && all))
      four true true true true = refl
      four true true true false = refl
      four true true false true = refl
      four true true false false = refl
      four true false all true = refl
      four true false all false = refl
      four false true all true = refl
      four false true all false = refl
      four false false all true = refl
      four false false all false = refl

pub all_same : (left other : ℕ → Bool) (pages : List ℕ) → ((page : ℕ) → left page ≡ other page) → list_all left pages ≡ list_all other pages
all_same left other pages same = ap (λ (f : ℕ → Bool). list_all f pages) (fun_ext same)

-- ---- tables that change

pub has_put : (table : List Bool) (page : ℕ) (is : Bool) → page < length table → has (set table page is) page ≡ is
has_put table page is lt = get_or-set_same table page is false lt

pub has_other : (table : List Bool) (page other : ℕ) (is : Bool) → other ≢ page → has (set table page is) other ≡ has table other
has_other table page other is n = get_or-set_other table page other is false n

-- one page less
pub has_but : (table : List Bool) (page : ℕ) → page < length table → has (set table page false) ≡ but (has table) page
has_but table page lt = fun_ext (λ other. elim (cases_eq page other) [
  | inl e ↦ ap (λ n. has (set table page false) n) (sym e) ∙ has_put table page false lt ∙ sym (ap (λ b. has table other && not b) (eq-eqb page other e) ∙ never (has table other))
  | inr n ↦ has_other table page other false (λ e. n (sym e)) ∙ sym (ap (λ b. has table other && not b) (ne_eqb page other n) ∙ always (has table other))
]) where
  never : (b : Bool) → (b && false) ≡ false
  never true = refl
  never false = refl

  always : (b : Bool) → (b && true) ≡ b
  always true = refl
  always false = refl

-- one page more, of those that are still to be put
pub put_one : (table : List Bool) (page : ℕ) (rest : List ℕ) (q : ℕ) → page < length table → (has (set table page true) q || is_among q rest) ≡ (has table q || is_among q (page ∷ rest))
put_one table page rest q lt = elim (cases_eq page q) [
  | inl e ↦ ap (λ n. has (set table page true) n || is_among q rest) (sym e) ∙ ap (λ b. b || is_among q rest) (has_put table page true lt) ∙ sym (ap (λ b. has table q || (b || is_among q rest)) (eq-eqb page q e) ∙ surely (has table q))
  | inr n ↦ ap (λ b. b || is_among q rest) (has_other table page q true (λ e. n (sym e))) ∙ sym (ap (λ b. has table q || (b || is_among q rest)) (ne_eqb page q n))
] where
  surely : (b : Bool) → (b || true) ≡ true
  surely true = refl
  surely false = refl

pub none_put : (n page : ℕ) (pages : List ℕ) → (has (replicate n false) page || is_among page pages) ≡ is_among page pages
none_put n page pages = ap (λ b. b || is_among page pages) (elim (cases_lt page n) [
  | inl lt ↦ get_or-replicate n page false false lt
  | inr ge ↦ get_or_past (replicate n false) page false (omega (arith, ge, length-replicate n false))
])

-- ---- a list met page by page

same_there : (table : List Bool) (i : ℕ) (d e : Bool) → i < length table → get_or table i d ≡ get_or table i e
same_there [] i d e lt = absurd (omega (arith, lt))
same_there (x ∷ table) zero d e lt = refl
same_there (x ∷ table) (suc i) d e lt = same_there table i d e (omega (arith, lt))

pub told : (table : List Bool) (page : ℕ) (read : Bool) → page < length table → read ≡ get_or table page read → has table page ≡ read
told table page read lt e = same_there table page false read lt ∙ sym e

pub meets : (table : List Bool) (pages others : List ℕ) → ((page : ℕ) → has table page ≡ is_among page others) → each_once (has table) pages ≡ (differ pages && are_among pages others)
meets table pages others same = each_once_is (has table) pages ∙ ap (λ b. differ pages && b) (all_same (has table) (λ page. is_among page others) pages same)

module _ (table : List Bool) (pages : List ℕ) (i : ℕ) (lt : i < length pages) where
  abbrev here : ℕ
  here = get_or pages i 0

  next : each_once (has table) (drop i pages) ≡ (has table here && each_once (but (has table) here) (drop (i + 1) pages))
  next = at_drop_more (each_once (has table)) pages i 0 lt

  pub stops : has table here ≡ false → each_once (has table) (drop i pages) ≡ false
  stops none = next ∙ ap (λ b. b && each_once (but (has table) here) (drop (i + 1) pages)) none

  pub goes_on : here < length table → has table here ≡ true → each_once (has (set table here false)) (drop (i + 1) pages) ≡ each_once (has table) (drop i pages)
  goes_on within is =
      ap (λ (f : ℕ → Bool). each_once f (drop (i + 1) pages)) (has_but table here within) ∙ sym (next ∙ ap (λ b. b && each_once (but (has table) here) (drop (i + 1) pages)) is)
