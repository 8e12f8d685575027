-- How often numbers stand in lists.
use Rattle.std.proofs.Common.{◌≡◌, ◌<◌, ◌≤◌, ◌+◌, ◌++◌, ◌∙◌, ℕ, zero, suc, Bool, not, cond, eqb, List, [], ◌∷◌, length, map, filter, count_by, inl, inr, refl, sym, ap, arith, subst, eq-eqb, ne_eqb}
use Rattle.std.specs.List.{Contains}
use Rattle.std.proofs.lemmas.Bool.Decides.{eqb_tells}
use Rattle.std.proofs.lemmas.List.Elements.{filter-append}
use Rattle.std.proofs.lemmas.List.Sums.{sum_by-append, sum_by-cons}
use Rattle.heap_laws.specs.Store.{times}

-- how often a number stands as the key of elements
abbrev pub keyed : {X : Type 0} → (X → ℕ) → ℕ → List X → ℕ
keyed f n xs = count_by (λ x. eqb (f x) n) xs

-- one where the key is the number, else none
abbrev pub one_if : Bool → ℕ
one_if b = cond b 1 0

pub keyed-cons : {X : Type 0} (f : X → ℕ) (n : ℕ) (x : X) (xs : List X) → keyed f n (x ∷ xs) ≡ one_if (eqb (f x) n) + keyed f n xs
keyed-cons f n x xs = sum_by-cons (λ y. cond (eqb (f y) n) 1 0) x xs

pub keyed-append : {X : Type 0} (f : X → ℕ) (n : ℕ) (xs ys : List X) → keyed f n (xs ++ ys) ≡ keyed f n xs + keyed f n ys
keyed-append f n xs ys = sum_by-append (λ y. cond (eqb (f y) n) 1 0) xs ys

pub keyed-same : {X : Type 0} (f : X → ℕ) (n : ℕ) (x : X) (xs : List X) → f x ≡ n → keyed f n (x ∷ xs) ≡ 1 + keyed f n xs
keyed-same f n x xs e = rw (keyed-cons f n x xs, eq-eqb (f x) n e) refl

pub keyed-other : {X : Type 0} (f : X → ℕ) (n : ℕ) (x : X) (xs : List X) → (f x ≡ n → ⊥) → keyed f n (x ∷ xs) ≡ keyed f n xs
keyed-other f n x xs e = rw (keyed-cons f n x xs, ne_eqb (f x) n e) (omega arith)

pub keyed-more : {X : Type 0} (f : X → ℕ) (n : ℕ) (x : X) (xs : List X) → keyed f n xs ≤ keyed f n (x ∷ xs)
keyed-more f n x xs = omega (arith, keyed-cons f n x xs)

pub keyed-middle : {X : Type 0} (f : X → ℕ) (n : ℕ) (xs : List X) (x : X) (ys : List X) → keyed f n (xs ++ x ∷ ys) ≡ keyed f n xs + (one_if (eqb (f x) n) + keyed f n ys)
keyed-middle f n xs x ys = keyed-append f n xs (x ∷ ys) ∙ ap (λ (k : ℕ). keyed f n xs + k) (keyed-cons f n x ys)

-- the keys of elements, as a list
pub keyed-map : {X : Type 0} (f : X → ℕ) (n : ℕ) (xs : List X) → times n (map f xs) ≡ keyed f n xs
keyed-map f n [] = refl
keyed-map f n (x ∷ xs) = keyed-cons (λ (m : ℕ). m) n (f x) (map f xs) ∙ ap (λ (k : ℕ). one_if (eqb (f x) n) + k) (keyed-map f n xs) ∙ sym (keyed-cons f n x xs)

-- an element with that key splits the list
pub keyed-split : {X : Type 0} (f : X → ℕ) (n : ℕ) (xs : List X) → 0 < keyed f n xs → (a : List X) × (x : X) × (b : List X) × (xs ≡ a ++ x ∷ b) × (f x ≡ n)
keyed-split f n [] some = absurd (omega (arith, some))
keyed-split f n (x ∷ xs) some =
    elim (eqb_tells (f x) n) [
      | inl same ↦ ([], x, xs, refl, same.1)
      | inr differ ↦
          let rest = keyed-split f n xs (omega (arith, some, keyed-other f n x xs differ.1)) in
          (x ∷ rest.0, rest.1, rest.2, ap (λ l. x ∷ l) rest.3, rest.4)
    ]

-- an element of a list splits it
pub split_at : {X : Type 0} (xs : List X) (y : X) → Contains xs y → (a : List X) × (b : List X) × (xs ≡ a ++ y ∷ b)
split_at [] y (k, lt, is) = absurd (omega (arith, lt))
split_at (x ∷ xs) y (zero, lt, is) = ([], xs, ap (λ z. z ∷ xs) is)
split_at (x ∷ xs) y (suc k, lt, is) =
    let rest = split_at xs y (k, omega (arith, lt), is) in
    (x ∷ rest.0, rest.1, ap (λ l. x ∷ l) rest.2)

-- elements without those of a key
abbrev pub others : {X : Type 0} → (X → ℕ) → ℕ → List X → List X
others f n xs = filter (λ x. not (eqb (f x) n)) xs

pub others-same : {X : Type 0} (f : X → ℕ) (n : ℕ) (x : X) (xs : List X) → f x ≡ n → others f n (x ∷ xs) ≡ others f n xs
others-same f n x xs e = rw (eq-eqb (f x) n e) refl

pub others-other : {X : Type 0} (f : X → ℕ) (n : ℕ) (x : X) (xs : List X) → (f x ≡ n → ⊥) → others f n (x ∷ xs) ≡ x ∷ others f n xs
others-other f n x xs e = rw (ne_eqb (f x) n e) refl

pub others-append : {X : Type 0} (f : X → ℕ) (n : ℕ) (xs ys : List X) → others f n (xs ++ ys) ≡ others f n xs ++ others f n ys
others-append f n xs ys = filter-append (λ x. not (eqb (f x) n)) xs ys

-- what is left of the keys
pub keyed-gone : {X : Type 0} (f : X → ℕ) (n : ℕ) (xs : List X) → keyed f n (others f n xs) ≡ 0
keyed-gone f n [] = refl
keyed-gone f n (x ∷ xs) =
    elim (eqb_tells (f x) n) [
      | inl same ↦ ap (keyed f n) (others-same f n x xs same.1) ∙ keyed-gone f n xs
      | inr differ ↦ ap (keyed f n) (others-other f n x xs differ.1) ∙ keyed-other f n x (others f n xs) differ.1 ∙ keyed-gone f n xs
    ]

pub keyed-left : {X : Type 0} (f : X → ℕ) (n m : ℕ) (xs : List X) → (n ≡ m → ⊥) → keyed f m (others f n xs) ≡ keyed f m xs
keyed-left f n m [] away = refl
keyed-left f n m (x ∷ xs) away =
    elim (eqb_tells (f x) n) [
      | inl same ↦ ap (keyed f m) (others-same f n x xs same.1) ∙ keyed-left f n m xs away ∙ sym (keyed-other f m x xs (λ e. away (sym same.1 ∙ e)))
      | inr differ ↦ ap (keyed f m) (others-other f n x xs differ.1) ∙ keyed-cons f m x (others f n xs) ∙ ap (λ (k : ℕ). one_if (eqb (f x) m) + k) (keyed-left f n m xs away) ∙ sym (keyed-cons f m x xs)
    ]

pub length-others : {X : Type 0} (f : X → ℕ) (n : ℕ) (xs : List X) → length (others f n xs) + keyed f n xs ≡ length xs
length-others f n [] = refl
length-others f n (x ∷ xs) =
    elim (eqb_tells (f x) n) [
      | inl same ↦ omega (arith, length-others f n xs, keyed-same f n x xs same.1, ap length (others-same f n x xs same.1))
      | inr differ ↦ omega (arith, length-others f n xs, keyed-other f n x xs differ.1, ap length (others-other f n x xs differ.1))
    ]

-- where no key is that number, all are left
pub others-none : {X : Type 0} (f : X → ℕ) (n : ℕ) (xs : List X) → keyed f n xs ≡ 0 → others f n xs ≡ xs
others-none f n [] none = refl
others-none f n (x ∷ xs) none =
    elim (eqb_tells (f x) n) [
      | inl same ↦ absurd (omega (arith, none, keyed-same f n x xs same.1))
      | inr differ ↦ others-other f n x xs differ.1 ∙ ap (λ l. x ∷ l) (others-none f n xs (omega (arith, none, keyed-other f n x xs differ.1)))
    ]

-- numbers that stand once each, so many from one on, are no more than these
pub pigeons : (n low : ℕ) (xs : List ℕ) → ((p : ℕ) → times p xs ≤ 1) → ((p : ℕ) → 0 < times p xs → (low ≤ p) × (p < low + n)) → length xs ≤ n
pigeons zero low [] once inside = omega arith
pigeons zero low (x ∷ xs) once inside =
    let here = inside x (omega (arith, keyed-same (λ (m : ℕ). m) x x xs refl)) in
    absurd (omega (arith, here.0, here.1))
pigeons (suc n) low xs once inside =
    let top = low + n in
    let rest = others (λ (m : ℕ). m) top xs in
    let few = pigeons n low rest
    (λ p. elim (eqb_tells top p) [
      | inl same ↦ rw (sym same.1) (omega (arith, keyed-gone (λ (m : ℕ). m) top xs))
      | inr differ ↦ omega (arith, once p, keyed-left (λ (m : ℕ). m) top p xs differ.1)
    ])
    (λ p some. elim (eqb_tells top p) [
      | inl same ↦ absurd (omega (arith, subst (λ (q : ℕ). 0 < times q rest) (sym same.1) some, keyed-gone (λ (m : ℕ). m) top xs))
      | inr differ ↦
          let all = inside p (omega (arith, some, keyed-left (λ (m : ℕ). m) top p xs differ.1)) in
          (all.0, omega (arith, all.1, differ.1))
    ]) in
    omega (arith, few, once top, length-others (λ (m : ℕ). m) top xs)
