-- Lists whose items are told apart by a key.
use Rattle.std.proofs.Common.{◌≡◌, ◌≢◌, ◌<◌, ◌≤◌, ◌+◌, ◌++◌, ◌∙◌, ℕ, zero, suc, List, [], ◌∷◌, length, map, inl, inr, sym, ap, subst, arith}
use Rattle.std.specs.List.{AllByRecursion, AllZip, Contains}
use Rattle.std.proofs.lemmas.Bool.Decides.{eqb_tells}
use Rattle.heap_laws.specs.Store.{times}
use Rattle.heap_laws.proofs.Counts.{keyed, keyed-more, keyed-same, length-others, others, keyed-left}
use Rattle.heap_laws.proofs.Rows.{keyed-contains}
use Rattle.heap_laws.proofs.Stores.{all-join}
pub use Rattle.heap_laws.proofs.Apart.{contains-head, contains-cons, contains-cases}
use Rattle.relation_laws.specs.Tables.{AreDifferent}

pub all-at : {A : Type 0} (P : A → Type 0) (xs : List A) (x : A) → AllByRecursion P xs → Contains xs x → P x
all-at P [] x all has = absurd (omega (arith, has.1))
all-at P (y ∷ xs) x all has = contains-cases y x xs has (λ same. subst P same all.0) (λ there. all-at P xs x all.1 there)

pub contains-map : {A B : Type 0} (f : A → B) (xs : List A) (x : A) → Contains xs x → Contains (map f xs) (f x)
contains-map f [] x has = absurd (omega (arith, has.1))
contains-map f (y ∷ xs) x has =
    contains-cases y x xs has
    (λ same. subst (λ (z : _). Contains (map f (y ∷ xs)) (f z)) same (contains-head (f y) (map f xs)))
    (λ there. contains-cons (f x) (f y) (map f xs) (contains-map f xs x there))

pub contains-of : {A B : Type 0} (f : A → B) (xs : List A) (y : B) → Contains (map f xs) y → (x : A) × Contains xs x × (f x ≡ y)
contains-of f [] y has = absurd (omega (arith, has.1))
contains-of f (x ∷ xs) y has =
    contains-cases (f x) y (map f xs) has
    (λ same. (x, contains-head x xs, same))
    (λ there. let rest = contains-of f xs y there in (rest.0, contains-cons rest.0 x xs rest.1, rest.2))

-- where a key stands once, one item has it
pub keyed-one : {A : Type 0} (f : A → ℕ) (n : ℕ) (xs : List A) (x y : A) → keyed f n xs ≤ 1 → Contains xs x → Contains xs y → f x ≡ n → f y ≡ n → x ≡ y
keyed-one f n [] x y once has also is same = absurd (omega (arith, has.1))
keyed-one f n (z ∷ xs) x y once has also is same =
    contains-cases z x xs has
    (λ here. contains-cases z y xs also
    (λ too. sym here ∙ too)
    (λ there. absurd (omega (arith, once, keyed-same f n z xs (ap f here ∙ is), subst (λ (k : ℕ). 0 < keyed f k xs) same (keyed-contains f xs y there)))))
    (λ there. contains-cases z y xs also
    (λ here. absurd (omega (arith, once, keyed-same f n z xs (ap f here ∙ same), subst (λ (k : ℕ). 0 < keyed f k xs) is (keyed-contains f xs x there))))
    (λ too. keyed-one f n xs x y (omega (arith, once, keyed-more f n z xs)) there too is same))

-- numbers of which each below a bound but one stands in the list are at least so many, less one
gapped : (n q : ℕ) (xs : List ℕ) → ((p : ℕ) → p < n → p ≢ q → 0 < times p xs) → n ≤ length xs + 1
gapped zero q xs some = omega arith
gapped (suc n) q xs some =
    elim (eqb_tells n q) [
      | inl same ↦ omega (arith, low_only same.1)
      | inr differ ↦
          let rest = others (λ (m : ℕ). m) n xs in
          omega (arith, gapped n q rest (λ p lt apart. subst (λ (k : ℕ). 0 < k) (sym (keyed-left (λ (m : ℕ). m) n p xs (λ e. absurd (omega (arith, lt, e))))) (some p (omega (arith, lt)) apart)), length-others (λ (m : ℕ). m) n xs, some n (omega arith) differ.1)
    ]
  where
    full : (n : ℕ) (xs : List ℕ) → ((p : ℕ) → p < n → 0 < times p xs) → n ≤ length xs
    full zero xs some = omega arith
    full (suc n) xs some =
        let rest = others (λ (m : ℕ). m) n xs in
        omega (arith, full n rest (λ p lt. subst (λ (k : ℕ). 0 < k) (sym (keyed-left (λ (m : ℕ). m) n p xs (λ e. absurd (omega (arith, lt, e))))) (some p (omega (arith, lt)))), length-others (λ (m : ℕ). m) n xs, some n (omega arith))

    low_only : n ≡ q → n ≤ length xs
    low_only same = full n xs (λ p lt. some p (omega (arith, lt)) (λ e. absurd (omega (arith, e, same, lt))))

-- as many numbers as these, and each of these stands among them: each stands there once
pub placed-once : (n : ℕ) (xs : List ℕ) → length xs ≡ n → ((p : ℕ) → p < n → 0 < times p xs) → (q : ℕ) → q < n → times q xs ≤ 1
placed-once n xs long some q lt =
    omega (arith, long, length-others (λ (m : ℕ). m) q xs, gapped n q (others (λ (m : ℕ). m) q xs) (λ p below apart. subst (λ (k : ℕ). 0 < k) (sym (keyed-left (λ (m : ℕ). m) q p xs (λ e. apart (sym e)))) (some p below)))

-- of different keys, one item has one
pub one-keyed : {A K : Type 0} (f : A → K) (xs : List A) (x y : A) → AreDifferent (map f xs) → Contains xs x → Contains xs y → f x ≡ f y → x ≡ y
one-keyed f [] x y apart has also same = absurd (omega (arith, has.1))
one-keyed f (z ∷ xs) x y apart has also same =
    contains-cases z x xs has
    (λ here. contains-cases z y xs also
    (λ too. sym here ∙ too)
    (λ there. absurd (all-at (λ k. k ≢ f z) (map f xs) (f y) apart.0 (contains-map f xs y there) (sym same ∙ ap f (sym here)))))
    (λ there. contains-cases z y xs also
    (λ here. absurd (all-at (λ k. k ≢ f z) (map f xs) (f x) apart.0 (contains-map f xs x there) (same ∙ ap f (sym here))))
    (λ too. one-keyed f xs x y apart.1 there too same))

pub different-split : {A : Type 0} (xs ys : List A) → AreDifferent (xs ++ ys) → AreDifferent xs
different-split [] ys apart = tt
different-split (x ∷ xs) ys apart = (front xs ys x apart.0, different-split xs ys apart.1)
  where
    front : {A : Type 0} (xs ys : List A) (x : A) → AllByRecursion (λ y. y ≢ x) (xs ++ ys) → AllByRecursion (λ y. y ≢ x) xs
    front [] ys x all = tt
    front (y ∷ xs) ys x all = (all.0, front xs ys x all.1)

-- items that are beside each other in two lists
pub zip-left : {A B : Type 0} (R : A → B → Type 0) (xs : List A) (ys : List B) (y : B) → AllZip R xs ys → Contains ys y → (x : A) × Contains xs x × R x y
zip-left R [] [] y all has = absurd (omega (arith, has.1))
zip-left R [] (z ∷ ys) y all has = absurd all
zip-left R (x ∷ xs) [] y all has = absurd all
zip-left R (x ∷ xs) (z ∷ ys) y all has =
    contains-cases z y ys has
    (λ same. (x, contains-head x xs, subst (R x) same all.0))
    (λ there. let rest = zip-left R xs ys y all.1 there in (rest.0, contains-cons rest.0 x xs rest.1, rest.2))

-- beside each item a changed one
pub zip-map : {A B : Type 0} (R S : A → B → Type 0) (f : B → B) (xs : List A) (ys : List B) → ((x : A) (y : B) → Contains xs x → R x y → S x (f y)) → AllZip R xs ys → AllZip S xs (map f ys)
zip-map R S f [] [] go all = tt
zip-map R S f [] (y ∷ ys) go all = absurd all
zip-map R S f (x ∷ xs) [] go all = absurd all
zip-map R S f (x ∷ xs) (y ∷ ys) go all =
    (go x y (contains-head x xs) all.0, zip-map R S f xs ys (λ z w has is. go z w (contains-cons z x xs has) is) all.1)

pub zip-weaken : {A B : Type 0} (R S : A → B → Type 0) (xs : List A) (ys : List B) → ((x : A) (y : B) → Contains xs x → R x y → S x y) → AllZip R xs ys → AllZip S xs ys
zip-weaken R S [] [] go all = tt
zip-weaken R S [] (y ∷ ys) go all = absurd all
zip-weaken R S (x ∷ xs) [] go all = absurd all
zip-weaken R S (x ∷ xs) (y ∷ ys) go all =
    (go x y (contains-head x xs) all.0, zip-weaken R S xs ys (λ z w has is. go z w (contains-cons z x xs has) is) all.1)

pub zip-join : {A B : Type 0} (R : A → B → Type 0) (xs zs : List A) (ys ws : List B) → AllZip R xs ys → AllZip R zs ws → AllZip R (xs ++ zs) (ys ++ ws)
zip-join R [] zs [] ws all more = more
zip-join R [] zs (y ∷ ys) ws all more = absurd all
zip-join R (x ∷ xs) zs [] ws all more = absurd all
zip-join R (x ∷ xs) zs (y ∷ ys) ws all more = (all.0, zip-join R xs zs ys ws all.1 more)

pub contains-left : {A : Type 0} (xs ys : List A) (x : A) → Contains xs x → Contains (xs ++ ys) x
contains-left [] ys x has = absurd (omega (arith, has.1))
contains-left (z ∷ xs) ys x has =
    contains-cases z x xs has
    (λ same. subst (λ y. Contains ((z ∷ xs) ++ ys) y) same (contains-head z (xs ++ ys)))
    (λ there. contains-cons x z (xs ++ ys) (contains-left xs ys x there))

pub contains-last : {A : Type 0} (xs : List A) (x : A) → Contains (xs ++ x ∷ []) x
contains-last [] x = contains-head x []
contains-last (z ∷ xs) x = contains-cons x z (xs ++ x ∷ []) (contains-last xs x)

pub all-map : {A B : Type 0} (P : B → Type 0) (f : A → B) (xs : List A) → AllByRecursion (λ x. P (f x)) xs → AllByRecursion P (map f xs)
all-map P f [] all = tt
all-map P f (x ∷ xs) all = (all.0, all-map P f xs all.1)

all-insert : {A : Type 0} (P : A → Type 0) (xs ys : List A) (x : A) → AllByRecursion P (xs ++ ys) → P x → AllByRecursion P ((xs ++ x ∷ []) ++ ys)
all-insert P [] ys x all is = (is, all)
all-insert P (y ∷ xs) ys x all is = (all.0, all-insert P xs ys x all.1 is)

-- one more item behind different ones
pub different-push : {A : Type 0} (xs : List A) (x : A) → AreDifferent xs → AllByRecursion (λ y. y ≢ x) xs → AreDifferent (xs ++ x ∷ [])
different-push [] x apart off = (tt, tt)
different-push (z ∷ xs) x apart off = (all-join (λ y. y ≢ z) xs (x ∷ []) apart.0 ((λ e. off.0 (sym e)), tt), different-push xs x apart.1 off.1)

-- one more item among different ones
pub different-insert : {A : Type 0} (xs ys : List A) (x : A) → AreDifferent (xs ++ ys) → AllByRecursion (λ y. y ≢ x) xs → AllByRecursion (λ y. y ≢ x) ys → AreDifferent ((xs ++ x ∷ []) ++ ys)
different-insert [] ys x apart front behind = (behind, apart)
different-insert (z ∷ xs) ys x apart front behind =
    (all-insert (λ y. y ≢ z) xs ys x apart.0 (λ e. front.0 (sym e)), different-insert xs ys x apart.1 front.1 behind)
