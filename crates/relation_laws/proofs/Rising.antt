-- Lists whose keys rise.
use Rattle.std.proofs.Common.{◌≡◌, ◌∙◌, ◌<◌, ◌≤◌, cond, ℕ, suc, Bool, true, false, List, [], ◌∷◌, length, get_or, inl, inr, refl, sym, ap, subst, arith}
use Rattle.std.specs.List.{AllByRecursion, Contains, filter}
use Rattle.std.specs.List.Sorted.{IsNonDecreasingBy}
use Rattle.std.proofs.lemmas.Bool.Decides.{eqb_tells}
use Rattle.pager.specs.declared.index.Found.{Found}
use Rattle.heap_file.specs.declared.chain.Placed.{Placed}
use Rattle.heap_laws.proofs.Counts.{keyed, keyed-more, keyed-same}
use Rattle.heap_laws.proofs.Rows.{keyed-contains}
use Rattle.relation_laws.proofs.KeyTurns.{entry_number, row_number}
use Rattle.relation_laws.proofs.Lists.{all-at, contains-cases, contains-cons, contains-head}

-- items whose keys rise
abbrev pub Rising : {X : Type 0} → (X → ℕ) → List X → Type 0
Rising key [] = Unit {0}
Rising key (x ∷ xs) = AllByRecursion (λ y. key x < key y) xs × Rising key xs

pub rising-below : {X : Type 0} (key : X → ℕ) (x : X) (xs : List X) (y : X) → Rising key (x ∷ xs) → Contains xs y → key x < key y
rising-below key x xs y up has = all-at (λ z. key x < key z) xs y up.0 has

-- rising lists of the same items are one
pub rising-one : {X : Type 0} (key : X → ℕ) (xs ys : List X) → Rising key xs → Rising key ys → ((x : X) → Contains xs x → Contains ys x) → ((y : X) → Contains ys y → Contains xs y) → xs ≡ ys
rising-one key [] [] up also left right = refl
rising-one key [] (y ∷ ys) up also left right = absurd (omega (arith, (right y (contains-head y ys)).1))
rising-one key (x ∷ xs) [] up also left right = absurd (omega (arith, (left x (contains-head x xs)).1))
rising-one {X} key (x ∷ xs) (y ∷ ys) up also left right = both same (rising-one key xs ys up.1 also.1 onward back)
  where
    same : x ≡ y
    same = contains-cases y x ys (left x (contains-head x xs)) (λ e. sym e) (λ there.
        contains-cases x y xs (right y (contains-head y ys)) (λ e. e) (λ here.
        absurd (omega (arith, rising-below key y ys x also there, rising-below key x xs y up here))))

    onward : (z : X) → Contains xs z → Contains ys z
    onward z has = contains-cases y z ys (left z (contains-cons z x xs has)) (λ e. absurd (omega (arith, rising-below key x xs z up has, ap key (same ∙ e)))) (λ there. there)

    back : (z : X) → Contains ys z → Contains xs z
    back z has = contains-cases x z xs (right z (contains-cons z y ys has)) (λ e. absurd (omega (arith, rising-below key y ys z also has, ap key (sym same ∙ e)))) (λ there. there)

    both : x ≡ y → xs ≡ ys → x ∷ xs ≡ y ∷ ys
    both e f = λ i. e i ∷ f i

pub rising-filter : {X : Type 0} (key : X → ℕ) (test : X → Bool) (xs : List X) → Rising key xs → Rising key (filter test xs)
rising-filter key test [] up = tt
rising-filter {X} key test (x ∷ xs) up = go (test x) (rising-filter key test xs up.1)
  where
    all : (ys : List X) → AllByRecursion (λ y. key x < key y) ys → AllByRecursion (λ y. key x < key y) (filter test ys)
    all [] h = tt
    all (y ∷ ys) h = by (test y) (all ys h.1)
      where
        by : (b : Bool) → AllByRecursion (λ z. key x < key z) (filter test ys) → AllByRecursion (λ z. key x < key z) (cond b (y ∷ filter test ys) (filter test ys))
        by true rest = (h.0, rest)
        by false rest = rest

    go : (b : Bool) → Rising key (filter test xs) → Rising key (cond b (x ∷ filter test xs) (filter test xs))
    go true rest = (all xs up.0, rest)
    go false rest = rest

-- rows in rising number rise
pub rising-rows : (rows : List Placed) → ((i j : ℕ) (d : Placed) → i < j → j < length rows → (get_or rows i d).number < (get_or rows j d).number) → Rising row_number rows
rising-rows [] up = tt
rising-rows (row ∷ rows) up = (all rows (λ j d lt. up 0 (suc j) d (omega arith) (omega (arith, lt))), rising-rows rows (λ i j d lt inside. up (suc i) (suc j) d (omega (arith, lt)) (omega (arith, inside))))
  where
    all : (xs : List Placed) → ((j : ℕ) (d : Placed) → j < length xs → row.number < (get_or xs j d).number) → AllByRecursion (λ (y : Placed). row.number < y.number) xs
    all [] h = tt
    all (x ∷ xs) h = (h 0 x (omega arith), all xs (λ j d lt. h (suc j) d (omega (arith, lt))))

-- numbers that do not fall, and stand once each, rise
pub rising-once : (xs : List Found) → IsNonDecreasingBy entry_number xs → ((n : ℕ) → keyed entry_number n xs ≤ 1) → Rising entry_number xs
rising-once [] up once = tt
rising-once (x ∷ xs) up once = (all xs (λ y has. strict y has), rising-once xs (λ i j d le lt. up (suc i) (suc j) d (omega (arith, le)) (omega (arith, lt))) (λ n. omega (arith, once n, keyed-more entry_number n x xs)))
  where
    all : (ys : List Found) → ((y : Found) → Contains ys y → x.number < y.number) → AllByRecursion (λ (y : Found). x.number < y.number) ys
    all [] h = tt
    all (y ∷ ys) h = (h y (contains-head y ys), all ys (λ z has. h z (contains-cons z y ys has)))

    strict : (y : Found) → Contains xs y → x.number < y.number
    strict y has =
        let le : x.number ≤ y.number = subst (λ (z : Found). x.number ≤ z.number) has.2 (up 0 (suc has.0) y (omega arith) (omega (arith, has.1))) in
        elim (eqb_tells x.number y.number) [
          | inr apart ↦ omega (arith, le, apart.1)
          | inl same ↦ absurd (omega (arith, once y.number, keyed-same entry_number y.number x xs same.1, keyed-contains entry_number xs y has))
        ]
