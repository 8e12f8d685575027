-- Lists of pages, and of captures.
use Rattle.std.proofs.Common.{◌≡◌, inl, inr, ◌≤◌, ◌<◌, ◌+◌, ◌∙◌, ◌||◌, not, ℕ, suc, zero, Bool, true, false, eqb, leb, List, [], ◌∷◌, ◌++◌, length, drop, get_or, refl, sym, ap, arith, length-append}
use Rattle.std.proofs.lemmas.Bool.{eqb-true, eq-eqb, and_parts, and_from, or_cases, or_left, or_right, cases_Bool, leb-true, ne_eqb, both_ways}
use Rattle.std.proofs.lemmas.List.{drop-drop}
use Rattle.history.specs.declared.writes.PageImage.{PageImage}
use Rattle.history.specs.Writes.{pages_of, is_among, rises}
use Rattle.history.proofs.Captures.{among-append}
use Rattle.replay.specs.Joined.{differ, are_among, begins_with}
use Rattle.replay.specs.Opened.{forgotten}
use Rattle.replay.proofs.Different.{all_of_them}

pub image_eq : (x y : PageImage) → x.page ≡ y.page → x.bytes ≡ y.bytes → x ≡ y
image_eq x y e f = ap (λ p. let r : PageImage = record { page = p; bytes = x.bytes } in r) e ∙ ap (λ b. let r : PageImage = record { page = y.page; bytes = b } in r) f

pub same_at : (xs ys : List PageImage) → length xs ≡ length ys → ((k : ℕ) → get_or xs k forgotten ≡ get_or ys k forgotten) → xs ≡ ys
same_at [] [] len same = refl
same_at [] (y ∷ ys) len same = absurd (omega (arith, len))
same_at (x ∷ xs) [] len same = absurd (omega (arith, len))
same_at (x ∷ xs) (y ∷ ys) len same = ap (λ t. t ∷ xs) (same 0) ∙ ap (λ t. y ∷ t) (same_at xs ys (omega (arith, len)) (λ k. same (suc k)))

pub pages_of-append : (xs ys : List PageImage) → pages_of (xs ++ ys) ≡ pages_of xs ++ pages_of ys
pages_of-append [] ys = refl
pages_of-append (x ∷ xs) ys = ap (λ ps. x.page ∷ ps) (pages_of-append xs ys)

pub pages_of-length : (xs : List PageImage) → length (pages_of xs) ≡ length xs
pages_of-length [] = refl
pages_of-length (x ∷ xs) = ap suc (pages_of-length xs)

pub pages_of-drop : (n : ℕ) (xs : List PageImage) → pages_of (drop n xs) ≡ drop n (pages_of xs)
pages_of-drop zero xs = refl
pages_of-drop (suc n) [] = refl
pages_of-drop (suc n) (x ∷ xs) = pages_of-drop n xs

pub pages_of-get : (xs : List PageImage) (k : ℕ) → get_or (pages_of xs) k 0 ≡ (get_or xs k forgotten).page
pages_of-get [] k = refl
pages_of-get (x ∷ xs) zero = refl
pages_of-get (x ∷ xs) (suc k) = pages_of-get xs k

-- a list from one place on, from another
pub drop-to : {X : Type 0} (n m k : ℕ) (xs : List X) → n + m ≡ k → drop m (drop n xs) ≡ drop k xs
drop-to n m k xs e = drop-drop m n xs ∙ ap (λ t. drop t xs) e

pub begins : (front rest : List ℕ) → begins_with front (front ++ rest) ≡ true
begins [] rest = refl
begins (page ∷ front) rest = and_from (eqb page page) (begins_with front (front ++ rest)) (eq-eqb page page refl) (begins front rest)

pub begins_is : (front pages : List ℕ) → begins_with front pages ≡ true → pages ≡ front ++ drop (length front) pages
begins_is [] pages is = refl
begins_is (page ∷ front) [] is = absurd cc
begins_is (page ∷ front) (other ∷ pages) is =
    let both = and_parts (eqb page other) (begins_with front pages) is in
    ap (λ p. p ∷ pages) (sym (eqb-true page other both.0)) ∙ ap (λ ps. page ∷ ps) (begins_is front pages both.1)

-- ---- different pages

pub differ-drop : (n : ℕ) (xs : List ℕ) → differ xs ≡ true → differ (drop n xs) ≡ true
differ-drop zero xs h = h
differ-drop (suc n) [] h = h
differ-drop (suc n) (x ∷ xs) h = differ-drop n xs (and_parts (not (is_among x xs)) (differ xs) h).1

pub are_among-drop : (n : ℕ) (xs others : List ℕ) → are_among xs others ≡ true → are_among (drop n xs) others ≡ true
are_among-drop zero xs others h = h
are_among-drop (suc n) [] others h = h
are_among-drop (suc n) (x ∷ xs) others h = are_among-drop n xs others (and_parts (is_among x others) (are_among xs others) h).1

pub are_among-each : (pages others : List ℕ) → ((p : ℕ) → is_among p pages ≡ true → is_among p others ≡ true) → are_among pages others ≡ true
are_among-each [] others all = refl
are_among-each (page ∷ pages) others all =
    and_from (is_among page others) (are_among pages others) (all page (or_left (eqb page page) (is_among page pages) (eq-eqb page page refl)))
    (are_among-each pages others (λ p is. all p (or_right (eqb page p) (is_among p pages) is)))

rises_apart : (least page : ℕ) (pages : List ℕ) → rises least pages ≡ true → page < least → is_among page pages ≡ false
rises_apart least page [] up lt = refl
rises_apart least page (other ∷ pages) up lt =
    let both = and_parts (leb least other) (rises (other + 1) pages) up in
    let ge : least ≤ other = leb-true least other both.0 in
    ap (λ b. b || is_among page pages) (ne_eqb other page (λ is. absurd (omega (arith, is, ge, lt)))) ∙ rises_apart (other + 1) page pages both.1 (omega (arith, ge, lt))

pub rises_differ : (least : ℕ) (pages : List ℕ) → rises least pages ≡ true → differ pages ≡ true
rises_differ least [] up = refl
rises_differ least (page ∷ pages) up =
    let both = and_parts (leb least page) (rises (page + 1) pages) up in
    and_from (not (is_among page pages)) (differ pages) (ap not (rises_apart (page + 1) page pages both.1 (omega arith))) (rises_differ (page + 1) pages both.1)

-- without a page that stands twice all are still there
still_among : (p x : ℕ) (front back : List ℕ) → is_among x back ≡ true → is_among p (front ++ x ∷ back) ≡ true → is_among p (front ++ back) ≡ true
still_among p x front back twice is =
    among-append p front back ∙ go (is_among p front) (sym (among-append p front (x ∷ back)) ∙ is) where
      go : (b : Bool) → (b || (eqb x p || is_among p back)) ≡ true → (b || is_among p back) ≡ true
      go true h = refl
      go false h = elim (or_cases (eqb x p) (is_among p back) h) [ inl e ↦ ap (λ q. is_among q back) (sym (eqb-true x p e)) ∙ twice | inr i ↦ i ]

-- as many as there are different ones of, and each of them among these: they are different
pub all_different : (front rest others : List ℕ) (fresh : ℕ) → differ others ≡ true → ((p : ℕ) → is_among p others ≡ true → is_among p (front ++ rest) ≡ true) → length (front ++ rest) ≤ length others
    → is_among fresh others ≡ false → differ rest ≡ true
all_different front [] others fresh apart all few new = refl
all_different front (x ∷ rest) others fresh apart all few new =
    let moved : (front ++ x ∷ []) ++ rest ≡ front ++ x ∷ rest = moves front in
    and_from (not (is_among x rest)) (differ rest)
    (elim (cases_Bool (is_among x rest)) [
      | inr other ↦ ap not other
      | inl twice ↦
          let fewer : length (fresh ∷ (front ++ rest)) ≤ length others = omega (arith, few, length-append front (x ∷ rest), length-append front rest) in
          let there : is_among fresh others ≡ true =
          all_of_them others (fresh ∷ (front ++ rest)) apart
          (are_among-each others (fresh ∷ (front ++ rest)) (λ p is. or_right (eqb fresh p) (is_among p (front ++ rest)) (still_among p x front rest twice (all p is))))
          fewer fresh (or_left (eqb fresh fresh) (is_among fresh (front ++ rest)) (eq-eqb fresh fresh refl)) in
          absurd (both_ways (is_among fresh others) new there)
    ])
    (all_different (front ++ x ∷ []) rest others fresh apart (λ p is. ap (is_among p) moved ∙ all p is) (omega (arith, few, ap (λ (l : List ℕ). length l) moved)) new) where
      moves : (front : List ℕ) → (front ++ x ∷ []) ++ rest ≡ front ++ x ∷ rest
      moves [] = refl
      moves (y ∷ front) = ap (λ t. y ∷ t) (moves front)
