-- Steps for each item of a list, of longer lists and by other steps.
use Rattle.std.proofs.Common.{◌≡◌, ◌∙◌, ◌+◌, ◌++◌, ℕ, zero, suc, Bool, true, false, cond, List, [], ◌∷◌, length, map, Some, Result, Ok, refl, ap, subst, arith}
use Rattle.std.specs.List.{Contains, find, range_with_len}
use Rattle.values.specs.declared.value.Value.{Value}
use Rattle.retro_base.specs.declared.refusal.Refusal.{Refusal}
use Rattle.relation.specs.Each.{each}
use Rattle.relation_laws.specs.Tables.{numbered}
use Rattle.relation_laws.proofs.Lists.{contains-head, contains-cons}

pub each-append : {A B : Type 0} (step : A → Result B Refusal → Type 0) (xs ys : List A) (zs ws : List B) → each step xs (Ok zs) → each step ys (Ok ws) → each step (xs ++ ys) (Ok (zs ++ ws))
each-append step [] ys zs ws h more =
    let same : [] ≡ zs = cc h in
    subst (λ l. each step ys (Ok (l ++ ws))) same more
each-append step (x ∷ xs) ys zs ws h more =
    let same : h.0 ∷ h.2.0 ≡ zs = cc (h.2.2) in
    (h.0, h.1, (h.2.0 ++ ws, each-append step xs ys h.2.0 ws h.2.1 more, ap (λ l. Ok (l ++ ws)) same))

pub each-weaken : {A B : Type 0} (step other : A → Result B Refusal → Type 0) (xs : List A) (ys : List B) → ((x : A) (y : B) → Contains ys y → step x (Ok y) → other x (Ok y)) → each step xs (Ok ys) → each other xs (Ok ys)
each-weaken step other [] ys go h = h
each-weaken step other (x ∷ xs) ys go h =
    let same : h.0 ∷ h.2.0 ≡ ys = cc (h.2.2) in
    (h.0, go x h.0 (subst (λ l. Contains l h.0) same (contains-head h.0 h.2.0)) h.1, (h.2.0, each-weaken step other xs h.2.0 (λ a b has. go a b (subst (λ l. Contains l b) same (contains-cons b h.0 h.2.0 has))) h.2.1, h.2.2))

-- by another step, of which something else is made
pub each-map : {A B : Type 0} (step other : A → Result B Refusal → Type 0) (f : B → B) (xs : List A) (ys : List B) → ((x : A) (y : B) → Contains ys y → step x (Ok y) → other x (Ok (f y))) → each step xs (Ok ys) → each other xs (Ok (map f ys))
each-map step other f [] ys go h =
    let same : [] ≡ ys = cc h in
    ap (λ l. Ok (map f l)) same
each-map step other f (x ∷ xs) ys go h =
    let same : h.0 ∷ h.2.0 ≡ ys = cc (h.2.2) in
    (f h.0, go x h.0 (subst (λ l. Contains l h.0) same (contains-head h.0 h.2.0)) h.1, (map f h.2.0, each-map step other f xs h.2.0 (λ a b has. go a b (subst (λ l. Contains l b) same (contains-cons b h.0 h.2.0 has))) h.2.1, ap (λ l. Ok (map f l)) same))

-- what is found stays found in a longer list
pub find-append : {A : Type 0} (test : A → Bool) (xs ys : List A) (x : A) → find test xs ≡ Some x → find test (xs ++ ys) ≡ Some x
find-append test [] ys x e = absurd cc
find-append test (z ∷ xs) ys x e = go (find-append test xs ys x) (test z) e
  where
    go : (find test xs ≡ Some x → find test (xs ++ ys) ≡ Some x) → (b : Bool) → cond b (Some z) (find test xs) ≡ Some x → cond b (Some z) (find test (xs ++ ys)) ≡ Some x
    go rest true h = h
    go rest false h = rest h

-- numbers in a row
pub range-append : (a n m : ℕ) → range_with_len a (n + m) ≡ range_with_len a n ++ range_with_len (a + n) m
range-append a zero m =
    let none : zero + m ≡ m = omega arith in
    let here : a ≡ a + zero = omega arith in
    ap (range_with_len a) none ∙ ap (λ (b : ℕ). range_with_len b m) here
range-append a (suc n) m =
    let more : suc n + m ≡ suc (n + m) = omega arith in
    let next : (a + 1) + n ≡ a + suc n = omega arith in
    ap (range_with_len a) more ∙ ap (λ (l : List ℕ). a ∷ l) (range-append (a + 1) n m) ∙ ap (λ (b : ℕ). a ∷ (range_with_len (a + 1) n ++ range_with_len b m)) next

pub range-numbered : (next : ℕ) (rows : List (List Value)) → map (λ (row : ℕ × List Value). row.0) (numbered next rows) ≡ range_with_len next (length rows)
range-numbered next [] = refl
range-numbered next (row ∷ rows) = ap (λ (l : List ℕ). next ∷ l) (range-numbered (next + 1) rows)

pub map-map : {A B C : Type 0} (f : A → B) (g : B → C) (xs : List A) → map g (map f xs) ≡ map (λ x. g (f x)) xs
map-map f g [] = refl
map-map f g (x ∷ xs) = ap (λ l. g (f x) ∷ l) (map-map f g xs)
