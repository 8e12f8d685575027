-- The tables choose right: what a computed check of each rule gives.
use Rattle.std.proofs.Common.{◌≡◌, ◌≢◌, ◌<◌, ◌+◌, ◌⊎◌, ◌∙◌, inl, inr, ℕ, zero, suc, Bool, true, false, Some, List, [], ◌∷◌, ◌++◌, nat_lt, ◌&&◌, ◌||◌, ◌==◌, if◌then◌else◌, refl, sym, ap, subst, arith, append_assoc}
use Rattle.std.proofs.lemmas.Bool.{eqb-true, ltb-true}
use Rattle.sql_lexer.specs.declared.token.Token.{Token}
use Rattle.sql_grammar.specs.declared.grammar.Class.{Class}
use Rattle.sql_grammar.specs.declared.grammar.Class.TheVariants.{End}
use Rattle.sql_parts.specs.declared.action.Op.{Op}
use Rattle.sql_grammar.specs.declared.grammar.Room.TheVariants.{One}
use Rattle.sql_grammar.specs.declared.grammar.Rule.{Rule}
use Rattle.sql_grammar.specs.declared.grammar.Rule.TheVariants as rule
use Rattle.sql_grammar.specs.declared.grammar.Symbol.{Symbol}
use Rattle.sql_grammar.specs.declared.grammar.Symbol.TheVariants.{Take, Put, Use}
use Rattle.sql_grammar.specs.Derivation.{Derives, Done, Taken, Emitted, Replaced, IsIn}
use Rattle.sql_grammar.specs.Grammar.{sides}
use Rattle.sql_grammar.specs.Machine.{heads, look, IsFine, rank}
use Rattle.sql_grammar.specs.Table.{choice, expansion, first, follow, level, null, pick}
use Rattle.sql_grammar.proofs.Classes.{number, same_class}
use Rattle.sql_parts.proofs.Common.{both_left, both_right, nth, some_injective}

-- sets as lists
abbrev pub has : List Class → Class → Bool
has [] k = false
has (x ∷ xs) k = (number k == number x) || has xs k

abbrev pub all : {X : Type 0} → (X → Bool) → List X → Bool
all p [] = true
all p (x ∷ xs) = p x && all p xs

pub IsIn-append : {X : Type 0} (x : X) (xs ys : List X) → IsIn x (xs ++ ys) → IsIn x xs ⊎ IsIn x ys
IsIn-append x [] ys h = inr h
IsIn-append x (z ∷ xs) ys (inl e) = inl (inl e)
IsIn-append x (z ∷ xs) ys (inr h) = elim (IsIn-append x xs ys h) [ inl a ↦ inl (inr a) | inr b ↦ inr b ]

IsIn-left : {X : Type 0} (x : X) (xs ys : List X) → IsIn x xs → IsIn x (xs ++ ys)
IsIn-left x [] ys h = absurd h
IsIn-left x (z ∷ xs) ys (inl e) = inl e
IsIn-left x (z ∷ xs) ys (inr h) = inr (IsIn-left x xs ys h)

IsIn-right : {X : Type 0} (x : X) (xs ys : List X) → IsIn x ys → IsIn x (xs ++ ys)
IsIn-right x [] ys h = h
IsIn-right x (z ∷ xs) ys h = inr (IsIn-right x xs ys h)

member_all : {X : Type 0} (p : X → Bool) (x : X) (xs : List X) → all p xs ≡ true → IsIn x xs → p x ≡ true
member_all p x [] h i = absurd i
member_all p x (z ∷ xs) h (inl e) = ap p e ∙ both_left (p z) (all p xs) h
member_all p x (z ∷ xs) h (inr i) = member_all p x xs (both_right (p z) (all p xs) h) i

same_or : (k x : Class) (rest b : Bool) → (number k == number x) ≡ b → (b || rest) ≡ true → (k ≡ x) ⊎ (rest ≡ true)
same_or k x rest true e h = inl (same_class k x e)
same_or k x rest false e h = inr h

has-IsIn : (xs : List Class) (k : Class) → has xs k ≡ true → IsIn k xs
has-IsIn [] k h = cc
has-IsIn (x ∷ xs) k h = elim (same_or k x (has xs k) (number k == number x) refl h) [ inl e ↦ inl e | inr r ↦ inr (has-IsIn xs k r) ]

within : (xs ys : List Class) → all (has ys) xs ≡ true → (k : Class) → IsIn k xs → IsIn k ys
within xs ys h k i = has-IsIn ys k (member_all (has ys) k xs h i)

-- what a right side begins with, and whether it may take no token
abbrev firsts : List Symbol → List Class
firsts [] = []
firsts (Take k ∷ ss) = k ∷ []
firsts (Put a ∷ ss) = firsts ss
firsts (Use r ∷ ss) = first r ++ (if null r then firsts ss else [])

abbrev nulls : List Symbol → Bool
nulls [] = true
nulls (Take k ∷ ss) = false
nulls (Put a ∷ ss) = nulls ss
nulls (Use r ∷ ss) = null r && nulls ss

abbrev height : List Symbol → ℕ
height [] = 0
height (Take k ∷ ss) = 0
height (Put a ∷ ss) = suc (height ss)
height (Use r ∷ ss) = level r + (if null r then height ss else 0)

abbrev if_null : Bool → Bool → Bool
if_null true b = b
if_null false b = true

abbrev is_token : Class → Bool
is_token k = if number k == number End then false else true

abbrev fits : Rule → List Symbol → Bool
fits r [] = true
fits r (Take k ∷ ss) = is_token k && fits r ss
fits r (Put a ∷ ss) = fits r ss
fits r (Use q ∷ ss) = (all (has (follow q)) (firsts ss) && if_null (nulls ss) (all (has (follow q)) (follow r))) && fits r ss

abbrev chosen : Rule → ℕ → Class → Bool
chosen r i k = choice r k == i

abbrev check : Rule → ℕ → List Symbol → Bool
check r i side =
    ((((all (has (first r)) (firsts side) && if_null (nulls side) (null r)) && (all (chosen r i) (firsts side) && if_null (nulls side) (all (chosen r i) (follow r)))) && fits r side) && nat_lt (height side) (level r))

abbrev all_at : {X : Type 0} → (ℕ → X → Bool) → List X → Bool
all_at p [] = true
all_at p (x ∷ xs) = p zero x && all_at (λ i. p (suc i)) xs

abbrev some_in : {X : Type 0} → List X → Bool
some_in [] = false
some_in (x ∷ xs) = true

-- the computed check: one line for each rule, or for all that are left
right : (r : Rule) → all_at (check r) (sides r) ≡ true
right rule.Sentence = refl
right (rule.MoreColumns One) = refl
right _ = refl

has_side : (r : Rule) → some_in (sides r) ≡ true
has_side rule.Sentence = refl
has_side _ = refl

pick-IsIn : (n : ℕ) (xs : List (List Symbol)) → some_in xs ≡ true → IsIn (pick n xs) xs
pick-IsIn n [] h = cc
pick-IsIn n (x ∷ []) h = inl refl
pick-IsIn zero (x ∷ y ∷ xs) h = inl refl
pick-IsIn (suc n) (x ∷ y ∷ xs) h = inr (pick-IsIn n (y ∷ xs) refl)

pub side-IsIn : (n : ℕ) (r : Rule) → IsIn (pick n (sides r)) (sides r)
side-IsIn n r = pick-IsIn n (sides r) (has_side r)

nth-pick : (n : ℕ) (xs : List (List Symbol)) (x : List Symbol) → nth n xs ≡ Some x → pick n xs ≡ x
nth-pick n [] x h = cc
nth-pick zero (y ∷ []) x h = some_injective h
nth-pick (suc n) (y ∷ []) x h = cc
nth-pick zero (y ∷ z ∷ xs) x h = some_injective h
nth-pick (suc n) (y ∷ z ∷ xs) x h = nth-pick n (z ∷ xs) x h

IsIn-nth : {X : Type 0} (xs : List X) (x : X) → IsIn x xs → (n : ℕ) × (nth n xs ≡ Some x)
IsIn-nth [] x h = absurd h
IsIn-nth (y ∷ xs) x (inl e) = (zero, ap Some (sym e))
IsIn-nth (y ∷ xs) x (inr h) = let r = IsIn-nth xs x h in (suc r.0, r.1)

all_at-nth : {X : Type 0} (p : ℕ → X → Bool) (xs : List X) (n : ℕ) (x : X) → all_at p xs ≡ true → nth n xs ≡ Some x → p n x ≡ true
all_at-nth p [] n x h e = cc
all_at-nth p (y ∷ xs) zero x h e = ap (p zero) (sym (some_injective e)) ∙ both_left (p zero y) (all_at (λ i. p (suc i)) xs) h
all_at-nth p (y ∷ xs) (suc n) x h e = all_at-nth (λ i. p (suc i)) xs n x (both_right (p zero y) (all_at (λ i. p (suc i)) xs) h) e

-- what the check says of one right side
record Right (r : Rule) (side : List Symbol) : Type 0 where
  begins : (k : Class) → IsIn k (firsts side) → IsIn k (first r)
  null : nulls side ≡ true → Rattle.sql_grammar.specs.Table.null r ≡ true
  first_choice : (k : Class) → IsIn k (firsts side) → expansion r k ≡ side
  null_choice : nulls side ≡ true → (k : Class) → IsIn k (follow r) → expansion r k ≡ side
  fits_in : fits r side ≡ true
  lower : height side < level r

if_null_use : (a b : Bool) → if_null a b ≡ true → a ≡ true → b ≡ true
if_null_use true b h e = h
if_null_use false b h e = cc

picked : (r : Rule) (i : ℕ) (side : List Symbol) (k : Class) → nth i (sides r) ≡ Some side → chosen r i k ≡ true → expansion r k ≡ side
picked r i side k e h = ap (λ n. pick n (sides r)) (eqb-true (choice r k) i h) ∙ nth-pick i (sides r) side e

right_at : (r : Rule) (i : ℕ) (side : List Symbol) → nth i (sides r) ≡ Some side → Right r side
right_at r i side e =
    let c = all_at-nth (check r) (sides r) i side (right r) e in
    let c1 = all (has (first r)) (firsts side) in
    let c2 = if_null (nulls side) (null r) in
    let c3 = all (chosen r i) (firsts side) in
    let c4 = if_null (nulls side) (all (chosen r i) (follow r)) in
    let c5 = fits r side in
    let c6 = nat_lt (height side) (level r) in
    let h5 = both_left (((c1 && c2) && (c3 && c4)) && c5) c6 c in
    let h4 = both_left ((c1 && c2) && (c3 && c4)) c5 h5 in
    let h12 = both_left (c1 && c2) (c3 && c4) h4 in
    let h34 = both_right (c1 && c2) (c3 && c4) h4 in
    record {
      begins = within (firsts side) (first r) (both_left c1 c2 h12);
      null = if_null_use (nulls side) (null r) (both_right c1 c2 h12);
      first_choice = λ k m. picked r i side k e (member_all (chosen r i) k (firsts side) (both_left c3 c4 h34) m);
      null_choice = λ n k m. picked r i side k e (member_all (chosen r i) k (follow r) (if_null_use (nulls side) (all (chosen r i) (follow r)) (both_right c3 c4 h34) n) m);
      fits_in = both_right ((c1 && c2) && (c3 && c4)) c5 h5;
      lower = ltb-true (height side) (level r) (both_right (((c1 && c2) && (c3 && c4)) && c5) c6 c);
    }

right_side : (r : Rule) (side : List Symbol) → IsIn side (sides r) → Right r side
right_side r side h = let p = IsIn-nth (sides r) side h in right_at r p.0 side p.1

-- what a list of symbols with others behind it begins with
if_and : (a b : Bool) (xs : List Class) → (if a then (if b then xs else []) else []) ≡ (if a && b then xs else [])
if_and true b xs = refl
if_and false b xs = refl

if_append : (a : Bool) (xs ys : List Class) → (if a then (xs ++ ys) else []) ≡ (if a then xs else []) ++ (if a then ys else [])
if_append true xs ys = refl
if_append false xs ys = refl

heads-append : (a b : List Symbol) → heads (a ++ b) ≡ firsts a ++ (if nulls a then heads b else [])
heads-append [] b = refl
heads-append (Take k ∷ a) b = refl
heads-append (Put o ∷ a) b = heads-append a b
heads-append (Use r ∷ a) b =
    ap (λ x. first r ++ (if null r then x else [])) (heads-append a b)
    ∙ ap (λ x. first r ++ x) (if_append (null r) (firsts a) (if nulls a then heads b else []) ∙ ap (λ x. (if null r then firsts a else []) ++ x) (if_and (null r) (nulls a) (heads b)))
    ∙ sym (append_assoc (first r) (if null r then firsts a else []) (if null r && nulls a then heads b else []))

in_if : (n : Bool) (k : Class) (xs : List Class) → IsIn k (if n then xs else []) → (n ≡ true) × IsIn k xs
in_if true k xs h = (refl, h)
in_if false k xs h = absurd h

if_in : (n : Bool) (k : Class) (xs : List Class) → n ≡ true → IsIn k xs → IsIn k (if n then xs else [])
if_in true k xs e h = h
if_in false k xs e h = cc

in_heads : (a b : List Symbol) (k : Class) → IsIn k (heads (a ++ b)) → IsIn k (firsts a) ⊎ ((nulls a ≡ true) × IsIn k (heads b))
in_heads a b k h =
    let P : List Class → Type 0 = λ xs. IsIn k xs in
    elim (IsIn-append k (firsts a) (if nulls a then heads b else []) (subst P (heads-append a b) h)) [ inl x ↦ inl x | inr y ↦ inr (in_if (nulls a) k (heads b) y) ]

-- the tokens that follow from symbols begin as they say
pub starts : {ss : List Symbol} {ts : List Token} {os : List Op} → Derives ss ts os → IsIn (look ts) (heads ss)
starts Done = inl refl
starts (Taken e o d) = inl e
starts (Emitted d) = starts d
starts (Replaced {r} side {ss} {ts} i d) =
    let q = right_side r side i in
    elim (in_heads side ss (look ts) (starts d)) [
      | inl a ↦ IsIn-left (look ts) (first r) (if null r then heads ss else []) (q.begins (look ts) a)
      | inr b ↦ IsIn-right (look ts) (first r) (if null r then heads ss else []) (if_in (null r) (look ts) (heads ss) (q.null b.0) b.1)
    ]

-- where the symbols are fine, a right side that can go on is the chosen one
pub is_chosen : (r : Rule) (ss : List Symbol) (side : List Symbol) (ts : List Token) (os : List Op) → IsFine (Use r ∷ ss) → IsIn side (sides r) → Derives (side ++ ss) ts os → expansion r (look ts) ≡ side
is_chosen r ss side ts os fine i d =
    let q = right_side r side i in
    elim (in_heads side ss (look ts) (starts d)) [ inl a ↦ q.first_choice (look ts) a | inr b ↦ q.null_choice b.0 (look ts) (fine.0 (look ts) b.1) ]

not_the_end : (k : Class) (b : Bool) → (number k == number End) ≡ b → (if b then false else true) ≡ true → k ≢ End
not_the_end k true e h = cc
not_the_end k false e h = λ q. let t : (number End == number End) ≡ false = ap (λ x. number x == number End) (sym q) ∙ e in cc

fine_onto : (r : Rule) (side ss : List Symbol) → fits r side ≡ true → ((k : Class) → IsIn k (heads ss) → IsIn k (follow r)) → IsFine ss → IsFine (side ++ ss)
fine_onto r [] ss h f g = g
fine_onto r (Take k ∷ side) ss h f g =
    (not_the_end k (number k == number End) refl (both_left (is_token k) (fits r side) h), fine_onto r side ss (both_right (is_token k) (fits r side) h) f g)
fine_onto r (Put a ∷ side) ss h f g = fine_onto r side ss h f g
fine_onto r (Use q ∷ side) ss h f g =
    let a = all (has (follow q)) (firsts side) in
    let b = if_null (nulls side) (all (has (follow q)) (follow r)) in
    let ab = both_left (a && b) (fits r side) h in (
      (λ k m. elim (in_heads side ss k m) [
        | inl x ↦ within (firsts side) (follow q) (both_left a b ab) k x
        | inr y ↦ within (follow r) (follow q) (if_null_use (nulls side) (all (has (follow q)) (follow r)) (both_right a b ab) y.0) k (f k y.1)
      ]),
      fine_onto r side ss (both_right (a && b) (fits r side) h) f g,
    )

pub fine_side : (r : Rule) (ss side : List Symbol) → IsFine (Use r ∷ ss) → IsIn side (sides r) → IsFine (side ++ ss)
fine_side r ss side fine i = fine_onto r side ss ((right_side r side i).fits_in) fine.0 fine.1

-- the steps before a token is taken
rank_if : (a b : Bool) (h n l : ℕ) → l + (if a then (h + (if b then n else 0)) else 0) ≡ (l + (if a then h else 0)) + (if a && b then n else 0)
rank_if true b h n l = omega arith
rank_if false b h n l = omega arith

rank-append : (a b : List Symbol) → rank (a ++ b) ≡ height a + (if nulls a then rank b else 0)
rank-append [] b = omega arith
rank-append (Take k ∷ a) b = omega arith
rank-append (Put o ∷ a) b = let ih = rank-append a b in omega (arith, ih)
rank-append (Use r ∷ a) b = ap (λ x. level r + (if null r then x else 0)) (rank-append a b) ∙ rank_if (null r) (nulls a) (height a) (rank b) (level r)

rank_less : (a b : Bool) (h n l : ℕ) → (a ≡ true → b ≡ true) → h < l → h + (if a then n else 0) < l + (if b then n else 0)
rank_less true true h n l e lt = omega arith
rank_less true false h n l e lt = let x : false ≡ true = e refl in cc
rank_less false true h n l e lt = omega arith
rank_less false false h n l e lt = omega arith

pub rank_falls : (r : Rule) (ss side : List Symbol) → IsIn side (sides r) → rank (side ++ ss) < rank (Use r ∷ ss)
rank_falls r ss side i =
    let q = right_side r side i in
    let P : ℕ → Type 0 = λ n. n < rank (Use r ∷ ss) in
    subst P (sym (rank-append side ss)) (rank_less (nulls side) (null r) (height side) (rank ss) (level r) q.null q.lower)
