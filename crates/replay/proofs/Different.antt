-- Different pages among as many others are all of these.
use Rattle.std.proofs.Common.{◌≡◌, ◌⊎◌, inl, inr, ◌≤◌, ◌+◌, ◌∙◌, ◌||◌, ℕ, suc, Bool, true, false, cond, not, eqb, List, [], ◌∷◌, length, refl, sym, ap, arith}
use Rattle.std.proofs.lemmas.Bool.{eqb-true, eq-eqb, and_parts, and_from}
use Rattle.history.specs.Writes.{is_among}
use Rattle.replay.specs.Joined.{differ, are_among}

-- the pages without the first that is this one
abbrev without : ℕ → List ℕ → List ℕ
without page [] = []
without page (other ∷ pages) = cond (eqb other page) pages (other ∷ without page pages)

length-without : (page : ℕ) (pages : List ℕ) → is_among page pages ≡ true → length pages ≡ length (without page pages) + 1
length-without page [] is = absurd cc
length-without page (other ∷ pages) is = go (eqb other page) is (length-without page pages) where
  go : (b : Bool) → (b || is_among page pages) ≡ true → (is_among page pages ≡ true → length pages ≡ length (without page pages) + 1) → suc (length pages) ≡ length (cond b pages (other ∷ without page pages)) + 1
  go true is again = omega arith
  go false is again = omega (arith, again is)

still_among : (page other : ℕ) (pages : List ℕ) → eqb page other ≡ false → is_among other pages ≡ true → is_among other (without page pages) ≡ true
still_among page other [] apart is = absurd cc
still_among page other (first ∷ pages) apart is = go (eqb first page) refl (still_among page other pages apart) where
  go : (b : Bool) → eqb first page ≡ b → (is_among other pages ≡ true → is_among other (without page pages) ≡ true) → is_among other (cond b pages (first ∷ without page pages)) ≡ true
  go true e again = elim_or (eqb first other) refl is where
    elim_or : (d : Bool) → eqb first other ≡ d → (d || is_among other pages) ≡ true → is_among other pages ≡ true
    elim_or true f all = absurd (let same : page ≡ other = sym (eqb-true first page e) ∙ eqb-true first other f in let yes : eqb page other ≡ true = eq-eqb page other same in cc)
    elim_or false f all = all
  go false e again = rest (eqb first other) is where
    rest : (d : Bool) → (d || is_among other pages) ≡ true → (d || is_among other (without page pages)) ≡ true
    rest true all = refl
    rest false all = again all

either : (a b : Bool) → (a || b) ≡ true → (a ≡ true) ⊎ (b ≡ true)
either true b e = inl refl
either false b e = inr e

true_or_false : (b : Bool) → (b ≡ true) ⊎ (b ≡ false)
true_or_false true = inl refl
true_or_false false = inr refl

or_first : (a b : Bool) → a ≡ true → (a || b) ≡ true
or_first true b e = refl
or_first false b e = absurd cc

or_rest : (a b : Bool) → b ≡ true → (a || b) ≡ true
or_rest true b e = refl
or_rest false b e = e

not_true : (b : Bool) → not b ≡ true → b ≡ false
not_true true e = absurd cc
not_true false e = refl

true_false : (b : Bool) → b ≡ true → b ≡ false → ⊥
true_false b e f = absurd cc

not_first : (first other : ℕ) (pages : List ℕ) → is_among first pages ≡ false → is_among other pages ≡ true → eqb first other ≡ false
not_first first other pages none is =
    elim (true_or_false (eqb first other)) [
      | inl e ↦ absurd (true_false (is_among first pages) (ap (λ p. is_among p pages) (eqb-true first other e) ∙ is) none)
      | inr f ↦ f
    ]

each_among : (pages others : List ℕ) → ((p : ℕ) → is_among p pages ≡ true → is_among p others ≡ true) → are_among pages others ≡ true
each_among [] others all = refl
each_among (page ∷ pages) others all =
    and_from (is_among page others) (are_among pages others) (all page (or_first (eqb page page) (is_among page pages) (eq-eqb page page refl))) (each_among pages others (λ p is. all p (or_rest (eqb page p) (is_among p pages) is)))

among_each : (pages others : List ℕ) (p : ℕ) → are_among pages others ≡ true → is_among p pages ≡ true → is_among p others ≡ true
among_each [] others p all is = absurd cc
among_each (page ∷ pages) others p all is =
    let both = and_parts (is_among page others) (are_among pages others) all in
    elim (either (eqb page p) (is_among p pages) is) [
      | inl e ↦ ap (λ q. is_among q others) (sym (eqb-true page p e)) ∙ both.0
      | inr rest ↦ among_each pages others p both.1 rest
    ]

-- a page less on both sides
all_still : (first : ℕ) (pages others : List ℕ) → is_among first pages ≡ false → are_among pages others ≡ true → are_among pages (without first others) ≡ true
all_still first pages others none all =
    each_among pages (without first others) (λ p is. still_among first p others (not_first first p pages none is) (among_each pages others p all is))

pub all_of_them : (pages others : List ℕ) → differ pages ≡ true → are_among pages others ≡ true → length others ≤ length pages → (p : ℕ) → is_among p others ≡ true → is_among p pages ≡ true
all_of_them [] [] apart all few p is = absurd cc
all_of_them [] (other ∷ others) apart all few p is = absurd (omega arith)
all_of_them (page ∷ pages) others apart all few p is =
    let split = and_parts (not (is_among page pages)) (differ pages) apart in
    let both = and_parts (is_among page others) (are_among pages others) all in
    let none : is_among page pages ≡ false = not_true (is_among page pages) split.0 in
    let fewer : length (without page others) ≤ length pages = omega (arith, length-without page others both.0, few) in
    elim (true_or_false (eqb page p)) [
      | inl e ↦ or_first (eqb page p) (is_among p pages) e
      | inr f ↦ or_rest (eqb page p) (is_among p pages) (all_of_them pages (without page others) split.1 (all_still page pages others none both.1) fewer p (still_among page p others f is))
    ]

same_truth : (a b : Bool) → (a ≡ true → b ≡ true) → (b ≡ true → a ≡ true) → a ≡ b
same_truth true b f g = sym (f refl)
same_truth false true f g = g refl
same_truth false false f g = refl

-- different pages, each among as many others: the same pages
pub same_pages : (pages others : List ℕ) → differ pages ≡ true → are_among pages others ≡ true → length others ≤ length pages → (p : ℕ) → is_among p pages ≡ is_among p others
same_pages pages others apart all few p = same_truth (is_among p pages) (is_among p others) (among_each pages others p all) (all_of_them pages others apart all few p)
