-- The list in order is the one list that rises and has its ties as they were, so a stable sort gives it.
use Rattle.std.proofs.Common.{◌≡◌, ◌∙◌, ◌<◌, ◌≤◌, ◌⊎◌, inl, inr, ℕ, zero, suc, Bool, true, false, not, ◌&&◌, List, [], ◌∷◌, refl, sym, ap, subst, length, arith, get_or, add-one}
use Rattle.std.specs.List.{filter}
use Rattle.std.specs.List.Sorted.{IsSortedBy, IsStableBy, ties}
use Rattle.std.specs.Cmp.{IsStrictWeakOrder, IsTotalOrder}
use Rattle.std.proofs.lemmas.List.Sorted.{sorted_far, ranks_by}
use Rattle.std.proofs.lemmas.Fn.{always_returns_same}
use Rattle.std.specs.Fn.{Called, ComparesAs}
use Rattle.std.specs.Ordering.{is_lt}
use Rattle.std.specs.declared.cmp.Ordering.{Ordering}
use denote.Param.Members.{Mut}
use denote.Ref.{Bor}
use Rattle.sql_select.specs.Order.{placed, ordered}
use Rattle.sql_select.proofs.Firsts.{filter_yes, filter_no}

-- x stands in the list
abbrev pub Among : {X : Type 0} → X → List X → Type 0
Among x [] = ⊥
Among x (y ∷ ys) = (x ≡ y) ⊎ Among x ys

-- no later element is less than an earlier one
abbrev pub Below : {X : Type 0} → (X → X → Bool) → X → List X → Type 0
Below lt x ys = (y : _) → Among y ys → lt y x ≡ false

abbrev pub Rises : {X : Type 0} → (X → X → Bool) → List X → Type 0
Rises lt [] = Unit {0}
Rises lt (x ∷ xs) = Below lt x xs × Rises lt xs

heads_same : {X : Type 0} {x y : X} {xs ys : List X} → (x ∷ xs) ≡ (y ∷ ys) → x ≡ y
heads_same e = cc

tails_same : {X : Type 0} {x y : X} {xs ys : List X} → (x ∷ xs) ≡ (y ∷ ys) → xs ≡ ys
tails_same e = cc

choose_filter : {X : Type 0} (p : X → Bool) (x y : X) (ys : List X) (b : Bool) → p y ≡ b → Among x (filter p (y ∷ ys)) → (x ≡ y) ⊎ Among x (filter p ys)
choose_filter p x y ys true e h = let P : List _ → Type 0 = λ l. Among x l in subst P (filter_yes p y ys e) h
choose_filter p x y ys false e h = let P : List _ → Type 0 = λ l. Among x l in inr (subst P (filter_no p y ys e) h)

among_filter : {X : Type 0} (p : X → Bool) (x : X) (ys : List X) → Among x (filter p ys) → Among x ys
among_filter p x [] h = h
among_filter p x (y ∷ ys) h = elim (choose_filter p x y ys (p y) refl h) [ inl e ↦ inl e | inr r ↦ inr (among_filter p x ys r) ]

first_among : {X : Type 0} (p : X → Bool) (x : X) (xs : List X) → p x ≡ true → Among x (filter p (x ∷ xs))
first_among p x xs e = let P : List _ → Type 0 = λ l. Among x l in subst P (sym (filter_yes p x xs e)) (inl refl)

not_true : (b : Bool) → not b ≡ true → b ≡ false
not_true true e = cc
not_true false e = refl

and_left : (a b : Bool) → (a && b) ≡ true → a ≡ true
and_left true b e = refl
and_left false b e = cc

and_right : (a b : Bool) → (a && b) ≡ true → b ≡ true
and_right true b e = e
and_right false b e = cc

-- by index, as std says it
among_at : {X : Type 0} (xs : List X) (k : ℕ) (d : X) → k < length xs → Among (get_or xs k d) xs
among_at [] k d h = absurd (omega arith)
among_at (x ∷ xs) zero d h = inl refl
among_at (x ∷ xs) (suc k) d h = inr (among_at xs k d (omega arith))

module _ {X : Type 0} (lt : X → X → Bool) where
  sorted_at : (xs : List X) → Rises lt xs → (k : ℕ) (d : X) → suc k < length xs → lt (get_or xs (suc k) d) (get_or xs k d) ≡ false
  sorted_at [] r k d h = absurd (omega arith)
  sorted_at (x ∷ xs) r zero d h = r.0 (get_or xs zero d) (among_at xs zero d (omega arith))
  sorted_at (x ∷ xs) r (suc k) d h = sorted_at xs r.1 k d (omega arith)

  pub rises_sorted : (xs : List X) → Rises lt xs → IsSortedBy lt xs
  rises_sorted xs r k d low high = rw (add-one k) (sorted_at xs r k d (omega arith))

module _ {X : Type 0} (lt : X → X → Bool) (o : IsStrictWeakOrder lt) where
  irreflexive_by : (x : X) (b : Bool) → lt x x ≡ b → lt x x ≡ false
  irreflexive_by x true e = o.one_way x x e
  irreflexive_by x false e = e

  irreflexive : (x : X) → lt x x ≡ false
  irreflexive x = irreflexive_by x (lt x x) refl

  ties_by : (x y : X) → lt x y ≡ false → lt y x ≡ false → ties lt x y ≡ true
  ties_by x y e f = rw e (rw f refl)

  ties_self : (x : X) → ties lt x x ≡ true
  ties_self x = ties_by x x (irreflexive x) (irreflexive x)

  ties_left : (x y : X) → ties lt x y ≡ true → lt x y ≡ false
  ties_left x y e = not_true (lt x y) (and_left (not (lt x y)) (not (lt y x)) e)

  ties_right : (x y : X) → ties lt x y ≡ true → lt y x ≡ false
  ties_right x y e = not_true (lt y x) (and_right (not (lt x y)) (not (lt y x)) e)

  least : (z : X) (zs : List X) → Rises lt (z ∷ zs) → (y : X) → Among y (z ∷ zs) → lt y z ≡ false
  least z zs r y (inl e) = let P : X → Type 0 = λ v. lt v z ≡ false in subst P (sym e) (irreflexive z)
  least z zs r y (inr h) = r.0 y h

  tail_filters : (y z : X) (ys zs : List X) (x : X) → y ≡ z → filter (ties lt x) (y ∷ ys) ≡ filter (ties lt x) (z ∷ zs) → (b : Bool) → ties lt x y ≡ b → filter (ties lt x) ys ≡ filter (ties lt x) zs
  tail_filters y z ys zs x e h true t = tails_same (sym (filter_yes (ties lt x) y ys t) ∙ h ∙ filter_yes (ties lt x) z zs (ap (ties lt x) (sym e) ∙ t))
  tail_filters y z ys zs x e h false t = sym (filter_no (ties lt x) y ys t) ∙ h ∙ filter_no (ties lt x) z zs (ap (ties lt x) (sym e) ∙ t)

  unique : (ys zs : List X) → Rises lt ys → Rises lt zs → ((x : X) → filter (ties lt x) ys ≡ filter (ties lt x) zs) → ys ≡ zs
  unique [] [] r s h = refl
  unique [] (z ∷ zs) r s h = let P : List X → Type 0 = λ l. Among z l in absurd (subst P (sym (h z)) (first_among (ties lt z) z zs (ties_self z)))
  unique (y ∷ ys) [] r s h = let P : List X → Type 0 = λ l. Among y l in absurd (subst P (h y) (first_among (ties lt y) y ys (ties_self y)))
  unique (y ∷ ys) (z ∷ zs) r s h =
      let P : List X → Type 0 = λ l. Among y l in
      let Q : List X → Type 0 = λ l. Among z l in
      let y_in : Among y (z ∷ zs) = among_filter (ties lt y) y (z ∷ zs) (subst P (h y) (first_among (ties lt y) y ys (ties_self y))) in
      let z_in : Among z (y ∷ ys) = among_filter (ties lt z) z (y ∷ ys) (subst Q (sym (h z)) (first_among (ties lt z) z zs (ties_self z))) in
      let t : ties lt y z ≡ true = ties_by y z (least z zs s y y_in) (least y ys r z z_in) in
      let e : y ≡ z = heads_same (sym (filter_yes (ties lt y) y ys (ties_self y)) ∙ h y ∙ filter_yes (ties lt y) z zs t) in
      ap (λ v. v ∷ ys) e ∙ ap (λ l. z ∷ l) (unique ys zs r.1 s.1 (λ x. tail_filters y z ys zs x e (h x) (ties lt x y) refl))

  -- the definition is sorted and stable
  placed_yes : (x y : X) (ys : List X) → lt y x ≡ true → placed lt x (y ∷ ys) ≡ y ∷ placed lt x ys
  placed_yes x y ys e = rw e refl

  placed_no : (x y : X) (ys : List X) → lt y x ≡ false → placed lt x (y ∷ ys) ≡ x ∷ y ∷ ys
  placed_no x y ys e = rw e refl

  among_step : (x z y : X) (ys : List X) (b : Bool) → lt y x ≡ b → (Among z (placed lt x ys) → (z ≡ x) ⊎ Among z ys) → Among z (placed lt x (y ∷ ys)) → (z ≡ x) ⊎ Among z (y ∷ ys)
  among_step x z y ys true e ih h =
      let P : List X → Type 0 = λ l. Among z l in
      elim (subst P (placed_yes x y ys e) h) [ inl q ↦ inr (inl q) | inr r ↦ elim (ih r) [ inl q ↦ inl q | inr m ↦ inr (inr m) ] ]
  among_step x z y ys false e ih h =
      let P : List X → Type 0 = λ l. Among z l in
      subst P (placed_no x y ys e) h

  among_placed : (x z : X) (ys : List X) → Among z (placed lt x ys) → (z ≡ x) ⊎ Among z ys
  among_placed x z [] h = h
  among_placed x z (y ∷ ys) h = among_step x z y ys (lt y x) refl (among_placed x z ys) h

  rises_step : (x y : X) (ys : List X) (b : Bool) → lt y x ≡ b → Rises lt (y ∷ ys) → Rises lt (placed lt x ys) → Rises lt (placed lt x (y ∷ ys))
  rises_step x y ys true e r ih =
      let P : List X → Type 0 = λ l. Rises lt l in
      let Q : X → Type 0 = λ v. lt v y ≡ false in
      subst P (sym (placed_yes x y ys e)) ((λ z m. elim (among_placed x z ys m) [ inl q ↦ subst Q (sym q) (o.one_way y x e) | inr n ↦ r.0 z n ]), ih)
  rises_step x y ys false e r ih =
      let P : List X → Type 0 = λ l. Rises lt l in
      let Q : X → Type 0 = λ v. lt v x ≡ false in
      subst P (sym (placed_no x y ys e)) ((λ z m. elim m [ inl q ↦ subst Q (sym q) e | inr n ↦ o.chain z y x (r.0 z n) e ]), r)

  pub placed_rises : (x : X) (ys : List X) → Rises lt ys → Rises lt (placed lt x ys)
  placed_rises x [] r = ((λ y h. absurd h), tt)
  placed_rises x (y ∷ ys) r = rises_step x y ys (lt y x) refl r (placed_rises x ys r.1)

  pub ordered_rises : (xs : List X) → Rises lt (ordered lt xs)
  ordered_rises [] = tt
  ordered_rises (x ∷ xs) = placed_rises x (ordered lt xs) (ordered_rises xs)

  clash : (w x y : X) → ties lt w x ≡ true → ties lt w y ≡ true → lt y x ≡ true → ⊥
  clash w x y a b e = let f : lt y x ≡ false = o.chain y w x (ties_right w y b) (ties_left w x a) in let g : true ≡ false = sym e ∙ f in cc

  pass : (w x y : X) (ys : List X) (a b : Bool) → ties lt w x ≡ a → ties lt w y ≡ b → lt y x ≡ true → filter (ties lt w) (placed lt x ys) ≡ filter (ties lt w) (x ∷ ys)
      → filter (ties lt w) (y ∷ placed lt x ys) ≡ filter (ties lt w) (x ∷ y ∷ ys)
  pass w x y ys true true a b e ih = absurd (clash w x y a b e)
  pass w x y ys true false a b e ih =
      filter_no (ties lt w) y (placed lt x ys) b ∙ ih ∙ filter_yes (ties lt w) x ys a ∙ ap (λ l. x ∷ l) (sym (filter_no (ties lt w) y ys b)) ∙ sym (filter_yes (ties lt w) x (y ∷ ys) a)
  pass w x y ys false true a b e ih =
      filter_yes (ties lt w) y (placed lt x ys) b ∙ ap (λ l. y ∷ l) (ih ∙ filter_no (ties lt w) x ys a) ∙ sym (filter_yes (ties lt w) y ys b) ∙ sym (filter_no (ties lt w) x (y ∷ ys) a)
  pass w x y ys false false a b e ih =
      filter_no (ties lt w) y (placed lt x ys) b ∙ ih ∙ filter_no (ties lt w) x ys a ∙ sym (filter_no (ties lt w) y ys b) ∙ sym (filter_no (ties lt w) x (y ∷ ys) a)

  stable_step : (w x y : X) (ys : List X) (b : Bool) → lt y x ≡ b → filter (ties lt w) (placed lt x ys) ≡ filter (ties lt w) (x ∷ ys) → filter (ties lt w) (placed lt x (y ∷ ys)) ≡ filter (ties lt w) (x ∷ y ∷ ys)
  stable_step w x y ys true e ih = ap (filter (ties lt w)) (placed_yes x y ys e) ∙ pass w x y ys (ties lt w x) (ties lt w y) refl refl e ih
  stable_step w x y ys false e ih = ap (filter (ties lt w)) (placed_no x y ys e)

  placed_stable : (w x : X) (ys : List X) → filter (ties lt w) (placed lt x ys) ≡ filter (ties lt w) (x ∷ ys)
  placed_stable w x [] = refl
  placed_stable w x (y ∷ ys) = stable_step w x y ys (lt y x) refl (placed_stable w x ys)

  onto_by : (w x : X) (xs ys : List X) (b : Bool) → ties lt w x ≡ b → filter (ties lt w) xs ≡ filter (ties lt w) ys → filter (ties lt w) (x ∷ xs) ≡ filter (ties lt w) (x ∷ ys)
  onto_by w x xs ys true t e = filter_yes (ties lt w) x xs t ∙ ap (λ l. x ∷ l) e ∙ sym (filter_yes (ties lt w) x ys t)
  onto_by w x xs ys false t e = filter_no (ties lt w) x xs t ∙ e ∙ sym (filter_no (ties lt w) x ys t)

  pub ordered_stable : (w : X) (xs : List X) → filter (ties lt w) (ordered lt xs) ≡ filter (ties lt w) xs
  ordered_stable w [] = refl
  ordered_stable w (x ∷ xs) = placed_stable w x (ordered lt xs) ∙ onto_by w x (ordered lt xs) xs (ties lt w x) refl (ordered_stable w xs)

  -- from std's words by index
  abbrev Far : List X → Type 0
  Far xs = (i j : ℕ) (d : X) → i ≤ j → j < length xs → lt (get_or xs j d) (get_or xs i d) ≡ false

  at : (d y : X) (ys : List X) → Among y ys → (k : ℕ) × (k < length ys) × (get_or ys k d ≡ y)
  at d y [] h = absurd h
  at d y (x ∷ ys) (inl e) = (zero, omega arith, sym e)
  at d y (x ∷ ys) (inr h) = let r = at d y ys h in (suc r.0, omega (arith, r.1), r.2)

  rises_far : (xs : List X) → Far xs → Rises lt xs
  rises_far [] f = tt
  rises_far (x ∷ xs) f = (
    (λ y h. let r = at x y xs h in let P : X → Type 0 = λ v. lt v x ≡ false in subst P r.2 (f zero (suc r.0) x (omega arith) (omega (arith, r.1)))),
    rises_far xs (λ i j d le bound. f (suc i) (suc j) d (omega (arith, le)) (omega (arith, bound))),
  )

  pub is_ordered : (xs ys : List X) → IsSortedBy lt ys → IsStableBy lt xs ys → ys ≡ ordered lt xs
  is_ordered xs ys up stable = unique ys (ordered lt xs) (rises_far ys (λ i j d le bound. sorted_far lt o ys up i j d le bound)) (ordered_rises xs) (λ x. stable x ∙ sym (ordered_stable x xs))

-- what a stable sort by a closure that compares by a total order leaves
pub from_sort_by : {X F : Type 0} {g : Mut F (Bor X × (Bor X × Unit {0})) Ordering} {f : F} (cmp : X → X → Ordering) (o : IsTotalOrder cmp) (xs ys : List X)
    → ((lt : X → X → Bool) → IsStrictWeakOrder lt → ComparesAs g lt f → IsSortedBy lt ys) → ((lt : X → X → Bool) → IsStrictWeakOrder lt → ComparesAs g lt f → IsStableBy lt xs ys)
    → ((a : Bor X × (Bor X × Unit {0})) (r : Ordering) (f' : F) → Called g f a r f' → (r ≡ cmp a.0.now a.1.0.now) × (f' ≡ f)) → ys ≡ ordered (λ x y. is_lt (cmp x y)) xs
from_sort_by {X} {g = g} {f = f} cmp o xs ys up stable h =
    let lt : X → X → Bool = λ x y. is_lt (cmp x y) in
    let w = ranks_by o (λ x. x) in
    let k = always_returns_same g (λ a r. is_lt r ≡ is_lt (cmp a.0.now a.1.0.now)) f (λ a r f' q. (ap is_lt (h a r f' q).0, (h a r f' q).1)) in
    is_ordered lt w xs ys (up lt w k) (stable lt w k)
