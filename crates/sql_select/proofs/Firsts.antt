-- Items at their first appearance, one item more at a time.
use Rattle.std.proofs.Common.{◌≡◌, ◌∙◌, Bool, true, false, not, ◌||◌, List, [], ◌∷◌, ◌++◌, refl, sym, ap, subst}
use Rattle.std.specs.List.{AllByRecursion, filter, list_any}
use Rattle.std.specs.Cmp.{IsEquivalence}
use Rattle.indexmap.specs.IndexSet.{insert_key}
use Rattle.std.proofs.lemmas.List.Elements.{filter-append}
use Rattle.sql_select.specs.Groups.{firsts}

pub filter_yes : {X : Type 0} (p : X → Bool) (x : X) (xs : List X) → p x ≡ true → filter p (x ∷ xs) ≡ x ∷ filter p xs
filter_yes p x xs e = rw e refl

pub filter_no : {X : Type 0} (p : X → Bool) (x : X) (xs : List X) → p x ≡ false → filter p (x ∷ xs) ≡ filter p xs
filter_no p x xs e = rw e refl

-- what holds of each item holds of each that passes
all_filter_by : {X : Type 0} (P : X → Type 0) (p : X → Bool) (x : X) (xs : List X) (b : Bool) → p x ≡ b → AllByRecursion P (x ∷ xs) → AllByRecursion P (filter p xs) → AllByRecursion P (filter p (x ∷ xs))
all_filter_by {X} P p x xs true e all ih = let Q : List X → Type 0 = λ l. AllByRecursion P l in subst Q (sym (filter_yes p x xs e)) (all.0, ih)
all_filter_by {X} P p x xs false e all ih = let Q : List X → Type 0 = λ l. AllByRecursion P l in subst Q (sym (filter_no p x xs e)) ih

pub all_filter : {X : Type 0} (P : X → Type 0) (p : X → Bool) (xs : List X) → AllByRecursion P xs → AllByRecursion P (filter p xs)
all_filter P p [] all = tt
all_filter P p (x ∷ xs) all = all_filter_by P p x xs (p x) refl all (all_filter P p xs all.1)

pub insert_there : {X : Type 0} (same : X → X → Bool) (ks : List X) (x : X) → list_any (same x) ks ≡ true → insert_key same ks x ≡ ks
insert_there same ks x e = rw e refl

pub insert_new : {X : Type 0} (same : X → X → Bool) (ks : List X) (x : X) → list_any (same x) ks ≡ false → insert_key same ks x ≡ ks ++ x ∷ []
insert_new same ks x e = rw e refl

module _ {X : Type 0} (p q : X → Bool) (keeps : (y : X) → p y ≡ false → q y ≡ false) where
  any_step : (x : X) (xs : List X) (a : Bool) → p x ≡ a → list_any q (filter p xs) ≡ list_any q xs → list_any q (filter p (x ∷ xs)) ≡ list_any q (x ∷ xs)
  any_step x xs true e ih = ap (list_any q) (filter_yes p x xs e) ∙ ap (λ b. q x || b) ih
  any_step x xs false e ih = ap (list_any q) (filter_no p x xs e) ∙ ih ∙ sym (ap (λ b. b || list_any q xs) (keeps x e))

  -- a filter that drops nothing that a test asks for leaves the answer of that test
  any_filter : (xs : List X) → list_any q (filter p xs) ≡ list_any q xs
  any_filter [] = refl
  any_filter (x ∷ xs) = any_step x xs (p x) refl (any_filter xs)

not_false : (b : Bool) → not b ≡ false → b ≡ true
not_false true e = refl
not_false false e = cc

module _ {X : Type 0} (same : X → X → Bool) (o : IsEquivalence same) where
  abbrev others : X → X → Bool
  others y z = not (same z y)

  -- what is the same as y is not the same as x, where x and y are not the same
  unlike : (x y z : X) → same x y ≡ false → others y z ≡ false → same x z ≡ false
  unlike x y z e h = o.symm x z ∙ o.congr z y x (not_false (same z y) h) ∙ o.symm y x ∙ e

  any_at : (x y : X) (xs : List X) (b : Bool) → same x y ≡ b → list_any (same x) (firsts same xs) ≡ list_any (same x) xs → list_any (same x) (firsts same (y ∷ xs)) ≡ list_any (same x) (y ∷ xs)
  any_at x y xs true e ih = rw e refl
  any_at x y xs false e ih =
      ap (λ b. same x y || b) (any_filter (others y) (same x) (λ z h. unlike x y z e h) (firsts same xs) ∙ ih)

  -- an item is the same as a first appearance exactly where it is the same as an item
  pub any_firsts : (x : X) (xs : List X) → list_any (same x) (firsts same xs) ≡ list_any (same x) xs
  any_firsts x [] = refl
  any_firsts x (y ∷ xs) = any_at x y xs (same x y) refl (any_firsts x xs)

  -- an item that is there already
  more_there : (x y : X) (ys : List X) → list_any (same x) ys ≡ true → firsts same (ys ++ x ∷ []) ≡ insert_key same (firsts same ys) x
      → firsts same ((y ∷ ys) ++ x ∷ []) ≡ insert_key same (firsts same (y ∷ ys)) x
  more_there x y ys a ih =
      let there : list_any (same x) (firsts same ys) ≡ true = any_firsts x ys ∙ a in
      let whole : list_any (same x) (firsts same (y ∷ ys)) ≡ true = any_firsts x (y ∷ ys) ∙ ap (λ b. same x y || b) a ∙ or_true (same x y) in
      ap (λ l. y ∷ filter (others y) l) (ih ∙ insert_there same (firsts same ys) x there) ∙ sym (insert_there same (firsts same (y ∷ ys)) x whole)
    where
      or_true : (b : Bool) → (b || true) ≡ true
      or_true true = refl
      or_true false = refl

  -- an item that is not among those behind the first
  more_new : (x y : X) (ys : List X) (b : Bool) → list_any (same x) ys ≡ false → same x y ≡ b → firsts same (ys ++ x ∷ []) ≡ insert_key same (firsts same ys) x
      → firsts same ((y ∷ ys) ++ x ∷ []) ≡ insert_key same (firsts same (y ∷ ys)) x
  more_new x y ys true a e ih =
      let absent : list_any (same x) (firsts same ys) ≡ false = any_firsts x ys ∙ a in
      let whole : list_any (same x) (firsts same (y ∷ ys)) ≡ true = ap (λ c. c || list_any (same x) (filter (others y) (firsts same ys))) e in
      ap (λ l. y ∷ filter (others y) l) (ih ∙ insert_new same (firsts same ys) x absent)
      ∙ ap (λ l. y ∷ l) (filter-append (others y) (firsts same ys) (x ∷ []) ∙ ap (λ l. filter (others y) (firsts same ys) ++ l) (filter_no (others y) x [] (ap not e)) ∙ append_none (filter (others y) (firsts same ys)))
      ∙ sym (insert_there same (firsts same (y ∷ ys)) x whole)
    where
      append_none : (l : List X) → l ++ [] ≡ l
      append_none [] = refl
      append_none (z ∷ zs) = ap (λ l. z ∷ l) (append_none zs)
  more_new x y ys false a e ih =
      let absent : list_any (same x) (firsts same ys) ≡ false = any_firsts x ys ∙ a in
      let whole : list_any (same x) (firsts same (y ∷ ys)) ≡ false = any_firsts x (y ∷ ys) ∙ ap (λ c. c || list_any (same x) ys) e ∙ a in
      ap (λ l. y ∷ filter (others y) l) (ih ∙ insert_new same (firsts same ys) x absent)
      ∙ ap (λ l. y ∷ l) (filter-append (others y) (firsts same ys) (x ∷ []) ∙ ap (λ l. filter (others y) (firsts same ys) ++ l) (filter_yes (others y) x [] (ap not e)))
      ∙ sym (insert_new same (firsts same (y ∷ ys)) x whole)

  more_by : (x y : X) (ys : List X) (a : Bool) → list_any (same x) ys ≡ a → firsts same (ys ++ x ∷ []) ≡ insert_key same (firsts same ys) x
      → firsts same ((y ∷ ys) ++ x ∷ []) ≡ insert_key same (firsts same (y ∷ ys)) x
  more_by x y ys true a ih = more_there x y ys a ih
  more_by x y ys false a ih = more_new x y ys (same x y) a refl ih

  -- first appearances with an item more
  pub firsts_more : (xs : List X) (x : X) → firsts same (xs ++ x ∷ []) ≡ insert_key same (firsts same xs) x
  firsts_more [] x = refl
  firsts_more (y ∷ ys) x = more_by x y ys (list_any (same x) ys) refl (firsts_more ys x)
