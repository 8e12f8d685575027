-- Edits in rising page.
use Rattle.std.proofs.Common.{◌≡◌, ◌∙◌, ◌<◌, ◌≤◌, ◌+◌, ◌||◌, ◌&&◌, ℕ, zero, suc, Bool, true, false, cond, eqb, ltb, leb, List, [], ◌∷◌, length, set, get_or, refl, sym, ap, subst, arith, inl, inr}
use Rattle.std.specs.Prelude.{insert, ◌⊎◌, Some, None}
use Rattle.std.specs.List.Sorted.{IsPartitionedBy}
use Rattle.std.proofs.lemmas.Bool.{eqb-true, eqb-false, ltb-true, lt-ltb, leb-true, le-leb, eq-eqb, cases_lt}
use Rattle.std.proofs.lemmas.Bool.Decides.{nat_tests}
use Rattle.history.specs.declared.writes.PageImage.{PageImage}
use Rattle.history.specs.Writes.{pages_of, rises, is_among}
use Rattle.journal_book.specs.Works.{GoesTo, IsThere, own_edit, with_edit}

abbrev image_of : ℕ → PageImage
image_of page = record { page = page; bytes = [] }

both : (a b : Bool) → a && b ≡ true → (a ≡ true) × (b ≡ true)
both true b e = (refl, e)
both false b e = absurd cc

joined : (a b : Bool) → a ≡ true → b ≡ true → a && b ≡ true
joined true b e f = f
joined false b e f = absurd cc

-- each page is at least where the list may begin
rises_from : (least : ℕ) (images : List PageImage) (place : ℕ) (d : PageImage) → rises least (pages_of images) ≡ true → place < length images → least ≤ (get_or images place d).page
rises_from least [] place d up lt = absurd (omega arith)
rises_from least (image ∷ images) zero d up lt = leb-true least image.page (both (leb least image.page) _ up).0
rises_from least (image ∷ images) (suc place) d up lt =
    let parts = both (leb least image.page) (rises (image.page + 1) (pages_of images)) up in
    omega (arith, leb-true least image.page parts.0, rises_from (image.page + 1) images place d parts.1 (omega (arith, lt)))

-- no page falls
ordered : (least : ℕ) (images : List PageImage) (i j : ℕ) (d : PageImage) → rises least (pages_of images) ≡ true → i ≤ j → j < length images → (get_or images i d).page ≤ (get_or images j d).page
ordered least [] i j d up le lt = absurd (omega arith)
ordered least (image ∷ images) zero zero d up le lt = omega arith
ordered least (image ∷ images) zero (suc j) d up le lt =
    let parts = both (leb least image.page) (rises (image.page + 1) (pages_of images)) up in
    omega (arith, rises_from (image.page + 1) images j d parts.1 (omega (arith, lt)))
ordered least (image ∷ images) (suc i) zero d up le lt = absurd (omega arith)
ordered least (image ∷ images) (suc i) (suc j) d up le lt =
    let parts = both (leb least image.page) (rises (image.page + 1) (pages_of images)) up in
    ordered (image.page + 1) images i j d parts.1 (omega (arith, le)) (omega (arith, lt))

pub parted : (page : ℕ) (images : List PageImage) → rises 0 (pages_of images) ≡ true → IsPartitionedBy (λ (image : PageImage). ltb image.page page) images
parted page images up i j d le lt below = lt-ltb _ _ (omega (arith, ordered 0 images i j d up le lt, ltb-true _ _ below))

-- an edit of a page that is there takes the place of its edit
edit_set : (image : PageImage) (images : List PageImage) (place : ℕ) (d : PageImage) → ((k : ℕ) → k < place → (get_or images k d).page < image.page) → place < length images → (get_or images place d).page ≡ image.page
    → with_edit image images ≡ set images place image
edit_set image [] place d below lt is = absurd (omega arith)
edit_set image (other ∷ images) zero d below lt is = go (ltb other.page image.page) refl (eqb image.page other.page) refl where
  go : (b : Bool) → ltb other.page image.page ≡ b → (c : Bool) → eqb image.page other.page ≡ c → cond b (other ∷ with_edit image images) (cond c (image ∷ images) (image ∷ other ∷ images)) ≡ image ∷ images
  go true e c f = absurd (omega (arith, is, ltb-true _ _ e))
  go false e true f = refl
  go false e false f = absurd (eqb-false _ _ f (sym is))
edit_set image (other ∷ images) (suc place) d below lt is =
    go (ltb other.page image.page) (lt-ltb _ _ (below 0 (omega arith))) (edit_set image images place d (λ k less. below (suc k) (omega (arith, less))) (omega (arith, lt)) is) where
      go : (b : Bool) → b ≡ true → with_edit image images ≡ set images place image → cond b (other ∷ with_edit image images) (cond (eqb image.page other.page) (image ∷ images) (image ∷ other ∷ images)) ≡ other ∷ set images place image
      go true e again = ap (λ (l : List PageImage). other ∷ l) again
      go false e again = absurd cc

-- an edit of another page goes to its place
edit_insert : (image : PageImage) (images : List PageImage) (place : ℕ) (d : PageImage) → ((k : ℕ) → k < place → (get_or images k d).page < image.page) → place ≤ length images
    → (place < length images → image.page < (get_or images place d).page) → with_edit image images ≡ insert images place image
edit_insert image [] zero d below le over = refl
edit_insert image [] (suc place) d below le over = absurd (omega arith)
edit_insert image (other ∷ images) zero d below le over = go (ltb other.page image.page) refl (eqb image.page other.page) refl where
  go : (b : Bool) → ltb other.page image.page ≡ b → (c : Bool) → eqb image.page other.page ≡ c → cond b (other ∷ with_edit image images) (cond c (image ∷ images) (image ∷ other ∷ images)) ≡ image ∷ other ∷ images
  go true e c f = absurd (omega (arith, over (omega arith), ltb-true _ _ e))
  go false e true f = absurd (omega (arith, over (omega arith), eqb-true _ _ f))
  go false e false f = refl
edit_insert image (other ∷ images) (suc place) d below le over =
    go (ltb other.page image.page) (lt-ltb _ _ (below 0 (omega arith)))
    (edit_insert image images place d (λ k less. below (suc k) (omega (arith, less))) (omega (arith, le)) (λ lt. over (omega (arith, lt)))) where
      go : (b : Bool) → b ≡ true → with_edit image images ≡ insert images place image
          → cond b (other ∷ with_edit image images) (cond (eqb image.page other.page) (image ∷ images) (image ∷ other ∷ images)) ≡ insert (other ∷ images) (suc place) image
      go true e again = ap (λ (l : List PageImage). other ∷ l) again
      go false e again = absurd cc

pub edit_there : (image : PageImage) (images : List PageImage) (place : ℕ) → IsThere image.page images place → with_edit image images ≡ set images place image
edit_there image images place at = edit_set image images place image (λ k lt. at.below k image lt) at.inside (at.is image)

pub edit_goes : (image : PageImage) (images : List PageImage) (place : ℕ) → GoesTo image.page images place → with_edit image images ≡ insert images place image
edit_goes image images place at = edit_insert image images place image (λ k lt. at.below k image lt) at.inside (at.above image)

pub edit_rises : (least : ℕ) (image : PageImage) (images : List PageImage) → rises least (pages_of images) ≡ true → least ≤ image.page → rises least (pages_of (with_edit image images)) ≡ true
edit_rises least image [] up le = joined (leb least image.page) true (le-leb _ _ le) refl
edit_rises least image (other ∷ images) up le = go (ltb other.page image.page) refl (eqb image.page other.page) refl (edit_rises (other.page + 1) image images parts.1) where
  parts : (leb least other.page ≡ true) × (rises (other.page + 1) (pages_of images) ≡ true)
  parts = both (leb least other.page) (rises (other.page + 1) (pages_of images)) up

  go : (b : Bool) → ltb other.page image.page ≡ b → (c : Bool) → eqb image.page other.page ≡ c
      → (other.page + 1 ≤ image.page → rises (other.page + 1) (pages_of (with_edit image images)) ≡ true)
      → rises least (pages_of (cond b (other ∷ with_edit image images) (cond c (image ∷ images) (image ∷ other ∷ images)))) ≡ true
  go true e c f again = joined (leb least other.page) _ parts.0 (again (omega (arith, ltb-true _ _ e)))
  go false e true f again = joined (leb least image.page) _ (le-leb _ _ le) (subst (λ (n : ℕ). rises (n + 1) (pages_of images) ≡ true) (sym (eqb-true _ _ f)) parts.1)
  go false e false f again =
      joined (leb least image.page) _ (le-leb _ _ le)
      (joined (leb (image.page + 1) other.page) _ (le-leb _ _ (grind (arith, nat_tests, e, f))) parts.1)

or_swap : (a b c : Bool) → a || (b || c) ≡ b || (a || c)
or_swap true true c = refl
or_swap true false c = refl
or_swap false b c = refl

or_same : (a b : Bool) → a || b ≡ a || (a || b)
or_same true b = refl
or_same false b = refl

-- the pages of the edits with one more
pub edit_among : (page : ℕ) (image : PageImage) (images : List PageImage) → is_among page (pages_of (with_edit image images)) ≡ eqb image.page page || is_among page (pages_of images)
edit_among page image [] = refl
edit_among page image (other ∷ images) = go (ltb other.page image.page) (eqb image.page other.page) refl (edit_among page image images) where
  go : (b : Bool) → (c : Bool) → eqb image.page other.page ≡ c → is_among page (pages_of (with_edit image images)) ≡ eqb image.page page || is_among page (pages_of images)
      → is_among page (pages_of (cond b (other ∷ with_edit image images) (cond c (image ∷ images) (image ∷ other ∷ images)))) ≡ eqb image.page page || (eqb other.page page || is_among page (pages_of images))
  go true c f again = ap (λ (b : Bool). eqb other.page page || b) again ∙ or_swap (eqb other.page page) (eqb image.page page) (is_among page (pages_of images))
  go false true f again =
      or_same (eqb image.page page) (is_among page (pages_of images))
      ∙ ap (λ (n : ℕ). eqb image.page page || (eqb n page || is_among page (pages_of images))) (eqb-true _ _ f)
  go false false f again = refl

pub edit_length : (image : PageImage) (images : List PageImage) → length (with_edit image images) ≤ length images + 1
edit_length image [] = omega arith
edit_length image (other ∷ images) = go (ltb other.page image.page) (eqb image.page other.page) (edit_length image images) where
  go : (b c : Bool) → length (with_edit image images) ≤ length images + 1 → length (cond b (other ∷ with_edit image images) (cond c (image ∷ images) (image ∷ other ∷ images))) ≤ length (other ∷ images) + 1
  go true c again = omega (arith, again)
  go false true again = omega arith
  go false false again = omega arith

apart : (page : ℕ) (images : List PageImage) → ((place : ℕ) (d : PageImage) → place < length images → (get_or images place d).page ≡ page → ⊥) → is_among page (pages_of images) ≡ false
apart page [] none = refl
apart page (image ∷ images) none = go (eqb image.page page) refl (apart page images (λ place d lt. none (suc place) d (omega (arith, lt)))) where
  go : (b : Bool) → eqb image.page page ≡ b → is_among page (pages_of images) ≡ false → b || is_among page (pages_of images) ≡ false
  go true e again = absurd (none 0 image (omega arith) (eqb-true image.page page e))
  go false e again = again

among_at : (page : ℕ) (images : List PageImage) (place : ℕ) (d : PageImage) → place < length images → (get_or images place d).page ≡ page → is_among page (pages_of images) ≡ true
among_at page [] place d lt is = absurd (omega arith)
among_at page (image ∷ images) zero d lt is = ap (λ (b : Bool). b || is_among page (pages_of images)) (eq-eqb image.page page is)
among_at page (image ∷ images) (suc place) d lt is = go (eqb image.page page) (among_at page images place d (omega (arith, lt)) is) where
  go : (b : Bool) → is_among page (pages_of images) ≡ true → b || is_among page (pages_of images) ≡ true
  go true again = refl
  go false again = again

pub there_among : (page : ℕ) (images : List PageImage) (place : ℕ) → IsThere page images place → is_among page (pages_of images) ≡ true
there_among page images place at = among_at page images place (image_of page) at.inside (at.is (image_of page))

pub goes_apart : (page : ℕ) (images : List PageImage) (place : ℕ) → rises 0 (pages_of images) ≡ true → GoesTo page images place → is_among page (pages_of images) ≡ false
goes_apart page images place up at = apart page images (λ other d lt is. go other d lt is (cases_lt other place)) where
  go : (other : ℕ) (d : PageImage) → other < length images → (get_or images other d).page ≡ page → (other < place) ⊎ (place ≤ other) → ⊥
  go other d lt is (inl less) = omega (arith, is, at.below other d less)
  go other d lt is (inr le) = omega (arith, is, at.above d (omega (arith, le, lt)), ordered 0 images place other d up le lt)

own_none : (page : ℕ) (images : List PageImage) → is_among page (pages_of images) ≡ false → own_edit page images ≡ None
own_none page [] e = refl
own_none page (image ∷ images) e = go (eqb image.page page) e (own_none page images) where
  go : (b : Bool) → b || is_among page (pages_of images) ≡ false → (is_among page (pages_of images) ≡ false → own_edit page images ≡ None) → cond b (Some image.bytes) (own_edit page images) ≡ None
  go true e again = absurd cc
  go false e again = again e

pub own_apart : (page : ℕ) (images : List PageImage) (place : ℕ) → rises 0 (pages_of images) ≡ true → GoesTo page images place → own_edit page images ≡ None
own_apart page images place up at = own_none page images (goes_apart page images place up at)

own_at : (page : ℕ) (images : List PageImage) (place : ℕ) (d : PageImage) → ((other : ℕ) → other < place → (get_or images other d).page < page) → place < length images → (get_or images place d).page ≡ page
    → own_edit page images ≡ Some (get_or images place d).bytes
own_at page [] place d below lt is = absurd (omega arith)
own_at page (image ∷ images) zero d below lt is = ap (λ (b : Bool). cond b (Some image.bytes) (own_edit page images)) (eq-eqb image.page page is)
own_at page (image ∷ images) (suc place) d below lt is =
    go (eqb image.page page) refl (own_at page images place d (λ other less. below (suc other) (omega (arith, less))) (omega (arith, lt)) is) where
      go : (b : Bool) → eqb image.page page ≡ b → own_edit page images ≡ Some (get_or images place d).bytes → cond b (Some image.bytes) (own_edit page images) ≡ Some (get_or images place d).bytes
      go true e again = absurd (omega (arith, below 0 (omega arith), eqb-true image.page page e))
      go false e again = again

pub own_there : (page : ℕ) (images : List PageImage) (place : ℕ) (d : PageImage) → rises 0 (pages_of images) ≡ true → IsThere page images place → own_edit page images ≡ Some (get_or images place d).bytes
own_there page images place d up at = own_at page images place d (λ other lt. at.below other d lt) at.inside (at.is d)
