-- The pages and numbers of captures as a set.
use Rattle.std.proofs.Common.{◌≡◌, ◌⊎◌, inl, inr, ◌∙◌, ◌+◌, ◌<◌, ◌≤◌, ◌&&◌, ◌||◌, ℕ, suc, zero, Bool, true, false, cond, eqb, ltb, List, [], ◌∷◌, ◌++◌, length, length-append, get_or, refl, sym, ap, arith}
use Rattle.std.proofs.lemmas.Bool.{both_ways, eqb-true, eq-eqb, ne_eqb, ltb-true, ltb-false, le-ltb}
use Rattle.std.proofs.lemmas.List.{length-map, map-append}
use Rattle.std.specs.declared.cmp.Ordering.TheVariants.{Less, Equal, Greater}
use Rattle.std.specs.Ordering.{is_eq, is_gt, ordering_then}
use Rattle.std.specs.BTreeSet.{BTreeSet, contains, Updates}
use Rattle.retro_base.specs.declared.limits.TheConstants.{MAX_CAPTURES}
use Rattle.history.specs.declared.writes.PageImage.{PageImage}
use Rattle.history.specs.Writes.{pages_of}
use Rattle.copy_queue.specs.Pending.{in_turn, is_at, IsIndex}

-- none is below the first, and none past the last
pub at_below : (first : ℕ) (pages : List ℕ) (page number : ℕ) → number < first → is_at first pages page number ≡ false
at_below first [] page number lt = refl
at_below first (other ∷ pages) page number lt = rw (ne_eqb first number (λ is. omega (arith, is, lt))) (at_below (first + 1) pages page number (omega (arith, lt)))

pub at_past : (first : ℕ) (pages : List ℕ) (page number : ℕ) → first + length pages ≤ number → is_at first pages page number ≡ false
at_past first [] page number le = refl
at_past first (other ∷ pages) page number le = rw (ne_eqb first number (λ is. omega (arith, is, le))) (at_past (first + 1) pages page number (omega (arith, le)))

pub at_push : (first : ℕ) (pages : List ℕ) (other page number : ℕ) → is_at first (pages ++ other ∷ []) page number ≡ (is_at first pages page number || (eqb (first + length pages) number && eqb other page))
at_push first [] other page number = go (eqb first number && eqb other page) (ap (λ n. eqb n number && eqb other page) (omega arith)) where
  go : (b : Bool) → {c : Bool} → b ≡ c → (b || false) ≡ c
  go true e = e
  go false e = e
at_push first (one ∷ pages) other page number =
    let long : (first + 1) + length pages ≡ first + length (one ∷ pages) = omega arith in
    ap (λ b. (eqb first number && eqb one page) || b) (at_push (first + 1) pages other page number ∙ ap (λ n. is_at (first + 1) pages page number || (eqb n number && eqb other page)) long)
    ∙ assoc (eqb first number && eqb one page) (is_at (first + 1) pages page number) (eqb (first + length (one ∷ pages)) number && eqb other page) where
      assoc : (a b c : Bool) → (a || (b || c)) ≡ ((a || b) || c)
      assoc true b c = refl
      assoc false b c = refl

pub at_place : (first : ℕ) (pages : List ℕ) (page place : ℕ) → place < length pages → is_at first pages page (first + place) ≡ eqb (get_or pages place 0) page
at_place first [] page place lt = absurd (omega (arith, lt))
at_place first (other ∷ pages) page zero lt = rw (eq-eqb first (first + zero) (omega arith)) (last (eqb other page) (at_below (first + 1) pages page (first + zero) (omega arith))) where
  last : (b : Bool) → {c : Bool} → c ≡ false → (b || c) ≡ b
  last true e = refl
  last false e = e
at_place first (other ∷ pages) page (suc place) lt =
    rw (ne_eqb first (first + suc place) (λ is. omega (arith, is))) (ap (λ n. is_at (first + 1) pages page n) (omega arith) ∙ at_place (first + 1) pages page place (omega (arith, lt)))

-- two places compare equal where their parts do
pub same_place : (page number other place : ℕ) → is_eq (in_turn (page, number) (other, place)) ≡ (eqb number place && eqb page other)
same_place page number other place = go (ltb page other) (eqb page other) (ltb number place) (eqb number place) (λ lt. ne_eqb page other (λ is. omega (arith, is, ltb-true page other lt))) (λ lt. ne_eqb number place (λ is. omega (arith, is, ltb-true number place lt))) where
  go : (x y z w : Bool) → (x ≡ true → y ≡ false) → (z ≡ true → w ≡ false) → is_eq (ordering_then (cond x Less (cond y Equal Greater)) (cond z Less (cond w Equal Greater))) ≡ (w && y)
  go true y z w ny nw = sym (ap (λ b. w && b) (ny refl) ∙ no w) where
    no : (b : Bool) → (b && false) ≡ false
    no true = refl
    no false = refl
  go false false z true ny nw = refl
  go false false z false ny nw = refl
  go false true true w ny nw = sym (ap (λ b. b && true) (nw refl))
  go false true false true ny nw = refl
  go false true false false ny nw = refl

-- a place that is not before one of a page is of a page behind it, or of the page and not before it
pub not_before : (page number other place : ℕ) → is_gt (in_turn (page, number) (other, place)) ≡ false → (page < other) ⊎ ((page ≡ other) × (number ≤ place))
not_before page number other place h = go (ltb page other) refl (eqb page other) refl (ltb number place) refl (eqb number place) refl h where
  go : (x : Bool) → ltb page other ≡ x → (y : Bool) → eqb page other ≡ y → (z : Bool) → ltb number place ≡ z → (w : Bool) → eqb number place ≡ w → is_gt (ordering_then (cond x Less (cond y Equal Greater)) (cond z Less (cond w Equal Greater))) ≡ false → (page < other) ⊎ ((page ≡ other) × (number ≤ place))
  go true xs y ys z zs w ws is = inl (ltb-true page other xs)
  go false xs false ys z zs w ws is = absurd (both_ways true is refl)
  go false xs true ys true zs w ws is = inr (eqb-true page other ys, omega (arith, ltb-true number place zs))
  go false xs true ys false zs true ws is = inr (eqb-true page other ys, omega (arith, eqb-true number place ws))
  go false xs true ys false zs false ws is = absurd (both_ways true is refl)

pub in_order : (page number place : ℕ) → number ≤ place → is_gt (in_turn (page, number) (page, place)) ≡ false
in_order page number place le = rw (le-ltb page page (omega arith), eq-eqb page page refl) (go (ltb number place) refl) where
  go : (z : Bool) → ltb number place ≡ z → is_gt (cond z Less (cond (eqb number place) Equal Greater)) ≡ false
  go true e = refl
  go false e = rw (eq-eqb number place (omega (arith, le, ltb-false number place e))) refl

pages_push : (images : List PageImage) (image : PageImage) → pages_of (images ++ image ∷ []) ≡ pages_of images ++ image.page ∷ []
pages_push images image = map-append (λ (i : PageImage). i.page) images (image ∷ [])

pages_long : (images : List PageImage) → length (pages_of images) ≡ length images
pages_long images = length-map images (λ (i : PageImage). i.page)

either : (a b : Bool) → cond a true b ≡ (b || a)
either true true = refl
either true false = refl
either false true = refl
either false false = refl

or_none : (b : Bool) → (b || false) ≡ b
or_none true = refl
or_none false = refl

module _ (first : ℕ) (s t : BTreeSet (ℕ × ℕ)) where
  -- one capture more
  pub index_push : (images : List PageImage) (image : PageImage) (number : ℕ) → IsIndex first images s → number ≡ first + length images → Updates in_turn s t (image.page, number) true → number < MAX_CAPTURES → IsIndex first (images ++ image ∷ []) t
  index_push images image number index is updates lt = record {
    has = λ page place.
        updates.0 (page, place)
        ∙ ap (λ b. cond b true (contains in_turn s (page, place))) (same_place image.page number page place)
        ∙ either (eqb number place && eqb image.page page) (contains in_turn s (page, place))
        ∙ ap (λ b. b || (eqb number place && eqb image.page page)) (index.has page place)
        ∙ ap (λ n. is_at first (pages_of images) page place || (eqb n place && eqb image.page page)) (is ∙ ap (λ n. first + n) (sym (pages_long images)))
        ∙ sym (at_push first (pages_of images) image.page page place)
        ∙ ap (λ ps. is_at first ps page place) (sym (pages_push images image));
    fits = omega (arith, is, lt, length-append images (image ∷ []));
  }

  -- without the last capture
  pub index_back : (images : List PageImage) (image : PageImage) (number : ℕ) → IsIndex first (images ++ image ∷ []) s → number ≡ first + length images → Updates in_turn s t (image.page, number) false → IsIndex first images t
  index_back images image number index is updates = record {
    has = λ page place.
        updates.0 (page, place)
        ∙ ap (λ b. cond b false (contains in_turn s (page, place))) (same_place image.page number page place)
        ∙ ap (λ b. cond (eqb number place && eqb image.page page) false b) (index.has page place ∙ ap (λ ps. is_at first ps page place) (pages_push images image) ∙ at_push first (pages_of images) image.page page place ∙ ap (λ n. is_at first (pages_of images) page place || (eqb n place && eqb image.page page)) (ap (λ n. first + n) (pages_long images) ∙ sym is))
        ∙ go page place (eqb number place) refl (eqb image.page page);
    fits = omega (arith, index.fits, length-append images (image ∷ []));
  } where
    go : (page place : ℕ) (a : Bool) → eqb number place ≡ a → (b : Bool) → cond (a && b) false (is_at first (pages_of images) page place || (a && b)) ≡ is_at first (pages_of images) page place
    go page place false e b = or_none (is_at first (pages_of images) page place)
    go page place true e false = or_none (is_at first (pages_of images) page place)
    go page place true e true = sym (at_past first (pages_of images) page place (omega (arith, is, pages_long images, eqb-true number place e)))

  -- without the first capture
  pub index_front : (images : List PageImage) (image : PageImage) → IsIndex first (image ∷ images) s → Updates in_turn s t (image.page, first) false → IsIndex (first + 1) images t
  index_front images image index updates = record {
    has = λ page place.
        updates.0 (page, place)
        ∙ ap (λ b. cond b false (contains in_turn s (page, place))) (same_place image.page first page place)
        ∙ ap (λ b. cond (eqb first place && eqb image.page page) false b) (index.has page place)
        ∙ go page place (eqb first place) refl (eqb image.page page);
    fits = omega (arith, index.fits);
  } where
    go : (page place : ℕ) (a : Bool) → eqb first place ≡ a → (b : Bool) → cond (a && b) false ((a && b) || is_at (first + 1) (pages_of images) page place) ≡ is_at (first + 1) (pages_of images) page place
    go page place false e b = refl
    go page place true e false = refl
    go page place true e true = sym (at_below (first + 1) (pages_of images) page place (omega (arith, eqb-true first place e)))
