-- Pages released one by one.
use Rattle.std.proofs.Common.{◌≡◌, ◌∙◌, ◌≤◌, ◌<◌, ◌+◌, ◌&&◌, ◌||◌, not, ℕ, Bool, true, false, eqb, get_or, List, ◌∷◌, length, drop, refl, sym, ap}
use Rattle.std.proofs.lemmas.List.{drop_all, drop_more}
use Rattle.history.specs.declared.writes.PageImage.{PageImage}
use Rattle.history.specs.Writes.{is_among, pages_of}

both : (a b r : Bool) → (a && not b) && not r ≡ a && not (b || r)
both true true r = refl
both true false r = refl
both false b r = refl

as_it_is : (b : Bool) → b && true ≡ b
as_it_is true = refl
as_it_is false = refl

pub released_more : (images : List PageImage) (i page : ℕ) (image : PageImage) (before new total : Bool) → i < length images → image ≡ get_or images i image → new ≡ (before && not (eqb image.page page))
    → (before && not (is_among page (pages_of (drop i images)))) ≡ total → (new && not (is_among page (pages_of (drop (i + 1) images)))) ≡ total
released_more images i page image before new total lt is one so_far =
    ap (λ (b : Bool). b && not (is_among page (pages_of (drop (i + 1) images)))) one
    ∙ both before (eqb image.page page) (is_among page (pages_of (drop (i + 1) images)))
    ∙ ap (λ (l : List PageImage). before && not (is_among page (pages_of l))) (ap (λ (w : PageImage). w ∷ drop (i + 1) images) is ∙ sym (drop_more images i image lt))
    ∙ so_far

pub released_all : (images : List PageImage) (i page : ℕ) (now total : Bool) → length images ≤ i → (now && not (is_among page (pages_of (drop i images)))) ≡ total → now ≡ total
released_all images i page now total past so_far =
    sym (as_it_is now) ∙ ap (λ (l : List PageImage). now && not (is_among page (pages_of l))) (sym (drop_all i images past)) ∙ so_far
