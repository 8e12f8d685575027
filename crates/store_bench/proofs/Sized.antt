-- The pages of the store that a seat sits at.
use Rattle.std.proofs.Common.{◌≡◌, ◌<◌, ℕ, Option, None, Some, IfSome, refl, sym, subst, ◌∙◌}
use Rattle.turn.specs.Seats.{IsSame, opening}
use Rattle.store.specs.Seats.{IsPage, IsSized, Sat}

pub sized_on : {D : Type 0} (pages : ℕ) (old new : Sat D) → IsSame old new → IsSized pages old → IsSized pages new
sized_on pages old new same sized start is = sized start (sym same.opening ∙ is)

in_some : {X : Type 0} (P : X → Type 0) (o : Option X) → ((x : X) → o ≡ Some x → P x) → IfSome o P
in_some P None each = tt
in_some P (Some x) each = each x refl

pub page_in : {D : Type 0} (pages page : ℕ) (s : Sat D) → IsSized pages s → page < pages → IsPage s page
page_in pages page s sized less = in_some _ (opening s) (λ start is. subst (λ n. page < n) (sized start is) less)
