-- Images of a device.
use Rattle.std.proofs.Common.{◌≡◌, ◌∙◌, ℕ, List, length, get_or, refl, ap}
use Rattle.std.proofs.lemmas.Grind.{same_number_lists}
use Rattle.disk_model.specs.Disk.{State, IsImage, IsDurable}

-- what a device reads is one of its images
pub image-seen : (state : State) → IsImage state state.seen
image-seen state = record { size = refl; kept = λ i out. refl }

-- and the only one where nothing is loose
pub image-durable : (state : State) (image : List ℕ) → IsDurable state → IsImage state image → image ≡ state.seen
image-durable state image durable is = same_number_lists image state.seen is.size (λ i lt. is.kept i (durable i))

-- an image of a device that reads the same as another, with no more loose places, is one of the other
pub image-same : (old new : State) → new.seen ≡ old.seen → ((i : ℕ) → new.is_loose i → old.is_loose i) → (image : List ℕ) → IsImage new image → IsImage old image
image-same old new same fewer image is = record {
  size = is.size ∙ ap length same;
  kept = λ i out. is.kept i (λ l. out (fewer i l)) ∙ ap (λ (l : List ℕ). get_or l i 0) same;
}
