-- The present moment among those of a past.
use Rattle.std.specs.Prelude.{ℕ, List, [], ◌∷◌, length}
use mathlib.Core.Logic.{inl, inr}
use Rattle.std.specs.Cmp.{below_irrefl}
use Rattle.disk_model.specs.Disk.{IsImage}
use Rattle.disk_mem.specs.History.{Past, state_of, LeftAfter, LeftSince}
use Rattle.disk_mem.specs.declared.recording.Event.{Event}

now_counts_after : (first : List ℕ) (steps : List Event) (since : ℕ) (image : List ℕ)
    → IsImage (state_of (record { first = first; steps = steps })) image → LeftAfter first steps since image
now_counts_after first [] since image is = is
now_counts_after first (step ∷ before) since image is = inl is

-- it is one of them
pub now_counts : (past : Past) (since : ℕ) (image : List ℕ) → IsImage (state_of past) image → LeftSince past since image
now_counts past since image is = now_counts_after past.first past.steps since image is

only_now_after : (first : List ℕ) (steps : List Event) (image : List ℕ)
    → LeftAfter first steps (length steps) image → IsImage (state_of (record { first = first; steps = steps })) image
only_now_after first [] image left = left
only_now_after first (step ∷ before) image (inl is) = is
only_now_after first (step ∷ before) image (inr (enough, _)) = absurd (below_irrefl (length before) enough)

-- since the present moment there is no other
pub only_now : (past : Past) (image : List ℕ) → LeftSince past (length past.steps) image → IsImage (state_of past) image
only_now past image left = only_now_after past.first past.steps image left
