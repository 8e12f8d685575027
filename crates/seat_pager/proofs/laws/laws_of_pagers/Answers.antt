use Rattle.seat_pager.proofs.Suffice.{nothing_is_kept, overlaps_stay, shown_as_of, shown_at_began}
use Rattle.seat_pager.proofs.laws.laws_of_pagers.Goals as goal

pub returns : goal.returns
returns c = record { begun = nothing_is_kept; overlaps = overlaps_stay; began = shown_at_began; as_of = shown_as_of }
