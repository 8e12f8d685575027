use Rattle.std.proofs.Common.{inl, inr}
use Rattle.retro.proofs.Refused.{handed_none, looked_none}
use Rattle.retro.proofs.showing.show.Goals as goal

pub refuse-status-requires : goal.refuse-status-requires
refuse-status-requires g c = elim c.in-Err.ensures [ inl none ↦ handed_none none | inr looked ↦ looked_none looked.4 ]
