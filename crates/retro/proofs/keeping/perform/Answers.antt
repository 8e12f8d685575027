use Rattle.std.proofs.Common.{Err, inl, inr, refl}
use Rattle.retro.proofs.Refused.{handed_none, ran_none}
use Rattle.retro.proofs.keeping.perform.Goals as goal

pub returns-in-Err-clause-runs : goal.returns-in-Err-clause-runs
returns-in-Err-clause-runs g c = record {
  asked = Err c.in-Err.why;
  is_asked = c.in-Err.ensures.asked;
  runs = (refl, c.refuse.ensures.refused);
}
