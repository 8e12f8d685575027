use Rattle.race_model.proofs.Covering.{failures_cover}
use Rattle.race_model.proofs.laws.a_failing_covers_its_call.Goals as goal

pub returns : goal.returns
returns c = failures_cover
