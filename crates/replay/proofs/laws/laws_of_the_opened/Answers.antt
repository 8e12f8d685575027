use Rattle.replay.proofs.Belonging.{opened_is_consistent}
use Rattle.replay.proofs.Past.{past_by_first_capture}
use Rattle.replay.proofs.laws.laws_of_the_opened.Goals as goal

pub returns : goal.returns
returns c = record { consistent = opened_is_consistent; past = past_by_first_capture }
