use Rattle.retro.proofs.Ends.{statuses_of_load_tell_causes}
use Rattle.retro.proofs.laws.statuses_of_load_tell_causes.Goals as goal

pub returns : goal.returns
returns c = statuses_of_load_tell_causes
