use Rattle.history.proofs.BaseStays.{stays_right}
use Rattle.history.proofs.laws.right_bases_stay.Goals as goal

pub returns : goal.returns
returns c = stays_right
