use Rattle.tables.proofs.Following.{others_stay}
use Rattle.tables.proofs.laws.others_stay.Goals as goal

pub returns : goal.returns
returns c = others_stay
