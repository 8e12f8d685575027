use Rattle.txn_set.proofs.Drops.{drops_stay_sound}
use Rattle.txn_set.proofs.laws.law_of_drops.Goals as goal

pub returns : goal.returns
returns c = drops_stay_sound
