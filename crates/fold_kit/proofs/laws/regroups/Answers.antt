use Rattle.fold_kit.proofs.Regrouping.{regroups}
use Rattle.fold_kit.proofs.laws.regroups.Goals as goal

pub returns : goal.returns
returns c = regroups
