use Rattle.race_model.proofs.Apart.{trim_leaves}
use Rattle.race_model.proofs.Sending.{batches_fit}
use Rattle.race_model.proofs.laws.batches_go_between.Goals as goal

pub returns : goal.returns
returns c = record { batches = batches_fit; trim = trim_leaves }
