use Rattle.race_model.proofs.Keeps.{step_keeps}
use Rattle.race_model.proofs.Reopens.{made_fits, opened_fits, read_fits, lives_keep}
use Rattle.race_model.proofs.laws.steps_keep.Goals as goal

pub returns : goal.returns
returns c = record { made = made_fits; opened = opened_fits; read = read_fits; steps = step_keeps; lives = lives_keep }
