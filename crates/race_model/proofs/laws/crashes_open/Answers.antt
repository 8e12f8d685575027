use Rattle.race_model.proofs.Covering.{maplog_in_version}
use Rattle.race_model.proofs.Keeps.{images_open}
use Rattle.race_model.proofs.Readings.{same_past}
use Rattle.race_model.proofs.Reopens.{both_at_once, lives_open}
use Rattle.race_model.proofs.laws.crashes_open.Goals as goal

pub returns : goal.returns
returns c = record { images = images_open; maplog = maplog_in_version; lives = lives_open; at_once = both_at_once; past = same_past }
