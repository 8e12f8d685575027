use Rattle.tables.proofs.Keeping.{tables_stay_sound}
use Rattle.tables.proofs.laws.tables_stay_sound.Goals as goal

pub returns : goal.returns
returns c = tables_stay_sound
